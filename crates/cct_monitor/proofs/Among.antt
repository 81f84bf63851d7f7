-- Each span of each watched acceptor is said once, among all that is said of the watched devices; and what is said at the end
-- are spans in doubt.
use Rattle.std.proofs.Common.{◌≡◌, ◌⊎◌, inl, inr, ℕ, suc, ◌^◌, ◌==◌, ◌&&◌, ◌||◌, nat_le, Bool, true, false, cond, List, [], ◌∷◌, ◌++◌, map, filter, flat_map, length, reverse, refl, ap, ap₂, sym, ◌∙◌, subst, append-nil, All, Option, Some, None, arith}
use Rattle.std.specs.Prelude.{⊤}
use Rattle.std.specs.List.{list_any}
use Rattle.std.proofs.lemmas.Bool.Decides.{nat_tests}
use Rattle.std.proofs.lemmas.List.Elements.{All-append, All-cons, All-head, All-nil, All-tail, filter-append}
use Rattle.cct_audit_taps.specs.declared.said.Said.{Said}
use Rattle.cct_audit_taps.specs.declared.said.Said.TheVariants.{Sure, Quiet, Doubt, Fell, Broken}
use Rattle.cct_audit_taps.specs.declared.shown.Shown.{Shown}
use Rattle.cct_audit_taps.specs.declared.shown.Shown.TheVariants.{Read, Masked, Set, Nothing}
use Rattle.cct_monitor.specs.declared.hopper.LastLife.{LastLife}
use Rattle.cct_audit_taps.specs.declared.money.Money.{Money}
use Rattle.cct_monitor.specs.declared.watched.Family.{Family}
use Rattle.cct_monitor.specs.declared.watched.Family.TheVariants as family
use Rattle.cct_monitor.specs.Lives.{fell_at, fell_by, last_life}
use Rattle.cct_monitor.specs.Once.{all_quietly, all_said, is_between, is_of, is_of_at}
use Rattle.cct_monitor.specs.Spans.{Span, coins_of, doubted, is_whole, last_reading, quiet_at, quietly, refused, said_at, said_last, spans, spans_by, surely, turned, waits}
use Rattle.cct_model.specs.terms.coin.Credits.{Credits}
use Rattle.cct_audit_taps.specs.declared.signs.KnownMask.{KnownMask}
use Rattle.cct_audit_taps.specs.declared.signs.Sign.{Sign}
use Rattle.cct_audit_taps.specs.declared.signs.Sign.TheVariants as signs
use Rattle.cct_audit_taps.specs.Signs.{broken_buffer, broken_by, broken_reset, is_credit, is_event, known_after, sign}
use Rattle.cct_audit_taps.specs.declared.deeds.Deed.{Deed}
use Rattle.cct_audit_taps.specs.declared.deeds.Deed.TheVariants as deeds
use Rattle.cct_audit_taps.specs.declared.hoppers.KnownHopper.{KnownHopper}
use Rattle.cct_audit_taps.specs.declared.hoppers.KnownCounter.{KnownCounter}
use Rattle.cct_audit_taps.specs.declared.hoppers.KnownLife.{KnownLife}
use Rattle.cct_audit_taps.specs.declared.hoppers.KnownSerial.{KnownSerial}
use Rattle.cct_audit_taps.specs.Deeds.{broken_counter, broken_enable, broken_life, broken_serial, counter_fits, deed, hopper_after, hopper_broken_by, rise_fits}
use Rattle.cct_model.specs.Order.{life_between}
use Rattle.cct_audit_taps.specs.Taps.{Tap, life_shown, quiet_shown, shown}
use Rattle.cct_monitor.specs.Watches.{Account, Came, Watch, accounts, all_told, by_address, deeds_of, finally_by, finally_of, finally_of_all, from_begin, lives_of, looks_of, made_tap, made_watch, put_watch, quiet_looks_of, signs_of, said_by, said_of, said_of_all}
use Rattle.cct_monitor.proofs.Captures.{from_the_begin}
use Rattle.cct_monitor.proofs.Once.{quietly_once, said_once}

-- what is said names the address
addr_of : Said → ℕ
addr_of (Sure a f l coins) = a
addr_of (Quiet a f l coins) = a
addr_of (Doubt a f l) = a
addr_of (Fell a f l count) = a
addr_of (Broken a premise f l) = a

abbrev NamesAll : ℕ → List Said → Type 0
NamesAll addr xs = All (λ x. addr_of x ≡ addr) xs

no_names : (addr : ℕ) → NamesAll addr []
no_names addr = All-nil (λ x. addr_of x ≡ addr)

one_names : (addr : ℕ) (x : Said) → addr_of x ≡ addr → NamesAll addr (x ∷ [])
one_names addr x is = All-cons (λ y. addr_of y ≡ addr) x [] is (no_names addr)

both_name : (addr : ℕ) (xs ys : List Said) → NamesAll addr xs → NamesAll addr ys → NamesAll addr (xs ++ ys)
both_name addr xs ys = All-append (λ x. addr_of x ≡ addr) xs ys

turned_names : (addr : ℕ) (s : Shown) (x : Span) → NamesAll addr (turned addr s x)
unfolding addr_of
turned_names addr (Read c) x = one_names addr (doubted addr x) refl
turned_names addr (Masked mask) x = by_test (mask == 0)
  where
    by_test : (b : Bool) → NamesAll addr (cond b [] (surely addr x ∷ []))
    by_test true = no_names addr
    by_test false = one_names addr (surely addr x) refl
turned_names addr Set x = one_names addr (doubted addr x) refl
turned_names addr Nothing x = no_names addr

refused_names : (addr : ℕ) (x : Span) → NamesAll addr (refused addr x)
unfolding addr_of
refused_names addr x = by_test (is_whole x)
  where
    by_test : (b : Bool) → NamesAll addr (cond b [] (doubted addr x ∷ []))
    by_test true = no_names addr
    by_test false = one_names addr (doubted addr x) refl

all_name : (addr : ℕ) (g : Span → List Said) (xs : List Span) → ((x : Span) → NamesAll addr (g x)) → NamesAll addr (flat_map g xs)
all_name addr g [] each = no_names addr
all_name addr g (x ∷ xs) each = both_name addr (g x) (flat_map g xs) (each x) (all_name addr g xs each)

doubts_name : (addr : ℕ) (xs : List Span) → NamesAll addr (map (doubted addr) xs)
unfolding addr_of
doubts_name addr [] = no_names addr
doubts_name addr (x ∷ xs) = both_name addr (doubted addr x ∷ []) (map (doubted addr) xs) (one_names addr (doubted addr x) refl) (doubts_name addr xs)

one_quiet : (addr : ℕ) (x : Span) → addr_of (quietly addr x) ≡ addr
unfolding addr_of
one_quiet addr x = by_test (is_whole x)
  where
    by_test : (b : Bool) → addr_of (cond b (Quiet addr x.first.number x.last.number (coins_of x)) (doubted addr x)) ≡ addr
    by_test true = refl
    by_test false = refl

quiet_name : (addr : ℕ) (xs : List Span) → NamesAll addr (map (quietly addr) xs)
quiet_name addr [] = no_names addr
quiet_name addr (x ∷ xs) =
    both_name addr (quietly addr x ∷ []) (map (quietly addr) xs) (one_names addr (quietly addr x) (one_quiet addr x))
    (quiet_name addr xs)

fell_names : (addr number : ℕ) (now : Option ℕ) (life : Option LastLife) → NamesAll addr (fell_by addr number now life)
unfolding addr_of
fell_names addr number None life = no_names addr
fell_names addr number (Some now) None = no_names addr
fell_names addr number (Some now) (Some life) = one_names addr _ refl

one_or_none : (addr : ℕ) (test : Bool) (x : Said) → addr_of x ≡ addr → NamesAll addr (cond test (x ∷ []) [])
one_or_none addr true x is = one_names addr x is
one_or_none addr false x is = no_names addr

none_or_one : (addr : ℕ) (test : Bool) (x : Said) → addr_of x ≡ addr → NamesAll addr (cond test [] (x ∷ []))
none_or_one addr true x is = no_names addr
none_or_one addr false x is = one_names addr x is

reset_names : (addr number : ℕ) (c : Credits) (known : Option KnownMask) → NamesAll addr (broken_reset addr number c known)
unfolding addr_of
reset_names addr number c None = no_names addr
reset_names addr number c (Some k) = one_or_none addr (k.is_fresh && list_any is_credit c.pairs) _ refl

broken_names : (addr number : ℕ) (s : Sign) (known : Option KnownMask) → NamesAll addr (broken_by addr number s known)
unfolding addr_of
broken_names addr number (signs.Events c) known =
    both_name addr (broken_buffer addr number c) (broken_reset addr number c known)
    (one_or_none addr ((c.counter == 0) && list_any is_event c.pairs) _ refl) (reset_names addr number c known)
broken_names addr number (signs.Mask mask) None = no_names addr
broken_names addr number (signs.Mask mask) (Some k) = none_or_one addr ((mask == 0) || (mask == k.mask)) _ refl
broken_names addr number (signs.MaskTaken mask) known = no_names addr
broken_names addr number signs.MaskLost known = no_names addr
broken_names addr number signs.ResetTaken known = no_names addr
broken_names addr number signs.OtherAnswers known = one_names addr _ refl
broken_names addr number signs.Nothing known = no_names addr

serial_names : (addr number serial : ℕ) (known : Option KnownSerial) → NamesAll addr (broken_serial addr number serial known)
unfolding addr_of
serial_names addr number serial None = no_names addr
serial_names addr number serial (Some k) = none_or_one addr (serial == k.serial) _ refl

enable_names : (addr number : ℕ) (shut : Option ℕ) → NamesAll addr (broken_enable addr number shut)
unfolding addr_of
enable_names addr number None = no_names addr
enable_names addr number (Some first) = one_names addr _ refl

none_or : (addr : ℕ) (test : Bool) (xs : List Said) → NamesAll addr xs → NamesAll addr (cond test [] xs)
none_or addr true xs names = no_names addr
none_or addr false xs names = names

life_names : (addr number count : ℕ) (known : Option KnownLife) → NamesAll addr (broken_life addr number count known)
unfolding addr_of
life_names addr number count None = no_names addr
life_names addr number count (Some k) =
    none_or addr (nat_le (2 ^ 24) k.most) _ (none_or_one addr (rise_fits (life_between k.count count) k) _ refl)

counter_names : (addr number counter : ℕ) (known : Option KnownCounter) → NamesAll addr (broken_counter addr number counter known)
unfolding addr_of
counter_names addr number counter None = no_names addr
counter_names addr number counter (Some k) = none_or_one addr (counter_fits counter k) _ refl

hopper_names : (addr number : ℕ) (s : Deed) (known : KnownHopper) → NamesAll addr (hopper_broken_by addr number s known)
unfolding addr_of
hopper_names addr number (deeds.Serial serial) known = serial_names addr number serial known.serial
hopper_names addr number (deeds.Dispensed serial count) known =
    both_name addr (broken_serial addr number serial known.serial) (broken_enable addr number known.shut)
    (serial_names addr number serial known.serial) (enable_names addr number known.shut)
hopper_names addr number (deeds.Life count) known = life_names addr number count known.life
hopper_names addr number deeds.Enabled known = no_names addr
hopper_names addr number deeds.Shut known = no_names addr
hopper_names addr number deeds.ResetTaken known = no_names addr
hopper_names addr number (deeds.Asked count) known = no_names addr
hopper_names addr number (deeds.Status counter left paid) known = counter_names addr number counter known.counter
hopper_names addr number deeds.OtherAnswers known = one_names addr _ refl
hopper_names addr number deeds.Nothing known = no_names addr

said_names : (t : Tap) (a : Account) → NamesAll a.watch.addr (said_of t a)
said_names t a = by_family a.watch.family
  where
    by_family : (fam : Family) → NamesAll a.watch.addr (said_by fam t a)
    by_family family.Acceptor =
        let s = shown a.watch.kind a.watch.addr t in
        let past = looks_of a in
        both_name a.watch.addr _ _
        (all_name a.watch.addr (turned a.watch.addr s) (reverse (filter waits (spans past))) (turned_names a.watch.addr s))
        (all_name a.watch.addr (refused a.watch.addr) (spans_by s (last_reading past) _) (refused_names a.watch.addr))
    by_family (family.QuietAcceptor money) =
        quiet_name a.watch.addr
        (spans_by (quiet_shown money a.watch.kind a.watch.addr t) (last_reading (quiet_looks_of money a))
        (suc (length (quiet_looks_of money a))))
    by_family (family.Premises money) =
        broken_names a.watch.addr _ (sign money a.watch.kind a.watch.addr t) (known_after (signs_of money a))
    by_family family.Hopper = fell_names a.watch.addr _ (life_shown a.watch.kind a.watch.addr t) (last_life (lives_of a))
    by_family family.HopperPremises = hopper_names a.watch.addr _ (deed a.watch.kind a.watch.addr t) (hopper_after (deeds_of a))

last_names : (a : Account) → NamesAll a.watch.addr (finally_of a)
last_names a = by_family a.watch.family
  where
    by_family : (fam : Family) → NamesAll a.watch.addr (finally_by fam a)
    by_family family.Acceptor = doubts_name a.watch.addr (reverse (filter waits (spans (looks_of a))))
    by_family (family.QuietAcceptor money) = no_names a.watch.addr
    by_family (family.Premises money) = no_names a.watch.addr
    by_family family.Hopper = no_names a.watch.addr
    by_family family.HopperPremises = no_names a.watch.addr

same_number : (n : ℕ) → (n == n) ≡ true
same_number n = by_test (n == n) refl
  where
    by_test : (b : Bool) → (n == n) ≡ b → (n == n) ≡ true
    by_test true is = is
    by_test false is = absurd (grind (arith, nat_tests))

-- of one that names the address, and of one that names another
own_test : (addr f l : ℕ) (x : Said) → addr_of x ≡ addr → is_of_at addr f l x ≡ is_of f l x
unfolding addr_of
own_test addr f l (Sure a g m coins) is = ap (λ b. b && ((g == f) && (m == l))) (ap (λ n. n == addr) is ∙ same_number addr)
own_test addr f l (Quiet a g m coins) is = ap (λ b. b && ((g == f) && (m == l))) (ap (λ n. n == addr) is ∙ same_number addr)
own_test addr f l (Doubt a g m) is = ap (λ b. b && ((g == f) && (m == l))) (ap (λ n. n == addr) is ∙ same_number addr)
own_test addr f l (Fell a g m count) is = refl
own_test addr f l (Broken a premise g m) is = refl

other_test : (addr f l other : ℕ) (x : Said) → addr_of x ≡ other → (other == addr) ≡ false → is_of_at addr f l x ≡ false
unfolding addr_of
other_test addr f l other (Sure a g m coins) is apart = ap (λ b. b && ((g == f) && (m == l))) (ap (λ n. n == addr) is ∙ apart)
other_test addr f l other (Quiet a g m coins) is apart = ap (λ b. b && ((g == f) && (m == l))) (ap (λ n. n == addr) is ∙ apart)
other_test addr f l other (Doubt a g m) is apart = ap (λ b. b && ((g == f) && (m == l))) (ap (λ n. n == addr) is ∙ apart)
other_test addr f l other (Fell a g m count) is apart = refl
other_test addr f l other (Broken a premise g m) is apart = refl

own_only : (addr f l : ℕ) (xs : List Said) → NamesAll addr xs → filter (is_of_at addr f l) xs ≡ filter (is_of f l) xs
own_only addr f l [] names = refl
own_only addr f l (x ∷ xs) names =
    ap₂ (λ b rest. cond b (x ∷ rest) rest) (own_test addr f l x (All-head (λ y. addr_of y ≡ addr) x xs names))
    (own_only addr f l xs (All-tail (λ y. addr_of y ≡ addr) x xs names))

none_other : (addr f l other : ℕ) (xs : List Said) → NamesAll other xs → (other == addr) ≡ false →
    filter (is_of_at addr f l) xs ≡ []
none_other addr f l other [] names apart = refl
none_other addr f l other (x ∷ xs) names apart =
    ap₂ (λ b rest. cond b (x ∷ rest) rest) (other_test addr f l other x (All-head (λ y. addr_of y ≡ other) x xs names) apart)
    (none_other addr f l other xs (All-tail (λ y. addr_of y ≡ other) x xs names) apart)

-- one device alone has an address
abbrev pub NoneAt : ℕ → List Watch → Type 0
NoneAt addr [] = ⊤
NoneAt addr (v ∷ vs) = ((v.addr == addr) ≡ false) × NoneAt addr vs

abbrev pub IsOnly : Watch → List Watch → Type 0
IsOnly w [] = ⊥
IsOnly w (v ∷ vs) = ((v ≡ w) × NoneAt w.addr vs) ⊎ (((v.addr == w.addr) ≡ false) × IsOnly w vs)

none_put : (addr : ℕ) (v : Watch) (vs : List Watch) → (v.addr == addr) ≡ false → NoneAt addr vs → NoneAt addr (put_watch v vs)
none_put addr v [] apart none = (apart, tt)
none_put addr v (u ∷ us) apart none = by_test (nat_le v.addr u.addr) (none_put addr v us apart none.1)
  where
    by_test : (b : Bool) → NoneAt addr (put_watch v us) → NoneAt addr (cond b (v ∷ u ∷ us) (u ∷ put_watch v us))
    by_test true rest = (apart, none)
    by_test false rest = (none.0, rest)

own_put : (w : Watch) (vs : List Watch) → NoneAt w.addr vs → IsOnly w (put_watch w vs)
own_put w [] none = inl (refl, tt)
own_put w (u ∷ us) none = by_test (nat_le w.addr u.addr) (own_put w us none.1)
  where
    by_test : (b : Bool) → IsOnly w (put_watch w us) → IsOnly w (cond b (w ∷ u ∷ us) (u ∷ put_watch w us))
    by_test true rest = inl (refl, none)
    by_test false rest = inr (none.0, rest)

only_put : (w v : Watch) (vs : List Watch) → (v.addr == w.addr) ≡ false → IsOnly w vs → IsOnly w (put_watch v vs)
only_put w v [] apart only = absurd only
only_put w v (u ∷ us) apart only = by_tests only (nat_le v.addr u.addr) (λ there. only_put w v us apart there)
  where
    by_tests : IsOnly w (u ∷ us) → (b : Bool) → (IsOnly w us → IsOnly w (put_watch v us)) →
        IsOnly w (cond b (v ∷ u ∷ us) (u ∷ put_watch v us))
    by_tests here true rest = inr (apart, here)
    by_tests (inl here) false rest = inl (here.0, none_put w.addr v us apart here.1)
    by_tests (inr there) false rest = inr (there.0, rest there.1)

none_by_address : (addr : ℕ) (ws : List Watch) → NoneAt addr ws → NoneAt addr (by_address ws)
none_by_address addr [] none = tt
none_by_address addr (v ∷ vs) none = none_put addr v (by_address vs) none.0 (none_by_address addr vs none.1)

only_by_address : (w : Watch) (ws : List Watch) → IsOnly w ws → IsOnly w (by_address ws)
only_by_address w [] only = absurd only
only_by_address w (v ∷ vs) (inl here) =
    subst (λ u. IsOnly w (put_watch u (by_address vs))) (sym here.0) (own_put w (by_address vs) (none_by_address w.addr vs here.1))
only_by_address w (v ∷ vs) (inr there) = only_put w v (by_address vs) there.0 (only_by_address w vs there.1)

-- what is said of all at the address is what is said of that device
module _ (addr f l : ℕ) (taps : List Tap) (g : Account → List Said) (names : (a : Account) → NamesAll a.watch.addr (g a)) where
  none_said : (vs : List Watch) → NoneAt addr vs → filter (is_of_at addr f l) (flat_map g (map (from_begin taps) vs)) ≡ []
  none_said [] none = refl
  none_said (v ∷ vs) none =
      filter-append (is_of_at addr f l) (g (from_begin taps v)) (flat_map g (map (from_begin taps) vs))
      ∙ ap₂ (λ xs ys. xs ++ ys) (none_other addr f l v.addr (g (from_begin taps v)) (names (from_begin taps v)) none.0)
      (none_said vs none.1)

only_said : (w : Watch) (f l : ℕ) (taps : List Tap) (g : Account → List Said) → ((a : Account) → NamesAll a.watch.addr (g a)) →
    (vs : List Watch) → IsOnly w vs →
    filter (is_of_at w.addr f l) (flat_map g (map (from_begin taps) vs)) ≡ filter (is_of f l) (g (from_begin taps w))
only_said w f l taps g names [] only = absurd only
only_said w f l taps g names (v ∷ vs) (inl here) =
    ap (λ u. filter (is_of_at w.addr f l) (flat_map g (map (from_begin taps) (u ∷ vs)))) here.0
    ∙ filter-append (is_of_at w.addr f l) (g (from_begin taps w)) (flat_map g (map (from_begin taps) vs))
    ∙ ap₂ (λ xs ys. xs ++ ys) (own_only w.addr f l (g (from_begin taps w)) (names (from_begin taps w)))
    (none_said w.addr f l taps g names vs here.1)
    ∙ append-nil (filter (is_of f l) (g (from_begin taps w)))
only_said w f l taps g names (v ∷ vs) (inr there) =
    filter-append (is_of_at w.addr f l) (g (from_begin taps v)) (flat_map g (map (from_begin taps) vs))
    ∙ ap₂ (λ xs ys. xs ++ ys) (none_other w.addr f l v.addr (g (from_begin taps v)) (names (from_begin taps v)) there.0)
    (only_said w f l taps g names vs there.1)

pub none_told : (ws : List Watch) → all_told (map made_watch ws) ≡ []
none_told [] = refl
none_told (w ∷ ws) = none_told ws

looks_from : (w : Watch) (taps : List Tap) → looks_of (from_begin taps w) ≡ map (shown w.kind w.addr) taps
looks_from w taps = append-nil (map (shown w.kind w.addr) taps)

at_tap : (w : Watch) (f l : ℕ) (t : Tap) (taps : List Tap) → w.family ≡ family.Acceptor → filter (is_of f l) (said_of t (from_begin taps w))
    ≡ filter (is_of f l) (said_at w.addr (shown w.kind w.addr t) (map (shown w.kind w.addr) taps))
at_tap w f l t taps accepts =
    ap (λ fam. filter (is_of f l) (said_by fam t (from_begin taps w))) accepts
    ∙ ap (λ past. filter (is_of f l) (said_at w.addr (shown w.kind w.addr t) past)) (looks_from w taps)

told_there : (w : Watch) (f l : ℕ) (ws : List Watch) (taps : List Tap) → w.family ≡ family.Acceptor → IsOnly w ws →
    filter (is_of_at w.addr f l) (all_told (map made_tap taps ++ map made_watch ws))
    ≡ filter (is_of f l) (all_said w.addr (map (shown w.kind w.addr) taps))
told_there w f l ws [] accepts only = ap (filter (is_of_at w.addr f l)) (none_told ws)
told_there w f l ws (t ∷ taps) accepts only =
    let came = map made_tap taps ++ map made_watch ws in
    let past = map (shown w.kind w.addr) taps in
    filter-append (is_of_at w.addr f l) (all_told came) (said_of_all t came)
    ∙ ap₂ (λ xs ys. xs ++ ys) (told_there w f l ws taps accepts only)
    (ap (λ there. filter (is_of_at w.addr f l) (flat_map (said_of t) there)) (from_the_begin ws taps)
    ∙ only_said w f l taps (said_of t) (said_names t) (by_address ws) (only_by_address w ws only)
    ∙ at_tap w f l t taps accepts)
    ∙ sym (filter-append (is_of f l) (all_said w.addr past) (said_at w.addr (shown w.kind w.addr t) past))

last_there : (w : Watch) (f l : ℕ) (ws : List Watch) (taps : List Tap) → w.family ≡ family.Acceptor → IsOnly w ws →
    filter (is_of_at w.addr f l) (finally_of_all (map made_tap taps ++ map made_watch ws))
    ≡ filter (is_of f l) (said_last w.addr (map (shown w.kind w.addr) taps))
last_there w f l ws taps accepts only =
    ap (λ there. filter (is_of_at w.addr f l) (flat_map finally_of there)) (from_the_begin ws taps)
    ∙ only_said w f l taps finally_of last_names (by_address ws) (only_by_address w ws only)
    ∙ ap (λ fam. filter (is_of f l) (finally_by fam (from_begin taps w))) accepts
    ∙ ap (λ past. filter (is_of f l) (said_last w.addr past)) (looks_from w taps)

-- so each span of it is said once among all
pub once_among_all : (w : Watch) (f l : ℕ) (ws : List Watch) (taps : List Tap) → w.family ≡ family.Acceptor → IsOnly w ws →
    length (filter (is_of_at w.addr f l) (all_told (map made_tap taps ++ map made_watch ws)
    ++ finally_of_all (map made_tap taps ++ map made_watch ws)))
    ≡ length (filter (is_between f l) (spans (map (shown w.kind w.addr) taps)))
once_among_all w f l ws taps accepts only =
    let came = map made_tap taps ++ map made_watch ws in
    let past = map (shown w.kind w.addr) taps in
    ap length (filter-append (is_of_at w.addr f l) (all_told came) (finally_of_all came)
    ∙ ap₂ (λ xs ys. xs ++ ys) (told_there w f l ws taps accepts only) (last_there w f l ws taps accepts only)
    ∙ sym (filter-append (is_of f l) (all_said w.addr past) (said_last w.addr past)))
    ∙ said_once f l w.addr past

-- the same of one that is watched for resets alone
quiet_at_tap : (money : Money) (w : Watch) (f l : ℕ) (t : Tap) (taps : List Tap) → w.family ≡ family.QuietAcceptor money →
    filter (is_of f l) (said_of t (from_begin taps w))
    ≡ filter (is_of f l) (quiet_at w.addr (quiet_shown money w.kind w.addr t) (map (quiet_shown money w.kind w.addr) taps))
quiet_at_tap money w f l t taps accepts =
    ap (λ fam. filter (is_of f l) (said_by fam t (from_begin taps w))) accepts
    ∙ ap (λ past. filter (is_of f l) (quiet_at w.addr (quiet_shown money w.kind w.addr t) past))
    (append-nil (map (quiet_shown money w.kind w.addr) taps))

quiet_there : (money : Money) (w : Watch) (f l : ℕ) (ws : List Watch) (taps : List Tap) → w.family ≡ family.QuietAcceptor money →
    IsOnly w ws →
    filter (is_of_at w.addr f l) (all_told (map made_tap taps ++ map made_watch ws))
    ≡ filter (is_of f l) (all_quietly w.addr (map (quiet_shown money w.kind w.addr) taps))
quiet_there money w f l ws [] accepts only = ap (filter (is_of_at w.addr f l)) (none_told ws)
quiet_there money w f l ws (t ∷ taps) accepts only =
    let came = map made_tap taps ++ map made_watch ws in
    let past = map (quiet_shown money w.kind w.addr) taps in
    filter-append (is_of_at w.addr f l) (all_told came) (said_of_all t came)
    ∙ ap₂ (λ xs ys. xs ++ ys) (quiet_there money w f l ws taps accepts only)
    (ap (λ there. filter (is_of_at w.addr f l) (flat_map (said_of t) there)) (from_the_begin ws taps)
    ∙ only_said w f l taps (said_of t) (said_names t) (by_address ws) (only_by_address w ws only)
    ∙ quiet_at_tap money w f l t taps accepts)
    ∙ sym (filter-append (is_of f l) (all_quietly w.addr past) (quiet_at w.addr (quiet_shown money w.kind w.addr t) past))

quiet_last : (money : Money) (w : Watch) (f l : ℕ) (ws : List Watch) (taps : List Tap) → w.family ≡ family.QuietAcceptor money →
    IsOnly w ws →
    filter (is_of_at w.addr f l) (finally_of_all (map made_tap taps ++ map made_watch ws)) ≡ []
quiet_last money w f l ws taps accepts only =
    ap (λ there. filter (is_of_at w.addr f l) (flat_map finally_of there)) (from_the_begin ws taps)
    ∙ only_said w f l taps finally_of last_names (by_address ws) (only_by_address w ws only)
    ∙ ap (λ fam. filter (is_of f l) (finally_by fam (from_begin taps w))) accepts

pub quiet_among_all : (money : Money) (w : Watch) (f l : ℕ) (ws : List Watch) (taps : List Tap) → w.family ≡ family.QuietAcceptor money →
    IsOnly w ws → length (filter (is_of_at w.addr f l) (all_told (map made_tap taps ++ map made_watch ws)
    ++ finally_of_all (map made_tap taps ++ map made_watch ws)))
    ≡ length (filter (is_between f l) (spans (map (quiet_shown money w.kind w.addr) taps)))
quiet_among_all money w f l ws taps accepts only =
    let came = map made_tap taps ++ map made_watch ws in
    let past = map (quiet_shown money w.kind w.addr) taps in
    ap length (filter-append (is_of_at w.addr f l) (all_told came) (finally_of_all came)
    ∙ ap₂ (λ xs ys. xs ++ ys) (quiet_there money w f l ws taps accepts only) (quiet_last money w f l ws taps accepts only)
    ∙ append-nil (filter (is_of f l) (all_quietly w.addr past)))
    ∙ quietly_once f l w.addr past

-- what is said at the end are spans in doubt
all_doubts : (P : Said → Type 0) → ((addr f l : ℕ) → P (Doubt addr f l)) → (addr : ℕ) (xs : List Span) →
    All P (map (doubted addr) xs)
all_doubts P doubts addr [] = All-nil P
all_doubts P doubts addr (x ∷ xs) =
    All-cons P (doubted addr x) (map (doubted addr) xs) (doubts addr x.first.number x.last.number)
    (all_doubts P doubts addr xs)

last_doubts : (P : Said → Type 0) → ((addr f l : ℕ) → P (Doubt addr f l)) → (a : Account) → All P (finally_of a)
last_doubts P doubts a = by_family a.watch.family
  where
    by_family : (fam : Family) → All P (finally_by fam a)
    by_family family.Acceptor = all_doubts P doubts a.watch.addr (reverse (filter waits (spans (looks_of a))))
    by_family (family.QuietAcceptor money) = All-nil P
    by_family (family.Premises money) = All-nil P
    by_family family.Hopper = All-nil P
    by_family family.HopperPremises = All-nil P

each_last : (P : Said → Type 0) → ((addr f l : ℕ) → P (Doubt addr f l)) → (all : List Account) → All P (flat_map finally_of all)
each_last P doubts [] = All-nil P
each_last P doubts (a ∷ all) =
    All-append P (finally_of a) (flat_map finally_of all) (last_doubts P doubts a) (each_last P doubts all)

pub finally_doubts : (P : Said → Type 0) → ((addr f l : ℕ) → P (Doubt addr f l)) → (past : List Came) → All P (finally_of_all past)
finally_doubts P doubts past = each_last P doubts (accounts past)
