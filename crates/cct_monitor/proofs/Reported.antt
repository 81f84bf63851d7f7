-- Each span that is confirmed was said to be sure, among all that is said of the watched devices.
use Rattle.std.proofs.Common.{◌≡◌, ◌⊎◌, inl, inr, ℕ, zero, suc, ◌<◌, ◌==◌, nat_le, not, Bool, true, false, cond, List, [], ◌∷◌, ◌++◌, map, filter, flat_map, length, get_or, reverse, refl, sym, ◌∙◌, subst, append-nil, All, Contains, zero-lt-suc, arith, ap}
use Rattle.std.proofs.lemmas.Bool.{and_parts}
use Rattle.std.proofs.lemmas.List.{reverse-append}
use Rattle.std.proofs.lemmas.List.Elements.{All-append, All-cons, All-head, All-map, All-nil, All-tail, All-weaker, Contains-append_cases, Contains-append_left, Contains-append_right, Contains-push}
use Rattle.cct_audit_taps.specs.declared.said.Said.{Said}
use Rattle.cct_audit_taps.specs.declared.shown.Shown.{Shown}
use Rattle.cct_audit_taps.specs.declared.shown.Shown.TheVariants.{Read, Masked, Set, Nothing}
use Rattle.cct_audit_taps.specs.declared.money.Money.{Money}
use Rattle.cct_monitor.specs.declared.watched.Family.TheVariants.{Acceptor, QuietAcceptor}
use Rattle.cct_monitor.specs.Confirmed.{confirms, has_mask, is_confirmed}
use Rattle.cct_monitor.specs.Once.{all_quietly, all_said}
use Rattle.cct_monitor.specs.Spans.{Span, goes_on, last_reading, quiet_at, quietly, refused, said_at, spans, spans_by, surely, turned, waits}
use Rattle.cct_audit_taps.specs.Taps.{Tap, quiet_shown, shown}
use Rattle.cct_monitor.specs.Watches.{Came, Watch, all_told, by_address, from_begin, made_tap, made_watch, put_watch, said_by, said_of, said_of_all}
use Rattle.cct_monitor.proofs.Captures.{from_the_begin}
use Rattle.cct_monitor.proofs.Confirmed.{confirms_is, new_unconfirmed}

-- an element is the first one, or one of the others
pub head_or_rest : {A : Type 0} (x y : A) (xs : List A) → Contains (x ∷ xs) y → (x ≡ y) ⊎ Contains xs y
head_or_rest {A} x y xs (n, below, is) = by_index n below is
  where
    by_index : (n : ℕ) → n < suc (length xs) → get_or (x ∷ xs) n y ≡ y → (x ≡ y) ⊎ Contains xs y
    by_index zero below is = inl is
    by_index (suc n) below is = inr (n, omega arith, is)

pub has_none : {A : Type 0} (x : A) → Contains [] x → ⊥
has_none x (n, below, is) = omega arith

is_first : {A : Type 0} (x : A) (xs : List A) → Contains (x ∷ xs) x
is_first x xs = (0, zero-lt-suc (length xs), refl)

is_later : {A : Type 0} (x y : A) (xs : List A) → Contains xs y → Contains (x ∷ xs) y
is_later x y xs there = Contains-append_right (x ∷ []) xs y there

in_flat : {A B : Type 0} (f : A → List B) (a : A) (x : B) (xs : List A) → Contains (f a) x → Contains xs a →
    Contains (flat_map f xs) x
in_flat f a x [] here among = absurd (has_none a among)
in_flat {A} f a x (b ∷ xs) here among = by_place (head_or_rest b a xs among) (in_flat f a x xs here)
  where
    by_place : (b ≡ a) ⊎ Contains xs a → (Contains xs a → Contains (flat_map f xs) x) → Contains (flat_map f (b ∷ xs)) x
    by_place (inl same) rest =
        Contains-append_left (f b) (flat_map f xs) x (subst (λ c. Contains (f c) x) (sym same) here)
    by_place (inr later) rest = Contains-append_right (f b) (flat_map f xs) x (rest later)

-- ---- of one acceptor

-- each span that waits is among those that do
abbrev IsTurned : List Span → Span → Type 0
IsTurned xs x = waits x ≡ true → Contains (reverse (filter waits xs)) x

each_turned : (xs : List Span) → All (IsTurned xs) xs
each_turned [] = All-nil (IsTurned [])
each_turned (x ∷ xs) = by_test (waits x) refl (each_turned xs)
  where
    round : (ys : List Span) → reverse (x ∷ ys) ≡ reverse ys ++ x ∷ []
    round ys = reverse-append (x ∷ []) ys

    by_test : (waiting : Bool) → waits x ≡ waiting → All (IsTurned xs) xs →
        All (λ y. waits y ≡ true → Contains (reverse (cond waiting (x ∷ filter waits xs) (filter waits xs))) y) (x ∷ xs)
    by_test true is rest =
        let now : List Span = reverse (x ∷ filter waits xs) in
        All-cons (λ y. waits y ≡ true → Contains now y) x xs
        (λ waiting. subst (λ ys. Contains ys x) (sym (round (filter waits xs))) (Contains-push (reverse (filter waits xs)) x))
        (All-weaker (IsTurned xs) (λ y. waits y ≡ true → Contains now y)
        (λ y among waiting. subst (λ ys. Contains ys y) (sym (round (filter waits xs)))
        (Contains-append_left (reverse (filter waits xs)) (x ∷ []) y (among waiting))) xs rest)
    by_test false is rest =
        All-cons (λ y. waits y ≡ true → Contains (reverse (filter waits xs)) y) x xs
        (λ waiting. let e : true ≡ false = sym waiting ∙ is in absurd cc) rest

-- a tap that shows a mask makes each of them sure
mask_turns : (addr : ℕ) (s : Shown) (x : Span) → has_mask s ≡ true → Contains (turned addr s x) (surely addr x)
mask_turns addr (Masked mask) x some = by_test (mask == 0) some
  where
    by_test : (none : Bool) → not none ≡ true → Contains (cond none [] (surely addr x ∷ [])) (surely addr x)
    by_test true some = absurd cc
    by_test false some = is_first (surely addr x) []
mask_turns addr (Read c) x some = absurd cc
mask_turns addr Set x some = absurd cc
mask_turns addr Nothing x some = absurd cc

said_when_confirmed : (addr : ℕ) (s : Shown) (past : List Shown) (x : Span) → IsTurned (spans past) x → confirms s x ≡ true →
    Contains (said_at addr s past) (surely addr x)
said_when_confirmed addr s past x among confirmed =
    let parts = and_parts (has_mask s) (waits x) (sym (confirms_is s x) ∙ confirmed) in
    Contains-append_left (flat_map (turned addr s) (reverse (filter waits (spans past))))
    (flat_map (refused addr) (spans_by s (last_reading past) (suc (length past)))) (surely addr x)
    (in_flat (turned addr s) x (surely addr x) (reverse (filter waits (spans past))) (mask_turns addr s x parts.0)
    (among parts.1))

abbrev pub IsSaid : ℕ → List Shown → Span → Type 0
IsSaid addr shows x = is_confirmed x ≡ true → Contains (all_said addr shows) (surely addr x)

said_later : (addr : ℕ) (s : Shown) (past : List Shown) (x : Span) → IsSaid addr past x → IsTurned (spans past) x →
    is_confirmed (goes_on s x) ≡ true → Contains (all_said addr (s ∷ past)) (surely addr x)
said_later addr s past x before among confirmed = by_test (is_confirmed x) refl
  where
    by_test : (was : Bool) → is_confirmed x ≡ was → Contains (all_said addr (s ∷ past)) (surely addr x)
    by_test true was = Contains-append_left (all_said addr past) (said_at addr s past) (surely addr x) (before was)
    by_test false was =
        Contains-append_right (all_said addr past) (said_at addr s past) (surely addr x)
        (said_when_confirmed addr s past x among (rw (confirmed, was) refl))

none_said : (said : List Said) (addr : ℕ) (xs : List Span) → filter is_confirmed xs ≡ [] →
    All (λ x. is_confirmed x ≡ true → Contains said (surely addr x)) xs
none_said said addr [] none = All-nil (λ x. is_confirmed x ≡ true → Contains said (surely addr x))
none_said said addr (x ∷ xs) none = by_test (is_confirmed x) refl none (none_said said addr xs)
  where
    by_test : (b : Bool) → is_confirmed x ≡ b → cond b (x ∷ filter is_confirmed xs) (filter is_confirmed xs) ≡ [] →
        (filter is_confirmed xs ≡ [] → All (λ y. is_confirmed y ≡ true → Contains said (surely addr y)) xs) →
        All (λ y. is_confirmed y ≡ true → Contains said (surely addr y)) (x ∷ xs)
    by_test true is none rest = absurd cc
    by_test false is none rest =
        All-cons (λ y. is_confirmed y ≡ true → Contains said (surely addr y)) x xs
        (λ confirmed. let e : true ≡ false = sym confirmed ∙ is in absurd cc) (rest none)

-- two facts of each element
pub all_both : {A : Type 0} (P Q : A → Type 0) (xs : List A) → All P xs → All Q xs → All (λ x. P x × Q x) xs
all_both P Q [] ps qs = All-nil (λ x. P x × Q x)
all_both P Q (x ∷ xs) ps qs =
    All-cons (λ y. P y × Q y) x xs (All-head P x xs ps, All-head Q x xs qs)
    (all_both P Q xs (All-tail P x xs ps) (All-tail Q x xs qs))

pub confirmed_said : (addr : ℕ) (shows : List Shown) → All (IsSaid addr shows) (spans shows)
confirmed_said addr [] = All-nil (IsSaid addr [])
confirmed_said addr (s ∷ past) =
    All-append (IsSaid addr (s ∷ past)) (spans_by s (last_reading past) (suc (length past))) (map (goes_on s) (spans past))
    (none_said (all_said addr (s ∷ past)) addr (spans_by s (last_reading past) (suc (length past)))
    (new_unconfirmed s (last_reading past) (suc (length past))))
    (All-map (IsSaid addr (s ∷ past)) (goes_on s) (spans past)
    (All-weaker (λ x. IsSaid addr past x × IsTurned (spans past) x) (λ x. IsSaid addr (s ∷ past) (goes_on s x))
    (λ x is. said_later addr s past x is.0 is.1) (spans past)
    (all_both (IsSaid addr past) (IsTurned (spans past)) (spans past) (confirmed_said addr past) (each_turned (spans past)))))

-- ---- of all that are watched

in_put : (v w : Watch) (ws : List Watch) → Contains (w ∷ ws) v → Contains (put_watch w ws) v
in_put v w [] among = among
in_put v w (u ∷ us) among = by_test (nat_le w.addr u.addr) (head_or_rest w v (u ∷ us) among) (in_put v w us)
  where
    later : (u ≡ v) ⊎ Contains us v → (Contains (w ∷ us) v → Contains (put_watch w us) v) → Contains (u ∷ put_watch w us) v
    later (inl same) rest = subst (λ x. Contains (x ∷ put_watch w us) v) (sym same) (is_first v (put_watch w us))
    later (inr there) rest = is_later u v (put_watch w us) (rest (is_later w v us there))

    by_test : (below : Bool) → (w ≡ v) ⊎ Contains (u ∷ us) v → (Contains (w ∷ us) v → Contains (put_watch w us) v) →
        Contains (cond below (w ∷ u ∷ us) (u ∷ put_watch w us)) v
    by_test true place rest = among
    by_test false (inl same) rest =
        is_later u v (put_watch w us) (rest (subst (λ x. Contains (x ∷ us) v) (sym same) (is_first v us)))
    by_test false (inr there) rest = later (head_or_rest u v us there) rest

in_by_address : (v : Watch) (ws : List Watch) → Contains ws v → Contains (by_address ws) v
in_by_address v [] among = absurd (has_none v among)
in_by_address v (w ∷ ws) among = in_put v w (by_address ws) (by_place (head_or_rest w v ws among) (in_by_address v ws))
  where
    by_place : (w ≡ v) ⊎ Contains ws v → (Contains ws v → Contains (by_address ws) v) → Contains (w ∷ by_address ws) v
    by_place (inl same) rest = subst (λ x. Contains (x ∷ by_address ws) v) (sym same) (is_first v (by_address ws))
    by_place (inr there) rest = is_later w v (by_address ws) (rest there)

in_accounts : (w : Watch) (t : Tap) (taps : List Tap) (x : Said) → Contains (said_of t (from_begin taps w)) x →
    (vs : List Watch) → Contains vs w → Contains (flat_map (said_of t) (map (from_begin taps) vs)) x
in_accounts w t taps x now [] there = absurd (has_none w there)
in_accounts w t taps x now (v ∷ vs) there = by_place (head_or_rest v w vs there) (in_accounts w t taps x now vs)
  where
    others : List Said
    others = flat_map (said_of t) (map (from_begin taps) vs)

    by_place : (v ≡ w) ⊎ Contains vs w → (Contains vs w → Contains others x) → Contains (said_of t (from_begin taps v) ++ others) x
    by_place (inl same) rest =
        Contains-append_left (said_of t (from_begin taps v)) others x
        (subst (λ u. Contains (said_of t (from_begin taps u)) x) (sym same) now)
    by_place (inr later) rest = Contains-append_right (said_of t (from_begin taps v)) others x (rest later)

-- what is said at taps is said by a monitor with a watch that says it at each of them
of_one : {S : Type 0} (shows : Tap → S) (at : S → List S → List Said) (of_all : List S → List Said) (w : Watch)
    (ws : List Watch) → of_all [] ≡ [] → ((s : S) (past : List S) → of_all (s ∷ past) ≡ of_all past ++ at s past) →
    ((t : Tap) (taps : List Tap) → at (shows t) (map shows taps) ≡ said_of t (from_begin taps w)) → Contains ws w →
    (taps : List Tap) (x : Said) → Contains (of_all (map shows taps)) x →
    Contains (all_told (map made_tap taps ++ map made_watch ws)) x
of_one shows at of_all w ws none split says among [] x there =
    absurd (has_none x (subst (λ all. Contains all x) none there))
of_one shows at of_all w ws none split says among (t ∷ taps) x there =
    by_place (of_one shows at of_all w ws none split says among taps x)
    (Contains-append_cases (of_all (map shows taps)) (at (shows t) (map shows taps)) x
    (subst (λ all. Contains all x) (split (shows t) (map shows taps)) there))
  where
    came : List Came
    came = map made_tap taps ++ map made_watch ws

    by_place : (Contains (of_all (map shows taps)) x → Contains (all_told came) x) →
        Contains (of_all (map shows taps)) x ⊎ Contains (at (shows t) (map shows taps)) x →
        Contains (all_told came ++ said_of_all t came) x
    by_place earlier (inl before) =
        Contains-append_left (all_told came) (said_of_all t came) x (earlier before)
    by_place earlier (inr now) =
        Contains-append_right (all_told came) (said_of_all t came) x
        (subst (λ accounts. Contains (flat_map (said_of t) accounts) x) (sym (from_the_begin ws taps))
        (in_accounts w t taps x (subst (λ all. Contains all x) (says t taps) now) (by_address ws)
        (in_by_address w ws among)))

-- so it is of an acceptor
pub told_of_one : (w : Watch) (ws : List Watch) (taps : List Tap) (x : Said) → w.family ≡ Acceptor → Contains ws w →
    Contains (all_said w.addr (map (shown w.kind w.addr) taps)) x →
    Contains (all_told (map made_tap taps ++ map made_watch ws)) x
told_of_one w ws taps x accepts among there =
    of_one (shown w.kind w.addr) (said_at w.addr) (all_said w.addr) w ws refl (λ s past. refl)
    (λ t before. ap (said_at w.addr (shown w.kind w.addr t)) (sym (append-nil (map (shown w.kind w.addr) before)))
    ∙ ap (λ fam. said_by fam t (from_begin before w)) (sym accepts)) among taps x there

-- and the same of an acceptor that is watched for resets alone: each span is said at its last reading
new_said : (addr : ℕ) (xs : List Span) → All (λ x. Contains (map (quietly addr) xs) (quietly addr x)) xs
new_said addr [] = All-nil (λ x. Contains (map (quietly addr) []) (quietly addr x))
new_said addr (x ∷ xs) =
    let all : List Said = quietly addr x ∷ map (quietly addr) xs in
    All-cons (λ y. Contains all (quietly addr y)) x xs (is_first (quietly addr x) (map (quietly addr) xs))
    (All-weaker (λ y. Contains (map (quietly addr) xs) (quietly addr y)) (λ y. Contains all (quietly addr y))
    (λ y there. is_later (quietly addr x) (quietly addr y) (map (quietly addr) xs) there) xs (new_said addr xs))

pub quietly_said : (addr : ℕ) (shows : List Shown) →
    All (λ x. Contains (all_quietly addr shows) (quietly addr x)) (spans shows)
quietly_said addr [] = All-nil (λ x. Contains (all_quietly addr []) (quietly addr x))
quietly_said addr (s ∷ past) =
    let P : Span → Type 0 = λ x. Contains (all_quietly addr (s ∷ past)) (quietly addr x) in
    let new : List Span = spans_by s (last_reading past) (suc (length past)) in
    All-append P new (map (goes_on s) (spans past))
    (All-weaker (λ x. Contains (map (quietly addr) new) (quietly addr x)) P
    (λ x there. Contains-append_right (all_quietly addr past) (quiet_at addr s past) (quietly addr x) there)
    new (new_said addr new))
    (All-map P (goes_on s) (spans past)
    (All-weaker (λ x. Contains (all_quietly addr past) (quietly addr x)) (λ x. P (goes_on s x))
    (λ x there. Contains-append_left (all_quietly addr past) (quiet_at addr s past) (quietly addr x) there)
    (spans past) (quietly_said addr past)))

pub quiet_of_one : (money : Money) (w : Watch) (ws : List Watch) (taps : List Tap) (x : Said) → w.family ≡ QuietAcceptor money →
    Contains ws w →
    Contains (all_quietly w.addr (map (quiet_shown money w.kind w.addr) taps)) x →
    Contains (all_told (map made_tap taps ++ map made_watch ws)) x
quiet_of_one money w ws taps x accepts among there =
    of_one (quiet_shown money w.kind w.addr) (quiet_at w.addr) (all_quietly w.addr) w ws refl (λ s past. refl)
    (λ t before. ap (quiet_at w.addr (quiet_shown money w.kind w.addr t))
    (sym (append-nil (map (quiet_shown money w.kind w.addr) before)))
    ∙ ap (λ fam. said_by fam t (from_begin before w)) (sym accepts)) among taps x there
