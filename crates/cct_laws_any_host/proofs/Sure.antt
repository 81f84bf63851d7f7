-- What is surely said of spans is true: their coins are those that came between two moments.
use Rattle.std.proofs.Common.{◌≡◌, ◌≢◌, ℕ, suc, ◌+◌, ◌<◌, ◌≤◌, min, ◌==◌, ◌||◌, not, Bool, true, false, cond, List, [], ◌∷◌, ◌++◌, map, filter, flat_map, length, take, drop, reverse, refl, sym, ap, ◌∙◌, subst, arith, Option, Some, None, All, length-append, take-append-drop, true≢false}
use Rattle.std.specs.Prelude.{⊤, nat_le}
use Rattle.std.specs.List.{list_any}
use Rattle.std.proofs.lemmas.Bool.{and_parts, or_parts, eq-eqb}
use Rattle.std.proofs.lemmas.Bool.Decides.{nat_tests}
use Rattle.std.proofs.lemmas.List.{reverse-append, reverse-reverse}
use Rattle.std.proofs.lemmas.List.Elements.{All-append, All-cons, All-head, All-map, All-nil, All-tail, All-weaker}
use Rattle.cct_model.specs.terms.coin.Pair.{Pair}
use Rattle.cct_model.specs.terms.coin.Coin.{Coin}
use Rattle.cct_model.specs.terms.coin.Credits.{Credits}
use Rattle.cct_audit_taps.specs.declared.said.Said.{Said}
use Rattle.cct_audit_taps.specs.declared.said.Said.TheVariants.{Sure, Doubt, Fell, Broken}
use Rattle.cct_audit_taps.specs.declared.said.Said.TheVariants as spoken
use Rattle.cct_model.specs.Acceptor.{counter, credits_in, last_five}
use Rattle.cct_model.specs.Reading.{coins_among, distance, posted_of}
use Rattle.cct_epoch.proofs.Counters.{distance_most, distance_near}
use Rattle.cct_laws.proofs.acceptor.NewestEvents.{buffer_newest, coins_among-append}
use Rattle.cct_audit_taps.specs.declared.shown.Shown.{Shown}
use Rattle.cct_audit_taps.specs.declared.shown.Shown.TheVariants.{Read, Masked, Set, Nothing}
use Rattle.cct_monitor.specs.Once.{all_said}
use Rattle.cct_monitor.specs.Spans.{Reading, Span, after_it, are_near, coins_of, doubted, goes_on, is_set, is_whole, last_reading, leaves_open, new_reading, refused, said_at, spans, spans_by, surely, turned, waits, with_after}
use Rattle.cct_laws_any_host.proofs.Moments.{World, Behind, Quiet, Runs, Shows, quiet_then}

-- a reading shows the credits of its moment; and where no setting was shown since, it is quiet since
pub record ReadIn (at : ℕ → World) (now : World) (r : Reading) : Type 0 where
  pub credits_are : r.credits ≡ credits_in (at r.number).events
  pub quiet : list_any is_set r.after ≡ false → Quiet (at r.number) now

abbrev pub IfRead : (ℕ → World) → World → Option Reading → Type 0
IfRead at now None = ⊤
IfRead at now (Some r) = ReadIn at now r

goes_by : (at : ℕ → World) (before now : World) (s : Shown) (r : Reading) → (is_set s ≡ false → Quiet before now) →
    ReadIn at before r → ReadIn at now (with_after s r)
goes_by at before now s r moves is = record {
  credits_are = is.credits_are;
  quiet = λ unset.
      let parts = or_parts (is_set s) (list_any is_set r.after) unset in
      quiet_then (at r.number) before now (is.quiet parts.1) (moves parts.0);
}

if_goes_by : (at : ℕ → World) (before now : World) (s : Shown) (found : Option Reading) →
    (is_set s ≡ false → Quiet before now) → IfRead at before found → IfRead at now (after_it s found)
if_goes_by at before now s None moves is = tt
if_goes_by at before now s (Some r) moves is = goes_by at before now s r moves is

last_read : (at : ℕ → World) (shows : List Shown) (now : World) → Runs at shows now → IfRead at now (last_reading shows)
last_read at [] now runs = tt
last_read at (Read c ∷ past) now runs = record { credits_are = runs.0; quiet = λ none. runs.1 refl }
last_read at (s ∷ past) now runs =
    let before = at (suc (length past)) in
    if_goes_by at before now s (last_reading past) runs.1 (last_read at past before runs.2)

-- a span, between two readings
pub record SpanIn (at : ℕ → World) (now : World) (x : Span) : Type 0 where
  pub first_is : x.first.credits ≡ credits_in (at x.first.number).events
  pub quiet : list_any is_set x.first.after ≡ false → Quiet (at x.first.number) (at x.last.number)
  pub last : ReadIn at now x.last

new_spans : (at : ℕ → World) (s : Shown) (found : Option Reading) (number : ℕ) (now : World) →
    IfRead at (at number) found → Shows s (at number) → (is_set s ≡ false → Quiet (at number) now) →
    All (SpanIn at now) (spans_by s found number)
new_spans at (Read c) (Some r) number now read shows moves =
    let x : Span = record { first = r; last = new_reading number c } in
    let last : ReadIn at now (new_reading number c) = record { credits_are = shows; quiet = λ none. moves refl } in
    All-cons (SpanIn at now) x [] (record { first_is = read.credits_are; quiet = read.quiet; last = last })
    (All-nil (SpanIn at now))
new_spans at (Read c) None number now read shows moves = All-nil (SpanIn at now)
new_spans at (Masked mask) found number now read shows moves = All-nil (SpanIn at now)
new_spans at Set found number now read shows moves = All-nil (SpanIn at now)
new_spans at Nothing found number now read shows moves = All-nil (SpanIn at now)

span_goes_on : (at : ℕ → World) (before now : World) (s : Shown) (x : Span) → (is_set s ≡ false → Quiet before now) →
    SpanIn at before x → SpanIn at now (goes_on s x)
span_goes_on at before now s x moves is = record {
  first_is = is.first_is;
  quiet = is.quiet;
  last = goes_by at before now s x.last moves is.last;
}

pub all_spans : (at : ℕ → World) (shows : List Shown) (now : World) → Runs at shows now →
    All (SpanIn at now) (spans shows)
all_spans at [] now runs = All-nil (SpanIn at now)
all_spans at (s ∷ past) now runs =
    let number = suc (length past) in
    let before = at number in
    All-append (SpanIn at now) (spans_by s (last_reading past) number) (map (goes_on s) (spans past))
    (new_spans at s (last_reading past) number now (last_read at past before runs.2) runs.0 runs.1)
    (All-map (SpanIn at now) (goes_on s) (spans past)
    (All-weaker (SpanIn at before) (λ x. SpanIn at now (goes_on s x)) (λ x is. span_goes_on at before now s x runs.1 is)
    (spans past) (all_spans at past before runs.2)))

-- posted coins are the newest of those that came between two moments, and all where fewer than 255 pieces came
pub record AreTold (w v : World) (posted : List Coin) : Type 0 where
  pub newest : (older : List Coin) × (v.coins ≡ reverse posted ++ older ++ w.coins)
  pub exact : v.came < w.came + 255 → v.coins ≡ reverse posted ++ w.coins

least : (n : ℕ) → n ≤ 5 → min n 5 ≡ n
least n few = grind (arith, nat_tests)

posted_is : (new old : List Pair) (n : ℕ) → n ≤ length new → n ≤ 5 →
    reverse (posted_of n (last_five (new ++ old))) ≡ coins_among (take n new)
posted_is new old n most few =
    reverse-reverse (coins_among (take (min n 5) (last_five (new ++ old))))
    ∙ ap coins_among (buffer_newest new old n most)
    ∙ ap (λ k. coins_among (take k new)) (least n few)

parts_are : (new : List Pair) (n : ℕ) → coins_among new ≡ coins_among (take n new) ++ coins_among (drop n new)
parts_are new n = ap coins_among (sym (take-append-drop n new)) ∙ coins_among-append (take n new) (drop n new)

newest_are : (new old : List Pair) (before : List Coin) (n : ℕ) → n ≤ length new → n ≤ 5 →
    coins_among new ++ before
    ≡ reverse (posted_of n (last_five (new ++ old))) ++ coins_among (drop n new) ++ before
newest_are new old before n most few =
    ap (λ cs. cs ++ before)
    (parts_are new n ∙ ap (λ cs. cs ++ coins_among (drop n new)) (sym (posted_is new old n most few)))

take_all : (new : List Pair) → take (length new) new ≡ new
take_all [] = refl
take_all (x ∷ new) = ap (λ xs. x ∷ xs) (take_all new)

all_are : (new old : List Pair) (before : List Coin) (n : ℕ) → n ≡ length new → n ≤ 5 →
    coins_among new ++ before ≡ reverse (posted_of n (last_five (new ++ old))) ++ before
all_are new old before n is few =
    ap (λ cs. cs ++ before)
    (ap coins_among (sym (take_all new) ∙ ap (λ k. take k new) (sym is))
    ∙ sym (posted_is new old n (omega (arith, is)) few))

coins_behind : (w v : World) (is : Behind w v) (n : ℕ) →
    n ≡ distance (counter (length w.events)) (counter (length (is.new ++ w.events))) → n ≤ 5 →
    AreTold w v (posted_of n (last_five (is.new ++ w.events)))
coins_behind w v is n count few =
    let long = length-append is.new w.events in
    let counted : n ≡ distance (counter (length w.events)) (counter (length is.new + length w.events)) =
    count ∙ ap (λ k. distance (counter (length w.events)) (counter k)) long in
    let most : n ≤ length is.new =
    subst (λ k. k ≤ length is.new) (sym counted) (distance_most (length is.new) (length w.events)) in
    record {
      newest = (
        coins_among (drop n is.new),
        is.coins_are ∙ newest_are is.new w.events w.coins n most few,
      );
      exact = λ near.
          let less : length is.new < 255 = omega (arith, near, is.came_are) in
          is.coins_are
          ∙ all_are is.new w.events w.coins n (counted ∙ distance_near (length is.new) (length w.events) less) few;
    }

pub behind_told : (w v : World) → Behind w v → (first last : Credits) → first ≡ credits_in w.events →
    last ≡ credits_in v.events → distance first.counter last.counter ≤ 5 →
    AreTold w v (posted_of (distance first.counter last.counter) last.pairs)
behind_told w v is first last first_is last_is few =
    let last_new : last ≡ credits_in (is.new ++ w.events) = last_is ∙ ap credits_in is.events_are in
    let count : distance first.counter last.counter
    ≡ distance (counter (length w.events)) (counter (length (is.new ++ w.events))) =
    ap (λ (c : Credits). distance c.counter last.counter) first_is
    ∙ ap (λ (c : Credits). distance (counter (length w.events)) c.counter) last_new in
    subst (λ ps. AreTold w v (posted_of (distance first.counter last.counter) ps))
    (sym (ap (λ (c : Credits). c.pairs) last_new))
    (coins_behind w v is (distance first.counter last.counter) count few)

-- no setting ends a window that is open
unset_by : (s : Shown) → not (leaves_open s) ≡ false → is_set s ≡ false
unset_by (Read c) opened = refl
unset_by (Masked mask) opened = refl
unset_by Set opened = absurd cc
unset_by Nothing opened = refl

unset_all : (after : List Shown) → list_any (λ s. not (leaves_open s)) after ≡ false → list_any is_set after ≡ false
unset_all [] opened = refl
unset_all (s ∷ after) opened =
    let parts = or_parts (not (leaves_open s)) (list_any (λ s. not (leaves_open s)) after) opened in
    ap (λ b. b || list_any is_set after) (unset_by s parts.0) ∙ unset_all after parts.1

is_false : (b : Bool) → not b ≡ true → b ≡ false
is_false true test = absurd cc
is_false false test = refl

-- a span that waits, at a tap that shows another mask than 0
sure_span : (at : ℕ → World) (now : World) (x : Span) → SpanIn at now x → waits x ≡ true → now.mask ≢ 0 →
    AreTold (at x.first.number) (at x.last.number) (coins_of x)
sure_span at now x is waiting masked =
    let first = x.first.credits.counter in
    let last = x.last.credits.counter in
    let opens = and_parts (is_whole x) (not (list_any (λ s. not (leaves_open s)) x.last.after)) waiting in
    let whole = and_parts (not (list_any is_set x.first.after)) (are_near first last) opens.0 in
    let near = and_parts (not (last == 0) || (first == 0)) (nat_le (distance first last) 5) whole.1 in
    let later = is.last.quiet
    (unset_all x.last.after (is_false (list_any (λ s. not (leaves_open s)) x.last.after) opens.1)) masked in
    let between = is.quiet (is_false (list_any is_set x.first.after) whole.0) later.masked in
    behind_told (at x.first.number) (at x.last.number) between x.first.credits x.last.credits is.first_is
    is.last.credits_are (grind (arith, nat_tests))

-- what is said of the acceptor at an address is true
abbrev pub Holds : (ℕ → World) → ℕ → Said → Type 0
Holds at addr (Sure there first last posted) = (there ≡ addr) × AreTold (at first) (at last) posted
Holds at addr (spoken.Quiet there first last posted) = ⊥
Holds at addr (Doubt there first last) = ⊤
Holds at addr (Fell there first last count) = ⊥
Holds at addr (Broken there premise first last) = ⊥

each_said : {A B : Type 0} (P : A → Type 0) (Q : B → Type 0) (f : A → List B) → ((x : A) → P x → All Q (f x)) →
    (xs : List A) → All P xs → All Q (flat_map f xs)
each_said P Q f says [] all = All-nil Q
each_said P Q f says (x ∷ xs) all =
    All-append Q (f x) (flat_map f xs) (says x (All-head P x xs all)) (each_said P Q f says xs (All-tail P x xs all))

each_turned : {A : Type 0} (P : A → Type 0) (xs : List A) → All P xs → All P (reverse xs)
each_turned P [] all = All-nil P
each_turned P (x ∷ xs) all =
    subst (All P) (sym (reverse-append (x ∷ []) xs))
    (All-append P (reverse xs) (x ∷ []) (each_turned P xs (All-tail P x xs all))
    (All-cons P x [] (All-head P x xs all) (All-nil P)))

each_passed : {A : Type 0} (p : A → Bool) (P : A → Type 0) (xs : List A) → All P xs →
    All (λ x. P x × (p x ≡ true)) (filter p xs)
each_passed p P [] all = All-nil (λ x. P x × (p x ≡ true))
each_passed {A} p P (x ∷ xs) all =
    by_test (p x) refl (All-head P x xs all) (each_passed p P xs (All-tail P x xs all))
  where
    by_test : (b : Bool) → p x ≡ b → P x → All (λ x. P x × (p x ≡ true)) (filter p xs) →
        All (λ x. P x × (p x ≡ true)) (cond b (x ∷ filter p xs) (filter p xs))
    by_test true passes is rest = All-cons (λ x. P x × (p x ≡ true)) x (filter p xs) (is, passes) rest
    by_test false fails is rest = rest

doubt_holds : (at : ℕ → World) (addr : ℕ) (x : Span) → All (Holds at addr) (doubted addr x ∷ [])
doubt_holds at addr x = All-cons (Holds at addr) (doubted addr x) [] tt (All-nil (Holds at addr))

turned_holds : (at : ℕ → World) (addr : ℕ) (s : Shown) (now : World) (x : Span) → Shows s now → SpanIn at now x →
    waits x ≡ true → All (Holds at addr) (turned addr s x)
turned_holds at addr (Read c) now x shows is waiting = doubt_holds at addr x
turned_holds at addr (Masked mask) now x shows is waiting = by_mask (mask == 0) refl
  where
    by_mask : (b : Bool) → (mask == 0) ≡ b → All (Holds at addr) (cond b [] (surely addr x ∷ []))
    by_mask true none = All-nil (Holds at addr)
    by_mask false some =
        All-cons (Holds at addr) (surely addr x) []
        (refl, sure_span at now x is waiting (λ zero. true≢false (sym (eq-eqb mask 0 (shows ∙ zero)) ∙ some)))
        (All-nil (Holds at addr))
turned_holds at addr Set now x shows is waiting = doubt_holds at addr x
turned_holds at addr Nothing now x shows is waiting = All-nil (Holds at addr)

refused_holds : (at : ℕ → World) (addr : ℕ) (x : Span) → All (Holds at addr) (refused addr x)
refused_holds at addr x = by_test (is_whole x)
  where
    by_test : (b : Bool) → All (Holds at addr) (cond b [] (doubted addr x ∷ []))
    by_test true = All-nil (Holds at addr)
    by_test false = doubt_holds at addr x

each_refused : (at : ℕ → World) (addr : ℕ) (xs : List Span) → All (Holds at addr) (flat_map (refused addr) xs)
each_refused at addr [] = All-nil (Holds at addr)
each_refused at addr (x ∷ xs) =
    All-append (Holds at addr) (refused addr x) (flat_map (refused addr) xs) (refused_holds at addr x)
    (each_refused at addr xs)

said_holds : (at : ℕ → World) (addr : ℕ) (s : Shown) (past : List Shown) (now : World) → Shows s now →
    Runs at past now → All (Holds at addr) (said_at addr s past)
said_holds at addr s past now shows runs =
    let new = spans_by s (last_reading past) (suc (length past)) in
    All-append (Holds at addr) (flat_map (turned addr s) (reverse (filter waits (spans past)))) (flat_map (refused addr) new)
    (each_said (λ x. SpanIn at now x × (waits x ≡ true)) (Holds at addr) (turned addr s)
    (λ x is. turned_holds at addr s now x shows is.0 is.1) (reverse (filter waits (spans past)))
    (each_turned (λ x. SpanIn at now x × (waits x ≡ true)) (filter waits (spans past))
    (each_passed waits (SpanIn at now) (spans past) (all_spans at past now runs))))
    (each_refused at addr new)

pub said_true : (at : ℕ → World) (addr : ℕ) (shows : List Shown) (now : World) → Runs at shows now →
    All (Holds at addr) (all_said addr shows)
said_true at addr [] now runs = All-nil (Holds at addr)
said_true at addr (s ∷ past) now runs =
    All-append (Holds at addr) (all_said addr past) (said_at addr s past)
    (said_true at addr past (at (suc (length past))) runs.2)
    (said_holds at addr s past (at (suc (length past))) runs.0 runs.2)
