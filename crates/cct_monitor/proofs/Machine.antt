-- What is kept of an acceptor is enough to say what is to be said of it.
use Rattle.std.proofs.Common.{◌≡◌, ℕ, suc, ◌==◌, ◌&&◌, ◌||◌, not, Bool, true, false, cond, List, [], ◌∷◌, ◌++◌, map, filter, flat_map, length, reverse, refl, sym, ap, ap₂, ◌∙◌, append-nil, Option, Some, None}
use Rattle.std.specs.List.{list_any}
use Rattle.cct_model.specs.terms.coin.Credits.{Credits}
use Rattle.cct_model.specs.Reading.{distance}
use Rattle.cct_audit_taps.specs.declared.shown.Shown.{Shown}
use Rattle.cct_audit_taps.specs.declared.shown.Shown.TheVariants.{Read, Masked, Set, Nothing}
use Rattle.cct_audit_taps.specs.declared.said.Said.{Said}
use Rattle.cct_monitor.specs.declared.acceptor.LastReading.{LastReading}
use Rattle.cct_monitor.specs.declared.acceptor.WaitingSpan.{WaitingSpan}
use Rattle.cct_monitor.specs.Spans.{Reading, Span, after_it, doubted, goes_on, is_set, is_whole, last_reading, leaves_open, new_reading, quiet_at, quietly, refused, said_at, said_last, spans, spans_by, turned, waits}
use Rattle.cct_monitor.specs.Lives.{last_life}
use Rattle.cct_monitor.specs.Machine.{acceptor_after, acceptor_says, after_setting, doubt_new, doubt_waiting, life_on, quiet_after, quiet_says, sure_waiting, waiting_new}

-- the last reading, as it is kept
abbrev last_as : Option Reading → Option LastReading
last_as None = None
last_as (Some r) =
    Some (record { number = r.number; counter = r.credits.counter; was_set = list_any is_set r.after })

unset : (s : Shown) (found : Option Reading) → is_set s ≡ false → last_as (after_it s found) ≡ last_as found
unset s None no_set = refl
unset s (Some r) no_set =
    ap (λ b. Some (record { number = r.number; counter = r.credits.counter; was_set = b || list_any is_set r.after }))
    no_set

after_set : (found : Option Reading) → after_setting (last_as found) ≡ last_as (after_it Set found)
after_set None = refl
after_set (Some r) = refl

last_kept : (past : List Shown) → (acceptor_after past).last ≡ last_as (last_reading past)
last_kept [] = refl
last_kept (Read c ∷ past) = refl
last_kept (Masked mask ∷ past) = last_kept past ∙ sym (unset (Masked mask) (last_reading past) refl)
last_kept (Set ∷ past) =
    ap after_setting (last_kept past) ∙ after_set (last_reading past)
last_kept (Nothing ∷ past) = last_kept past ∙ sym (unset Nothing (last_reading past) refl)

-- a span that waits, as it is kept
abbrev waiting_as : Span → WaitingSpan
waiting_as span = record {
  first = span.first.number;
  last = span.last.number;
  new_events = distance span.first.credits.counter span.last.credits.counter;
  credits = span.last.credits;
}

abbrev listed : Option WaitingSpan → List WaitingSpan
listed None = []
listed (Some span) = span ∷ []

-- a tap that ends windows leaves no older span that waits
ended : (whole is_open more : Bool) → is_open ≡ false → (whole && not (not is_open || more)) ≡ false
ended true true more closed = absurd cc
ended true false more closed = refl
ended false is_open more closed = refl

pub none_waits : (s : Shown) (xs : List Span) → leaves_open s ≡ false → filter waits (map (goes_on s) xs) ≡ []
none_waits s [] closed = refl
none_waits s (x ∷ xs) closed =
    ap (λ b. cond b (goes_on s x ∷ filter waits (map (goes_on s) xs)) (filter waits (map (goes_on s) xs)))
    (ended (is_whole x) (leaves_open s) (list_any (λ s. not (leaves_open s)) x.last.after) closed)
    ∙ none_waits s xs closed

-- any other leaves those that wait
stays : (whole is_open more : Bool) → is_open ≡ true → (whole && not (not is_open || more)) ≡ (whole && not more)
stays whole true more opened = refl
stays whole false more opened = absurd cc

by_test : (s : Shown) (x : Span) (now before : Bool) (xs ys : List Span) → now ≡ before → xs ≡ map (goes_on s) ys →
    cond now (goes_on s x ∷ xs) xs ≡ map (goes_on s) (cond before (x ∷ ys) ys)
by_test s x true true xs ys same rest = ap (λ zs. goes_on s x ∷ zs) rest
by_test s x true false xs ys same rest = absurd cc
by_test s x false true xs ys same rest = absurd cc
by_test s x false false xs ys same rest = rest

pub all_wait : (s : Shown) (xs : List Span) → leaves_open s ≡ true →
    filter waits (map (goes_on s) xs) ≡ map (goes_on s) (filter waits xs)
all_wait s [] opened = refl
all_wait s (x ∷ xs) opened =
    by_test s x (waits (goes_on s x)) (waits x) (filter waits (map (goes_on s) xs)) (filter waits xs)
    (stays (is_whole x) (leaves_open s) (list_any (λ s. not (leaves_open s)) x.last.after) opened)
    (all_wait s xs opened)

same_kept : (s : Shown) (xs : List Span) → map waiting_as (map (goes_on s) xs) ≡ map waiting_as xs
same_kept s [] = refl
same_kept s (x ∷ xs) = ap (λ ys. waiting_as x ∷ ys) (same_kept s xs)

-- the span of a new reading
new_span : (whole : Bool) (x : Span) (xs : List Span) → xs ≡ [] →
    map waiting_as (cond (whole && true) (x ∷ xs) xs) ≡ listed (cond whole (Some (waiting_as x)) None)
new_span true x xs none = ap (λ ys. waiting_as x ∷ map waiting_as ys) none
new_span false x xs none = ap (map waiting_as) none

after_read : (c : Credits) (number : ℕ) (found : Option Reading) (xs : List Span) → filter waits xs ≡ [] →
    map waiting_as (filter waits (spans_by (Read c) found number ++ xs))
    ≡ listed (waiting_new number c (last_as found))
after_read c number None xs none = ap (map waiting_as) none
after_read c number (Some r) xs none =
    let x : Span = record { first = r; last = new_reading number c } in
    new_span (is_whole x) x (filter waits xs) none

waiting_kept : (past : List Shown) → map waiting_as (filter waits (spans past)) ≡ listed (acceptor_after past).waiting
waiting_kept [] = refl
waiting_kept (Read c ∷ past) =
    after_read c (suc (length past)) (last_reading past) (map (goes_on (Read c)) (spans past))
    (none_waits (Read c) (spans past) refl)
    ∙ ap (λ found. listed (waiting_new (suc (length past)) c found)) (sym (last_kept past))
waiting_kept (Masked mask ∷ past) = by_mask (mask == 0) refl (waiting_kept past)
  where
    by_mask : (is_zero : Bool) → (mask == 0) ≡ is_zero →
        map waiting_as (filter waits (spans past)) ≡ listed (acceptor_after past).waiting →
        map waiting_as (filter waits (map (goes_on (Masked mask)) (spans past)))
        ≡ listed (cond is_zero (acceptor_after past).waiting None)
    by_mask true test before =
        ap (map waiting_as) (all_wait (Masked mask) (spans past) test)
        ∙ same_kept (Masked mask) (filter waits (spans past))
        ∙ before
    by_mask false test before = ap (map waiting_as) (none_waits (Masked mask) (spans past) test)
waiting_kept (Set ∷ past) = ap (map waiting_as) (none_waits Set (spans past) refl)
waiting_kept (Nothing ∷ past) =
    ap (map waiting_as) (all_wait Nothing (spans past) refl)
    ∙ same_kept Nothing (filter waits (spans past))
    ∙ waiting_kept past

-- what is said of each span that waits is said of the one that is kept
said_of_one : (f : Span → List Said) (g : Option WaitingSpan → List Said) → ((x : Span) → f x ≡ g (Some (waiting_as x))) →
    g None ≡ [] → (xs : List Span) (kept : Option WaitingSpan) → map waiting_as xs ≡ listed kept →
    flat_map f (reverse xs) ≡ g kept
said_of_one f g same none [] None is = sym none
said_of_one f g same none [] (Some span) is = absurd cc
said_of_one f g same none (x ∷ []) None is = absurd cc
said_of_one f g same none (x ∷ []) (Some span) is =
    let own : waiting_as x ≡ span = cc in
    append-nil (f x) ∙ same x ∙ ap (λ y. g (Some y)) own
said_of_one f g same none (x ∷ y ∷ xs) None is = absurd cc
said_of_one f g same none (x ∷ y ∷ xs) (Some span) is = absurd cc

new_doubt : (addr number : ℕ) (c : Credits) (found : Option Reading) →
    flat_map (refused addr) (spans_by (Read c) found number) ≡ doubt_new addr number c (last_as found)
new_doubt addr number c None = refl
new_doubt addr number c (Some r) =
    let x : Span = record { first = r; last = new_reading number c } in
    append-nil (refused addr x)

abbrev no_saying : List Said
no_saying = []

if_none : (b : Bool) → cond b no_saying no_saying ≡ no_saying
if_none true = refl
if_none false = refl

-- what a tap makes said of an acceptor
pub says_is : (addr : ℕ) (s : Shown) (past : List Shown) →
    acceptor_says addr s (suc (length past)) (acceptor_after past) ≡ said_at addr s past
says_is addr (Read c) past =
    let older : flat_map (turned addr (Read c)) (reverse (filter waits (spans past)))
    ≡ doubt_waiting addr (acceptor_after past).waiting =
    said_of_one (turned addr (Read c)) (doubt_waiting addr) (λ x. refl) refl (filter waits (spans past))
    (acceptor_after past).waiting (waiting_kept past) in
    let newer : flat_map (refused addr) (spans_by (Read c) (last_reading past) (suc (length past)))
    ≡ doubt_new addr (suc (length past)) c (acceptor_after past).last =
    new_doubt addr (suc (length past)) c (last_reading past)
    ∙ ap (doubt_new addr (suc (length past)) c) (sym (last_kept past)) in
    ap₂ (λ xs ys. xs ++ ys) (sym older) (sym newer)
says_is addr (Masked mask) past =
    let older : flat_map (turned addr (Masked mask)) (reverse (filter waits (spans past)))
    ≡ cond (mask == 0) [] (sure_waiting addr (acceptor_after past).waiting) =
    said_of_one (turned addr (Masked mask)) (λ kept. cond (mask == 0) [] (sure_waiting addr kept)) (λ x. refl)
    (if_none (mask == 0)) (filter waits (spans past)) (acceptor_after past).waiting (waiting_kept past) in
    sym (append-nil (flat_map (turned addr (Masked mask)) (reverse (filter waits (spans past)))) ∙ older)
says_is addr Set past =
    let older : flat_map (turned addr Set) (reverse (filter waits (spans past)))
    ≡ doubt_waiting addr (acceptor_after past).waiting =
    said_of_one (turned addr Set) (doubt_waiting addr) (λ x. refl) refl (filter waits (spans past))
    (acceptor_after past).waiting (waiting_kept past) in
    sym (append-nil (flat_map (turned addr Set) (reverse (filter waits (spans past)))) ∙ older)
says_is addr Nothing past =
    let older : flat_map (turned addr Nothing) (reverse (filter waits (spans past))) ≡ no_saying =
    said_of_one (turned addr Nothing) (λ kept. []) (λ x. refl) refl (filter waits (spans past))
    (acceptor_after past).waiting (waiting_kept past) in
    sym (append-nil (flat_map (turned addr Nothing) (reverse (filter waits (spans past)))) ∙ older)

map_one : (addr : ℕ) (xs : List Span) (kept : Option WaitingSpan) → map waiting_as xs ≡ listed kept →
    map (doubted addr) (reverse xs) ≡ doubt_waiting addr kept
map_one addr [] None is = refl
map_one addr [] (Some span) is = absurd cc
map_one addr (x ∷ []) None is = absurd cc
map_one addr (x ∷ []) (Some span) is =
    let own : waiting_as x ≡ span = cc in
    ap (λ y. doubt_waiting addr (Some y)) own
map_one addr (x ∷ y ∷ xs) None is = absurd cc
map_one addr (x ∷ y ∷ xs) (Some span) is = absurd cc

-- what is said at the end
pub ends_is : (addr : ℕ) (past : List Shown) → doubt_waiting addr (acceptor_after past).waiting ≡ said_last addr past
ends_is addr past =
    sym (map_one addr (filter waits (spans past)) (acceptor_after past).waiting (waiting_kept past))

-- the last reading of an acceptor that is watched for resets alone
pub quiet_kept : (past : List Shown) → quiet_after past ≡ last_as (last_reading past)
quiet_kept [] = refl
quiet_kept (Read c ∷ past) = refl
quiet_kept (Masked mask ∷ past) = quiet_kept past ∙ sym (unset (Masked mask) (last_reading past) refl)
quiet_kept (Set ∷ past) = ap after_setting (quiet_kept past) ∙ after_set (last_reading past)
quiet_kept (Nothing ∷ past) = quiet_kept past ∙ sym (unset Nothing (last_reading past) refl)

quiet_new_is : (addr number : ℕ) (c : Credits) (found : Option Reading) →
    quiet_says addr (Read c) number (last_as found) ≡ map (quietly addr) (spans_by (Read c) found number)
quiet_new_is addr number c None = refl
quiet_new_is addr number c (Some r) = refl

-- what a tap makes said of it
pub quiet_is : (addr : ℕ) (s : Shown) (past : List Shown) →
    quiet_says addr s (suc (length past)) (quiet_after past) ≡ quiet_at addr s past
quiet_is addr (Read c) past =
    ap (quiet_says addr (Read c) (suc (length past))) (quiet_kept past)
    ∙ quiet_new_is addr (suc (length past)) c (last_reading past)
quiet_is addr (Masked mask) past = refl
quiet_is addr Set past = refl
quiet_is addr Nothing past = refl

-- the last life count goes on by a tap
pub life_is : (s : Option ℕ) (past : List (Option ℕ)) →
    life_on s (suc (length past)) (last_life past) ≡ last_life (s ∷ past)
life_is None past = refl
life_is (Some count) past = refl
