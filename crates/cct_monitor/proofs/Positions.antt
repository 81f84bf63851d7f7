-- A tap concerns the one device that it is for.
use Rattle.std.proofs.Common.{◌≡◌, ◌≢◌, ℕ, zero, suc, ◌<◌, nat_lt, ◌==◌, ◌&&◌, ◌||◌, not, Bool, true, false, cond, List, [], ◌∷◌, ◌++◌, map, flat_map, length, get_or, set, position, refl, sym, ap, ap₂, subst, ◌∙◌, append-nil, Option, Some, None, arith, true≢false}
use Rattle.std.specs.Prelude.{slice_get, slice_index}
use Rattle.std.specs.List.{list_any, position_or_len}
use Rattle.std.proofs.lemmas.Bool.{and_parts, or_parts, eqb-true, eq-eqb, ne_eqb}
use Rattle.std.proofs.lemmas.Bool.Decides.{nat_tests}
use Rattle.std.proofs.lemmas.List.Quantifiers.{position-Some}
use Rattle.std.proofs.lemmas.List.Sums.{fails_before_first}
use Rattle.std.proofs.lemmas.Option.{slice_get-get_or}
use Rattle.cct_audit_taps.specs.declared.said.Said.{Said}
use Rattle.cct_monitor.specs.declared.watched.Watched.{Watched}
use Rattle.cct_audit_taps.specs.Taps.{Tap, tap_of}
use Rattle.cct_monitor.specs.Machine.{says_on, watched_on}
use Rattle.cct_monitor.specs.Places.{are_apart, has_addr}
use Rattle.cct_monitor.proofs.Elsewhere.{PassesBy, nothing_passes, other_passes}

-- what a tap makes of all devices
abbrev all_on : Tap → ℕ → List Watched → List Watched
all_on t number ws = map (watched_on t number) ws

abbrev all_say : Tap → ℕ → List Watched → List Said
all_say t number ws = flat_map (says_on t number) ws

-- it passes by all
pub record PassesAll (t : Tap) (number : ℕ) (ws : List Watched) : Type 0 where
  pub same : all_on t number ws ≡ ws
  pub silent : all_say t number ws ≡ []

pass_more : (t : Tap) (number : ℕ) (w : Watched) (ws : List Watched) → PassesBy t number w → PassesAll t number ws →
    PassesAll t number (w ∷ ws)
pass_more t number w ws one rest = record {
  same = ap₂ (λ x xs. x ∷ xs) one.same rest.same;
  silent = ap₂ (λ xs ys. xs ++ ys) one.silent rest.silent;
}

pub nothing_sent : (heard : List ℕ) (number : ℕ) (ws : List Watched) → PassesAll (tap_of [] heard) number ws
nothing_sent heard number [] = record { same = refl; silent = refl }
nothing_sent heard number (w ∷ ws) =
    pass_more (tap_of [] heard) number w ws (nothing_passes heard number w) (nothing_sent heard number ws)

pub swapped : (a b : ℕ) → (a == b) ≡ false → (b == a) ≡ false
swapped a b other = ne_eqb b a (λ same. true≢false (sym (eq-eqb a b (sym same)) ∙ other))

other_at : (to : ℕ) (rest heard : List ℕ) (number : ℕ) (w : Watched) → has_addr to w ≡ false →
    PassesBy (tap_of (to ∷ rest) heard) number w
other_at to rest heard number w other = other_passes to rest heard number w other (swapped w.addr to other)

pub others_pass : (to : ℕ) (rest heard : List ℕ) (number : ℕ) (ws : List Watched) →
    list_any (has_addr to) ws ≡ false →
    PassesAll (tap_of (to ∷ rest) heard) number ws
others_pass to rest heard number [] others = record { same = refl; silent = refl }
others_pass to rest heard number (w ∷ ws) others =
    let parts = or_parts (has_addr to w) (list_any (has_addr to) ws) others in
    pass_more (tap_of (to ∷ rest) heard) number w ws (other_at to rest heard number w parts.0)
    (others_pass to rest heard number ws parts.1)

-- none is where the test has no position
none_before : (p : Watched → Bool) (xs : List Watched) →
    ((k : ℕ) (x : Watched) → k < length xs → p (get_or xs k x) ≡ false) → list_any p xs ≡ false
none_before p [] fails = refl
none_before p (x ∷ xs) fails =
    ap (λ b. b || list_any p xs) (fails 0 x (omega arith))
    ∙ none_before p xs (λ k y below. fails (suc k) y (omega arith))

pub past_all : (below : Bool) (i : ℕ) → cond below (Some i) None ≡ None → below ≡ false
past_all true i none = absurd cc
past_all false i none = refl

pub none_there : (p : Watched → Bool) (xs : List Watched) → position p xs ≡ None → list_any p xs ≡ false
none_there p xs none =
    let test : nat_lt (position_or_len p xs) (length xs) ≡ false = past_all (nat_lt (position_or_len p xs) (length xs)) (position_or_len p xs) none in
    none_before p xs (λ k x below. fails_before_first p xs k x (grind (arith, nat_tests)))

pub tap_elsewhere : (to : ℕ) (rest heard : List ℕ) (number : ℕ) (ws : List Watched) →
    position (has_addr to) ws ≡ None →
    PassesAll (tap_of (to ∷ rest) heard) number ws
tap_elsewhere to rest heard number ws none =
    others_pass to rest heard number ws (none_there (has_addr to) ws none)

-- one that passes a test is among those
any_at : (p : Watched → Bool) (xs : List Watched) (i : ℕ) (x : Watched) → slice_get xs i ≡ Some x → p x ≡ true →
    list_any p xs ≡ true
any_at p [] i x is passes = absurd cc
any_at p (y ∷ ys) zero x is passes =
    let same : y ≡ x = cc in
    ap (λ b. b || list_any p ys) (ap p same ∙ passes)
any_at p (y ∷ ys) (suc i) x is passes = by_here (p y) (any_at p ys i x is passes)
  where
    by_here : (here : Bool) → list_any p ys ≡ true → (here || list_any p ys) ≡ true
    by_here true rest = refl
    by_here false rest = rest

is_none : (b : Bool) → not b ≡ true → b ≡ false
is_none true fails = absurd cc
is_none false fails = refl

-- the device at a place is for whom a tap is: it alone changes, and it alone makes something said
pub record ConcernsOne (t : Tap) (number : ℕ) (ws : List Watched) (i : ℕ) (w : Watched) : Type 0 where
  pub same : set ws i (watched_on t number w) ≡ all_on t number ws
  pub says : says_on t number w ≡ all_say t number ws

concerns : (to : ℕ) (rest heard : List ℕ) (number : ℕ) (ws : List Watched) (i : ℕ) (w : Watched) →
    slice_get ws i ≡ Some w → has_addr to w ≡ true → are_apart ws ≡ true →
    ConcernsOne (tap_of (to ∷ rest) heard) number ws i w
concerns to rest heard number [] i w is own apart = absurd cc
concerns to rest heard number (v ∷ ws) zero w is own apart =
    let here : v ≡ w = cc in
    let parts = and_parts (not (list_any (has_addr v.addr) ws)) (are_apart ws) apart in
    let addr : v.addr ≡ to = ap (λ (x : Watched). x.addr) here ∙ eqb-true w.addr to own in
    let others : list_any (has_addr to) ws ≡ false =
    subst (λ a. list_any (has_addr a) ws ≡ false) addr (is_none (list_any (has_addr v.addr) ws) parts.0) in
    let passes = others_pass to rest heard number ws others in
    record {
      same = ap₂ (λ x xs. x ∷ xs) (ap (watched_on (tap_of (to ∷ rest) heard) number) (sym here)) (sym passes.same);
      says = sym (ap (λ xs. says_on (tap_of (to ∷ rest) heard) number v ++ xs) passes.silent
          ∙ append-nil (says_on (tap_of (to ∷ rest) heard) number v)
          ∙ ap (says_on (tap_of (to ∷ rest) heard) number) here);
    }
concerns to rest heard number (v ∷ ws) (suc i) w is own apart =
    let parts = and_parts (not (list_any (has_addr v.addr) ws)) (are_apart ws) apart in
    let others : list_any (has_addr v.addr) ws ≡ false = is_none (list_any (has_addr v.addr) ws) parts.0 in
    let differs : v.addr ≢ to =
    λ addr. true≢false (sym (any_at (has_addr v.addr) ws i w is (eq-eqb w.addr v.addr (eqb-true w.addr to own ∙ sym addr)))
    ∙ others) in
    let one = other_at to rest heard number v (ne_eqb v.addr to differs) in
    let found = concerns to rest heard number ws i w is own parts.1 in
    record {
      same = ap₂ (λ x xs. x ∷ xs) (sym one.same) found.same;
      says = found.says ∙ sym (ap (λ xs. xs ++ all_say (tap_of (to ∷ rest) heard) number ws) one.silent);
    }

pub tap_there : (to : ℕ) (rest heard : List ℕ) (number : ℕ) (ws : List Watched) (i : ℕ) (w : Watched) →
    position (has_addr to) ws ≡ Some i → get_or ws i w ≡ w → are_apart ws ≡ true →
    ConcernsOne (tap_of (to ∷ rest) heard) number ws i w
tap_there to rest heard number ws i w found here apart =
    let known = position-Some (has_addr to) ws i w found in
    concerns to rest heard number ws i w (slice_get-get_or ws i w known.0 ∙ ap Some here)
    (sym (ap (has_addr to) here) ∙ known.1) apart

-- addresses stay
pub any_on : (t : Tap) (number addr : ℕ) (ws : List Watched) →
    list_any (has_addr addr) (all_on t number ws) ≡ list_any (has_addr addr) ws
any_on t number addr [] = refl
any_on t number addr (w ∷ ws) = ap (λ b. (w.addr == addr) || b) (any_on t number addr ws)

pub apart_on : (t : Tap) (number : ℕ) (ws : List Watched) → are_apart (all_on t number ws) ≡ are_apart ws
apart_on t number [] = refl
apart_on t number (w ∷ ws) =
    ap₂ (λ a b. not a && b) (any_on t number w.addr ws) (apart_on t number ws)

-- the same, of what was sent
pub sent_elsewhere : (sent heard : List ℕ) (number : ℕ) (ws : List Watched) →
    position (has_addr (slice_index sent 0)) ws ≡ None → 0 < length sent → PassesAll (tap_of sent heard) number ws
sent_elsewhere [] heard number ws none some = absurd (omega arith)
sent_elsewhere (to ∷ rest) heard number ws none some = tap_elsewhere to rest heard number ws none

pub sent_there : (sent heard : List ℕ) (number : ℕ) (ws : List Watched) (i : ℕ) (w : Watched) →
    position (has_addr (slice_index sent 0)) ws ≡ Some i → 0 < length sent → get_or ws i w ≡ w → are_apart ws ≡ true →
    ConcernsOne (tap_of sent heard) number ws i w
sent_there [] heard number ws i w found some here apart = absurd (omega arith)
sent_there (to ∷ rest) heard number ws i w found some here apart =
    tap_there to rest heard number ws i w found here apart

pub sent_nothing : (sent heard : List ℕ) (number : ℕ) (ws : List Watched) → length sent ≡ 0 →
    PassesAll (tap_of sent heard) number ws
sent_nothing [] heard number ws none = nothing_sent heard number ws
sent_nothing (to ∷ rest) heard number ws none = absurd (omega arith)

some_sent : (n : ℕ) → (n == 0) ≡ false → 0 < n
some_sent zero none = absurd cc
some_sent (suc n) none = omega arith

-- as the code looks the device up
pub looked_up_none : (sent heard : List ℕ) (number : ℕ) (ws view : List Watched) (found : Option ℕ) →
    (length sent == 0) ≡ false → view ≡ ws → found ≡ position (has_addr (slice_index sent 0)) view → found ≡ None →
    PassesAll (tap_of sent heard) number ws
looked_up_none sent heard number ws view found some same is none =
    sent_elsewhere sent heard number ws (ap (position (has_addr (slice_index sent 0))) (sym same) ∙ sym is ∙ none)
    (some_sent (length sent) some)

pub looked_up_some : (sent heard : List ℕ) (number : ℕ) (ws view : List Watched) (found : Option ℕ) (i : ℕ) (w : Watched) →
    (length sent == 0) ≡ false → view ≡ ws → found ≡ position (has_addr (slice_index sent 0)) view → found ≡ Some i →
    w ≡ get_or view i w → are_apart ws ≡ true →
    ConcernsOne (tap_of sent heard) number ws i w
looked_up_some sent heard number ws view found i w some same is there at apart =
    sent_there sent heard number ws i w (ap (position (has_addr (slice_index sent 0))) (sym same) ∙ sym is ∙ there)
    (some_sent (length sent) some) (sym (at ∙ ap (λ xs. get_or xs i w) same)) apart

pub looked_up_nothing : (sent heard : List ℕ) (number : ℕ) (ws : List Watched) → (length sent == 0) ≡ true →
    PassesAll (tap_of sent heard) number ws
looked_up_nothing sent heard number ws none =
    sent_nothing sent heard number ws (eqb-true (length sent) 0 none)

pub length_on : (t : Tap) (number : ℕ) (ws : List Watched) → length (all_on t number ws) ≡ length ws
length_on t number [] = refl
length_on t number (w ∷ ws) = ap suc (length_on t number ws)
