-- Whole echoes and damaged ones.
use Rattle.std.proofs.Common.{◌≡◌, ◌⊎◌, inl, inr, ℕ, ◌+◌, ◌<◌, ◌≤◌, ◌==◌, Bool, true, false, cond, List, [], ◌∷◌, ◌++◌, length, drop, Option, None, Some, refl, arith, eq-eqb}
use Rattle.std.proofs.lemmas.Bool.{eqb-true, cases_lt}
use Rattle.std.proofs.Math.ListN.{drop_of_length-le}
use Rattle.cct_model_wire.specs.Exchange.{after_echo}
use Rattle.cct_wire.specs.Echo.{echo_place}

ends_at_once : (sent : List ℕ) → echo_place sent [] ≡ 0
ends_at_once [] = refl
ends_at_once (s ∷ sent) = refl

-- where nothing more was heard, the echo ends at once
pub no_further : (sent heard : List ℕ) (at : ℕ) → length heard ≤ at → echo_place (drop at sent) (drop at heard) ≡ 0
no_further sent heard at end = rw (drop_of_length-le heard end) (ends_at_once (drop at sent))

past_end : (agree : Bool) (place n : ℕ) → place ≤ n → cond agree (place + 1) 0 ≤ n + 1
past_end true place n h = omega arith
past_end false place n h = omega arith

-- the place of the first damage is not past the end of what was heard
pub place_heard : (sent heard : List ℕ) → echo_place sent heard ≤ length heard
place_heard [] heard = omega arith
place_heard (s ∷ sent) [] = omega arith
place_heard (s ∷ sent) (h ∷ heard) =
    let step = past_end (s == h) (echo_place sent heard) (length heard) (place_heard sent heard) in
    omega arith

whole_step : (agree : Bool) (place n : ℕ) (after rest : Option (List ℕ)) → (n ≤ place → after ≡ rest) → n + 1 ≤ cond agree (place + 1) 0 → cond agree after None ≡ rest
whole_step true place n after rest h whole = h (omega arith)
whole_step false place n after rest h whole = absurd (omega arith)

-- an echo whose first damage is past its end is whole
pub rest_is : (sent heard : List ℕ) → length sent ≤ echo_place sent heard → after_echo sent heard ≡ Some (drop (length sent) heard)
unfolding after_echo
rest_is [] heard whole = refl
rest_is (s ∷ sent) [] whole = absurd (omega arith)
rest_is (s ∷ sent) (h ∷ heard) whole =
    whole_step (s == h) (echo_place sent heard) (length sent) (after_echo sent heard) (Some (drop (length sent) heard)) (rest_is sent heard) (omega arith)

damaged_step : (agree : Bool) (place n : ℕ) (after : Option (List ℕ)) → (place < n → after ≡ None) → cond agree (place + 1) 0 < n + 1 → cond agree after None ≡ None
damaged_step true place n after h damaged = h (omega arith)
damaged_step false place n after h damaged = refl

-- an echo whose first damage is before its end is not
pub none_is : (sent heard : List ℕ) → echo_place sent heard < length sent → after_echo sent heard ≡ None
unfolding after_echo
none_is [] heard damaged = absurd (omega arith)
none_is (s ∷ sent) [] damaged = refl
none_is (s ∷ sent) (h ∷ heard) damaged =
    damaged_step (s == h) (echo_place sent heard) (length sent) (after_echo sent heard) (none_is sent heard) (omega arith)

within_cases : (sent heard : List ℕ) → after_echo sent heard ≡ None → (echo_place sent heard < length sent) ⊎ (length sent ≤ echo_place sent heard) → echo_place sent heard < length sent
within_cases sent heard none (inl within) = within
within_cases sent heard none (inr whole) = let some = rest_is sent heard whole in cc

-- a damaged echo has its first damage before its end
pub place_within : (sent heard : List ℕ) → after_echo sent heard ≡ None → echo_place sent heard < length sent
place_within sent heard none = within_cases sent heard none (cases_lt (echo_place sent heard) (length sent))

-- what follows an echo is what is heard after it
pub whole_is : (sent rest : List ℕ) → after_echo sent (sent ++ rest) ≡ Some rest
unfolding after_echo
whole_is [] rest = refl
whole_is (s ∷ sent) rest = rw (eq-eqb s s refl) (whole_is sent rest)

passed : (agree : Bool) (after : Option (List ℕ)) (rest : List ℕ) → cond agree after None ≡ Some rest → (agree ≡ true) × (after ≡ Some rest)
passed true after rest e = (refl, e)
passed false after rest e = cc

pub only_is : (sent heard rest : List ℕ) → after_echo sent heard ≡ Some rest → heard ≡ sent ++ rest
unfolding after_echo
only_is [] heard rest e = cc
only_is (s ∷ sent) [] rest e = cc
only_is (s ∷ sent) (h ∷ heard) rest e =
    let known = passed (s == h) (after_echo sent heard) rest e in
    let same : s ≡ h = eqb-true _ _ known.0 in
    let behind : heard ≡ sent ++ rest = only_is sent heard rest known.1 in
    cc
