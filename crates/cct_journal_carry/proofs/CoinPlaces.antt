-- The search for a coin place without a value.
use Rattle.std.proofs.Common.{◌≡◌, ℕ, zero, suc, ◌+◌, ◌-◌, ◌<◌, ◌≤◌, ◌==◌, ◌&&◌, inl, inr, Bool, true, false, cond, ◌∷◌, drop, get_or, refl, ap, ◌∙◌, Option, Some, None, sym, arith}
use Rattle.std.specs.List.{find}
use Rattle.std.proofs.lemmas.Bool.{cases_eq, eqb-true}
use Rattle.std.proofs.lemmas.List.{drop_more}
use Rattle.cct_model.specs.terms.device.DeviceBody.{DeviceBody}
use Rattle.cct_model.specs.Job.{coin_places}
use Rattle.cct_journal_carry.specs.CoinPlaces.{lacks}

-- the first such place from one on
abbrev pub found_from : DeviceBody → ℕ → ℕ → Option ℕ
found_from body mask place = find (lacks body mask) (drop (place - 1) coin_places)

abbrev are_numbered : ℕ → Bool
are_numbered zero = true
are_numbered (suc n) = (get_or coin_places n 0 == suc n) && are_numbered n

both_true : (a b : Bool) → (a && b) ≡ true → (a ≡ true) × (b ≡ true)
both_true true b e = (refl, e)
both_true false b e = absurd cc

numbered : (n : ℕ) → are_numbered n ≡ true → (k : ℕ) → k < n → get_or coin_places k 0 ≡ suc k
numbered zero all k below = absurd (omega arith)
numbered (suc n) all k below =
    let both = both_true (get_or coin_places n 0 == suc n) (are_numbered n) all in
    elim (cases_eq k n) [ inl same ↦ rw same (eqb-true _ _ both.0) | inr other ↦ numbered n both.1 k (omega arith) ]

places_from : (n : ℕ) → n < 16 → drop n coin_places ≡ suc n ∷ drop (n + 1) coin_places
places_from n below = drop_more coin_places n 0 below
    ∙ ap (λ p. p ∷ drop (n + 1) coin_places) (numbered 16 refl n below)

place_first : (place : ℕ) → 1 ≤ place → place ≤ 16
    → drop (place - 1) coin_places ≡ place ∷ drop (place + 1 - 1) coin_places
place_first place low high =
    let below : place - 1 < 16 = omega (arith, low, high) in
    let same : suc (place - 1) ≡ place = omega (arith, low) in
    let next : place - 1 + 1 ≡ place + 1 - 1 = omega (arith, low) in
    places_from (place - 1) below ∙ ap (λ p. p ∷ drop (place - 1 + 1) coin_places) same
    ∙ ap (λ n. place ∷ drop n coin_places) next

-- it is this one, or it is looked for after it
pub found_here : (body : DeviceBody) (mask place : ℕ) → 1 ≤ place → place ≤ 16 → lacks body mask place ≡ true
    → found_from body mask place ≡ Some place
found_here body mask place low high test =
    ap (find (lacks body mask)) (place_first place low high)
    ∙ ap (λ b. cond b (Some place) (found_from body mask (place + 1))) test

pub found_behind : (body : DeviceBody) (mask place : ℕ) → 1 ≤ place → place ≤ 16 → lacks body mask place ≡ false
    → found_from body mask (place + 1) ≡ found_from body mask place
found_behind body mask place low high test =
    sym (ap (find (lacks body mask)) (place_first place low high)
    ∙ ap (λ b. cond b (Some place) (found_from body mask (place + 1))) test)

-- after the last one there is none
pub found_nowhere : (body : DeviceBody) (mask place : ℕ) → found_from body mask place ≡ found_from body mask 1
    → place ≡ 17 → None ≡ found_from body mask 1
found_nowhere body mask place found last = sym (ap (found_from body mask) last) ∙ found
