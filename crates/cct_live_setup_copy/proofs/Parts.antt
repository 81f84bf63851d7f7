-- The text of a list is that of its first and those of the others.
use Rattle.std.proofs.Common.{◌≡◌, ◌≤◌, ℕ, ◌+◌, ◌-◌, List, [], ◌∷◌, ◌++◌, length, take, drop, get_or, arith, refl}
use Rattle.std.proofs.Math.Seq.{take-length}
use Rattle.cct_model_lines.specs.terms.device.DeviceSetup.{DeviceSetup}
use Rattle.cct_live_setup_copy.specs.Text.{device_text, devices_text, places_text, value_text}

-- the others of a list, whose number is reported by the length
others_whole : {X : Type 0} (x : X) (xs : List X) → take (length (x ∷ xs) - 1) xs ≡ xs
others_whole x xs =
    let less : length (x ∷ xs) - 1 ≡ length xs = omega arith in rw less (take-length xs)

pub devices_parts : (devices : List DeviceSetup) (d : DeviceSetup) → 1 ≤ length devices → d ≡ get_or devices 0 d
    → devices_text devices ≡ device_text d ++ devices_text (take (length devices - 1) (drop 1 devices))
devices_parts [] d some is = absurd (omega (arith, some))
devices_parts (x ∷ devices) d some is = rw (is, others_whole x devices) refl

pub places_parts : (addr place : ℕ) (values : List ℕ) (ids : List (List ℕ)) → 1 ≤ length values → 1 ≤ length ids
    → places_text addr place values ids ≡ value_text addr place (get_or values 0 0) (get_or ids 0 [])
    ++ places_text addr (place + 1) (take (length values - 1) (drop 1 values)) (take (length ids - 1) (drop 1 ids))
places_parts addr place [] ids some named = absurd (omega (arith, some))
places_parts addr place (v ∷ values) [] some named = absurd (omega (arith, named))
places_parts addr place (v ∷ values) (id ∷ ids) some named = rw (others_whole v values, others_whole id ids) refl
