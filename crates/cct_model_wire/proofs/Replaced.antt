-- Devices that are replaced one after another.
use Rattle.std.proofs.Common.{◌≡◌, ◌≢◌, ℕ, ◌+◌, ◌<◌, ◌==◌, List, [], ◌∷◌, ◌++◌, length, get_or, take, drop, map, if◌then◌else◌, refl, ap, sym, ◌∙◌, arith, eq-eqb}
use Rattle.std.proofs.Math.ListN.{set, length-set}
use Rattle.std.proofs.lemmas.Bool.{ne_eqb}
use Rattle.std.proofs.lemmas.List.{take_more_set, map_more, drop-set-lt, drop_more}
use Rattle.std.proofs.lemmas.Grind.{drop_more_same}
use Rattle.cct_model_wire.specs.declared.device.DeviceSetup.{DeviceSetup}

-- the device, where it has the same address
abbrev pub renewed : DeviceSetup → DeviceSetup → DeviceSetup
renewed device d = if d.addr == device.addr then device else d

-- the first devices are replaced, and the others are as they were
abbrev pub Replaces : DeviceSetup → List DeviceSetup → List DeviceSetup → ℕ → Type 0
Replaces device old now i = (take i now ≡ map (renewed device) (take i old)) × (drop i now ≡ drop i old) × (length now ≡ length old)

pub renewed-here : (device d : DeviceSetup) → d.addr ≡ device.addr → renewed device d ≡ device
renewed-here device d same = rw (eq-eqb d.addr device.addr same) refl

pub renewed-there : (device d : DeviceSetup) → d.addr ≢ device.addr → renewed device d ≡ d
renewed-there device d other = rw (ne_eqb d.addr device.addr other) refl

same_head : (old now : List DeviceSetup) (i : ℕ) (d : DeviceSetup) → i < length old → i < length now → drop i now ≡ drop i old → get_or now i d ≡ get_or old i d
same_head old now i d inside inside_now e =
    let a = drop_more old i d inside in
    let b = drop_more now i d inside_now in
    cc

-- one device more
pub replaces_more : (device : DeviceSetup) (old now after : List DeviceSetup) (i : ℕ) (d y : DeviceSetup) → i < length now → Replaces device old now i → after ≡ set now i y → y ≡ renewed device (get_or now i d) → Replaces device old after (i + 1)
replaces_more device old now after i d y inside h was is =
    let inside_old : i < length old = omega arith in
    let here : y ≡ renewed device (get_or old i d) = is ∙ ap (renewed device) (same_head old now i d inside_old inside h.1) in
    rw was (
      take_more_set now i y inside ∙ ap (λ front. front ++ y ∷ []) h.0
          ∙ ap (λ x. map (renewed device) (take i old) ++ x ∷ []) here ∙ sym (map_more (renewed device) old i d inside_old),
      drop-set-lt (i + 1) now i y (omega arith) ∙ drop_more_same now old i h.1,
      length-set now i y ∙ h.2,
    )
