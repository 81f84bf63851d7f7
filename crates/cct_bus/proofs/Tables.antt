-- The table of the places of devices.
use Rattle.std.proofs.Common.{◌≡◌, ℕ, suc, ◌+◌, ◌<◌, ◌∷◌, Bool, true, false, cond, List, [], length, take, set, get_or, nat_le, Option, Some, None, refl, sym, ap, ◌∙◌, arith}
use Rattle.std.specs.List.{position}
use Rattle.std.specs.Option.{option_map, option_or}
use Rattle.std.proofs.lemmas.List.{length-map, length-take-le, map_more}
use Rattle.std.proofs.lemmas.List.Quantifiers.{position-Some}
use Rattle.cct_model.specs.terms.device.DeviceSetup.{DeviceSetup}
use Rattle.cct_model.specs.Exchange.{by_address, put_by_address}
use Rattle.cct_model_wire.specs.Places.{places_of}
use Rattle.cct_model_wire.specs.Places as wire
use Rattle.cct_model_wire.proofs.Places.{place_at, placed_more, position_cons}
use Rattle.cct_bus.specs.declared.device.Device.{Device}
use Rattle.cct_bus.specs.Device.{setup_in, setups_in}
use Rattle.cct_bus.proofs.Places.{is_at}

-- the first device at an address is where its setup is the first there
pub position_in : (devices : List Device) (addr : ℕ) → position (wire.is_at addr) (setups_in devices) ≡ position (is_at addr) devices
position_in [] addr = refl
position_in (e ∷ es) addr =
    position_cons (wire.is_at addr) (setup_in e) (setups_in es)
    ∙ ap (λ r. cond (is_at addr e) (Some 0) (option_map suc r)) (position_in es addr)
    ∙ sym (position_cons (is_at addr) e es)

-- what the table shows at an address
pub shown : (table : List (Option ℕ)) (devices : List Device) (addr : ℕ) → addr < 256 → table ≡ places_of (setups_in devices) → get_or table addr None ≡ position (is_at addr) devices
shown table devices addr low is =
    ap (λ t. get_or t addr None) is ∙ place_at (setups_in devices) addr low ∙ position_in devices addr

-- the index that it shows is one of the devices
pub shown_within : (devices : List Device) (addr i : ℕ) → position (is_at addr) devices ≡ Some i → i < length devices
shown_within [] addr i found = absurd cc
shown_within (e ∷ es) addr i found = (position-Some (is_at addr) (e ∷ es) i e found).0

-- one device more
pub table_more : (devices : List Device) (i : ℕ) (x : Device) (table : List (Option ℕ)) → i < length devices → (setup_in (get_or devices i x)).addr < 256 → table ≡ places_of (setups_in (take i devices))
    → set table (setup_in (get_or devices i x)).addr (option_or (get_or table (setup_in (get_or devices i x)).addr None) (Some i)) ≡ places_of (setups_in (take (i + 1) devices))
table_more devices i x table within low is =
    let d : DeviceSetup = setup_in (get_or devices i x) in
    let before : List DeviceSetup = setups_in (take i devices) in
    let many : length before ≡ i = length-map (take i devices) setup_in ∙ length-take-le i devices (omega arith) in
    ap (λ t. set t d.addr (option_or (get_or t d.addr None) (Some i))) is
    ∙ ap (λ n. set (places_of before) d.addr (option_or (get_or (places_of before) d.addr None) (Some n))) (sym many)
    ∙ placed_more before d low
    ∙ ap places_of (sym (map_more setup_in devices i x within))

put_length : (below : Bool) (d e : DeviceSetup) (es : List DeviceSetup) → length (put_by_address d es) ≡ suc (length es)
    → length (cond below (d ∷ e ∷ es) (e ∷ put_by_address d es)) ≡ suc (suc (length es))
put_length true d e es rest = refl
put_length false d e es rest = ap suc rest

length_put : (d : DeviceSetup) (es : List DeviceSetup) → length (put_by_address d es) ≡ suc (length es)
length_put d [] = refl
length_put d (e ∷ es) = put_length (nat_le d.addr e.addr) d e es (length_put d es)

-- as many as the setups
pub length_by_address : (ds : List DeviceSetup) → length (by_address ds) ≡ length ds
length_by_address [] = refl
length_by_address (d ∷ ds) = length_put d (by_address ds) ∙ ap suc (length_by_address ds)

pub many_in_order : (devices : List Device) (ds : List DeviceSetup) → setups_in devices ≡ by_address ds → length devices ≡ length ds
many_in_order devices ds order = sym (length-map devices setup_in) ∙ ap length order ∙ length_by_address ds
