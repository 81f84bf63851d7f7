-- When an order may be opened, and what its record changes.
use Rattle.std.proofs.Common.{◌≡◌, ℕ, ◌+◌, ◌<◌, ◌≤◌, ◌==◌, ◌&&◌, nat_le, not, Bool, true, false, List, ◌∷◌, set, length, get_or, refl, ap, ap₂, sym, ◌∙◌, subst, Option, Some, None, is_none, arith, le-leb, leb-true}
use Rattle.std.specs.Prelude.{slice_get}
use Rattle.std.specs.List.{list_any}
use Rattle.std.specs.Option.{option_map}
use Rattle.std.proofs.lemmas.Bool.{and_parts, not-true}
use Rattle.std.proofs.lemmas.Option.{slice_get-map, slice_get-get_or, get_or_from_slice_get}
use Rattle.cct_model.specs.terms.device.DeviceSetup.{DeviceSetup}
use Rattle.cct_model.specs.terms.device.Setup.{Setup}
use Rattle.cct_model.specs.lines.record.Record.{Record}
use Rattle.cct_model.specs.lines.record.Record.TheVariants.{Opened}
use Rattle.cct_model.specs.declared.judging.OpenOrder.{OpenOrder}
use Rattle.cct_model.specs.Exchange.{device_at, hopper_there}
use Rattle.cct_model.specs.Setup.{AreDistinct}
use Rattle.cct_model.specs.Records.{order_in, is_open}
use Rattle.cct_model.specs.Money.{coins_of, available_in, available_beside, reserved_in}
use Rattle.cct_model.specs.Following.{is_allowed}
use Rattle.cct_ledger.specs.Orders.{has_id, IsHopperAt, KeepsOrders}
use Rattle.cct_ledger.proofs.Orders.{keeps_opened, order_as, owed_next}
use Rattle.cct_ledger.proofs.Places.{hopper_there_at}

-- what is available beside what is reserved is no more than what the records leave
beside_less : (setup : Setup) (before : List Record) (beside : ℕ) →
    available_beside setup before beside ≤ available_in setup before
beside_less setup before beside = omega arith

-- a test that implies one before it
absorbed : (first second third : Bool) → (third ≡ true → second ≡ true) →
    ((first && second) && third) ≡ (first && third)
absorbed true true third implied = refl
absorbed true false true implied = implied refl
absorbed true false false implied = refl
absorbed false second third implied = refl

-- where no hopper is, no order is opened
pub refused_nowhere : (setup : Setup) (before : List Record) (beside id addr count life : ℕ) →
    hopper_there (device_at setup.devices addr) ≡ false → false ≡ is_allowed setup before beside (Opened id addr count life)
refused_nowhere setup before beside id addr count life none =
    sym (ap (λ there. (there && is_none (order_in addr before) && not (id == 0) && not (is_open id before) && not
    (count == 0)
    && nat_le (coins_of setup addr count) (available_in setup before))
    && nat_le (coins_of setup addr count) (available_beside setup before beside))
    none)

-- the order at the place of a hopper
order_at_place : (setup : Setup) (before : List Record) (orders : List (Option OpenOrder)) (addr place : ℕ) →
    KeepsOrders setup before orders → IsHopperAt setup.devices addr place →
    slice_get orders place ≡ Some (order_in addr before)
order_at_place setup before orders addr place keeps at =
    ap (λ (os : List (Option OpenOrder)). slice_get os place) keeps.at_devices
    ∙ slice_get-map (λ (d : DeviceSetup). order_in d.addr before) setup.devices place
    ∙ ap (λ (found : Option DeviceSetup). option_map (λ (d : DeviceSetup). order_in d.addr before) found) at.there
    ∙ ap (λ a. Some (order_in a before)) at.here

-- the tests of an order at the place of a hopper
abbrev tests : List (Option OpenOrder) → ℕ → ℕ → ℕ → ℕ → ℕ → Bool
tests orders place id count amount available =
    is_none (get_or orders place None) && not (id == 0) && not (list_any (has_id id) orders) && not (count == 0)
    && nat_le amount available

pub allowed_at : (setup : Setup) (before : List Record) (orders : List (Option OpenOrder))
    (place beside id addr count life amount available : ℕ) → AreDistinct setup.devices →
    KeepsOrders setup before orders →
    IsHopperAt setup.devices addr place → amount ≡ coins_of setup addr count →
    available ≡ available_beside setup before beside →
    tests orders place id count amount available ≡ is_allowed setup before beside (Opened id addr count life)
allowed_at setup before orders place beside id addr count life amount available distinct keeps is worth left =
    let hopper = hopper_there_at setup.devices addr place distinct is in
    let here =
    get_or_from_slice_get orders place (order_in addr before) None
    (order_at_place setup before orders addr place keeps is) in
    let own : Bool =
    is_none (order_in addr before) && not (id == 0) && not (is_open id before) && not (count == 0) in
    let coins : ℕ = coins_of setup addr count in
    ap₂ (λ first third. first && third)
    (ap₂ (λ none opened. none && not (id == 0) && not opened && not (count == 0)) (ap is_none here)
    (sym (keeps.opened id)))
    (ap₂ nat_le worth left)
    ∙ sym (absorbed own (nat_le coins (available_in setup before)) (nat_le coins (available_beside setup before beside))
    (λ enough. more coins (available_beside setup before beside) (available_in setup before) enough
    (beside_less setup before beside)))
    ∙ ap (λ there. (there && is_none (order_in addr before) && not (id == 0) && not (is_open id before) && not
    (count == 0)
    && nat_le coins (available_in setup before)) && nat_le coins (available_beside setup before beside)) (sym hopper)
  where
    more : (coins few many : ℕ) → nat_le coins few ≡ true → few ≤ many → nat_le coins many ≡ true
    more coins few many enough less =
        let le : coins ≤ few = leb-true coins few enough in
        le-leb coins many (omega arith)

-- what its record changes
pub record Reserves (setup : Setup) (before : List Record) (later : List (Option OpenOrder))
    (id addr count life amount available : ℕ) : Type 0 where
  pub affords : amount ≤ available
  pub keeps : KeepsOrders setup (Opened id addr count life ∷ before) later
  pub reserved : reserved_in setup (Opened id addr count life ∷ before) ≡ reserved_in setup before + coins_of setup
      addr count

passed_tests : (a b c d e : Bool) → (a && b && c && d && e) ≡ true → (a ≡ true) × (c ≡ true) × (e ≡ true)
passed_tests a b c d e all =
    let four = and_parts (a && b && c && d) e all in
    let three = and_parts (a && b && c) d four.0 in
    let two = and_parts (a && b) c three.0 in
    ((and_parts a b two.0).0, two.1, four.1)

pub reserves : (setup : Setup) (before : List Record) (orders later : List (Option OpenOrder))
    (place id addr count life amount available : ℕ) → AreDistinct setup.devices → KeepsOrders setup before orders →
    IsHopperAt setup.devices addr place → tests orders place id count amount available ≡ true →
    place < length orders → later ≡ set orders place (Some (order_as id addr count life)) →
    Reserves setup before later id addr count life amount available
reserves setup before orders later place id addr count life amount available distinct keeps is passed within same =
    let parts =
    passed_tests (is_none (get_or orders place None)) (not (id == 0)) (not (list_any (has_id id) orders))
    (not (count == 0))
    (nat_le amount available) passed in
    let none : slice_get orders place ≡ Some None =
    slice_get-get_or orders place None within ∙ ap Some (none_is (get_or orders place None) parts.0) in
    let next =
    keeps_opened setup before orders place id addr count life distinct is
    none
    (not-true (list_any (has_id id) orders) parts.1) keeps in
    let owed =
    owed_next setup before (Opened id addr count life) orders place None (Some (order_as id addr count life)) keeps next
    none in
    record {
      affords = leb-true amount available parts.2;
      keeps = subst (λ (os : List (Option OpenOrder)). KeepsOrders setup (Opened id addr count life ∷ before) os)
          (sym same) next;
      reserved = omega arith;
    }
  where
    none_is : (x : Option OpenOrder) → is_none x ≡ true → x ≡ None
    none_is None test = refl
    none_is (Some o) test = absurd cc
