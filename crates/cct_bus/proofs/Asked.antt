-- The device that a piece is for hears it, and it asks nothing of the others.
use Rattle.std.proofs.Common.{◌≡◌, ◌≢◌, ℕ, zero, suc, ◌+◌, ◌<◌, ◌≤◌, ◌==◌, List, [], ◌∷◌, ◌++◌, length, set, get_or, slice_index, Option, Some, None, refl, sym, ap, subst, ◌∙◌, append-nil, arith, inl, inr}
use Rattle.std.specs.Prelude.{unwrap_or}
use Rattle.std.specs.List.{All, flat_map, position}
use Rattle.std.proofs.lemmas.List.Concat.{flat_map-cons}
use Rattle.std.proofs.lemmas.List.Elements.{All-cons, All-head, All-nil, All-tail, All-get_or}
use Rattle.cct_model.specs.terms.device.DeviceSetup.{DeviceSetup}
use Rattle.cct_model.specs.terms.request.Request.{Request}
use Rattle.cct_model.specs.Exchange.{answer, answer_to, asker, asks_of, device_at}
use Rattle.cct_model.specs.Acceptor.{counter}
use Rattle.cct_model.specs.History.{Met, heard}
use Rattle.cct_model.specs.Hopper.{life_count}
use Rattle.cct_model.proofs.Hoppers.{State, silence_passes, state}
use Rattle.cct_model.specs.Setup.{AreDistinct}
use Rattle.cct_acceptor.specs.Acceptor as acceptors
use Rattle.cct_bill.specs.Bill as bills
use Rattle.cct_hopper.specs.Hopper as hoppers
use Rattle.cct_bus.specs.declared.body.Body.{Body}
use Rattle.cct_bus.specs.declared.body.Body.TheVariants.{Acceptor, Bill, Hopper}
use Rattle.cct_bus.specs.declared.device.Device.{Device}
use Rattle.cct_bus.specs.Body.{StandsFor}
use Rattle.cct_bus.specs.Device.{Lived, Stands, setup_in, setups_in}
use Rattle.cct_bus.specs.Room.{most_answered, most_said}
use Rattle.cct_bus.proofs.Hears.{answer_of, hearing, setups_kept}
use Rattle.cct_bus.proofs.Orders.{other_of}
use Rattle.cct_bus.proofs.Places.{apart, is_at, none_here, place_found}
use Rattle.cct_bus.proofs.Said.{asked_where}

-- a piece for another asks nothing of a device
asks_nothing : (d : DeviceSetup) (piece : List ℕ) → slice_index piece 0 ≢ 0 → d.addr ≢ slice_index piece 0 → asks_of d piece ≡ None
asks_nothing d piece one other = by_asked (asks_of d piece) refl
  where
    by_asked : (asked : Option Request) → asks_of d piece ≡ asked → asked ≡ None
    by_asked None asks = refl
    by_asked (Some q) asks = elim (asked_where d piece q asks) [
      | inl here ↦ absurd (other (sym here))
      | inr all ↦ absurd (one all.0)
    ]

-- what a hopper remembers, by all that its replies show
abbrev remembered_by : DeviceSetup → List Met → State → hoppers.Memory
remembered_by d past s = record {
  life = life_count d.serial (hoppers.start_of d.body) past;
  counter = counter s.events;
  paid = s.last.paid;
  unpaid = s.last.unpaid;
  timeout = s.last.timeout;
  tested = s.tested;
}

-- what asks nothing changes nothing
body_stands : (body : Body) (d : DeviceSetup) (past : List Met) → StandsFor body d past → StandsFor body d (heard None ∷ past)
body_stands (Acceptor a) d past so = record { kind = so.kind; setup = so.setup; ids = so.ids; intake = so.intake }
body_stands (Hopper h) d past so =
    let same = sym (silence_passes d.serial past) in
    record {
      kind = so.kind;
      setup = so.setup;
      may_pay = so.may_pay;
      left = so.left ∙ ap (λ (s : State). s.last.remains) same;
      memory = so.memory ∙ ap (remembered_by d past) same;
    }
body_stands (Bill b) d past so = record { kind = so.kind; setup = so.setup; intake = so.intake; held = so.held }

unasked : (piece : List ℕ) (history : DeviceSetup → List Met) (device : Device) → asks_of (setup_in device) piece ≡ None →
    Stands history device → Stands (hearing piece history) device
unasked piece history device none stands =
    subst (λ asked. Lived device (heard asked ∷ history (setup_in device))) (sym none)
    (body_stands device.body (setup_in device) (history (setup_in device)) stands)

silent : (piece : List ℕ) (history : DeviceSetup → List Met) (d : DeviceSetup) → asks_of d piece ≡ None → answer_of piece history d ≡ []
silent piece history d none = ap (λ asked. unwrap_or (answer_to d (history d) (asker d.kind piece) asked) []) none

-- a piece for an address at which none of the devices is
pub none_asked : (piece : List ℕ) (history : DeviceSetup → List Met) (es : List Device) → slice_index piece 0 ≢ 0 →
    device_at (setups_in es) (slice_index piece 0) ≡ None → All (Stands history) es →
    All (Stands (hearing piece history)) es × (flat_map (answer_of piece history) (setups_in es) ≡ [])
none_asked piece history [] one none stand = (All-nil (Stands (hearing piece history)), refl)
none_asked piece history (e ∷ es) one none stand =
    let parts = none_here (is_at (slice_index piece 0) e) (setup_in e) _ none in
    let asks = asks_nothing (setup_in e) piece one (other_of _ _ parts.0) in
    let rest = none_asked piece history es one parts.1 (All-tail (Stands history) e es stand) in (
      All-cons (Stands (hearing piece history)) e es (unasked piece history e asks (All-head (Stands history) e es stand)) rest.0,
      flat_map-cons (answer_of piece history) (setup_in e) (setups_in es)
          ∙ ap (λ said. said ++ flat_map (answer_of piece history) (setups_in es)) (silent piece history (setup_in e) asks)
          ∙ rest.1,
    )

-- the device at an index heard a piece for it
one_heard : (piece : List ℕ) (history : DeviceSetup → List Met) (devices : List Device) (i : ℕ) (x y : Device) →
    slice_index piece 0 ≢ 0 → i < length devices → AreDistinct (setups_in devices) →
    (setup_in (get_or devices i y)).addr ≡ slice_index piece 0 → Stands (hearing piece history) x → All (Stands history) devices →
    All (Stands (hearing piece history)) (set devices i x)
    × (flat_map (answer_of piece history) (setups_in devices) ≡ answer_of piece history (setup_in (get_or devices i y)))
one_heard piece history [] i x y one within distinct at heard_it stand = absurd (omega arith)
one_heard piece history (e ∷ es) zero x y one within distinct at heard_it stand =
    let rest = none_asked piece history es one (subst (λ a. device_at (setups_in es) a ≡ None) at distinct.0) (All-tail (Stands history) e es stand) in (
      All-cons (Stands (hearing piece history)) x es heard_it rest.0,
      flat_map-cons (answer_of piece history) (setup_in e) (setups_in es)
          ∙ ap (λ said. answer_of piece history (setup_in e) ++ said) rest.1
          ∙ append-nil (answer_of piece history (setup_in e)),
    )
one_heard piece history (e ∷ es) (suc i) x y one within distinct at heard_it stand =
    let other : (setup_in e).addr ≢ slice_index piece 0 =
    (λ (same : (setup_in e).addr ≡ slice_index piece 0). apart es i y (setup_in e).addr (omega arith) distinct.0 (at ∙ sym same)) in
    let asks = asks_nothing (setup_in e) piece one other in
    let rest = one_heard piece history es i x y one (omega arith) distinct.1 at heard_it (All-tail (Stands history) e es stand) in (
      All-cons (Stands (hearing piece history)) e (set es i x) (unasked piece history e asks (All-head (Stands history) e es stand)) rest.0,
      flat_map-cons (answer_of piece history) (setup_in e) (setups_in es)
          ∙ ap (λ said. said ++ flat_map (answer_of piece history) (setups_in es)) (silent piece history (setup_in e) asks)
          ∙ rest.1,
    )

-- what one device may say is a part of what all may say
most_of_one : (piece : List ℕ) (devices : List Device) (i : ℕ) (y : Device) → i < length devices →
    most_said (setup_in (get_or devices i y)).addr piece ≤ most_answered piece (setups_in devices)
most_of_one piece [] i y within = absurd (omega arith)
most_of_one piece (e ∷ es) zero y within = omega arith
most_of_one piece (e ∷ es) (suc i) y within =
    let rest = most_of_one piece es i y (omega arith) in
    omega (arith, rest)

-- so where there is room for all, there is room for it
pub room_for_one : (piece said before : List ℕ) (devices : List Device) (i : ℕ) (w y : Device) → i < length devices →
    length said ≤ most_said (setup_in w).addr piece → w ≡ get_or devices i y →
    length before + most_answered piece (setups_in devices) ≤ 520 → length before + length said ≤ 520
room_for_one piece said before devices i w y within short is room =
    let one = most_of_one piece devices i y within in
    let said_short : length said ≤ most_said (setup_in (get_or devices i y)).addr piece =
    subst (λ d. length said ≤ most_said (setup_in d).addr piece) is short in
    omega (arith, one, said_short)

-- its setup stays
pub setups_stay : (devices : List Device) (i : ℕ) (x w y : Device) → x.setup ≡ w.setup → w ≡ get_or devices i y →
    y ≡ get_or devices i y → setups_in (set devices i x) ≡ setups_in devices
setups_stay devices i x w y same is there = setups_kept devices i x y (same ∙ ap (λ d. d.setup) (is ∙ sym there)) there

-- the device that was found heard a piece for it, and the others nothing
pub found_heard : (piece : List ℕ) (history : DeviceSetup → List Met) (devices : List Device) (i : ℕ) (x w y : Device) (to : ℕ) →
    slice_index piece 0 ≡ to → to ≢ 0 → position (is_at to) devices ≡ Some i → x.setup ≡ w.setup →
    ((past : List Met) → Lived w past → Lived x (heard (asks_of (setup_in w) piece) ∷ past)) → w ≡ get_or devices i y →
    AreDistinct (setups_in devices) → All (Stands history) devices →
    All (Stands (hearing piece history)) (set devices i x)
    × (flat_map (answer_of piece history) (setups_in devices) ≡ answer_of piece history (setup_in w))
    × Lived w (history (setup_in w))
found_heard piece history devices i x w y to first one found same hears is distinct stand =
    let at = place_found devices i y to found in
    let was : Lived w (history (setup_in w)) =
    subst (λ d. Stands history d) (sym is) (All-get_or (Stands history) devices i y at.0 stand) in
    let same_setup : setup_in x ≡ setup_in w = ap (λ s. s.now) same in
    let heard_it : Stands (hearing piece history) x =
    subst (λ d. Lived x (hearing piece history d)) (sym same_setup) (hears (history (setup_in w)) was) in
    let all = one_heard piece history devices i x y (λ none. one (sym first ∙ none)) at.0 distinct (at.2 ∙ sym first) heard_it stand in
    (all.0, all.1 ∙ ap (λ d. answer_of piece history (setup_in d)) (sym is), was)
