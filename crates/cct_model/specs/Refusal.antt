-- Why a command is refused: the tests of each, in their order.
use Rattle.std.specs.Prelude.{ℕ, ◌+◌, max, ◌==◌, ◌&&◌, nat_le, Bool, true, false, not, is_some}
use Rattle.std.specs.Prelude.{List, [], ◌∷◌, length, find, unwrap_or, if◌then◌else◌, Option, Some}
use Rattle.std.specs.Prelude.{None}
use Rattle.std.specs.List.{filter_map}
use Rattle.std.specs.Option.{option_map, option_or}
use Rattle.cct_model.specs.terms.device.DeviceBody.{DeviceBody}
use Rattle.cct_model.specs.terms.device.DeviceSetup.{DeviceSetup}
use Rattle.cct_model.specs.terms.device.Setup.{Setup}
use Rattle.cct_model.specs.lines.command.Command.{Command}
use Rattle.cct_model.specs.lines.command.Command.TheVariants as command
use Rattle.cct_model.specs.lines.command.CommandNo.{CommandNo}
use Rattle.cct_model.specs.lines.command.CommandNo.TheVariants.{NoDevice, WrongKind, Busy}
use Rattle.cct_model.specs.lines.command.CommandNo.TheVariants.{EpochRuns, NoEpoch, NoValue}
use Rattle.cct_model.specs.lines.command.CommandNo.TheVariants.{OrderOpen, NoOrder, NoPayout, OldId}
use Rattle.cct_model.specs.lines.command.CommandNo.TheVariants.{Short, JournalFull}
use Rattle.cct_model.specs.lines.entry.Entry.{Entry}
use Rattle.cct_model.specs.declared.judging.EpochState.{EpochState}
use Rattle.cct_model.specs.declared.judging.EpochState.TheVariants.{Idle, Running}
use Rattle.cct_model.specs.declared.judging.OpenOrder.{OpenOrder}
use Rattle.cct_model.specs.declared.tests.Test.{Test}
use Rattle.cct_model.specs.declared.tests.Test.TheVariants.{AtADevice, AtATaker, AtAnAcceptor}
use Rattle.cct_model.specs.declared.tests.Test.TheVariants.{AtABillAcceptor, AtAHopper, WithNoJob}
use Rattle.cct_model.specs.declared.tests.Test.TheVariants.{WithNoEpoch, WithAnEpoch, WithValues}
use Rattle.cct_model.specs.declared.tests.Test.TheVariants.{WithNoOrder, WithAnOrder, WithAPayout}
use Rattle.cct_model.specs.declared.tests.Test.TheVariants.{WithNewId, WithCoins, WithPrice}
use Rattle.cct_model.specs.declared.tests.Test.TheVariants.{WithRoom}
use Rattle.cct_model.specs.Setting.{has_place}
use Rattle.cct_model.specs.Device.{value_at}
use Rattle.cct_model.specs.Exchange.{acceptor_there, bill_there, device_at, hopper_there}
use Rattle.cct_model.specs.Exchange.{taker_there}
use Rattle.cct_model.specs.Line.{Line}
use Rattle.cct_model.specs.Order.{order}
use Rattle.cct_model.specs.Job.{Job, free, works, job, coin_places, epoch, address_of}
use Rattle.cct_model.specs.Rows.{rows_of, rows_of_sale, rows_for, left, left_of_sale, puts_in}
use Rattle.cct_model.specs.Rows.{need_in, id_ahead, closes_order, can_halt}
use Rattle.cct_model.specs.Records.{records, greatest_id}
use Rattle.cct_model.specs.Money.{sum_over, coins_of, available}
use Rattle.cct_model.specs.Transcript.{lines_of, scan_lines, sale_lines}

-- The tests of a command in their order: those of the state stand before those of the money and of
-- the room.
abbrev pub tests_of : Command → List Test
tests_of (command.Start addr mask) =
    AtADevice ∷ AtATaker ∷ WithNoJob ∷ WithNoEpoch ∷ WithValues mask ∷ WithRoom ∷ []
tests_of (command.Round addr) = AtADevice ∷ AtATaker ∷ WithNoJob ∷ WithAnEpoch ∷ WithRoom ∷ []
tests_of (command.Stop addr) = AtADevice ∷ AtATaker ∷ WithNoJob ∷ WithAnEpoch ∷ WithRoom ∷ []
tests_of (command.Pay addr id count) =
    AtADevice ∷ AtAHopper ∷ WithNoJob ∷ WithNoOrder ∷ WithNewId id ∷ WithCoins addr count ∷ WithRoom
    ∷ []
tests_of (command.Settle addr) = AtADevice ∷ AtAHopper ∷ WithNoJob ∷ WithAnOrder ∷ WithRoom ∷ []
tests_of (command.Halt addr) = AtADevice ∷ AtAHopper ∷ WithAPayout ∷ []
tests_of command.Scan = WithNoJob ∷ []
tests_of (command.Ident addr) = AtADevice ∷ WithNoJob ∷ []
tests_of (command.Path addr place path) = AtADevice ∷ AtAnAcceptor ∷ WithNoJob ∷ []
tests_of (command.Route addr way) = AtADevice ∷ AtABillAcceptor ∷ WithNoJob ∷ WithAnEpoch ∷ []
tests_of (command.Vend id price) = WithNoJob ∷ WithNewId id ∷ WithPrice price ∷ WithRoom ∷ []

-- Those that there are.
abbrev pub listed : List (Option Test) → List Test
listed tests = filter_map (λ t. t) tests

-- Among these is the test of the room.
abbrev pub asks_room : List Test → Bool
asks_room [] = false
asks_room (WithRoom ∷ tests) = true
asks_room (test ∷ tests) = asks_room tests

-- The tests of the state among these: they stand before those of the money and of the room.
abbrev pub of_state : List Test → List Test
of_state [] = []
of_state (WithCoins addr count ∷ tests) = []
of_state (WithPrice price ∷ tests) = []
of_state (WithRoom ∷ tests) = []
of_state (test ∷ tests) = test ∷ of_state tests

-- The tests of the state of a command.
abbrev pub state_tests : Command → List Test
state_tests c = of_state (tests_of c)

-- The tests of the money and of the room among these.
abbrev pub of_room : List Test → List Test
of_room [] = []
of_room (WithCoins addr count ∷ tests) = WithCoins addr count ∷ tests
of_room (WithPrice price ∷ tests) = WithPrice price ∷ tests
of_room (WithRoom ∷ tests) = WithRoom ∷ tests
of_room (test ∷ tests) = of_room tests

-- The tests of the money and of the room of a command.
abbrev pub room_tests : Command → List Test
room_tests c = of_room (tests_of c)

-- The money that these tests want available, 0 where they want none.
abbrev pub money_in : Setup → List Test → ℕ
money_in setup [] = 0
money_in setup (WithCoins addr count ∷ tests) = coins_of setup addr count
money_in setup (WithPrice price ∷ tests) = price
money_in setup (test ∷ tests) = money_in setup tests

-- The reason of the first of these tests that fails, or none.
abbrev pub first_of : (Test → Option CommandNo) → List Test → Option CommandNo
first_of fails [] = None
first_of fails (test ∷ []) = fails test
first_of fails (test ∷ next ∷ tests) = option_or (fails test) (first_of fails (next ∷ tests))

-- What the tests of the state look at: the device at the address, whether a job is there, whether
-- it can be halted, the epoch and the open order there, and the last id.
pub record View : Type 0 where
  pub found : Option DeviceSetup
  pub is_busy : Bool
  pub is_payout : Bool
  pub state : EpochState
  pub owed : Option OpenOrder
  pub last : ℕ

-- The reason where something does not hold.
abbrev pub unless : Bool → CommandNo → Option CommandNo
unless holds why = if holds then None else Some why

-- The least coin place of a mask that has no value, or none.
abbrev pub valueless : DeviceBody → ℕ → Option ℕ
valueless body mask = find (λ place. has_place mask place && (value_at body place == 0)) coin_places

-- The test that no epoch runs.
abbrev pub epoch_refusal : EpochState → Option CommandNo
epoch_refusal Idle = None
epoch_refusal (Running mask counter accepts) = Some EpochRuns

-- The test that an epoch runs.
abbrev pub running_refusal : EpochState → Option CommandNo
running_refusal Idle = Some NoEpoch
running_refusal (Running mask counter accepts) = None

-- The test that each place of a mask has a value at a device.
abbrev pub value_refusal : ℕ → Option DeviceSetup → Option CommandNo
value_refusal mask None = None
value_refusal mask (Some d) = option_map NoValue (valueless d.body mask)

-- The tests of a start beside the epoch.
abbrev pub start_refusal : ℕ → DeviceSetup → EpochState → Option CommandNo
start_refusal mask d state = option_or (epoch_refusal state) (value_refusal mask (Some d))

-- The test that no order is open.
abbrev pub order_refusal : Option OpenOrder → Option CommandNo
order_refusal None = None
order_refusal (Some o) = Some (OrderOpen o.id)

-- The test that an order is open.
abbrev pub settle_refusal : Option OpenOrder → Option CommandNo
settle_refusal None = Some NoOrder
settle_refusal (Some o) = None

-- The test that an id is above the last one.
abbrev pub id_refusal : ℕ → ℕ → Option CommandNo
id_refusal id last = if nat_le id last then Some (OldId last) else None

-- The reason why a test of the state fails, if it does.
abbrev pub state_fails : View → Test → Option CommandNo
state_fails v AtADevice = unless (is_some v.found) NoDevice
state_fails v AtATaker = unless (taker_there v.found) WrongKind
state_fails v AtAnAcceptor = unless (acceptor_there v.found) WrongKind
state_fails v AtABillAcceptor = unless (bill_there v.found) WrongKind
state_fails v AtAHopper = unless (hopper_there v.found) WrongKind
state_fails v WithNoJob = unless (not v.is_busy) Busy
state_fails v WithNoEpoch = epoch_refusal v.state
state_fails v WithAnEpoch = running_refusal v.state
state_fails v (WithValues mask) = value_refusal mask v.found
state_fails v WithNoOrder = order_refusal v.owed
state_fails v WithAnOrder = settle_refusal v.owed
state_fails v WithAPayout = unless v.is_payout NoPayout
state_fails v (WithNewId id) = id_refusal id v.last
state_fails v test = None

-- How many records the job at a device may still put, beside its epoch.
abbrev pub job_holds : DeviceSetup → EpochState → Job → ℕ
job_holds d state free = 0
job_holds d state (works c since) = puts_in (left d c since state)

-- One record for an open order that no job is to close.
abbrev pub order_holds : Bool → Option OpenOrder → ℕ
order_holds closing None = 0
order_holds true (Some o) = 0
order_holds false (Some o) = 1

-- How many records are held for the lines of a device.
abbrev pub holds_of : DeviceSetup → List Line → ℕ
holds_of d lines =
    job_holds d (epoch lines) (job lines) + order_holds (closes_order d (job lines)) (order lines)

-- How many records are held for a device.
abbrev pub holds_at : List Entry → DeviceSetup → ℕ
holds_at past d = holds_of d (lines_of d past)

-- How many records a sale may still put.
abbrev pub sale_holds : Job → ℕ
sale_holds free = 0
sale_holds (works c since) = puts_in (left_of_sale c since)

-- How many records are held: what running jobs may still put, and one for each open order that no
-- job is to close.
abbrev pub held : Setup → List Entry → ℕ
held setup past = sum_over (holds_at past) setup.devices + sale_holds (job (sale_lines past))

-- How many records a command wants room for, beside the device at its address.
abbrev pub need_for : Option DeviceSetup → Command → ℕ
need_for found c = need_in (rows_for found c)

-- The test that the journal, which takes so many records, has no room for these beside those that
-- are held.
abbrev pub full_refusal : Setup → List Entry → ℕ → ℕ → Option CommandNo
full_refusal setup past need capacity =
    if nat_le (length (records past) + held setup past + need) capacity then None
    else Some (JournalFull (length (records past)) (held setup past) need)

-- The test that so much is not available.
abbrev pub short_refusal : Setup → List Entry → ℕ → Option CommandNo
short_refusal setup past wanted =
    if nat_le wanted (available setup past) then None else Some (Short (available setup past))

-- The id of the order that the job at a device is to record or has recorded, 0 of another job.
abbrev pub running_id : DeviceSetup → Job → ℕ
running_id d free = 0
running_id d (works c since) = unwrap_or (id_ahead (rows_of d c)) 0

-- The id of a sale, 0 of no sale.
abbrev pub sale_id : Job → ℕ
sale_id free = 0
sale_id (works c since) = unwrap_or (id_ahead (rows_of_sale c)) 0

-- The greatest such id among devices.
abbrev pub greatest_running : List Entry → List DeviceSetup → ℕ
greatest_running past [] = 0
greatest_running past (d ∷ ds) =
    max (running_id d (job (lines_of d past))) (greatest_running past ds)

-- The last id: the greatest of the records and of the running jobs, 0 where there is none.
abbrev pub last_id : Setup → List Entry → ℕ
last_id setup past =
    max (greatest_id (records past)) (max (greatest_running past setup.devices)
    (sale_id (job (sale_lines past))))

-- The reason why a test of the money or of the room fails, if it does, over a journal that takes so
-- many records, where the command wants room for so many.
abbrev pub room_fails : ℕ → Setup → List Entry → ℕ → Test → Option CommandNo
room_fails capacity setup past need (WithCoins addr count) =
    short_refusal setup past (coins_of setup addr count)
room_fails capacity setup past need (WithPrice price) = short_refusal setup past price
room_fails capacity setup past need WithRoom = full_refusal setup past need capacity
room_fails capacity setup past need test = None

-- A job is running.
abbrev pub is_busy : Job → Bool
is_busy free = false
is_busy (works c since) = true

-- The lines among which the job of a command is: those of the device at its address, of scans, or
-- of sales.
abbrev pub lines_for : List Entry → Command → Option DeviceSetup → List Line
lines_for past command.Scan found = scan_lines past
lines_for past (command.Vend id price) found = sale_lines past
lines_for past c None = []
lines_for past c (Some d) = lines_of d past

-- A payout that could be stopped is running at a device.
abbrev pub halts_at : Option DeviceSetup → Job → Bool
halts_at None j = false
halts_at (Some d) j = can_halt d j

-- What the tests of the state look at beside a device and the lines of a job there.
abbrev pub view_of : Option DeviceSetup → List Line → ℕ → View
view_of found lines last = record {
  found = found;
  is_busy = is_busy (job lines);
  is_payout = halts_at found (job lines);
  state = epoch lines;
  owed = order lines;
  last = last;
}

-- What the tests of a command look at.
abbrev pub view_for : Setup → List Entry → Command → View
view_for setup past c =
    let found = device_at setup.devices (address_of c) in view_of found (lines_for past c found)
    (last_id setup past)

-- The first reason for which a command is refused but for the money and the room, or none.
abbrev pub state_refusal : Setup → List Entry → Command → Option CommandNo
state_refusal setup past c = first_of (state_fails (view_for setup past c)) (state_tests c)

-- The first reason for which a command is refused for the money or the room, or none.
abbrev pub room_refusal : ℕ → Setup → List Entry → Command → Option CommandNo
room_refusal capacity setup past c =
    let need = need_for (device_at setup.devices (address_of c)) c in
    first_of (room_fails capacity setup past need) (tests_of c)

-- The first reason that holds for which a command is refused, or none, over a journal that takes so
-- many records.
abbrev pub refusal : ℕ → Setup → List Entry → Command → Option CommandNo
refusal capacity setup past c =
    option_or (state_refusal setup past c) (room_refusal capacity setup past c)
