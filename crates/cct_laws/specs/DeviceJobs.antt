-- Jobs at a device: which commands begin one there, and what becomes of what it asks over an honest
-- wire.
use Rattle.std.specs.Prelude.{◌≡◌, ◌&&◌, ◌||◌, not, is_some, Bool, true, false, List, ◌∷◌, Option}
use Rattle.std.specs.Prelude.{Some, None, ⊤}
use Rattle.std.specs.List.{list_any}
use Rattle.cct_model.specs.terms.device.DeviceBody.{DeviceBody}
use Rattle.cct_model.specs.terms.device.DeviceSetup.{DeviceSetup}
use Rattle.cct_model.specs.terms.family.Family.{Family}
use Rattle.cct_model.specs.terms.family.Family.TheVariants as family
use Rattle.cct_model.specs.terms.request.Request.{Request}
use Rattle.cct_model.specs.terms.request.Request.TheVariants.{AddressPoll, SimplePoll, RouteBill}
use Rattle.cct_model.specs.terms.request.Request.TheVariants.{Dispense}
use Rattle.cct_model.specs.declared.judging.EpochState.{EpochState}
use Rattle.cct_model.specs.lines.command.Command.{Command}
use Rattle.cct_model.specs.lines.command.CommandNo.{CommandNo}
use Rattle.cct_model.specs.lines.entry.End.{End}
use Rattle.cct_model.specs.Reply.{Reply}
use Rattle.cct_model.specs.History.{Met}
use Rattle.cct_model.specs.Family.{family_of}
use Rattle.cct_model.specs.Bill.{bill_held, is_way}
use Rattle.cct_model.specs.Hopper.{taken_of}
use Rattle.cct_model.specs.Device.{IsBill, IsHopper, reply_of}
use Rattle.cct_model.specs.Line.{Line, ended}
use Rattle.cct_model.specs.Job.{works, job, address_of}
use Rattle.cct_model.specs.declared.tests.Test.{Test}
use Rattle.cct_model.specs.declared.tests.Test.TheVariants.{AtADevice, AtATaker, AtAnAcceptor}
use Rattle.cct_model.specs.declared.tests.Test.TheVariants.{AtABillAcceptor, AtAHopper, WithNoJob}
use Rattle.cct_model.specs.declared.tests.Test.TheVariants.{WithNoEpoch, WithAnEpoch, WithValues}
use Rattle.cct_model.specs.Refusal.{first_of, state_tests}
use Rattle.cct_model.specs.Refusal.{epoch_refusal, running_refusal, value_refusal}
use Rattle.cct_model.specs.Script.{IsCommand}

-- What becomes of a request to a device over an honest wire, as what the device heard and what the
-- host got. The devices heard damaged bytes; or the host heard such, or nothing, or that the device
-- refuses; or the host got the device's reply.
pub data Fate (d : DeviceSetup) (past : List Met) (q : Request) : Option Request → Option Reply →
    Type 0 where
  unheard : Fate d past q None None
  silenced : Fate d past q (Some q) None
  answered : (y : Reply) → reply_of d past q ≡ Some y → Fate d past q (Some q) (Some y)

-- A device that met all this refuses a request: a hopper one to dispense coins, which it doesn't
-- take; a bill acceptor one to route a bill, where it holds none or the way is none.
abbrev pub IsRefused : DeviceSetup → List Met → Request → Type 0
IsRefused d past (Dispense serial count) =
    IsHopper d.body × (taken_of d.serial past (Some (Dispense serial count)) ≡ None)
IsRefused d past (RouteBill way) =
    IsBill d.body × ((is_some (bill_held past) && is_way way) ≡ false)
IsRefused d past q = ⊥

-- What no job at a device sends it asks nothing of it, or is a poll of a scan, which asks all
-- devices or this one.
abbrev pub IsForOthers : Option Request → Type 0
IsForOthers None = ⊤
IsForOthers (Some AddressPoll) = ⊤
IsForOthers (Some SimplePoll) = ⊤
IsForOthers (Some q) = ⊥

-- Lines with the end of a job, if there is one.
abbrev pub with_ended : Option End → List Line → List Line
with_ended None lines = lines
with_ended (Some end) lines = ended end ∷ lines

-- A test that a device is at the address.
abbrev pub wants_device : Test → Bool
wants_device AtADevice = true
wants_device test = false

-- A test that no job is there.
abbrev pub wants_no_job : Test → Bool
wants_no_job WithNoJob = true
wants_no_job test = false

-- A test that the device is of another family than this.
abbrev pub wants_other : Family → Test → Bool
wants_other family.Acceptor AtAHopper = true
wants_other family.Acceptor AtABillAcceptor = true
wants_other family.Hopper AtATaker = true
wants_other family.Hopper AtAnAcceptor = true
wants_other family.Hopper AtABillAcceptor = true
wants_other family.Bill AtAHopper = true
wants_other family.Bill AtAnAcceptor = true
wants_other which test = false

-- A command begins a job at a device of a family: among its tests of the state are that a device is
-- there and that no job is, and none that wants another family.
abbrev pub is_for : Family → Command → Bool
is_for which c =
    list_any wants_device (state_tests c) && list_any wants_no_job (state_tests c)
    && not (list_any (wants_other which) (state_tests c))

-- A command begins a job at a coin acceptor.
abbrev pub is_for_acceptor : Command → Bool
is_for_acceptor c = is_for family.Acceptor c

-- A command begins a job at a bill acceptor.
abbrev pub is_for_bills : Command → Bool
is_for_bills c = is_for family.Bill c

-- A command begins a job at a device that takes money.
abbrev pub is_for_taker : Command → Bool
is_for_taker c = is_for_acceptor c || is_for_bills c

-- A command begins a job at a hopper.
abbrev pub is_for_hopper : Command → Bool
is_for_hopper c = is_for family.Hopper c

-- A command begins a job at a device of this family.
abbrev pub suits : DeviceBody → Command → Bool
suits body c = is_for (family_of body) c

-- The reason why a test of the epoch at a device fails, if it does.
abbrev pub epoch_fails : DeviceSetup → EpochState → Test → Option CommandNo
epoch_fails d state WithNoEpoch = epoch_refusal state
epoch_fails d state WithAnEpoch = running_refusal state
epoch_fails d state (WithValues mask) = value_refusal mask (Some d)
epoch_fails d state test = None

-- A command to a device is not refused because of its epoch.
abbrev pub IsTaken : DeviceSetup → Command → EpochState → Type 0
IsTaken d c state = first_of (epoch_fails d state) (state_tests c) ≡ None

-- The job at a device is one of a command for it and for its kind, in its range.
pub record WorksAt (d : DeviceSetup) (lines : List Line) (c : Command) (since : List Line) : Type 0
  where
    pub job_is : job lines ≡ works c since
    pub is_here : address_of c ≡ d.addr
    pub in_range : IsCommand c
    pub suited : suits d.body c ≡ true
