-- Jobs that have something to do, and what becomes of a job.
use Rattle.std.specs.Prelude.{◌≡◌, ℕ, Bool, true, false, not, List, [], ◌∷◌, ◌++◌, Option, Some}
use Rattle.std.specs.Prelude.{None, is_some}
use Rattle.std.specs.Option.{option_or}
use Rattle.cct_model.specs.terms.device.DeviceSetup.{DeviceSetup}
use Rattle.cct_model.specs.terms.device.Setup.{Setup}
use Rattle.cct_model.specs.lines.command.Command.{Command}
use Rattle.cct_model.specs.lines.command.Command.TheVariants as command
use Rattle.cct_model.specs.lines.command.CommandNo.{CommandNo}
use Rattle.cct_model.specs.lines.command.CommandNo.TheVariants.{Busy, NoPayout, WrongKind}
use Rattle.cct_model.specs.lines.entry.End.{End}
use Rattle.cct_model.specs.lines.entry.Entry.{Entry}
use Rattle.cct_model.specs.lines.entry.Entry.TheVariants as entry
use Rattle.cct_model.specs.declared.judging.EpochState.{EpochState}
use Rattle.cct_model.specs.declared.tests.Test.{Test}
use Rattle.cct_model.specs.declared.tests.Test.TheVariants.{WithRoom}
use Rattle.cct_model.specs.Device.{is_hopper}
use Rattle.cct_model.specs.Exchange.{device_at}
use Rattle.cct_model.specs.Job.{address_of}
use Rattle.cct_model.specs.Job as model
use Rattle.cct_model.specs.Rows.{TableRow, has_waits, need_in, rows_for}
use Rattle.cct_model.specs.Refusal.{View, first_of, id_refusal, money_in, state_fails, state_tests}
use Rattle.cct_model.specs.Refusal.{tests_of, unless}
use Rattle.cct_jobs.specs.declared.job.Job.{Job}
use Rattle.cct_host.specs.declared.orders.OrderState.{OrderState}
use Rattle.cct_jobs.specs.Ahead.{ahead}
use Rattle.cct_jobs.specs.Jobs.{end_of_job, order_of}

-- The job at a place, if there is one, isn't done.
abbrev pub is_running : Option Job → Bool
is_running None = true
is_running (Some job) = not (is_some (end_of_job job))

-- The test that no job is at a place.
abbrev pub busy_by : Option Job → Option CommandNo
busy_by job = unless (not (is_some job)) Busy

-- A command that begins an order or a sale, which its id has to be new for.
abbrev pub begins_id : Command → Bool
begins_id (command.Pay addr id count) = true
begins_id (command.Vend id price) = true
begins_id c = false

-- There is a job that can be halted.
abbrev pub halts_in : Option Job → Bool
halts_in None = false
halts_in (Some job) = has_waits (ahead job)

-- The tests of a halt: the device is a hopper, and there is a payout that could be stopped.
abbrev pub halting_refusal : DeviceSetup → Option Job → Option CommandNo
halting_refusal d job =
    option_or (unless (is_hopper d.body) WrongKind) (unless (halts_in job) NoPayout)

-- What the tests of a command to a device look at: its job, its epoch, its open order and the last
-- id.
abbrev pub seen_at : DeviceSetup → Option Job → EpochState → OrderState → ℕ → View
seen_at d job state owed last = record {
  found = Some d;
  is_busy = is_some job;
  is_payout = halts_in job;
  state = state;
  owed = order_of owed.order;
  last = last;
}

-- Why a command to a device is refused beside these, if it is.
abbrev pub refusal_beside : DeviceSetup → Option Job → EpochState → OrderState → ℕ → Command →
    Option CommandNo
refusal_beside d job state owed last c =
    first_of (state_fails (seen_at d job state owed last)) (state_tests c)

-- The tests of a sale: one is there, and then its id isn't new.
abbrev pub sale_refusal : Option Job → ℕ → ℕ → Option CommandNo
sale_refusal job id last = option_or (busy_by job) (id_refusal id last)

-- The rows of the job that a command begins.
abbrev pub rows_begun : Setup → Command → List TableRow
rows_begun setup c = rows_for (device_at setup.devices (address_of c)) c

-- How many records a command needs room for beside those that are held.
abbrev pub needed : Setup → Command → ℕ
needed setup c = need_in (rows_begun setup c)

-- What a command reserves until its order is opened or its sale is put.
abbrev pub amount_of : Setup → Command → ℕ
amount_of setup c = money_in setup (tests_of c)

-- It is the test of the room.
abbrev pub is_room : Test → Bool
is_room WithRoom = true
is_room test = false

-- The command whose job is at a place, if one is.
abbrev pub command_of : model.Job → Option Command
command_of model.free = None
command_of (model.works c since) = Some c

-- The id of the payment or the sale at a place after an attempt: none where its job has ended.
abbrev pub id_left : Option Job → ℕ → ℕ
id_left None id = 0
id_left (Some job) id = id

-- The command whose job is at a place after an attempt: none where its job has ended.
abbrev pub begun_left : Option Job → Option Command → Option Command
begun_left None begun = None
begun_left (Some job) begun = begun

-- What is recorded of the payments or the sales at a place after an attempt.
abbrev pub orders_left : Option Job → OrderState → OrderState
orders_left kept owed =
    record { order = owed.order; id = id_left kept owed.id; begun = begun_left kept owed.begun }

-- What becomes of a job with this end: one that is done adds its end to the entries and frees the
-- address; another stays, and adds nothing.
abbrev pub Settles : Option End → Job → ℕ → Option Job → List Entry → List Entry → Type 0
Settles (Some end) job addr kept old new = (kept ≡ None) × (new ≡ old ++ entry.Ended addr end ∷ [])
Settles None job addr kept old new = (kept ≡ Some job) × (new ≡ old)
