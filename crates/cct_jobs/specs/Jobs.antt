-- What a job sends or puts, and the lines of a device that it represents, newest first.
use Rattle.std.specs.Prelude.{◌≡◌, ◌<◌, ◌==◌, ◌^◌, nat_lt, ℕ, suc, ⊤, Bool, true, false, List, []}
use Rattle.std.specs.Prelude.{◌∷◌, if◌then◌else◌, Option, Some, None, is_some, IsTrue}
use Rattle.std.specs.Prelude.{option_and_then, slice_get}
use Rattle.std.specs.Option.{option_map}
use Rattle.cct_model.specs.terms.wire.CheckKind.{CheckKind}
use Rattle.cct_model.specs.terms.wire.CheckKind.TheVariants.{Simple, Crc}
use Rattle.cct_model.specs.terms.coin.TheConstants.{COIN_PLACES}
use Rattle.cct_model.specs.terms.coin.Credits.{Credits}
use Rattle.cct_model.specs.terms.device.DeviceSetup.{DeviceSetup}
use Rattle.cct_model.specs.terms.request.TheConstants.{ENABLE_CODE}
use Rattle.cct_model.specs.terms.request.ReplyForm.{ReplyForm}
use Rattle.cct_model.specs.terms.family.Family.{Family}
use Rattle.cct_model.specs.terms.family.Family.TheVariants as family
use Rattle.cct_model.specs.terms.request.Request.{Request}
use Rattle.cct_model.specs.terms.request.Request.TheVariants.{MakerId, Category, ProductCode}
use Rattle.cct_model.specs.terms.request.Request.TheVariants.{SerialNumber, SoftwareRevision}
use Rattle.cct_model.specs.terms.request.Request.TheVariants.{BuildCode, CommsRevision, ResetDevice}
use Rattle.cct_model.specs.terms.request.Request.TheVariants.{SetMask, GetMask, SetMaster}
use Rattle.cct_model.specs.terms.request.Request.TheVariants.{GetMaster, GetDefault, CoinId}
use Rattle.cct_model.specs.terms.request.Request.TheVariants.{AcceptCount, RouteBill, TestHopper}
use Rattle.cct_model.specs.terms.request.Request.TheVariants.{Enable, Dispense, GetStatus, GetLife}
use Rattle.cct_model.specs.terms.request.Request.TheVariants.{StopNow}
use Rattle.cct_model.specs.lines.record.Record.{Record}
use Rattle.cct_model.specs.lines.record.Record.TheVariants as record_of
use Rattle.cct_model.specs.declared.judging.Judged.{Judged}
use Rattle.cct_model.specs.declared.judging.Judged.TheVariants.{Nothing, Reading, Broken}
use Rattle.cct_model.specs.declared.judging.Judged.TheVariants as judged_of
use Rattle.cct_model.specs.declared.judging.EpochState.{EpochState}
use Rattle.cct_model.specs.declared.judging.EpochState.TheVariants.{Idle, Running}
use Rattle.cct_model.specs.declared.judging.OpenOrder.{OpenOrder}
use Rattle.cct_model.specs.declared.tests.Test.{Test}
use Rattle.cct_model.specs.declared.tests.Test.TheVariants.{AtADevice, AtATaker, AtAnAcceptor}
use Rattle.cct_model.specs.declared.tests.Test.TheVariants.{AtABillAcceptor, AtAHopper, WithAnEpoch}
use Rattle.cct_model.specs.declared.tests.Test.TheVariants.{WithAnOrder}
use Rattle.cct_model.specs.lines.command.Command.{Command}
use Rattle.cct_model.specs.lines.command.Command.TheVariants as command
use Rattle.cct_model.specs.lines.entry.End.{End}
use Rattle.cct_model.specs.lines.entry.Entry.{Entry}
use Rattle.cct_model.specs.lines.entry.End.TheVariants.{Broke, Clean, Moved, Posted, Stopped}
use Rattle.cct_model.specs.lines.entry.End.TheVariants.{Closed, OddLife, Sold}
use Rattle.cct_model.specs.Request.{header_of, form_of}
use Rattle.cct_model.specs.Reply.{Reply}
use Rattle.cct_model.specs.Reply as reply
use Rattle.cct_model.specs.Exchange.{asked, device_at, got, acceptor_there, bill_there}
use Rattle.cct_model.specs.Exchange.{hopper_there, taker_there}
use Rattle.cct_model.specs.Family.{family_of}
use Rattle.cct_model.specs.Line.{Line, exchange}
use Rattle.cct_model.specs.Job.{address_of, sends, puts, accepts_before, accepts_read, credits_read}
use Rattle.cct_model.specs.Job.{credits_request, mask_read, settled_events, tries, path_set}
use Rattle.cct_model.specs.Job.{path_read}
use Rattle.cct_model.specs.Rows.{end_kept, end_of, left, rest, row}
use Rattle.cct_model.specs.Order.{close, is_marked, life_read}
use Rattle.cct_model.specs.Refusal.{state_tests}
use Rattle.cct_model.specs.Scan.{poll_of}
use Rattle.cct_model.specs.Transcript.{got_by, opened_at, owner}
use Rattle.cct_record.specs.Body.{Encodable}
use Rattle.cct_jobs.specs.declared.target.Target.{Target}
use Rattle.cct_jobs.specs.declared.owed.Owed.{Owed}
use Rattle.cct_jobs.specs.declared.payout.Closing.{Closing}
use Rattle.cct_jobs.specs.declared.payout.Payout.{Payout}
use Rattle.cct_jobs.specs.declared.payout.Payout.TheVariants.{Enables, Counts, Dispenses, Waits}
use Rattle.cct_jobs.specs.declared.payout.Payout.TheVariants.{Stops, Recounts}
use Rattle.cct_jobs.specs.declared.stage.Recorded.{Recorded}
use Rattle.cct_jobs.specs.declared.stage.Stage.{Stage}
use Rattle.cct_jobs.specs.declared.stage.Stage.TheVariants.{StartResets, StartReads, StartCounts}
use Rattle.cct_jobs.specs.declared.stage.Stage.TheVariants.{StartSets, StopInhibits, CountsBefore}
use Rattle.cct_jobs.specs.declared.stage.Stage.TheVariants.{Reads, Looks, CountsAfter, IdentAsks}
use Rattle.cct_jobs.specs.declared.stage.Stage.TheVariants.{PathSets, PathReads, Routes, Pays}
use Rattle.cct_jobs.specs.declared.job.Sending.{Sending}
use Rattle.cct_jobs.specs.declared.job.Need.{Need}
use Rattle.cct_jobs.specs.declared.job.Need.TheVariants as need
use Rattle.cct_jobs.specs.declared.job.Job.{Job}
use Rattle.cct_jobs.specs.Ahead.{ahead, body_of, place_of, questions_of, stage_ahead}
use Rattle.cct_jobs.specs.declared.job.Job.TheVariants.{Asks, StartPuts, RoundPuts, StopPuts}
use Rattle.cct_jobs.specs.declared.job.Job.TheVariants.{StopEnds, OrderOpens, OrderCloses, SalePuts}
use Rattle.cct_jobs.specs.declared.job.Job.TheVariants.{ScanCallsSimple, ScanCallsCrc}
use Rattle.cct_jobs.specs.declared.job.Job.TheVariants.{ScanPollsSimple, ScanPollsCrc, Done}

-- What a job knows of a device.
abbrev pub target_of : DeviceSetup → Target
target_of d = record { addr = d.addr; kind = d.kind; family = family_of d.body; serial = d.serial }

-- The request that a row of a payment or a settlement sends.
abbrev pub payout_request : Payout → Request
payout_request (Enables id count halted) = Enable ENABLE_CODE
payout_request (Counts id count halted) = GetLife
payout_request (Dispenses serial own halted) = Dispense serial own.order.count
payout_request (Waits closing own) = GetStatus
payout_request (Stops closing own) = StopNow
payout_request (Recounts closing own) = GetLife

-- The request that a stage sends to a device of a family.
abbrev pub request_of : Family → Stage → Request
request_of which (StartResets mask) = ResetDevice
request_of which (StartReads mask) = credits_request (body_of which)
request_of which (StartCounts mask) = AcceptCount
request_of which (StartSets mask) = SetMask mask
request_of which (StopInhibits recorded) = SetMaster 0
request_of which (CountsBefore read_by recorded) = AcceptCount
request_of which (Reads read_by recorded before) = credits_request (body_of which)
request_of which (Looks read_by recorded before read) = GetMask
request_of which (CountsAfter read_by recorded before read seen) = AcceptCount
request_of which (IdentAsks question) = question
request_of which (PathSets place path) = path_set place path
request_of which (PathReads place path) = path_read place
request_of which (Routes way) = RouteBill way
request_of which (Pays row) = payout_request row

-- The credits that a device of a family reported, as they are judged.
abbrev pub noted_credits : Family → Credits → Credits
noted_credits family.Acceptor c = c
noted_credits family.Hopper c = c
noted_credits family.Bill c = settled_events c

-- The stage is one of a start.
abbrev pub IsOfStart : Stage → Type 0
IsOfStart (StartResets mask) = ⊤
IsOfStart (StartReads mask) = ⊤
IsOfStart (StartCounts mask) = ⊤
IsOfStart (StartSets mask) = ⊤
IsOfStart stage = ⊥

-- The stage is one of a round or a stop.
abbrev pub IsOfReading : Stage → Type 0
IsOfReading (StopInhibits recorded) = ⊤
IsOfReading (CountsBefore read_by recorded) = ⊤
IsOfReading (Reads read_by recorded before) = ⊤
IsOfReading (Looks read_by recorded before read) = ⊤
IsOfReading (CountsAfter read_by recorded before read seen) = ⊤
IsOfReading stage = ⊥

-- A row of a payment or a settlement that another question follows.
abbrev pub pays_on : Payout → Bool
pays_on (Enables id count halted) = true
pays_on (Dispenses serial own halted) = true
pays_on (Waits closing own) = true
pays_on row = false

-- A row of a reading that another question follows.
abbrev pub reads_on : Stage → Bool
reads_on (CountsBefore read_by recorded) = true
reads_on (Reads read_by recorded before) = true
reads_on (Looks read_by recorded before read) = true
reads_on stage = false

-- A stage that another question follows.
abbrev pub asks_on : Stage → Bool
asks_on (Pays row) = pays_on row
asks_on stage = reads_on stage

-- The stage is one of the setting of a sorter path.
abbrev pub IsOfPath : Stage → Type 0
IsOfPath (PathSets place path) = ⊤
IsOfPath (PathReads place path) = ⊤
IsOfPath stage = ⊥

-- A poll of an address under a check.
abbrev pub asks_at : CheckKind → ℕ → Sending
asks_at check addr = record { to = addr; kind = check; request = poll_of addr }

-- The request that a job sends next, or none where it puts a record or is done.
abbrev pub sending_of : Job → Option Sending
sending_of (Asks device stage failed) =
    Some (record { to = device.addr; kind = device.kind; request = request_of device.family stage })
sending_of (ScanCallsSimple failed) = Some (asks_at Simple 0)
sending_of (ScanCallsCrc failed due) = Some (asks_at Crc 0)
sending_of (ScanPollsSimple addr due listed) = Some (asks_at Simple addr)
sending_of (ScanPollsCrc addr due listed) = Some (asks_at Crc addr)
sending_of job = None

-- The record that opens an order.
abbrev pub opened_by : OpenOrder → Record
opened_by o = record_of.Opened o.id o.addr o.count o.life

-- What a job needs next: it puts a record, or is done, or else it sends a request.
abbrev pub need_of : Job → Need
need_of (StartPuts device mask counted) =
    need.Put (record_of.Epoch device.addr mask counted.accepts)
need_of (RoundPuts entry end) = need.Put entry
need_of (StopPuts device entry end) = need.Put entry
need_of (StopEnds device) = need.Put (record_of.EpochEnd device.addr)
need_of (OrderOpens device own halted) = need.Put (opened_by own.order)
need_of (OrderCloses entry end) = need.Put entry
need_of (SalePuts id price) = need.Put (record_of.Sold id price)
need_of (Done end) = need.Done end
need_of job = need.Exchange

-- A row that asks a device, and no scan's.
abbrev pub asks_device : Job → Bool
asks_device (Asks device stage failed) = true
asks_device job = false

-- What the job of a command needs first: a sale puts its record, and any other job sends a request.
abbrev pub first_need : Command → Need
first_need (command.Vend id price) = need.Put (record_of.Sold id price)
first_need c = need.Exchange

-- A record is to be put.
abbrev pub IsPut : Need → Type 0
IsPut (need.Put entry) = ⊤
IsPut other = ⊥

-- The record that is needed to be put, if one is.
abbrev pub put_in : Need → Option Record
put_in (need.Put entry) = Some entry
put_in other = None

-- The end, where nothing more is needed.
abbrev pub end_in : Need → Option End
end_in (need.Done end) = Some end
end_in other = None

-- The end of a job that is done, and none while it runs.
abbrev pub end_of_job : Job → Option End
end_of_job job = end_in (need_of job)

-- The job of a round after it judged its reading.
abbrev pub round_after : Judged → Job
round_after Nothing = Done Clean
round_after judged_of.Moved = Done Moved
round_after (Reading entry) = RoundPuts entry Posted
round_after (Broken entry) = RoundPuts entry Broke

-- The job of a stop after it judged its reading.
abbrev pub stop_after : Target → Judged → Job
stop_after device Nothing = StopEnds device
stop_after device judged_of.Moved = Done Moved
stop_after device (Reading entry) = StopPuts device entry None
stop_after device (Broken entry) = StopPuts device entry (Some Broke)

-- The end of a job that closes an order by a record.
abbrev pub closing_end : Record → End
closing_end (record_of.Closed id paid unpaid) = Closed
closing_end r = OddLife

-- The row at which a payout is settled: a halted one is stopped before its hopper is asked how it
-- goes.
abbrev pub settling : Closing → Owed → Bool → Payout
settling closing own halted = if halted then Stops closing own else Waits closing own

-- The job after its record was put: a stop that put no end yet puts its epoch's, a payment that
-- opened its order lets the hopper dispense, and a sale is done.
abbrev pub after_put : Job → Job
after_put (StartPuts device mask counted) = Asks device (StartSets mask) 0
after_put (RoundPuts entry end) = Done end
after_put (StopPuts device entry None) = StopEnds device
after_put (StopPuts device entry (Some end)) = Done end
after_put (StopEnds device) = Done Stopped
after_put (OrderOpens device own halted) = Asks device (Pays (Dispenses device.serial own halted)) 0
after_put (OrderCloses entry end) = Done end
after_put (SalePuts id price) = Done Sold
after_put job = job

-- The order that is open where one is owed.
abbrev pub order_of : Option Owed → Option OpenOrder
order_of owed = option_map (λ own. own.order) owed

-- The order that is owed after a job's record was put: that which a payment opened, none where it
-- was closed, and that of before where the record is another.
abbrev pub owed_after : Job → Option Owed → Option Owed
owed_after (OrderOpens device own halted) before = Some own
owed_after (OrderCloses entry end) before = None
owed_after job before = before

-- The record that a job is about to put, if it is about to put one, can be spelt in a journal.
abbrev pub PutsFit : Job → Type 0
PutsFit (RoundPuts entry end) = Encodable entry
PutsFit (StopPuts device entry end) = Encodable entry
PutsFit (OrderCloses entry end) = Encodable entry
PutsFit job = ⊤

-- What was judged of a reading can be spelt in a journal, if it is a record.
abbrev pub JudgedFits : Judged → Type 0
JudgedFits Nothing = ⊤
JudgedFits judged_of.Moved = ⊤
JudgedFits (Reading entry) = Encodable entry
JudgedFits (Broken entry) = Encodable entry

-- An epoch runs with this inhibit mask, event counter and accept counter recorded.
abbrev pub runs : Recorded → EpochState
runs recorded = Running recorded.mask recorded.counter recorded.counted.accepts

-- An epoch runs.
abbrev pub IsRunning : EpochState → Type 0
IsRunning Idle = ⊥
IsRunning (Running mask counter accepts) = ⊤

-- The accept counter that is recorded of an epoch; 0 where none runs.
abbrev pub accepts_of : EpochState → ℕ
accepts_of Idle = 0
accepts_of (Running mask counter accepts) = accepts

-- The row of a payment or a settlement after a halt: the hopper is to be stopped before it is asked
-- how the payout goes.
abbrev pub halted_row : Payout → Payout
halted_row (Enables id count halted) = Enables id count true
halted_row (Counts id count halted) = Counts id count true
halted_row (Dispenses serial own halted) = Dispenses serial own true
halted_row (Waits closing own) = Stops closing own
halted_row row = row

-- How many tries of the row after a halt failed in succession: those of a stop are counted by
-- themselves.
abbrev pub halted_tries : Payout → ℕ → ℕ
halted_tries (Waits closing own) failed = 0
halted_tries row failed = failed

-- The job at a stage after a halt.
abbrev pub halted_at : Target → Stage → ℕ → Job
halted_at device (Pays row) failed = Asks device (Pays (halted_row row)) (halted_tries row failed)
halted_at device stage failed = Asks device stage failed

-- The job after a halt.
abbrev pub after_halt : Job → Job
after_halt (Asks device stage failed) = halted_at device stage failed
after_halt (OrderOpens device own halted) = OrderOpens device own true
after_halt job = job

-- A command whose job is at a device: any but a scan and a sale.
abbrev pub is_of_device : Command → Bool
is_of_device command.Scan = false
is_of_device (command.Vend id price) = false
is_of_device c = true

-- A command that halts a job, and begins none.
abbrev pub is_halt : Command → Bool
is_halt (command.Halt addr) = true
is_halt c = false

-- A test of a command is met, as far as the job that it begins looks at it: its device is of a kind
-- that the command is for, an epoch runs, or an order is open.
abbrev pub IsMet : Option DeviceSetup → EpochState → Option OpenOrder → Test → Type 0
IsMet found state owed AtADevice = IsTrue (is_some found)
IsMet found state owed AtATaker = IsTrue (taker_there found)
IsMet found state owed AtAnAcceptor = IsTrue (acceptor_there found)
IsMet found state owed AtABillAcceptor = IsTrue (bill_there found)
IsMet found state owed AtAHopper = IsTrue (hopper_there found)
IsMet found state owed WithAnEpoch = IsRunning state
IsMet found state owed WithAnOrder = IsTrue (is_some owed)
IsMet found state owed test = ⊤

-- Each of these tests is met.
abbrev pub AreMet : Option DeviceSetup → EpochState → Option OpenOrder → List Test → Type 0
AreMet found state owed [] = ⊤
AreMet found state owed (test ∷ tests) = IsMet found state owed test × AreMet found state owed tests

-- The commands that begin a job: any but a halt whose tests are met.
abbrev pub MayBegin : Command → List DeviceSetup → EpochState → Option OpenOrder → Type 0
MayBegin c devices state owed =
    (is_halt c ≡ false) × AreMet (device_at devices (address_of c)) state owed (state_tests c)

-- The reply of an address under a check in the form that is wanted, if any, in what was heard after
-- a piece was sent.
abbrev pub reply_wanted : CheckKind → ℕ → Option ReplyForm → List ℕ → List ℕ → Option Reply
reply_wanted kind addr wanted sent heard =
    option_and_then (λ form. got kind addr form sent heard) wanted

-- The wanted reply to a request to an address under a check, in what was heard after a piece was
-- sent, or none.
abbrev pub replied : CheckKind → ℕ → Request → List ℕ → List ℕ → Option Reply
replied kind addr q sent heard = reply_wanted kind addr (form_of q) sent heard

-- A life count that a reply is fits its three bytes.
abbrev pub FitsLife : Reply → Type 0
FitsLife y = (count : ℕ) → y ≡ reply.life count → count < 2 ^ 24

-- An accept counter that a reply is fits its three bytes.
abbrev pub FitsAccepts : Reply → Type 0
FitsAccepts y = (count : ℕ) → y ≡ reply.accepts count → count < 2 ^ 24

-- The line of a device that an exchange with it is.
abbrev pub line_heard : DeviceSetup → List ℕ → List ℕ → Line
line_heard d sent heard = exchange (asked d.kind sent) (got_by d sent heard)

-- How many tries of a row failed in succession after one more, or none where that was the third.
abbrev pub after_failed : ℕ → Option ℕ
after_failed failed = if suc failed == 3 then None else Some (suc failed)

-- The first question to a device of a family that other families aren't asked.
abbrev pub first_own_question : Family → Request
first_own_question family.Acceptor = GetMaster
first_own_question family.Hopper = TestHopper
first_own_question family.Bill = GetMaster

-- The question to an acceptor that follows one which other families aren't asked, or none after the
-- last.
abbrev pub acceptor_question_after : Request → Option Request
acceptor_question_after GetMaster = Some GetDefault
acceptor_question_after GetDefault = Some AcceptCount
acceptor_question_after AcceptCount = Some (CoinId 1)
acceptor_question_after (CoinId place) =
    if nat_lt place COIN_PLACES then Some (CoinId (suc place)) else None
acceptor_question_after q = None

-- The question to a bill acceptor that follows one which other families aren't asked, or none after
-- the last.
abbrev pub bill_question_after : Request → Option Request
bill_question_after GetMaster = Some AcceptCount
bill_question_after q = None

-- The question that follows one which only some families are asked, or none after the last.
abbrev pub own_question_after : Family → Request → Option Request
own_question_after family.Acceptor q = acceptor_question_after q
own_question_after family.Hopper q = None
own_question_after family.Bill q = bill_question_after q

-- The question that follows one of an identification of a device of a family, or none after the
-- last.
abbrev pub question_after : Family → Request → Option Request
question_after family MakerId = Some Category
question_after family Category = Some ProductCode
question_after family ProductCode = Some SerialNumber
question_after family SerialNumber = Some SoftwareRevision
question_after family SoftwareRevision = Some BuildCode
question_after family BuildCode = Some CommsRevision
question_after family CommsRevision = Some (first_own_question family)
question_after family q = own_question_after family q

-- The end that the newest line brought to a job, and none before its first line.
abbrev pub newest_end : DeviceSetup → Command → List Line → EpochState → Option End
newest_end d c [] state = None
newest_end d c (line ∷ since) state = end_of d c line since state

-- So many tries of the row that asks a request failed in succession, and fewer than three.
pub record Trying (q : Request) (failed : ℕ) (since : List Line) : Type 0 where
  pub counted : failed ≡ tries (header_of q) since
  pub few : failed < 3

-- What a row of a payment or a settlement knows of the lines before: whether the payout is to be
-- stopped, which order is open, and where the hopper isn't to be stopped yet, that no try to stop
-- it failed.
abbrev pub KnowsPayout : Payout → List Line → Option OpenOrder → Type 0
KnowsPayout (Enables id count halted) since owed = is_marked since ≡ halted
KnowsPayout (Counts id count halted) since owed = is_marked since ≡ halted
KnowsPayout (Dispenses serial own halted) since owed =
    (is_marked since ≡ halted) × (owed ≡ Some own.order)
KnowsPayout (Waits closing own) since owed =
    (is_marked since ≡ false) × (owed ≡ Some own.order) × (tries (header_of StopNow) since ≡ 0)
KnowsPayout (Stops closing own) since owed = (is_marked since ≡ true) × (owed ≡ Some own.order)
KnowsPayout (Recounts closing own) since owed = owed ≡ Some own.order

-- What a stage knows of the lines before: what is recorded of the epoch, which accept counter,
-- credits and mask were read, and what a payment or a settlement knows of its payout.
abbrev pub Knows : Stage → List Line → EpochState → Option OpenOrder → Type 0
Knows (StopInhibits recorded) since state owed = state ≡ runs recorded
Knows (CountsBefore read_by recorded) since state owed = state ≡ runs recorded
Knows (Reads read_by recorded before) since state owed =
    (state ≡ runs recorded) × (accepts_read since ≡ Some before.accepts)
Knows (Looks read_by recorded before read) since state owed =
    (state ≡ runs recorded) × (credits_read since ≡ Some read)
    × (accepts_before since ≡ Some before.accepts)
Knows (CountsAfter read_by recorded before read seen) since state owed =
    (state ≡ runs recorded) × (credits_read since ≡ Some read)
    × (accepts_before since ≡ Some before.accepts)
    × (mask_read since ≡ Some seen)
Knows (Pays row) since state owed = KnowsPayout row since owed
Knows stage since state owed = ⊤

-- A row of a payment has the hopper's own serial number, which fits its three bytes.
abbrev pub SuitsPayout : Payout → Target → Type 0
SuitsPayout (Enables id count halted) device = device.serial < 2 ^ 24
SuitsPayout (Counts id count halted) device = device.serial < 2 ^ 24
SuitsPayout (Dispenses serial own halted) device =
    (device.serial < 2 ^ 24) × (serial ≡ device.serial)
SuitsPayout row device = ⊤

-- A stage of a job has what only its device can give it: of a payment that serial number, and of an
-- identification one of the questions that the device is asked.
abbrev pub Suits : Stage → Target → Type 0
Suits (IdentAsks question) device =
    slice_get (questions_of device) (place_of question (questions_of device)) ≡ Some question
Suits (Pays row) device = SuitsPayout row device
Suits stage device = ⊤

-- A job at a stage: the rows of its command that are left are those that it has ahead, and its
-- newest line didn't end it.
pub record Asking (d : DeviceSetup) (device : Target) (stage : Stage) (failed : ℕ) (c : Command)
    (since : List Line)
    (state : EpochState) (owed : Option OpenOrder) : Type 0 where
  pub device_is : device ≡ target_of d
  pub is_here : address_of c ≡ d.addr
  pub ahead_is : rest d c since ≡ stage_ahead device stage
  pub suits : Suits stage device
  pub knows : Knows stage since state owed
  pub trying : Trying (request_of device.family stage) failed since
  pub goes_on : newest_end d c since state ≡ None

-- A job puts a record, which ends it so, or doesn't: the rows that are left beside its epoch are
-- those that it has ahead.
pub record Putting (d : DeviceSetup) (job : Job) (entry : Record) (end : Option End) (c : Command)
    (since : List Line) (state : EpochState) (owed : Option OpenOrder) : Type 0 where
  pub is_here : address_of c ≡ d.addr
  pub ahead_is : left d c since state ≡ ahead job
  pub row_is : row d c since state owed ≡ puts entry
  pub ends : end_kept (rest d c since) entry ≡ end
  pub goes_on : newest_end d c since state ≡ None

-- A payment puts that its order is opened at the device, with the life count that it read.
pub record Opening (d : DeviceSetup) (device : Target) (own : Owed) (halted : Bool) (c : Command)
    (since : List Line)
    (state : EpochState) (owed : Option OpenOrder) : Type 0 where
  pub device_is : device ≡ target_of d
  pub serial : device.serial < 2 ^ 24
  pub rest_is : rest d c since ≡ ahead (OrderOpens device own halted)
  pub marked : is_marked since ≡ halted
  pub read : life_read since ≡ Some own.order.life
  pub is_here : own.order.addr ≡ d.addr
  pub at : Putting d (OrderOpens device own halted) (opened_by own.order) None c since state owed

-- A payment or a settlement puts the record that closes the open order with the life count that it
-- read, and ends so.
pub record Settling (d : DeviceSetup) (entry : Record) (end : End) (c : Command) (since : List Line)
    (state : EpochState) (owed : Option OpenOrder) : Type 0 where
  pub order : OpenOrder
  pub life : ℕ
  pub closes : entry ≡ close order life
  pub at : Putting d (OrderCloses entry end) entry (Some end) c since state owed

-- A job represents the lines of a device since its command was taken, beside the epoch and the open
-- order: each variant is at its row. A job that puts something and then goes on has just its own
-- rows to come.
abbrev pub Stands : DeviceSetup → Job → Command → List Line → EpochState → Option OpenOrder → Type 0
Stands d (Asks device stage failed) c since state owed =
    Asking d device stage failed c since state owed
Stands d (StartPuts device mask counted) c since state owed =
    (device ≡ target_of d) × (rest d c since ≡ ahead (StartPuts device mask counted))
    × Putting d (StartPuts device mask counted) (record_of.Epoch d.addr mask counted.accepts) None c
    since state owed
Stands d (RoundPuts entry end) c since state owed =
    Putting d (RoundPuts entry end) entry (Some end) c since state owed
Stands d (StopPuts device entry end) c since state owed =
    (device ≡ target_of d) × (rest d c since ≡ ahead (StopPuts device entry end))
    × Putting d (StopPuts device entry end) entry end c since state owed
Stands d (StopEnds device) c since state owed =
    (device ≡ target_of d)
    × Putting d (StopEnds device) (record_of.EpochEnd d.addr) (Some Stopped) c since state owed
Stands d (OrderOpens device own halted) c since state owed =
    Opening d device own halted c since state owed
Stands d (OrderCloses entry end) c since state owed = Settling d entry end c since state owed
Stands d (Done end) c since state owed = newest_end d c since state ≡ Some end
Stands d job c since state owed = ⊥

-- A job at a device sends a request next.
pub record SendsNext (d : DeviceSetup) (c : Command) (since : List Line) (state : EpochState)
    (owed : Option OpenOrder) : Type 0 where
  pub request : Request
  pub row_is : row d c since state owed ≡ sends request

-- A record that closes an order closes one that was opened last at this address; of any other
-- record nothing is asked.
abbrev pub ClosesItsOwn : List Entry → ℕ → Record → Type 0
ClosesItsOwn past addr (record_of.Closed id paid unpaid) = opened_at id past ≡ addr
ClosesItsOwn past addr (record_of.Odd id life_before life_after) = opened_at id past ≡ addr
ClosesItsOwn past addr r = ⊤

-- A job at a device puts this record next, which is one of the device's address, after any past in
-- which the order that it closes, if it closes one, was opened there.
pub record PutsNext (entry : Record) (d : DeviceSetup) (c : Command) (since : List Line)
    (state : EpochState)
    (owed : Option OpenOrder) : Type 0 where
  pub is_here : address_of c ≡ d.addr
  pub row_is : row d c since state owed ≡ puts entry
  pub owned : (past : List Entry) → ClosesItsOwn past d.addr entry → owner past entry ≡ d.addr

-- What a job at a device needs, by its lines: its row sends a request or puts this record, or its
-- newest line ended it so.
abbrev pub Needs : Need → DeviceSetup → Command → List Line → EpochState → Option OpenOrder → Type 0
Needs need.Exchange d c since state owed = SendsNext d c since state owed
Needs (need.Put entry) d c since state owed = PutsNext entry d c since state owed
Needs (need.Done end) d c since state owed = newest_end d c since state ≡ Some end
