-- What a host does for each line of its input, and what is reported of it.
use Rattle.std.specs.Prelude.{◌≡◌, ◌≢◌, ◌≤◌, ◌<◌, ◌+◌, ◌%◌, ◌⊎◌, ℕ, zero, suc, Bool, true, false, List, []}
use Rattle.std.specs.Prelude.{◌∷◌, ◌++◌, length, Option, Some, None, OnOk, Result, Ok, Err, ⊤}
use Rattle.std.specs.List.{All, list_any}
use Rattle.cct_model.specs.lines.command.Command.{Command}
use Rattle.cct_model.specs.lines.command.Command.TheVariants as command
use Rattle.cct_model.specs.lines.command.CommandNo.{CommandNo}
use Rattle.cct_model.specs.lines.command.Step.{Step}
use Rattle.cct_model.specs.lines.command.Step.TheVariants as step
use Rattle.cct_model.specs.lines.entry.Entry.{Entry}
use Rattle.cct_model.specs.lines.entry.LineKind.TheVariants as kind
use Rattle.cct_model.specs.declared.change.Payment.{Payment}
use Rattle.cct_model.specs.terms.device.DeviceSetup.{DeviceSetup}
use Rattle.cct_model.specs.terms.device.Setup.{Setup}
use Rattle.cct_model.specs.Exchange.{device_at, hopper_there}
use Rattle.cct_script.specs.declared.live.LiveLine.{LiveLine}
use Rattle.cct_script.specs.declared.live.LiveLine.TheVariants as says
use Rattle.cct_live_survey.specs.declared.finding.Finding.{Finding}
use Rattle.cct_live_survey.specs.declared.withholding.Withheld.{Withheld}
use Rattle.cct_live_survey.specs.Finding.{withheld_by}
use Rattle.cct_laws_live.specs.LiveStep.{LiveStep}
use Rattle.cct_laws_live.specs.LiveStep as live
use Rattle.cct_live_service.specs.declared.attempts.TheConstants.{MOST_ATTEMPTS}
use Rattle.cct_live_service.specs.declared.visit.TheConstants.{MOST_ROUNDS}
use Rattle.cct_live_service.specs.declared.visit.Task.{Task}
use Rattle.cct_live_service.specs.declared.visit.Task.TheVariants as task
use Rattle.cct_live_service.specs.declared.attempts.Until.{Until}
use Rattle.cct_live_service.specs.declared.attempts.Until.TheVariants as until_of
use Rattle.cct_live_service.specs.declared.input.InputLine.TheVariants as input
use Rattle.cct_live_service.specs.declared.notice.Notice.{Notice}
use Rattle.cct_live_service.specs.declared.notice.Notice.TheVariants as notice_of
use Rattle.cct_live_order.specs.declared.told.OrderTold.{OrderTold}
use Rattle.cct_live_order.specs.declared.told.OrderTold.TheVariants as order_of
use Rattle.cct_live_service.specs.declared.served.Served.{Served}
use Rattle.cct_live_service.specs.declared.served.Served.TheVariants as served
use Rattle.cct_live_service.specs.declared.stopping.AtEnd.{AtEnd}
use Rattle.cct_live_service.specs.declared.stopping.AtEnd.TheVariants as at_end
use Rattle.cct_live_service.specs.Ends.{IsOfEnd, tells_end, tells_moved, tells_some}
use Rattle.cct_live_service.specs.Ends.{tells_unanswered}
use Rattle.cct_live_service.specs.Known.{HasJob, Knows, Rests, Runs, Tasks, tasks_by}
use Rattle.cct_live_service.specs.Said.{Said}
use Rattle.cct_live_service.specs.Status.{AreOfStatus}
use Rattle.cct_live_service.specs.Told.{Told, attempt_told, entry, falls_short, findings_in}
use Rattle.cct_live_service.specs.Told.{found_told, knows_each, notice, notices_told, operates}
use Rattle.cct_live_service.specs.Told.{pay_of, pays, refused, refused_for, taken, withheld_for}
use Rattle.cct_live_service.specs.Watch.{IsOfWatch}

-- One thing is done and reported, and then another one, which goes by what was reported.
pub record ThenBy (First : List LiveStep → List Told → Type 0)
    (Next : List Told → List LiveStep → List Told → Type 0)
    (steps : List LiveStep) (told : List Told) : Type 0 where
  pub before : List LiveStep
  pub after : List LiveStep
  pub said : List Told
  pub added : List Told
  pub steps_are : steps ≡ before ++ after
  pub told_is : told ≡ said ++ added
  pub first : First before said
  pub next : Next said after added

-- One thing is done and reported, and then the other.
abbrev pub Then : (List LiveStep → List Told → Type 0) → (List LiveStep → List Told → Type 0) →
    List LiveStep → List Told
    → Type 0
Then First Next = ThenBy First (λ said. Next)

-- It is done and reported up to where it broke off.
pub record FrontOf (Whole : List LiveStep → List Told → Type 0) (steps : List LiveStep)
    (told : List Told) : Type 0 where
  pub undone : List LiveStep
  pub untold : List Told
  pub whole : Whole (steps ++ undone) (told ++ untold)

-- Nothing is done and reported.
abbrev pub IsNothing : List LiveStep → List Told → Type 0
IsNothing steps told = (steps ≡ []) × (told ≡ [])

-- One step, and one entry is reported.
abbrev pub TellsOne : LiveStep → List LiveStep → List Told → Type 0
TellsOne s steps told = (steps ≡ s ∷ []) × ((e : Entry) × (told ≡ entry e ∷ []))

-- Nothing is done, and this alone is reported.
abbrev pub Tells : Told → List LiveStep → List Told → Type 0
Tells what steps told = (steps ≡ []) × (told ≡ what ∷ [])

-- Nothing is done, and it is reported how a host stands, by the devices of its setup.
abbrev pub IsStatus : List DeviceSetup → List LiveStep → List Told → Type 0
IsStatus devices steps told = (steps ≡ []) × AreOfStatus devices told

-- It is done and reported so many times in a row.
abbrev pub Times : ℕ → (List LiveStep → List Told → Type 0) → List LiveStep → List Told → Type 0
Times zero Each = IsNothing
Times (suc n) Each = Then (Times n Each) Each

-- What is reported of an attempt, whose message was written or not, where it made an exchange: its
-- entries, and then of the line and the bills that are held. `Exchanges` says what.
abbrev pub TellsAttempt : Bool → List Entry → List Told → Type 0
TellsAttempt is_sent entries told =
    (notices : List Notice) × All IsOfWatch notices
    × (told ≡ attempt_told is_sent entries ++ notices_told notices)

-- The job at an address makes one attempt with these entries, whose message was written or not,
-- where it made an exchange.
abbrev pub IsAttemptWith : Bool → List Entry → ℕ → List LiveStep → List Told → Type 0
IsAttemptWith is_sent entries addr steps told =
    (steps ≡ live.next addr ∷ []) × TellsAttempt is_sent entries told

-- The job at an address makes one attempt.
abbrev pub IsAttempt : ℕ → List LiveStep → List Told → Type 0
IsAttempt addr steps told =
    (is_sent : Bool) × (entries : List Entry) × IsAttemptWith is_sent entries addr steps told

-- The job at an address makes an attempt that isn't its last one.
abbrev pub GoesOn : ℕ → List LiveStep → List Told → Type 0
GoesOn addr steps told = IsAttempt addr steps told × (tells_end told ≡ false)

-- It makes one attempt more after so many, up to its end or up to a failed try: it ends, or that
-- was the last one that is made. That a try failed isn't reported.
abbrev pub IsLastTry : Until → ℕ → ℕ → List LiveStep → List Told → Type 0
IsLastTry until_of.Ended made addr steps told =
    IsAttempt addr steps told × ((tells_end told ≡ true) ⊎ (suc made ≡ MOST_ATTEMPTS))
IsLastTry until_of.Failed made addr steps told = IsAttempt addr steps told

-- The job at an address makes attempts up to there, one at least. The last one alone ends it.
abbrev pub MakesAttempts : Until → ℕ → List LiveStep → List Told → Type 0
MakesAttempts until addr steps told =
    (made : ℕ) × (suc made ≤ MOST_ATTEMPTS)
    × Then (Times made (GoesOn addr)) (IsLastTry until made addr) steps told

-- The job at an address makes attempts up to there, where one is; where none is, nothing is done.
abbrev pub GoesOnTo : Type 0 → Until → ℕ → List LiveStep → List Told → Type 0
GoesOnTo NoJob until addr steps told =
    (IsNothing steps told × NoJob) ⊎ MakesAttempts until addr steps told

-- A round is begun at an address, or none is.
abbrev pub BeginsRound : ℕ → List LiveStep → List Told → Type 0
BeginsRound addr steps told =
    IsNothing steps told ⊎ TellsOne (live.command (command.Round addr)) steps told

-- And then its job makes attempts up to its end, or up to a failed try, if there is one. They end
-- so.
abbrev pub IsRound : (List Told → Type 0) → ℕ → List LiveStep → List Told → Type 0
IsRound Ends addr =
    Then (BeginsRound addr)
    (λ steps told. GoesOnTo ⊤ until_of.Failed addr steps told × Ends told)

-- An acceptor is read by a round after which a further one comes: a coin came meanwhile.
abbrev pub IsMovedRound : ℕ → List LiveStep → List Told → Type 0
IsMovedRound = IsRound (λ told. tells_moved told ≡ true)

-- After so many such rounds it is read by the last one: no coin came meanwhile, or that was the
-- last one that is made.
abbrev pub IsLastRound : ℕ → ℕ → List LiveStep → List Told → Type 0
IsLastRound before =
    IsRound (λ told. (tells_moved told ≡ false) ⊎ (suc before ≡ MOST_ROUNDS))

-- An acceptor is read out by rounds.
abbrev pub ReadsOut : ℕ → List LiveStep → List Told → Type 0
ReadsOut addr steps told =
    (before : ℕ) × (suc before ≤ MOST_ROUNDS)
    × Then (Times before (IsMovedRound addr)) (IsLastRound before addr) steps told

-- What is done at a device where this is to be done.
abbrev pub DoesTask : Task → ℕ → List LiveStep → List Told → Type 0
DoesTask task.Nothing addr = IsNothing
DoesTask task.Attempt addr = IsAttempt addr
DoesTask task.ReadOut addr = ReadsOut addr

-- What a poll does at a device: what is to be done there.
abbrev pub IsVisit : (ℕ → Task → Type 0) → ℕ → List LiveStep → List Told → Type 0
IsVisit Has addr steps told = (what : Task) × Has addr what × DoesTask what addr steps told

-- It does so at devices of these addresses, newest first, one after another.
abbrev pub AreVisits : Tasks → List ℕ → List LiveStep → List Told → Type 0
AreVisits has [] = IsNothing
AreVisits has (addr ∷ before) = ThenBy (AreVisits has before) (λ said. IsVisit (has said) addr)

-- These findings are reported.
abbrev pub IsFound : List Finding → List LiveStep → List Told → Type 0
IsFound findings steps told = (steps ≡ []) × (told ≡ found_told findings)

-- Findings are reported.
abbrev pub IsAsking : List LiveStep → List Told → Type 0
IsAsking steps told = (findings : List Finding) × IsFound findings steps told

-- These addresses, newest first, come in rising order from the first one on, at so many places:
-- each once. After 255 comes 0.
abbrev pub Rise : ℕ → ℕ → List ℕ → Type 0
Rise first places [] = ⊤
Rise first places (addr ∷ before) =
    (place : ℕ) × (place < places) × (addr ≡ (first + place) % 256) × Rise first place before

-- The devices at other addresses than this one are visited in rising order from one on, none of
-- them twice.
abbrev pub VisitsOthers : Tasks → Option ℕ → List LiveStep → List Told → Type 0
VisitsOthers has turn steps told =
    (first : ℕ) × (visited : List ℕ) × Rise first 256 visited
    × All (λ addr. turn ≢ Some addr) visited × AreVisits has visited steps told

-- This one is visited, if there is one, or it isn't.
abbrev pub VisitsTurn : (ℕ → Task → Type 0) → Option ℕ → List LiveStep → List Told → Type 0
VisitsTurn Has None = IsNothing
VisitsTurn Has (Some addr) = λ steps told. IsNothing steps told ⊎ IsVisit Has addr steps told

-- At last it may be; before or after it findings are reported.
abbrev pub VisitsLast : Tasks → Option ℕ → List LiveStep → List Told → Type 0
VisitsLast has turn steps told =
    ThenBy IsAsking (λ said. VisitsTurn (has said) turn) steps told
    ⊎ Then (VisitsTurn (has []) turn) IsAsking steps told

-- What a poll does: it visits devices in rising order, none of them twice, and reports findings.
abbrev pub IsPoll : Tasks → List LiveStep → List Told → Type 0
IsPoll has steps told =
    (turn : Option ℕ)
    × ThenBy (VisitsOthers has turn) (λ said. VisitsLast (λ more. has (said ++ more)) turn) steps
    told

-- The device at an address is visited or not; and it isn't, where it has its turn later.
abbrev pub VisitsUnless : (ℕ → Task → Type 0) → Option ℕ → ℕ → List LiveStep → List Told → Type 0
VisitsUnless Has turn addr steps told =
    IsNothing steps told ⊎ (IsVisit Has addr steps told × (turn ≢ Some addr))

-- A command is given to the host, which answers; or it is reported that it isn't, and why.
abbrev pub DoesCommand : Command → Option Withheld → List LiveStep → List Told → Type 0
DoesCommand c None = TellsOne (live.command c)
DoesCommand c (Some why) = Tells (notice (notice_of.Withheld c why))

-- A command is decided by what is found: what was found before, and what is reported first.
abbrev pub Decides : List Finding → Command → List LiveStep → List Told → Type 0
Decides findings c =
    ThenBy IsAsking (λ said. DoesCommand c (withheld_by (findings ++ findings_in said) c))

-- It is reported what is known of an order; or that it couldn't be read, where that was missed.
abbrev pub IsOrder : Type 0 → ℕ → List LiveStep → List Told → Type 0
IsOrder Missed id steps told =
    (steps ≡ [])
    × ((known : OrderTold) × (told ≡ notice (notice_of.Order id known) ∷ [])
    × (known ≡ order_of.Unread → Missed))

-- Nothing is done, and it is reported what the journal knows: all of it, a line each; or that it
-- couldn't be read, where that was missed.
abbrev pub IsStating : Type 0 → List LiveStep → List Told → Type 0
IsStating Missed steps told =
    (steps ≡ [])
    × (((lines : List (List ℕ)) × (told ≡ knows_each lines lines))
    ⊎ ((told ≡ notice notice_of.StateUnread ∷ []) × Missed))

-- A step at the operator's desk, which gives the host nothing, and its entry is reported. `AtDesk`
-- says which that is.
abbrev pub TellsStep : Step → List LiveStep → List Told → Type 0
TellsStep s steps told = (steps ≡ []) × ((e : Entry) × (told ≡ operates s e ∷ []))

-- A payment of a session is given to the host, which takes it, or refuses it and the session ends
-- short; or it is reported that it isn't given, and why, and the session ends short.
abbrev pub DoesPay : Payment → Option Withheld → List LiveStep → List Told → Type 0
DoesPay p None steps told =
    (steps ≡ live.command (pay_of p) ∷ [])
    × ((told ≡ pays p taken ∷ [])
    ⊎ ((why : CommandNo) × (paid : ℕ) × (rest : ℕ)
    × (told ≡ pays p (refused_for why) ∷ falls_short p paid rest ∷ [])))
DoesPay p (Some why) steps told =
    (steps ≡ []) × ((paid : ℕ) × (rest : ℕ)
    × (told ≡ pays p (withheld_for why) ∷ falls_short p paid rest ∷ []))

-- Such a payment is decided as one of the operator is.
abbrev pub DecidesPay : List Finding → Payment → List LiveStep → List Told → Type 0
DecidesPay findings p =
    ThenBy IsAsking (λ said. DoesPay p (withheld_by (findings ++ findings_in said) (pay_of p)))

-- A session of change goes on: it is reported how, or it makes a payment.
abbrev pub IsServing : List Finding → List LiveStep → List Told → Type 0
IsServing findings steps told =
    TellsStep step.Serve steps told ⊎ ((p : Payment) × DecidesPay findings p steps told)

-- In a poll it does, unless it has nothing to do: just then nothing is done.
abbrev pub ServesOn : (Bool → Type 0) → List Finding → List LiveStep → List Told → Type 0
ServesOn Rested findings steps told =
    (IsNothing steps told × Rested true) ⊎ (IsServing findings steps told × Rested false)

-- What is done for what a line says, by whether the session has nothing to do, by what is to be
-- done at each device, by what is missed where the journal can't be read, by the devices of the
-- setup, and by what was found before. One that ends the service is none of these.
abbrev pub Does : (Bool → Type 0) → Tasks → Type 0 → List DeviceSetup → List Finding → LiveLine →
    List LiveStep → List Told → Type 0
Does Rested has Missed devices findings (says.Command c) = Decides findings c
Does Rested has Missed devices findings (says.Next addr) = IsAttempt addr
Does Rested has Missed devices findings (says.Do addr) = MakesAttempts until_of.Ended addr
Does Rested has Missed devices findings says.Poll =
    ThenBy (ServesOn Rested findings) (λ said. IsPoll (λ more. has (said ++ more)))
Does Rested has Missed devices findings says.Balance = TellsOne live.balance
Does Rested has Missed devices findings says.Status = IsStatus devices
Does Rested has Missed devices findings (says.Order id) = IsOrder Missed id
Does Rested has Missed devices findings (says.Stock addr count) = TellsStep (step.Stock addr count)
Does Rested has Missed devices findings (says.Change first amount) =
    TellsStep (step.Change first amount)
Does Rested has Missed devices findings says.Serve = IsServing findings
Does Rested has Missed devices findings says.End = λ steps told. ⊥

-- A line names what is there: a stock is one of a hopper.
abbrev pub is_known : List DeviceSetup → LiveLine → Bool
is_known devices (says.Stock addr count) = hopper_there (device_at devices addr)
is_known devices said = true

-- What is done for a line that names what is there, or not: what it says, or it is refused.
abbrev pub DoesKnown : (Bool → Type 0) → Tasks → Type 0 → Bool → List DeviceSetup → List Finding → ℕ →
    LiveLine → List LiveStep → List Told
    → Type 0
DoesKnown Rested has Missed true devices findings number said = Does Rested has Missed devices findings said
DoesKnown Rested has Missed false devices findings number said = Tells (refused number kind.Device)

-- What is done for the line of a number, by what is missed where the journal can't be read, and by
-- the devices of the setup; or it is reported that it says nothing.
abbrev pub DoesLine : (Bool → Type 0) → Tasks → Type 0 → List DeviceSetup → List Finding → ℕ → Said →
    List LiveStep → List Told → Type 0
DoesLine Rested has Missed devices findings number (Ok (input.Host said)) =
    DoesKnown Rested has Missed (is_known devices said) devices findings number said
DoesLine Rested has Missed devices findings number (Ok input.State) = IsStating Missed
DoesLine Rested has Missed devices findings number (Err why) = Tells (refused number why)

-- What was done for lines, newest first: each one is done after those before it, by what is known
-- and was found up to then.
abbrev pub DoesLines : Knows → Type 0 → Setup → List Finding → List Said → List LiveStep →
    List Told → Type 0
DoesLines knows Missed setup findings [] = IsNothing
DoesLines knows Missed setup findings (said ∷ before) =
    ThenBy (DoesLines knows Missed setup findings before)
    (λ told. DoesLine (λ rest. knows told (Rests setup rest))
    (λ more. tasks_by knows setup (told ++ more)) Missed setup.devices (findings ++ findings_in told)
    (suc (length before)) said)

-- It was done so, and what is found then is what was found before and what was reported.
abbrev pub Finds : List Finding → List Finding → (List LiveStep → List Told → Type 0) →
    List LiveStep → List Told → Type 0
Finds before now Doing steps told = Doing steps told × (now ≡ before ++ findings_in told)

-- It is done so. And where the host keeps running, how jobs ended stands in the entries of the last
-- attempt: one of them is such exactly where one is among all that is reported.
abbrev pub EndsAs : Result (Unit {0}) Served → List Entry → (List LiveStep → List Told → Type 0) →
    List LiveStep → List Told
    → Type 0
EndsAs result entries Doing steps told =
    Doing steps told
    × OnOk result ((is_such : Entry → Bool) → IsOfEnd is_such
    → tells_some is_such told ≡ list_any is_such entries)

-- A round is begun at an address, or none is, and its job makes attempts. And where the host keeps
-- running, how they ended stands in the entries of the last one.
abbrev pub EndsRound : Result (Unit {0}) Served → List Entry → ℕ → List LiveStep → List Told →
    Type 0
EndsRound result entries addr =
    Then (BeginsRound addr) (EndsAs result entries (GoesOnTo ⊤ until_of.Failed addr))

-- A stop is begun at an address, and its job makes attempts up to its end, if it was taken.
abbrev pub GivesStop : Knows → Setup → ℕ → List LiveStep → List Told → Type 0
GivesStop knows setup addr =
    ThenBy (TellsOne (live.command (command.Stop addr)))
    (λ said. GoesOnTo (knows said (HasJob setup addr false)) until_of.Ended addr)

-- A host keeps running after it.
abbrev pub LivesPast : Result (Unit {0}) Served → Type 0
LivesPast (Ok done) = ⊤
LivesPast (Err how) = ⊥

-- A service comes to its end, after all that its input said.
abbrev pub IsDone : Served → Type 0
IsDone served.Done = ⊤
IsDone how = ⊥

-- An acceptor that runs still after this is stopped, unless the job that was there ended for want
-- of an answer. Else nothing is done: where it isn't broken off, a stop is given only where one
-- runs.
abbrev pub StopsStill : Type 0 → Knows → Setup → ℕ → List Told → List LiveStep → List Told → Type 0
StopsStill Lasts knows setup addr said steps told =
    (IsNothing steps told
    × (knows said (Runs setup addr false) ⊎ (tells_unanswered said ≡ true)))
    ⊎ (GivesStop (λ more. knows (said ++ more)) setup addr steps told
    × (tells_unanswered said ≡ false) × (Lasts → knows said (Runs setup addr true)))

-- The job at an address makes attempts up to its end, and then the acceptor is stopped.
abbrev pub StopsRunning : Type 0 → Knows → Setup → ℕ → List LiveStep → List Told → Type 0
StopsRunning Lasts knows setup addr =
    ThenBy (GoesOnTo (knows [] (HasJob setup addr false)) until_of.Ended addr)
    (StopsStill Lasts knows setup addr)

-- So the acceptor at an address is stopped, unless none runs there; and where it isn't broken off,
-- only one that runs.
abbrev pub StopsAt : Type 0 → Knows → Setup → ℕ → List LiveStep → List Told → Type 0
StopsAt Lasts knows setup addr steps told =
    (IsNothing steps told × knows [] (Runs setup addr false))
    ⊎ (StopsRunning Lasts knows setup addr steps told
    × (Lasts → knows [] (Runs setup addr true)))

-- So it is at each of the first so many addresses, one after another.
abbrev pub StopsUpTo : ℕ → Type 0 → Knows → Setup → List LiveStep → List Told → Type 0
StopsUpTo zero Lasts knows setup = IsNothing
StopsUpTo (suc addr) Lasts knows setup =
    ThenBy (StopsUpTo addr Lasts knows setup)
    (λ said. StopsAt Lasts (λ more. knows (said ++ more)) setup addr)

-- What is done at the end: at each address.
abbrev pub StopsBy : AtEnd → Type 0 → Knows → Setup → List LiveStep → List Told → Type 0
StopsBy at_end.Leave Lasts knows setup = IsNothing
StopsBy at_end.Stop Lasts knows setup = StopsUpTo 256 Lasts knows setup

-- Only where the input said so, or was over, something is done at the end.
abbrev pub ends_by : Served → AtEnd → AtEnd
ends_by served.Done ends = ends
ends_by served.Unwritten ends = ends
ends_by served.Disk ends = ends
ends_by how ends = at_end.Leave

-- What a service does for lines, newest first, up to its end: it reports first what it begins with.
abbrev pub PlaysLines : Knows → Type 0 → Setup → Notice → List Finding → List Said → List LiveStep →
    List Told → Type 0
PlaysLines knows Missed setup opening findings lines =
    Then (Tells (notice opening)) (DoesLines knows Missed setup findings lines)

-- And what it does at the end, up to which it lasts or is broken off.
abbrev pub ServesLines : Type 0 → Knows → Type 0 → Setup → Notice → List Finding → AtEnd →
    List Said → List LiveStep → List Told → Type 0
ServesLines Lasts knows Missed setup opening findings ends lines =
    ThenBy (PlaysLines knows Missed setup opening findings lines)
    (λ said. StopsBy ends Lasts (λ more. knows (said ++ more)) setup)
