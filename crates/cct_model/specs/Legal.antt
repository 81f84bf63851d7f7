-- A legal transcript: the entries of a script's steps, one step after the other, and none besides.
use Rattle.std.specs.Prelude.{◌≡◌, ◌⊎◌, ℕ, suc, ◌<◌, ◌==◌, Bool, true, false, List, [], ◌∷◌, ◌++◌}
use Rattle.std.specs.Prelude.{length, if◌then◌else◌, Option, Some, None, MatchBool}
use Rattle.cct_model.specs.terms.wire.TheConstants.{BROADCAST, HOST}
use Rattle.cct_model.specs.terms.wire.CheckKind.{CheckKind}
use Rattle.cct_model.specs.terms.device.DeviceSetup.{DeviceSetup}
use Rattle.cct_model.specs.terms.device.Setup.{Setup}
use Rattle.cct_model.specs.terms.family.Happening.{Happening}
use Rattle.cct_model.specs.terms.family.Happening.TheVariants as happening
use Rattle.cct_model.specs.lines.command.Command.{Command}
use Rattle.cct_model.specs.lines.command.Command.TheVariants as command
use Rattle.cct_model.specs.lines.command.CommandNo.{CommandNo}
use Rattle.cct_model.specs.lines.command.CrashAt.{CrashAt}
use Rattle.cct_model.specs.lines.command.Step.{Step}
use Rattle.cct_model.specs.lines.command.Step.TheVariants as step
use Rattle.cct_model.specs.lines.record.Record.{Record}
use Rattle.cct_model.specs.lines.entry.End.{End}
use Rattle.cct_model.specs.lines.entry.Entry.{Entry}
use Rattle.cct_model.specs.lines.entry.Entry.TheVariants as entry
use Rattle.cct_model.specs.Acceptor.{accepts, path_of}
use Rattle.cct_model.specs.Bill.{holds}
use Rattle.cct_model.specs.Family.{family_of, known_to}
use Rattle.cct_model.specs.Hopper.{remaining}
use Rattle.cct_model.specs.Exchange.{ask, asked, device_at}
use Rattle.cct_model.specs.Line.{Line, exchange, put}
use Rattle.cct_model.specs.Order.{order}
use Rattle.cct_model.specs.Job.{Job, free, works, job, Row, sends, puts, no_row, epoch}
use Rattle.cct_model.specs.Rows.{row, row_of_sale, end_of, end_of_sale}
use Rattle.cct_model.specs.Records.{records}
use Rattle.cct_model.specs.Money.{totals}
use Rattle.cct_model.specs.Refusal.{refusal}
use Rattle.cct_model.specs.Script.{IsCommand}
use Rattle.cct_model.specs.Scan.{scan_row, end_of_scan, poll_of}
use Rattle.cct_model.specs.Honest.{forged_after, without_forged}
use Rattle.cct_model.specs.Transcript.{met, lines_of, scan_lines, scan_line, sale_lines}
use Rattle.cct_model.specs.Transcript.{heard_after, got_by, onto}

-- The entry of a coin: accepted with its path where the acceptor accepts its place, else inhibited.
abbrev pub coin_entry : DeviceSetup → List Entry → ℕ → Entry
coin_entry d past place =
    if accepts (met d past) place
    then entry.Accepted d.addr (record { place = place; path = path_of (met d past) place })
    else entry.Inhibited d.addr place

-- The entry of a bill: held where the bill acceptor holds it, else inhibited.
abbrev pub bill_entry : DeviceSetup → List Entry → ℕ → Entry
bill_entry d past place =
    if holds (met d past) place then entry.Held d.addr place else entry.Inhibited d.addr place

-- The entry of a coin that may fall out of a hopper: it does where the hopper has some left to pay.
abbrev pub fall_entry : DeviceSetup → List Entry → Entry
fall_entry d past =
    if remaining d.serial (met d past) == 0 then entry.NoFall d.addr else entry.Fell d.addr

-- The entry of a coin that may stick in a hopper: it does where the hopper has some left to pay.
abbrev pub jam_entry : DeviceSetup → List Entry → Entry
jam_entry d past =
    if remaining d.serial (met d past) == 0 then entry.NoJam d.addr else entry.Jammed d.addr

-- The step by which something happens to the device at an address.
abbrev pub step_of : ℕ → Happening → Step
step_of addr (happening.Coin place) = step.Coin addr place
step_of addr happening.Alien = step.Alien addr
step_of addr (happening.Bill place) = step.Bill addr place
step_of addr happening.Fall = step.Fall addr
step_of addr happening.Jam = step.Jam addr
step_of addr happening.Reset = step.Reset addr

-- The entry of what happens to the device at an address.
abbrev pub happening_entry : ℕ → DeviceSetup → List Entry → Happening → Entry
happening_entry addr d past (happening.Coin place) = coin_entry d past place
happening_entry addr d past happening.Alien = entry.Alien addr
happening_entry addr d past (happening.Bill place) = bill_entry d past place
happening_entry addr d past happening.Fall = fall_entry d past
happening_entry addr d past happening.Jam = jam_entry d past
happening_entry addr d past happening.Reset = entry.Reset addr

-- The entry of a command: taken, or refused with its reason.
abbrev pub command_entry : Command → Option CommandNo → Entry
command_entry c None = entry.Taken c
command_entry c (Some why) = entry.No c why

-- An entry of a job, and the job's end where the entry brings it, newest first.
abbrev pub with_end : ℕ → Entry → Option End → List Entry
with_end addr e None = e ∷ []
with_end addr e (Some end) = entry.Ended addr end ∷ e ∷ []

-- The entries of one attempt of a row of a job at a device, newest first: one exchange, or one put,
-- and its end. What follows the bytes that are sent is an argument.
abbrev pub RowEntries : (List ℕ → List ℕ) → DeviceSetup → List Entry → Command → List Line → Row →
    List Entry → Type 0
RowEntries hears d past c since (sends q) news =
    let sent = ask d.kind d.addr q in
    let piece = hears sent in
    news ≡ with_end d.addr (entry.Wire d.addr sent piece)
    (end_of d c (exchange (asked d.kind sent) (got_by d sent piece)) since
    (epoch (lines_of d past)))
RowEntries hears d past c since (puts r) news =
    news ≡ with_end d.addr (entry.Put r) (end_of d c (put r) since (epoch (lines_of d past)))
RowEntries hears d past c since no_row news = ⊥

-- The entries of a `next` at a device, newest first: idle with no job, else those of its row.
abbrev pub NextEntries : (List ℕ → List ℕ) → DeviceSetup → List Entry → Job → List Entry → Type 0
NextEntries hears d past free news = news ≡ entry.Idle d.addr ∷ []
NextEntries hears d past (works c since) news =
    RowEntries hears d past c since (row d c since (epoch (lines_of d past))
    (order (lines_of d past))) news

-- The entries of one poll of a scan, newest first, and its end.
abbrev pub PollEntries : (List ℕ → List ℕ) → List Line → Option (CheckKind × ℕ) → List Entry →
    Type 0
PollEntries hears since None news = ⊥
PollEntries hears since (Some (check, addr)) news =
    let sent = ask check addr (poll_of addr) in
    let piece = hears sent in
    news ≡ with_end BROADCAST (entry.Wire BROADCAST sent piece)
    (end_of_scan (scan_line sent piece ∷ since))

-- The entries of a `next` at address 0, newest first: idle with no scan, else those of its next
-- poll.
abbrev pub ScanEntries : (List ℕ → List ℕ) → Job → List Entry → Type 0
ScanEntries hears free news = news ≡ entry.Idle BROADCAST ∷ []
ScanEntries hears (works c since) news = PollEntries hears since (scan_row since) news

-- The entries of the row of a sale, newest first: its put, and its end.
abbrev pub SaleRowEntries : Command → List Line → Row → List Entry → Type 0
SaleRowEntries c since (puts r) news = news ≡ with_end HOST (entry.Put r) (end_of_sale c r since)
SaleRowEntries c since next news = ⊥

-- The entries of a `next` at address 1, newest first: idle with no sale, else those of its row.
abbrev pub SaleEntries : Job → List Entry → Type 0
SaleEntries free news = news ≡ entry.Idle HOST ∷ []
SaleEntries (works c since) news = SaleRowEntries c since (row_of_sale c since) news

-- The entries of a `next` at an address without a device, newest first: a scan is at address 0
-- alone, and a sale at 1.
abbrev pub BareNext : (List ℕ → List ℕ) → List Entry → ℕ → List Entry → Type 0
BareNext hears past addr news =
    MatchBool (addr == BROADCAST) (ScanEntries hears (job (scan_lines past)) news)
    (MatchBool (addr == HOST) (SaleEntries (job (sale_lines past)) news)
    (news ≡ entry.Idle addr ∷ []))

-- A fact of the device at an address; there has to be one.
abbrev pub OfDevice : Option DeviceSetup → (DeviceSetup → Type 0) → Type 0
OfDevice None P = ⊥
OfDevice (Some d) P = P d

-- A fact of the device at an address; there has to be one, of a family that knows this.
abbrev pub OfKnowing : Happening → Option DeviceSetup → (DeviceSetup → Type 0) → Type 0
OfKnowing what found P = OfDevice found (λ d. MatchBool (known_to what (family_of d.body)) (P d) ⊥)

-- A fact of the device at an address where there is one, else another.
abbrev pub OfNext : Option DeviceSetup → (DeviceSetup → Type 0) → Type 0 → Type 0
OfNext None P Q = Q
OfNext (Some d) P Q = P d

-- The entries of a `next` at an address, newest first.
abbrev pub EntriesOfNext : (List ℕ → List ℕ) → Setup → List Entry → ℕ → List Entry → Type 0
EntriesOfNext hears setup past addr news =
    OfNext (device_at setup.devices addr)
    (λ d. NextEntries hears d past (job (lines_of d past)) news) (BareNext hears past addr news)

-- The entries of a `next` on the wire of a machine, newest first: those of its row; after an
-- exchange that was forged, the entry that shows so.
abbrev pub EntriesOnWire : Setup → List Entry → ℕ → List Entry → Type 0
EntriesOnWire setup past addr news =
    let told = without_forged news in
    EntriesOfNext (heard_after setup past) setup past addr told
    × (news ≡ forged_after past told ++ told)

-- The record that a row puts, or none.
abbrev pub record_due : Row → Option Record
record_due (puts r) = Some r
record_due next = None

-- The record that a job at a device is about to put, or none.
abbrev pub due_of : DeviceSetup → List Line → Job → Option Record
due_of d lines free = None
due_of d lines (works c since) = record_due (row d c since (epoch lines) (order lines))

-- The record that a sale is about to put, or none.
abbrev pub due_of_sale : Job → Option Record
due_of_sale free = None
due_of_sale (works c since) = record_due (row_of_sale c since)

-- The record that the job at an address is about to put, or none, where this device is there; a job
-- without a device that puts one is a sale.
abbrev pub due_there : List Entry → ℕ → Option DeviceSetup → Option Record
due_there past addr (Some d) = due_of d (lines_of d past) (job (lines_of d past))
due_there past addr None = if addr == HOST then due_of_sale (job (sale_lines past)) else None

-- The same of a setup.
abbrev pub due_at : Setup → List Entry → ℕ → Option Record
due_at setup past addr = due_there past addr (device_at setup.devices addr)

-- A restart after a power cut, with nothing kept of a put under way: the host restarts over the
-- records that were put.
abbrev pub bare_restart : List Entry → List Entry
bare_restart past = entry.Crash (length (records past)) ∷ []

-- A restart after a power cut that kept the record of the put under way.
abbrev pub keeping_restart : List Entry → Record → List Entry
keeping_restart past r = entry.Kept r ∷ entry.Crash (suc (length (records past))) ∷ []

-- The entries of a power cut after so many of the four disk calls of a put, newest first. The
-- record under way is kept after all four. It may be kept after three, when its gate is written and
-- not yet synced.
abbrev pub RestartEntries : List Entry → ℕ → Option Record → List Entry → Type 0
RestartEntries past calls None news = news ≡ bare_restart past
RestartEntries past calls (Some r) news =
    ((calls < 4) × (news ≡ bare_restart past)) ⊎ ((2 < calls) × (news ≡ keeping_restart past r))

-- The entries of a power cut, newest first: in a put of the job at an address, or in none.
abbrev pub EntriesOfRestart : Setup → List Entry → Option CrashAt → List Entry → Type 0
EntriesOfRestart setup past None news = news ≡ bare_restart past
EntriesOfRestart setup past (Some at) news =
    RestartEntries past at.calls (due_at setup past at.addr) news

-- The entries of what happens to the device at an address: one.
abbrev pub EntriesOfHappening : Setup → List Entry → ℕ → Happening → List Entry → Type 0
EntriesOfHappening setup past addr what news =
    OfKnowing what (device_at setup.devices addr)
    (λ d. news ≡ happening_entry addr d past what ∷ [])

-- The entries of a `change`, newest first: a session of change begins, or one runs already.
abbrev pub ChangeEntries : ℕ → ℕ → List Entry → Type 0
ChangeEntries first amount news =
    (news ≡ entry.ChangeOk first amount ∷ []) ⊎ (news ≡ entry.ChangeNo ∷ [])

-- The entries of a `serve`, newest first, whatever is known at the operator's desk: no session
-- runs, one waits, or one ends; or a payment is given to the host, which takes it, or refuses it,
-- and then the session ends short.
pub data ServeEntries (capacity : ℕ) (setup : Setup) (past : List Entry) : List Entry → Type 0 where
  is_idle : ServeEntries capacity setup past (entry.ServeIdle ∷ [])
  waits : (addr : ℕ) → ServeEntries capacity setup past (entry.ServeWait addr ∷ [])
  is_odd : (id : ℕ) → ServeEntries capacity setup past (entry.ServeOdd id ∷ [])
  is_served : (amount : ℕ) → ServeEntries capacity setup past (entry.Served amount ∷ [])
  falls_short : (paid rest : ℕ) → ServeEntries capacity setup past (entry.Short paid rest ∷ [])
  pays : (addr id count : ℕ) → addr < 256 → IsCommand (command.Pay addr id count) →
      refusal capacity setup past (command.Pay addr id count) ≡ None →
      ServeEntries capacity setup past (entry.Taken (command.Pay addr id count) ∷ [])
  is_refused : (addr id count : ℕ) (why : CommandNo) (paid rest : ℕ) → addr < 256 →
      IsCommand (command.Pay addr id count) →
      refusal capacity setup past (command.Pay addr id count) ≡ Some why →
      ServeEntries capacity setup past (entry.Short paid rest
      ∷ entry.No (command.Pay addr id count) why ∷ [])

-- The entries of a step after all that came before, newest first, over a journal that takes so many
-- records. The choice of a power cut is a disk's: here either outcome is one that it may have,
-- where the gate was written and not yet synced. What is known of a session of change is that of
-- the operator's desk: here a `change` and a `serve` give what they give at some desk. The end of a
-- script is no step of a run.
abbrev pub Entries : ℕ → Setup → List Entry → Step → List Entry → Type 0
Entries capacity setup past (step.Coin addr place) news =
    EntriesOfHappening setup past addr (happening.Coin place) news
Entries capacity setup past (step.Alien addr) news =
    EntriesOfHappening setup past addr happening.Alien news
Entries capacity setup past (step.Bill addr place) news =
    EntriesOfHappening setup past addr (happening.Bill place) news
Entries capacity setup past (step.Fall addr) news =
    EntriesOfHappening setup past addr happening.Fall news
Entries capacity setup past (step.Jam addr) news =
    EntriesOfHappening setup past addr happening.Jam news
Entries capacity setup past (step.Reset addr) news =
    EntriesOfHappening setup past addr happening.Reset news
Entries capacity setup past (step.Fault f) news = news ≡ entry.Fault f ∷ []
Entries capacity setup past (step.Command c) news =
    news ≡ command_entry c (refusal capacity setup past c) ∷ []
Entries capacity setup past (step.Next addr) news = EntriesOnWire setup past addr news
Entries capacity setup past (step.Crash at choice) news = EntriesOfRestart setup past at news
Entries capacity setup past step.Balance news = news ≡ entry.Balance (totals setup past) ∷ []
Entries capacity setup past (step.Stock addr count) news = news ≡ entry.Stock addr count ∷ []
Entries capacity setup past (step.Change first amount) news = ChangeEntries first amount news
Entries capacity setup past step.Serve news = ServeEntries capacity setup past news
Entries capacity setup past step.End news = ⊥

-- A step that the program plays: all but the end of a script.
abbrev pub is_played : Step → Bool
is_played step.End = false
is_played s = true

-- A past goes on by the entries of these steps, and ends as this one.
abbrev pub LegalFrom : ℕ → Setup → List Entry → List Step → List Entry → Type 0
LegalFrom capacity setup past [] end = end ≡ past
LegalFrom capacity setup past (s ∷ steps) end =
    (news : List Entry) × Entries capacity setup past s news
    × LegalFrom capacity setup (news ++ past) steps end

-- A transcript, oldest entry first, is the entries of these steps, over a journal that takes so
-- many records.
abbrev pub Legal : ℕ → Setup → List Step → List Entry → Type 0
Legal capacity setup steps transcript = LegalFrom capacity setup [] steps (onto [] transcript)
