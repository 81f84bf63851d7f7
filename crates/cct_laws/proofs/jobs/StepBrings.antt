-- What one step of a machine brought: the one view of a legal step by which each law goes by cases.
-- That an exchange was forged, which the last entry of a `next` may show, is no part of it
-- (`Telling.antt`).
use Rattle.std.proofs.Common.{◌≡◌, ◌<◌, inl, inr, ℕ, zero, suc, ◌==◌, cond, true, false, Bool, List, [], ◌∷◌, ◌++◌, refl, ap, sym, ◌∙◌, subst, Option, Some, None, MatchBool, eqb-true}
use Rattle.std.specs.Prelude.{◌&&◌, ⊤, not}
use Rattle.std.specs.List.{list_any}
use Rattle.cct_model.specs.terms.wire.CheckKind.{CheckKind}
use Rattle.cct_model.specs.terms.wire.TheConstants.{BROADCAST, HOST}
use Rattle.cct_model.specs.terms.device.DeviceBody.{DeviceBody}
use Rattle.cct_model.specs.terms.device.DeviceBody.TheVariants.{Acceptor, Bill, Hopper}
use Rattle.cct_model.specs.terms.device.DeviceSetup.{DeviceSetup}
use Rattle.cct_model.specs.terms.device.Setup.{Setup}
use Rattle.cct_model.specs.terms.family.Happening.{Happening}
use Rattle.cct_model.specs.terms.family.Happening.TheVariants as happening
use Rattle.cct_model.specs.terms.request.Request.{Request}
use Rattle.cct_model.specs.lines.record.Record.{Record}
use Rattle.cct_model.specs.lines.record.Record.TheVariants as record_of
use Rattle.cct_model.specs.lines.command.Command.{Command}
use Rattle.cct_model.specs.lines.command.Command.TheVariants as command
use Rattle.cct_model.specs.lines.command.CommandNo.{CommandNo}
use Rattle.cct_model.specs.lines.command.CommandNo.TheVariants.{NoDevice, WrongKind, Busy, NoPayout}
use Rattle.cct_model.specs.lines.command.CrashAt.{CrashAt}
use Rattle.cct_model.specs.lines.command.WireFault.{WireFault}
use Rattle.cct_model.specs.lines.command.Step.{Step}
use Rattle.cct_model.specs.lines.command.Step.TheVariants as step
use Rattle.cct_model.specs.lines.entry.End.{End}
use Rattle.cct_model.specs.lines.entry.End.TheVariants.{Sold}
use Rattle.cct_model.specs.lines.entry.Entry.{Entry}
use Rattle.cct_model.specs.lines.entry.Entry.TheVariants as entry
use Rattle.cct_model.specs.declared.judging.OpenOrder.{OpenOrder}
use Rattle.cct_model.specs.History.{Met}
use Rattle.cct_model.specs.History as history
use Rattle.cct_model.specs.Acceptor.{accepts, path_of}
use Rattle.cct_model.specs.Bill.{holds}
use Rattle.cct_model.specs.Device.{IsAcceptor, IsBill, IsHopper, is_acceptor, is_bill, is_hopper, is_taker}
use Rattle.cct_model.specs.Family.{family_of, known_to}
use Rattle.cct_model.specs.Hopper.{remaining}
use Rattle.cct_model.specs.Exchange.{ask, asked, asks_of, device_at}
use Rattle.cct_model.specs.Line.{Line, accepted, inhibited, alien, fell, reset, exchange, scanned, put, taken, ended, restarted}
use Rattle.cct_model.specs.Order.{order}
use Rattle.cct_model.specs.Job.{Job, free, works, job, begun, with_line, epoch, Row, sends, puts, no_row, address_of, noted_in}
use Rattle.cct_model.specs.Rows.{TableRow, row, row_of_sale, left_of_sale, end_of, first, end_of_sale, end_kept, after, done, rows_of_sale, can_halt}
use Rattle.cct_model.specs.Money.{totals}
use Rattle.cct_model.specs.Script.{IsCommand, IsInRange}
use Rattle.cct_model.specs.Scan.{scan_row, end_of_scan, poll_of}
use Rattle.cct_model.specs.Refusal.{unless, is_busy, order_refusal, state_fails, view_of, lines_for, last_id, refusal, state_tests}
use Rattle.cct_model.specs.Honest.{without_forged}
use Rattle.cct_model.specs.Legal.{ServeEntries, is_idle, waits, is_odd, is_served, falls_short, pays, is_refused, ChangeEntries, happening_entry, step_of, command_entry, with_end, RowEntries, NextEntries, PollEntries, ScanEntries, SaleRowEntries, SaleEntries, BareNext, OfKnowing, OfNext, record_due, due_of, due_of_sale, due_there, due_at, bare_restart, keeping_restart, RestartEntries, EntriesOfRestart, Entries}
use Rattle.cct_model.specs.Transcript.{met, owner, lines_of, scan_lines, scan_line, sale_lines, heard_after, heard_by_devices, pending, got_by, doses_of}
use Rattle.cct_laws.specs.DeviceJobs.{epoch_fails, suits, wants_device, wants_no_job, wants_other, IsTaken}
use Rattle.cct_laws.specs.KeptHopper.{IsOwed}
use Rattle.cct_laws.specs.Ending.{nexts_after}
use Rattle.cct_laws.specs.Law.{HasBytes, IsCommandOfBytes, IsOf}
use Rattle.cct_model.proofs.Doses.{job_undosed}
use Rattle.cct_laws.proofs.setups.DeviceAt.{address_found}
use Rattle.cct_model.specs.declared.tests.Test.{Test}
use Rattle.cct_model.specs.declared.tests.Test.TheVariants.{AtATaker, AtAnAcceptor, AtABillAcceptor, AtAHopper, WithNoJob, WithNoEpoch, WithAnEpoch, WithValues}
use Rattle.cct_laws.proofs.jobs.Tests.{Pass, none_fails, pass_other, tests_pass, test_holds}
use Rattle.cct_model.specs.declared.judging.Judged.TheVariants.{Nothing}

-- what comes to a device that met all this without being asked, over a step: the entry, what the device then met, and
-- its line, if it is one
pub data Comes (d : DeviceSetup) (past : List Met) : Step → Entry → Met → List Line → Type 0 where
  takes_coin : (place : ℕ) → IsAcceptor d.body → accepts past place ≡ true → Comes d past (step.Coin d.addr place)
      (entry.Accepted d.addr (record { place = place; path = path_of past place })) (history.coin place)
      (accepted (record { place = place; path = path_of past place }) ∷ [])
  leaves_coin : (place : ℕ) → IsAcceptor d.body → accepts past place ≡ false → Comes d past (step.Coin d.addr place)
      (entry.Inhibited d.addr place) (history.coin place) (inhibited place ∷ [])
  takes_bill : (place : ℕ) → IsBill d.body → holds past place ≡ true → Comes d past (step.Bill d.addr place)
      (entry.Held d.addr place) (history.coin place) []
  leaves_bill : (place : ℕ) → IsBill d.body → holds past place ≡ false → Comes d past (step.Bill d.addr place)
      (entry.Inhibited d.addr place) (history.coin place) (inhibited place ∷ [])
  leaves_alien : IsAcceptor d.body → Comes d past (step.Alien d.addr) (entry.Alien d.addr) history.alien (alien ∷ [])
  drops_coin : IsHopper d.body → (remaining d.serial past == 0) ≡ false →
      Comes d past (step.Fall d.addr) (entry.Fell d.addr) history.fall (fell ∷ [])
  drops_none : IsHopper d.body → (remaining d.serial past == 0) ≡ true →
      Comes d past (step.Fall d.addr) (entry.NoFall d.addr) history.fall []
  jams : IsHopper d.body → (remaining d.serial past == 0) ≡ false →
      Comes d past (step.Jam d.addr) (entry.Jammed d.addr) history.jam []
  jams_none : IsHopper d.body → (remaining d.serial past == 0) ≡ true →
      Comes d past (step.Jam d.addr) (entry.NoJam d.addr) history.jam []
  is_reset : Comes d past (step.Reset d.addr) (entry.Reset d.addr) history.reset (reset ∷ [])

-- the job of a command is running at a device
pub record AtWork (d : DeviceSetup) (past : List Entry) (c : Command) (since : List Line) : Type 0 where
  pub job_is : job (lines_of d past) ≡ works c since
  pub is_here : address_of c ≡ d.addr

-- the row of a job at a device
abbrev pub row_after : DeviceSetup → List Entry → Command → List Line → Row
row_after d past c since = row d c since (epoch (lines_of d past)) (order (lines_of d past))

-- the entry of an exchange of a device's job, and the ends that it and a put bring to the job
abbrev pub wire_of : Setup → DeviceSetup → List Entry → Request → Entry
wire_of setup d past q = entry.Wire d.addr (ask d.kind d.addr q) (heard_after setup past (ask d.kind d.addr q))

abbrev pub wire_end : Setup → DeviceSetup → List Entry → Command → List Line → Request → Option End
wire_end setup d past c since q =
    let sent = ask d.kind d.addr q in
    end_of d c (exchange (asked d.kind sent) (got_by d sent (heard_after setup past sent))) since
    (epoch (lines_of d past))

abbrev pub record_end : DeviceSetup → List Entry → Command → List Line → Record → Option End
record_end d past c since r = end_of d c (put r) since (epoch (lines_of d past))

-- the entry of a poll of a scan, and the end that it brings to the scan
abbrev pub poll_wire : Setup → List Entry → CheckKind → ℕ → Entry
poll_wire setup past check addr =
    entry.Wire BROADCAST (ask check addr (poll_of addr)) (heard_after setup past (ask check addr (poll_of addr)))

abbrev pub poll_end : Setup → List Entry → List Line → CheckKind → ℕ → Option End
poll_end setup past since check addr =
    let sent = ask check addr (poll_of addr) in end_of_scan (scan_line sent (heard_after setup past sent) ∷ since)

-- a step gives the host a command: one of its own, or the payment of a session of change
pub record Gives (s : Step) (c : Command) : Type 0 where
  pub in_range : IsInRange s → IsCommand c
  pub bytes : HasBytes s → IsCommandOfBytes c
  pub no_next : (addr nexts : ℕ) → nexts_after addr s nexts ≡ nexts

own_command : (c : Command) → Gives (step.Command c) c
own_command c = record { in_range = λ range. range; bytes = λ bytes. bytes; no_next = λ addr nexts. refl }

session_pays : (addr id count : ℕ) → addr < 256 → IsCommand (command.Pay addr id count) →
    Gives step.Serve (command.Pay addr id count)
session_pays addr id count small range =
    record { in_range = λ any. range; bytes = λ any. small; no_next = λ other nexts. refl }

-- what a step brought at a device: something came, a command was taken, a payment was halted, it was idle, or its job
-- made an exchange or a put
pub data AtDevice (capacity : ℕ) (setup : Setup) (d : DeviceSetup) (past : List Entry) : Step → List Entry → Type 0 where
  came : (s : Step) (e : Entry) (m : Met) (ls : List Line) → Comes d (met d past) s e m ls →
      AtDevice capacity setup d past s (e ∷ [])
  took : (s : Step) (c : Command) → Gives s c → suits d.body c ≡ true → address_of c ≡ d.addr →
      job (lines_of d past) ≡ free → IsTaken d c (epoch (lines_of d past)) → IsOwed c (order (lines_of d past)) →
      refusal capacity setup past c ≡ None → AtDevice capacity setup d past s (entry.Taken c ∷ [])
  halted : IsHopper d.body → can_halt d (job (lines_of d past)) ≡ true →
      AtDevice capacity setup d past (step.Command (command.Halt d.addr)) (entry.Taken (command.Halt d.addr) ∷ [])
  idled : job (lines_of d past) ≡ free → AtDevice capacity setup d past (step.Next d.addr) (entry.Idle d.addr ∷ [])
  made_exchange : (c : Command) (since : List Line) (q : Request) → AtWork d past c since →
      row_after d past c since ≡ sends q → AtDevice capacity setup d past (step.Next d.addr)
      (with_end d.addr (wire_of setup d past q) (wire_end setup d past c since q))
  made_put : (c : Command) (since : List Line) (r : Record) → AtWork d past c since →
      row_after d past c since ≡ puts r → AtDevice capacity setup d past (step.Next d.addr)
      (with_end d.addr (entry.Put r) (record_end d past c since r))

-- a sale is about to put its record
pub record Selling (past : List Entry) (id price : ℕ) (since : List Line) : Type 0 where
  pub job_is : job (sale_lines past) ≡ works (command.Vend id price) since
  pub first : left_of_sale (command.Vend id price) since ≡ rows_of_sale (command.Vend id price)

-- a record is due: a job at a device of the setup is about to put it, or a sale is
pub data Due (setup : Setup) (past : List Entry) : Record → Type 0 where
  from_job : (d : DeviceSetup) (c : Command) (since : List Line) (r : Record) → IsOf setup d → AtWork d past c since →
      row_after d past c since ≡ puts r → Due setup past r
  from_sale : (id price : ℕ) (since : List Line) → device_at setup.devices HOST ≡ None → Selling past id price since →
      Due setup past (record_of.Sold id price)

-- what is reported of the desk of the operator alone
pub data IsOfDesk : Step → Entry → Type 0 where
  tells_stock : (addr count : ℕ) → IsOfDesk (step.Stock addr count) (entry.Stock addr count)
  begins_change : (first amount : ℕ) → IsOfDesk (step.Change first amount) (entry.ChangeOk first amount)
  keeps_change : (first amount : ℕ) → IsOfDesk (step.Change first amount) entry.ChangeNo
  serves_none : IsOfDesk step.Serve entry.ServeIdle
  serves_later : (addr : ℕ) → IsOfDesk step.Serve (entry.ServeWait addr)
  serves_odd : (id : ℕ) → IsOfDesk step.Serve (entry.ServeOdd id)
  serves_all : (amount : ℕ) → IsOfDesk step.Serve (entry.Served amount)
  serves_short : (paid rest : ℕ) → IsOfDesk step.Serve (entry.Short paid rest)

-- an entry is of no job, and reads no balance: it can be of what came to a device, or of the desk of the operator
abbrev pub IsOfNoJob : Entry → Type 0
IsOfNoJob (entry.Fault f) = ⊥
IsOfNoJob (entry.Taken c) = ⊥
IsOfNoJob (entry.No c why) = ⊥
IsOfNoJob (entry.Wire addr sent piece) = ⊥
IsOfNoJob (entry.Forged addr) = ⊥
IsOfNoJob (entry.Put r) = ⊥
IsOfNoJob (entry.Kept r) = ⊥
IsOfNoJob (entry.Ended addr end) = ⊥
IsOfNoJob (entry.Balance told) = ⊥
IsOfNoJob e = ⊤

pub came_of_no_job : (d : DeviceSetup) (past : List Met) (s : Step) (e : Entry) (m : Met) (ls : List Line) →
    Comes d past s e m ls → IsOfNoJob e
came_of_no_job d past _ _ _ _ (takes_coin place accepting is) = tt
came_of_no_job d past _ _ _ _ (leaves_coin place accepting is) = tt
came_of_no_job d past _ _ _ _ (takes_bill place banking is) = tt
came_of_no_job d past _ _ _ _ (leaves_bill place banking is) = tt
came_of_no_job d past _ _ _ _ (leaves_alien accepting) = tt
came_of_no_job d past _ _ _ _ (drops_coin paying is) = tt
came_of_no_job d past _ _ _ _ (drops_none paying is) = tt
came_of_no_job d past _ _ _ _ (jams paying is) = tt
came_of_no_job d past _ _ _ _ (jams_none paying is) = tt
came_of_no_job d past _ _ _ _ is_reset = tt

pub desk_of_no_job : (s : Step) (e : Entry) → IsOfDesk s e → IsOfNoJob e
desk_of_no_job _ _ (tells_stock addr count) = tt
desk_of_no_job _ _ (begins_change first amount) = tt
desk_of_no_job _ _ (keeps_change first amount) = tt
desk_of_no_job _ _ serves_none = tt
desk_of_no_job _ _ (serves_later addr) = tt
desk_of_no_job _ _ (serves_odd id) = tt
desk_of_no_job _ _ (serves_all amount) = tt
desk_of_no_job _ _ (serves_short paid rest) = tt

-- what a step brought: something at a device of the setup; or a fault was set, a command was
-- refused, a scan or a sale was begun or went on, nobody was there, the balance was read; or it
-- reported on the desk of the operator, or a payment of a session of change was refused; or the
-- power was cut, within a put or not
pub data Brought (capacity : ℕ) (setup : Setup) (past : List Entry) : Step → List Entry → Type 0 where
  of_device : (d : DeviceSetup) (s : Step) (news : List Entry) → IsOf setup d → AtDevice capacity setup d past s news →
      Brought capacity setup past s news
  faulted : (f : WireFault) → Brought capacity setup past (step.Fault f) (entry.Fault f ∷ [])
  refused : (c : Command) (why : CommandNo) → refusal capacity setup past c ≡ Some why →
      Brought capacity setup past (step.Command c) (entry.No c why ∷ [])
  began_scan : job (scan_lines past) ≡ free →
      Brought capacity setup past (step.Command command.Scan) (entry.Taken command.Scan ∷ [])
  began_sale : (id price : ℕ) → job (sale_lines past) ≡ free → refusal capacity setup past (command.Vend id price) ≡ None →
      Brought capacity setup past (step.Command (command.Vend id price)) (entry.Taken (command.Vend id price) ∷ [])
  nobody : (addr : ℕ) → device_at setup.devices addr ≡ None →
      Brought capacity setup past (step.Next addr) (entry.Idle addr ∷ [])
  polled : (c : Command) (since : List Line) (check : CheckKind) (addr : ℕ) → device_at setup.devices BROADCAST ≡ None →
      job (scan_lines past) ≡ works c since → scan_row since ≡ Some (check, addr) →
      Brought capacity setup past (step.Next BROADCAST) (with_end BROADCAST (poll_wire setup past check addr)
      (poll_end setup past since check addr))
  sold : (id price : ℕ) (since : List Line) → device_at setup.devices HOST ≡ None → Selling past id price since →
      Brought capacity setup past (step.Next HOST) (entry.Ended HOST Sold ∷ entry.Put (record_of.Sold id price) ∷ [])
  balanced : Brought capacity setup past step.Balance (entry.Balance (totals setup past) ∷ [])
  of_desk : (s : Step) (e : Entry) → IsOfDesk s e → Brought capacity setup past s (e ∷ [])
  ended_short : (addr id count : ℕ) (why : CommandNo) (paid rest : ℕ) → addr < 256 →
      IsCommand (command.Pay addr id count) → refusal capacity setup past (command.Pay addr id count) ≡ Some why →
      Brought capacity setup past step.Serve (entry.Short paid rest ∷ entry.No (command.Pay addr id count) why ∷ [])
  lost_power : (at : Option CrashAt) (choice : ℕ) → Brought capacity setup past (step.Crash at choice) (bare_restart past)
  lost_in_put : (at : CrashAt) (choice : ℕ) (d : DeviceSetup) (c : Command) (since : List Line) (r : Record) →
      IsOf setup d → AtWork d past c since → row_after d past c since ≡ puts r →
      Brought capacity setup past (step.Crash (Some at) choice) (keeping_restart past r)
  lost_in_sale : (at : CrashAt) (choice : ℕ) (id price : ℕ) (since : List Line) → device_at setup.devices HOST ≡ None →
      Selling past id price since →
      Brought capacity setup past (step.Crash (Some at) choice) (keeping_restart past (record_of.Sold id price))

-- the command of a job at an address is for that address
abbrev pub IsAt : ℕ → Job → Type 0
IsAt addr free = ⊤
IsAt addr (works c since) = address_of c ≡ addr

with_line_at : (addr : ℕ) (l : Line) (j : Job) → IsAt addr j → IsAt addr (with_line l j)
with_line_at addr l free here = tt
with_line_at addr l (works c since) here = here

begun_at : (addr : ℕ) (c : Command) (j : Job) → address_of c ≡ addr → IsAt addr j → IsAt addr (begun c j)
begun_at addr (command.Halt a) j here before = with_line_at addr _ j before
begun_at addr c j here before = here

-- a line keeps that, where it takes a command for the address
abbrev TakesAt : ℕ → Line → Type 0
TakesAt addr (taken c) = address_of c ≡ addr
TakesAt addr l = ⊤

line_at : (addr : ℕ) (l : Line) (lines : List Line) → TakesAt addr l → IsAt addr (job lines) →
    IsAt addr (job (l ∷ lines))
line_at addr (taken c) lines here before = begun_at addr c (job lines) here before
line_at addr (ended end) lines here before = tt
line_at addr restarted lines here before = tt
line_at addr (exchange q y) lines here before = with_line_at addr _ (job lines) before
line_at addr (scanned check place rest) lines here before = with_line_at addr _ (job lines) before
line_at addr (put r) lines here before = with_line_at addr _ (job lines) before
line_at addr l lines here before = before

line_if : (addr : ℕ) (b : Bool) (l : Line) (lines : List Line) → (b ≡ true → TakesAt addr l) →
    IsAt addr (job lines) → IsAt addr (job (cond b (l ∷ []) [] ++ lines))
line_if addr true l lines here before = line_at addr l lines (here refl) before
line_if addr false l lines here before = before

-- an exchange, and what the device did in it
wire_if : (addr : ℕ) (b : Bool) (l : Line) (dosed lines : List Line) → (b ≡ true → TakesAt addr l) →
    IsAt addr (job (dosed ++ lines)) → IsAt addr (job ((cond b (l ∷ []) [] ++ dosed) ++ lines))
wire_if addr true l dosed lines here before = line_at addr l (dosed ++ lines) (here refl) before
wire_if addr false l dosed lines here before = before

entry_at : (d : DeviceSetup) (past : List Entry) (e : Entry) → IsAt d.addr (job (lines_of d past)) →
    IsAt d.addr (job (lines_of d (e ∷ past)))
entry_at d past (entry.Accepted addr c) before =
    line_if d.addr (addr == d.addr) (accepted c) (lines_of d past) (λ _. tt) before
entry_at d past (entry.Inhibited addr place) before =
    line_if d.addr (addr == d.addr) (inhibited place) (lines_of d past) (λ _. tt) before
entry_at d past (entry.Alien addr) before = line_if d.addr (addr == d.addr) alien (lines_of d past) (λ _. tt) before
entry_at d past (entry.Fell addr) before = line_if d.addr (addr == d.addr) fell (lines_of d past) (λ _. tt) before
entry_at d past (entry.Reset addr) before = line_if d.addr (addr == d.addr) reset (lines_of d past) (λ _. tt) before
entry_at d past (entry.Taken c) before =
    line_if d.addr (address_of c == d.addr) (taken c) (lines_of d past) (λ here. eqb-true _ _ here) before
entry_at d past (entry.Wire addr sent piece) before =
    wire_if d.addr (addr == d.addr) (exchange (asked d.kind sent) (got_by d sent piece)) (doses_of d past sent) (lines_of d past)
    (λ _. tt)
    (subst (IsAt d.addr) (sym (job_undosed d.body d.serial (met d past) (asks_of d (heard_by_devices (pending past) sent)) (lines_of d past))) before)
entry_at d past (entry.Put r) before =
    line_if d.addr (owner past r == d.addr) (put r) (lines_of d past) (λ _. tt) before
entry_at d past (entry.Kept r) before =
    line_if d.addr (owner past r == d.addr) (put r) (lines_of d past) (λ _. tt) before
entry_at d past (entry.Ended addr end) before =
    line_if d.addr (addr == d.addr) (ended end) (lines_of d past) (λ _. tt) before
entry_at d past (entry.Crash records) before = tt
entry_at d past e before = before

pub job_at : (d : DeviceSetup) (past : List Entry) → IsAt d.addr (job (lines_of d past))
job_at d [] = tt
job_at d (e ∷ past) = entry_at d past e (job_at d past)

-- the job of a command that was taken
pub begun_at_work : (body : DeviceBody) (c : Command) (lines : List Line) → suits body c ≡ true →
    job (taken c ∷ lines) ≡ works c []
begun_at_work (Acceptor accepts values ids) (command.Halt addr) lines suited = absurd cc
begun_at_work (Hopper life value) (command.Halt addr) lines suited = absurd cc
begun_at_work (Bill accepts values ids) (command.Halt addr) lines suited = absurd cc
begun_at_work body c lines suited = refl

-- the device of a setup at an address
pub of_found : (setup : Setup) (addr : ℕ) (d : DeviceSetup) → device_at setup.devices addr ≡ Some d → IsOf setup d
of_found setup addr d was = ap (device_at setup.devices) (address_found setup addr d was) ∙ was

-- what a step brought at a device, given by its address
there : (capacity : ℕ) (setup : Setup) (past : List Entry) (s : ℕ → Step) (news : ℕ → List Entry) (addr : ℕ)
    (d : DeviceSetup) → device_at setup.devices addr ≡ Some d →
    AtDevice capacity setup d past (s d.addr) (news d.addr) → Brought capacity setup past (s addr) (news addr)
there capacity setup past s news addr d was told =
    subst (λ a. Brought capacity setup past (s a) (news a)) (address_found setup addr d was)
    (of_device d (s d.addr) (news d.addr) (of_found setup addr d was) told)

-- the kind of a device by its test
pub accepting_by : (body : DeviceBody) → is_acceptor body ≡ true → IsAcceptor body
accepting_by (Acceptor accepts values ids) test = tt
accepting_by (Hopper life value) test = absurd cc
accepting_by (Bill accepts values ids) test = absurd cc

pub paying_by : (body : DeviceBody) → is_hopper body ≡ true → IsHopper body
paying_by (Acceptor accepts values ids) test = absurd cc
paying_by (Hopper life value) test = tt
paying_by (Bill accepts values ids) test = absurd cc

pub banking_by : (body : DeviceBody) → is_bill body ≡ true → IsBill body
banking_by (Acceptor accepts values ids) test = absurd cc
banking_by (Hopper life value) test = absurd cc
banking_by (Bill accepts values ids) test = tt

-- what comes without being asked
kind_holds : (b : Bool) (P : Type 0) → MatchBool b P ⊥ → (b ≡ true) × P
kind_holds true P known = (refl, known)
kind_holds false P known = absurd known

coin_comes : (capacity : ℕ) (setup : Setup) (d : DeviceSetup) (past : List Entry) (place : ℕ) (test : Bool) →
    IsAcceptor d.body →
    accepts (met d past) place ≡ test → AtDevice capacity setup d past (step.Coin d.addr place)
    (cond test (entry.Accepted d.addr (record { place = place; path = path_of (met d past) place }))
    (entry.Inhibited d.addr place) ∷ [])
coin_comes capacity setup d past place true accepting is = came _ _ _ _ (takes_coin place accepting is)
coin_comes capacity setup d past place false accepting is = came _ _ _ _ (leaves_coin place accepting is)

bill_comes : (capacity : ℕ) (setup : Setup) (d : DeviceSetup) (past : List Entry) (place : ℕ) (test : Bool) →
    IsBill d.body →
    holds (met d past) place ≡ test → AtDevice capacity setup d past (step.Bill d.addr place)
    (cond test (entry.Held d.addr place) (entry.Inhibited d.addr place) ∷ [])
bill_comes capacity setup d past place true banking is = came _ _ _ _ (takes_bill place banking is)
bill_comes capacity setup d past place false banking is = came _ _ _ _ (leaves_bill place banking is)

fall_comes : (capacity : ℕ) (setup : Setup) (d : DeviceSetup) (past : List Entry) (none_left : Bool) → IsHopper d.body →
    (remaining d.serial (met d past) == 0) ≡ none_left → AtDevice capacity setup d past (step.Fall d.addr)
    (cond none_left (entry.NoFall d.addr) (entry.Fell d.addr) ∷ [])
fall_comes capacity setup d past true paying is = came _ _ _ _ (drops_none paying is)
fall_comes capacity setup d past false paying is = came _ _ _ _ (drops_coin paying is)

jam_comes : (capacity : ℕ) (setup : Setup) (d : DeviceSetup) (past : List Entry) (none_left : Bool) → IsHopper d.body →
    (remaining d.serial (met d past) == 0) ≡ none_left → AtDevice capacity setup d past (step.Jam d.addr)
    (cond none_left (entry.NoJam d.addr) (entry.Jammed d.addr) ∷ [])
jam_comes capacity setup d past true paying is = came _ _ _ _ (jams_none paying is)
jam_comes capacity setup d past false paying is = came _ _ _ _ (jams paying is)

happening_comes : (capacity : ℕ) (setup : Setup) (d : DeviceSetup) (past : List Entry) (what : Happening) →
    known_to what (family_of d.body) ≡ true → AtDevice capacity setup d past (step_of d.addr what)
    (happening_entry d.addr d past what ∷ [])
happening_comes capacity setup d past (happening.Coin place) known =
    coin_comes capacity setup d past place (accepts (met d past) place) (accepting_by d.body known) refl
happening_comes capacity setup d past happening.Alien known = came _ _ _ _ (leaves_alien (accepting_by d.body known))
happening_comes capacity setup d past (happening.Bill place) known =
    bill_comes capacity setup d past place (holds (met d past) place) (banking_by d.body known) refl
happening_comes capacity setup d past happening.Fall known =
    fall_comes capacity setup d past (remaining d.serial (met d past) == 0) (paying_by d.body known) refl
happening_comes capacity setup d past happening.Jam known =
    jam_comes capacity setup d past (remaining d.serial (met d past) == 0) (paying_by d.body known) refl
happening_comes capacity setup d past happening.Reset known = came _ _ _ _ is_reset

happening_brought : (capacity : ℕ) (setup : Setup) (past news : List Entry) (addr : ℕ) (what : Happening)
    (found : Option DeviceSetup) → device_at setup.devices addr ≡ found →
    OfKnowing what found (λ d. news ≡ happening_entry addr d past what ∷ []) →
    Brought capacity setup past (step_of addr what) news
happening_brought capacity setup past news addr what None was told = absurd told
happening_brought capacity setup past news addr what (Some d) was told =
    let is = kind_holds (known_to what (family_of d.body)) _ told in
    subst (Brought capacity setup past (step_of addr what)) (sym is.1)
    (there capacity setup past (λ a. step_of a what) (λ a. happening_entry a d past what ∷ []) addr d was
    (happening_comes capacity setup d past what is.0))

-- a command
free_if : (at_work : Job) → unless (not (is_busy at_work)) Busy ≡ None → at_work ≡ free
free_if free none = refl
free_if (works c since) none = absurd cc

unowed : (owed : Option OpenOrder) → order_refusal owed ≡ None → owed ≡ None
unowed None none = refl
unowed (Some o) none = absurd cc

-- what the tests of a command at a device show of its epoch and of its open order
PassesAt : DeviceSetup → List Line → ℕ → Command → Type 0
PassesAt d lines last c = Pass (state_fails (view_of (Some d) lines last)) (state_tests c)

epoch_passes : (d : DeviceSetup) (lines : List Line) (last : ℕ) (test : Test) →
    state_fails (view_of (Some d) lines last) test ≡ None → epoch_fails d (epoch lines) test ≡ None
epoch_passes d lines last WithNoEpoch pass = pass
epoch_passes d lines last WithAnEpoch pass = pass
epoch_passes d lines last (WithValues mask) pass = pass
epoch_passes d lines last test pass = refl

taken_by : (d : DeviceSetup) (lines : List Line) (last : ℕ) (c : Command) → PassesAt d lines last c →
    IsTaken d c (epoch lines)
unfolding PassesAt
taken_by d lines last c passes =
    none_fails (epoch_fails d (epoch lines)) (state_tests c)
    (pass_other (state_fails (view_of (Some d) lines last)) (epoch_fails d (epoch lines)) (epoch_passes d lines last)
    (state_tests c) passes)

owed_by : (d : DeviceSetup) (lines : List Line) (last : ℕ) (c : Command) → PassesAt d lines last c →
    IsOwed c (order lines)
unfolding PassesAt
owed_by d lines last (command.Pay addr id count) passes = unowed (order lines) passes.1.1.1.0
owed_by d lines last (command.Settle addr) passes = passes.1.1.1.0
owed_by d lines last c passes = tt

-- .. of the kind of the device
kind_fails : DeviceBody → Test → Option CommandNo
kind_fails body AtATaker = unless (is_taker body) WrongKind
kind_fails body AtAnAcceptor = unless (is_acceptor body) WrongKind
kind_fails body AtABillAcceptor = unless (is_bill body) WrongKind
kind_fails body AtAHopper = unless (is_hopper body) WrongKind
kind_fails body test = None

kind_passes : (d : DeviceSetup) (lines : List Line) (last : ℕ) (test : Test) →
    state_fails (view_of (Some d) lines last) test ≡ None → kind_fails d.body test ≡ None
unfolding kind_fails
kind_passes d lines last AtATaker pass = pass
kind_passes d lines last AtAnAcceptor pass = pass
kind_passes d lines last AtABillAcceptor pass = pass
kind_passes d lines last AtAHopper pass = pass
kind_passes d lines last test pass = refl

wants_own : (body : DeviceBody) (test : Test) → kind_fails body test ≡ None → wants_other (family_of body) test ≡ false
unfolding kind_fails
wants_own (Acceptor accepts values ids) AtAHopper pass = absurd cc
wants_own (Acceptor accepts values ids) AtABillAcceptor pass = absurd cc
wants_own (Hopper life value) AtATaker pass = absurd cc
wants_own (Hopper life value) AtAnAcceptor pass = absurd cc
wants_own (Hopper life value) AtABillAcceptor pass = absurd cc
wants_own (Bill accepts values ids) AtAHopper pass = absurd cc
wants_own (Bill accepts values ids) AtAnAcceptor pass = absurd cc
wants_own (Acceptor accepts values ids) test pass = refl
wants_own (Hopper life value) test pass = refl
wants_own (Bill accepts values ids) test pass = refl

none_other : (body : DeviceBody) (tests : List Test) → Pass (kind_fails body) tests →
    list_any (wants_other (family_of body)) tests ≡ false
none_other body [] pass = refl
none_other body (test ∷ tests) pass = rw (wants_own body test pass.0) (none_other body tests pass.1)

-- .. and of its job
job_passes : (fails : Test → Option CommandNo) (tests : List Test) → Pass fails tests →
    list_any wants_no_job tests ≡ true → fails WithNoJob ≡ None
job_passes fails [] pass asks = absurd cc
job_passes fails (WithNoJob ∷ tests) pass asks = pass.0
job_passes fails (test ∷ tests) pass asks = job_passes fails tests pass.1 asks

all_three : (a b c : Bool) → a ≡ true → b ≡ true → c ≡ false → (a && b && not c) ≡ true
all_three a b c is_a is_b is_c = rw (is_a, is_b, is_c) refl

suits_by : (d : DeviceSetup) (lines : List Line) (last : ℕ) (c : Command) → PassesAt d lines last c →
    list_any wants_device (state_tests c) ≡ true → list_any wants_no_job (state_tests c) ≡ true → suits d.body c ≡ true
unfolding PassesAt
suits_by d lines last c passes at_device no_job =
    all_three _ _ _ at_device no_job
    (none_other d.body (state_tests c)
    (pass_other (state_fails (view_of (Some d) lines last)) (kind_fails d.body) (kind_passes d lines last) (state_tests c)
    passes))

-- a command that begins a job at a device
began_at : (capacity : ℕ) (setup : Setup) (past : List Entry) (s : Step) (c : Command) (d : DeviceSetup) → Gives s c →
    device_at setup.devices (address_of c) ≡ Some d → refusal capacity setup past c ≡ None →
    PassesAt d (lines_of d past) (last_id setup past) c → list_any wants_device (state_tests c) ≡ true →
    list_any wants_no_job (state_tests c) ≡ true → Brought capacity setup past s (entry.Taken c ∷ [])
unfolding PassesAt
began_at capacity setup past s c d gives was none passes at_device no_job =
    of_device d s (entry.Taken c ∷ []) (of_found setup (address_of c) d was)
    (took s c gives (suits_by d (lines_of d past) (last_id setup past) c passes at_device no_job)
    (sym (address_found setup (address_of c) d was))
    (free_if (job (lines_of d past))
    (job_passes (state_fails (view_of (Some d) (lines_of d past) (last_id setup past))) (state_tests c) passes no_job))
    (taken_by d (lines_of d past) (last_id setup past) c passes)
    (owed_by d (lines_of d past) (last_id setup past) c passes) none)

-- a payment, whichever step gave it
paid_at : (capacity : ℕ) (setup : Setup) (past : List Entry) (s : Step) (addr id count : ℕ) (found : Option DeviceSetup) →
    Gives s (command.Pay addr id count) → device_at setup.devices addr ≡ found →
    refusal capacity setup past (command.Pay addr id count) ≡ None →
    Pass (state_fails (view_of found (lines_for past (command.Pay addr id count) found) (last_id setup past)))
    (state_tests (command.Pay addr id count)) →
    Brought capacity setup past s (entry.Taken (command.Pay addr id count) ∷ [])
unfolding PassesAt
paid_at capacity setup past s addr id count None gives was none passes =
    let device : unless false NoDevice ≡ None = passes.0 in
    absurd cc
paid_at capacity setup past s addr id count (Some d) gives was none passes =
    began_at capacity setup past s (command.Pay addr id count) d gives was none passes refl refl

taken_at : (capacity : ℕ) (setup : Setup) (past : List Entry) (c : Command) (found : Option DeviceSetup) →
    device_at setup.devices (address_of c) ≡ found → refusal capacity setup past c ≡ None →
    Pass (state_fails (view_of found (lines_for past c found) (last_id setup past))) (state_tests c) →
    Brought capacity setup past (step.Command c) (entry.Taken c ∷ [])
unfolding PassesAt
taken_at capacity setup past command.Scan found was none passes = began_scan (free_if (job (scan_lines past)) passes.0)
taken_at capacity setup past (command.Vend id price) found was none passes =
    began_sale id price (free_if (job (sale_lines past)) passes.0) none
taken_at capacity setup past c None was none passes =
    let device : unless false NoDevice ≡ None = passes.0 in
    absurd cc
taken_at capacity setup past (command.Halt addr) (Some d) was none passes =
    there capacity setup past (λ a. step.Command (command.Halt a)) (λ a. entry.Taken (command.Halt a) ∷ []) addr d was
    (halted (paying_by d.body (test_holds (is_hopper d.body) WrongKind passes.1.0))
    (test_holds (can_halt d (job (lines_of d past))) NoPayout passes.1.1.0))
taken_at capacity setup past c (Some d) was none passes =
    began_at capacity setup past (step.Command c) c d (own_command c) was none passes refl refl

command_brought : (capacity : ℕ) (setup : Setup) (past : List Entry) (c : Command) (why : Option CommandNo) →
    refusal capacity setup past c ≡ why → Brought capacity setup past (step.Command c) (command_entry c why ∷ [])
command_brought capacity setup past c None was =
    taken_at capacity setup past c (device_at setup.devices (address_of c)) refl was
    (tests_pass capacity setup past c was).state
command_brought capacity setup past c (Some why) was = refused c why was

-- a serve
pub serve_brought : (capacity : ℕ) (setup : Setup) (past news : List Entry) → ServeEntries capacity setup past news →
    Brought capacity setup past step.Serve news
serve_brought capacity setup past _ is_idle = of_desk step.Serve entry.ServeIdle serves_none
serve_brought capacity setup past _ (waits addr) = of_desk step.Serve (entry.ServeWait addr) (serves_later addr)
serve_brought capacity setup past _ (is_odd id) = of_desk step.Serve (entry.ServeOdd id) (serves_odd id)
serve_brought capacity setup past _ (is_served amount) = of_desk step.Serve (entry.Served amount) (serves_all amount)
serve_brought capacity setup past _ (falls_short paid rest) =
    of_desk step.Serve (entry.Short paid rest) (serves_short paid rest)
serve_brought capacity setup past _ (pays addr id count small range none) =
    paid_at capacity setup past step.Serve addr id count (device_at setup.devices addr)
    (session_pays addr id count small range) refl none
    (tests_pass capacity setup past (command.Pay addr id count) none).state
serve_brought capacity setup past _ (is_refused addr id count why paid rest small range was) =
    ended_short addr id count why paid rest small range was

-- a change
change_brought : (capacity : ℕ) (setup : Setup) (past news : List Entry) (first amount : ℕ) →
    ChangeEntries first amount news → Brought capacity setup past (step.Change first amount) news
change_brought capacity setup past news first amount told =
    elim told [
      | inl begins ↦ subst (Brought capacity setup past (step.Change first amount)) (sym begins)
          (of_desk (step.Change first amount) (entry.ChangeOk first amount) (begins_change first amount))
      | inr keeps ↦ subst (Brought capacity setup past (step.Change first amount)) (sym keeps)
          (of_desk (step.Change first amount) entry.ChangeNo (keeps_change first amount))
    ]

-- a next
row_brought : (capacity : ℕ) (setup : Setup) (d : DeviceSetup) (past news : List Entry) (c : Command)
    (since : List Line) (r : Row) → AtWork d past c since → row_after d past c since ≡ r →
    RowEntries (heard_after setup past) d past c since r news → AtDevice capacity setup d past (step.Next d.addr) news
row_brought capacity setup d past news c since (sends q) at_work is told =
    subst (AtDevice capacity setup d past (step.Next d.addr)) (sym told) (made_exchange c since q at_work is)
row_brought capacity setup d past news c since (puts r) at_work is told =
    subst (AtDevice capacity setup d past (step.Next d.addr)) (sym told) (made_put c since r at_work is)
row_brought capacity setup d past news c since no_row at_work is told = absurd told

-- a job at a device is running
pub works_there : (d : DeviceSetup) (past : List Entry) (c : Command) (since : List Line) →
    job (lines_of d past) ≡ works c since → AtWork d past c since
works_there d past c since is = record { job_is = is; is_here = subst (IsAt d.addr) is (job_at d past) }

next_there : (capacity : ℕ) (setup : Setup) (d : DeviceSetup) (past news : List Entry) (at_work : Job) →
    job (lines_of d past) ≡ at_work → NextEntries (heard_after setup past) d past at_work news →
    AtDevice capacity setup d past (step.Next d.addr) news
next_there capacity setup d past news free is told =
    subst (AtDevice capacity setup d past (step.Next d.addr)) (sym told) (idled is)
next_there capacity setup d past news (works c since) is told =
    row_brought capacity setup d past news c since _ (works_there d past c since is) refl told

poll_brought : (capacity : ℕ) (setup : Setup) (past news : List Entry) (c : Command) (since : List Line)
    (due : Option (CheckKind × ℕ)) →
    device_at setup.devices BROADCAST ≡ None → job (scan_lines past) ≡ works c since → scan_row since ≡ due →
    PollEntries (heard_after setup past) since due news → Brought capacity setup past (step.Next BROADCAST) news
poll_brought capacity setup past news c since None none is due told = absurd told
poll_brought capacity setup past news c since (Some (check, addr)) none is due told =
    subst (Brought capacity setup past (step.Next BROADCAST)) (sym told) (polled c since check addr none is due)

scan_brought : (capacity : ℕ) (setup : Setup) (past news : List Entry) (at_work : Job) →
    device_at setup.devices BROADCAST ≡ None →
    job (scan_lines past) ≡ at_work → ScanEntries (heard_after setup past) at_work news →
    Brought capacity setup past (step.Next BROADCAST) news
scan_brought capacity setup past news free none is told =
    subst (Brought capacity setup past (step.Next BROADCAST)) (sym told) (nobody BROADCAST none)
scan_brought capacity setup past news (works c since) none is told =
    poll_brought capacity setup past news c since (scan_row since) none is refl told

-- a sale has one row, its put
abbrev PutsSale : Command → List Line → Record → Type 0
PutsSale c since r =
    (id : ℕ) × (price : ℕ) × (c ≡ command.Vend id price) × (left_of_sale c since ≡ rows_of_sale c)
    × (r ≡ record_of.Sold id price)

sale_puts : (c : Command) (since : List Line) (r : Record) → row_of_sale c since ≡ puts r → PutsSale c since r
sale_puts (command.Vend id price) since r is = by_rows (done (rows_of_sale (command.Vend id price)) since) is
  where
    rows : List TableRow
    rows = rows_of_sale (command.Vend id price)

    by_rows : (n : ℕ) → first HOST Nothing (noted_in since None) (after rows n) ≡ puts r →
        (i : ℕ) × (p : ℕ) × (command.Vend id price ≡ command.Vend i p) × (after rows n ≡ rows)
        × (r ≡ record_of.Sold i p)
    by_rows zero is = (id, price, refl, refl, cc)
    by_rows (suc n) is = absurd cc
sale_puts c since r is = absurd cc

sells_now : (past : List Entry) (c : Command) (since : List Line) (r : Record) → job (sale_lines past) ≡ works c since →
    (made : PutsSale c since r) → Selling past made.0 made.1 since
sells_now past c since r is made = record {
  job_is = is ∙ ap (λ x. works x since) made.2;
  first = subst (λ x. left_of_sale x since ≡ rows_of_sale x) made.2 made.3;
}

-- it ends the sale
sale_ends : (id price : ℕ) (since : List Line) (r : Record) →
    left_of_sale (command.Vend id price) since ≡ rows_of_sale (command.Vend id price) →
    end_of_sale (command.Vend id price) r since ≡ Some Sold
sale_ends id price since r left_is = ap (λ rows. end_kept rows r) left_is

sale_row_brought : (capacity : ℕ) (setup : Setup) (past news : List Entry) (c : Command) (since : List Line) (r : Row) →
    device_at setup.devices HOST ≡ None → job (sale_lines past) ≡ works c since → row_of_sale c since ≡ r →
    SaleRowEntries c since r news → Brought capacity setup past (step.Next HOST) news
sale_row_brought capacity setup past news c since (puts r) none is row_is told =
    let made = sale_puts c since r row_is in
    let selling = sells_now past c since r is made in
    let ends : end_of_sale c r since ≡ Some Sold =
    ap (λ x. end_of_sale x r since) made.2 ∙ sale_ends made.0 made.1 since r selling.first in
    subst (Brought capacity setup past (step.Next HOST))
    (sym (told ∙ ap (with_end HOST (entry.Put r)) ends ∙ ap (λ x. with_end HOST (entry.Put x) (Some Sold)) made.4))
    (sold made.0 made.1 since none selling)
sale_row_brought capacity setup past news c since (sends q) none is row_is told = absurd told
sale_row_brought capacity setup past news c since no_row none is row_is told = absurd told

sale_brought : (capacity : ℕ) (setup : Setup) (past news : List Entry) (at_work : Job) →
    device_at setup.devices HOST ≡ None → job (sale_lines past) ≡ at_work → SaleEntries at_work news →
    Brought capacity setup past (step.Next HOST) news
sale_brought capacity setup past news free none is told =
    subst (Brought capacity setup past (step.Next HOST)) (sym told) (nobody HOST none)
sale_brought capacity setup past news (works c since) none is told =
    sale_row_brought capacity setup past news c since (row_of_sale c since) none is refl told

bare_brought : (capacity : ℕ) (setup : Setup) (past news : List Entry) (addr : ℕ) (scans sells : Bool) →
    (addr == BROADCAST) ≡ scans → (addr == HOST) ≡ sells →
    device_at setup.devices addr ≡ None →
    MatchBool scans (ScanEntries (heard_after setup past) (job (scan_lines past)) news)
    (MatchBool sells (SaleEntries (job (sale_lines past)) news) (news ≡ entry.Idle addr ∷ [])) →
    Brought capacity setup past (step.Next addr) news
bare_brought capacity setup past news addr true sells test other none told =
    let zero = eqb-true addr BROADCAST test in
    subst (λ a. Brought capacity setup past (step.Next a) news) (sym zero)
    (scan_brought capacity setup past news (job (scan_lines past)) (ap (device_at setup.devices) (sym zero) ∙ none) refl told)
bare_brought capacity setup past news addr false true test other none told =
    let one = eqb-true addr HOST other in
    subst (λ a. Brought capacity setup past (step.Next a) news) (sym one)
    (sale_brought capacity setup past news (job (sale_lines past)) (ap (device_at setup.devices) (sym one) ∙ none) refl told)
bare_brought capacity setup past news addr false false test other none told =
    subst (Brought capacity setup past (step.Next addr)) (sym told) (nobody addr none)

next_brought : (capacity : ℕ) (setup : Setup) (past news : List Entry) (addr : ℕ) (found : Option DeviceSetup) →
    device_at setup.devices addr ≡ found →
    OfNext found (λ d. NextEntries (heard_after setup past) d past (job (lines_of d past)) news)
    (BareNext (heard_after setup past) past addr news) →
    Brought capacity setup past (step.Next addr) news
next_brought capacity setup past news addr None was told =
    bare_brought capacity setup past news addr (addr == BROADCAST) (addr == HOST) refl refl was told
next_brought capacity setup past news addr (Some d) was told =
    there capacity setup past step.Next (λ a. news) addr d was
    (next_there capacity setup d past news (job (lines_of d past)) refl told)

-- what is due at an address
due_row : (r : Record) (what : Row) → record_due what ≡ Some r → what ≡ puts r
due_row r (puts s) is = cc
due_row r (sends q) is = absurd cc
due_row r no_row is = absurd cc

job_due : (setup : Setup) (past : List Entry) (d : DeviceSetup) (r : Record) (at_work : Job) → IsOf setup d →
    job (lines_of d past) ≡ at_work → due_of d (lines_of d past) at_work ≡ Some r → Due setup past r
job_due setup past d r free own is due = absurd cc
job_due setup past d r (works c since) own is due =
    from_job d c since r own (works_there d past c since is) (due_row r _ due)

sale_due : (setup : Setup) (past : List Entry) (r : Record) (at_work : Job) → device_at setup.devices HOST ≡ None →
    job (sale_lines past) ≡ at_work → due_of_sale at_work ≡ Some r → Due setup past r
sale_due setup past r free none is due = absurd cc
sale_due setup past r (works c since) none is due =
    let made = sale_puts c since r (due_row r _ due) in
    let selling = sells_now past c since r is made in
    subst (Due setup past) (sym made.4) (from_sale made.0 made.1 since none selling)

bare_due : (setup : Setup) (past : List Entry) (addr : ℕ) (r : Record) (sells : Bool) → (addr == HOST) ≡ sells →
    device_at setup.devices addr ≡ None → cond sells (due_of_sale (job (sale_lines past))) None ≡ Some r →
    Due setup past r
bare_due setup past addr r true test none due =
    sale_due setup past r (job (sale_lines past)) (ap (device_at setup.devices) (sym (eqb-true addr HOST test)) ∙ none)
    refl due
bare_due setup past addr r false test none due = absurd cc

there_due : (setup : Setup) (past : List Entry) (addr : ℕ) (r : Record) (found : Option DeviceSetup) →
    device_at setup.devices addr ≡ found → due_there past addr found ≡ Some r → Due setup past r
there_due setup past addr r None was due = bare_due setup past addr r (addr == HOST) refl was due
there_due setup past addr r (Some d) was due =
    job_due setup past d r (job (lines_of d past)) (of_found setup addr d was) refl due

pub is_due : (setup : Setup) (past : List Entry) (addr : ℕ) (r : Record) → due_at setup past addr ≡ Some r →
    Due setup past r
is_due setup past addr r due = there_due setup past addr r (device_at setup.devices addr) refl due

-- a power cut
kept_brought : (capacity : ℕ) (setup : Setup) (past : List Entry) (at : CrashAt) (choice : ℕ) (r : Record) →
    Due setup past r → Brought capacity setup past (step.Crash (Some at) choice) (keeping_restart past r)
kept_brought capacity setup past at choice _ (from_job d c since r own at_work is_row) =
    lost_in_put at choice d c since r own at_work is_row
kept_brought capacity setup past at choice _ (from_sale id price since none selling) =
    lost_in_sale at choice id price since none selling

put_lost : (capacity : ℕ) (setup : Setup) (past news : List Entry) (at : CrashAt) (choice : ℕ) (due : Option Record) →
    due_at setup past at.addr ≡ due → RestartEntries past at.calls due news →
    Brought capacity setup past (step.Crash (Some at) choice) news
put_lost capacity setup past news at choice None is told =
    subst (Brought capacity setup past (step.Crash (Some at) choice)) (sym told) (lost_power (Some at) choice)
put_lost capacity setup past news at choice (Some r) is told =
    elim told [
      | inl bare ↦ subst (Brought capacity setup past (step.Crash (Some at) choice)) (sym bare.1) (lost_power (Some at) choice)
      | inr kept ↦ subst (Brought capacity setup past (step.Crash (Some at) choice)) (sym kept.1)
          (kept_brought capacity setup past at choice r (is_due setup past at.addr r is))
    ]

restart_brought : (capacity : ℕ) (setup : Setup) (past news : List Entry) (at : Option CrashAt) (choice : ℕ) →
    EntriesOfRestart setup past at news → Brought capacity setup past (step.Crash at choice) news
restart_brought capacity setup past news None choice told =
    subst (Brought capacity setup past (step.Crash None choice)) (sym told) (lost_power None choice)
restart_brought capacity setup past news (Some at) choice told = put_lost capacity setup past news at choice _ refl told

-- the entries of a step without the one that says that its exchange was forged: only a `next` has one
abbrev pub told_of : Step → List Entry → List Entry
told_of (step.Next addr) news = without_forged news
told_of s news = news

-- each legal step brought one of these
pub brought : (capacity : ℕ) (setup : Setup) (past news : List Entry) (s : Step) → Entries capacity setup past s news →
    Brought capacity setup past s (told_of s news)
brought capacity setup past news (step.Coin addr place) told =
    happening_brought capacity setup past news addr (happening.Coin place) _ refl told
brought capacity setup past news (step.Alien addr) told =
    happening_brought capacity setup past news addr happening.Alien _ refl told
brought capacity setup past news (step.Bill addr place) told =
    happening_brought capacity setup past news addr (happening.Bill place) _ refl told
brought capacity setup past news (step.Fall addr) told =
    happening_brought capacity setup past news addr happening.Fall _ refl told
brought capacity setup past news (step.Jam addr) told =
    happening_brought capacity setup past news addr happening.Jam _ refl told
brought capacity setup past news (step.Reset addr) told =
    happening_brought capacity setup past news addr happening.Reset _ refl told
brought capacity setup past news (step.Fault f) told = subst (Brought capacity setup past (step.Fault f)) (sym told) (faulted f)
brought capacity setup past news (step.Command c) told =
    subst (Brought capacity setup past (step.Command c)) (sym told) (command_brought capacity setup past c _ refl)
brought capacity setup past news (step.Next addr) told =
    next_brought capacity setup past (without_forged news) addr _ refl told.0
brought capacity setup past news (step.Crash at choice) told = restart_brought capacity setup past news at choice told
brought capacity setup past news step.Balance told =
    subst (Brought capacity setup past step.Balance) (sym told) balanced
brought capacity setup past news (step.Stock addr count) told =
    subst (Brought capacity setup past (step.Stock addr count)) (sym told)
    (of_desk (step.Stock addr count) (entry.Stock addr count) (tells_stock addr count))
brought capacity setup past news (step.Change first amount) told =
    change_brought capacity setup past news first amount told
brought capacity setup past news step.Serve told = serve_brought capacity setup past news told
brought capacity setup past news step.End told = absurd told
