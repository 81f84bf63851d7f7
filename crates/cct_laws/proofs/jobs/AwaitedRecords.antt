-- What jobs wait to record after an entry: all but a payment or a sale that is taken leave no job waiting that did not
-- wait before.
use Rattle.std.proofs.Common.{◌≡◌, ℕ, zero, suc, ◌==◌, cond, Bool, true, false, List, [], ◌∷◌, ◌++◌, refl, ap, sym, ◌∙◌, Some, None, rules}
use Rattle.std.proofs.lemmas.Option.{none-some}
use Rattle.std.specs.Prelude.{⊤}
use Rattle.cct_model.specs.terms.wire.TheConstants.{HOST}
use Rattle.cct_model.specs.terms.device.DeviceSetup.{DeviceSetup}
use Rattle.cct_model.specs.lines.record.Record.{Record}
use Rattle.cct_model.specs.lines.record.Record.TheVariants as record_of
use Rattle.cct_model.specs.lines.command.Command.{Command}
use Rattle.cct_model.specs.lines.command.Command.TheVariants as command
use Rattle.cct_model.specs.lines.entry.Entry.{Entry}
use Rattle.cct_model.specs.lines.entry.Entry.TheVariants as entry
use Rattle.cct_model.specs.Exchange.{asked, asks_of}
use Rattle.cct_model.specs.Line.{Line, accepted, inhibited, alien, fell, reset, exchange, scanned, put, taken, ended, restarted}
use Rattle.cct_model.specs.Job.{Job, free, works, job, begun, with_line, address_of, ident_requests}
use Rattle.cct_model.specs.Rows.{id_ahead, new_epoch, reading, epoch_end, new_order, order_end, sale, TableRow, asks_for, asks_once, waits_for_coins, puts_due, rows_of, rows_of_sale, after, done}
use Rattle.cct_model.specs.Transcript.{met, owner, lines_of, sale_lines, sold_line, heard_by_devices, pending, got_by, doses_of}
use Rattle.cct_laws.specs.Ids.{waiting}
use Rattle.cct_model.proofs.Doses.{job_undosed}
use Rattle.cct_model.proofs.Rows.{but_first, after_none, after_line, fact_after, EachBefore, before_on, told_fact}

-- after a row that records an id, and after one that may be passed over, none records one
abbrev IdLast : TableRow → List TableRow → Type 0
IdLast (puts_due (new_order id count) behind) rows = id_ahead rows ≡ None
IdLast (puts_due (sale id price) behind) rows = id_ahead rows ≡ None
IdLast (puts_due reading behind) rows = id_ahead rows ≡ None
IdLast r rows = ⊤

abbrev pub OneId : List TableRow → Type 0
OneId rows = EachBefore IdLast rows

pub one_id : (d : DeviceSetup) (c : Command) → OneId (rows_of d c)
one_id d (command.Ident addr) = told_fact OneId tt (λ q behind rows each. (tt, each)) (ident_requests d.body)
one_id d c = search rules

pub one_id_of_sale : (c : Command) → OneId (rows_of_sale c)
one_id_of_sale (command.Vend id price) = (refl, tt)
one_id_of_sale c = tt

pub one_after : (rows : List TableRow) (n : ℕ) → OneId rows → OneId (after rows n)
one_after = fact_after OneId (before_on IdLast)

-- an id that rows wait to record was to be recorded before
first_waits : (rows : List TableRow) (id : ℕ) → OneId rows → id_ahead (but_first rows) ≡ Some id →
    id_ahead rows ≡ Some id
first_waits [] id one is = is
first_waits (puts_due (new_order own count) behind ∷ rows) id one is = absurd (none-some id (sym one.0 ∙ is))
first_waits (puts_due (sale own price) behind ∷ rows) id one is = absurd (none-some id (sym one.0 ∙ is))
first_waits (puts_due (new_epoch mask) behind ∷ rows) id one is = is
first_waits (puts_due reading behind ∷ rows) id one is = is
first_waits (puts_due epoch_end behind ∷ rows) id one is = is
first_waits (puts_due order_end behind ∷ rows) id one is = is
first_waits (asks_for q behind ∷ rows) id one is = is
first_waits (asks_once q behind without ∷ rows) id one is = is
first_waits (waits_for_coins ∷ rows) id one is = is

pub after_waits : (rows : List TableRow) (n id : ℕ) → OneId rows → id_ahead (after rows n) ≡ Some id →
    id_ahead rows ≡ Some id
after_waits [] n id one is = is
after_waits (r ∷ rows) zero id one is = is
after_waits (r ∷ rows) (suc n) id one is = first_waits (r ∷ rows) id one (after_waits rows n id one.1 is)

-- a job waits with no id that it didn't wait with before
abbrev pub WaitsLess : (Command → List TableRow) → Job → Job → Type 0
WaitsLess table before later = (id : ℕ) → waiting table later ≡ Some id → waiting table before ≡ Some id

-- a table whose commands record one id each
abbrev OneIdEach : (Command → List TableRow) → Type 0
OneIdEach table = (c : Command) → OneId (table c)

with_line_waits : (table : Command → List TableRow) → OneIdEach table → (l : Line) (j : Job) →
    WaitsLess table j (with_line l j)
with_line_waits table one l free id is = absurd cc
with_line_waits table one l (works c since) id is =
    let rows = after (table c) (done (table c) since) in
    after_line (λ later. id_ahead later ≡ Some id → id_ahead rows ≡ Some id) (table c) l since (λ same. same)
    (first_waits rows id (one_after (table c) (done (table c) since) (one c))) is

-- a line begins no job that waits
abbrev StartsNone : (Command → List TableRow) → Line → Type 0
StartsNone table (taken c) = id_ahead (table c) ≡ None
StartsNone table l = ⊤

begun_waits : (table : Command → List TableRow) → OneIdEach table → (c : Command) (j : Job) →
    id_ahead (table c) ≡ None → WaitsLess table j (begun c j)
begun_waits table one (command.Halt addr) j none id is = with_line_waits table one (taken (command.Halt addr)) j id is
begun_waits table one c j none id is =
    absurd (none-some id (sym none ∙ sym (ap id_ahead (after_none (table c))) ∙ is))

line_waits : (table : Command → List TableRow) → OneIdEach table → (l : Line) (lines : List Line) →
    StartsNone table l → WaitsLess table (job lines) (job (l ∷ lines))
line_waits table one (taken c) lines none id is = begun_waits table one c (job lines) none id is
line_waits table one (ended end) lines none id is = absurd cc
line_waits table one restarted lines none id is = absurd cc
line_waits table one (exchange q y) lines none id is = with_line_waits table one (exchange q y) (job lines) id is
line_waits table one (scanned check addr rest) lines none id is =
    with_line_waits table one (scanned check addr rest) (job lines) id is
line_waits table one (put r) lines none id is = with_line_waits table one (put r) (job lines) id is
line_waits table one l lines none id is = is

pub here_waits : (table : Command → List TableRow) → OneIdEach table → (here : Bool) (l : Line) (lines : List Line) →
    StartsNone table l → WaitsLess table (job lines) (job (cond here (l ∷ []) [] ++ lines))
here_waits table one true l lines none id is = line_waits table one l lines none id is
here_waits table one false l lines none id is = is

wire_waits : (table : Command → List TableRow) → OneIdEach table → (here : Bool) (l : Line) (dosed lines : List Line) →
    StartsNone table l → job (dosed ++ lines) ≡ job lines →
    WaitsLess table (job lines) (job ((cond here (l ∷ []) [] ++ dosed) ++ lines))
wire_waits table one true l dosed lines none same id is =
    ap (waiting table) (sym same) ∙ line_waits table one l (dosed ++ lines) none id is
wire_waits table one false l dosed lines none same id is = ap (waiting table) (sym same) ∙ is

-- an entry begins no job that waits
abbrev pub BeginsNone : Entry → Type 0
BeginsNone (entry.Taken c) =
    ((d : DeviceSetup) → id_ahead (rows_of d c) ≡ None) × (id_ahead (rows_of_sale c) ≡ None)
BeginsNone e = ⊤

-- at a device
device_here : (d : DeviceSetup) (here : Bool) (l : Line) (lines : List Line) → StartsNone (rows_of d) l →
    WaitsLess (rows_of d) (job lines) (job (cond here (l ∷ []) [] ++ lines))
device_here d = here_waits (rows_of d) (one_id d)

pub device_waits_less : (d : DeviceSetup) (past : List Entry) (e : Entry) → BeginsNone e →
    WaitsLess (rows_of d) (job (lines_of d past)) (job (lines_of d (e ∷ past)))
device_waits_less d past (entry.Accepted addr c) none = device_here d (addr == d.addr) (accepted c) (lines_of d past) tt
device_waits_less d past (entry.Inhibited addr place) none =
    device_here d (addr == d.addr) (inhibited place) (lines_of d past) tt
device_waits_less d past (entry.Alien addr) none = device_here d (addr == d.addr) alien (lines_of d past) tt
device_waits_less d past (entry.Fell addr) none = device_here d (addr == d.addr) fell (lines_of d past) tt
device_waits_less d past (entry.Reset addr) none = device_here d (addr == d.addr) reset (lines_of d past) tt
device_waits_less d past (entry.Taken c) none =
    device_here d (address_of c == d.addr) (taken c) (lines_of d past) (none.0 d)
device_waits_less d past (entry.Wire addr sent piece) none =
    wire_waits (rows_of d) (one_id d) (addr == d.addr) (exchange (asked d.kind sent) (got_by d sent piece))
    (doses_of d past sent) (lines_of d past) tt
    (job_undosed d.body d.serial (met d past) (asks_of d (heard_by_devices (pending past) sent)) (lines_of d past))
device_waits_less d past (entry.Put r) none = device_here d (owner past r == d.addr) (put r) (lines_of d past) tt
device_waits_less d past (entry.Kept r) none = device_here d (owner past r == d.addr) (put r) (lines_of d past) tt
device_waits_less d past (entry.Ended addr end) none =
    device_here d (addr == d.addr) (ended end) (lines_of d past) tt
device_waits_less d past (entry.Crash records) none = λ id is. absurd cc
device_waits_less d past e none = λ id is. is

-- at address 1
sold_waits : (r : Record) (lines : List Line) → WaitsLess rows_of_sale (job lines) (job (sold_line r ++ lines))
sold_waits (record_of.Sold id price) lines =
    line_waits rows_of_sale one_id_of_sale (put (record_of.Sold id price)) lines tt
sold_waits r lines = λ id is. is

pub sale_waits_less : (past : List Entry) (e : Entry) → BeginsNone e →
    WaitsLess rows_of_sale (job (sale_lines past)) (job (sale_lines (e ∷ past)))
sale_waits_less past (entry.Taken c) none =
    here_waits rows_of_sale one_id_of_sale (address_of c == HOST) (taken c) (sale_lines past) none.1
sale_waits_less past (entry.Put r) none = sold_waits r (sale_lines past)
sale_waits_less past (entry.Kept r) none = sold_waits r (sale_lines past)
sale_waits_less past (entry.Ended addr end) none =
    here_waits rows_of_sale one_id_of_sale (addr == HOST) (ended end) (sale_lines past) tt
sale_waits_less past (entry.Crash records) none = λ id is. absurd cc
sale_waits_less past e none = λ id is. is
