-- What the running jobs reserve, after one line more, and what is spoken for by the records and the jobs together.
use Rattle.std.proofs.Common.{◌≡◌, ◌≢◌, ℕ, ◌+◌, ◌≤◌, List, [], ◌∷◌, refl, ap, sym, ◌∙◌, subst, arith}
use Rattle.cct_model.specs.Refusal.{tests_of, money_in}
use Rattle.cct_model.specs.terms.device.DeviceSetup.{DeviceSetup}
use Rattle.cct_model.specs.terms.device.Setup.{Setup}
use Rattle.cct_model.specs.lines.record.Record.{Record}
use Rattle.cct_model.specs.lines.record.Record.TheVariants as record_of
use Rattle.cct_model.specs.lines.command.Command.{Command}
use Rattle.cct_model.specs.lines.command.Command.TheVariants as command
use Rattle.cct_model.specs.lines.entry.Entry.{Entry}
use Rattle.cct_model.specs.Setup.{AreDistinct}
use Rattle.cct_model.specs.Line.{Line, put}
use Rattle.cct_model.specs.Job.{Job, free, works, with_line, job, address_of, ident_requests}
use Rattle.cct_model.specs.Rows.{new_order, TableRow, asks_for, asks_once, waits_for_coins, puts_due, rows_of, rest, done}
use Rattle.cct_model.specs.Records.{records}
use Rattle.cct_model.specs.Money.{coins_of, posted_in, reserves, reserved_for, reserved_by, reserved_by_sale, reserved_at_work, freed_by, spoken_for, available}
use Rattle.cct_model.specs.Transcript.{lines_of, sale_lines}
use Rattle.cct_model.proofs.Rows.{but_first, after_none, after_next, after_line, told_fact}
use Rattle.cct_laws.specs.Law.{IsOf}
use Rattle.cct_laws.proofs.money.Sums.{sum_moved}
use Rattle.cct_laws.proofs.money.Covered.{spoken_in}
use Rattle.cct_laws.proofs.orders.Opening.{Opens, UsesOwn}

-- what is spoken for is so by the records or by the jobs
pub spoken_both : (setup : Setup) (past : List Entry) →
    spoken_for setup past ≡ spoken_in setup (records past) + reserved_at_work setup past
spoken_both setup past = omega arith

-- what is available, where what is spoken for is posted
pub available_both : (setup : Setup) (past : List Entry) → spoken_for setup past ≤ posted_in setup (records past) →
    available setup past + spoken_for setup past ≡ posted_in setup (records past)
available_both setup past covered = omega arith

-- what the job at one device reserves changes, and no more is reserved by the others
pub at_work_moved : (setup : Setup) (d : DeviceSetup) (past after : List Entry) → AreDistinct setup.devices →
    IsOf setup d →
    ((e : DeviceSetup) → e.addr ≢ d.addr →
    reserved_by setup e (job (lines_of e after)) ≤ reserved_by setup e (job (lines_of e past))) →
    reserved_by_sale setup (job (sale_lines after)) ≤ reserved_by_sale setup (job (sale_lines past)) →
    reserved_at_work setup after + reserved_by setup d (job (lines_of d past))
    ≤ reserved_at_work setup past + reserved_by setup d (job (lines_of d after))
at_work_moved setup d past after distinct is_of others sale =
    let moved =
    sum_moved (λ e. reserved_by setup e (job (lines_of e after))) (λ e. reserved_by setup e (job (lines_of e past)))
    setup.devices d distinct is_of others in
    omega arith

-- what the first of these rows reserves, and those after it
abbrev reserves_first : Setup → ℕ → List TableRow → ℕ
reserves_first setup addr (puts_due due behind ∷ rows) = reserves setup addr due
reserves_first setup addr rows = 0

reserved_split : (setup : Setup) (addr : ℕ) (rows : List TableRow) →
    reserved_for setup addr rows ≡ reserves_first setup addr rows + reserved_for setup addr (but_first rows)
reserved_split setup addr [] = refl
reserved_split setup addr (puts_due due behind ∷ rows) = refl
reserved_split setup addr (asks_for q behind ∷ rows) = omega arith
reserved_split setup addr (asks_once q behind without ∷ rows) = omega arith
reserved_split setup addr (waits_for_coins ∷ rows) = omega arith

-- a line more reserves no more
work_line : (setup : Setup) (d : DeviceSetup) (c : Command) (l : Line) (since : List Line) →
    reserved_by setup d (works c (l ∷ since)) ≤ reserved_by setup d (works c since)
work_line setup d c l since =
    let now = reserved_for setup (address_of c) (rest d c since) in
    let split = reserved_split setup (address_of c) (rest d c since) in
    after_line (λ rows. reserved_for setup (address_of c) rows ≤ now) (rows_of d c) l since (omega arith)
    (omega (arith, split))

pub work_with : (setup : Setup) (d : DeviceSetup) (l : Line) (j : Job) →
    reserved_by setup d (with_line l j) ≤ reserved_by setup d j
work_with setup d l free = omega arith
work_with setup d l (works c since) = work_line setup d c l since

-- a put frees what its row reserved
opens_reserves : (setup : Setup) (addr id count : ℕ) (rows : List TableRow) → Opens id count rows →
    reserves_first setup addr rows ≡ coins_of setup addr count
opens_reserves setup addr id count (puts_due (new_order own many) behind ∷ rows) opens =
    ap (coins_of setup addr) opens.1
opens_reserves setup addr id count rows opens = absurd opens

pub work_put : (setup : Setup) (d : DeviceSetup) (c : Command) (since : List Line) (r : Record) →
    UsesOwn r (address_of c) (rest d c since) →
    freed_by setup r + reserved_by setup d (works c (put r ∷ since)) ≤ reserved_by setup d (works c since)
work_put setup d c since (record_of.Opened id at count life) own =
    let rows = rest d c since in
    let split = reserved_split setup (address_of c) rows in
    let frees : reserves_first setup (address_of c) rows ≡ coins_of setup at count =
    opens_reserves setup (address_of c) id count rows own.1 ∙ ap (λ a. coins_of setup a count) own.0 in
    let later = ap (reserved_for setup (address_of c)) (after_next (rows_of d c) (done (rows_of d c) since)) in
    omega (arith, split, frees, later)
work_put setup d c since (record_of.Sold id price) own = absurd own
work_put setup d c since r own =
    let fewer = work_line setup d c (put r) since in
    omega (arith, fewer)

-- what a command spends is reserved as its job begins
abbrev pub spent_by : Setup → Command → ℕ
spent_by setup c = money_in setup (tests_of c)

rows_spend : (setup : Setup) (d : DeviceSetup) (c : Command) →
    reserved_for setup (address_of c) (rows_of d c) ≤ spent_by setup c
rows_spend setup d (command.Ident addr) =
    let none =
    told_fact (λ rows. reserved_for setup addr rows ≡ 0) refl (λ q behind rows same. same) (ident_requests d.body) in
    omega (arith, none)
rows_spend setup d c = omega arith

pub work_taken : (setup : Setup) (d : DeviceSetup) (c : Command) → reserved_by setup d (works c []) ≤ spent_by setup c
work_taken setup d c =
    subst (λ rows. reserved_for setup (address_of c) rows ≤ spent_by setup c) (sym (after_none (rows_of d c)))
    (rows_spend setup d c)
