-- Which ids the rows of jobs at devices put into records: an order is opened by the row that is to open one, with that
-- row's id, and no row records a sale.
use Rattle.std.proofs.Common.{◌≡◌, ℕ, List, [], ◌∷◌, refl, ap, sym, ◌∙◌, Some, None, Option, rules}
use Rattle.std.proofs.lemmas.Option.{none-some}
use Rattle.std.specs.Prelude.{⊤}
use Rattle.cct_model.specs.terms.device.DeviceSetup.{DeviceSetup}
use Rattle.cct_model.specs.lines.record.Record.{Record}
use Rattle.cct_model.specs.lines.record.Record.TheVariants as record_of
use Rattle.cct_model.specs.lines.command.Command.{Command}
use Rattle.cct_model.specs.lines.command.Command.TheVariants as command
use Rattle.cct_model.specs.declared.judging.EpochState.{EpochState}
use Rattle.cct_model.specs.declared.judging.Judged.{Judged}
use Rattle.cct_model.specs.declared.judging.Judged.TheVariants.{Nothing, Reading, Broken}
use Rattle.cct_model.specs.declared.judging.OpenOrder.{OpenOrder}
use Rattle.cct_model.specs.Line.{Line}
use Rattle.cct_model.specs.Order.{close}
use Rattle.cct_model.specs.Job.{credits_read, mask_read, accepts_before, accepts_read, ident_requests, Noted, judged_in, noted_in, address_of}
use Rattle.cct_model.specs.Rows.{id_ahead, row, Due, TableRow, asks_for, asks_once, waits_for_coins, puts_due, new_order, rows_of, from, rest, left, first, done, sale, new_epoch, reading, epoch_end, order_end, Then}
use Rattle.cct_model.proofs.Rows.{RowHolds, EachRow, each_told, each_left, JudgedHolds, judged_holds, due_holds, state_holds, DueHolds, but_first}
use Rattle.cct_laws.proofs.orders.Closes.{closes_so}
use Rattle.cct_laws.proofs.jobs.AwaitedRecords.{OneId, one_id, one_after}

-- the first of these rows is to open an order of so many coins, with this id
abbrev pub Opens : ℕ → ℕ → List TableRow → Type 0
Opens id count (puts_due (new_order own many) behind ∷ rows) = (own ≡ id) × (many ≡ count)
Opens id count rows = ⊥

-- it is the id that these rows wait to record, and those after it wait with none
pub opens_waits : (id count : ℕ) (rows : List TableRow) → Opens id count rows → id_ahead rows ≡ Some id
opens_waits id count (puts_due (new_order own many) behind ∷ rows) opens = ap Some opens.0
opens_waits id count rows opens = absurd opens

pub opened_waits : (id count : ℕ) (rows : List TableRow) → OneId rows → Opens id count rows →
    id_ahead (but_first rows) ≡ None
opened_waits id count (puts_due (new_order own many) behind ∷ rows) one opens = one.0
opened_waits id count rows one opens = absurd opens

-- what a row at an address puts uses no id, or it opens the order that the first of these rows is to open
abbrev pub UsesOwn : Record → ℕ → List TableRow → Type 0
UsesOwn (record_of.Opened id at count life) addr rows = (addr ≡ at) × Opens id count rows
UsesOwn (record_of.Sold id price) addr rows = ⊥
UsesOwn r addr rows = ⊤

closes_own : (o : OpenOrder) (life addr : ℕ) (rows : List TableRow) → UsesOwn (close o life) addr rows
closes_own o life addr rows = closes_so (λ r. UsesOwn r addr rows) o life (λ fits. tt) (λ over. tt)

judged_own : (c : Command) (rows : List TableRow) (since : List Line) (state : EpochState) →
    JudgedHolds (λ r. UsesOwn r (address_of c) rows) (judged_in c since state)
judged_own c rows since state =
    judged_holds (λ r. UsesOwn r (address_of c) rows) (address_of c) state (credits_read since) (mask_read since)
    (accepts_before since) (accepts_read since) (λ counter lost accepts posted. tt)
    (λ mask counter lost accepts posted. tt)

-- no row of a device sells
abbrev SellsNone : TableRow → Type 0
SellsNone (puts_due (sale id price) behind) = ⊥
SellsNone r = ⊤

sells_none : (d : DeviceSetup) (c : Command) → EachRow SellsNone (rows_of d c)
sells_none d (command.Ident addr) = each_told SellsNone (λ q. tt) (λ q. tt) (ident_requests d.body)
sells_none d c = search rules

-- a row that is to open an order isn't one that is after a passed one
from_opens : (id count : ℕ) (rows : List TableRow) (means : Judged) → OneId rows → Opens id count (from rows means) →
    Opens id count rows
from_opens id count (puts_due reading behind ∷ rows) Nothing one opens =
    absurd (none-some id (sym one.0 ∙ opens_waits id count rows opens))
from_opens id count (puts_due reading behind ∷ rows) (Reading r) one opens = opens
from_opens id count (puts_due reading behind ∷ rows) (Broken r) one opens = opens
from_opens id count (puts_due due behind ∷ rows) means one opens = opens
from_opens id count (asks_for q behind ∷ rows) means one opens = opens
from_opens id count (asks_once q behind without ∷ rows) means one opens = opens
from_opens id count (waits_for_coins ∷ rows) means one opens = opens
from_opens id count [] means one opens = opens

-- what the first of these rows puts, beside all that were left
due_own : (c : Command) (rows all : List TableRow) (due : Due) (behind : Then) (since : List Line) (state : EpochState)
    (p : Noted) → ((id count : ℕ) → Opens id count (puts_due due behind ∷ rows) → Opens id count all) →
    SellsNone (puts_due due behind) →
    DueHolds (λ r. UsesOwn r (address_of c) all) (address_of c) (judged_in c since state) p due
due_own c rows all (new_epoch mask) behind since state p opens none = λ accepts read. tt
due_own c rows all reading behind since state p opens none = judged_own c all since state
due_own c rows all epoch_end behind since state p opens none = tt
due_own c rows all (new_order id count) behind since state p opens none =
    λ life read. (refl, opens id count (refl, refl))
due_own c rows all order_end behind since state p opens none = λ o life owed read. closes_own o life (address_of c) all
due_own c rows all (sale id price) behind since state p opens none = absurd none

first_own : (c : Command) (rows all : List TableRow) (since : List Line) (state : EpochState) (p : Noted) →
    ((id count : ℕ) → Opens id count rows → Opens id count all) → EachRow SellsNone rows →
    RowHolds (λ q. ⊤) (λ r. UsesOwn r (address_of c) all) (first (address_of c) (judged_in c since state) p rows)
first_own c [] all since state p opens none = tt
first_own c (asks_for q behind ∷ rows) all since state p opens none = tt
first_own c (asks_once q behind without ∷ rows) all since state p opens none = tt
first_own c (waits_for_coins ∷ rows) all since state p opens none =
    state_holds (λ q. ⊤) (λ r. UsesOwn r (address_of c) all) p.is_marked tt tt
first_own c (puts_due due behind ∷ rows) all since state p opens none =
    due_holds (λ q. ⊤) (λ r. UsesOwn r (address_of c) all) (address_of c) (judged_in c since state) p due
    (due_own c rows all due behind since state p opens none.0)

pub row_own : (d : DeviceSetup) (c : Command) (since : List Line) (state : EpochState) (owed : Option OpenOrder) →
    RowHolds (λ q. ⊤) (λ r. UsesOwn r (address_of c) (rest d c since)) (row d c since state owed)
row_own d c since state owed =
    first_own c (left d c since state) (rest d c since) since state (noted_in since owed)
    (λ id count. from_opens id count (rest d c since) (judged_in c since state)
    (one_after (rows_of d c) (done (rows_of d c) since) (one_id d c)))
    (each_left SellsNone d c since state (sells_none d c))
