-- How many records the rows of a job hold, after one line more: a put leaves one less, an exchange and a halt no more,
-- and a command brings no more than it wants room for.
use Rattle.std.proofs.Common.{◌≡◌, ◌≢◌, ℕ, suc, ◌+◌, ◌≤◌, Bool, true, false, cond, List, [], ◌∷◌, ◌++◌, refl, ap, sym, ◌∙◌, subst, Option, Some, None, arith, rules}
use Rattle.std.specs.Prelude.{⊤, is_some}
use Rattle.cct_model.specs.terms.coin.Coin.{Coin}
use Rattle.cct_model.specs.terms.coin.Credits.{Credits}
use Rattle.cct_model.specs.terms.device.DeviceSetup.{DeviceSetup}
use Rattle.cct_model.specs.terms.request.Request.{Request}
use Rattle.cct_model.specs.lines.record.Record.{Record}
use Rattle.cct_model.specs.lines.record.Record.TheVariants as record_of
use Rattle.cct_model.specs.lines.command.Command.{Command}
use Rattle.cct_model.specs.lines.command.Command.TheVariants as command
use Rattle.cct_model.specs.declared.judging.Judged.{Judged}
use Rattle.cct_model.specs.declared.judging.Judged.TheVariants.{Nothing, Moved, Reading, Broken}
use Rattle.cct_model.specs.declared.judging.EpochState.{EpochState}
use Rattle.cct_model.specs.declared.judging.EpochState.TheVariants.{Running}
use Rattle.cct_model.specs.declared.judging.OpenOrder.{OpenOrder}
use Rattle.cct_model.specs.Reply.{Reply}
use Rattle.cct_model.specs.Line.{Line, exchange, put, taken}
use Rattle.cct_model.specs.Order.{order_by, close}
use Rattle.cct_model.specs.Reading.{judge}
use Rattle.cct_model.specs.Job.{Job, free, works, with_line, sends, puts, no_row, put_or, begin_row, close_row, Noted, end_of_close, judged_by, judged_in, noted_in, credits_read, mask_read, accepts_before, accepts_read, address_of, epoch_by, ident_requests}
use Rattle.cct_model.specs.Rows.{Then, ends_as, Due, new_epoch, reading, epoch_end, new_order, order_end, sale, TableRow, asks_for, asks_once, waits_for_coins, puts_due, rows_of, rows_of_sale, from, done, rest, left, first, due_row, row, end_kept, end_of, puts_in, has_closes, closes_order, need_in}
use Rattle.cct_model.specs.Refusal.{job_holds, order_holds, need_for}
use Rattle.cct_model.proofs.Rows.{but_first, after_none, after_next, after_line, fact_after, fact_from, EachBefore, before_on, told_fact}
use Rattle.cct_model.proofs.Tries.{due_sends, left_asks}
use Rattle.cct_laws.specs.KeptHopper.{IsOwed}
use Rattle.cct_laws.proofs.orders.Closes.{closes_so}

-- what a reading was judged to be is a reading or a break
abbrev pub IsReading : Judged → Type 0
IsReading Nothing = ⊤
IsReading Moved = ⊤
IsReading (Reading (record_of.Reading addr counter lost accepts posted)) = ⊤
IsReading (Reading r) = ⊥
IsReading (Broken (record_of.Broken addr seen counter lost accepts posted)) = ⊤
IsReading (Broken r) = ⊥

judge_reads : (addr mask counter accepts : ℕ) (c : Credits) (seen before now : ℕ) →
    IsReading (judge addr mask counter accepts c seen before now)
unfolding judge
judge_reads addr mask counter accepts c seen before now = by_tests _ _ _ _ _ _ _ _ _
  where
    by_tests : (at read lost to : ℕ) (broken posted : List Coin) (moves breaks none : Bool) →
        IsReading (cond moves Moved (cond breaks (Broken (record_of.Broken addr at read lost to broken))
        (cond none Nothing (Reading (record_of.Reading addr read lost to posted)))))
    by_tests at read lost to broken posted true breaks none = tt
    by_tests at read lost to broken posted false true none = tt
    by_tests at read lost to broken posted false false true = tt
    by_tests at read lost to broken posted false false false = tt

by_reads : (addr : ℕ) (state : EpochState) (credits : Option Credits) (seen before now : Option ℕ) →
    IsReading (judged_by addr state credits seen before now)
by_reads addr (Running mask counter accepts) (Some c) (Some seen) (Some before) (Some now) =
    judge_reads addr mask counter accepts c seen before now
by_reads addr state credits seen before now = tt

pub judged_reads : (c : Command) (since : List Line) (state : EpochState) → IsReading (judged_in c since state)
judged_reads c since state =
    by_reads (address_of c) state (credits_read since) (mask_read since) (accepts_before since) (accepts_read since)

-- what the record that a row puts does to the open order

pub same_record : (r s : Record) → puts r ≡ puts s → r ≡ s
same_record r s e = cc

-- it opens and closes none
abbrev pub LeavesOrders : Record → Type 0
LeavesOrders r = (owed : Option OpenOrder) → order_by r owed ≡ owed

judged_leaves : (judged : Judged) (r : Record) → IsReading judged → put_or no_row judged ≡ puts r → LeavesOrders r
judged_leaves Nothing r reads is = absurd cc
judged_leaves Moved r reads is = absurd cc
judged_leaves (Reading (record_of.Reading addr counter lost accepts posted)) r reads is =
    subst LeavesOrders (same_record (record_of.Reading addr counter lost accepts posted) r is) (λ owed. refl)
judged_leaves (Reading other) r reads is = absurd reads
judged_leaves (Broken (record_of.Broken addr seen counter lost accepts posted)) r reads is =
    subst LeavesOrders (same_record (record_of.Broken addr seen counter lost accepts posted) r is) (λ owed. refl)
judged_leaves (Broken other) r reads is = absurd reads

abbrev leaves_orders : Due → Bool
leaves_orders (new_order id count) = false
leaves_orders order_end = false
leaves_orders due = true

begun_leaves : (addr mask : ℕ) (accepts : Option ℕ) (r : Record) → begin_row addr mask accepts ≡ puts r → LeavesOrders r
begun_leaves addr mask None r is = absurd cc
begun_leaves addr mask (Some accepts) r is =
    subst LeavesOrders (same_record (record_of.Epoch addr mask accepts) r is) (λ owed. refl)

due_leaves : (addr : ℕ) (means : Judged) (p : Noted) (due : Due) (r : Record) → IsReading means →
    leaves_orders due ≡ true → due_row addr means p due ≡ puts r → LeavesOrders r
due_leaves addr means p (new_epoch mask) r reads leaves is = begun_leaves addr mask p.accepts r is
due_leaves addr means p reading r reads leaves is = judged_leaves means r reads is
due_leaves addr means p epoch_end r reads leaves is =
    subst LeavesOrders (same_record (record_of.EpochEnd addr) r is) (λ owed. refl)
due_leaves addr means p (sale id price) r reads leaves is =
    subst LeavesOrders (same_record (record_of.Sold id price) r is) (λ owed. refl)
due_leaves addr means p due r reads leaves is = absurd cc

-- it closes an order: it leaves none open, and ends its job
pub record ClosesOrder (r : Record) : Type 0 where
  pub none : (owed : Option OpenOrder) → order_by r owed ≡ None
  pub ends : end_of_close r ≢ None

close_closes : (o : OpenOrder) (life : ℕ) → ClosesOrder (close o life)
close_closes o life =
    closes_so ClosesOrder o life (λ fits. record { none = λ owed. refl; ends = λ none. absurd cc })
    (λ over. record { none = λ owed. refl; ends = λ none. absurd cc })

pub close_row_closes : (owed : Option OpenOrder) (life : Option ℕ) (r : Record) → close_row owed life ≡ puts r →
    ClosesOrder r
close_row_closes None life r is = absurd cc
close_row_closes (Some o) None r is = absurd cc
close_row_closes (Some o) (Some life) r is = subst ClosesOrder (same_record (close o life) r is) (close_closes o life)

-- what is after the rows of the table

-- a row that ends the epoch and its job, or none
abbrev EndsNext : List TableRow → Type 0
EndsNext [] = ⊤
EndsNext (puts_due epoch_end (ends_as end) ∷ rows) = ⊤
EndsNext rows = ⊥

-- after one that opens an order stands one that closes it, after that none that puts, and after one that may be passed
-- over one that ends its job
abbrev HoldsWell : TableRow → List TableRow → Type 0
HoldsWell (puts_due (new_order id count) behind) rows = has_closes rows ≡ true
HoldsWell (puts_due order_end behind) rows = puts_in rows ≡ 0
HoldsWell (puts_due reading behind) rows = EndsNext rows
HoldsWell r rows = ⊤

abbrev pub RowsHoldWell : List TableRow → Type 0
RowsHoldWell rows = EachBefore HoldsWell rows

rows_well : (d : DeviceSetup) (c : Command) → RowsHoldWell (rows_of d c)
rows_well d (command.Ident addr) = told_fact RowsHoldWell tt (λ q behind rows each. (tt, each)) (ident_requests d.body)
rows_well d c = search rules

pub rest_well : (d : DeviceSetup) (c : Command) (since : List Line) → RowsHoldWell (rest d c since)
rest_well d c since = fact_after RowsHoldWell (before_on HoldsWell) (rows_of d c) _ (rows_well d c)

-- the record of the row after one that was passed over ends its job
pub passed_ends : (addr : ℕ) (p : Noted) (behind : Then) (rows : List TableRow) (r : Record) → EndsNext rows →
    first addr Nothing p rows ≡ puts r → end_kept (puts_due reading behind ∷ rows) r ≡ None → ⊥
passed_ends addr p behind [] r ends is none = cc
passed_ends addr p behind (puts_due epoch_end (ends_as end) ∷ rows) r ends is none =
    let all = puts_due reading behind ∷ puts_due epoch_end (ends_as end) ∷ rows in
    let over : end_kept all (record_of.EpochEnd addr) ≡ None =
    ap (end_kept all) (same_record (record_of.EpochEnd addr) r is) ∙ none in
    cc
passed_ends addr p behind rows r ends is none = ends

-- how many records rows hold: those that they put, and one for an open order that none of them closes
abbrev held_by : List TableRow → Option OpenOrder → ℕ
held_by rows owed = puts_in rows + order_holds (has_closes rows) owed

-- so many a job holds, beside the epoch and the open order
abbrev pub holds_with : DeviceSetup → Job → EpochState → Option OpenOrder → ℕ
holds_with d j state owed = job_holds d state j + order_holds (closes_order d j) owed

closing : (owed : Option OpenOrder) → order_holds true owed ≡ 0
closing None = refl
closing (Some o) = refl

order_most : (closes : Bool) (owed : Option OpenOrder) → order_holds closes owed ≤ order_holds false owed
order_most true None = omega arith
order_most true (Some o) = omega arith
order_most false owed = omega arith

-- a row that is passed over closes no order, and without it no more is put
from_closes : (rows : List TableRow) (means : Judged) → has_closes (from rows means) ≡ has_closes rows
from_closes rows means =
    fact_from (λ later. has_closes later ≡ has_closes rows) (λ behind later same. same) rows means refl

from_puts : (rows : List TableRow) (means : Judged) → puts_in (from rows means) ≤ puts_in rows
from_puts rows means =
    fact_from (λ later. puts_in later ≤ puts_in rows) (λ behind later fewer. omega (arith, fewer)) rows means
    (omega arith)

-- without its rows a job holds no more
least : (rows : List TableRow) (owed : Option OpenOrder) → order_holds false owed ≤ held_by rows owed
least [] owed = omega arith
least (puts_due order_end behind ∷ rows) None = omega arith
least (puts_due order_end behind ∷ rows) (Some o) = omega arith
least (puts_due due behind ∷ rows) owed = let one = least rows owed in omega (arith, one)
least (asks_for q behind ∷ rows) owed = least rows owed
least (asks_once q behind without ∷ rows) owed = least rows owed
least (waits_for_coins ∷ rows) owed = least rows owed

pub free_least : (d : DeviceSetup) (c : Command) (since : List Line) (state : EpochState) (owed : Option OpenOrder) →
    order_holds false owed ≤ holds_with d (works c since) state owed
free_least d c since state owed =
    let rows = rest d c since in
    let means = judged_in c since state in
    subst (λ b. order_holds false owed ≤ puts_in (from rows means) + order_holds b owed) (from_closes rows means)
    (least (from rows means) owed)

-- an exchange brings no more to come

asked_same : (addr : ℕ) (means : Judged) (p : Noted) (rows : List TableRow) (q : Request) (owed : Option OpenOrder) →
    first addr means p rows ≡ sends q → held_by (but_first rows) owed ≡ held_by rows owed
asked_same addr means p [] q owed is = refl
asked_same addr means p (asks_for x behind ∷ rows) q owed is = refl
asked_same addr means p (asks_once x behind without ∷ rows) q owed is = refl
asked_same addr means p (waits_for_coins ∷ rows) q owed is = refl
asked_same addr means p (puts_due due behind ∷ rows) q owed is = absurd (due_sends addr means p due q is)

pub asked_no_more : (d : DeviceSetup) (c : Command) (since : List Line) (state : EpochState) (owed : Option OpenOrder)
    (q : Request) (got : Option Reply) → row d c since state owed ≡ sends q →
    holds_with d (works c (exchange (Some q) got ∷ since)) state owed ≤ holds_with d (works c since) state owed
asked_no_more d c since state owed q got is =
    let rows = rest d c since in
    let p = noted_in since owed in
    let means = judged_in c since state in
    let later = judged_in c (exchange (Some q) got ∷ since) state in
    let all : left d c since state ≡ rows = left_asks d c since state owed q is in
    let same =
    asked_same (address_of c) means p rows q owed (subst (λ rs. first (address_of c) means p rs ≡ sends q) all is) in
    let before : holds_with d (works c since) state owed ≡ held_by rows owed =
    ap (λ rs. puts_in rs + order_holds (has_closes rows) owed) all in
    let fewer =
    after_line (λ rs. held_by rs owed ≤ held_by rows owed) (rows_of d c) (exchange (Some q) got) since (omega arith)
    (omega (arith, same)) in
    let most = from_puts (rest d c (exchange (Some q) got ∷ since)) later in
    omega (arith, before, fewer, most)

-- a job that puts a record and is then lost leaves one less held

opens_least : (rows : List TableRow) (later : Option OpenOrder) → has_closes rows ≡ true →
    order_holds false later ≤ puts_in rows
opens_least rows later closes =
    let some = least rows later in
    let none : order_holds (has_closes rows) later ≡ 0 = ap (λ b. order_holds b later) closes ∙ closing later in
    omega (arith, some, none)

least_first : (addr : ℕ) (means : Judged) (p : Noted) (rows : List TableRow) (r : Record) → IsReading means →
    RowsHoldWell rows → first addr means p rows ≡ puts r →
    suc (order_holds false (order_by r p.owed)) ≤ held_by rows p.owed
least_first addr means p [] r reads well is = absurd cc
least_first addr means p (asks_for q behind ∷ rows) r reads well is = absurd cc
least_first addr means p (asks_once q behind without ∷ rows) r reads well is = absurd cc
least_first addr means p (waits_for_coins ∷ rows) r reads well is = absurd cc
least_first addr means p (puts_due (new_order id count) behind ∷ rows) r reads well is =
    let few = opens_least rows (order_by r p.owed) well.0 in
    omega (arith, few)
least_first addr means p (puts_due order_end behind ∷ rows) r reads well is =
    let none : order_holds false (order_by r p.owed) ≡ 0 =
    ap (order_holds false) ((close_row_closes p.owed p.life r is).none p.owed) in
    omega (arith, none)
least_first addr means p (puts_due due behind ∷ rows) r reads well is =
    let same : order_holds false (order_by r p.owed) ≡ order_holds false p.owed =
    ap (order_holds false) (due_leaves addr means p due r reads refl is p.owed) in
    let few = least rows p.owed in
    omega (arith, same, few)

pub put_least : (d : DeviceSetup) (c : Command) (since : List Line) (state : EpochState) (owed : Option OpenOrder)
    (r : Record) → row d c since state owed ≡ puts r →
    suc (order_holds false (order_by r owed)) ≤ holds_with d (works c since) state owed
put_least d c since state owed r is =
    let rows = rest d c since in
    let means = judged_in c since state in
    subst (λ b. suc (order_holds false (order_by r owed)) ≤ puts_in (from rows means) + order_holds b owed)
    (from_closes rows means)
    (least_first (address_of c) means (noted_in since owed) (from rows means) r
    (judged_reads c since state)
    (fact_from RowsHoldWell (λ behind later each. each.1) rows means (rest_well d c since)) is)

-- a job that puts a record and goes on leaves one less held

leaves_less : (rows : List TableRow) (later : Judged) (owed : Option OpenOrder) (r : Record) → LeavesOrders r →
    suc (puts_in (from rows later) + order_holds (has_closes rows) (order_by r owed))
    ≤ suc (puts_in rows) + order_holds (has_closes rows) owed
leaves_less rows later owed r leaves =
    let same : order_holds (has_closes rows) (order_by r owed) ≡ order_holds (has_closes rows) owed =
    ap (order_holds (has_closes rows)) (leaves owed) in
    let most = from_puts rows later in
    omega (arith, same, most)

goes_first : (addr : ℕ) (means later : Judged) (p : Noted) (rows : List TableRow) (r : Record) → IsReading means →
    RowsHoldWell rows → first addr means p (from rows means) ≡ puts r → end_kept rows r ≡ None →
    suc (puts_in (from (but_first rows) later) + order_holds (has_closes (but_first rows)) (order_by r p.owed))
    ≤ puts_in (from rows means) + order_holds (has_closes rows) p.owed
goes_first addr means later p [] r reads well is none = absurd cc
goes_first addr means later p (asks_for q behind ∷ rows) r reads well is none = absurd cc
goes_first addr means later p (asks_once q behind without ∷ rows) r reads well is none = absurd cc
goes_first addr means later p (waits_for_coins ∷ rows) r reads well is none = absurd cc
goes_first addr means later p (puts_due (new_order id count) behind ∷ rows) r reads well is none =
    let closed : order_holds (has_closes rows) (order_by r p.owed) ≡ 0 =
    ap (λ b. order_holds b (order_by r p.owed)) well.0 ∙ closing (order_by r p.owed) in
    let most = from_puts rows later in
    omega (arith, closed, most)
goes_first addr means later p (puts_due order_end behind ∷ rows) r reads well is none =
    let closed : order_holds (has_closes rows) (order_by r p.owed) ≡ 0 =
    ap (order_holds (has_closes rows)) ((close_row_closes p.owed p.life r is).none p.owed) in
    let most = from_puts rows later in
    omega (arith, closed, most)
goes_first addr Nothing later p (puts_due reading behind ∷ rows) r reads well is none =
    absurd (passed_ends addr p behind rows r well.0 is none)
goes_first addr Moved later p (puts_due reading behind ∷ rows) r reads well is none = absurd cc
goes_first addr (Reading e) later p (puts_due reading behind ∷ rows) r reads well is none =
    leaves_less rows later p.owed r (judged_leaves (Reading e) r reads is)
goes_first addr (Broken e) later p (puts_due reading behind ∷ rows) r reads well is none =
    leaves_less rows later p.owed r (judged_leaves (Broken e) r reads is)
goes_first addr means later p (puts_due due behind ∷ rows) r reads well is none =
    leaves_less rows later p.owed r (due_leaves addr means p due r reads refl is)

pub put_goes_on : (d : DeviceSetup) (c : Command) (since : List Line) (state : EpochState) (owed : Option OpenOrder)
    (r : Record) → row d c since state owed ≡ puts r → end_of d c (put r) since state ≡ None →
    suc (holds_with d (works c (put r ∷ since)) (epoch_by r state) (order_by r owed))
    ≤ holds_with d (works c since) state owed
put_goes_on d c since state owed r is none =
    let later = judged_in c (put r ∷ since) (epoch_by r state) in
    subst
    (λ rs. suc (puts_in (from rs later) + order_holds (has_closes rs) (order_by r owed))
    ≤ holds_with d (works c since) state owed)
    (sym (after_next (rows_of d c) (done (rows_of d c) since)))
    (goes_first (address_of c) (judged_in c since state) later (noted_in since owed) (rest d c since) r
    (judged_reads c since state) (rest_well d c since) is none)

-- a command

-- an order is open that rows close and don't open before
abbrev ClosesOwed : Option OpenOrder → List TableRow → Type 0
ClosesOwed owed [] = ⊤
ClosesOwed owed (puts_due (new_order id count) behind ∷ rows) = ⊤
ClosesOwed owed (puts_due order_end behind ∷ rows) = is_some owed ≡ true
ClosesOwed owed (r ∷ rows) = ClosesOwed owed rows

closes_owed : (d : DeviceSetup) (c : Command) (owed : Option OpenOrder) → IsOwed c owed → ClosesOwed owed (rows_of d c)
closes_owed d (command.Settle addr) None is_owed = absurd cc
closes_owed d (command.Settle addr) (Some o) is_owed = refl
closes_owed d (command.Ident addr) owed is_owed =
    told_fact (ClosesOwed owed) tt (λ q behind rows opened. opened) (ident_requests d.body)
closes_owed d c owed is_owed = tt

rows_need : (rows : List TableRow) (owed : Option OpenOrder) → RowsHoldWell rows → ClosesOwed owed rows →
    held_by rows owed ≤ order_holds false owed + need_in rows
rows_need [] owed well opened = omega arith
rows_need (puts_due (new_order id count) behind ∷ rows) owed well opened =
    let most = order_most (has_closes rows) owed in
    omega (arith, most)
rows_need (puts_due order_end behind ∷ rows) None well opened = absurd cc
rows_need (puts_due order_end behind ∷ rows) (Some o) well opened =
    let none : puts_in rows ≡ 0 = well.0 in
    omega (arith, none)
rows_need (puts_due due behind ∷ rows) owed well opened =
    let more = rows_need rows owed well.1 opened in
    omega (arith, more)
rows_need (asks_for q behind ∷ rows) owed well opened = rows_need rows owed well.1 opened
rows_need (asks_once q behind without ∷ rows) owed well opened = rows_need rows owed well.1 opened
rows_need (waits_for_coins ∷ rows) owed well opened = rows_need rows owed well.1 opened

need_least : (c : Command) (rows : List TableRow) → need_in rows ≤ need_in (rows_of_sale c ++ rows)
need_least (command.Vend id price) rows = omega arith
need_least c rows = omega arith

pub taken_holds : (d : DeviceSetup) (c : Command) (state : EpochState) (owed : Option OpenOrder) → IsOwed c owed →
    holds_with d (works c []) state owed ≤ order_holds false owed + need_for (Some d) c
taken_holds d c state owed is_owed =
    let rows = rows_of d c in
    let means = judged_in c [] state in
    let most = from_puts rows means in
    let needs = rows_need rows owed (rows_well d c) (closes_owed d c owed is_owed) in
    let all = need_least c rows in
    subst
    (λ rs. puts_in (from rs means) + order_holds (has_closes rs) owed ≤ order_holds false owed + need_for (Some d) c)
    (sym (after_none rows))
    (omega (arith, most, needs, all))

-- a halt
pub halted_holds : (d : DeviceSetup) (stop : Command) (j : Job) (state : EpochState) (owed : Option OpenOrder) →
    holds_with d (with_line (taken stop) j) state owed ≡ holds_with d j state owed
halted_holds d stop free state owed = refl
halted_holds d stop (works c since) state owed = refl
