-- What the rows of a job at a device send and put, and how they end: the walks over the rows that are left, and that each
-- record is of the job's address.
use Rattle.std.proofs.Common.{◌≡◌, ◌∙◌, ℕ, ◌-◌, ◌==◌, ◌&&◌, nat_le, zero, suc, cond, true, false, Bool, List, [], ◌∷◌, length, slice_get, arith, refl, ap, sym, subst, Option, Some, None}
use Rattle.std.specs.Prelude.{⊤}
use Rattle.std.proofs.lemmas.Bool.{and_parts}
use Rattle.std.proofs.lemmas.Bool.Decides.{nat_tests}
use Rattle.cct_model.specs.terms.device.DeviceSetup.{DeviceSetup}
use Rattle.cct_model.specs.terms.coin.Coin.{Coin}
use Rattle.cct_model.specs.terms.coin.Credits.{Credits}
use Rattle.cct_model.specs.terms.request.Request.{Request}
use Rattle.cct_model.specs.terms.request.Request.TheVariants.{GetStatus, StopNow}
use Rattle.cct_model.specs.lines.record.Record.{Record}
use Rattle.cct_model.specs.lines.record.Record.TheVariants as record_of
use Rattle.cct_model.specs.declared.judging.Judged.{Judged}
use Rattle.cct_model.specs.declared.judging.Judged.TheVariants.{Nothing, Moved, Reading, Broken}
use Rattle.cct_model.specs.declared.judging.EpochState.{EpochState}
use Rattle.cct_model.specs.declared.judging.EpochState.TheVariants.{Idle, Running}
use Rattle.cct_model.specs.declared.judging.OpenOrder.{OpenOrder}
use Rattle.cct_model.specs.lines.command.Command.{Command}
use Rattle.cct_model.specs.lines.command.Command.TheVariants as command
use Rattle.cct_model.specs.lines.entry.End.{End}
use Rattle.cct_model.specs.lines.entry.End.TheVariants.{Unquiet, Clean, Broke, NoAnswer, Told, PathSet, Closed, OddLife}
use Rattle.cct_model.specs.lines.entry.End.TheVariants as end_for
use Rattle.cct_model.specs.lines.entry.Entry.{Entry}
use Rattle.cct_model.specs.Reply.{Reply}
use Rattle.cct_model.specs.Reply as reply
use Rattle.cct_model.specs.Line.{Line, exchange, put}
use Rattle.cct_model.specs.Reading.{judge}
use Rattle.cct_model.specs.Order.{close, life_between}
use Rattle.cct_model.specs.Job.{Row, sends, puts, no_row, put_or, Noted, noted_in, begin_row, state_row, open_row, close_row, ident_requests, judged_by, judged_in, credits_read, mask_read, accepts_before, accepts_read, address_of, end_of_moving, end_of_reading, end_of_close}
use Rattle.cct_model.specs.Rows.{done, Then, goes_on, ends_as, if_quiet, if_judged, if_unmoved, path_told, if_posted, if_closed, Due, new_epoch, reading, epoch_end, new_order, order_end, sale, TableRow, asks_for, asks_once, waits_for_coins, puts_due, telling, rows_of, after, from, left, rest, first, due_row, row, row_at, end_by_answer, end_by_record, end_bare, end_answered, end_failed, end_kept, end_of, has_waits, id_ahead, ends_first}
use Rattle.cct_model.specs.Transcript.{owner, opened_at}
use Rattle.cct_model.proofs.Requests.{Each}

-- a fact of the request that a row sends, and one of the record that it puts
abbrev pub RowHolds : (Request → Type 0) → (Record → Type 0) → Row → Type 0
RowHolds P Q (sends q) = P q
RowHolds P Q (puts r) = Q r
RowHolds P Q no_row = ⊤

-- both facts apart
pub both_hold : (P : Request → Type 0) (Q : Record → Type 0) (r : Row) → RowHolds P (λ entry. ⊤) r →
    RowHolds (λ q. ⊤) Q r → RowHolds P Q r
both_hold P Q (sends q) asks keeps = asks
both_hold P Q (puts r) asks keeps = keeps
both_hold P Q no_row asks keeps = tt

-- a fact of the record that was judged, if there is one
abbrev pub JudgedHolds : (Record → Type 0) → Judged → Type 0
JudgedHolds Q Nothing = ⊤
JudgedHolds Q Moved = ⊤
JudgedHolds Q (Reading r) = Q r
JudgedHolds Q (Broken r) = Q r

pub any_judged : (judged : Judged) → JudgedHolds (λ r. ⊤) judged
any_judged Nothing = tt
any_judged Moved = tt
any_judged (Reading r) = tt
any_judged (Broken r) = tt

-- what a reading of an address means, where the fact holds of each reading and each break of it
pub judged_holds : (Q : Record → Type 0) (addr : ℕ) (state : EpochState) (credits : Option Credits)
    (seen before now : Option ℕ) →
    ((counter lost accepts : ℕ) (posted : List Coin) → Q (record_of.Reading addr counter lost accepts posted)) →
    ((mask counter lost accepts : ℕ) (posted : List Coin) → Q (record_of.Broken addr mask counter lost accepts posted)) →
    JudgedHolds Q (judged_by addr state credits seen before now)
unfolding judge
judged_holds Q addr (Running mask counter accepts) (Some credits) (Some seen) (Some before) (Some now) reads breaks =
    by_tests _ _ _ _ _ _ _ _ _
  where
    by_tests : (seen read lost now : ℕ) (ps qs : List Coin) (moved broke none : Bool) →
        JudgedHolds Q (cond moved Moved (cond broke (Broken (record_of.Broken addr seen read lost now ps))
        (cond none Nothing (Reading (record_of.Reading addr read lost now qs)))))
    by_tests seen read lost now ps qs true broke none = tt
    by_tests seen read lost now ps qs false true none = breaks seen read lost now ps
    by_tests seen read lost now ps qs false false true = tt
    by_tests seen read lost now ps qs false false false = reads read lost now qs
judged_holds Q addr (Running mask counter accepts) (Some credits) (Some seen) (Some before) None reads breaks = tt
judged_holds Q addr (Running mask counter accepts) (Some credits) (Some seen) None now reads breaks = tt
judged_holds Q addr (Running mask counter accepts) (Some credits) None before now reads breaks = tt
judged_holds Q addr (Running mask counter accepts) None seen before now reads breaks = tt
judged_holds Q addr Idle credits seen before now reads breaks = tt

-- a fact of each row of the table
abbrev pub EachRow : (TableRow → Type 0) → List TableRow → Type 0
EachRow F [] = ⊤
EachRow F (r ∷ rows) = F r × EachRow F rows

-- a fact of rows that holds of them without the first too
abbrev pub IsPassedOn : (List TableRow → Type 0) → Type 0
IsPassedOn F = (r : TableRow) (rows : List TableRow) → F (r ∷ rows) → F rows

pub fact_after : (F : List TableRow → Type 0) → IsPassedOn F → (rows : List TableRow) (n : ℕ) → F rows →
    F (after rows n)
fact_after F on [] n fact = fact
fact_after F on (r ∷ rows) zero fact = fact
fact_after F on (r ∷ rows) (suc n) fact = fact_after F on rows n (on r rows fact)

-- and one that holds of them without a row that puts what was judged
pub fact_from : (F : List TableRow → Type 0) →
    ((behind : Then) (rows : List TableRow) → F (puts_due reading behind ∷ rows) → F rows) →
    (rows : List TableRow) (means : Judged) → F rows → F (from rows means)
fact_from F over (puts_due reading behind ∷ rows) Nothing fact = over behind rows fact
fact_from F over (puts_due reading behind ∷ rows) (Reading r) fact = fact
fact_from F over (puts_due reading behind ∷ rows) (Broken r) fact = fact
fact_from F over (puts_due due behind ∷ rows) means fact = fact
fact_from F over (asks_for q behind ∷ rows) means fact = fact
fact_from F over (asks_once q behind without ∷ rows) means fact = fact
fact_from F over (waits_for_coins ∷ rows) means fact = fact
fact_from F over [] means fact = fact

-- a fact of each row of the table and of those after it
abbrev pub EachBefore : (TableRow → List TableRow → Type 0) → List TableRow → Type 0
EachBefore F [] = ⊤
EachBefore F (r ∷ rows) = F r rows × EachBefore F rows

pub before_on : (F : TableRow → List TableRow → Type 0) → IsPassedOn (EachBefore F)
before_on F r rows each = each.1

pub each_after : (F : TableRow → Type 0) (rows : List TableRow) (n : ℕ) → EachRow F rows → EachRow F (after rows n)
each_after F = fact_after (EachRow F) (λ r rows each. each.1)

pub each_from : (F : TableRow → Type 0) (rows : List TableRow) (means : Judged) → EachRow F rows →
    EachRow F (from rows means)
each_from F = fact_from (EachRow F) (λ behind rows each. each.1)

-- of the rows that are left
pub each_left : (F : TableRow → Type 0) (d : DeviceSetup) (c : Command) (since : List Line) (state : EpochState) →
    EachRow F (rows_of d c) → EachRow F (left d c since state)
each_left F d c since state each =
    each_from F (rest d c since) (judged_in c since state) (each_after F (rows_of d c) (done (rows_of d c) since) each)

-- these rows but the first
abbrev pub but_first : List TableRow → List TableRow
but_first [] = []
but_first (r ∷ rows) = rows

-- where none is done, and where one more is
pub after_none : (rows : List TableRow) → after rows 0 ≡ rows
after_none [] = refl
after_none (r ∷ rows) = refl

pub after_next : (rows : List TableRow) (n : ℕ) → after rows (suc n) ≡ but_first (after rows n)
after_next [] n = refl
after_next (r ∷ []) zero = refl
after_next (r ∷ s ∷ rows) zero = refl
after_next (r ∷ rows) (suc n) = after_next rows n

-- a line of a job leaves the rows that were left, or these but the first
pub after_line : (P : List TableRow → Type 0) (rows : List TableRow) (l : Line) (since : List Line) →
    P (after rows (done rows since)) → P (but_first (after rows (done rows since))) →
    P (after rows (done rows (l ∷ since)))
after_line P rows (put r) since same less = subst P (sym (after_next rows (done rows since))) less
after_line P rows (exchange q y) since same less = by_end (ends_first (after rows (done rows since)) y)
  where
    by_end : (over : Bool) → P (after rows (cond over (suc (done rows since)) (done rows since)))
    by_end true = subst P (sym (after_next rows (done rows since))) less
    by_end false = same
after_line P rows l since same less = same

-- a line that ends the first of the rows that were left leaves those after it
pub ended_leaves : (rows : List TableRow) (asked : Option Request) (got : Option Reply) (since : List Line)
    (r : TableRow) (later : List TableRow) → after rows (done rows since) ≡ r ∷ later →
    ends_first (r ∷ later) got ≡ true → after rows (done rows (exchange asked got ∷ since)) ≡ later
ended_leaves rows asked got since r later is ends =
    ap (λ over. after rows (cond over (suc (done rows since)) (done rows since)))
    (ap (λ left_rows. ends_first left_rows got) is ∙ ends)
    ∙ after_next rows (done rows since) ∙ ap but_first is

pub put_leaves : (rows : List TableRow) (since : List Line) (r : TableRow) (later : List TableRow) →
    after rows (done rows since) ≡ r ∷ later → after rows (suc (done rows since)) ≡ later
put_leaves rows since r later is = after_next rows (done rows since) ∙ ap but_first is

-- a fact of the rows that ask for one thing after the other, which holds before any
pub told_fact : (F : List TableRow → Type 0) → F [] →
    ((q : Request) (behind : Then) (rows : List TableRow) → F rows → F (asks_for q behind ∷ rows)) →
    (qs : List Request) → F (telling qs)
told_fact F none more [] = none
told_fact F none more (q ∷ []) = more q (ends_as Told) [] none
told_fact F none more (q ∷ r ∷ qs) = more q goes_on (telling (r ∷ qs)) (told_fact F none more (r ∷ qs))

-- of each of these rows
pub each_told : (F : TableRow → Type 0) → ((q : Request) → F (asks_for q goes_on)) →
    ((q : Request) → F (asks_for q (ends_as Told))) → (qs : List Request) → EachRow F (telling qs)
each_told F goes last [] = tt
each_told F goes last (q ∷ []) = (last q, tt)
each_told F goes last (q ∷ r ∷ qs) = (goes q, each_told F goes last (r ∷ qs))

-- the row at which a job stands is the first of those that are left
pub walk : (F : TableRow → Type 0) (G : Row → Type 0) (d : DeviceSetup) (c : Command) (n : ℕ) (means : Judged)
    (p : Noted) → G no_row →
    ((r : TableRow) (rows : List TableRow) → F r → G (first (address_of c) means p (r ∷ rows))) →
    EachRow F (rows_of d c) → G (row_at d c n means p)
walk F G d c n means p none more each =
    by_first (from (after (rows_of d c) n) means) (each_from F _ means (each_after F (rows_of d c) n each))
  where
    by_first : (rows : List TableRow) → EachRow F rows → G (first (address_of c) means p rows)
    by_first [] each = none
    by_first (r ∷ rows) each = more r rows each.0

-- a fact of what a row of the table asks
abbrev pub Asks : (Request → Type 0) → TableRow → Type 0
Asks P (asks_for q behind) = P q
Asks P (asks_once q behind without) = P q
Asks P waits_for_coins = P GetStatus × P StopNow
Asks P (puts_due due behind) = ⊤

pub state_holds : (P : Request → Type 0) (Q : Record → Type 0) (marked : Bool) → P GetStatus → P StopNow →
    RowHolds P Q (state_row marked)
state_holds P Q true asks stops = stops
state_holds P Q false asks stops = asks

-- of the record that it puts, beside what was judged and what is known of a payout
abbrev pub DueHolds : (Record → Type 0) → ℕ → Judged → Noted → Due → Type 0
DueHolds Q addr means p (new_epoch mask) =
    (accepts : ℕ) → p.accepts ≡ Some accepts → Q (record_of.Epoch addr mask accepts)
DueHolds Q addr means p reading = JudgedHolds Q means
DueHolds Q addr means p epoch_end = Q (record_of.EpochEnd addr)
DueHolds Q addr means p (new_order id count) =
    (life : ℕ) → p.life ≡ Some life → Q (record_of.Opened id addr count life)
DueHolds Q addr means p order_end =
    (o : OpenOrder) (life : ℕ) → p.owed ≡ Some o → p.life ≡ Some life → Q (close o life)
DueHolds Q addr means p (sale id price) = Q (record_of.Sold id price)

begun_holds : (P : Request → Type 0) (Q : Record → Type 0) (addr mask : ℕ) (accepts : Option ℕ) →
    ((found : ℕ) → accepts ≡ Some found → Q (record_of.Epoch addr mask found)) → RowHolds P Q (begin_row addr mask accepts)
begun_holds P Q addr mask None holds = tt
begun_holds P Q addr mask (Some accepts) holds = holds accepts refl

opened_holds : (P : Request → Type 0) (Q : Record → Type 0) (addr id count : ℕ) (life : Option ℕ) →
    ((found : ℕ) → life ≡ Some found → Q (record_of.Opened id addr count found)) →
    RowHolds P Q (open_row addr id count life)
opened_holds P Q addr id count None holds = tt
opened_holds P Q addr id count (Some life) holds = holds life refl

closed_holds : (P : Request → Type 0) (Q : Record → Type 0) (owed : Option OpenOrder) (life : Option ℕ) →
    ((o : OpenOrder) (found : ℕ) → owed ≡ Some o → life ≡ Some found → Q (close o found)) →
    RowHolds P Q (close_row owed life)
closed_holds P Q (Some o) (Some life) holds = holds o life refl refl
closed_holds P Q (Some o) None holds = tt
closed_holds P Q None life holds = tt

judged_row : (P : Request → Type 0) (Q : Record → Type 0) (means : Judged) → JudgedHolds Q means →
    RowHolds P Q (put_or no_row means)
judged_row P Q Nothing holds = tt
judged_row P Q Moved holds = tt
judged_row P Q (Reading r) holds = holds
judged_row P Q (Broken r) holds = holds

pub due_holds : (P : Request → Type 0) (Q : Record → Type 0) (addr : ℕ) (means : Judged) (p : Noted) (due : Due) →
    DueHolds Q addr means p due → RowHolds P Q (due_row addr means p due)
due_holds P Q addr means p (new_epoch mask) holds = begun_holds P Q addr mask p.accepts holds
due_holds P Q addr means p reading holds = judged_row P Q means holds
due_holds P Q addr means p epoch_end holds = holds
due_holds P Q addr means p (new_order id count) holds = opened_holds P Q addr id count p.life holds
due_holds P Q addr means p order_end holds = closed_holds P Q p.owed p.life holds
due_holds P Q addr means p (sale id price) holds = holds

pub any_due : (addr : ℕ) (means : Judged) (p : Noted) (due : Due) →
    DueHolds (λ r. ⊤) addr means p due
any_due addr means p (new_epoch mask) = λ accepts read. tt
any_due addr means p reading = any_judged means
any_due addr means p epoch_end = tt
any_due addr means p (new_order id count) = λ life read. tt
any_due addr means p order_end = λ o life owed read. tt
any_due addr means p (sale id price) = tt

-- what each row of a command asks holds of the row at which its job stands
pub each_ask : (P : Request → Type 0) (d : DeviceSetup) (c : Command) (n : ℕ) (means : Judged) (p : Noted) →
    EachRow (Asks P) (rows_of d c) → RowHolds P (λ r. ⊤) (row_at d c n means p)
each_ask P d c n means p each = walk (Asks P) (RowHolds P (λ r. ⊤)) d c n means p tt by_row each
  where
    by_row : (r : TableRow) (rows : List TableRow) → Asks P r →
        RowHolds P (λ r. ⊤) (first (address_of c) means p (r ∷ rows))
    by_row (asks_for q behind) rows holds = holds
    by_row (asks_once q behind without) rows holds = holds
    by_row waits_for_coins rows holds = state_holds P (λ r. ⊤) p.is_marked holds.0 holds.1
    by_row (puts_due due behind) rows holds =
        due_holds P (λ r. ⊤) (address_of c) means p due (any_due (address_of c) means p due)

-- a fact of what is asked one after the other
pub told_each : (P : Request → Type 0) (F : TableRow → Type 0) →
    ((q : Request) (behind : Then) → P q → F (asks_for q behind)) → (qs : List Request) → Each P qs →
    EachRow F (telling qs)
told_each P F row [] each = tt
told_each P F row (q ∷ []) each = (row q (ends_as Told) each.0, tt)
told_each P F row (q ∷ r ∷ qs) each = (row q goes_on each.0, told_each P F row (r ∷ qs) each.1)

pub each_asked : (P : Request → Type 0) (qs : List Request) → Each P qs → EachRow (Asks P) (telling qs)
each_asked P = told_each P (Asks P) (λ q behind holds. holds)

-- of what these rows put, each passes a test
abbrev pub puts_only : (Due → Bool) → List TableRow → Bool
puts_only test [] = true
puts_only test (puts_due due behind ∷ rows) = test due && puts_only test rows
puts_only test (r ∷ rows) = puts_only test rows

pub told_only : (test : Due → Bool) (qs : List Request) → puts_only test (telling qs) ≡ true
told_only test = told_fact (λ rows. puts_only test rows ≡ true) refl (λ q behind rows only. only)

-- no job at a device sells
abbrev pub is_at_device : Due → Bool
is_at_device (sale id price) = false
is_at_device due = true

pub device_puts : (d : DeviceSetup) (c : Command) → puts_only is_at_device (rows_of d c) ≡ true
device_puts d (command.Ident addr) = told_only is_at_device (ident_requests d.body)
device_puts d c = refl

-- a fact of what a row of the table puts
abbrev pub Puts : (Record → Type 0) → ℕ → Judged → Noted → TableRow → Type 0
Puts Q addr means p (puts_due due behind) = DueHolds Q addr means p due
Puts Q addr means p r = ⊤

-- what each row of a command puts holds of the row at which its job stands
pub each_due : (Q : Record → Type 0) (d : DeviceSetup) (c : Command) (n : ℕ) (means : Judged) (p : Noted) →
    EachRow (Puts Q (address_of c) means p) (rows_of d c) → RowHolds (λ q. ⊤) Q (row_at d c n means p)
each_due Q d c n means p each =
    walk (Puts Q (address_of c) means p) (RowHolds (λ q. ⊤) Q) d c n means p tt by_row each
  where
    by_row : (r : TableRow) (rows : List TableRow) → Puts Q (address_of c) means p r →
        RowHolds (λ q. ⊤) Q (first (address_of c) means p (r ∷ rows))
    by_row (asks_for q behind) rows holds = tt
    by_row (asks_once q behind without) rows holds = tt
    by_row waits_for_coins rows holds = state_holds (λ q. ⊤) Q p.is_marked tt tt
    by_row (puts_due due behind) rows holds = due_holds (λ q. ⊤) Q (address_of c) means p due holds

-- each thing that these rows put passes a test
pub puts_by : (Q : Record → Type 0) (test : Due → Bool) (addr : ℕ) (means : Judged) (p : Noted) →
    ((due : Due) → test due ≡ true → DueHolds Q addr means p due) → (rows : List TableRow) →
    puts_only test rows ≡ true → EachRow (Puts Q addr means p) rows
puts_by Q test addr means p holds [] only = tt
puts_by Q test addr means p holds (puts_due due behind ∷ rows) only =
    let parts = and_parts (test due) (puts_only test rows) only in
    (holds due parts.0, puts_by Q test addr means p holds rows parts.1)
puts_by Q test addr means p holds (asks_for q behind ∷ rows) only = (tt, puts_by Q test addr means p holds rows only)
puts_by Q test addr means p holds (asks_once q behind without ∷ rows) only =
    (tt, puts_by Q test addr means p holds rows only)
puts_by Q test addr means p holds (waits_for_coins ∷ rows) only = (tt, puts_by Q test addr means p holds rows only)

pub each_put : (Q : Record → Type 0) (test : Due → Bool) (d : DeviceSetup) (c : Command) (n : ℕ) (means : Judged)
    (p : Noted) → puts_only test (rows_of d c) ≡ true →
    ((due : Due) → test due ≡ true → DueHolds Q (address_of c) means p due) →
    RowHolds (λ q. ⊤) Q (row_at d c n means p)
each_put Q test d c n means p only holds =
    each_due Q d c n means p (puts_by Q test (address_of c) means p holds (rows_of d c) only)

-- the row of a question, and the end that its answer brings
pub told_first : (addr : ℕ) (qs : List Request) (n : ℕ) (means : Judged) (p : Noted) (q : Request) →
    slice_get qs n ≡ Some q → first addr means p (from (after (telling qs) n) means) ≡ sends q
told_first addr [] n means p q is = absurd cc
told_first addr (x ∷ []) zero means p q is = cc
told_first addr (x ∷ []) (suc n) means p q is = absurd cc
told_first addr (x ∷ y ∷ qs) zero means p q is = cc
told_first addr (x ∷ y ∷ qs) (suc n) means p q is = told_first addr (y ∷ qs) n means p q is

pub told_end : (qs : List Request) (n : ℕ) (means : Judged) (y : Reply) (then_means : Judged) (q : Request) →
    slice_get qs n ≡ Some q →
    end_answered (from (after (telling qs) n) means) y then_means ≡ cond (length qs == suc n) (Some Told) None
told_end [] n means y then_means q is = absurd cc
told_end (x ∷ []) zero means y then_means q is = refl
told_end (x ∷ []) (suc n) means y then_means q is = absurd cc
told_end (x ∷ z ∷ qs) zero means y then_means q is = sym (ap (λ b. cond b (Some Told) None) (no_more (length qs)))
  where
    no_more : (n : ℕ) → (suc (suc n) == suc zero) ≡ false
    no_more n = grind (arith, nat_tests)
told_end (x ∷ z ∷ qs) (suc n) means y then_means q is =
    told_end (z ∷ qs) n means y then_means q is
    ∙ ap (λ b. cond b (Some Told) None) (one_less (length (z ∷ qs)) (suc n))
  where
    one_less : (a b : ℕ) → (a == b) ≡ (suc a == suc b)
    one_less a b = grind (arith, nat_tests)

-- rows that wait for no payout have none to come that does
pub waits_before : (rows : List TableRow) (n : ℕ) → has_waits (after rows n) ≡ true → has_waits rows ≡ true
waits_before [] n waits = waits
waits_before (r ∷ rows) zero waits = waits
waits_before (waits_for_coins ∷ rows) (suc n) waits = refl
waits_before (asks_for q behind ∷ rows) (suc n) waits = waits_before rows n waits
waits_before (asks_once q behind without ∷ rows) (suc n) waits = waits_before rows n waits
waits_before (puts_due due behind ∷ rows) (suc n) waits = waits_before rows n waits

pub told_no_waits : (qs : List Request) → has_waits (telling qs) ≡ false
told_no_waits = told_fact (λ rows. has_waits rows ≡ false) refl (λ q behind rows none. none)

-- and they record no id
pub told_no_id : (qs : List Request) → id_ahead (telling qs) ≡ None
told_no_id = told_fact (λ rows. id_ahead rows ≡ None) refl (λ q behind rows none. none)

-- a fact of an end, if there is one
abbrev pub IfEnd : (End → Type 0) → Option End → Type 0
IfEnd P None = ⊤
IfEnd P (Some end) = P end

-- a fact of each end that is brought after a row
abbrev pub Behind : (End → Type 0) → Then → Type 0
Behind P goes_on = ⊤
Behind P (ends_as end) = P end
Behind P if_quiet = (counter : ℕ) → P (Unquiet counter)
Behind P if_judged = P Clean × P end_for.Moved
Behind P if_unmoved = P end_for.Moved
Behind P (path_told place) = (number : ℕ) → P (PathSet place number)
Behind P (if_posted of_reading) = IfEnd P of_reading × P Broke
Behind P if_closed = P Closed × P OddLife

-- of each end that an answer brings, of each that is brought without one, and of each that a record brings
abbrev pub AnswerEnds : (End → Type 0) → TableRow → Type 0
AnswerEnds P (asks_for q behind) = Behind P behind
AnswerEnds P (asks_once q behind without) = Behind P behind
AnswerEnds P r = ⊤

abbrev pub BareEnds : (End → Type 0) → TableRow → Type 0
BareEnds P (asks_once q behind without) = Behind P without
BareEnds P r = ⊤

abbrev pub PutEnds : (End → Type 0) → TableRow → Type 0
PutEnds P (puts_due due behind) = Behind P behind
PutEnds P r = ⊤

pub end_if : (P : End → Type 0) (b : Bool) (end : End) → P end → IfEnd P (cond b (Some end) None)
end_if P true end holds = holds
end_if P false end holds = tt

quiet_end : (P : End → Type 0) (quiet : Bool) (end : End) → P end → IfEnd P (cond quiet None (Some end))
quiet_end P true end holds = tt
quiet_end P false end holds = holds

moving_end : (P : End → Type 0) (means : Judged) → P end_for.Moved → IfEnd P (end_of_moving means)
moving_end P Nothing moved = tt
moving_end P Moved moved = moved
moving_end P (Reading r) moved = tt
moving_end P (Broken r) moved = tt

reading_end : (P : End → Type 0) (means : Judged) → P Clean → P end_for.Moved → IfEnd P (end_of_reading means)
reading_end P Nothing clean moved = clean
reading_end P Moved clean moved = moved
reading_end P (Reading r) clean moved = tt
reading_end P (Broken r) clean moved = tt

close_end : (P : End → Type 0) (r : Record) → P Closed → P OddLife → IfEnd P (end_of_close r)
close_end P (record_of.Closed id paid unpaid) closed odd = closed
close_end P (record_of.Odd id life_before life_after) closed odd = odd
close_end P r closed odd = tt

pub behind_answer : (P : End → Type 0) (behind : Then) (y : Reply) (means : Judged) → Behind P behind →
    IfEnd P (end_by_answer behind y means)
behind_answer P goes_on y means holds = tt
behind_answer P (ends_as end) y means holds = holds
behind_answer P if_quiet (reply.credits c) means holds =
    quiet_end P (c.counter == 0) (Unquiet c.counter) (holds c.counter)
behind_answer P if_quiet y means holds = tt
behind_answer P if_judged y means holds = reading_end P means holds.0 holds.1
behind_answer P if_unmoved y means holds = moving_end P means holds
behind_answer P (path_told place) (reply.path number) means holds = holds number
behind_answer P (path_told place) y means holds = tt
behind_answer P (if_posted of_reading) y means holds = tt
behind_answer P if_closed y means holds = tt

pub behind_bare : (P : End → Type 0) (behind : Then) → Behind P behind → IfEnd P (end_bare behind)
behind_bare P (ends_as end) holds = holds
behind_bare P behind holds = tt

pub behind_record : (P : End → Type 0) (behind : Then) (r : Record) → Behind P behind →
    IfEnd P (end_by_record behind r)
behind_record P goes_on r holds = tt
behind_record P (ends_as end) r holds = holds
behind_record P if_quiet r holds = tt
behind_record P if_judged r holds = tt
behind_record P if_unmoved r holds = tt
behind_record P (path_told place) r holds = tt
behind_record P (if_posted of_reading) (record_of.Reading addr counter lost accepts coins) holds = holds.0
behind_record P (if_posted of_reading) (record_of.Broken addr seen counter lost accepts coins) holds = holds.1
behind_record P (if_posted of_reading) r holds = tt
behind_record P if_closed r holds = close_end P r holds.0 holds.1

-- hold of the end of an answered exchange
pub answer_end : (P : End → Type 0) (d : DeviceSetup) (c : Command) (asked : Option Request) (y : Reply)
    (since : List Line) (state : EpochState) → EachRow (AnswerEnds P) (rows_of d c) →
    IfEnd P (end_of d c (exchange asked (Some y)) since state)
answer_end P d c asked y since state each =
    by_first (left d c since state) (each_left (AnswerEnds P) d c since state each)
  where
    by_first : (rows : List TableRow) → EachRow (AnswerEnds P) rows →
        IfEnd P (end_answered rows y (judged_in c (exchange asked (Some y) ∷ since) state))
    by_first [] each = tt
    by_first (asks_for q behind ∷ rows) each = behind_answer P behind y _ each.0
    by_first (asks_once q behind without ∷ rows) each = behind_answer P behind y _ each.0
    by_first (waits_for_coins ∷ rows) each = tt
    by_first (puts_due due behind ∷ rows) each = tt

-- of that of one without an answer
pub failed_end : (P : End → Type 0) (d : DeviceSetup) (c : Command) (q : Request) (since : List Line)
    (state : EpochState) → EachRow (BareEnds P) (rows_of d c) → P NoAnswer →
    IfEnd P (end_of d c (exchange (Some q) None) since state)
failed_end P d c q since state bare given_up =
    by_first (left d c since state) _ (each_left (BareEnds P) d c since state bare)
  where
    by_first : (rows : List TableRow) (failed : ℕ) → EachRow (BareEnds P) rows → IfEnd P (end_failed rows failed)
    by_first [] failed each = end_if P (failed == 3) NoAnswer given_up
    by_first (asks_for q behind ∷ rows) failed each = end_if P (failed == 3) NoAnswer given_up
    by_first (asks_once q behind without ∷ rows) failed each = behind_bare P without each.0
    by_first (waits_for_coins ∷ rows) failed each = end_if P (failed == 3) NoAnswer given_up
    by_first (puts_due due behind ∷ rows) failed each = end_if P (failed == 3) NoAnswer given_up

-- of that of any exchange
pub exchange_end : (P : End → Type 0) (d : DeviceSetup) (c : Command) (asked : Option Request) (got : Option Reply)
    (since : List Line) (state : EpochState) → EachRow (AnswerEnds P) (rows_of d c) →
    EachRow (BareEnds P) (rows_of d c) → P NoAnswer → IfEnd P (end_of d c (exchange asked got) since state)
exchange_end P d c asked (Some y) since state answered bare given_up = answer_end P d c asked y since state answered
exchange_end P d c None None since state answered bare given_up = tt
exchange_end P d c (Some q) None since state answered bare given_up = failed_end P d c q since state bare given_up

-- and of that of a put
kept_end : (P : End → Type 0) (rows : List TableRow) (r : Record) → EachRow (PutEnds P) rows →
    IfEnd P (end_kept rows r)
kept_end P [] r each = tt
kept_end P (puts_due reading behind ∷ rows) (record_of.Reading addr counter lost accepts coins) each =
    behind_record P behind (record_of.Reading addr counter lost accepts coins) each.0
kept_end P (puts_due reading behind ∷ rows) (record_of.Broken addr seen counter lost accepts coins) each =
    behind_record P behind (record_of.Broken addr seen counter lost accepts coins) each.0
kept_end P (puts_due reading behind ∷ rows) r each = kept_end P rows r each.1
kept_end P (puts_due (new_epoch mask) behind ∷ rows) r each = behind_record P behind r each.0
kept_end P (puts_due epoch_end behind ∷ rows) r each = behind_record P behind r each.0
kept_end P (puts_due (new_order id count) behind ∷ rows) r each = behind_record P behind r each.0
kept_end P (puts_due order_end behind ∷ rows) r each = behind_record P behind r each.0
kept_end P (puts_due (sale id price) behind ∷ rows) r each = behind_record P behind r each.0
kept_end P (asks_for q behind ∷ rows) r each = tt
kept_end P (asks_once q behind without ∷ rows) r each = tt
kept_end P (waits_for_coins ∷ rows) r each = tt

pub put_end : (P : End → Type 0) (d : DeviceSetup) (c : Command) (r : Record) (since : List Line)
    (state : EpochState) → EachRow (PutEnds P) (rows_of d c) → IfEnd P (end_of d c (put r) since state)
put_end P d c r since state each = kept_end P (rest d c since) r (each_after (PutEnds P) (rows_of d c) (done (rows_of d c) since) each)

-- a record is of an address after a past, and so is what a row puts
abbrev IsRecordOf : List Entry → ℕ → Record → Type 0
IsRecordOf past addr r = owner past r ≡ addr

abbrev pub IsOwned : List Entry → ℕ → Row → Type 0
IsOwned past addr r = RowHolds (λ q. ⊤) (IsRecordOf past addr) r

judged_owned : (past : List Entry) (addr : ℕ) (state : EpochState) (credits : Option Credits) (seen before now : Option ℕ) →
    JudgedHolds (IsRecordOf past addr) (judged_by addr state credits seen before now)
judged_owned past addr state credits seen before now =
    judged_holds (IsRecordOf past addr) addr state credits seen before now (λ counter lost accepts posted. refl)
    (λ mask counter lost accepts posted. refl)

-- the record that closes an order is of the address at which it was opened
pub close_owned : (past : List Entry) (o : OpenOrder) (life : ℕ) → owner past (close o life) ≡ opened_at o.id past
unfolding close
close_owned past o life = by_test (nat_le (life_between o.life life) o.count)
  where
    by_test : (fits : Bool) → owner past (cond fits
        (record_of.Closed o.id (life_between o.life life) (o.count - life_between o.life life))
        (record_of.Odd o.id o.life life)) ≡ opened_at o.id past
    by_test true = refl
    by_test false = refl

-- the row of any job puts only records of its address, where the open order was opened there
pub row_owned : (past : List Entry) (d : DeviceSetup) (c : Command) (since : List Line) (state : EpochState)
    (owed : Option OpenOrder) → ((o : OpenOrder) → owed ≡ Some o → opened_at o.id past ≡ address_of c) →
    IsOwned past (address_of c) (row d c since state owed)
row_owned past d c since state owed owned =
    each_put (IsRecordOf past (address_of c)) is_at_device d c (done (rows_of d c) since) (judged_in c since state) (noted_in since owed)
    (device_puts d c) due_owned
  where
    due_owned : (due : Due) → is_at_device due ≡ true →
        DueHolds (IsRecordOf past (address_of c)) (address_of c) (judged_in c since state) (noted_in since owed) due
    due_owned (new_epoch mask) here = λ accepts read. refl
    due_owned reading here =
        judged_owned past (address_of c) state (credits_read since) (mask_read since) (accepts_before since) (accepts_read since)
    due_owned epoch_end here = refl
    due_owned (new_order id count) here = λ life read. refl
    due_owned order_end here = λ o life is read. close_owned past o life ∙ owned o is
    due_owned (sale id price) here = absurd cc
