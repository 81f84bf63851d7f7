-- Ids of the lines of a hopper are fresh, and what was read of an id stays whatever comes after.
use Rattle.std.proofs.Common.{◌≡◌, ℕ, ◌+◌, ◌==◌, Bool, true, false, cond, List, [], ◌∷◌, ◌++◌, refl, sym, ◌∙◌, subst, Option, Some, None}
use Rattle.std.specs.List.{list_any}
use Rattle.std.proofs.lemmas.Bool.{ne_eqb, or_parts, cond-false}
use Rattle.cct_model.specs.terms.device.DeviceSetup.{DeviceSetup}
use Rattle.cct_model.specs.lines.record.Record.{Record}
use Rattle.cct_model.specs.lines.record.Record.TheVariants as record_of
use Rattle.cct_model.specs.lines.entry.Entry.{Entry}
use Rattle.cct_model.specs.Line.{Line, put}
use Rattle.cct_model.specs.Order.{order}
use Rattle.cct_model.specs.Paid.{AreFresh, IsFresh, Paid, fallen, uses}
use Rattle.cct_model.specs.Records.{owner_in, records, records_at}
use Rattle.cct_model.specs.Transcript.{lines_of}
use Rattle.cct_laws.specs.Recorded.{put_in}
use Rattle.cct_laws.proofs.money.FromRecordsAlone.{put_recorded}
use Rattle.cct_laws_change.specs.Counted.{AreFreshLines, Close, Counted, IsFreshBy, close_by, closed_as, count_by, opened_as}
use Rattle.cct_laws_change.proofs.Counted.{counted, of_order, some_none}

-- of fewer records an id is no more used
fewer_by : (b : Bool) (id : ℕ) (r : Record) (some rest : List Record) → list_any (uses id) (r ∷ rest) ≡ false →
    (list_any (uses id) rest ≡ false → list_any (uses id) some ≡ false) → list_any (uses id) (cond b (r ∷ some) some) ≡ false
fewer_by true id r some rest none later =
    let parts = or_parts (uses id r) (list_any (uses id) rest) none in
    rw parts.0 (later parts.1)
fewer_by false id r some rest none later = later (or_parts (uses id r) (list_any (uses id) rest) none).1

unused_at : (id addr : ℕ) (rs : List Record) → list_any (uses id) rs ≡ false → list_any (uses id) (records_at addr rs) ≡ false
unused_at id addr [] none = refl
unused_at id addr (r ∷ rs) none =
    fewer_by (owner_in rs r == addr) id r (records_at addr rs) rs none (unused_at id addr rs)

fresh_among : (addr : ℕ) (rs : List Record) (r : Record) → IsFresh rs r → IsFresh (records_at addr rs) r
fresh_among addr rs (record_of.Opened id at count life) fresh = unused_at id addr rs fresh
fresh_among addr rs (record_of.Sold id price) fresh = unused_at id addr rs fresh
fresh_among addr rs r fresh = tt

fresh_by : (b : Bool) (r : Record) (rs : List Record) → IsFresh rs r → AreFresh rs → AreFresh (cond b (r ∷ rs) rs)
fresh_by true r rs fresh before = (fresh, before)
fresh_by false r rs fresh before = before

fresh_at : (addr : ℕ) (rs : List Record) → AreFresh rs → AreFresh (records_at addr rs)
fresh_at addr [] fresh = tt
fresh_at addr (r ∷ rs) fresh =
    fresh_by (owner_in rs r == addr) r (records_at addr rs) (fresh_among addr rs r fresh.0) (fresh_at addr rs fresh.1)

-- an id that no record among lines uses opened none
unopened_by : (id : ℕ) (r : Record) (before : Option ℕ) → uses id r ≡ false → before ≡ None → count_by id r before ≡ None
unopened_by id (record_of.Opened opened addr count life) before other none =
    cond-false (opened == id) (Some count) before other ∙ none
unopened_by id r before other none = none

unopened : (id : ℕ) (lines : List Line) → list_any (uses id) (put_in lines) ≡ false → opened_as id lines ≡ None
unopened id [] none = refl
unopened id (put r ∷ lines) none =
    let parts = or_parts (uses id r) (list_any (uses id) (put_in lines)) none in
    unopened_by id r (opened_as id lines) parts.0 (unopened id lines parts.1)
unopened id (l ∷ lines) none = unopened id lines none

fresh_put : (lines : List Line) (r : Record) → IsFresh (put_in lines) r → IsFreshBy lines r
fresh_put lines (record_of.Opened id addr count life) fresh = unopened id lines fresh
fresh_put lines r fresh = tt

fresh_in : (lines : List Line) → AreFresh (put_in lines) → AreFreshLines lines
fresh_in [] fresh = tt
fresh_in (put r ∷ lines) fresh = (fresh_put lines r fresh.0, fresh_in lines fresh.1)
fresh_in (l ∷ lines) fresh = (tt, fresh_in lines fresh)

pub fresh_lines : (d : DeviceSetup) (past : List Entry) → AreFresh (records past) → AreFreshLines (lines_of d past)
fresh_lines d past fresh =
    fresh_in (lines_of d past) (subst AreFresh (sym (put_recorded d past)) (fresh_at d.addr (records past) fresh))

-- what an order was opened for stays
opened_stays_by : (past : List Line) (id n : ℕ) (r : Record) → IsFreshBy past r → opened_as id past ≡ Some n →
    count_by id r (opened_as id past) ≡ Some n
opened_stays_by past id n (record_of.Opened opened addr count life) fresh is =
    cond-false (opened == id) (Some count) (opened_as id past)
    (ne_eqb opened id (λ same. some_none n (sym is ∙ subst (λ i. opened_as i past ≡ None) same fresh))) ∙ is
opened_stays_by past id n r fresh is = is

pub opened_stays : (more past : List Line) (id n : ℕ) → AreFreshLines (more ++ past) → opened_as id past ≡ Some n →
    opened_as id (more ++ past) ≡ Some n
opened_stays [] past id n fresh is = is
opened_stays (put r ∷ more) past id n fresh is =
    opened_stays_by (more ++ past) id n r fresh.0 (opened_stays more past id n fresh.1 is)
opened_stays (l ∷ more) past id n fresh is = opened_stays more past id n fresh.1 is

-- so does how an order was closed
closed_stays_by : (past : List Line) (id : ℕ) (c : Close) (r : Record) → Paid (put r ∷ past) → Counted past →
    closed_as id past ≡ Some c → close_by id r (closed_as id past) ≡ Some c
closed_stays_by past id c (record_of.Closed closed paid unpaid) pays before is =
    let found = of_order (order past) (λ o. (closed ≡ o.id) × (paid ≡ fallen past) × (paid + unpaid ≡ o.count)) pays.0 in
    cond-false (closed == id) (Some (record { paid = paid; unpaid = unpaid })) (closed_as id past)
    (ne_eqb closed id (λ same. before.closed_apart id c found.0 is found.1 (sym found.2.0 ∙ same))) ∙ is
closed_stays_by past id c r pays before is = is

pub closed_stays : (more past : List Line) (id : ℕ) (c : Close) → Paid (more ++ past) → AreFreshLines (more ++ past) →
    closed_as id past ≡ Some c → closed_as id (more ++ past) ≡ Some c
closed_stays [] past id c pays fresh is = is
closed_stays (put r ∷ more) past id c pays fresh is =
    closed_stays_by (more ++ past) id c r pays (counted (more ++ past) pays.1 fresh.1)
    (closed_stays more past id c pays.1 fresh.1 is)
closed_stays (l ∷ more) past id c pays fresh is = closed_stays more past id c pays.1 fresh.1 is
