-- What fell for an order, by its id: the lines of a hopper show it, newest first.
use Rattle.std.specs.Prelude.{◌≡◌, ◌≢◌, ℕ, suc, ◌≤◌, ◌==◌, Bool, false, List, [], ◌∷◌}
use Rattle.std.specs.Prelude.{if◌then◌else◌, Option, Some, None, ⊤}
use Rattle.cct_model.specs.lines.record.Record.{Record}
use Rattle.cct_model.specs.lines.record.Record.TheVariants as record_of
use Rattle.cct_model.specs.declared.judging.OpenOrder.{OpenOrder}
use Rattle.cct_model.specs.Claims.{AllPast}
use Rattle.cct_model.specs.Line.{Line, fell, put}
use Rattle.cct_model.specs.Order.{order}
use Rattle.cct_model.specs.Paid.{fallen}

-- The open order has this id.
abbrev pub is_named : ℕ → Option OpenOrder → Bool
is_named id None = false
is_named id (Some o) = o.id == id

-- How many coins fell while the order with this id was open.
abbrev pub fallen_for : ℕ → List Line → ℕ
fallen_for id [] = 0
fallen_for id (fell ∷ past) =
    if is_named id (order past) then suc (fallen_for id past) else fallen_for id past
fallen_for id (line ∷ past) = fallen_for id past

-- How many coins the order with this id was opened for, or none where it wasn't opened.
abbrev pub count_by : ℕ → Record → Option ℕ → Option ℕ
count_by id (record_of.Opened opened addr count life) before =
    if opened == id then Some count else before
count_by id r before = before

-- How many coins the order with this id was opened for last, or none where it was not.
abbrev pub opened_as : ℕ → List Line → Option ℕ
opened_as id [] = None
opened_as id (put entry ∷ past) = count_by id entry (opened_as id past)
opened_as id (line ∷ past) = opened_as id past

-- How an order was closed: so many coins were paid, and so many were not.
pub record Close : Type 0 where
  pub paid : ℕ
  pub unpaid : ℕ

-- How the order with this id was closed, or none where it wasn't.
abbrev pub close_by : ℕ → Record → Option Close → Option Close
close_by id (record_of.Closed closed paid unpaid) before =
    if closed == id then Some (record { paid = paid; unpaid = unpaid }) else before
close_by id r before = before

-- How the order with this id was closed last, or none where it was not.
abbrev pub closed_as : ℕ → List Line → Option Close
closed_as id [] = None
closed_as id (put entry ∷ past) = close_by id entry (closed_as id past)
closed_as id (line ∷ past) = closed_as id past

-- Each order is opened with an id that none was opened with.
abbrev pub IsFreshBy : List Line → Record → Type 0
IsFreshBy past (record_of.Opened id addr count life) = opened_as id past ≡ None
IsFreshBy past r = ⊤

-- A line that opens an order gives it an id that no earlier line did.
abbrev pub IsFreshLine : List Line → Line → Type 0
IsFreshLine past (put entry) = IsFreshBy past entry
IsFreshLine past line = ⊤

-- So does each of these lines.
abbrev pub AreFreshLines : List Line → Type 0
AreFreshLines lines = AllPast IsFreshLine lines

-- What is counted of each order: of the open one the coins that fell since it was opened; of one
-- that wasn't opened none; never more than its count; and of a closed one the coins that its record
-- says were paid.
pub record Counted (lines : List Line) : Type 0 where
  pub open_is : (o : OpenOrder) → order lines ≡ Some o →
      (fallen_for o.id lines ≡ fallen lines) × (opened_as o.id lines ≡ Some o.count)
  pub unopened : (id : ℕ) → opened_as id lines ≡ None → fallen_for id lines ≡ 0
  pub within : (id n : ℕ) → opened_as id lines ≡ Some n → fallen_for id lines ≤ n
  pub closed_is : (id : ℕ) (c : Close) → closed_as id lines ≡ Some c →
      (fallen_for id lines ≡ c.paid) × (opened_as id lines ≢ None)
  pub closed_apart : (id : ℕ) (c : Close) (o : OpenOrder) → closed_as id lines ≡ Some c →
      order lines ≡ Some o →
      o.id ≢ id
  pub ended : (id n : ℕ) → opened_as id lines ≡ Some n → is_named id (order lines) ≡ false →
      closed_as id lines ≢ None
