-- What holds of the lines of a hopper: each order is dispensed at most once, and is closed with
-- exactly the coins that fell and did not.
use Rattle.std.specs.Prelude.{◌≡◌, ℕ, suc, ◌+◌, ◌≤◌, ◌==◌, Bool, false, List, [], ◌∷◌, Option, Some}
use Rattle.std.specs.Prelude.{None, ⊤}
use Rattle.std.specs.List.{list_any}
use Rattle.cct_model.specs.lines.record.Record.{Record}
use Rattle.cct_model.specs.lines.record.Record.TheVariants as record_of
use Rattle.cct_model.specs.Effect.{OrderMove, effect, id_used}
use Rattle.cct_model.specs.Effect as move
use Rattle.cct_model.specs.declared.judging.OpenOrder.{OpenOrder}
use Rattle.cct_model.specs.Line.{Line, fell, dispensed, put}
use Rattle.cct_model.specs.Order.{order}
use Rattle.cct_model.specs.Claims.{AllPast}

-- What is counted of an order begins anew at each record that opens or closes one.
abbrev pub anew_by : Record → ℕ → ℕ
anew_by r counted = anew_after (effect r).order
  where
    anew_after : OrderMove → ℕ
    anew_after move.none_moved = counted
    anew_after other = 0

-- How many dispenses were taken since an order was last opened or closed.
abbrev pub dispenses : List Line → ℕ
dispenses [] = 0
dispenses (dispensed count ∷ past) = suc (dispenses past)
dispenses (put entry ∷ past) = anew_by entry (dispenses past)
dispenses (line ∷ past) = dispenses past

-- How many coins fell since an order was last opened or closed.
abbrev pub fallen : List Line → ℕ
fallen [] = 0
fallen (fell ∷ past) = suc (fallen past)
fallen (put entry ∷ past) = anew_by entry (fallen past)
fallen (line ∷ past) = fallen past

-- A fact of the open order; there has to be one.
abbrev pub OfOrder : Option OpenOrder → (OpenOrder → Type 0) → Type 0
OfOrder None P = ⊥
OfOrder (Some o) P = P o

-- An order is opened where none is open, and closed where it is the open one, with exactly the
-- coins that fell and the others of its count; that counts of life don't fit is never recorded.
abbrev pub PaidBy : List Line → Record → Type 0
PaidBy past (record_of.Opened id addr count life) = order past ≡ None
PaidBy past (record_of.Closed id paid unpaid) =
    OfOrder (order past) (λ o. (id ≡ o.id) × (paid ≡ fallen past) × (paid + unpaid ≡ o.count))
PaidBy past (record_of.Odd id life_before life_after) = ⊥
PaidBy past r = ⊤

-- A hopper takes a dispense where an order is open that none was taken for, for just its coins; and
-- a coin falls where an order is open, no more of them than it has.
abbrev pub PaidAt : List Line → Line → Type 0
PaidAt past (dispensed count) = OfOrder (order past) (λ o. (dispenses past ≡ 0) × (count ≡ o.count))
PaidAt past fell = OfOrder (order past) (λ o. suc (fallen past) ≤ o.count)
PaidAt past (put entry) = PaidBy past entry
PaidAt past line = ⊤

-- Each order is paid at most once, and closed with exactly the coins that fell and did not.
abbrev pub Paid : List Line → Type 0
Paid lines = AllPast PaidAt lines

-- A record uses an id, for an order that it opens or for a sale.
abbrev pub uses : ℕ → Record → Bool
uses id r = is_used (id_used r)
  where
    is_used : Option ℕ → Bool
    is_used None = false
    is_used (Some used) = used == id

-- A record that uses an id uses a new one.
abbrev pub IsFresh : List Record → Record → Type 0
IsFresh before r = IsNew (id_used r)
  where
    IsNew : Option ℕ → Type 0
    IsNew None = ⊤
    IsNew (Some id) = list_any (uses id) before ≡ false

-- No id is used by two records.
abbrev pub AreFresh : List Record → Type 0
AreFresh [] = ⊤
AreFresh (r ∷ before) = IsFresh before r × AreFresh before
