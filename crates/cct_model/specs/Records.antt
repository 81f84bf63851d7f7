-- What the records of a journal alone show, newest first: whose each is, the epoch and the open
-- order of each device, and which ids were used.
use Rattle.std.specs.Prelude.{ℕ, max, ◌==◌, Bool, true, false, List, [], ◌∷◌, if◌then◌else◌, Option}
use Rattle.std.specs.Prelude.{Some, None}
use Rattle.cct_model.specs.lines.record.Record.{Record}
use Rattle.cct_model.specs.Effect.{OrderMove, address_by, effect, id_used}
use Rattle.cct_model.specs.Effect as move
use Rattle.cct_model.specs.lines.entry.Entry.{Entry}
use Rattle.cct_model.specs.lines.entry.Entry.TheVariants as entry
use Rattle.cct_model.specs.declared.judging.EpochState.{EpochState}
use Rattle.cct_model.specs.declared.judging.EpochState.TheVariants.{Idle}
use Rattle.cct_model.specs.declared.judging.OpenOrder.{OpenOrder}
use Rattle.cct_model.specs.Order.{order_by}
use Rattle.cct_model.specs.Job.{epoch_by}

-- The records that were put, and those that were kept when the power was cut.
abbrev pub records : List Entry → List Record
records [] = []
records (entry.Put r ∷ past) = r ∷ records past
records (entry.Kept r ∷ past) = r ∷ records past
records (e ∷ past) = records past

-- The order that a record opens with this id, or the one before it.
abbrev pub named_by : ℕ → Record → Option OpenOrder → Option OpenOrder
named_by id r before = named_after (effect r).order before
  where
    named_after : OrderMove → Option OpenOrder → Option OpenOrder
    named_after (move.newly_opened opened addr count life) before =
        if opened == id then Some (record { id = opened; addr = addr; count = count; life = life })
        else before
    named_after other before = before

-- The order that was opened last with an id, or none.
abbrev pub order_named : ℕ → List Record → Option OpenOrder
order_named id [] = None
order_named id (r ∷ before) = named_by id r (order_named id before)

-- The address of an order, 0 of none.
abbrev pub hopper_of : Option OpenOrder → ℕ
hopper_of None = 0
hopper_of (Some o) = o.addr

-- The address at which an order was opened last with an id, 0 where none was.
abbrev pub opened_in : ℕ → List Record → ℕ
opened_in id before = hopper_of (order_named id before)

-- The address that a record belongs to: that of the order that it closes, and 1 for a sale.
abbrev pub owner_in : List Record → Record → ℕ
owner_in before r = address_by (λ id. opened_in id before) (effect r).owned

-- The records of an address.
abbrev pub records_at : ℕ → List Record → List Record
records_at addr [] = []
records_at addr (r ∷ before) =
    if owner_in before r == addr then r ∷ records_at addr before else records_at addr before

-- The epoch that the records of an address show.
abbrev pub epoch_of : List Record → EpochState
epoch_of [] = Idle
epoch_of (r ∷ before) = epoch_by r (epoch_of before)

-- The epoch of the acceptor at an address.
abbrev pub epoch_in : ℕ → List Record → EpochState
epoch_in addr before = epoch_of (records_at addr before)

-- The open order that the records of an address show.
abbrev pub order_of : List Record → Option OpenOrder
order_of [] = None
order_of (r ∷ before) = order_by r (order_of before)

-- The open order of the hopper at an address.
abbrev pub order_in : ℕ → List Record → Option OpenOrder
order_in addr before = order_of (records_at addr before)

-- The order with an id is open after a record: it is opened, or closed, or as before.
abbrev pub is_open_by : ℕ → Record → Bool → Bool
is_open_by id r before = is_open_after (effect r).order before
  where
    is_open_after : OrderMove → Bool → Bool
    is_open_after move.none_moved before = before
    is_open_after (move.newly_opened opened addr count life) before =
        if opened == id then true else before
    is_open_after (move.fitly_closed closed paid unpaid) before =
        if closed == id then false else before
    is_open_after (move.oddly_closed closed) before = if closed == id then false else before

-- An order with an id is open.
abbrev pub is_open : ℕ → List Record → Bool
is_open id [] = false
is_open id (r ∷ before) = is_open_by id r (is_open id before)

-- The id that a record uses, of an order that it opens or of a sale; 0 of others.
abbrev pub id_of : Record → ℕ
id_of r = id_or_none (id_used r)
  where
    id_or_none : Option ℕ → ℕ
    id_or_none None = 0
    id_or_none (Some id) = id

-- The greatest id that was used, 0 where none was.
abbrev pub greatest_id : List Record → ℕ
greatest_id [] = 0
greatest_id (r ∷ before) = max (id_of r) (greatest_id before)
