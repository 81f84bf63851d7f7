-- The bodies of a carry: 31 bytes each, and one spelling for each carry.
use Rattle.std.specs.Prelude.{◌≡◌, ℕ, ◌+◌, ◌==◌, List, [], ◌∷◌, ◌++◌, map, Option, Some, None}
use Rattle.std.specs.Prelude.{if◌then◌else◌, slice_index}
use Rattle.std.specs.Int.{w16, w32, w64, to_le_bytes, from_le_bytes}
use Rattle.cct_model_lines.specs.Request.{three_bytes}
use Rattle.cct_model_lines.specs.Carried.{IsRightly}
use Rattle.cct_model_lines.specs.declared.carry.Carry.{Carry}
use Rattle.cct_model_lines.specs.declared.carry.CarryEpoch.{CarryEpoch}
use Rattle.cct_model_lines.specs.declared.carry.CarryOrder.{CarryOrder}
use Rattle.cct_record.specs.Body.{filled}
use Rattle.cct_record.specs.Fields.{four_at, three_at, two_at}

-- The body of the last id and of three sums of value.
unfoldable pub first_sums : Carry → List ℕ
first_sums c =
    filled ((9 ∷ to_le_bytes w32 c.last_id) ++ to_le_bytes w64 c.value
    ++ to_le_bytes w64 c.paid_value
    ++ to_le_bytes w64 c.odd_value)

-- The body of three sums of numbers.
unfoldable pub second_sums : Carry → List ℕ
second_sums c =
    filled ((10 ∷ to_le_bytes w64 c.posted) ++ to_le_bytes w64 c.lost ++ to_le_bytes w64 c.paid)

-- The body of two more.
unfoldable pub third_sums : Carry → List ℕ
third_sums c = filled ((11 ∷ to_le_bytes w64 c.unpaid) ++ to_le_bytes w64 c.sold)

-- The body of a running epoch.
unfoldable pub epoch_body : CarryEpoch → List ℕ
epoch_body e = filled ((12 ∷ e.addr ∷ to_le_bytes w16 e.mask) ++ e.counter ∷ three_bytes e.accepts)

-- The body of an open order: that of the record that opened it.
unfoldable pub order_body : CarryOrder → List ℕ
order_body o = filled ((5 ∷ o.addr ∷ to_le_bytes w32 o.id) ++ o.count ∷ three_bytes o.life)

-- The bodies of a carry: three of sums, then its epochs, then its orders.
abbrev pub bodies_of : Carry → List (List ℕ)
bodies_of c = first_sums c ∷ second_sums c ∷ third_sums c
    ∷ (map epoch_body c.epochs ++ map order_body c.orders)

-- Bodies spell a carry that may be that of so many records.
pub record SpellsCarry (many : ℕ) (c : Carry) (bodies : List (List ℕ)) : Type 0 where
  pub rightly : IsRightly many c
  pub spelt : bodies_of c ≡ bodies

-- Bodies that spell no carry of so many records.
abbrev pub SpellsNone : ℕ → List (List ℕ) → Type 0
SpellsNone many bodies = (c : Carry) → SpellsCarry many c bodies → ⊥

-- The number of the eight bytes from a place on.
abbrev pub eight_at : List ℕ → ℕ → ℕ
eight_at body at =
    from_le_bytes w64 (slice_index body at ∷ slice_index body (at + 1) ∷ slice_index body (at + 2)
    ∷ slice_index body
    (at + 3) ∷ slice_index body (at + 4) ∷ slice_index body (at + 5) ∷ slice_index body (at + 6)
    ∷ slice_index body
    (at + 7) ∷ [])

-- The epoch whose fields stand in a body.
abbrev pub epoch_read : List ℕ → CarryEpoch
epoch_read body = record {
  addr = slice_index body 1;
  mask = two_at body 2;
  counter = slice_index body 4;
  accepts = three_at body 5;
}

-- The order whose fields stand in a body.
abbrev pub order_read : List ℕ → CarryOrder
order_read body = record {
  id = four_at body 2;
  addr = slice_index body 1;
  count = slice_index body 6;
  life = three_at body 7;
}

-- The epochs of the first bodies, of the kind of an epoch.
abbrev pub epochs_read : List (List ℕ) → List CarryEpoch
epochs_read [] = []
epochs_read (body ∷ bodies) =
    if slice_index body 0 == 12 then epoch_read body ∷ epochs_read bodies else []

-- The orders of those after them.
abbrev pub orders_read : List (List ℕ) → List CarryOrder
orders_read [] = []
orders_read (body ∷ bodies) =
    if slice_index body 0 == 12 then orders_read bodies else map order_read (body ∷ bodies)

-- The carry whose numbers stand in bodies, whether or not they spell one.
unfoldable pub carry_read : List (List ℕ) → Option Carry
carry_read (a ∷ b ∷ c ∷ rest) = Some (record {
  last_id = four_at a 1;
  value = eight_at a 5;
  paid_value = eight_at a 13;
  odd_value = eight_at a 21;
  posted = eight_at b 1;
  lost = eight_at b 9;
  paid = eight_at b 17;
  unpaid = eight_at c 1;
  sold = eight_at c 9;
  epochs = epochs_read rest;
  orders = orders_read rest;
})
carry_read bodies = None
