-- What a record does to the books: whose it is, what becomes of the epoch and of the open order
-- there, the coins that it posts and reports as lost, and what it sells.
use Rattle.std.specs.Prelude.{ℕ, List, [], Option, Some, None}
use Rattle.cct_model_lines.specs.terms.coin.Coin.{Coin}
use Rattle.cct_model_lines.specs.terms.wire.TheConstants.{HOST}
use Rattle.cct_model_lines.specs.declared.record.Record.{Record}
use Rattle.cct_model_lines.specs.declared.record.Record.TheVariants as record_of

-- Whose a record is: that of an address, or that of an order with this id.
pub data Owner : Type 0 where
  of_address : (addr : ℕ) → Owner
  of_order : (id : ℕ) → Owner

-- What becomes of an epoch: it is kept, it begins, its counters move, or it ends.
pub data EpochMove : Type 0 where
  kept : EpochMove
  begun : (mask : ℕ) (accepts : ℕ) → EpochMove
  moved : (counter : ℕ) (accepts : ℕ) → EpochMove
  ended : EpochMove

-- What becomes of an order: none is opened or closed, one is opened, one is closed with so many
-- coins paid and so many not, or one is closed with counts of life that don't fit.
pub data OrderMove : Type 0 where
  none_moved : OrderMove
  newly_opened : (id : ℕ) (addr : ℕ) (count : ℕ) (life : ℕ) → OrderMove
  fitly_closed : (id : ℕ) (paid : ℕ) (unpaid : ℕ) → OrderMove
  oddly_closed : (id : ℕ) → OrderMove

-- A sale.
pub record Sale : Type 0 where
  pub id : ℕ
  pub price : ℕ

-- What a record does. It moves an epoch or an order, or it is a sale; no record does two of these.
pub record Effect : Type 0 where
  pub owned : Owner
  pub epoch : EpochMove
  pub posts : List Coin
  pub lost : ℕ
  pub order : OrderMove
  pub sale : Option Sale

-- A record that moves the epoch at an address, posts these coins and shows so many to be lost.
abbrev pub at_epoch : ℕ → EpochMove → List Coin → ℕ → Effect
at_epoch addr move posts lost =
    record {
      owned = of_address addr;
      epoch = move;
      posts = posts;
      lost = lost;
      order = none_moved;
      sale = None;
    }

-- A record that opens or closes an order.
abbrev pub at_order : Owner → OrderMove → Effect
at_order owner move =
    record { owned = owner; epoch = kept; posts = []; lost = 0; order = move; sale = None }

-- A record that sells something, at the host's address.
abbrev pub at_sale : ℕ → ℕ → Effect
at_sale id price = record {
  owned = of_address HOST;
  epoch = kept;
  posts = [];
  lost = 0;
  order = none_moved;
  sale = Some (record { id = id; price = price });
}

-- The table of the records.
abbrev pub effect : Record → Effect
effect (record_of.Epoch addr mask accepts) = at_epoch addr (begun mask accepts) [] 0
effect (record_of.Reading addr counter lost accepts posted) =
    at_epoch addr (moved counter accepts) posted lost
effect (record_of.Broken addr seen counter lost accepts posted) = at_epoch addr ended posted lost
effect (record_of.EpochEnd addr) = at_epoch addr ended [] 0
effect (record_of.Opened id addr count life) =
    at_order (of_address addr) (newly_opened id addr count life)
effect (record_of.Closed id paid unpaid) = at_order (of_order id) (fitly_closed id paid unpaid)
effect (record_of.Odd id life_before life_after) = at_order (of_order id) (oddly_closed id)
effect (record_of.Sold id price) = at_sale id price

-- The address of an owner, with the addresses of orders by their ids.
abbrev pub address_by : (ℕ → ℕ) → Owner → ℕ
address_by of_id (of_address addr) = addr
address_by of_id (of_order id) = of_id id

-- The id that a record uses, of an order that it opens or of a sale; none of any other.
abbrev pub id_used : Record → Option ℕ
id_used r = used (effect r).order (effect r).sale
  where
    used : OrderMove → Option Sale → Option ℕ
    used (newly_opened id addr count life) sale = Some id
    used move (Some s) = Some s.id
    used move None = None
