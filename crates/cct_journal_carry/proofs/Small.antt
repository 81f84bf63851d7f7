-- What is so of the carry of so many records.
use Rattle.std.proofs.Common.{◌≡◌, ℕ, List, [], refl, arith}
use Rattle.std.proofs.lemmas.List.{nil_from_length}
use Rattle.cct_model.specs.lines.carry.Carry.{Carry}
use Rattle.cct_model.specs.lines.carry.CarryEpoch.{CarryEpoch}
use Rattle.cct_model.specs.lines.carry.CarryOrder.{CarryOrder}
use Rattle.cct_model.specs.Carried.{IsRightly, empty_carry}

-- a carry whose parts are those of the empty one
same_empty : (last_id value paid_value odd_value posted lost paid unpaid sold : ℕ) (epochs : List CarryEpoch)
    (orders : List CarryOrder) → last_id ≡ 0 → value ≡ 0 → paid_value ≡ 0 → odd_value ≡ 0 → posted ≡ 0 → lost ≡ 0
    → paid ≡ 0 → unpaid ≡ 0 → sold ≡ 0 → epochs ≡ [] → orders ≡ []
    → record {
      last_id = last_id;
      value = value;
      paid_value = paid_value;
      odd_value = odd_value;
      posted = posted;
      lost = lost;
      paid = paid;
      unpaid = unpaid;
      sold = sold;
      epochs = epochs;
      orders = orders;
    } ≡ empty_carry
same_empty last_id value paid_value odd_value posted lost paid unpaid sold epochs orders a b c d e f g h i j k = cc

-- a carry of no record is the empty one
pub none_empty : (c : Carry) → IsRightly 0 c → c ≡ empty_carry
none_empty c rightly =
    same_empty c.last_id c.value c.paid_value c.odd_value c.posted c.lost c.paid c.unpaid c.sold c.epochs c.orders
    (rightly.none_used refl) (omega (arith, rightly.small.value)) (omega (arith, rightly.small.paid_value))
    (omega (arith, rightly.small.odd_value)) (omega (arith, rightly.small.posted)) (omega (arith, rightly.small.lost))
    (omega (arith, rightly.small.paid)) (omega (arith, rightly.small.unpaid)) (omega (arith, rightly.small.sold))
    (nil_from_length c.epochs (omega (arith, rightly.each))) (nil_from_length c.orders (omega (arith, rightly.each)))
