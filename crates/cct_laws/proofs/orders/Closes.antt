-- A fact of the record that closes an order: it holds of that which says what was paid, where the order has room for all
-- that fell, and of that which says that it is odd.
use Rattle.std.proofs.Common.{◌≡◌, ℕ, ◌-◌, nat_le, cond, Bool, true, false, refl}
use Rattle.cct_model.specs.lines.record.Record.{Record}
use Rattle.cct_model.specs.lines.record.Record.TheVariants as record_of
use Rattle.cct_model.specs.declared.judging.OpenOrder.{OpenOrder}
use Rattle.cct_model.specs.Order.{close, life_between}

by_room : (P : Record → Type 0) (closed odd : Record) (fits : Bool) → (fits ≡ true → P closed) → (fits ≡ false → P odd) →
    P (cond fits closed odd)
by_room P closed odd true has_room over = has_room refl
by_room P closed odd false has_room over = over refl

pub closes_so : (P : Record → Type 0) (o : OpenOrder) (life : ℕ) →
    (nat_le (life_between o.life life) o.count ≡ true →
    P (record_of.Closed o.id (life_between o.life life) (o.count - life_between o.life life))) →
    (nat_le (life_between o.life life) o.count ≡ false → P (record_of.Odd o.id o.life life)) → P (close o life)
unfolding close
closes_so P o life = by_room P _ _ (nat_le (life_between o.life life) o.count)
