-- What is at the places of the fields of bodies is the carry that they spell.
use Rattle.std.proofs.Common.{◌≡◌, ℕ, ◌*◌, ◌^◌, ◌<◌, ◌≤◌, List, [], ◌∷◌, ◌++◌, length, map, refl, sym, ◌∙◌, ap, subst, Some, arith}
use Rattle.std.specs.Prelude.{All}
use Rattle.std.proofs.lemmas.List.Elements.{All-head, All-tail}
use Rattle.std.proofs.lemmas.Nat.{from_le_bytes-to_le_bytes_2, from_le_bytes-to_le_bytes_4, from_le_bytes-to_le_bytes_8}
use Rattle.cct_model_lines.specs.Carried.{EpochFits, IsRightly, OrderFits}
use Rattle.cct_model_lines.specs.terms.device.TheConstants.{DEVICES}
use Rattle.cct_model_lines.specs.declared.carry.Carry.{Carry}
use Rattle.cct_model_lines.specs.declared.carry.CarryEpoch.{CarryEpoch}
use Rattle.cct_model_lines.specs.declared.carry.CarryOrder.{CarryOrder}
use Rattle.cct_model_lines.proofs.Requests.{three_back}
use Rattle.cct_record.specs.CarryBody.{SpellsCarry, SpellsNone, bodies_of, carry_read, epoch_body, epoch_read, epochs_read}
use Rattle.cct_record.specs.CarryBody.{first_sums, order_body, order_read, orders_read, second_sums, third_sums}

-- A sum of at most 2 ^ 32 for each of some records fits eight bytes.
sum_fits : (sum many : ℕ) → many < 2 ^ 32 → sum ≤ 2 ^ 32 * many → sum < 2 ^ 64
sum_fits sum many few small = omega arith

-- An epoch is read back.
epoch_back : (e : CarryEpoch) → EpochFits e → epoch_read (epoch_body e) ≡ e
unfolding epoch_body
epoch_back e fits =
    λ i. let x : CarryEpoch = record {
      addr = e.addr;
      mask = from_le_bytes-to_le_bytes_2 e.mask fits.mask i;
      counter = e.counter;
      accepts = three_back e.accepts fits.accepts i;
    } in x

-- An order is read back.
order_back : (o : CarryOrder) → OrderFits o → order_read (order_body o) ≡ o
unfolding order_body
order_back o fits =
    λ i. record {
      id = from_le_bytes-to_le_bytes_4 o.id fits.id i;
      addr = o.addr;
      count = o.count;
      life = three_back o.life fits.life i;
    }

-- Orders alone are no epochs.
no_epochs : (os : List CarryOrder) → epochs_read (map order_body os) ≡ []
unfolding order_body
no_epochs [] = refl
no_epochs (o ∷ os) = refl

-- The first epoch is read, and then those after it.
epoch_next : (e : CarryEpoch) (es : List CarryEpoch) (os : List CarryOrder) → EpochFits e
    → epochs_read (map epoch_body es ++ map order_body os) ≡ es
    → epochs_read (map epoch_body (e ∷ es) ++ map order_body os) ≡ e ∷ es
unfolding epoch_body
epoch_next e es os fits rest = λ i. epoch_back e fits i ∷ rest i

-- The epochs are read back.
epochs_back : (es : List CarryEpoch) (os : List CarryOrder) → All EpochFits es
    → epochs_read (map epoch_body es ++ map order_body os) ≡ es
epochs_back [] os fit = no_epochs os
epochs_back (e ∷ es) os fit =
    epoch_next e es os (All-head EpochFits e es fit) (epochs_back es os (All-tail EpochFits e es fit))

-- Orders alone are read back one by one.
each_order : (os : List CarryOrder) → All OrderFits os → map order_read (map order_body os) ≡ os
each_order [] fit = refl
each_order (o ∷ os) fit =
    λ i. order_back o (All-head OrderFits o os fit) i ∷ each_order os (All-tail OrderFits o os fit) i

-- They are read as orders where no epochs stand before them.
first_orders : (os : List CarryOrder) → orders_read (map order_body os) ≡ map order_read (map order_body os)
unfolding order_body
first_orders [] = refl
first_orders (o ∷ os) = refl

-- An epoch is no order.
order_next : (e : CarryEpoch) (es : List CarryEpoch) (os : List CarryOrder)
    → orders_read (map epoch_body es ++ map order_body os) ≡ os
    → orders_read (map epoch_body (e ∷ es) ++ map order_body os) ≡ os
unfolding epoch_body
order_next e es os rest = rest

-- The orders are read back.
orders_back : (es : List CarryEpoch) (os : List CarryOrder) → All OrderFits os
    → orders_read (map epoch_body es ++ map order_body os) ≡ os
orders_back [] os fit = first_orders os ∙ each_order os fit
orders_back (e ∷ es) os fit = order_next e es os (orders_back es os fit)

-- Each carry is read back from its bodies.
pub carry_back : (many : ℕ) (c : Carry) → many < 2 ^ 32 → IsRightly many c → carry_read (bodies_of c) ≡ Some c
unfolding carry_read first_sums second_sums third_sums
carry_back many c few rightly =
    let fits : (sum : ℕ) → sum ≤ 2 ^ 32 * many → sum < 2 ^ 64 = λ sum small. sum_fits sum many few small in
    λ i. Some (record {
      last_id = from_le_bytes-to_le_bytes_4 c.last_id rightly.last i;
      value = from_le_bytes-to_le_bytes_8 c.value (fits _ rightly.small.value) i;
      paid_value = from_le_bytes-to_le_bytes_8 c.paid_value (fits _ rightly.small.paid_value) i;
      odd_value = from_le_bytes-to_le_bytes_8 c.odd_value (fits _ rightly.small.odd_value) i;
      posted = from_le_bytes-to_le_bytes_8 c.posted (fits _ rightly.small.posted) i;
      lost = from_le_bytes-to_le_bytes_8 c.lost (fits _ rightly.small.lost) i;
      paid = from_le_bytes-to_le_bytes_8 c.paid (fits _ rightly.small.paid) i;
      unpaid = from_le_bytes-to_le_bytes_8 c.unpaid (fits _ rightly.small.unpaid) i;
      sold = from_le_bytes-to_le_bytes_8 c.sold (fits _ rightly.small.sold) i;
      epochs = epochs_back c.epochs c.orders rightly.epochs_fit i;
      orders = orders_back c.epochs c.orders rightly.orders_fit i;
    })

-- No two carries have the same bodies.
pub one_carry : (x y : Carry) (many more : ℕ) → many < 2 ^ 32 → more < 2 ^ 32 → IsRightly many x → IsRightly more y
    → bodies_of x ≡ bodies_of y → x ≡ y
one_carry x y many more few_x few_y rightly_x rightly_y same =
    let first = carry_back many x few_x rightly_x in
    let second = carry_back more y few_y rightly_y in
    let both : carry_read (bodies_of x) ≡ carry_read (bodies_of y) = ap carry_read same in
    cc

-- Bodies in which no carry with so few epochs and orders stands spell none.
pub refused_short : (many : ℕ) (bodies : List (List ℕ)) → many < 2 ^ 32
    → ((c : Carry) → length c.epochs ≤ DEVICES → length c.orders ≤ DEVICES → carry_read bodies ≡ Some c → ⊥)
    → SpellsNone many bodies
refused_short many bodies few none =
    λ c spells. none c spells.rightly.epochs_few spells.rightly.orders_few
    (ap carry_read (sym spells.spelt) ∙ carry_back many c few spells.rightly)

-- Nor do those that don't spell what is in them.
pub refused_carry : (many : ℕ) (bodies : List (List ℕ)) (at : Carry) → many < 2 ^ 32 → carry_read bodies ≡ Some at
    → (SpellsCarry many at bodies → ⊥) → SpellsNone many bodies
refused_carry many bodies at few is not_spelt =
    λ c spells.
    let back = carry_back many c few spells.rightly in
    let found : carry_read (bodies_of c) ≡ Some at = ap carry_read spells.spelt ∙ is in
    let same : c ≡ at = cc in
    not_spelt (subst (λ x. SpellsCarry many x bodies) same spells)
