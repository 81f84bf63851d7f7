-- The bodies of a carry, by hand, today's and those of version 2; what carry so many records may have; and bodies that
-- spell no carry.
use Rattle.std.proofs.Common.{◌≡◌, ℕ, zero, suc, ◌+◌, ◌*◌, ◌^◌, ◌≤◌, ◌<◌, List, [], ◌∷◌, length, map, slice_index, slice_index_or, All, ap, arith, refl}
use Rattle.std.specs.Prelude.{⊤}
use Rattle.std.proofs.lemmas.List.Elements.{All-nil, All-cons}
use Rattle.cct_model_lines.specs.declared.carry.Carry.{Carry}
use Rattle.cct_model_lines.specs.declared.carry.CarryEpoch.{CarryEpoch}
use Rattle.cct_model_lines.specs.declared.carry.CarryOrder.{CarryOrder}
use Rattle.cct_model_lines.specs.declared.record.Record.TheVariants.{Opened}
use Rattle.cct_model_lines.specs.Carried.{AreSmall, EpochFits, IsRightly, OrderFits, Rise, addr_of_epoch, addr_of_order, empty_carry}
use Rattle.cct_record.specs.Body.{IsRefused, body_of, fields_of}
use Rattle.cct_record.specs.Fields.{record_at}
use Rattle.cct_record.specs.CarryBody.{SpellsCarry, SpellsNone, bodies_of, carry_read, epoch_body, first_sums, order_body, second_sums, third_sums}
use Rattle.cct_record.specs.OldCarryBody.{old_bodies_of, old_epoch_body}
use Rattle.cct_record.proofs.CarryBack.{refused_carry}
use Rattle.cct_record.proofs.Spellings.{refused_unknown}
use Rattle.cct_test_vectors.proofs.Bodies.{body}

-- sums of values and of numbers, an epoch at 2 with mask 0x0010, event counter 3 and this accept counter, and an order
-- 258 of 4 coins at 3, before which the hopper's life count was 16,777,214
abbrev worked : ℕ → Carry
worked accepts = record {
  last_id = 259;
  value = 1000;
  paid_value = 300;
  odd_value = 65538;
  posted = 7;
  lost = 513;
  paid = 3;
  unpaid = 256;
  sold = 4294967301;
  epochs = record { addr = 2; mask = 16; counter = 3; accepts = accepts } ∷ [];
  orders = record { id = 258; addr = 3; count = 4; life = 16777214 } ∷ [];
}

abbrev first : List ℕ
first = body "0903010000e8030000000000002c01000000000000020001"

abbrev second : List ℕ
second = body "0a0700000000000000010200000000000003"

abbrev third : List ℕ
third = body "0b00010000000000000500000001"

abbrev epoch : List ℕ
epoch = body "0c02100003040506"

abbrev order : List ℕ
order = body "05030201000004feffff"

carried : bodies_of (worked 394500) ≡ first ∷ second ∷ third ∷ epoch ∷ order ∷ []
unfolding first_sums second_sums third_sums epoch_body order_body
carried = refl

-- in version 2 an epoch had no accept counter
carried_before : old_bodies_of (worked 0) ≡ first ∷ second ∷ third ∷ body "0c02100003" ∷ order ∷ []
unfolding first_sums second_sums third_sums old_epoch_body order_body
carried_before = refl

-- only the body of an order spells a record, the one that opened it
first_is_no_record : IsRefused first
unfolding record_at
first_is_no_record = refused_unknown _ refl

second_is_no_record : IsRefused second
unfolding record_at
second_is_no_record = refused_unknown _ refl

third_is_no_record : IsRefused third
unfolding record_at
third_is_no_record = refused_unknown _ refl

epoch_is_no_record : IsRefused epoch
unfolding record_at
epoch_is_no_record = refused_unknown _ refl

order_is_a_record : body_of (Opened 258 3 4 16777214) ≡ order
unfolding body_of fields_of
order_is_a_record = refl

-- the kind of a body, of those after some
abbrev kind_at : ℕ → List (List ℕ) → ℕ
kind_at place bodies = slice_index (slice_index_or bodies place []) 0

-- a carry has its three bodies of sums, in their order, and after them no other one
no_body : SpellsNone 4 []
no_body = λ c (spells : SpellsCarry 4 c []). let many : suc _ ≡ 0 = ap length spells.spelt in omega (arith, many)

two_bodies : SpellsNone 4 (first ∷ second ∷ [])
two_bodies =
    λ c (spells : SpellsCarry 4 c _). let many : suc (suc (suc _)) ≡ 2 = ap length spells.spelt in omega (arith, many)

out_of_order : SpellsNone 4 (second ∷ first ∷ third ∷ [])
unfolding first_sums
out_of_order =
    λ c (spells : SpellsCarry 4 c _). let kinds : 9 ≡ 10 = ap (kind_at 0) spells.spelt in omega (arith, kinds)

third_twice : SpellsNone 4 (first ∷ second ∷ third ∷ third ∷ [])
unfolding carry_read order_body
third_twice =
    refused_carry 4 _ _ (omega arith) refl
    (λ (spells : SpellsCarry 4 _ _). let kinds : 5 ≡ 11 = ap (kind_at 3) spells.spelt in omega (arith, kinds))

-- no epoch is after an order
epoch_after_order : SpellsNone 4 (first ∷ second ∷ third ∷ order ∷ epoch ∷ [])
unfolding carry_read order_body
epoch_after_order =
    refused_carry 4 _ _ (omega arith) refl
    (λ (spells : SpellsCarry 4 _ _). let kinds : 5 ≡ 12 = ap (kind_at 4) spells.spelt in omega (arith, kinds))

-- a sum is at most 2 ^ 32 for each record
abbrev sums : ℕ → Carry
sums sum = record {
  last_id = 0;
  value = sum;
  paid_value = sum;
  odd_value = sum;
  posted = sum;
  lost = sum;
  paid = sum;
  unpaid = sum;
  sold = sum;
  epochs = [];
  orders = [];
}

small_enough : AreSmall 4 (sums 17179869184)
small_enough = record {
  value = omega arith;
  paid_value = omega arith;
  odd_value = omega arith;
  posted = omega arith;
  lost = omega arith;
  paid = omega arith;
  unpaid = omega arith;
  sold = omega arith;
}

too_great : AreSmall 4 (sums 17179869185) → ⊥ × ⊥ × ⊥ × ⊥ × ⊥ × ⊥ × ⊥ × ⊥
too_great small = (
  over small.value,
  over small.paid_value,
  over small.odd_value,
  over small.posted,
  over small.lost,
  over small.paid,
  over small.unpaid,
  over small.sold,
)
  where
    over : 17179869185 ≤ 2 ^ 32 * 4 → ⊥
    over few = omega (arith, few)

-- a carry of epochs and orders at these addresses alone
abbrev epoch_at : ℕ → CarryEpoch
epoch_at addr = record { addr = addr; mask = 1; counter = 0; accepts = 0 }

abbrev order_at : ℕ → CarryOrder
order_at addr = record { id = 1; addr = addr; count = 1; life = 0 }

abbrev entries : List ℕ → List ℕ → Carry
entries epochs orders = record {
  last_id = 0;
  value = 0;
  paid_value = 0;
  odd_value = 0;
  posted = 0;
  lost = 0;
  paid = 0;
  unpaid = 0;
  sold = 0;
  epochs = map epoch_at epochs;
  orders = map order_at orders;
}

abbrev AreBytes : List ℕ → Type 0
AreBytes [] = ⊤
AreBytes (addr ∷ addrs) = (addr < 256) × AreBytes addrs

epochs_fit : (addrs : List ℕ) → AreBytes addrs → All EpochFits (map epoch_at addrs)
epochs_fit [] are = All-nil _
epochs_fit (addr ∷ addrs) are =
    let fits : EpochFits (epoch_at addr) = record { addr = are.0; mask = omega arith; counter = omega arith; accepts = omega arith } in
    All-cons EpochFits _ _ fits (epochs_fit addrs are.1)

orders_fit : (addrs : List ℕ) → AreBytes addrs → All OrderFits (map order_at addrs)
orders_fit [] are = All-nil _
orders_fit (addr ∷ addrs) are =
    let fits : OrderFits (order_at addr) = record { id = omega arith; addr = are.0; count = omega arith; life = omega arith } in
    All-cons OrderFits _ _ fits (orders_fit addrs are.1)

-- such a carry of so many records
rightly : (many : ℕ) (epochs orders : List ℕ) → AreBytes epochs → AreBytes orders
    → Rise (map addr_of_epoch (map epoch_at epochs)) → Rise (map addr_of_order (map order_at orders))
    → length (map epoch_at epochs) + length (map order_at orders) ≤ 32
    → length (map epoch_at epochs) + length (map order_at orders) ≤ many → IsRightly many (entries epochs orders)
rightly many epochs orders epoch_bytes order_bytes epochs_rise orders_rise few each = record {
  epochs_rise = epochs_rise;
  orders_rise = orders_rise;
  epochs_fit = epochs_fit epochs epoch_bytes;
  orders_fit = orders_fit orders order_bytes;
  epochs_few = omega (arith, few);
  orders_few = omega (arith, few);
  few = few;
  each = each;
  small = record {
    value = omega arith;
    paid_value = omega arith;
    odd_value = omega arith;
    posted = omega arith;
    lost = omega arith;
    paid = omega arith;
    unpaid = omega arith;
    sold = omega arith;
  };
  last = omega arith;
  none_used = λ none. refl;
}

-- addresses rise strictly, each kind's in its own order
two_epochs : IsRightly 2 (entries (2 ∷ 3 ∷ []) [])
two_epochs =
    rightly 2 (2 ∷ 3 ∷ []) [] (omega arith, (omega arith, tt)) tt (omega arith, (tt, tt)) tt (omega arith) (omega arith)

two_orders : IsRightly 2 (entries [] (2 ∷ 255 ∷ []))
two_orders =
    rightly 2 [] (2 ∷ 255 ∷ []) tt (omega arith, (omega arith, tt)) tt (omega arith, (tt, tt)) (omega arith) (omega arith)

one_of_each : IsRightly 2 (entries (9 ∷ []) (3 ∷ []))
one_of_each =
    rightly 2 (9 ∷ []) (3 ∷ []) (omega arith, tt) (omega arith, tt) (tt, tt) (tt, tt) (omega arith) (omega arith)

same_epochs : IsRightly 2 (entries (2 ∷ 2 ∷ []) []) → ⊥
same_epochs is = let rise : 2 < 2 = is.epochs_rise.0 in omega (arith, rise)

falling_epochs : IsRightly 2 (entries (3 ∷ 2 ∷ []) []) → ⊥
falling_epochs is = let rise : 3 < 2 = is.epochs_rise.0 in omega (arith, rise)

same_orders : IsRightly 2 (entries [] (7 ∷ 7 ∷ [])) → ⊥
same_orders is = let rise : 7 < 7 = is.orders_rise.0 in omega (arith, rise)

falling_orders : IsRightly 2 (entries [] (8 ∷ 7 ∷ [])) → ⊥
falling_orders is = let rise : 8 < 7 = is.orders_rise.0 in omega (arith, rise)

-- each entry is of a record of its own
one_of_one : IsRightly 1 (entries (2 ∷ []) [])
one_of_one = rightly 1 (2 ∷ []) [] (omega arith, tt) tt (tt, tt) tt (omega arith) (omega arith)

one_of_none : IsRightly 0 (entries (2 ∷ []) []) → ⊥
one_of_none is = let each : 1 ≤ 0 = is.each in omega (arith, each)

two_of_one : IsRightly 1 (entries (2 ∷ []) (3 ∷ [])) → ⊥
two_of_one is = let each : 2 ≤ 1 = is.each in omega (arith, each)

-- no more entries than devices: so many addresses, one after the other
abbrev rising : ℕ → ℕ → List ℕ
rising from zero = []
rising from (suc count) = from ∷ rising (suc from) count

epochs_rising : (from count : ℕ) → Rise (map addr_of_epoch (map epoch_at (rising from count)))
epochs_rising from zero = tt
epochs_rising from (suc zero) = (tt, tt)
epochs_rising from (suc (suc count)) = (omega arith, epochs_rising (suc from) (suc count))

orders_rising : (from count : ℕ) → Rise (map addr_of_order (map order_at (rising from count)))
orders_rising from zero = tt
orders_rising from (suc zero) = (tt, tt)
orders_rising from (suc (suc count)) = (omega arith, orders_rising (suc from) (suc count))

are_bytes : (from count : ℕ) → from + count ≤ 256 → AreBytes (rising from count)
are_bytes from zero few = tt
are_bytes from (suc count) few = (omega (arith, few), are_bytes (suc from) count (omega (arith, few)))

abbrev many_of : ℕ → ℕ → Carry
many_of epochs orders = entries (rising 2 epochs) (rising 2 orders)

many_rightly : (epochs orders : ℕ)
    → length (map epoch_at (rising 2 epochs)) + length (map order_at (rising 2 orders)) ≤ 32 → epochs ≤ 32 → orders ≤ 32
    → IsRightly 1000 (many_of epochs orders)
many_rightly epochs orders few few_epochs few_orders =
    rightly 1000 (rising 2 epochs) (rising 2 orders)
    (are_bytes 2 epochs (omega (arith, few_epochs)))
    (are_bytes 2 orders (omega (arith, few_orders)))
    (epochs_rising 2 epochs) (orders_rising 2 orders) few
    (omega (arith, few))

as_many_of_both : IsRightly 1000 (many_of 16 16)
as_many_of_both = let few : 32 ≤ 32 = omega arith in many_rightly 16 16 few (omega arith) (omega arith)

as_many_epochs : IsRightly 1000 (many_of 32 0)
as_many_epochs = let few : 32 ≤ 32 = omega arith in many_rightly 32 0 few (omega arith) (omega arith)

as_many_orders : IsRightly 1000 (many_of 0 32)
as_many_orders = let few : 32 ≤ 32 = omega arith in many_rightly 0 32 few (omega arith) (omega arith)

more_of_both : IsRightly 1000 (many_of 17 16) → ⊥
more_of_both is = let few : 33 ≤ 32 = is.few in omega (arith, few)

more_epochs : IsRightly 1000 (many_of 33 0) → ⊥
more_epochs is = let few : 33 ≤ 32 = is.few in omega (arith, few)

more_orders : IsRightly 1000 (many_of 0 33) → ⊥
more_orders is = let few : 33 ≤ 32 = is.few in omega (arith, few)

-- no record leaves the empty carry
nothing_carried : bodies_of empty_carry ≡ body "09" ∷ body "0a" ∷ body "0b" ∷ []
unfolding first_sums second_sums third_sums
nothing_carried = refl

none_carried : IsRightly 0 empty_carry
none_carried = rightly 0 [] [] tt tt tt tt (omega arith) (omega arith)

none_sold : IsRightly 0 (sums 1) → ⊥
none_sold is = let small : 1 ≤ 0 = is.small.sold in omega (arith, small)

none_used : IsRightly 0 (worked 0) → ⊥
none_used is = let last : 259 ≡ 0 = is.none_used refl in omega (arith, last)
