-- Old bodies of a carry and those of today.
use Rattle.std.proofs.Common.{◌≡◌, ℕ, ◌^◌, ◌<◌, ◌≤◌, List, [], ◌∷◌, ◌++◌, length, map, replicate, refl, sym, ◌∙◌, ap, subst, arith}
use Rattle.std.specs.Prelude.{All}
use Rattle.std.specs.Int.{w16, to_le_bytes}
use Rattle.std.proofs.Common.{length-append}
use Rattle.std.proofs.lemmas.List.{length-map}
use Rattle.std.proofs.lemmas.List.Elements.{All-cons, All-head, All-map, All-tail, All-weaker}
use Rattle.cct_model_lines.specs.Carried.{EpochFits, IsRightly}
use Rattle.cct_model_lines.specs.Request.{three_bytes}
use Rattle.cct_model_lines.specs.declared.carry.Carry.{Carry}
use Rattle.cct_model_lines.specs.declared.carry.CarryEpoch.{CarryEpoch}
use Rattle.cct_model_lines.specs.declared.carry.CarryOrder.{CarryOrder}
use Rattle.cct_record.specs.CarryBody.{SpellsCarry, SpellsNone, bodies_of, epoch_body, first_sums, order_body}
use Rattle.cct_record.specs.CarryBody.{second_sums, third_sums}
use Rattle.cct_record.specs.OldCarryBody.{IsOldEpoch, OldSpellsCarry, OldSpellsNone, old_bodies_of, old_epoch_body}
use Rattle.cct_record.specs.Today.{HasRoom, today}
use Rattle.cct_record.proofs.CarryBack.{one_carry}
use Rattle.cct_record.proofs.OldBack.{IsToday, zero_back}
use Rattle.cct_record.proofs.Widened.{IsUnused, narrowed, narrowed_today, unused_today}

-- A body has 31 bytes.
abbrev pub IsLong : List ℕ → Type 0
IsLong body = length body ≡ 31

-- Bodies of today without what the old ones hadn't.

epoch_narrowed : (e : CarryEpoch) → narrowed (epoch_body e) ≡ old_epoch_body e
unfolding epoch_body old_epoch_body
epoch_narrowed e = refl

order_narrowed : (o : CarryOrder) → narrowed (order_body o) ≡ order_body o
unfolding order_body
order_narrowed o = refl

entries_narrowed : (es : List CarryEpoch) (os : List CarryOrder)
    → map narrowed (map epoch_body es ++ map order_body os) ≡ map old_epoch_body es ++ map order_body os
entries_narrowed [] [] = refl
entries_narrowed [] (o ∷ os) = λ i. order_narrowed o i ∷ entries_narrowed [] os i
entries_narrowed (e ∷ es) os = λ i. epoch_narrowed e i ∷ entries_narrowed es os i

first_narrowed : (c : Carry) → narrowed (first_sums c) ≡ first_sums c
unfolding first_sums
first_narrowed c = refl

second_narrowed : (c : Carry) → narrowed (second_sums c) ≡ second_sums c
unfolding second_sums
second_narrowed c = refl

third_narrowed : (c : Carry) → narrowed (third_sums c) ≡ third_sums c
unfolding third_sums
third_narrowed c = refl

carry_narrowed : (c : Carry) → map narrowed (bodies_of c) ≡ old_bodies_of c
carry_narrowed c =
    λ i. first_narrowed c i ∷ second_narrowed c i ∷ third_narrowed c i ∷ entries_narrowed c.epochs c.orders i

-- Old bodies that were made today's are found again.
all_narrowed : (bodies : List (List ℕ)) → All IsLong bodies → All HasRoom bodies
    → map narrowed (map today bodies) ≡ bodies
all_narrowed [] long room = refl
all_narrowed (b ∷ bs) long room =
    λ i. narrowed_today b (All-head IsLong b bs long) (All-head HasRoom b bs room) i
    ∷ all_narrowed bs (All-tail IsLong b bs long) (All-tail HasRoom b bs room) i

epoch_old : (e : CarryEpoch) → EpochFits e → IsUnused (epoch_body e) → IsOldEpoch e
unfolding epoch_body
epoch_old e fits unused = zero_back e.accepts fits.accepts unused

epochs_old : (es : List CarryEpoch) (os : List CarryOrder) → All EpochFits es
    → All IsUnused (map epoch_body es ++ map order_body os) → All IsOldEpoch es
epochs_old [] os fit unused = λ i d within. absurd (omega (arith, within))
epochs_old (e ∷ es) os fit unused =
    let rest = map epoch_body es ++ map order_body os in
    All-cons IsOldEpoch e es
    (epoch_old e (All-head EpochFits e es fit) (All-head IsUnused (epoch_body e) rest unused))
    (epochs_old es os (All-tail EpochFits e es fit) (All-tail IsUnused (epoch_body e) rest unused))

entries_unused : (c : Carry) → All IsUnused (bodies_of c)
    → All IsUnused (map epoch_body c.epochs ++ map order_body c.orders)
entries_unused c unused =
    let entries = map epoch_body c.epochs ++ map order_body c.orders in
    All-tail IsUnused (third_sums c) entries
    (All-tail IsUnused (second_sums c) (third_sums c ∷ entries)
    (All-tail IsUnused (first_sums c) (second_sums c ∷ third_sums c ∷ entries) unused))

-- The carry of today's bodies is that of the old ones.
pub old_spells_carry : (bodies : List (List ℕ)) → All IsLong bodies → All HasRoom bodies → (many : ℕ) (c : Carry)
    → SpellsCarry many c (map today bodies) → OldSpellsCarry many c bodies
old_spells_carry bodies long room many c spells =
    let empty : All IsUnused (map today bodies) =
    All-map IsUnused today bodies (All-weaker IsLong (λ b. IsUnused (today b)) unused_today bodies long) in
    let unused = subst (λ xs. All IsUnused xs) (sym spells.spelt) empty in
    record {
      rightly = spells.rightly;
      are_old = epochs_old c.epochs c.orders spells.rightly.epochs_fit (entries_unused c unused);
      spelt = sym (carry_narrowed c) ∙ ap (map narrowed) spells.spelt ∙ all_narrowed bodies long room;
    }

-- Old bodies have room, and become those of today.
record AreToday (old new : List (List ℕ)) : Type 0 where
  room : All HasRoom old
  same : map today old ≡ new

none_today : AreToday [] []
none_today = record { room = λ i d within. absurd (omega (arith, within)); same = refl }

more_today : (b x : List ℕ) (bs xs : List (List ℕ)) → IsToday b x → AreToday bs xs → AreToday (b ∷ bs) (x ∷ xs)
more_today b x bs xs first rest = record {
  room = All-cons HasRoom b bs first.room rest.room;
  same = λ i. first.same i ∷ rest.same i;
}

epoch_today : (e : CarryEpoch) → IsOldEpoch e → IsToday (old_epoch_body e) (epoch_body e)
unfolding epoch_body old_epoch_body
epoch_today e old = record {
  room = refl;
  same = ap (λ (n : ℕ). (12 ∷ e.addr ∷ to_le_bytes w16 e.mask) ++ e.counter ∷ (three_bytes n ++ replicate 23 0)) (sym old);
}

order_today : (o : CarryOrder) → IsToday (order_body o) (order_body o)
unfolding order_body
order_today o = record { room = refl; same = refl }

first_today : (c : Carry) → IsToday (first_sums c) (first_sums c)
unfolding first_sums
first_today c = record { room = refl; same = refl }

second_today : (c : Carry) → IsToday (second_sums c) (second_sums c)
unfolding second_sums
second_today c = record { room = refl; same = refl }

third_today : (c : Carry) → IsToday (third_sums c) (third_sums c)
unfolding third_sums
third_today c = record { room = refl; same = refl }

entries_today : (es : List CarryEpoch) (os : List CarryOrder) → All IsOldEpoch es
    → AreToday (map old_epoch_body es ++ map order_body os) (map epoch_body es ++ map order_body os)
entries_today [] [] old = none_today
entries_today [] (o ∷ os) old =
    more_today (order_body o) (order_body o) (map order_body os) (map order_body os) (order_today o)
    (entries_today [] os old)
entries_today (e ∷ es) os old =
    more_today (old_epoch_body e) (epoch_body e) (map old_epoch_body es ++ map order_body os)
    (map epoch_body es ++ map order_body os) (epoch_today e (All-head IsOldEpoch e es old))
    (entries_today es os (All-tail IsOldEpoch e es old))

carry_today : (c : Carry) → All IsOldEpoch c.epochs → AreToday (old_bodies_of c) (bodies_of c)
carry_today c old =
    let olds = map old_epoch_body c.epochs ++ map order_body c.orders in
    let news = map epoch_body c.epochs ++ map order_body c.orders in
    more_today (first_sums c) (first_sums c) (second_sums c ∷ third_sums c ∷ olds) (second_sums c ∷ third_sums c ∷ news)
    (first_today c)
    (more_today (second_sums c) (second_sums c) (third_sums c ∷ olds) (third_sums c ∷ news) (second_today c)
    (more_today (third_sums c) (third_sums c) olds news (third_today c) (entries_today c.epochs c.orders old)))

-- What old bodies spell becomes what they spell as those of today.
all_today : (many : ℕ) (c : Carry) (bodies : List (List ℕ)) → OldSpellsCarry many c bodies
    → AreToday bodies (bodies_of c)
all_today many c bodies spells = subst (λ xs. AreToday xs (bodies_of c)) spells.spelt (carry_today c spells.are_old)

-- No two carries have the same old bodies.
pub one_old_carry : (x y : Carry) (many more : ℕ) (bodies : List (List ℕ)) → many < 2 ^ 32 → more < 2 ^ 32
    → OldSpellsCarry many x bodies → OldSpellsCarry more y bodies → x ≡ y
one_old_carry x y many more bodies few_x few_y spells_x spells_y =
    one_carry x y many more few_x few_y spells_x.rightly spells_y.rightly
    (sym (all_today many x bodies spells_x).same ∙ (all_today more y bodies spells_y).same)

-- The old bodies of a carry have 31 bytes each.

epoch_long : (e : CarryEpoch) → IsLong (old_epoch_body e)
unfolding old_epoch_body
epoch_long e = refl

order_long : (o : CarryOrder) → IsLong (order_body o)
unfolding order_body
order_long o = refl

first_long : (c : Carry) → IsLong (first_sums c)
unfolding first_sums
first_long c = refl

second_long : (c : Carry) → IsLong (second_sums c)
unfolding second_sums
second_long c = refl

third_long : (c : Carry) → IsLong (third_sums c)
unfolding third_sums
third_long c = refl

entries_long : (es : List CarryEpoch) (os : List CarryOrder)
    → All IsLong (map old_epoch_body es ++ map order_body os)
entries_long [] [] = λ i d within. absurd (omega (arith, within))
entries_long [] (o ∷ os) = All-cons IsLong (order_body o) (map order_body os) (order_long o) (entries_long [] os)
entries_long (e ∷ es) os =
    All-cons IsLong (old_epoch_body e) (map old_epoch_body es ++ map order_body os) (epoch_long e) (entries_long es os)

pub old_bodies_long : (many : ℕ) (c : Carry) (bodies : List (List ℕ)) → OldSpellsCarry many c bodies
    → All IsLong bodies
old_bodies_long many c bodies spells =
    let entries = map old_epoch_body c.epochs ++ map order_body c.orders in
    subst (λ xs. All IsLong xs) spells.spelt
    (All-cons IsLong (first_sums c) (second_sums c ∷ third_sums c ∷ entries) (first_long c)
    (All-cons IsLong (second_sums c) (third_sums c ∷ entries) (second_long c)
    (All-cons IsLong (third_sums c) entries (third_long c) (entries_long c.epochs c.orders))))

-- A carry has at most 35 bodies.
old_few : (many : ℕ) (c : Carry) → IsRightly many c → length (old_bodies_of c) ≤ 35
old_few many c rightly =
    let both = length-append (map old_epoch_body c.epochs) (map order_body c.orders) in
    let epochs = length-map c.epochs old_epoch_body in
    let orders = length-map c.orders order_body in
    omega (arith, both, epochs, orders, rightly.few)

pub old_bodies_few : (many : ℕ) (c : Carry) (bodies : List (List ℕ)) → OldSpellsCarry many c bodies
    → length bodies ≤ 35
old_bodies_few many c bodies spells = subst (λ xs. length xs ≤ 35) spells.spelt (old_few many c spells.rightly)

-- More bodies spell no carry.
pub refused_more : (bodies : List (List ℕ)) → 35 < length bodies → (many : ℕ) → OldSpellsNone many bodies
refused_more bodies more many =
    λ c spells.
    let few = old_bodies_few many c bodies spells in
    omega (arith, few, more)

-- Nor do bodies without room.
pub refused_room : (bodies : List (List ℕ)) → (All HasRoom bodies → ⊥) → (many : ℕ) → OldSpellsNone many bodies
refused_room bodies full many = λ c spells. full (all_today many c bodies spells).room

-- Nor those that spell none as bodies of today.
pub refused_old_carry : (bodies : List (List ℕ)) (many : ℕ) → SpellsNone many (map today bodies)
    → OldSpellsNone many bodies
refused_old_carry bodies many none =
    λ c spells. none c (record {
      rightly = spells.rightly;
      spelt = sym (all_today many c bodies spells).same;
    })
