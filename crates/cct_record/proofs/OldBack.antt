-- An old body and that of today of the same record.
use Rattle.std.proofs.Common.{◌≡◌, ℕ, ◌^◌, ◌<◌, ◌≤◌, ◌/◌, ◌%◌, List, [], ◌∷◌, ◌++◌, length, replicate, slice_index, Option, Some, None, refl, sym, ◌∙◌, ap, subst, arith}
use Rattle.std.specs.Prelude.{IfNone}
use Rattle.cct_model_lines.specs.terms.coin.Coin.{Coin}
use Rattle.cct_model_lines.specs.declared.record.Record.{Record}
use Rattle.cct_model_lines.specs.declared.record.Record.TheVariants.{Epoch, Reading, Broken}
use Rattle.cct_model_lines.specs.Request.{three_bytes}
use Rattle.cct_record.specs.Body.{InRange, IsRefused, Spells, body_of, fields_of}
use Rattle.cct_record.specs.OldBody.{IsOld, IsRefusedOld, OldSpells, old_body_of, old_fields_of}
use Rattle.cct_record.specs.Today.{HasRoom, today}
use Rattle.cct_record.proofs.Spellings.{one_spelling}
use Rattle.cct_record.proofs.Widened.{IsUnused, narrowed, narrowed_today, unused_today}

-- What follows where there is no value.
pub none_then : {X : Type 0} (found : Option X) {P Q : Type 0} → IfNone found P → (P → Q) → IfNone found Q
none_then None none follows = follows none
none_then (Some x) none follows = tt

-- Three bytes 0 are the number 0.
pub zero_back : (n : ℕ) → n < 2 ^ 24 → three_bytes n ≡ 0 ∷ 0 ∷ 0 ∷ [] → n ≡ 0
zero_back n small same =
    let low : n % 256 ≡ 0 = ap (λ l. slice_index l 0) same in
    let middle : n / 256 % 256 ≡ 0 = ap (λ l. slice_index l 1) same in
    let high : n / 65536 % 256 ≡ 0 = ap (λ l. slice_index l 2) same in
    omega (arith, small, low, middle, high)

-- A number whose two high bytes are 0 is its low byte.
low_back : (n : ℕ) → n < 2 ^ 24 → n / 256 % 256 ≡ 0 → n / 65536 % 256 ≡ 0 → n < 256
low_back n small middle high = omega (arith, small, middle, high)

-- Such a number has these bytes.
low_bytes : (n : ℕ) → n < 256 → three_bytes n ≡ n ∷ 0 ∷ 0 ∷ []
low_bytes n small =
    let low : n % 256 ≡ n = omega (arith, small) in
    let middle : n / 256 % 256 ≡ 0 = omega (arith, small) in
    let high : n / 65536 % 256 ≡ 0 = omega (arith, small) in
    λ i. low i ∷ middle i ∷ high i ∷ []

-- Only an old record has today's body with 0 there.
pub old_from : (r : Record) → InRange r → IsUnused (body_of r) → IsOld r
unfolding body_of fields_of
old_from (Epoch addr mask accepts) fits unused = zero_back accepts fits.2 unused
old_from (Reading addr counter lost accepts posted) fits unused =
    let middle : lost / 256 % 256 ≡ 0 = ap (λ l. slice_index l 0) unused in
    let high : lost / 65536 % 256 ≡ 0 = ap (λ l. slice_index l 1) unused in
    let first : accepts % 256 ≡ 0 = ap (λ l. slice_index l 2) unused in
    let second : accepts / 256 % 256 ≡ 0 = ap (λ l. slice_index l 3) unused in
    let third : accepts / 65536 % 256 ≡ 0 = ap (λ l. slice_index l 4) unused in
    (low_back lost fits.2 middle high, zero_back accepts fits.3 (λ i. first i ∷ second i ∷ third i ∷ []))
old_from (Broken addr mask_seen counter lost accepts posted) fits unused =
    let low : lost % 256 ≡ 0 = ap (λ l. slice_index l 0) unused in
    let middle : lost / 256 % 256 ≡ 0 = ap (λ l. slice_index l 1) unused in
    let high : lost / 65536 % 256 ≡ 0 = ap (λ l. slice_index l 2) unused in
    let first : accepts % 256 ≡ 0 = ap (λ l. slice_index l 3) unused in
    let second : accepts / 256 % 256 ≡ 0 = ap (λ l. slice_index l 4) unused in
    let third : accepts / 65536 % 256 ≡ 0 = ap (λ l. slice_index l 5) unused in (
      zero_back lost fits.3 (λ i. low i ∷ middle i ∷ high i ∷ []),
      zero_back accepts fits.4 (λ i. first i ∷ second i ∷ third i ∷ []),
    )
old_from r fits unused = tt

-- The body of today without what the old one hadn't is the old one.

reading_narrowed : (addr counter lost accepts : ℕ) (posted : List Coin) → length posted ≤ 5 → lost < 256
    → narrowed (body_of (Reading addr counter lost accepts posted)) ≡ old_body_of (Reading addr counter lost accepts posted)
unfolding body_of fields_of old_body_of old_fields_of
reading_narrowed addr counter lost accepts [] few small =
    ap (λ (n : ℕ). 2 ∷ addr ∷ counter ∷ n ∷ 0 ∷ replicate 26 0) (omega (arith, small))
reading_narrowed addr counter lost accepts (c1 ∷ []) few small =
    ap (λ (n : ℕ). 2 ∷ addr ∷ counter ∷ n ∷ 1 ∷ c1.place ∷ c1.path ∷ replicate 24 0) (omega (arith, small))
reading_narrowed addr counter lost accepts (c1 ∷ c2 ∷ []) few small =
    ap (λ (n : ℕ). 2 ∷ addr ∷ counter ∷ n ∷ 2 ∷ c1.place ∷ c1.path ∷ c2.place ∷ c2.path ∷ replicate 22 0)
    (omega (arith, small))
reading_narrowed addr counter lost accepts (c1 ∷ c2 ∷ c3 ∷ []) few small =
    ap (λ (n : ℕ). 2 ∷ addr ∷ counter ∷ n ∷ 3 ∷ c1.place ∷ c1.path ∷ c2.place ∷ c2.path ∷ c3.place ∷ c3.path
    ∷ replicate 20 0) (omega (arith, small))
reading_narrowed addr counter lost accepts (c1 ∷ c2 ∷ c3 ∷ c4 ∷ []) few small =
    ap (λ (n : ℕ). 2 ∷ addr ∷ counter ∷ n ∷ 4 ∷ c1.place ∷ c1.path ∷ c2.place ∷ c2.path ∷ c3.place ∷ c3.path
    ∷ c4.place ∷ c4.path ∷ replicate 18 0) (omega (arith, small))
reading_narrowed addr counter lost accepts (c1 ∷ c2 ∷ c3 ∷ c4 ∷ c5 ∷ []) few small =
    ap (λ (n : ℕ). 2 ∷ addr ∷ counter ∷ n ∷ 5 ∷ c1.place ∷ c1.path ∷ c2.place ∷ c2.path ∷ c3.place ∷ c3.path
    ∷ c4.place ∷ c4.path ∷ c5.place ∷ c5.path ∷ replicate 16 0) (omega (arith, small))
reading_narrowed addr counter lost accepts (c1 ∷ c2 ∷ c3 ∷ c4 ∷ c5 ∷ c6 ∷ more) few small = absurd (omega arith)

broken_narrowed : (addr mask_seen counter lost accepts : ℕ) (posted : List Coin) → length posted ≤ 5
    → narrowed (body_of (Broken addr mask_seen counter lost accepts posted))
    ≡ old_body_of (Broken addr mask_seen counter lost accepts posted)
unfolding body_of fields_of old_body_of old_fields_of
broken_narrowed addr mask counter lost accepts [] few = refl
broken_narrowed addr mask counter lost accepts (c1 ∷ []) few = refl
broken_narrowed addr mask counter lost accepts (c1 ∷ c2 ∷ []) few = refl
broken_narrowed addr mask counter lost accepts (c1 ∷ c2 ∷ c3 ∷ []) few = refl
broken_narrowed addr mask counter lost accepts (c1 ∷ c2 ∷ c3 ∷ c4 ∷ []) few = refl
broken_narrowed addr mask counter lost accepts (c1 ∷ c2 ∷ c3 ∷ c4 ∷ c5 ∷ []) few = refl
broken_narrowed addr mask counter lost accepts (c1 ∷ c2 ∷ c3 ∷ c4 ∷ c5 ∷ c6 ∷ more) few = absurd (omega arith)

body_narrowed : (r : Record) → InRange r → IsOld r → narrowed (body_of r) ≡ old_body_of r
unfolding body_of fields_of old_body_of old_fields_of
body_narrowed (Epoch addr mask accepts) fits old = refl
body_narrowed (Reading addr counter lost accepts posted) fits old =
    reading_narrowed addr counter lost accepts posted fits.4.few old.0
body_narrowed (Broken addr mask_seen counter lost accepts posted) fits old =
    broken_narrowed addr mask_seen counter lost accepts posted fits.5.few
body_narrowed r fits old = refl

-- The old body of a record has room for what is put in, and becomes the record's body of today.
pub record IsToday (old new : List ℕ) : Type 0 where
  pub room : HasRoom old
  pub same : today old ≡ new

reading_today : (addr counter lost : ℕ) (posted : List Coin) → length posted ≤ 5 → lost < 256
    → IsToday (old_body_of (Reading addr counter lost 0 posted)) (body_of (Reading addr counter lost 0 posted))
unfolding body_of fields_of old_body_of old_fields_of
reading_today addr counter lost [] few small = record {
  room = refl;
  same = λ i. 2 ∷ addr ∷ counter ∷ (sym (low_bytes lost small) i ++ (0 ∷ 0 ∷ 0 ∷ 0 ∷ replicate 21 0));
}
reading_today addr counter lost (c1 ∷ []) few small = record {
  room = refl;
  same = λ i. 2 ∷ addr ∷ counter ∷ (sym (low_bytes lost small) i ++ (0 ∷ 0 ∷ 0 ∷ 1 ∷ c1.place ∷ c1.path ∷ replicate 19 0));
}
reading_today addr counter lost (c1 ∷ c2 ∷ []) few small = record {
  room = refl;
  same = λ i. 2 ∷ addr ∷ counter ∷ (sym (low_bytes lost small) i
      ++ (0 ∷ 0 ∷ 0 ∷ 2 ∷ c1.place ∷ c1.path ∷ c2.place ∷ c2.path ∷ replicate 17 0));
}
reading_today addr counter lost (c1 ∷ c2 ∷ c3 ∷ []) few small = record {
  room = refl;
  same = λ i. 2 ∷ addr ∷ counter ∷ (sym (low_bytes lost small) i
      ++ (0 ∷ 0 ∷ 0 ∷ 3 ∷ c1.place ∷ c1.path ∷ c2.place ∷ c2.path ∷ c3.place ∷ c3.path ∷ replicate 15 0));
}
reading_today addr counter lost (c1 ∷ c2 ∷ c3 ∷ c4 ∷ []) few small = record {
  room = refl;
  same = λ i. 2 ∷ addr ∷ counter ∷ (sym (low_bytes lost small) i
      ++ (0 ∷ 0 ∷ 0 ∷ 4 ∷ c1.place ∷ c1.path ∷ c2.place ∷ c2.path ∷ c3.place ∷ c3.path ∷ c4.place ∷ c4.path
      ∷ replicate 13 0));
}
reading_today addr counter lost (c1 ∷ c2 ∷ c3 ∷ c4 ∷ c5 ∷ []) few small = record {
  room = refl;
  same = λ i. 2 ∷ addr ∷ counter ∷ (sym (low_bytes lost small) i
      ++ (0 ∷ 0 ∷ 0 ∷ 5 ∷ c1.place ∷ c1.path ∷ c2.place ∷ c2.path ∷ c3.place ∷ c3.path ∷ c4.place ∷ c4.path
      ∷ c5.place ∷ c5.path ∷ replicate 11 0));
}
reading_today addr counter lost (c1 ∷ c2 ∷ c3 ∷ c4 ∷ c5 ∷ c6 ∷ more) few small = absurd (omega arith)

broken_today : (addr mask_seen counter : ℕ) (posted : List Coin) → length posted ≤ 5
    → IsToday (old_body_of (Broken addr mask_seen counter 0 0 posted)) (body_of (Broken addr mask_seen counter 0 0 posted))
unfolding body_of fields_of old_body_of old_fields_of
broken_today addr mask counter [] few = record { room = refl; same = refl }
broken_today addr mask counter (c1 ∷ []) few = record { room = refl; same = refl }
broken_today addr mask counter (c1 ∷ c2 ∷ []) few = record { room = refl; same = refl }
broken_today addr mask counter (c1 ∷ c2 ∷ c3 ∷ []) few = record { room = refl; same = refl }
broken_today addr mask counter (c1 ∷ c2 ∷ c3 ∷ c4 ∷ []) few = record { room = refl; same = refl }
broken_today addr mask counter (c1 ∷ c2 ∷ c3 ∷ c4 ∷ c5 ∷ []) few = record { room = refl; same = refl }
broken_today addr mask counter (c1 ∷ c2 ∷ c3 ∷ c4 ∷ c5 ∷ c6 ∷ more) few = absurd (omega arith)

body_today : (r : Record) → InRange r → IsOld r → IsToday (old_body_of r) (body_of r)
unfolding body_of fields_of old_body_of old_fields_of
body_today (Epoch addr mask accepts) fits old =
    subst (λ n. IsToday (old_body_of (Epoch addr mask n)) (body_of (Epoch addr mask n))) (sym old)
    (record { room = refl; same = refl })
body_today (Reading addr counter lost accepts posted) fits old =
    subst (λ n. IsToday (old_body_of (Reading addr counter lost n posted)) (body_of (Reading addr counter lost n posted)))
    (sym old.1) (reading_today addr counter lost posted fits.4.few old.0)
body_today (Broken addr mask_seen counter lost accepts posted) fits old =
    subst (λ n. IsToday (old_body_of (Broken addr mask_seen counter n accepts posted))
    (body_of (Broken addr mask_seen counter n accepts posted))) (sym old.0)
    (subst (λ n. IsToday (old_body_of (Broken addr mask_seen counter 0 n posted))
    (body_of (Broken addr mask_seen counter 0 n posted))) (sym old.1)
    (broken_today addr mask_seen counter posted fits.5.few))
body_today r fits old = record { room = refl; same = refl }

-- What an old body spells becomes what it spells as one of today.
spells_today : (r : Record) (body : List ℕ) → OldSpells r body → IsToday body (body_of r)
spells_today r body spells =
    subst (λ b. IsToday b (body_of r)) spells.spelt (body_today r spells.in_range spells.is_old)

-- No two records have one old body.
pub one_old_spelling : (x y : Record) (body : List ℕ) → OldSpells x body → OldSpells y body → x ≡ y
one_old_spelling x y body spells_x spells_y =
    one_spelling x y spells_x.in_range spells_y.in_range
    (sym (spells_today x body spells_x).same ∙ (spells_today y body spells_y).same)

-- The record of today's body is that of the old one.
pub old_spells : (body : List ℕ) → length body ≡ 31 → HasRoom body → (r : Record) → Spells r (today body)
    → OldSpells r body
old_spells body long room r spells =
    let unused = subst IsUnused (sym spells.spelt) (unused_today body long) in
    let old = old_from r spells.in_range unused in
    record {
      in_range = spells.in_range;
      is_old = old;
      spelt = sym (body_narrowed r spells.in_range old) ∙ ap narrowed spells.spelt ∙ narrowed_today body long room;
    }

-- An old body without room spells no record.
pub refused_full : (body : List ℕ) → (HasRoom body → ⊥) → IsRefusedOld body
refused_full body full = record { none = λ r spells. full (spells_today r body spells).room }

-- Nor does one that spells none as one of today.
pub refused_old : (body : List ℕ) → IsRefused (today body) → IsRefusedOld body
refused_old body refused = record {
  none = λ r spells. refused.none r spells.in_range (sym (spells_today r body spells).same);
}
