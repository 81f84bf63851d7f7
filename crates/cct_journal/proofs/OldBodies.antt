-- The slots of a journal of an older version: how many are open, and what their bodies spell.
use Rattle.std.proofs.Common.{◌≡◌, ◌≢◌, inl, inr, Option, Some, ℕ, zero, suc, ◌+◌, ◌-◌, ◌*◌, ◌<◌, ◌≤◌, Bool, List, [], ◌∷◌, ◌++◌}
use Rattle.std.proofs.Common.{length, take, drop, slice_index, refl, sym, ◌∙◌, ap, ap₂, subst, arith, length-append, length-drop, cond, ◌==◌}
use Rattle.std.specs.List.{slice_get}
use Rattle.std.proofs.lemmas.Bool.{cases_eq}
use Rattle.std.proofs.lemmas.List.{drop-drop, drop-take, drop_more, get_or-drop, take-take}
use Rattle.cct_model_lines.specs.declared.record.Record.{Record}
use Rattle.cct_record.specs.OldBody.{IsRefusedOld, OldSpells}
use Rattle.cct_record.proofs.OldBack.{one_old_spelling}
use Rattle.cct_record.specs.Body.{Encodable}
use Rattle.cct_journal.specs.Half.{half, open_gate, slots_in, start_at}
use Rattle.cct_journal.specs.Image.{bodies, least_size}
use Rattle.cct_journal.specs.OldImage.{AreSpelt, bodies_at, old_bodies, old_body_in, old_gate_in, old_room, old_slot}
use Rattle.cct_journal.specs.OldStands.{GivesOld, OldCounts, OldReadsFrom, RefusesOldRecord}
use Rattle.cct_journal.specs.declared.format.TheConstants.{FIRST_SLOT, START}
use Rattle.cct_journal.specs.declared.old_place.OldPlace.{OldPlace}
use Rattle.cct_journal.specs.declared.old_place.OldVersion.{OldVersion}
use Rattle.cct_journal.specs.declared.old_place.OldVersion.TheVariants.{One, Two}
use Rattle.cct_journal.specs.declared.refusal.ReadNo.TheVariants.{BadRecord}
use Rattle.cct_journal.proofs.Rooms.{closed, opened}
use Rattle.cct_journal.proofs.Sides.{half_byte, half_long}
use Rattle.cct_journal.proofs.Windows.{part_of_part}

-- The bytes in which the slots of the records stand.
abbrev pub old_area : OldVersion → List ℕ → Bool → List ℕ
old_area One image second = drop 32 image
old_area Two image second = drop START (half image second)

-- The bodies are those of these bytes.
pub bodies_of_area : (version : OldVersion) (image : List ℕ) (second : Bool) (base : ℕ)
    → old_bodies version image second base
    ≡ bodies (old_room version (length image) base) (old_area version image second)
bodies_of_area One image second base = refl
bodies_of_area Two image second base = refl

-- They have room for all slots.
pub area_long : (version : OldVersion) (image : List ℕ) (second : Bool) (base : ℕ) → least_size ≤ length image
    → 32 * old_room version (length image) base ≤ length (old_area version image second)
area_long One image second base long = omega (arith, length-drop 32 image, long)
area_long Two image second base long =
    omega (arith, length-drop START (half image second), half_long image second, long)

-- The gate of a slot is the first of its bytes.
pub area_gate : (version : OldVersion) (image : List ℕ) (second : Bool) (base index : ℕ)
    → least_size ≤ length image → index - base < old_room version (length image) base
    → slice_index (old_area version image second) (32 * (index - base))
    ≡ slice_index image (old_slot version (length image) second base index)
area_gate One image second base index long within =
    let place : 32 + 32 * (index - base) ≡ 32 * (1 + (index - base)) = omega arith in
    get_or-drop 32 image (32 * (index - base)) 0 ∙ ap (λ n. slice_index image n) place
area_gate Two image second base index long within =
    let place : START + 32 * (index - base) ≡ 32 * (FIRST_SLOT + (index - base)) = omega arith in
    get_or-drop START (half image second) (32 * (index - base)) 0
    ∙ half_byte image image second (start_at (length image) second + 32 * (FIRST_SLOT + (index - base)))
    (START + 32 * (index - base)) (ap (λ k. start_at (length image) second + k) (sym place)) refl
    (omega (arith, within, long))

-- The body of a slot are the 31 bytes after it.
pub area_body : (version : OldVersion) (image : List ℕ) (second : Bool) (base index : ℕ)
    → least_size ≤ length image → index - base < old_room version (length image) base
    → take 31 (drop (32 * (index - base) + 1) (old_area version image second))
    ≡ take 31 (drop (old_slot version (length image) second base index + 1) image)
area_body One image second base index long within =
    let place : 32 + (32 * (index - base) + 1) ≡ 32 * (1 + (index - base)) + 1 = omega arith in
    ap (λ (l : List ℕ). take 31 l)
    (drop-drop (32 * (index - base) + 1) 32 image ∙ ap (λ n. drop n image) place)
area_body Two image second base index long within =
    let place : START + (32 * (index - base) + 1) ≡ 32 * (FIRST_SLOT + (index - base)) + 1 = omega arith in
    let from = start_at (length image) second in
    let there : from + (32 * (FIRST_SLOT + (index - base)) + 1) ≡ from + 32 * (FIRST_SLOT + (index - base)) + 1 =
    omega arith in
    ap (λ (l : List ℕ). take 31 l)
    (drop-drop (32 * (index - base) + 1) START (half image second) ∙ ap (λ n. drop n (half image second)) place)
    ∙ part_of_part image from (32 * slots_in (length image)) (32 * (FIRST_SLOT + (index - base)) + 1) 31
    (omega (arith, within, long))
    ∙ ap (λ n. take 31 (drop n image)) there

-- The bytes of a slot that were read after its gate are its body.
pub body_of_slot : (bytes image body : List ℕ) (at place : ℕ) → bytes ≡ take (length bytes) (drop at image)
    → length bytes ≡ 32 → at ≡ place → body ≡ take 31 (drop 1 bytes) → body ≡ take 31 (drop (place + 1) image)
body_of_slot bytes image body at place read whole there is =
    is
    ∙ ap (λ (l : List ℕ). take 31 (drop 1 l)) read
    ∙ ap (λ n. take 31 (drop 1 (take n (drop at image)))) whole
    ∙ ap (λ (l : List ℕ). take 31 l) (drop-take 1 31 (drop at image))
    ∙ take-take 31 31 (drop 1 (drop at image)) (omega arith)
    ∙ ap (λ (l : List ℕ). take 31 l) (drop-drop 1 at image ∙ ap (λ n. drop (n + 1) image) there)

-- How many bodies there are, slot by slot.
module _ (n many : ℕ) (xs : List ℕ) (below : many < n) (long : 32 * n ≤ length xs) where
  -- The slot that comes next.
  next_slot : drop (32 * many) xs ≡ slice_index xs (32 * many) ∷ drop (32 * many + 1) xs
  next_slot = drop_more xs (32 * many) 0 (omega arith)

  -- A shut gate ends them.
  pub counted_shut : slice_index xs (32 * many) ≢ open_gate → length (bodies (n - many) (drop (32 * many) xs)) ≡ 0
  counted_shut shut =
      ap length (ap (bodies (n - many)) next_slot
      ∙ closed (n - many) (slice_index xs (32 * many)) (drop (32 * many + 1) xs) shut)

  -- An open one is one more.
  pub counted_open : slice_index xs (32 * many) ≡ open_gate
      → length (bodies (n - many) (drop (32 * many) xs))
      ≡ suc (length (bodies (n - (many + 1)) (drop (32 * (many + 1)) xs)))
  counted_open is_open =
      let few : n - many ≡ suc (n - (many + 1)) = omega arith in
      let place : 32 * many + 1 + 31 ≡ 32 * (many + 1) = omega arith in
      ap (λ m. length (bodies m (drop (32 * many) xs))) few
      ∙ ap (λ (l : List ℕ). length (bodies (suc (n - (many + 1))) l)) next_slot
      ∙ ap length (opened (n - (many + 1)) (slice_index xs (32 * many)) (drop (32 * many + 1) xs) is_open)
      ∙ ap (λ (l : List ℕ). suc (length (bodies (n - (many + 1)) l)))
      (drop-drop 31 (32 * many + 1) xs ∙ ap (λ k. drop k xs) place)

-- So many slots of a place are open so far, and the others come after them.
pub record HasCounted (image : List ℕ) (old : OldPlace) (many : ℕ) : Type 0 where
  pub so_far : length (bodies_at old image)
      ≡ many + length (bodies (old_room old.version (length image) old.place.base - many)
      (drop (32 * many) (old_area old.version image old.place.second)))

pub counted_none : (image : List ℕ) (old : OldPlace) → HasCounted image old 0
counted_none image old =
    let all : old_room old.version (length image) old.place.base - 0 ≡ old_room old.version (length image) old.place.base =
    omega arith in
    let are = ap length (bodies_of_area old.version image old.place.second old.place.base)
    ∙ ap (λ n. length (bodies n (old_area old.version image old.place.second))) (sym all) in
    record { so_far = omega (arith, are) }

module _ (image : List ℕ) (old : OldPlace) (many : ℕ) (counted : HasCounted image old many) where
  -- After the last slot.
  pub counted_full : many ≡ old_room old.version (length image) old.place.base → length (bodies_at old image) ≡ many
  counted_full full =
      let none : old_room old.version (length image) old.place.base - many ≡ 0 = omega arith in
      let last : length (bodies (old_room old.version (length image) old.place.base - many)
      (drop (32 * many) (old_area old.version image old.place.second))) ≡ 0 =
      ap (λ n. length (bodies n (drop (32 * many) (old_area old.version image old.place.second)))) none in
      omega (arith, counted.so_far, last)

  module _ (long : least_size ≤ length image) (below : many < old_room old.version (length image) old.place.base)
      (index : ℕ) (index_is : index ≡ old.place.base + many) where
    -- The gate that comes next.
    gate_next : slice_index (old_area old.version image old.place.second) (32 * many) ≡ old_gate_in old index image
    gate_next =
        let number : index - old.place.base ≡ many = omega arith in
        ap (λ n. slice_index (old_area old.version image old.place.second) (32 * n)) (sym number)
        ∙ area_gate old.version image old.place.second old.place.base index long (omega (arith, number, below))

    -- A shut gate.
    pub counted_end : old_gate_in old index image ≢ open_gate → length (bodies_at old image) ≡ many
    counted_end shut =
        let last = counted_shut (old_room old.version (length image) old.place.base) many
        (old_area old.version image old.place.second) below
        (area_long old.version image old.place.second old.place.base long) (λ is. shut (sym gate_next ∙ is)) in
        omega (arith, counted.so_far, last)

    -- An open one.
    pub counted_on : old_gate_in old index image ≡ open_gate → HasCounted image old (many + 1)
    counted_on is_open =
        let next = counted_open (old_room old.version (length image) old.place.base) many
        (old_area old.version image old.place.second) below
        (area_long old.version image old.place.second old.place.base long) (gate_next ∙ is_open) in
        record { so_far = omega (arith, counted.so_far, next) }

-- The body of an index among those of slots, by those after the first one.
later_body : (n gate : ℕ) (rest : List ℕ) (i : ℕ) → i < suc (length (bodies n (drop 31 rest)))
    → ((k : ℕ) → k < length (bodies n (drop 31 rest))
    → slice_get (bodies n (drop 31 rest)) k ≡ Some (take 31 (drop (32 * k + 1) (drop 31 rest))))
    → slice_get (take 31 rest ∷ bodies n (drop 31 rest)) i ≡ Some (take 31 (drop (32 * i + 1) (gate ∷ rest)))
later_body n gate rest zero few later = refl
later_body n gate rest (suc i) few later =
    let place : suc (31 + (32 * i + 1)) ≡ 32 * suc i + 1 = omega arith in
    later i (omega arith)
    ∙ ap (λ (l : List ℕ). Some (take 31 l))
    (drop-drop (32 * i + 1) 31 rest ∙ ap (λ k. drop k (gate ∷ rest)) place)

body_at_index : (n : ℕ) (xs : List ℕ) (i : ℕ) → i < length (bodies n xs)
    → slice_get (bodies n xs) i ≡ Some (take 31 (drop (32 * i + 1) xs))
body_at_index zero xs i few = absurd (omega arith)
body_at_index (suc n) [] i few = absurd (omega arith)
body_at_index (suc n) (gate ∷ rest) i few = elim (cases_eq gate open_gate) [
  | inr shut ↦ absurd (omega (arith, few, ap length (closed (suc n) gate rest shut)))
  | inl is_open ↦
      let are = opened n gate rest is_open in
      ap (λ bs. slice_get bs i) are
      ∙ later_body n gate rest i (omega (arith, few, ap length are)) (body_at_index n (drop 31 rest))
]

-- Bodies of slots by their bytes alone.
pub bodies_by : (n : ℕ) (xs ys : List ℕ) → take (32 * n) xs ≡ take (32 * n) ys → 32 * n ≤ length xs
    → 32 * n ≤ length ys → bodies n xs ≡ bodies n ys
bodies_by zero xs ys same long other = refl
bodies_by (suc n) [] ys same long other = absurd (omega arith)
bodies_by (suc n) (g ∷ rest) [] same long other = absurd (omega arith)
bodies_by (suc n) (g ∷ rest) (h ∷ more) same long other =
    let many : 32 * suc n ≡ suc (31 + 32 * n) = omega arith in
    let heads : take (suc (31 + 32 * n)) (g ∷ rest) ≡ take (suc (31 + 32 * n)) (h ∷ more) =
    subst (λ k. take k (g ∷ rest) ≡ take k (h ∷ more)) many same in
    let first : g ≡ h = cc in
    let later : take (31 + 32 * n) rest ≡ take (31 + 32 * n) more = cc in
    let body : take 31 rest ≡ take 31 more =
    sym (take-take 31 (31 + 32 * n) rest (omega arith)) ∙ ap (λ (l : List ℕ). take 31 l) later
    ∙ take-take 31 (31 + 32 * n) more (omega arith) in
    let others : bodies n (drop 31 rest) ≡ bodies n (drop 31 more) =
    bodies_by n (drop 31 rest) (drop 31 more)
    (sym (drop-take 31 (32 * n) rest) ∙ ap (λ (l : List ℕ). drop 31 l) later ∙ drop-take 31 (32 * n) more)
    (omega (arith, length-drop 31 rest)) (omega (arith, length-drop 31 more)) in
    ap₂ (λ x xs. cond (x == open_gate) xs []) first (ap₂ (λ x xs. x ∷ xs) body others)

-- There are no more bodies than slots.
pub bodies_few : (n : ℕ) (xs : List ℕ) → length (bodies n xs) ≤ n
bodies_few zero xs = omega arith
bodies_few (suc n) [] = omega arith
bodies_few (suc n) (gate ∷ rest) = elim (cases_eq gate open_gate) [
  | inr shut ↦ omega (arith, ap length (closed (suc n) gate rest shut))
  | inl is_open ↦ omega (arith, ap length (opened n gate rest is_open), bodies_few n (drop 31 rest))
]

-- The body of an open slot, by the index of its record.
pub body_there : {D : Type 0} (seen : D → Option (List ℕ)) (disk : D) (old : OldPlace) (index : ℕ)
    (counts : OldCounts seen disk old) → old.place.base ≤ index → index < old.place.used
    → slice_get (bodies_at old counts.image) (index - old.place.base) ≡ Some (old_body_in old index counts.image)
body_there seen disk old index counts from within =
    let image = counts.image in
    let all = bodies_of_area old.version image old.place.second old.place.base in
    let room = old_room old.version (length image) old.place.base in
    let area = old_area old.version image old.place.second in
    let few : index - old.place.base < length (bodies room area) =
    omega (arith, counts.count, ap length all, from, within) in
    ap (λ bs. slice_get bs (index - old.place.base)) all
    ∙ body_at_index room area (index - old.place.base) few
    ∙ ap Some (area_body old.version image old.place.second old.place.base index counts.headed.long
    (omega (arith, few, bodies_few room area)))

-- Records and the bodies that spell them.

pub spelt_many : (rs : List Record) (bs : List (List ℕ)) → AreSpelt rs bs → length bs ≡ length rs
spelt_many [] [] are = refl
spelt_many [] (b ∷ bs) are = absurd are
spelt_many (r ∷ rs) [] are = absurd are
spelt_many (r ∷ rs) (b ∷ bs) are = ap suc (spelt_many rs bs are.1)

-- The bodies of records are those of no others.
pub spelt_one : (rs ss : List Record) (bs : List (List ℕ)) → AreSpelt rs bs → AreSpelt ss bs → rs ≡ ss
spelt_one [] [] [] are others = refl
spelt_one [] [] (b ∷ bs) are others = absurd are
spelt_one [] (s ∷ ss) [] are others = absurd others
spelt_one [] (s ∷ ss) (b ∷ bs) are others = absurd are
spelt_one (r ∷ rs) [] [] are others = absurd are
spelt_one (r ∷ rs) [] (b ∷ bs) are others = absurd others
spelt_one (r ∷ rs) (s ∷ ss) [] are others = absurd are
spelt_one (r ∷ rs) (s ∷ ss) (b ∷ bs) are others =
    ap₂ (λ x xs. x ∷ xs) (one_old_spelling r s b are.0 others.0) (spelt_one rs ss bs are.1 others.1)

-- A record of a list, and the body that spells it.
pub record OldIndexed (rs : List Record) (i : ℕ) (body : List ℕ) : Type 0 where
  pub entry : Record
  pub found : slice_get rs i ≡ Some entry
  pub spells : OldSpells entry body

pub spelt_at : (rs : List Record) (bs : List (List ℕ)) (i : ℕ) (body : List ℕ) → AreSpelt rs bs
    → slice_get bs i ≡ Some body → OldIndexed rs i body
spelt_at [] [] i body are is = absurd cc
spelt_at [] (b ∷ bs) i body are is = absurd are
spelt_at (r ∷ rs) [] i body are is = absurd are
spelt_at (r ∷ rs) (b ∷ bs) zero body are is =
    let same : b ≡ body = cc in
    record { entry = r; found = refl; spells = subst (OldSpells r) same are.0 }
spelt_at (r ∷ rs) (b ∷ bs) (suc i) body are is =
    let later = spelt_at rs bs i body are.1 is in
    record { entry = later.entry; found = later.found; spells = later.spells }

-- One more record.
pub spelt_more : (rs : List Record) (bs : List (List ℕ)) (r : Record) (body : List ℕ)
    → AreSpelt rs (take (length rs) bs) → slice_get bs (length rs) ≡ Some body → OldSpells r body
    → AreSpelt (rs ++ r ∷ []) (take (length (rs ++ r ∷ [])) bs)
spelt_more [] [] r body are is spells = absurd cc
spelt_more [] (b ∷ bs) r body are is spells =
    let same : b ≡ body = cc in
    (subst (OldSpells r) (sym same) spells, tt)
spelt_more (x ∷ rs) [] r body are is spells = absurd are
spelt_more (x ∷ rs) (b ∷ bs) r body are is spells = (are.0, spelt_more rs bs r body are.1 is spells)

-- A record that a read gives is one of those that are counted.
reads_at : {D : Type 0} (seen : D → Option (List ℕ)) (disk : D) (old : OldPlace) (index : ℕ) → old.place.base ≤ index
    → index < old.place.used → (rest : List Record) (reads : OldReadsFrom seen disk old rest)
    → OldIndexed rest (index - old.place.base) (old_body_in old index reads.image)
reads_at seen disk old index from within rest reads =
    let image = reads.image in
    let all = bodies_of_area old.version image old.place.second old.place.base in
    let room = old_room old.version (length image) old.place.base in
    let area = old_area old.version image old.place.second in
    let few : index - old.place.base < length (bodies room area) =
    omega (arith, reads.count, spelt_many rest (bodies_at old image) reads.has.records_are, ap length all, from, within) in
    spelt_at rest (bodies_at old image) (index - old.place.base) (old_body_in old index image) reads.has.records_are
    (ap (λ bs. slice_get bs (index - old.place.base)) all
    ∙ body_at_index room area (index - old.place.base) few
    ∙ ap Some (area_body old.version image old.place.second old.place.base index reads.has.headed.long
    (omega (arith, few, bodies_few room area))))

-- All that is said of a record that was read.
pub gives_old : {D : Type 0} (seen : D → Option (List ℕ)) (disk : D) (old : OldPlace) (index : ℕ) (entry : Record)
    → old.place.base ≤ index → index < old.place.used
    → ((image : List ℕ) → seen disk ≡ Some image → OldSpells entry (old_body_in old index image)) → Encodable entry
    → GivesOld seen disk old index entry
gives_old seen disk old index entry from within spells fits = record {
  after = λ rest reads.
      let found = reads_at seen disk old index from within rest reads in
      found.found
      ∙ ap Some (one_old_spelling found.entry entry (old_body_in old index reads.image) found.spells
      (spells reads.image reads.tells));
  spelt = spells;
  one_more = λ before reads.
      let image = reads.counts.image in
      let number : index - old.place.base ≡ length before = omega (arith, reads.count) in
      record {
        counts = reads.counts;
        count = omega (arith, reads.count, length-append before (entry ∷ []));
        spelt = spelt_more before (bodies_at old image) entry (old_body_in old index image) reads.spelt
            (ap (λ i. slice_get (bodies_at old image) i) (sym number)
            ∙ body_there seen disk old index reads.counts from within) (spells image reads.counts.tells);
      };
  fits = fits;
}

-- All that is said of a record that was refused.
pub refuses_old : {D : Type 0} (seen : D → Option (List ℕ)) (disk : D) (old : OldPlace) (index : ℕ)
    → old.place.base ≤ index → index < old.place.used
    → ((image : List ℕ) → seen disk ≡ Some image → IsRefusedOld (old_body_in old index image))
    → RefusesOldRecord seen disk old index (BadRecord index)
refuses_old seen disk old index from within refused = record {
  reason = λ image told. (refl, refused image told);
  never = λ rest reads.
      let found = reads_at seen disk old index from within rest reads in
      absurd ((refused reads.image reads.tells).none found.entry found.spells);
}
