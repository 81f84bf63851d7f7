-- What the calls of a turn make of a disk on which a journal of an older version stands.
use Rattle.std.proofs.Common.{◌≡◌, ⊎_elim, inl, inr, ℕ, ◌+◌, ◌*◌, ◌<◌, ◌≤◌, Bool, false, not, Option, Some, List, []}
use Rattle.std.proofs.Common.{length, take, drop, refl, sym, ◌∙◌, ap, subst, arith, length-drop, Result, Ok, Err, IfOk, OnOk}
use Rattle.std.proofs.lemmas.Bool.{cases_lt}
use Rattle.std.proofs.lemmas.List.{append-nil, drop-take, take-take}
use Rattle.cct_model_lines.specs.Carried.{IsRightly}
use Rattle.cct_model_lines.specs.declared.carry.Carry.{Carry}
use Rattle.cct_model_lines.specs.declared.record.Record.{Record}
use Rattle.cct_disk.specs.Disk.{Holds, LeavesOnly}
use Rattle.cct_journal.specs.Half.{IsOpen, generation_in, half, slots_in}
use Rattle.cct_journal.specs.Image.{bodies, room_of}
use Rattle.cct_journal.specs.OldImage.{AreSpelt, HasOldPlace, IsTurning, OldBegins, bodies_at, old_bodies, old_room}
use Rattle.cct_journal.specs.OldStands.{BeginsEmpty, HasFreeHalf, IsOldPlaced, IsTurned, OldStands}
use Rattle.cct_journal.specs.Places.{after_turn}
use Rattle.cct_journal.specs.Stands.{IsPlaced, Stands}
use Rattle.cct_journal.specs.Start.{MayBegin, start_of}
use Rattle.cct_journal.specs.Turning.{IsTurnedBy, turned_by}
use Rattle.cct_journal.specs.declared.format.TheConstants.{MOST_RECORDS, START}
use Rattle.cct_journal.specs.declared.old_place.OldPlace.{OldPlace}
use Rattle.cct_journal.specs.declared.old_place.OldVersion.{OldVersion}
use Rattle.cct_journal.specs.declared.old_place.OldVersion.TheVariants.{One, Two}
use Rattle.cct_journal.specs.declared.place.Place.{Place}
use Rattle.cct_journal.proofs.Moments.{weaker}
use Rattle.cct_journal.proofs.OldBodies.{bodies_by, spelt_many}
use Rattle.cct_journal.proofs.OldHeads.{old_tells}
use Rattle.cct_journal.proofs.Rooms.{bodies_same, room}
use Rattle.cct_journal.proofs.Sides.{wins_on}
use Rattle.cct_journal.proofs.TurnCalls.{may_turn_at}
use Rattle.cct_journal.proofs.Turns.{IsKept, turning_either, turning_gate, turning_has}

-- The first bytes of an image are those of its first half.
first_part : (image : List ℕ) (m : ℕ) → m ≤ 32 * slots_in (length image) → take m (half image false) ≡ take m image
first_part image m few = take-take m (32 * slots_in (length image)) image few

-- So the bytes after the header of version 1 are the same up to the end of that half, where it stays.
same_part : (image c : List ℕ) (m : ℕ) → length c ≡ length image → half c false ≡ half image false
    → 32 + m ≤ 32 * slots_in (length image) → take m (drop 32 c) ≡ take m (drop 32 image)
same_part image c m size same few =
    sym (drop-take 32 m c)
    ∙ ap (λ (l : List ℕ). drop 32 l)
    (sym (first_part c (32 + m) (omega (arith, size, few))) ∙ ap (λ (l : List ℕ). take (32 + m) l) same
    ∙ first_part image (32 + m) few)
    ∙ drop-take 32 m image

-- The records of an older version stay where their half does, if they end before the other one.
old_bodies_stay : (version : OldVersion) (image c : List ℕ) (second : Bool) (base used : ℕ) → 2368 ≤ length image
    → (version ≡ One → second ≡ false) → (version ≡ One → base ≡ 0)
    → used ≡ base + length (old_bodies version image second base) → HasFreeHalf version (length image) used
    → length c ≡ length image → half c second ≡ half image second
    → old_bodies version c second base ≡ old_bodies version image second base
old_bodies_stay Two image c second base used long side start count free size same =
    ap (λ n. bodies (room_of n base) (drop START (half c second))) size
    ∙ ap (λ (l : List ℕ). bodies (room_of (length image) base) (drop START l)) same
old_bodies_stay One image c second base used long side start count free size same =
    let n = old_room One (length image) base in
    let old = bodies n (drop 32 image) in
    let few : length old + 2 ≤ slots_in (length image) = omega (arith, free, count, start refl) in
    let first : half c false ≡ half image false = subst (λ s. half c s ≡ half image s) (side refl) same in
    ap (λ k. bodies (old_room One k base) (drop 32 c)) size
    ∙ elim (cases_lt (length old) n) [
      | inl less ↦ bodies_same n (drop 32 image) (drop 32 c) old
          (room n (drop 32 image) old refl less (omega (arith, length-drop 32 image, long)))
          (same_part image c (32 * length old + 1) size first (omega (arith, few)))
      | inr all ↦
          let full : n ≤ length old = all in
          bodies_by n (drop 32 c) (drop 32 image) (same_part image c (32 * n) size first (omega (arith, few, full)))
          (omega (arith, length-drop 32 c, size, long)) (omega (arith, length-drop 32 image, long))
    ]

-- What begins as version 1 does is the first half, before which no record stood.
first_side : (version : OldVersion) (second : Bool) (generation base : ℕ) (carry : Carry) (bytes : List ℕ)
    → OldBegins version second generation base carry bytes → version ≡ One → second ≡ false
first_side One second generation base carry bytes begins is = begins.first
first_side Two second generation base carry bytes begins is = absurd cc

first_base : (version : OldVersion) (second : Bool) (generation base : ℕ) (carry : Carry) (bytes : List ℕ)
    → OldBegins version second generation base carry bytes → version ≡ One → base ≡ 0
first_base One second generation base carry bytes begins is = begins.none_before
first_base Two second generation base carry bytes begins is = absurd cc

-- What an image of an older version has, where the other half is free.
pub record KeepsOld (old : OldPlace) (rest : List Record) (image : List ℕ) : Type 0 where
  pub has : HasOldPlace image old rest
  pub free : HasFreeHalf old.version (length image) old.place.used

-- It is kept up to the last write of a turn.
old_kept : (old : OldPlace) (rest : List Record) → old.place.used ≡ old.place.base + length rest
    → IsKept old.place.second old.place.generation (KeepsOld old rest)
old_kept old rest count = record {
  long = λ image keeps. keeps.has.headed.long;
  is_open = λ image keeps. keeps.has.headed.current.is_open;
  tells = λ image keeps. old_tells old.version old.place.second old.place.generation old.place.base old.place.carry
      (half image old.place.second) keeps.has.headed.begins;
  stays = λ image c keeps size mine other.
      let place = old.place in
      let headed = keeps.has.headed in
      let are = old_bodies_stay old.version image c place.second place.base place.used headed.long
      (first_side old.version place.second place.generation place.base place.carry (half image place.second)
      headed.begins)
      (first_base old.version place.second place.generation place.base place.carry (half image place.second)
      headed.begins)
      (omega (arith, count, spelt_many rest (bodies_at old image) keeps.has.records_are)) keeps.free size mine in
      record {
        has = record {
          headed = record {
            long = omega (arith, size, headed.long);
            current = record {
              is_open = subst (IsOpen place.second) (sym mine) headed.current.is_open;
              wins = wins_on place.second (half image place.second) (half image (not place.second))
                  (half c place.second) (half c (not place.second)) (ap generation_in mine) other headed.current.wins;
            };
            begins = subst (λ (l : List ℕ). OldBegins old.version place.second place.generation place.base place.carry l)
                (sym mine) headed.begins;
          };
          records_are = subst (AreSpelt rest) (sym are) keeps.has.records_are;
        };
        free = subst (λ n. HasFreeHalf old.version n place.used) (sym size) keeps.free;
      };
}

-- A place has at most as many records as a journal takes.
pub old_fits : (size : ℕ) (old : OldPlace) → IsOldPlaced size old → old.place.used ≤ MOST_RECORDS
old_fits size old placed = by_version old.version size old.place.used old.place.base placed.fits placed.begins.base_fits placed.later
  where
    by_version : (version : OldVersion) (size used base : ℕ) → used ≤ base + old_room version size base
        → base < MOST_RECORDS → base ≤ used → used ≤ MOST_RECORDS
    by_version One size used base fits few later = omega (arith, fits, few)
    by_version Two size used base fits few later = omega (arith, fits, few)

-- The other half may begin with all records.
pub old_may_turn : (size : ℕ) (old : OldPlace) (carry : Carry) → IsOldPlaced size old → IsRightly old.place.used carry
    → MayBegin (not old.place.second) (old.place.generation + 1) old.place.used carry
old_may_turn size old carry placed rightly =
    may_turn_at old.place.second old.place.generation old.place.used carry placed.begins.parity
    (omega (arith, placed.begins.turned, placed.later))
    (omega (arith, placed.begins.turned, placed.begins.base_fits)) (old_fits size old placed) rightly

-- So the place after the turn is one of today.
pub old_turned_placed : (size : ℕ) (old : OldPlace) (carry : Carry) → IsOldPlaced size old
    → IsRightly old.place.used carry → IsPlaced size (after_turn old.place carry)
old_turned_placed size old carry placed rightly = record {
  long = placed.long;
  begins = old_may_turn size old carry placed rightly;
  later = omega arith;
  fits = omega arith;
}

module _ {D : Type 0} (size : D → ℕ) (honest : D → Bool) (seen : D → Option (List ℕ)) (may_leave : D → List ℕ → Type 0)
    (moment : D → ℕ) (left_since : D → ℕ → List ℕ → Type 0)
    (fits : (disk : D) (s : List ℕ) → seen disk ≡ Some s → length s ≡ size disk) (before : D) (old : OldPlace)
    (carry : Carry) (placed : IsOldPlaced (size before) old) (rightly : IsRightly old.place.used carry)
    (whole : length (start_of (old.place.generation + 1) old.place.used carry) ≡ START) (rest : List Record)
    (stands : OldStands honest seen may_leave before old rest) where
  -- The other half may begin.
  turns : MayBegin (not old.place.second) (old.place.generation + 1) old.place.used carry
  turns = old_may_turn (size before) old carry placed rightly

  -- What the image has.
  keeps : KeepsOld old rest stands.image
  keeps = record {
    has = stands.has;
    free = subst (λ n. HasFreeHalf old.version n old.place.used) (sym (fits before stands.image stands.held.tells)) placed.free;
  }

  -- At each moment an image has the old journal, or the new one.
  pub old_moments : (new : D)
      → ((image : List ℕ) → Holds honest seen may_leave before image
      → LeavesOnly moment left_since before new (IsTurnedBy old.place carry image))
      → LeavesOnly moment left_since before new (IsTurning old carry rest)
  old_moments new run =
      weaker moment left_since before new (IsTurnedBy old.place carry stands.image) (IsTurning old carry rest)
      (λ c turning. ⊎_elim (λ kept. inl kept.has)
      (λ has. inr (record { second = not old.place.second; generation = old.place.generation + 1; current = has }))
      (turning_either old.place (KeepsOld old rest) (old_kept old rest stands.count) carry turns whole stands.image keeps
      stands.other_gate c turning))
      (run stands.image stands.held)

  -- At the end it has the new one.
  pub old_done : (new : D)
      → ((image : List ℕ) → Holds honest seen may_leave before image
      → Holds honest seen may_leave new (turned_by old.place carry image))
      → BeginsEmpty honest seen may_leave new (after_turn old.place carry)
  old_done new run = record {
    image = turned_by old.place carry stands.image;
    held = run stands.image stands.held;
    has = turning_has old.place (KeepsOld old rest) (old_kept old rest stands.count) carry turns whole stands.image keeps
        stands.other_gate;
    other_gate = turning_gate old.place (KeepsOld old rest) (old_kept old rest stands.count) carry turns whole stands.image
        keeps stands.other_gate;
  }

-- A half of today that has no record yet is what was brought forward,
empty_turned : {D : Type 0} {honest : D → Bool} {seen : D → Option (List ℕ)} {may_leave : D → List ℕ → Type 0}
    {disk : D} (place : Place) → BeginsEmpty honest seen may_leave disk place
    → IsTurned honest seen may_leave disk place.base place.carry
empty_turned place begins = record {
  image = begins.image;
  held = begins.held;
  has = record { second = place.second; generation = place.generation; current = begins.has };
}

-- and a journal is there for all records of which that is the carry.
empty_stands : {D : Type 0} {honest : D → Bool} {seen : D → Option (List ℕ)} {may_leave : D → List ℕ → Type 0}
    {disk : D} (place : Place) → BeginsEmpty honest seen may_leave disk place → place.used ≡ place.base
    → (carry_of : List Record → Carry) (records : List Record) → place.base ≡ length records
    → place.carry ≡ carry_of records → Stands carry_of honest seen may_leave disk place records
empty_stands place begins none carry_of records many carry_is = record {
  image = begins.image;
  held = begins.held;
  rest = [];
  has = begins.has;
  continues = record { first = records; all = sym (append-nil records); many = many; carry_is = carry_is };
  count = none ∙ many;
  other_gate = begins.other_gate;
}

-- What a turn makes at its end is said of the place that it answers.
pub on_place : {E Done : Type 0} (place : Place) (P : Place → Type 0) (result : Result Place E)
    → IfOk result (λ turned. turned ≡ place) → OnOk result Done → (Done → P place) → IfOk result P
on_place place P (Ok turned) is done makes = subst P (sym is) (makes done)
on_place place P (Err e) is done makes = tt

-- At the place to which a turn led a journal represents all records of its carry,
module _ {D : Type 0} {honest : D → Bool} {seen : D → Option (List ℕ)} {may_leave : D → List ℕ → Type 0} {disk : D}
    (place at : Place) (carry : Carry) (is : at ≡ after_turn place carry)
    (begins : BeginsEmpty honest seen may_leave disk at) where
  here : BeginsEmpty honest seen may_leave disk (after_turn place carry)
  here = subst (BeginsEmpty honest seen may_leave disk) is begins

  pub turned_stands : (carry_of : List Record → Carry) (records : List Record) → place.used ≡ length records
      → carry ≡ carry_of records → Stands carry_of honest seen may_leave disk at records
  turned_stands carry_of records many carry_is =
      subst (λ p. Stands carry_of honest seen may_leave disk p records) (sym is)
      (empty_stands (after_turn place carry) here refl carry_of records many carry_is)

  -- and the image has that carry, and no record after it.
  pub turned_is : IsTurned honest seen may_leave disk place.used carry
  turned_is = empty_turned (after_turn place carry) here
