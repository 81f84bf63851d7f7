-- What the place that is found on an image is to it.
use Rattle.std.proofs.Common.{◌≡◌, ℕ, ◌≤◌, Bool, not, Option, Some, ◌+◌, List, length}
use Rattle.std.proofs.Common.{None, MatchOption, reverse, sym, ◌∙◌, ap, subst, arith, length-append}
use Rattle.std.proofs.lemmas.List.{reverse-reverse}
use Rattle.cct_model_lines.specs.declared.carry.Carry.{Carry}
use Rattle.cct_model_lines.specs.declared.record.Record.{Record}
use Rattle.cct_disk.specs.Disk.{Holds}
use Rattle.cct_journal.specs.Half.{IsCurrent, half, has_open_gate}
use Rattle.cct_journal.specs.Start.{Begins}
use Rattle.cct_journal.specs.Fronts.{BeginsAt, IsCurrentHalf, before_records}
use Rattle.cct_journal.specs.Image.{Continues, HasFrom, IsAlien, StandsFor, least_size}
use Rattle.cct_journal.specs.Opening.{CountsIn, ReplaysAll, Replayed}
use Rattle.cct_journal.specs.Stands.{HasPlace, Reads, ReadsFrom, Stands}
use Rattle.cct_journal.specs.declared.opening.Current.{Current}
use Rattle.cct_journal.specs.declared.place.Place.{Place}
use Rattle.cct_journal.specs.declared.start.Start.{Start}
use Rattle.cct_journal.proofs.Currents.{same_half}
use Rattle.cct_journal.proofs.Opens.{counted_same, one_from, over_from}

-- Where nothing is found at the front of the current half, the image is that of no journal.
pub begins_nowhere : (image : List ℕ) (second : Bool) (found : Option Start) → IsCurrent second image → found ≡ None
    → MatchOption found
    ((generation base : ℕ) (carry : Carry) → Begins second generation base carry (half image second) → ⊥)
    (λ s. Begins second s.generation s.base s.carry (half image second)) → IsAlien image
begins_nowhere image second None current is none = λ other generation base carry headed.
    none generation base carry
    (subst (λ s. Begins s generation base carry (half image s)) (same_half image other second headed.current current)
    headed.begins)
begins_nowhere image second (Some start) current is begins = absurd cc

-- Where a start is found there, the half begins so.
pub begins_there : (image : List ℕ) (second : Bool) (found : Option Start) (start : Start) → found ≡ Some start
    → MatchOption found
    ((generation base : ℕ) (carry : Carry) → Begins second generation base carry (half image second) → ⊥)
    (λ s. Begins second s.generation s.base s.carry (half image second))
    → Begins second start.generation start.base start.carry (half image second)
begins_there image second found start is begins =
    subst
    (λ o. MatchOption o
    ((generation base : ℕ) (carry : Carry) → Begins second generation base carry (half image second) → ⊥)
    (λ s. Begins second s.generation s.base s.carry (half image second))) is begins

-- The current half that was looked for is there,
pub current_there : {image : List ℕ} (found : Option Current) (current : Current) → found ≡ Some current
    → MatchOption found ((second : Bool) → IsCurrent second image → ⊥) (IsCurrentHalf image)
    → IsCurrentHalf image current
current_there {image} found current is there =
    subst (λ o. MatchOption o ((second : Bool) → IsCurrent second image → ⊥) (IsCurrentHalf image)) is there

-- or isn't,
pub current_nowhere : {image : List ℕ} (found : Option Current) → found ≡ None
    → MatchOption found ((second : Bool) → IsCurrent second image → ⊥) (IsCurrentHalf image) → (second : Bool)
    → IsCurrent second image → ⊥
current_nowhere {image} found is none =
    subst (λ o. MatchOption o ((second : Bool) → IsCurrent second image → ⊥) (IsCurrentHalf image)) is none

-- and then the image is that of no journal.
pub nowhere_alien : {image : List ℕ} (found : Option Current) → found ≡ None
    → MatchOption found ((second : Bool) → IsCurrent second image → ⊥) (IsCurrentHalf image) → IsAlien image
nowhere_alien found is none second generation base carry headed =
    current_nowhere found is none second headed.current

-- A journal whose current half begins so begins at this place.
pub begins_at : (image : List ℕ) (current : Current) (start : Start) → least_size ≤ length image
    → IsCurrentHalf image current
    → Begins current.second start.generation start.base start.carry (half image current.second)
    → BeginsAt image (before_records current start)
begins_at image current start long is begins = record {
  headed = record { long = long; current = is.current; begins = begins };
  other_gate = is.other_gate;
}

-- Where an image represents records, the half that has others is theirs.
pub continues_at : (image : List ℕ) (place : Place) (counted : List Record) (carry_of : List Record → Carry)
    (records : List Record) → HasPlace image place counted → StandsFor carry_of image records
    → Continues carry_of place.base place.carry counted records
continues_at image place counted carry_of records has stands =
    let here : HasFrom image place.base place.carry counted =
    record { second = place.second; generation = place.generation; current = has } in
    over_from (λ b c rest. Continues carry_of b c rest records)
    (one_from image stands.base place.base stands.carry place.carry stands.rest counted stands.has here)
    stands.continues

-- A place that is found: what a read gives has its half, with the records that were counted.
pub found_reads : {D : Type 0} (seen : D → Option (List ℕ)) (disk : D) (place : Place) (image : List ℕ)
    (counted : List Record) → seen disk ≡ Some image → HasPlace image place counted
    → place.used ≡ place.base + length counted → ReadsFrom seen disk place counted
found_reads seen disk place image counted told has count =
    record { image = image; tells = told; has = has; count = count }

-- Where that represents records, they count.
pub reads_records : {D : Type 0} (seen : D → Option (List ℕ)) (disk : D) (place : Place) (image : List ℕ)
    (counted : List Record) → seen disk ≡ Some image → HasPlace image place counted
    → place.used ≡ place.base + length counted → (carry_of : List Record → Carry) (records : List Record)
    → StandsFor carry_of image records → Reads carry_of seen disk place records
reads_records seen disk place image counted told has count carry_of records stands = record {
  rest = counted;
  reads = found_reads seen disk place image counted told has count;
  continues = continues_at image place counted carry_of records has stands;
}

-- And where no power cut leaves anything else, the journal represents them.
pub place_stands : {D : Type 0} (honest : D → Bool) (seen : D → Option (List ℕ)) (may_leave : D → List ℕ → Type 0)
    (disk : D) (place : Place) (image : List ℕ) (counted : List Record) → Holds honest seen may_leave disk image
    → HasPlace image place counted → place.used ≡ place.base + length counted
    → has_open_gate (half image (not place.second)) ≡ place.other_open → (carry_of : List Record → Carry)
    (records : List Record) → StandsFor carry_of image records
    → Stands carry_of honest seen may_leave disk place records
place_stands honest seen may_leave disk place image counted held has count gate carry_of records stands =
    let on = continues_at image place counted carry_of records has stands in
    record {
      image = image;
      held = held;
      rest = counted;
      has = has;
      continues = on;
      count = omega (arith, count, on.many, ap length on.all, length-append on.first counted);
      other_gate = gate;
    }

-- All the records of a place were replayed.
pub replays_all : {D R : Type 0} (seen : D → Option (List ℕ)) (replayed : R → ℕ → Carry → List Record → R → Type 0)
    (disk : D) (place : Place) (old new : R)
    → Replayed replayed place.base place.carry old new place.used
    (λ records. (image : List ℕ) → seen disk ≡ Some image → CountsIn image place.second place.base records)
    → ReplaysAll seen replayed disk place old new
replays_all seen replayed disk place old new over = record {
  each = (over.before, over.count, over.over);
  told = λ rest reads.
      let same : reverse over.before ≡ rest = counted_same reads.image place.second place.generation place.base
      place.carry (reverse over.before) rest (over.fact reads.image reads.tells) reads.has in
      subst (λ before. replayed old place.base place.carry before new)
      (sym (reverse-reverse over.before) ∙ ap reverse same) over.over;
}
