-- The record of an index is spelt by the body of its slot.
use Rattle.std.proofs.Common.{◌≡◌, inl, inr, Some, ℕ, zero, suc, ◌+◌, ◌-◌, ◌*◌, ◌<◌, ◌≤◌, List, [], ◌∷◌, ◌++◌, length, take}
use Rattle.std.proofs.Common.{Option, drop, map, refl, sym, ◌∙◌, ap, subst, arith}
use Rattle.std.specs.List.{All, slice_get}
use Rattle.std.proofs.lemmas.Bool.{cases_eq}
use Rattle.std.proofs.lemmas.List.{drop-drop}
use Rattle.std.proofs.lemmas.List.Elements.{All-head, All-tail}
use Rattle.cct_model_lines.specs.declared.carry.Carry.{Carry}
use Rattle.cct_model_lines.specs.declared.record.Record.{Record}
use Rattle.cct_record.specs.Body.{InRange, IsRefused, Spells, body_of}
use Rattle.cct_record.proofs.Spellings.{encodable, one_spelling}
use Rattle.cct_journal.specs.Half.{half, open_gate}
use Rattle.cct_journal.specs.Image.{bodies, room_of}
use Rattle.cct_journal.specs.Opening.{GivesRecord, RefusesRecord}
use Rattle.cct_journal.specs.Stands.{HasPlace, Reads, ReadsFrom, body_in}
use Rattle.cct_journal.specs.declared.format.TheConstants.{FIRST_SLOT, START}
use Rattle.cct_journal.specs.declared.place.Place.{Place}
use Rattle.cct_journal.specs.declared.refusal.ReadNo.TheVariants.{BadRecord}
use Rattle.cct_journal.proofs.Rooms.{closed, opened}

-- Where a body is in the first slot, its gate is open.
first_open : (n gate : ℕ) (rest body : List ℕ) (others : List (List ℕ)) → bodies (suc n) (gate ∷ rest) ≡ body ∷ others
    → (take 31 rest ≡ body) × (bodies n (drop 31 rest) ≡ others)
first_open n gate rest body others are = elim (cases_eq gate open_gate) [
  | inr shut ↦
      let none : [] ≡ body ∷ others = sym (closed (suc n) gate rest shut) ∙ are in
      absurd cc
  | inl is_open ↦
      let both : take 31 rest ∷ bodies n (drop 31 rest) ≡ body ∷ others = sym (opened n gate rest is_open) ∙ are in
      let first : take 31 rest ≡ body = cc in
      let later : bodies n (drop 31 rest) ≡ others = cc in
      (first, later)
]

-- A record of a list, and the body that spells it.
record Indexed (records : List Record) (i : ℕ) (body : List ℕ) : Type 0 where
  pub entry : Record
  pub found : slice_get records i ≡ Some entry
  pub spells : Spells entry body

record_in : (n : ℕ) (bytes : List ℕ) (records : List Record) → bodies n bytes ≡ map body_of records
    → All InRange records → (i : ℕ) → i < length records → Indexed records i (take 31 (drop (32 * i + 1) bytes))
record_in n bytes [] are fits i few = absurd (omega arith)
record_in zero bytes (r ∷ rs) are fits i few = absurd cc
record_in (suc n) [] (r ∷ rs) are fits i few = absurd cc
record_in (suc n) (gate ∷ rest) (r ∷ rs) are fits zero few = record {
  entry = r;
  found = refl;
  spells = record {
    in_range = All-head InRange r rs fits;
    spelt =
        sym (first_open n gate rest (body_of r) (map body_of rs) are).0;
  };
}
record_in (suc n) (gate ∷ rest) (r ∷ rs) are fits (suc i) few =
    let later = record_in n (drop 31 rest) rs (first_open n gate rest (body_of r) (map body_of rs) are).1
    (All-tail InRange r rs fits) i (omega arith) in
    let place : 32 * suc i + 1 ≡ suc (31 + (32 * i + 1)) = omega arith in
    let body : take 31 (drop (32 * i + 1) (drop 31 rest)) ≡ take 31 (drop (32 * suc i + 1) (gate ∷ rest)) =
    ap (λ (l : List ℕ). take 31 l) (drop-drop (32 * i + 1) 31 rest ∙ ap (λ k. drop k (gate ∷ rest)) (sym place)) in
    record {
      entry = later.entry;
      found = later.found;
      spells = subst (λ (b : List ℕ). Spells later.entry b) body later.spells;
    }

-- The record of an index of the half of a place.
record_at : (image : List ℕ) (place : Place) (rest : List Record) (index : ℕ) → HasPlace image place rest
    → index - place.base < length rest → Indexed rest (index - place.base) (body_in place index image)
record_at image place rest index has few =
    let at = index - place.base in
    let there : START + (32 * at + 1) ≡ 32 * (FIRST_SLOT + at) + 1 = omega arith in
    subst (λ (b : List ℕ). Indexed rest at (take 31 b))
    (drop-drop (32 * at + 1) START (half image place.second)
    ∙ ap (λ k. drop k (half image place.second)) there)
    (record_in (room_of (length image) place.base) (drop START (half image place.second)) rest has.records_are
    has.in_range at few)

-- An index before the number of records is one of those that a read gives.
below : {D : Type 0} (seen : D → Option (List ℕ)) (disk : D) (place : Place) (rest : List Record) (index : ℕ)
    → ReadsFrom seen disk place rest → place.base ≤ index → index < place.used → index - place.base < length rest
below seen disk place rest index reads from within = omega (arith, reads.count)

-- The record that is read is that of the index among those after the carry,
read_is : {D : Type 0} (seen : D → Option (List ℕ)) (disk : D) (place : Place) (index : ℕ) (entry : Record)
    → place.base ≤ index → index < place.used
    → ((image : List ℕ) → seen disk ≡ Some image → Spells entry (body_in place index image)) → (rest : List Record)
    → ReadsFrom seen disk place rest → slice_get rest (index - place.base) ≡ Some entry
read_is seen disk place index entry from within spells rest reads =
    let found = record_at reads.image place rest index reads.has (below seen disk place rest index reads from within) in
    let spelt = spells reads.image reads.tells in
    found.found
    ∙ ap Some (one_spelling found.entry entry found.spells.in_range spelt.in_range
    (found.spells.spelt ∙ sym spelt.spelt))

-- where its index is that among all less those of the carry.
after_first : (first rest : List Record) (index : ℕ) → length first ≤ index
    → slice_get (first ++ rest) index ≡ slice_get rest (index - length first)
after_first [] rest index from =
    let same : index ≡ index - 0 = omega arith in
    ap (slice_get rest) same
after_first (r ∷ first) rest zero from = absurd (omega arith)
after_first (r ∷ first) rest (suc index) from =
    let same : index - length first ≡ suc index - suc (length first) = omega arith in
    after_first first rest index (omega arith) ∙ ap (slice_get rest) same

-- So it is that of the index among all.
read_is_of : {D : Type 0} (seen : D → Option (List ℕ)) (disk : D) (place : Place) (index : ℕ) (entry : Record)
    → place.base ≤ index → index < place.used
    → ((image : List ℕ) → seen disk ≡ Some image → Spells entry (body_in place index image))
    → (carry_of : List Record → Carry) (records : List Record) → Reads carry_of seen disk place records
    → slice_get records index ≡ Some entry
read_is_of seen disk place index entry from within spells carry_of records reads =
    let first = reads.continues.first in
    let many : place.base ≡ length first = reads.continues.many in
    ap (λ rs. slice_get rs index) reads.continues.all
    ∙ after_first first reads.rest index (omega (arith, many))
    ∙ ap (λ n. slice_get reads.rest (index - n)) (sym many)
    ∙ read_is seen disk place index entry from within spells reads.rest reads.reads

-- All that is said of a record that was read.
pub gives_record : {D : Type 0} (seen : D → Option (List ℕ)) (disk : D) (place : Place) (index : ℕ) (entry : Record)
    → place.base ≤ index → index < place.used
    → ((image : List ℕ) → seen disk ≡ Some image → Spells entry (body_in place index image)) → InRange entry
    → GivesRecord seen disk place index entry
gives_record seen disk place index entry from within spells fits = record {
  after = read_is seen disk place index entry from within spells;
  given = read_is_of seen disk place index entry from within spells;
  spelt = spells;
  fits = encodable entry fits;
}

-- None is refused where the half of a place has records.
never_unread : {D : Type 0} (seen : D → Option (List ℕ)) (disk : D) (place : Place) (index : ℕ)
    → place.base ≤ index → index < place.used
    → ((image : List ℕ) → seen disk ≡ Some image → IsRefused (body_in place index image)) → (rest : List Record)
    → ReadsFrom seen disk place rest → ⊥
never_unread seen disk place index from within refused rest reads =
    let found = record_at reads.image place rest index reads.has (below seen disk place rest index reads from within) in
    (refused reads.image reads.tells).none found.entry found.spells.in_range found.spells.spelt

-- All that is said of a record that was refused.
pub refuses_record : {D : Type 0} (seen : D → Option (List ℕ)) (disk : D) (place : Place) (index : ℕ)
    → place.base ≤ index → index < place.used
    → ((image : List ℕ) → seen disk ≡ Some image → IsRefused (body_in place index image))
    → RefusesRecord seen disk place index (BadRecord index)
refuses_record seen disk place index from within refused = record {
  reason = λ image told. (refl, refused image told);
  never = λ rest reads. absurd (never_unread seen disk place index from within refused rest reads);
}
