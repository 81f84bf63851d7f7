-- What is read of a half, slot by slot.
use Rattle.std.proofs.Common.{◌≡◌, ◌≢◌, ℕ, suc, Bool, true, false, ◌+◌, ◌-◌, ◌*◌, ◌<◌, ◌≤◌, List, [], ◌∷◌, ◌++◌, length, take, drop}
use Rattle.std.proofs.Common.{map, refl, reverse, sym, ◌∙◌, ap, subst, arith, append_assoc}
use Rattle.std.proofs.Common.{length-append, length-drop}
use Rattle.std.proofs.lemmas.List.{drop-drop, drop-take, drop_more, length-take-le, take-take, map-append, reverse-append}
use Rattle.std.proofs.lemmas.List.{append-nil}
use Rattle.std.proofs.lemmas.List.Elements.{All-append, All-cons, All-nil}
use Rattle.cct_model_lines.specs.declared.carry.Carry.{Carry}
use Rattle.cct_model_lines.specs.declared.record.Record.{Record}
use Rattle.cct_record.specs.Body.{InRange, IsRefused, Spells, body_of}
use Rattle.cct_journal.specs.Half.{half, open_gate, slots_in, start_at, window}
use Rattle.cct_journal.specs.Image.{IsRefusedIn, bodies, body_at, gate_at, room_of}
use Rattle.cct_journal.specs.Opening.{CountsIn, Replayed, Walked}
use Rattle.cct_journal.specs.declared.format.TheConstants.{FIRST_SLOT, START}
use Rattle.cct_journal.proofs.Rooms.{closed, opened}

-- A half has all its slots.
pub half_long : (image : List ℕ) (second : Bool) → length (half image second) ≡ 32 * slots_in (length image)
half_long image true =
    length-take-le (32 * slots_in (length image)) (drop (32 * slots_in (length image)) image)
    (omega (arith, length-drop (32 * slots_in (length image)) image))
half_long image false = length-take-le (32 * slots_in (length image)) image (omega arith)

-- Bytes of a half are bytes of the image.
pub window_read : (image : List ℕ) (second : Bool) (size len start at n : ℕ) (bytes : List ℕ) → length image ≡ size
    → len ≡ size → start ≡ start_at len second → at + n ≤ 32 * slots_in size → length bytes ≡ n
    → bytes ≡ take (length bytes) (drop (start + at) image) → bytes ≡ window at n (half image second)
window_read image second size len start at n bytes long same begins within whole read =
    let inside : at + n ≤ 32 * slots_in (length image) = omega (arith, long, within) in
    let cut : 32 * slots_in (length image) ≡ at + (32 * slots_in (length image) - at) = omega arith in
    let from : start_at (length image) second ≡ start = sym (begins ∙ ap (λ m. start_at m second) (same ∙ sym long)) in
    read
    ∙ ap (λ k. take k (drop (start + at) image)) whole
    ∙ sym (ap (λ s. take n (drop at (take (32 * slots_in (length image)) (drop s image)))) from
    ∙ ap (λ k. take n (drop at (take k (drop start image)))) cut
    ∙ ap (λ (l : List ℕ). take n l) (drop-take at (32 * slots_in (length image) - at) (drop start image))
    ∙ take-take n (32 * slots_in (length image) - at) (drop at (drop start image)) (omega arith)
    ∙ ap (λ (l : List ℕ). take n l) (drop-drop at start image))

-- The bytes of a slot after its gate are its body.
pub body_read : (bytes body half : List ℕ) (at slot : ℕ) → bytes ≡ window at 32 half → at ≡ 32 * slot
    → body ≡ take 31 (drop 1 bytes) → body ≡ body_at half slot
body_read bytes body half at slot read place is =
    is
    ∙ ap (λ (l : List ℕ). take 31 (drop 1 l)) read
    ∙ ap (λ (l : List ℕ). take 31 l) (drop-take 1 31 (drop at half))
    ∙ take-take 31 31 (drop 1 (drop at half)) (omega arith)
    ∙ ap (λ (l : List ℕ). take 31 l) (drop-drop 1 at half ∙ ap (λ n. drop (n + 1) half) place)

-- Before the first record.
pub walked_none : (image : List ℕ) (second : Bool) (base : ℕ) → Walked image second base 0 []
walked_none image second base =
    let all : room_of (length image) base - 0 ≡ room_of (length image) base = omega arith in
    record {
      bodies_are = ap (λ n. bodies n (drop START (half image second))) (sym all);
      in_range = All-nil InRange;
      count = refl;
    }

module _ (image : List ℕ) (second : Bool) (base many : ℕ) (records : List Record)
    (walked : Walked image second base many records) where
  -- The bytes from the next slot on.
  abbrev next : List ℕ
  next = drop (32 * (FIRST_SLOT + many)) (half image second)

  -- The bytes after its gate.
  abbrev behind : List ℕ
  behind = drop (32 * (FIRST_SLOT + many) + 1) (half image second)

  -- How many slots there are from it on.
  abbrev left : ℕ
  left = room_of (length image) base - many

  -- After the last slot.
  pub walked_full : (all : ℕ) → many ≡ all → all ≡ room_of (length image) base → CountsIn image second base records
  walked_full all last full =
      let none : left ≡ 0 = omega arith in
      record {
        bodies_are = walked.bodies_are ∙ ap (λ n. map body_of records ++ bodies n next) none
            ∙ append-nil (map body_of records);
        in_range = walked.in_range;
      }

  module _ (below : many < room_of (length image) base) where
    -- The slot that comes next.
    next_slot : next ≡ gate_at (half image second) (FIRST_SLOT + many) ∷ behind
    next_slot = drop_more (half image second) (32 * (FIRST_SLOT + many)) 0 (omega (arith, half_long image second, below))

    -- A shut gate ends the records.
    pub walked_shut : gate_at (half image second) (FIRST_SLOT + many) ≢ open_gate → CountsIn image second base records
    walked_shut shut = record {
      bodies_are =
          walked.bodies_are
          ∙ ap (λ (l : List ℕ). map body_of records ++ bodies left l) next_slot
          ∙ ap (λ bs. map body_of records ++ bs)
          (closed left (gate_at (half image second) (FIRST_SLOT + many)) behind shut)
          ∙ append-nil (map body_of records);
      in_range = walked.in_range;
    }

    -- The bodies after the next one.
    abbrev later : List (List ℕ)
    later =
        bodies (room_of (length image) base - (many + 1)) (drop (32 * (FIRST_SLOT + (many + 1))) (half image second))

    -- After an open gate stands one body more.
    one_more : gate_at (half image second) (FIRST_SLOT + many) ≡ open_gate
        → bodies left next ≡ body_at (half image second) (FIRST_SLOT + many) ∷ later
    one_more is_open =
        let few : left ≡ suc (room_of (length image) base - (many + 1)) = omega arith in
        let place : 32 * (FIRST_SLOT + many) + 1 + 31 ≡ 32 * (FIRST_SLOT + (many + 1)) = omega arith in
        ap (λ n. bodies n next) few
        ∙ ap (λ (l : List ℕ). bodies (suc (room_of (length image) base - (many + 1))) l) next_slot
        ∙ opened (room_of (length image) base - (many + 1)) (gate_at (half image second) (FIRST_SLOT + many)) behind
        is_open
        ∙ ap (λ (l : List ℕ). body_at (half image second) (FIRST_SLOT + many)
        ∷ bodies (room_of (length image) base - (many + 1)) l)
        (drop-drop 31 (32 * (FIRST_SLOT + many) + 1) (half image second)
        ∙ ap (λ n. drop n (half image second)) place)

    -- Which spells a record,
    pub walked_step : (r : Record) → gate_at (half image second) (FIRST_SLOT + many) ≡ open_gate
        → Spells r (body_at (half image second) (FIRST_SLOT + many))
        → Walked image second base (many + 1) (records ++ r ∷ [])
    walked_step r is_open spells = record {
      bodies_are =
          walked.bodies_are
          ∙ ap (λ bs. map body_of records ++ bs) (one_more is_open)
          ∙ ap (λ b. map body_of records ++ (b ∷ later)) (sym spells.spelt)
          ∙ sym (append_assoc (map body_of records) (body_of r ∷ []) later)
          ∙ ap (λ bs. bs ++ later) (sym (map-append body_of records (r ∷ [])));
      in_range = All-append InRange records (r ∷ []) walked.in_range
          (All-cons InRange r [] spells.in_range (All-nil InRange));
      count = omega (arith, walked.count, length-append records (r ∷ []));
    }

    -- or none.
    pub walked_refused : (index : ℕ) → index ≡ base + many
        → gate_at (half image second) (FIRST_SLOT + many) ≡ open_gate
        → IsRefused (body_at (half image second) (FIRST_SLOT + many)) → IsRefusedIn image second base index
    walked_refused index number is_open refused = record {
      before = records;
      body = body_at (half image second) (FIRST_SLOT + many);
      later = later;
      bodies_are = walked.bodies_are ∙ ap (λ bs. map body_of records ++ bs) (one_more is_open);
      in_range = walked.in_range;
      count = omega (arith, number, walked.count);
      refused = refused;
    }

-- The records of a half that were replayed.

pub replayed_none : {R : Type 0} (replayed : R → ℕ → Carry → List Record → R → Type 0) (second : Bool) (base : ℕ)
    (carry : Carry) (first old : R) (images : List ℕ → Type 0) → replayed first base carry [] old
    → Replayed replayed base carry first old (base + 0)
    (λ records. (image : List ℕ) → images image → Walked image second base 0 records)
replayed_none replayed second base carry first old images begun = record {
  before = [];
  count = refl;
  over = begun;
  fact = λ image is. walked_none image second base;
}

pub replayed_on : {R : Type 0} (replayed : R → ℕ → Carry → List Record → R → Type 0) (second : Bool) (base : ℕ)
    (carry : Carry) (first old new : R) (many : ℕ) (r : Record) (images : List ℕ → Type 0)
    → Replayed replayed base carry first old (base + many)
    (λ records. (image : List ℕ) → images image → Walked image second base many records)
    → ((before : List Record) → base + many ≡ base + length before → replayed first base carry before old
    → replayed first base carry (r ∷ before) new)
    → ((image : List ℕ) → images image → (many < room_of (length image) base)
    × (gate_at (half image second) (FIRST_SLOT + many) ≡ open_gate)
    × Spells r (body_at (half image second) (FIRST_SLOT + many)))
    → Replayed replayed base carry first new (base + (many + 1))
    (λ records. (image : List ℕ) → images image → Walked image second base (many + 1) records)
replayed_on replayed second base carry first old new many r images so_far goes slot = record {
  before = r ∷ so_far.before;
  count = omega (arith, so_far.count);
  over = goes so_far.before so_far.count so_far.over;
  fact = λ image is.
      let here = slot image is in
      subst (Walked image second base (many + 1)) (sym (reverse-append (r ∷ []) so_far.before))
      (walked_step image second base many (reverse so_far.before) (so_far.fact image is) here.0 r here.1 here.2);
}

pub replayed_all : {R : Type 0} (replayed : R → ℕ → Carry → List Record → R → Type 0) (base : ℕ) (carry : Carry)
    (old new : R) (index end : ℕ) (holds are : List Record → Type 0) → end ≡ index
    → Replayed replayed base carry old new index holds
    → ((records : List Record) → holds records → are records) → Replayed replayed base carry old new end are
replayed_all replayed base carry old new index end holds are same over weaker = record {
  before = over.before;
  count = same ∙ over.count;
  over = over.over;
  fact = weaker (reverse over.before) over.fact;
}
