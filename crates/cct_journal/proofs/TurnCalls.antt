-- What the calls of a turn make of a disk on which a journal stands.
use Rattle.std.proofs.Common.{◌≡◌, inl, ⊎_elim, true, false, ℕ, ◌+◌, ◌<◌, ◌≤◌, Bool, not, Option, Some}
use Rattle.std.proofs.Common.{List, [], ◌∷◌, length, cond, refl, sym, ◌∙◌, ap, subst, arith}
use Rattle.std.proofs.lemmas.List.{append-nil}
use Rattle.cct_model_lines.specs.Carried.{IsRightly}
use Rattle.cct_model_lines.specs.declared.carry.Carry.{Carry}
use Rattle.cct_model_lines.specs.declared.record.Record.{Record}
use Rattle.cct_disk.specs.Disk.{Holds, LeavesOnly, SameOutside, put_at}
use Rattle.cct_journal.specs.declared.format.TheConstants.{MOST_RECORDS, START}
use Rattle.cct_journal.specs.declared.place.Place.{Place}
use Rattle.cct_journal.specs.Image.{Continues, StandsFor, StandsForOneOf, room_of}
use Rattle.cct_journal.specs.Places.{after_turn}
use Rattle.cct_journal.specs.Stands.{HasPlace, IsPlaced, Puts, Stands, StandsWith}
use Rattle.cct_journal.specs.Start.{HasParity, MayBegin, start_of}
use Rattle.cct_journal.specs.Half.{start_at}
use Rattle.cct_journal.specs.Turning.{IsClosing, IsTurnedBy, closed_by, closing_at, other_start, turned_by}
use Rattle.cct_journal.proofs.Calls.{stands_for}
use Rattle.cct_journal.proofs.Moments.{started, then, weaker}
use Rattle.cct_journal.proofs.Turns.{IsKept, half_kept, turning_either, turning_gate, turning_has}

-- The next generation has the other half's parity.
next_parity : (second : Bool) (generation : ℕ) → HasParity second generation → HasParity (not second) (generation + 1)
next_parity false generation even = omega (arith, even)
next_parity true generation odd = omega (arith, odd)

-- The other half may begin with all records, where the journal hasn't turned more often than it has records.
pub may_turn_at : (second : Bool) (generation used : ℕ) (carry : Carry) → HasParity second generation
    → generation ≤ used → generation < MOST_RECORDS → used ≤ MOST_RECORDS → IsRightly used carry
    → MayBegin (not second) (generation + 1) used carry
may_turn_at second generation used carry parity turned few fits rightly = record {
  parity = next_parity second generation parity;
  turned = omega (arith, turned);
  generation_fits = omega (arith, few);
  base_fits = fits;
  rightly = rightly;
}

-- So it may after a full half.
pub turned_few : (size : ℕ) (place : Place) → IsPlaced size place
    → place.used ≡ place.base + room_of size place.base → place.used < MOST_RECORDS → place.generation ≤ place.used
turned_few size place placed full few = omega (arith, placed.begins.turned, placed.begins.base_fits, placed.long, full, few)

pub may_turn : (size : ℕ) (place : Place) (carry : Carry) → IsPlaced size place
    → place.used ≡ place.base + room_of size place.base → place.used < MOST_RECORDS → IsRightly place.used carry
    → MayBegin (not place.second) (place.generation + 1) place.used carry
may_turn size place carry placed full few rightly =
    let turned = turned_few size place placed full few in
    may_turn_at place.second place.generation place.used carry placed.begins.parity turned (omega (arith, turned, few))
    (omega (arith, few)) rightly

-- The place of the first write.
closing_by : (is_open : Bool) (start at from : ℕ) → start ≡ from → (is_open ≡ true → at ≡ start)
    → (is_open ≡ false → at ≡ start + 1) → at ≡ cond is_open from (from + 1)
closing_by true start at from same opened shut = opened refl ∙ same
closing_by false start at from same opened shut = shut refl ∙ ap (λ n. n + 1) same

-- Where the other half begins.
pub start_here : {D : Type 0} (size : D → ℕ) (seen : D → Option (List ℕ))
    → ((disk : D) (s : List ℕ) → seen disk ≡ Some s → length s ≡ size disk) → (old : D) (place : Place) (len : ℕ)
    → len ≡ size old → (start : ℕ) → start ≡ start_at len (not place.second) → (image : List ℕ) → seen old ≡ Some image
    → start ≡ other_start place image
start_here size seen fits old place len len_is start start_is image told =
    start_is ∙ ap (λ n. start_at n (not place.second)) (len_is ∙ sym (fits old image told))

-- The first two calls.
module _ {D : Type 0} (size : D → ℕ) (honest : D → Bool) (seen : D → Option (List ℕ)) (may_leave : D → List ℕ → Type 0)
    (moment : D → ℕ) (left_since : D → ℕ → List ℕ → Type 0)
    (fits : (disk : D) (s : List ℕ) → seen disk ≡ Some s → length s ≡ size disk)
    (old : D) (place : Place) (len : ℕ) (len_is : len ≡ size old) (start : ℕ)
    (start_is : start ≡ start_at len (not place.second)) (at : ℕ) (opened : place.other_open ≡ true → at ≡ start)
    (shut : place.other_open ≡ false → at ≡ start + 1) (image : List ℕ)
    (held : Holds honest seen may_leave old image) where
  -- The write goes where it should.
  closing_here : at ≡ closing_at place image
  closing_here =
      closing_by place.other_open start at (other_start place image)
      (start_here size seen fits old place len len_is start start_is image held.tells) opened shut

  pub close_moments : (new : D) → LeavesOnly moment left_since old new (SameOutside at 1 image)
      → LeavesOnly moment left_since old new (IsClosing place image)
  close_moments new run = subst (λ k. LeavesOnly moment left_since old new (SameOutside k 1 image)) closing_here run

  pub close_done : (new : D) → Holds honest seen may_leave new (put_at image at (0 ∷ []))
      → Holds honest seen may_leave new (closed_by place image)
  close_done new run = subst (λ k. Holds honest seen may_leave new (put_at image k (0 ∷ []))) closing_here run

module _ {D : Type 0} (size : D → ℕ) (honest : D → Bool) (seen : D → Option (List ℕ)) (may_leave : D → List ℕ → Type 0)
    (moment : D → ℕ) (left_since : D → ℕ → List ℕ → Type 0) (old : D) (place : Place) (carry : Carry)
    (placed : IsPlaced (size old) place) (full : place.used ≡ place.base + room_of (size old) place.base)
    (few : place.used < MOST_RECORDS) (rightly : IsRightly place.used carry)
    (whole : length (start_of (place.generation + 1) place.used carry) ≡ START) (carry_of : List Record → Carry)
    (records : List Record) (with_carry : StandsWith carry_of honest seen may_leave old place carry records) where
  -- The other half may begin.
  turns : MayBegin (not place.second) (place.generation + 1) place.used carry
  turns = may_turn (size old) place carry placed full few rightly

  -- All records are those of the carry.
  all_carried : Continues carry_of place.used carry [] records
  all_carried = record {
    first = records;
    all = sym (append-nil records);
    many = with_carry.stands.count;
    carry_is = with_carry.carry_is;
  }

  -- What the image has is kept up to the last write.
  kept : IsKept place.second place.generation (λ c. HasPlace c place with_carry.stands.rest)
  kept = half_kept place.second place.generation place.base place.carry with_carry.stands.rest

  -- At each moment an image represents the records.
  pub turn_moments : (new : D)
      → ((image : List ℕ) → Holds honest seen may_leave old image
      → LeavesOnly moment left_since old new (IsTurnedBy place carry image))
      → LeavesOnly moment left_since old new (λ c. StandsFor carry_of c records)
  turn_moments new run =
      let stands = with_carry.stands in
      weaker moment left_since old new (IsTurnedBy place carry stands.image) (λ c. StandsFor carry_of c records)
      (λ c turning. ⊎_elim (λ has. stands_for has stands.continues) (λ has. stands_for has all_carried)
      (turning_either place (λ c. HasPlace c place stands.rest) kept carry turns whole stands.image stands.has
      stands.other_gate c turning))
      (run stands.image stands.held)

  -- At the end the journal does, in the other half.
  pub turn_done : (new : D)
      → ((image : List ℕ) → Holds honest seen may_leave old image
      → Holds honest seen may_leave new (turned_by place carry image))
      → Stands carry_of honest seen may_leave new (after_turn place carry) records
  turn_done new run =
      let stands = with_carry.stands in record {
        image = turned_by place carry stands.image;
        held = run stands.image stands.held;
        rest = [];
        has = turning_has place (λ c. HasPlace c place stands.rest) kept carry turns whole stands.image stands.has
            stands.other_gate;
        continues = all_carried;
        count = stands.count;
        other_gate = turning_gate place (λ c. HasPlace c place stands.rest) kept carry turns whole stands.image stands.has
            stands.other_gate;
      }

-- Without a call a disk on which a journal stands leaves its image.
pub same_moments : {D : Type 0} {honest : D → Bool} {seen : D → Option (List ℕ)} {may_leave : D → List ℕ → Type 0}
    {moment : D → ℕ} {left_since : D → ℕ → List ℕ → Type 0} {disk : D} {place : Place}
    {carry_of : List Record → Carry} {records : List Record}
    → ((disk : D) (c : List ℕ) → left_since disk (moment disk) c → may_leave disk c)
    → Stands carry_of honest seen may_leave disk place records
    → LeavesOnly moment left_since disk disk (λ c. StandsFor carry_of c records)
same_moments {D} {honest} {seen} {may_leave} {moment} {left_since} {disk} {place} {carry_of} {records} only_now stands =
    started moment left_since disk (λ c. StandsFor carry_of c records) (may_leave disk) (only_now disk)
    (λ c left. subst (λ (image : List ℕ). StandsFor carry_of image records) (sym (stands.held.only c left))
    (stands_for stands.has stands.continues))

-- A put after a turn, or after none.
module _ {D : Type 0} {honest : D → Bool} {seen : D → Option (List ℕ)} {may_leave : D → List ℕ → Type 0}
    (moment : D → ℕ) (left_since : D → ℕ → List ℕ → Type 0) (old mid : D) (place : Place) (carry : Carry)
    (entry : Record) (calls : ℕ)
    (turning : (carry_of : List Record → Carry) (records : List Record)
    → StandsWith carry_of honest seen may_leave old place carry records
    → LeavesOnly moment left_since old mid (λ c. StandsFor carry_of c records)) where
  -- Where the put made no call.
  pub turned_puts : Puts honest seen may_leave moment left_since place carry entry calls old mid
  turned_puts = record {
    each = λ carry_of records stands.
        weaker moment left_since old mid (λ c. StandsFor carry_of c records) (StandsForOneOf carry_of records entry)
        (λ c has. inl has) (turning carry_of records stands);
    early = λ few carry_of records stands. turning carry_of records stands;
  }

  -- Where it made some.
  pub puts_after : (new : D) (now : Place)
      → ((carry_of : List Record → Carry) (records : List Record)
      → StandsWith carry_of honest seen may_leave old place carry records
      → Stands carry_of honest seen may_leave mid now records)
      → ((carry_of : List Record → Carry) (records : List Record) → Stands carry_of honest seen may_leave mid now records
      → LeavesOnly moment left_since mid new (StandsForOneOf carry_of records entry))
      → (calls ≤ 2 → (carry_of : List Record → Carry) (records : List Record)
      → Stands carry_of honest seen may_leave mid now records
      → LeavesOnly moment left_since mid new (λ c. StandsFor carry_of c records))
      → Puts honest seen may_leave moment left_since place carry entry calls old new
  puts_after new now turned putting brief = record {
    each = λ carry_of records stands.
        then moment left_since old mid new (StandsForOneOf carry_of records entry)
        (turned_puts.each carry_of records stands)
        (putting carry_of records (turned carry_of records stands));
    early = λ few carry_of records stands.
        then moment left_since old mid new (λ c. StandsFor carry_of c records) (turning carry_of records stands)
        (brief few carry_of records (turned carry_of records stands));
  }
