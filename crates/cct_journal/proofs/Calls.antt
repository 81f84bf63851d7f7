-- What the calls of a put make of a disk on which a journal stands.
use Rattle.std.proofs.Common.{◌≡◌, ◌⊎◌, inl, inr, ⊎_elim, ℕ, ◌+◌, ◌-◌, ◌*◌, ◌<◌, ◌≤◌, Bool, not, Option, Some, is_some, List, [], ◌∷◌}
use Rattle.std.proofs.Common.{◌++◌, length, take, refl, sym, ◌∙◌, ap, subst, arith, append_assoc, length-append}
use Rattle.std.proofs.lemmas.List.{append-nil, take_at, length-take-le}
use Rattle.cct_model_lines.specs.declared.carry.Carry.{Carry}
use Rattle.cct_model_lines.specs.declared.record.Record.{Record}
use Rattle.cct_record.specs.Body.{InRange, body_of}
use Rattle.cct_disk.specs.Disk.{Holds, LeavesOnly, SameOutside}
use Rattle.cct_journal.specs.declared.format.TheConstants.{FIRST_SLOT}
use Rattle.cct_journal.specs.declared.place.Place.{Place}
use Rattle.cct_journal.specs.Half.{half, has_open_gate, slots_in, start_at}
use Rattle.cct_journal.specs.Image.{Continues, HasHalf, StandsFor, StandsForOneOf, room_of}
use Rattle.cct_journal.specs.Gated.{IsBegun, behind_open_gate}
use Rattle.cct_journal.specs.Places.{after_put}
use Rattle.cct_journal.specs.Stands.{IsPlaced, Leaves, Settled, Stands}
use Rattle.cct_journal.proofs.Moments.{weaker}
use Rattle.cct_journal.proofs.Puts.{begun_has, body_torn, gate_in, written_has, written_other}
use Rattle.cct_journal.proofs.Slotted.{PutBytes, gate_place}

-- An image whose current half has these records represents them and those before.
pub stands_for : {carry_of : List Record → Carry} {image : List ℕ} {second : Bool} {generation base : ℕ}
    {carry : Carry} {rest records : List Record} → HasHalf image second generation base carry rest
    → Continues carry_of base carry rest records → StandsFor carry_of image records
stands_for {carry_of} {image} {second} {generation} {base} {carry} {rest} {records} has continues = record {
  base = base;
  carry = carry;
  rest = rest;
  has = record { second = second; generation = generation; current = has };
  continues = continues;
}

-- One more record is one more of the half.
pub one_more : {carry_of : List Record → Carry} {base : ℕ} {carry : Carry} {rest records : List Record}
    (entry : Record) → Continues carry_of base carry rest records
    → Continues carry_of base carry (rest ++ entry ∷ []) (records ++ entry ∷ [])
one_more {carry_of} {base} {carry} {rest} {records} entry continues = record {
  first = continues.first;
  all = ap (λ (l : List Record). l ++ entry ∷ []) continues.all ∙ append_assoc continues.first rest (entry ∷ []);
  many = continues.many;
  carry_is = continues.carry_is;
}

-- So many bytes are written after the gate of a slot: with the gate of the next one, if there is one.
abbrev pub IsCount : ℕ → ℕ → ℕ → Type 0
IsCount slots slot count = ((count ≡ 32) × (slot + 1 < slots)) ⊎ ((count ≡ 31) × (slots ≤ slot + 1))

-- What is written so.
put_bytes : (slots n many count : ℕ) (body spelt : List ℕ) → length body ≡ 31 → spelt ≡ body ++ 0 ∷ []
    → IsCount slots (FIRST_SLOT + many) count → n ≤ slots - FIRST_SLOT → PutBytes n many body (take count spelt)
put_bytes slots n many count body spelt whole is which few = record {
  whole = whole;
  are = elim which [
    | inl more ↦ inl (ap (λ k. take k spelt) more.0 ∙ ap (λ (l : List ℕ). take 32 l)
        (is ∙ sym (append-nil (body ++ 0 ∷ [])))
        ∙ take_at (body ++ 0 ∷ []) [] 32 (omega (arith, whole, length-append body (0 ∷ []))))
    | inr last ↦ inr (
      ap (λ k. take k spelt) last.0 ∙ ap (λ (l : List ℕ). take 31 l) is ∙ take_at body (0 ∷ []) 31 whole,
      omega (arith, last.1, few),
    )
  ];
}

-- It lies within the half.
put_within : (slots many count : ℕ) (spelt : List ℕ) → length spelt ≡ 32 → FIRST_SLOT + many < slots
    → IsCount slots (FIRST_SLOT + many) count → gate_place many + 1 + length (take count spelt) ≤ 32 * slots
put_within slots many count spelt long few which = elim which [
  | inl more ↦ omega (arith, more.1, length-take-le count spelt (omega (arith, long, more.0)), more.0)
  | inr last ↦ omega (arith, few, length-take-le count spelt (omega (arith, long, last.0)), last.0)
]

module _ {D : Type 0} (size : D → ℕ) (honest : D → Bool) (seen : D → Option (List ℕ)) (may_leave : D → List ℕ → Type 0)
    (moment : D → ℕ) (left_since : D → ℕ → List ℕ → Type 0)
    (fits : (disk : D) (s : List ℕ) → seen disk ≡ Some s → length s ≡ size disk)
    (old : D) (place : Place) (entry : Record) (placed : IsPlaced (size old) place)
    (room : place.used < place.base + room_of (size old) place.base) (in_range : InRange entry) (spelt : List ℕ)
    (long : length spelt ≡ 32) (spelt_is : spelt ≡ body_of entry ++ 0 ∷ []) (count : ℕ)
    (len : ℕ) (len_is : len ≡ size old) (index : ℕ) (index_is : index ≡ place.used - place.base) (start : ℕ)
    (start_is : start ≡ start_at len place.second) (slots : ℕ) (slots_is : slots ≡ slots_in len)
    (which : IsCount slots (FIRST_SLOT + index) count) where
  -- A body has 31 bytes.
  whole : length (body_of entry) ≡ 31
  whole = omega (arith, long, ap length spelt_is, length-append (body_of entry) (0 ∷ []))

  module _ (carry_of : List Record → Carry) (records : List Record)
      (stands : Stands carry_of honest seen may_leave old place records) where
    -- The image is as long as the disk.
    size_is : length stands.image ≡ size old
    size_is = fits old stands.image stands.held.tells

    -- So many records are in the half.
    many : place.used - place.base ≡ length stands.rest
    many = omega (
      arith,
      stands.count,
      stands.continues.many,
      ap length stands.continues.all,
      length-append stands.continues.first stands.rest,
    )

    -- The half has room.
    few : length stands.rest < room_of (length stands.image) place.base
    few = subst (λ n. length stands.rest < room_of n place.base) (sym size_is) (omega (arith, many, room))

    -- The gate is that of the slot after them.
    gate_here : gate_in (length stands.image) place.second (length stands.rest) ≡ start + 32 * (FIRST_SLOT + index)
    gate_here =
        let there : gate_place (length stands.rest) ≡ 32 * (FIRST_SLOT + index) = omega (arith, many, index_is) in
        ap (λ n. start_at n place.second + gate_place (length stands.rest)) (size_is ∙ sym len_is)
        ∙ ap (λ k. start_at len place.second + k) there ∙ ap (λ k. k + 32 * (FIRST_SLOT + index)) (sym start_is)

    -- So many bytes are written after it.
    count_here : IsCount (slots_in (length stands.image)) (FIRST_SLOT + length stands.rest) count
    count_here =
        subst (λ n. IsCount (slots_in n) (FIRST_SLOT + length stands.rest) count) (len_is ∙ sym size_is)
        (subst (λ k. IsCount (slots_in len) (FIRST_SLOT + k) count) (index_is ∙ many)
        (subst (λ n. IsCount n (FIRST_SLOT + index) count) slots_is which))

    -- What a put writes first.
    bytes_are : PutBytes (room_of (length stands.image) place.base) (length stands.rest) (body_of entry)
        (take count spelt)
    bytes_are =
        put_bytes (slots_in (length stands.image)) (room_of (length stands.image) place.base) (length stands.rest) count
        (body_of entry) spelt whole spelt_is count_here (omega arith)

    -- It lies within the half.
    within : gate_place (length stands.rest) + 1 + length (take count spelt) ≤ 32 * slots_in (length stands.image)
    within = put_within (slots_in (length stands.image)) (length stands.rest) count spelt long (omega (arith, few))
        count_here

    -- At each moment an image stands for the records, or for these and the new one.
    pub slot_moments : (new : D)
        → ((image : List ℕ) → Holds honest seen may_leave old image
        → LeavesOnly moment left_since old new (IsBegun (start + 32 * (FIRST_SLOT + index)) (take count spelt) image))
        → LeavesOnly moment left_since old new (StandsForOneOf carry_of records entry)
    slot_moments new run =
        weaker moment left_since old new (IsBegun (start + 32 * (FIRST_SLOT + index)) (take count spelt) stands.image)
        (StandsForOneOf carry_of records entry)
        (subst (λ g. (c : List ℕ) → IsBegun g (take count spelt) stands.image c
        → StandsForOneOf carry_of records entry c) gate_here
        (λ c begun. ⊎_elim (λ has. inl (stands_for has stands.continues))
        (λ has. inr (stands_for has (one_more entry stands.continues)))
        (begun_has stands.image place.second place.generation place.base place.carry stands.rest entry stands.has few
        in_range (body_of entry) (take count spelt) refl bytes_are within c begun)))
        (run stands.image stands.held)

    -- And for the records alone while the gate isn't written.
    pub slot_early : (new : D)
        → ((image : List ℕ) → Holds honest seen may_leave old image
        → LeavesOnly moment left_since old new (SameOutside (start + 32 * (FIRST_SLOT + index) + 1) (length (take count spelt)) image))
        → LeavesOnly moment left_since old new (λ c. StandsFor carry_of c records)
    slot_early new run =
        weaker moment left_since old new (SameOutside (start + 32 * (FIRST_SLOT + index) + 1) (length (take count spelt)) stands.image)
        (λ c. StandsFor carry_of c records)
        (subst (λ g. (c : List ℕ) → SameOutside (g + 1) (length (take count spelt)) stands.image c
        → StandsFor carry_of c records) gate_here
        (λ c torn. stands_for
        (body_torn stands.image place.second place.generation place.base place.carry stands.rest entry stands.has few
        in_range (body_of entry) (take count spelt) refl bytes_are within c torn) stands.continues))
        (run stands.image stands.held)

    -- At the end it represents the latter, and the journal too.
    pub slot_done : (new : D)
        → ((image : List ℕ) → Holds honest seen may_leave old image
        → Holds honest seen may_leave new (behind_open_gate (start + 32 * (FIRST_SLOT + index)) (take count spelt) image))
        → Stands carry_of honest seen may_leave new (after_put place) (records ++ entry ∷ [])
    slot_done new run =
        let written = behind_open_gate (start + 32 * (FIRST_SLOT + index)) (take count spelt) stands.image in
        record {
          image = written;
          held = run stands.image stands.held;
          rest = stands.rest ++ entry ∷ [];
          has = subst (λ g. HasHalf (behind_open_gate g (take count spelt) stands.image) place.second place.generation
              place.base place.carry (stands.rest ++ entry ∷ [])) gate_here
              (written_has stands.image place.second place.generation place.base place.carry stands.rest entry
              stands.has few in_range (body_of entry) (take count spelt) refl bytes_are within);
          continues = one_more entry stands.continues;
          count = omega (arith, stands.count, length-append records (entry ∷ []));
          other_gate = subst (λ g. has_open_gate (half (behind_open_gate g (take count spelt) stands.image)
              (not place.second)) ≡ place.other_open) gate_here
              (ap has_open_gate
              (written_other stands.image place.second place.generation place.base place.carry stands.rest entry
              stands.has few in_range (body_of entry) (take count spelt) refl bytes_are within)
              ∙ stands.other_gate);
        }

-- A journal's disk keeps just one image, and a power cut leaves that.
pub stands_settled : {D : Type 0} {honest : D → Bool} {seen : D → Option (List ℕ)} {may_leave : D → List ℕ → Type 0}
    {disk : D} {place : Place} {carry_of : List Record → Carry} {records : List Record}
    → Stands carry_of honest seen may_leave disk place records → Settled carry_of honest seen may_leave disk records
stands_settled stands =
    record { image = stands.image; held = stands.held; stands = stands_for stands.has stands.continues }

-- A disk that keeps just one image leaves that.
pub settled_leaves : {D : Type 0} {honest : D → Bool} {seen : D → Option (List ℕ)} {may_leave : D → List ℕ → Type 0}
    {disk : D} {carry_of : List Record → Carry} {records : List Record}
    → Settled carry_of honest seen may_leave disk records → Leaves carry_of honest seen may_leave disk records
settled_leaves {D} {honest} {seen} {may_leave} {disk} {carry_of} {records} settled = record {
  keeps_synced = settled.held.keeps_synced;
  tells = ap is_some settled.held.tells;
  each = λ c left. subst (λ (image : List ℕ). StandsFor carry_of image records) (sym (settled.held.only c left))
      settled.stands;
}
