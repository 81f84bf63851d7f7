-- What the writes of a turn make of an image that has records in a half, of whatever version.
use Rattle.std.proofs.Common.{◌≡◌, ◌≢◌, ◌⊎◌, inl, inr, ℕ, ◌+◌, ◌*◌, ◌<◌, ◌≤◌, ◌==◌, Bool, true, false, not}
use Rattle.std.proofs.Common.{List, [], ◌∷◌, length, take, drop, slice_index, cond, refl, sym, ◌∙◌, ap, subst, arith}
use Rattle.std.proofs.Common.{eq-eqb}
use Rattle.std.proofs.lemmas.Bool.{cases_eq, eqb-true, ne_eqb, true≢false}
use Rattle.std.proofs.lemmas.List.{drop_more}
use Rattle.cct_model_lines.specs.declared.carry.Carry.{Carry}
use Rattle.cct_model_lines.specs.declared.record.Record.{Record}
use Rattle.cct_disk.specs.Disk.{SameOutside, put_at}
use Rattle.cct_disk.proofs.Ranges.{outside, put_outside}
use Rattle.cct_journal.specs.Half.{IsOpen, generation_in, half, has_open_gate, open_gate, slots_in, start_at}
use Rattle.cct_journal.specs.Image.{HasHalf, bodies, least_size, room_of}
use Rattle.cct_journal.specs.Gated.{IsBegun, behind_open_gate}
use Rattle.cct_journal.specs.Places.{after_turn, behind_start}
use Rattle.cct_journal.specs.Stands.{HasPlace}
use Rattle.cct_journal.specs.Turning.{IsTurnedBy, closed_by, closing_at, other_start, turned_by}
use Rattle.cct_journal.specs.declared.place.Place.{Place}
use Rattle.cct_journal.specs.Start.{MayBegin, start_of}
use Rattle.cct_journal.specs.declared.format.TheConstants.{START}
use Rattle.cct_journal.proofs.Bytes.{first_byte, put_there}
use Rattle.cct_journal.proofs.Beginnings.{begins_tells}
use Rattle.cct_journal.proofs.Begun.{begun_begins, begun_has, gate_byte, many, other_stays, same_size, staged, staged_long}
use Rattle.cct_journal.proofs.Sides.{half_byte, half_long, has_again, not_not, open_gate_first, other_same, own_same, start_fits}
use Rattle.cct_journal.proofs.Sides.{wins_over}

-- A gate that isn't open.
pub gate_is_shut : (bytes : List ℕ) → has_open_gate bytes ≡ false → slice_index bytes 0 ≢ open_gate
gate_is_shut bytes shut is_open = true≢false (sym (eq-eqb (slice_index bytes 0) open_gate is_open) ∙ shut)

-- The first write of a turn goes to the gate, if that is open, and else to the place after it.
abbrev pub ClosesAt : ℕ → Bool → ℕ → Type 0
ClosesAt start was at = (was ≡ true → at ≡ start) × (was ≡ false → at ≡ start + 1)

-- Bytes whose gate alone may have changed, and is what it was, are the same.
same_gate : (old new : List ℕ) → 0 < length old → SameOutside 0 1 old new → slice_index new 0 ≡ slice_index old 0
    → new ≡ old
same_gate old new long same gate =
    drop_more new 0 0 (omega (arith, same.size))
    ∙ ap (λ g. g ∷ drop 1 new) gate ∙ ap (λ (l : List ℕ). slice_index old 0 ∷ l) same.after
    ∙ sym (drop_more old 0 0 long)

-- What an image has in a half, which is the current one and has this generation: it stays while that half stays and the
-- other one isn't opened.
pub record IsKept (second : Bool) (generation : ℕ) (P : List ℕ → Type 0) : Type 0 where
  pub long : (image : List ℕ) → P image → least_size ≤ length image
  pub is_open : (image : List ℕ) → P image → IsOpen second (half image second)
  pub tells : (image : List ℕ) → P image → generation_in (half image second) ≡ generation
  pub stays : (image c : List ℕ) → P image → length c ≡ length image → half c second ≡ half image second
      → (IsOpen (not second) (half c (not second)) → half c (not second) ≡ half image (not second)) → P c

-- The records of a half of today are kept so.
pub half_kept : (second : Bool) (generation base : ℕ) (carry : Carry) (rest : List Record)
    → IsKept second generation (λ c. HasHalf c second generation base carry rest)
half_kept second generation base carry rest = record {
  long = λ image has. has.headed.long;
  is_open = λ image has. has.headed.current.is_open;
  tells = λ image has. begins_tells (half image second) has.headed.begins;
  stays = λ image c has size mine other.
      has_again image c second generation base carry rest rest has size (ap (λ (l : List ℕ). take START l) mine) other
      (ap (λ (l : List ℕ). bodies (room_of (length image) base) (drop START l)) mine ∙ has.records_are) has.in_range;
}

module _ (second : Bool) (generation : ℕ) (P : List ℕ → Type 0) (kept : IsKept second generation P) (image : List ℕ)
    (has : P image) where
  -- The other half is as long as a half.
  halves : 1184 ≤ 32 * slots_in (length image)
  halves = omega (arith, kept.long image has)

  -- A write in the other half leaves the current one.
  mine_same : (at p n : ℕ) (c : List ℕ) → at ≡ start_at (length image) (not second) + p → SameOutside at n image c
      → p + n ≤ 32 * slots_in (length image) → half c second ≡ half image second
  mine_same at p n c place same within =
      subst (λ side. half c side ≡ half image side) (not_not second)
      (other_same image (not second) at p place n c same within)

  -- Whatever a write of the other half's gate leaves, the image has what it had.
  closing_gate : (c : List ℕ) → has_open_gate (half image (not second)) ≡ true
      → SameOutside (start_at (length image) (not second)) 1 image c → P c
  closing_gate c was_open same =
      let place : start_at (length image) (not second) ≡ start_at (length image) (not second) + 0 = omega arith in
      let own = own_same image (not second) (start_at (length image) (not second)) 0 place 1 c same
      (omega (arith, halves)) in
      kept.stays image c has same.size (mine_same _ 0 1 c place same (omega (arith, halves)))
      (λ is_open. same_gate (half image (not second)) (half c (not second))
      (omega (arith, halves, half_long image (not second))) own
      (open_gate_first (half c (not second)) is_open
      ∙ sym (eqb-true (slice_index (half image (not second)) 0) open_gate was_open)))

  -- Whatever is after the other half's shut gate, it has.
  behind_shut : (c : List ℕ) (n : ℕ) → has_open_gate (half image (not second)) ≡ false
      → SameOutside (start_at (length image) (not second) + 1) n image c → 1 + n ≤ 32 * slots_in (length image) → P c
  behind_shut c n was_shut same within =
      let own = own_same image (not second) (start_at (length image) (not second) + 1) 1 refl n c same within in
      kept.stays image c has same.size (mine_same _ 1 n c refl same within)
      (λ is_open. absurd (gate_is_shut (half image (not second)) was_shut
      (sym (outside 1 n (half image (not second)) (half c (not second)) 0 own (inl (omega arith)))
      ∙ open_gate_first (half c (not second)) is_open)))

  close_fits : (was : Bool) (at : ℕ) → ClosesAt (start_at (length image) (not second)) was at → at + 1 ≤ length image
  close_fits true at places = omega (arith, places.0 refl, halves, start_fits (length image) (not second))
  close_fits false at places = omega (arith, places.1 refl, halves, start_fits (length image) (not second))

  -- Whatever the first write of a turn leaves, it has.
  pub closing : (was : Bool) (at : ℕ) → has_open_gate (half image (not second)) ≡ was
      → ClosesAt (start_at (length image) (not second)) was at → (c : List ℕ) → SameOutside at 1 image c → P c
  closing true at was places c same =
      closing_gate c was (subst (λ k. SameOutside k 1 image c) (places.0 refl) same)
  closing false at was places c same =
      behind_shut c 1 was (subst (λ k. SameOutside k 1 image c) (places.1 refl) same) (omega (arith, halves))

  -- So it is at the end.
  pub closed_has : (was : Bool) (at : ℕ) → has_open_gate (half image (not second)) ≡ was
      → ClosesAt (start_at (length image) (not second)) was at → P (put_at image at (0 ∷ []))
  closed_has was at gate places =
      closing was at gate places (put_at image at (0 ∷ [])) (put_outside at image (0 ∷ []) (close_fits was at places))

  -- And at the end the gate is shut.
  pub closed_gate : (was : Bool) (at : ℕ) → has_open_gate (half image (not second)) ≡ was
      → ClosesAt (start_at (length image) (not second)) was at
      → has_open_gate (half (put_at image at (0 ∷ [])) (not second)) ≡ false
  closed_gate true at was places =
      let c = put_at image at (0 ∷ []) in
      let here : at ≡ start_at (length image) (not second) + 0 = omega (arith, places.0 refl) in
      let fits : at + 1 ≤ length image = omega (arith, here, halves, start_fits (length image) (not second)) in
      let zero : slice_index (half c (not second)) 0 ≡ 0 =
      half_byte image c (not second) at 0 here (put_outside at image (0 ∷ []) fits).size (omega (arith, halves))
      ∙ first_byte c at 0 _ (put_there at (0 ∷ []) image fits) in
      ne_eqb (slice_index (half c (not second)) 0) open_gate (λ is. absurd (omega (arith, is, zero)))
  closed_gate false at was places =
      let c = put_at image at (0 ∷ []) in
      let here : at ≡ start_at (length image) (not second) + 1 = places.1 refl in
      let fits : at + 1 ≤ length image = omega (arith, here, halves, start_fits (length image) (not second)) in
      let own = own_same image (not second) at 1 here 1 c (put_outside at image (0 ∷ []) fits) (omega (arith, halves)) in
      ap (λ g. g == open_gate)
      (outside 1 1 (half image (not second)) (half c (not second)) 0 own (inl (omega arith))) ∙ was

  -- The current half is open.
  current_open : has_open_gate (half image second) ≡ true
  current_open = eq-eqb (slice_index (half image second) 0) open_gate
      (open_gate_first (half image second) (kept.is_open image has))

  module _ (used : ℕ) (new : Carry) (may : MayBegin (not second) (generation + 1) used new)
      (whole : length (start_of (generation + 1) used new) ≡ START)
      (was_shut : has_open_gate (half image (not second)) ≡ false) where
    -- The image after the first write of those that begin the other half.
    abbrev begun : List ℕ
    begun = staged image (not second) (generation + 1) used new may (kept.long image has) whole

    module _ (c : List ℕ) (gated : SameOutside (start_at (length image) (not second)) 1 begun c) where
      -- The half that was the current one stays.
      mine_stays : half c second ≡ half image second
      mine_stays =
          subst (λ side. half c side ≡ half image side) (not_not second)
          (other_stays image (not second) (generation + 1) used new may (kept.long image has) whole c gated)

      -- While the gate isn't open, the image has what it had.
      turn_not : slice_index c (start_at (length image) (not second)) ≢ open_gate → P c
      turn_not shut =
          kept.stays image c has
          (same_size image (not second) (generation + 1) used new may (kept.long image has) whole c gated) mine_stays
          (λ is_open. absurd (shut
          (sym (gate_byte image (not second) (generation + 1) used new may (kept.long image has) whole c gated)
          ∙ open_gate_first (half c (not second)) is_open)))

      -- When it is, the other half is the current one, and has no record yet.
      turn_is : slice_index c (start_at (length image) (not second)) ≡ open_gate
          → HasHalf c (not second) (generation + 1) used new []
      turn_is is_open =
          let begins = begun_begins image (not second) (generation + 1) used new may (kept.long image has) whole c gated
          is_open in
          let mine : generation_in (half c (not second)) ≡ generation + 1 = begins_tells (half c (not second)) begins in
          let other : generation_in (half c (not (not second))) ≡ generation =
          subst (λ side. generation_in (half c side) ≡ generation) (sym (not_not second))
          (ap generation_in mine_stays ∙ kept.tells image has) in
          begun_has image (not second) (generation + 1) used new may (kept.long image has) whole c gated is_open
          (wins_over (not second) (half c (not second)) (half c (not (not second))) (omega (arith, mine, other)))

    -- At each moment the image has what it had, or the other half is the current one.
    pub begun_either : (c : List ℕ)
        → IsBegun (start_at (length image) (not second)) (behind_start (generation + 1) used new) image c
        → P c ⊎ HasHalf c (not second) (generation + 1) used new []
    begun_either c (inl torn) =
        inl (behind_shut c (length (behind_start (generation + 1) used new)) was_shut torn
        (omega (arith, halves, many image (not second) (generation + 1) used new may (kept.long image has) whole)))
    begun_either c (inr gated) =
        elim (cases_eq (slice_index c (start_at (length image) (not second))) open_gate) [
          | inl is_open ↦ inr (turn_is c gated is_open)
          | inr shut ↦ inl (turn_not c gated shut)
        ]

    abbrev turned : List ℕ
    turned = behind_open_gate (start_at (length image) (not second)) (behind_start (generation + 1) used new) image

    -- The gate lies within the image.
    one_more : start_at (length image) (not second) + 1 ≤ length begun
    one_more = staged_long image (not second) (generation + 1) used new may (kept.long image has) whole

    -- The last write is one of the gate.
    turned_gated : SameOutside (start_at (length image) (not second)) 1 begun turned
    turned_gated = put_outside (start_at (length image) (not second)) begun (open_gate ∷ []) one_more

    -- At the end it is.
    pub turned_has : HasHalf (behind_open_gate (start_at (length image) (not second))
        (behind_start (generation + 1) used new) image) (not second) (generation + 1) used new []
    turned_has =
        turn_is turned turned_gated
        (first_byte turned (start_at (length image) (not second)) open_gate _
        (put_there (start_at (length image) (not second)) (open_gate ∷ []) begun one_more))

    -- The gate of the half that was the current one is open.
    pub turned_gate : has_open_gate (half (behind_open_gate (start_at (length image) (not second))
        (behind_start (generation + 1) used new) image) (not (not second))) ≡ true
    turned_gate =
        subst (λ side. has_open_gate (half turned side) ≡ true) (sym (not_not second))
        (ap has_open_gate (mine_stays turned turned_gated) ∙ current_open)

-- A turn, from its first write to its last.
module _ (place : Place) (P : List ℕ → Type 0) (kept : IsKept place.second place.generation P) (carry : Carry)
    (may : MayBegin (not place.second) (place.generation + 1) place.used carry)
    (whole : length (start_of (place.generation + 1) place.used carry) ≡ START) (image : List ℕ) (has : P image)
    (gate : has_open_gate (half image (not place.second)) ≡ place.other_open) where
  -- The first write goes where it should.
  closes : ClosesAt (other_start place image) place.other_open (closing_at place image)
  closes = (
    λ is_open. ap (λ b. cond b (other_start place image) (other_start place image + 1)) is_open,
    λ shut. ap (λ b. cond b (other_start place image) (other_start place image + 1)) shut,
  )

  -- After it the image has what it had.
  closed : P (closed_by place image)
  closed = closed_has place.second place.generation P kept image has place.other_open (closing_at place image) gate closes

  closed_shut : has_open_gate (half (closed_by place image) (not place.second)) ≡ false
  closed_shut =
      closed_gate place.second place.generation P kept image has place.other_open (closing_at place image) gate closes

  -- At each moment it has that, or the other half is the current one and has no record yet.
  pub turning_either : (c : List ℕ) → IsTurnedBy place carry image c
      → P c ⊎ HasHalf c (not place.second) (place.generation + 1) place.used carry []
  turning_either c (inl same) =
      inl (closing place.second place.generation P kept image has place.other_open (closing_at place image) gate closes c same)
  turning_either c (inr begun) =
      begun_either place.second place.generation P kept (closed_by place image) closed place.used carry may whole
      closed_shut c begun

  -- At the end it is,
  pub turning_has : HasPlace (turned_by place carry image) (after_turn place carry) []
  turning_has =
      turned_has place.second place.generation P kept (closed_by place image) closed place.used carry may whole
      closed_shut

  -- and the gate of the half that was the current one is open.
  pub turning_gate : has_open_gate (half (turned_by place carry image) (not (not place.second))) ≡ true
  turning_gate =
      turned_gate place.second place.generation P kept (closed_by place image) closed place.used carry may whole
      closed_shut
