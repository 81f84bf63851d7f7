-- A blank image, and the header that is laid on it.
use Rattle.std.proofs.Common.{◌≡◌, ◌≢◌, inl, inr, true, false, Bool, Option, Some, None, ℕ, ◌+◌, ◌-◌, ◌*◌, ◌<◌, ◌≤◌, List, [], ◌∷◌}
use Rattle.std.proofs.Common.{length, take, drop, slice_index, refl, sym, ◌∙◌, ap, arith, rules, subst}
use Rattle.std.specs.Option.{MatchOption, is_some}
use Rattle.std.proofs.lemmas.Bool.{cases_eq, cases_lt, ne_eqb}
use Rattle.std.proofs.lemmas.List.{get_or-take, get_or-drop}
use Rattle.std.proofs.lemmas.List.Elements.{All-nil}
use Rattle.cct_model_lines.specs.Carried.{EpochFits, IsRightly, OrderFits, empty_carry}
use Rattle.cct_model_lines.specs.declared.carry.Carry.{Carry}
use Rattle.cct_model_lines.specs.declared.record.Record.{Record}
use Rattle.cct_disk.specs.Disk.{Holds, SameOutside}
use Rattle.cct_disk.proofs.Ranges.{outside, put_outside}
use Rattle.cct_journal.specs.Half.{half, has_open_gate, open_gate, slots_in, start_at}
use Rattle.cct_journal.specs.Image.{IsAlien, IsBlank, IsBlankBetween, IsFirstByteFrom, least_size}
use Rattle.cct_journal.specs.Creating.{IsCreated, IsEmpty}
use Rattle.cct_journal.specs.Gated.{IsBegun, behind_open_gate}
use Rattle.cct_journal.specs.Places.{behind_start}
use Rattle.cct_journal.specs.Stands.{Stands}
use Rattle.cct_journal.specs.Start.{MayBegin, start_of}
use Rattle.cct_journal.specs.declared.format.TheConstants.{START}
use Rattle.cct_journal.proofs.Begun.{begun_has, gate_byte, many, other_stays, staged, staged_long}
use Rattle.cct_journal.proofs.Bytes.{first_byte, put_there}
use Rattle.cct_journal.proofs.Sides.{half_byte, open_gate_first, other_same, own_same, start_fits}

-- a byte of a block is one of the image
block_byte : (room image : List ℕ) (at : ℕ) → room ≡ take (length room) (drop at image) → (p : ℕ) → at ≤ p
    → p < at + length room → slice_index image p ≡ slice_index room (p - at)
block_byte room image at read p behind before =
    let place : p ≡ at + (p - at) = omega arith in
    let few : p - at < length room = omega arith in
    sym (ap (λ (l : List ℕ). slice_index l (p - at)) read ∙ get_or-take (length room) (drop at image) (p - at) 0 few
    ∙ get_or-drop at image (p - at) 0 ∙ ap (λ k. slice_index image k) (sym place))

-- what is found in a block is found in the image
pub block_found : (room image : List ℕ) (at : ℕ) (found : Option ℕ) → room ≡ take (length room) (drop at image)
    → at + length room ≤ length image → MatchOption found (IsBlank room) (IsFirstByteFrom 0 room)
    → MatchOption found (IsBlankBetween at (at + length room) image) (λ index. IsFirstByteFrom at image (at + index))
block_found room image at None read inside blank = λ p behind before.
    block_byte room image at read p behind before ∙ blank (p - at) (omega arith) (omega arith)
block_found room image at (Some index) read inside first = record {
  behind = omega arith;
  is_there = omega (arith, first.is_there);
  blank_before = λ p behind before. block_byte room image at read p behind (omega (arith, first.is_there))
      ∙ first.blank_before (p - at) (omega arith) (omega arith);
  not_zero = λ zero.
      let place : index ≡ at + index - at = omega arith in
      first.not_zero (ap (λ k. slice_index room k) place
      ∙ sym (block_byte room image at read (at + index) (omega arith) (omega (arith, first.is_there))) ∙ zero);
}

-- a blank block after blank bytes
pub blank_more : (image : List ℕ) (at to : ℕ) → IsBlankBetween 0 at image → IsBlankBetween at to image
    → IsBlankBetween 0 to image
blank_more image at to first second p behind before =
    elim (cases_lt p at) [ inl below ↦ first p behind below | inr above ↦ second p above before ]

-- the first byte of a block after blank bytes
pub blank_first : (image : List ℕ) (at place : ℕ) → IsBlankBetween 0 at image → IsFirstByteFrom at image place
    → IsFirstByteFrom 0 image place
blank_first image at place blank first = record {
  behind = omega arith;
  is_there = first.is_there;
  blank_before = blank_more image at place blank first.blank_before;
  not_zero = first.not_zero;
}

-- The carry of no record may be one.
pub empty_rightly : IsRightly 0 empty_carry
empty_rightly = record {
  epochs_rise = tt;
  orders_rise = tt;
  epochs_fit = All-nil EpochFits;
  orders_fit = All-nil OrderFits;
  epochs_few = omega arith;
  orders_few = omega arith;
  few = omega arith;
  each = omega arith;
  small = search rules;
  last = omega arith;
  none_used = λ _. refl;
}

-- The first half may begin with it.
pub empty_may : MayBegin false 0 0 empty_carry
empty_may = record {
  parity = refl;
  turned = omega arith;
  generation_fits = omega arith;
  base_fits = omega arith;
  rightly = empty_rightly;
}

-- An image of which no half has an open gate is that of no journal.
alien_by : (c : List ℕ) → ((second : Bool) → slice_index (half c second) 0 ≢ open_gate) → IsAlien c
alien_by c shut second generation base carry headed =
    shut second (open_gate_first (half c second) headed.current.is_open)

module _ (image : List ℕ) (blank : IsBlank image) (long : least_size ≤ length image)
    (whole : length (start_of 0 0 empty_carry) ≡ START) where
  -- What is written lies within the first half.
  many_bytes : 1 + length (behind_start 0 0 empty_carry) ≤ 32 * slots_in (length image)
  many_bytes = omega (arith, long, many image false 0 0 empty_carry empty_may long whole)

  -- The first bytes of the halves are 0.
  blank_first_byte : (second : Bool) → slice_index (half image second) 0 ≡ 0
  blank_first_byte second =
      half_byte image image second (start_at (length image) second) 0 (omega arith) refl (omega (arith, long))
      ∙ blank (start_at (length image) second) (omega arith) (omega (arith, long, start_fits (length image) second))

  -- Whatever is after the gate of the first half is no journal.
  torn_alien : (c : List ℕ) → SameOutside (0 + 1) (length (behind_start 0 0 empty_carry)) image c → IsAlien c
  torn_alien c torn = alien_by c (gates c torn)
    where
      -- No gate is open.
      gates : (c : List ℕ) → SameOutside (0 + 1) (length (behind_start 0 0 empty_carry)) image c → (second : Bool)
          → slice_index (half c second) 0 ≢ open_gate
      gates c torn false is_open =
          let own = own_same image false 1 1 refl (length (behind_start 0 0 empty_carry)) c torn many_bytes in
          let zero : slice_index (half c false) 0 ≡ 0 =
          outside 1 (length (behind_start 0 0 empty_carry)) (half image false) (half c false) 0 own (inl (omega arith))
          ∙ blank_first_byte false in
          omega (arith, zero, is_open)
      gates c torn true is_open =
          let zero : slice_index (half c true) 0 ≡ 0 =
          ap (λ (l : List ℕ). slice_index l 0)
          (other_same image false 1 1 refl (length (behind_start 0 0 empty_carry)) c torn many_bytes)
          ∙ blank_first_byte true in
          omega (arith, zero, is_open)

  module _ (c : List ℕ) (gated : SameOutside 0 1 (staged image false 0 0 empty_carry empty_may long whole) c) where
    -- The second half stays blank.
    second_shut : slice_index (half c true) 0 ≡ 0
    second_shut =
        ap (λ (l : List ℕ). slice_index l 0)
        (other_stays image false 0 0 empty_carry empty_may long whole c gated) ∙ blank_first_byte true

    -- With an open gate it is a journal without records.
    opened_empty : slice_index c 0 ≡ open_gate → IsEmpty c
    opened_empty is_open =
        begun_has image false 0 0 empty_carry empty_may long whole c gated is_open
        (λ other_open. absurd (omega (arith, second_shut, open_gate_first (half c true) other_open)))

    -- Without one it is none.
    shut_alien : slice_index c 0 ≢ open_gate → IsAlien c
    shut_alien shut = alien_by c gates
      where
        -- No gate is open.
        gates : (second : Bool) → slice_index (half c second) 0 ≢ open_gate
        gates false is_open =
            shut (sym (gate_byte image false 0 0 empty_carry empty_may long whole c gated) ∙ is_open)
        gates true is_open = omega (arith, second_shut, is_open)

  -- At each moment there is no journal, or one without records.
  pub begun_created : (c : List ℕ) → IsBegun 0 (behind_start 0 0 empty_carry) image c → IsCreated image c
  begun_created c (inl torn) = inr (inl (torn_alien c torn))
  begun_created c (inr gated) = elim (cases_eq (slice_index c 0) open_gate) [
    | inl is_open ↦ inr (inr (opened_empty c gated is_open))
    | inr shut ↦ inr (inl (shut_alien c gated shut))
  ]

  -- The image at the end.
  abbrev laid : List ℕ
  laid = behind_open_gate 0 (behind_start 0 0 empty_carry) image

  -- The last write is one of the gate.
  laid_gated : SameOutside 0 1 (staged image false 0 0 empty_carry empty_may long whole) laid
  laid_gated = put_outside 0 (staged image false 0 0 empty_carry empty_may long whole) (open_gate ∷ [])
      (staged_long image false 0 0 empty_carry empty_may long whole)

  -- At the end there is one.
  pub laid_empty : IsEmpty (behind_open_gate 0 (behind_start 0 0 empty_carry) image)
  laid_empty =
      opened_empty laid laid_gated
      (first_byte laid 0 open_gate _
      (put_there 0 (open_gate ∷ []) (staged image false 0 0 empty_carry empty_may long whole)
      (staged_long image false 0 0 empty_carry empty_may long whole)))

  -- The gate of its second half is shut.
  pub laid_other : has_open_gate (half (behind_open_gate 0 (behind_start 0 0 empty_carry) image) true) ≡ false
  laid_other = ne_eqb (slice_index (half laid true) 0) open_gate
      (λ is. absurd (omega (arith, is, second_shut laid laid_gated)))

-- what is shown is some image
pub told_image : (seen : Option (List ℕ)) → is_some seen ≡ true → (image : List ℕ) × (seen ≡ Some image)
told_image None told = absurd cc
told_image (Some image) told = (image, refl)

-- The same with a carry that is the empty one.
pub begun_created_by : (image : List ℕ) → IsBlank image → least_size ≤ length image → (carry : Carry)
    → carry ≡ empty_carry → length (start_of 0 0 carry) ≡ START → (c : List ℕ)
    → IsBegun 0 (behind_start 0 0 carry) image c → IsCreated image c
begun_created_by image blank long carry is whole c begun =
    begun_created image blank long (subst (λ k. length (start_of 0 0 k) ≡ START) is whole) c
    (subst (λ k. IsBegun 0 (behind_start 0 0 k) image c) is begun)

-- A journal without records is on what is laid.
pub created_stands : {D : Type 0} (honest : D → Bool) (seen : D → Option (List ℕ)) (may_leave : D → List ℕ → Type 0)
    (disk : D) (image : List ℕ) → IsBlank image → least_size ≤ length image → (carry : Carry) → carry ≡ empty_carry
    → length (start_of 0 0 carry) ≡ START
    → Holds honest seen may_leave disk (behind_open_gate 0 (behind_start 0 0 carry) image)
    → (carry_of : List Record → Carry) → carry_of [] ≡ empty_carry
    → Stands carry_of honest seen may_leave disk
    (record { used = 0; second = false; generation = 0; base = 0; carry = carry; other_open = false }) []
created_stands honest seen may_leave disk image blank long carry is whole held carry_of none =
    let long_start = subst (λ k. length (start_of 0 0 k) ≡ START) is whole in
    subst (λ k. Stands carry_of honest seen may_leave disk
    (record { used = 0; second = false; generation = 0; base = 0; carry = k; other_open = false }) []) (sym is)
    (record {
      image = behind_open_gate 0 (behind_start 0 0 empty_carry) image;
      held = subst (λ k. Holds honest seen may_leave disk (behind_open_gate 0 (behind_start 0 0 k) image)) is held;
      rest = [];
      has = laid_empty image blank long long_start;
      continues = record { first = []; all = refl; many = refl; carry_is = sym none };
      count = refl;
      other_gate = laid_other image blank long long_start;
    })
