-- What the two writes that begin a half make of it.
use Rattle.std.proofs.Common.{◌≡◌, ℕ, ◌+◌, ◌*◌, ◌≤◌, Bool, not, List, [], ◌∷◌, ◌++◌, length, take, drop}
use Rattle.std.proofs.Common.{slice_index, refl, sym, ◌∙◌, ap, arith, append_assoc, length-append, length-drop}
use Rattle.std.proofs.lemmas.List.{drop_at, drop_more, take_at}
use Rattle.std.proofs.lemmas.List.Elements.{All-nil}
use Rattle.cct_model_lines.specs.declared.carry.Carry.{Carry}
use Rattle.cct_record.specs.Body.{InRange}
use Rattle.cct_disk.specs.Disk.{SameOutside}
use Rattle.cct_journal.specs.Half.{Wins, half, open_gate, slots_in, start_at}
use Rattle.cct_journal.specs.Image.{HasHalf, bodies, least_size, room_of}
use Rattle.cct_journal.specs.Gated.{behind_gate}
use Rattle.cct_journal.specs.Start.{Begins, MayBegin, start_of}
use Rattle.cct_journal.specs.Places.{behind_start}
use Rattle.cct_journal.specs.declared.format.TheConstants.{START}
use Rattle.cct_journal.proofs.Beginnings.{begins_open}
use Rattle.cct_journal.proofs.Heads.{start_gate}
use Rattle.cct_journal.proofs.Rooms.{closed}
use Rattle.cct_journal.proofs.Sides.{half_byte, half_long, other_same, own_same, own_written, start_fits}
use Rattle.cct_journal.proofs.Windows.{Written, put_written, written_there}

module _ (image : List ℕ) (side : Bool) (generation base : ℕ) (carry : Carry) (may : MayBegin side generation base carry)
    (long : least_size ≤ length image) (whole : length (start_of generation base carry) ≡ START) where
  -- So many bytes are written after the gate.
  pub many : length (behind_start generation base carry) ≡ START
  many = omega (
    arith,
    whole,
    length-append (drop 1 (start_of generation base carry)) (0 ∷ []),
    length-drop 1 (start_of generation base carry),
  )

  -- The image after the first write.
  abbrev pub staged : List ℕ
  staged = behind_gate (start_at (length image) side) (behind_start generation base carry) image

  -- That lies within the image.
  pub inside : start_at (length image) side + 1 + length (behind_start generation base carry) ≤ length image
  inside = omega (arith, many, long, start_fits (length image) side)

  -- And within the half.
  halves : 1 + length (behind_start generation base carry) ≤ 32 * slots_in (length image)
  halves = omega (arith, many, long)

  -- The bytes stand there.
  staged_written : Written (start_at (length image) side + 1) (behind_start generation base carry) image staged
  staged_written = put_written (start_at (length image) side + 1) (behind_start generation base carry) image inside

  -- The gate lies within the image.
  pub staged_long : start_at (length image) side + 1 ≤ length staged
  staged_long = omega (arith, staged_written.same.size, inside)

  -- They stand in the half.
  own_staged : Written 1 (behind_start generation base carry) (half image side) (half staged side)
  own_staged = own_written image side (start_at (length image) side + 1) 1 refl (behind_start generation base carry)
      staged staged_written halves

  module _ (c : List ℕ) (gated : SameOutside (start_at (length image) side) 1 staged c) where
    -- The gate is the first byte of the half.
    place : start_at (length image) side ≡ start_at (length staged) side + 0
    place =
        let none : start_at (length image) side ≡ start_at (length image) side + 0 = omega arith in
        none ∙ ap (λ n. start_at n side + 0) (sym staged_written.same.size)

    -- It lies within the half.
    one : 0 + 1 ≤ 32 * slots_in (length staged)
    one = omega (arith, halves, staged_written.same.size)

    -- The image is as long as before.
    pub same_size : length c ≡ length image
    same_size = gated.size ∙ staged_written.same.size

    -- The other half stays.
    pub other_stays : half c (not side) ≡ half image (not side)
    other_stays =
        other_same staged side (start_at (length image) side) 0 place 1 c gated one
        ∙ other_same image side (start_at (length image) side + 1) 1 refl (length (behind_start generation base carry))
        staged staged_written.same halves

    -- The gate is the byte that is written.
    pub gate_byte : slice_index (half c side) 0 ≡ slice_index c (start_at (length image) side)
    gate_byte =
        let none : start_at (length image) side ≡ start_at (length image) side + 0 = omega arith in
        half_byte image c side (start_at (length image) side) 0 none same_size (omega (arith, halves))

    -- With an open gate the half has the start, and then a shut gate.
    begun_half : slice_index c (start_at (length image) side) ≡ open_gate
        → half c side ≡ start_of generation base carry ++ (0 ∷ drop (1 + length (behind_start generation base carry))
        (half image side))
    begun_half is_open =
        let own = own_same staged side (start_at (length image) side) 0 place 1 c gated one in
        let later = drop (1 + length (behind_start generation base carry)) (half image side) in
        drop_more (half c side) 0 0 (omega (arith, halves, half_long c side, same_size))
        ∙ ap (λ g. g ∷ drop 1 (half c side)) (gate_byte ∙ is_open)
        ∙ ap (λ (l : List ℕ). open_gate ∷ l)
        (own.after
        ∙ written_there 1 (behind_start generation base carry) (half image side) (half staged side) own_staged
        ∙ append_assoc (drop 1 (start_of generation base carry)) (0 ∷ []) later)
        ∙ ap (λ (l : List ℕ). l ++ (0 ∷ later)) (sym (start_gate generation base carry))

    -- So it begins as it should.
    pub begun_begins : slice_index c (start_at (length image) side) ≡ open_gate
        → Begins side generation base carry (half c side)
    begun_begins is_open = record {
      may = may;
      starts = ap (λ (l : List ℕ). take START l) (begun_half is_open)
          ∙ take_at (start_of generation base carry) _ START whole;
    }

    -- So it has no record yet, where it counts.
    pub begun_has : slice_index c (start_at (length image) side) ≡ open_gate
        → Wins side (half c side) (half c (not side)) → HasHalf c side generation base carry []
    begun_has is_open wins = record {
      headed = record {
        long = omega (arith, long, same_size);
        current = record { is_open = begins_open (half c side) (begun_begins is_open); wins = wins };
        begins = begun_begins is_open;
      };
      records_are =
          ap (λ (l : List ℕ). bodies (room_of (length c) base) (drop START l)) (begun_half is_open)
          ∙ ap (λ (l : List ℕ). bodies (room_of (length c) base) l)
          (drop_at (start_of generation base carry) _ START whole)
          ∙ closed (room_of (length c) base) 0 _ (λ is. absurd (omega (arith, is)));
      in_range = All-nil InRange;
    }
