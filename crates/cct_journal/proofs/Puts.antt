-- What the two writes of a put make of an image that has records in a half.
use Rattle.std.proofs.Common.{All, ◌≡◌, ◌≢◌, ◌⊎◌, inl, inr, ℕ, ◌+◌, ◌*◌, ◌<◌, ◌≤◌, Bool, not, List, [], ◌∷◌, ◌++◌}
use Rattle.std.proofs.Common.{length, drop, map, slice_index, refl, sym, ◌∙◌, ap, subst, arith}
use Rattle.std.proofs.lemmas.Bool.{cases_eq}
use Rattle.std.proofs.lemmas.List.{length-map, map-append}
use Rattle.std.proofs.lemmas.List.Elements.{All-append, All-cons, All-nil}
use Rattle.cct_model_lines.specs.declared.carry.Carry.{Carry}
use Rattle.cct_model_lines.specs.declared.record.Record.{Record}
use Rattle.cct_record.specs.Body.{InRange, body_of}
use Rattle.cct_disk.specs.Disk.{SameOutside}
use Rattle.cct_journal.specs.Half.{half, open_gate, slots_in, start_at}
use Rattle.cct_journal.specs.Image.{HasHalf, bodies, least_size, room_of}
use Rattle.cct_journal.specs.Gated.{IsBegun, behind_gate, behind_open_gate}
use Rattle.cct_journal.specs.declared.format.TheConstants.{START}
use Rattle.cct_disk.proofs.Ranges.{put_outside}
use Rattle.cct_journal.proofs.Bytes.{first_byte, put_there, same_before}
use Rattle.cct_journal.proofs.Sides.{half_byte, half_long, has_again, other_same, own_same, own_written, start_fits}
use Rattle.cct_journal.proofs.Slotted.{PutBytes, behind_torn, gate_place, put_is, put_not}
use Rattle.cct_journal.proofs.Windows.{Written, put_written}

-- Where the gate of a put lies in an image.
abbrev pub gate_in : ℕ → Bool → ℕ → ℕ
gate_in size second many = start_at size second + gate_place many

-- There is room in the half.
room_long : (size base : ℕ) → least_size ≤ size → START + 32 * room_of size base ≤ 32 * slots_in size
room_long size base long = omega arith

module _ (image : List ℕ) (second : Bool) (generation base : ℕ) (carry : Carry) (rest : List Record) (entry : Record)
    (has : HasHalf image second generation base carry rest)
    (few : length rest < room_of (length image) base) (fits : InRange entry) (body bytes : List ℕ)
    (spelt : body ≡ body_of entry) (p : PutBytes (room_of (length image) base) (length rest) body bytes)
    (within : gate_place (length rest) + 1 + length bytes ≤ 32 * slots_in (length image)) where
  -- A write in the half after its beginning leaves that, and the other half.
  again : (c : List ℕ) (at inner k : ℕ) (later : List Record) → at ≡ start_at (length image) second + inner
      → START ≤ inner → inner + k ≤ 32 * slots_in (length image) → SameOutside at k image c
      → bodies (room_of (length image) base) (drop START (half c second)) ≡ map body_of later → All InRange later
      → HasHalf c second generation base carry later
  again c at inner k later place behind inside same are in_range =
      has_again image c second generation base carry rest later has same.size
      (same_before inner k (half image second) (half c second) (own_same image second at inner place k c same inside) 0
      START behind)
      (λ _. other_same image second at inner place k c same inside) are in_range

  -- There are as many bodies as records.
  number : length (map body_of rest) ≡ length rest
  number = length-map rest body_of

  -- What is torn after the gate leaves the records.
  pub body_torn : (c : List ℕ) → SameOutside (gate_in (length image) second (length rest) + 1) (length bytes) image c
      → HasHalf c second generation base carry rest
  body_torn c torn =
      let inner = gate_place (length rest) + 1 in
      let mine_torn = own_same image second (gate_in (length image) second (length rest) + 1) inner (omega arith)
      (length bytes) c torn within in
      again c _ inner (length bytes) rest (omega arith) (omega arith) within torn
      (behind_torn (half image second) (room_of (length image) base) (map body_of rest) has.records_are
      (omega (arith, few, number)) (omega (arith, room_long (length image) base has.headed.long, half_long image second))
      (half c second) (length bytes)
      (subst (λ k. SameOutside (gate_place k + 1) (length bytes) (half image second) (half c second)) (sym number)
      mine_torn)) has.in_range

  -- The image after the first write, which lies within the half.
  staged : List ℕ
  staged = behind_gate (gate_in (length image) second (length rest)) bytes image

  -- It lies within the image.
  inside : gate_in (length image) second (length rest) + 1 + length bytes ≤ length image
  inside = omega (arith, within, start_fits (length image) second)

  -- It is written there.
  staged_written : Written (gate_in (length image) second (length rest) + 1) bytes image staged
  unfolding staged
  staged_written = put_written (gate_in (length image) second (length rest) + 1) bytes image inside

  -- The image has the same records then.
  staged_has : HasHalf staged second generation base carry rest
  staged_has = body_torn staged staged_written.same

  -- The write is one of the half.
  own_staged : Written (gate_place (length (map body_of rest)) + 1) bytes (half image second) (half staged second)
  own_staged =
      subst (λ k. Written (gate_place k + 1) bytes (half image second) (half staged second)) (sym number)
      (own_written image second (gate_in (length image) second (length rest) + 1) (gate_place (length rest) + 1)
      (omega arith) bytes staged staged_written within)

  -- A write at the gate, after the first write.
  module _ (c : List ℕ) (gated : SameOutside (gate_in (length image) second (length rest)) 1 staged c) where
    -- The gate lies in the half.
    place : gate_in (length image) second (length rest) ≡ start_at (length staged) second + gate_place (length rest)
    place = ap (λ n. start_at n second + gate_place (length rest)) (sym staged_written.same.size)

    -- And within it.
    one : gate_place (length rest) + 1 ≤ 32 * slots_in (length staged)
    one = omega (arith, within, staged_written.same.size)

    -- So the write is one of the half.
    own_gated : SameOutside (gate_place (length (map body_of rest))) 1 (half staged second) (half c second)
    own_gated =
        subst (λ k. SameOutside (gate_place k) 1 (half staged second) (half c second)) (sym number)
        (own_same staged second (gate_in (length image) second (length rest)) (gate_place (length rest)) place 1 c gated
        one)

    -- The other half is the same.
    other_gated : half c (not second) ≡ half image (not second)
    other_gated =
        other_same staged second (gate_in (length image) second (length rest)) (gate_place (length rest)) place 1 c
        gated one
        ∙ other_same image second (gate_in (length image) second (length rest) + 1) (gate_place (length rest) + 1)
        (omega arith) (length bytes) staged staged_written.same within

    -- The image has what the bodies of the half say.
    gated_has : (later : List Record)
        → bodies (room_of (length image) base) (drop START (half c second)) ≡ map body_of later → All InRange later
        → HasHalf c second generation base carry later
    gated_has later are in_range =
        has_again image c second generation base carry rest later has (gated.size ∙ staged_written.same.size)
        (same_before (gate_place (length (map body_of rest))) 1 (half staged second) (half c second) own_gated 0 START
        (omega arith)
        ∙ same_before (gate_place (length (map body_of rest)) + 1) (length bytes) (half image second)
        (half staged second) own_staged.same 0 START (omega arith))
        (λ _. other_gated) are in_range

    -- The byte at the gate is one of the half.
    gate_byte : slice_index (half c second) (gate_place (length (map body_of rest)))
        ≡ slice_index c (gate_in (length image) second (length rest))
    gate_byte =
        ap (λ k. slice_index (half c second) (gate_place k)) number
        ∙ half_byte image c second (gate_in (length image) second (length rest)) (gate_place (length rest)) refl
        (gated.size ∙ staged_written.same.size) (omega (arith, within))

    -- What was written first, by the number of bodies.
    put_bytes : PutBytes (room_of (length image) base) (length (map body_of rest)) body bytes
    put_bytes = subst (λ k. PutBytes (room_of (length image) base) k body bytes) (sym number) p

    -- There is room for one more.
    few_bodies : length (map body_of rest) < room_of (length image) base
    few_bodies = omega (arith, few, number)

    -- The half has so many slots.
    long_half : START + 32 * room_of (length image) base ≤ length (half image second)
    long_half = omega (arith, room_long (length image) base has.headed.long, half_long image second)

    -- While it isn't open, the records are the same.
    gate_shut : slice_index c (gate_in (length image) second (length rest)) ≢ open_gate
        → HasHalf c second generation base carry rest
    gate_shut shut =
        gated_has rest
        (put_not (half image second) (room_of (length image) base) (map body_of rest) has.records_are few_bodies
        long_half body bytes (half staged second) put_bytes own_staged (half c second) own_gated
        (λ is. shut (sym gate_byte ∙ is))) has.in_range

    -- When it is, there is one more.
    gate_open : slice_index c (gate_in (length image) second (length rest)) ≡ open_gate
        → HasHalf c second generation base carry (rest ++ entry ∷ [])
    gate_open is_open =
        gated_has (rest ++ entry ∷ [])
        (put_is (half image second) (room_of (length image) base) (map body_of rest) has.records_are few_bodies
        long_half body bytes (half staged second) put_bytes own_staged (half c second) own_gated (gate_byte ∙ is_open)
        ∙ ap (λ b. map body_of rest ++ b ∷ []) spelt
        ∙ sym (map-append body_of rest (entry ∷ [])))
        (All-append InRange rest (entry ∷ []) has.in_range (All-cons InRange entry [] fits (All-nil InRange)))

    -- One of the two.
    gate_either : HasHalf c second generation base carry rest
        ⊎ HasHalf c second generation base carry (rest ++ entry ∷ [])
    gate_either = elim (cases_eq (slice_index c (gate_in (length image) second (length rest))) open_gate) [
      | inl is_open ↦ inr (gate_open is_open)
      | inr shut ↦ inl (gate_shut shut)
    ]

  -- At each moment the image has the records, or these and the new one.
  pub begun_has : (c : List ℕ) → IsBegun (gate_in (length image) second (length rest)) bytes image c
      → HasHalf c second generation base carry rest ⊎ HasHalf c second generation base carry (rest ++ entry ∷ [])
  unfolding staged
  begun_has c (inl torn) = inl (body_torn c torn)
  begun_has c (inr gated) = gate_either c gated

  -- At the end it has the latter.
  pub written_has : HasHalf (behind_open_gate (gate_in (length image) second (length rest)) bytes image) second
      generation base carry (rest ++ entry ∷ [])
  unfolding staged
  written_has =
      let at = gate_in (length image) second (length rest) in
      let opened = behind_open_gate at bytes image in
      let one_more : at + 1 ≤ length staged = omega (arith, staged_written.same.size, inside) in
      gate_open opened (put_outside at staged (open_gate ∷ []) one_more)
      (first_byte opened at open_gate _ (put_there at (open_gate ∷ []) staged one_more))

  -- The other half is the same then.
  pub written_other : half (behind_open_gate (gate_in (length image) second (length rest)) bytes image) (not second)
      ≡ half image (not second)
  unfolding staged
  written_other =
      let at = gate_in (length image) second (length rest) in
      other_gated (behind_open_gate at bytes image)
      (put_outside at staged (open_gate ∷ []) (omega (arith, staged_written.same.size, inside)))
