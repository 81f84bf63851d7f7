-- What the two writes of a put make of the slots of a half.
use Rattle.std.proofs.Common.{◌≡◌, ◌≢◌, ◌⊎◌, inl, inr, ℕ, suc, ◌+◌, ◌-◌, ◌*◌, ◌<◌, ◌≤◌, List, [], ◌∷◌, ◌++◌, length}
use Rattle.std.proofs.Common.{take, drop, slice_index, sym, ◌∙◌, ap, arith, append_assoc, length-drop, take-append-drop}
use Rattle.std.proofs.lemmas.List.{drop-drop, drop_more, take_at}
use Rattle.cct_disk.specs.Disk.{SameOutside}
use Rattle.cct_journal.specs.Half.{open_gate}
use Rattle.cct_journal.specs.Image.{bodies}
use Rattle.cct_journal.specs.declared.format.TheConstants.{START}
use Rattle.cct_journal.proofs.Bytes.{same_before}
use Rattle.cct_journal.proofs.Rooms.{Room, bodies_same, closed, room}
use Rattle.cct_journal.proofs.Windows.{Written, written_there}

-- The place in a half of the gate after so many records.
abbrev pub gate_place : ℕ → ℕ
gate_place many = START + 32 * many

module _ (half : List ℕ) (n : ℕ) (old : List (List ℕ)) (are : bodies n (drop START half) ≡ old)
    (few : length old < n) (long : START + 32 * n ≤ length half) where
  -- The half has room.
  the_room : Room n (drop START half) old
  the_room = room n (drop START half) old are few (omega (arith, length-drop START half))

  -- Whatever is after the shut gate, the records are the same.
  pub behind_torn : (c : List ℕ) (m : ℕ) → SameOutside (gate_place (length old) + 1) m half c
      → bodies n (drop START c) ≡ old
  behind_torn c m same =
      bodies_same n (drop START half) (drop START c) old the_room
      (same_before (gate_place (length old) + 1) m half c same START (32 * length old + 1) (omega arith))

  -- Where the gate after the records lies.
  split_at_gate : (c : List ℕ) → SameOutside (gate_place (length old)) 1 half c
      → drop START c ≡ the_room.front ++ (slice_index c (gate_place (length old)) ∷ drop (gate_place (length old) + 1) c)
  split_at_gate c same =
      let r = the_room in
      let count = length old in
      let front : take (32 * count) (drop START c) ≡ r.front =
      same_before (gate_place count) 1 half c same START (32 * count) (omega arith)
      ∙ ap (λ (l : List ℕ). take (32 * count) l) r.split
      ∙ take_at r.front (r.gate ∷ r.rest) (32 * count) r.place in
      let back : drop (32 * count) (drop START c) ≡ slice_index c (gate_place count) ∷ drop (gate_place count + 1) c =
      drop-drop (32 * count) START c ∙ drop_more c (gate_place count) 0 (omega (arith, same.size)) in
      sym (take-append-drop (32 * count) (drop START c)) ∙ ap (λ (l : List ℕ). l ++ drop (32 * count) (drop START c)) front
      ∙ ap (λ (l : List ℕ). r.front ++ l) back

  -- A gate that isn't opened leaves the records.
  pub gate_not : (c : List ℕ) → SameOutside (gate_place (length old)) 1 half c
      → slice_index c (gate_place (length old)) ≢ open_gate → bodies n (drop START c) ≡ old
  gate_not c same shut = ap (λ (l : List ℕ). bodies n l) (split_at_gate c same) ∙ the_room.left_out _ _ shut

  -- A gate that is opened before a body adds that, where no open gate comes next.
  pub gate_is : (body back c : List ℕ) → length body ≡ 31 → drop (gate_place (length old) + 1) half ≡ body ++ back
      → bodies (n - suc (length old)) back ≡ [] → SameOutside (gate_place (length old)) 1 half c
      → slice_index c (gate_place (length old)) ≡ open_gate → bodies n (drop START c) ≡ old ++ body ∷ []
  gate_is body back c whole written none same is_open =
      ap (λ (l : List ℕ). bodies n l)
      (split_at_gate c same
      ∙ ap (λ gate. the_room.front ++ (gate ∷ drop (gate_place (length old) + 1) c)) is_open
      ∙ ap (λ (l : List ℕ). the_room.front ++ (open_gate ∷ l)) (same.after ∙ written))
      ∙ the_room.put_in body back whole none

-- What a put writes first: a body, and a shut gate after it where a slot of the half follows.
pub record PutBytes (n many : ℕ) (body bytes : List ℕ) : Type 0 where
  pub whole : length body ≡ 31
  pub are : (bytes ≡ body ++ 0 ∷ []) ⊎ ((bytes ≡ body) × (n ≤ suc many))

-- These bytes stand after the gate, and no open gate follows.
record Follows (n many : ℕ) (body half : List ℕ) : Type 0 where
  back : List ℕ
  there : drop (gate_place many + 1) half ≡ body ++ back
  none : bodies (n - suc many) back ≡ []

-- So they do after what a put writes first.
put_follows : (n many : ℕ) (body bytes half staged : List ℕ) → PutBytes n many body bytes
    → Written (gate_place many + 1) bytes half staged → Follows n many body staged
put_follows n many body bytes half staged p w = elim p.are [
  | inl more ↦ record {
    back = 0 ∷ drop (gate_place many + 1 + length bytes) half;
    there = written_there (gate_place many + 1) bytes half staged w
        ∙ ap (λ (l : List ℕ). l ++ drop (gate_place many + 1 + length bytes) half) more
        ∙ append_assoc body (0 ∷ []) (drop (gate_place many + 1 + length bytes) half);
    none = closed (n - suc many) 0 (drop (gate_place many + 1 + length bytes) half) (λ is. absurd (omega (arith, is)));
  }
  | inr last ↦
      let none_left : n - suc many ≡ 0 = omega (arith, last.1) in
      record {
        back = drop (gate_place many + 1 + length bytes) half;
        there = written_there (gate_place many + 1) bytes half staged w
            ∙ ap (λ (l : List ℕ). l ++ drop (gate_place many + 1 + length bytes) half) last.0;
        none = ap (λ k. bodies k (drop (gate_place many + 1 + length bytes) half)) none_left;
      }
]

module _ (half : List ℕ) (n : ℕ) (old : List (List ℕ)) (are : bodies n (drop START half) ≡ old)
    (few : length old < n) (long : START + 32 * n ≤ length half) (body bytes staged : List ℕ)
    (p : PutBytes n (length old) body bytes) (w : Written (gate_place (length old) + 1) bytes half staged) where
  -- After the first write the records are the same.
  staged_are : bodies n (drop START staged) ≡ old
  staged_are = behind_torn half n old are few long staged (length bytes) w.same

  -- And the half is as long.
  staged_long : START + 32 * n ≤ length staged
  staged_long = omega (arith, w.same.size)

  -- While the gate isn't open the records are the same.
  pub put_not : (c : List ℕ) → SameOutside (gate_place (length old)) 1 staged c
      → slice_index c (gate_place (length old)) ≢ open_gate → bodies n (drop START c) ≡ old
  put_not = gate_not staged n old staged_are few staged_long

  -- When it is, there is one more.
  pub put_is : (c : List ℕ) → SameOutside (gate_place (length old)) 1 staged c
      → slice_index c (gate_place (length old)) ≡ open_gate → bodies n (drop START c) ≡ old ++ body ∷ []
  put_is c same is_open =
      let f = put_follows n (length old) body bytes half staged p w in
      gate_is staged n old staged_are few staged_long body f.back c p.whole f.there f.none same is_open
