-- The two halves of an image: what a write in one of them leaves of both, and when the current one stays so.
use Rattle.std.proofs.Common.{◌≡◌, ◌⊎◌, inl, inr, ⊎_elim, ℕ, ◌+◌, ◌*◌, ◌<◌, ◌≤◌, Bool, true, false, not, List}
use Rattle.std.proofs.Common.{length, take, drop, map, slice_index, refl, sym, ◌∙◌, ap, subst, arith}
use Rattle.std.proofs.Common.{All, ◌==◌, ap₂, cond}
use Rattle.std.specs.Int.{w32, from_le_bytes}
use Rattle.std.proofs.lemmas.List.{get_or-drop, get_or-take, take-take}
use Rattle.cct_model_lines.specs.declared.carry.Carry.{Carry}
use Rattle.cct_model_lines.specs.declared.record.Record.{Record}
use Rattle.cct_record.specs.Body.{InRange, body_of}
use Rattle.cct_disk.specs.Disk.{SameOutside}
use Rattle.cct_journal.specs.Half.{IsOpen, IsVersionOf, Wins, generation_in, half, open_gate, slots_in, start_at, turns_in, version_in, window}
use Rattle.cct_journal.specs.Image.{HasHalf, bodies, room_of}
use Rattle.cct_journal.specs.declared.format.TheConstants.{START}
use Rattle.cct_journal.proofs.Bytes.{same_before}
use Rattle.cct_journal.proofs.Windows.{Written, length_part, part_of_part, same_behind, same_within, written_within}

-- Each half lies within the bytes, and beside the other one.
pub start_fits : (size : ℕ) (second : Bool) → start_at size second + 32 * slots_in size ≤ size
start_fits size false = omega arith
start_fits size true = omega arith

-- The two halves lie beside each other.
apart : (size : ℕ) (second : Bool) → (start_at size (not second) + 32 * slots_in size ≤ start_at size second)
    ⊎ (start_at size second + 32 * slots_in size ≤ start_at size (not second))
apart size false = inr (omega arith)
apart size true = inl (omega arith)

-- A half by the size of another image of the same size.
half_by : (image c : List ℕ) (second : Bool) → length c ≡ length image
    → half c second ≡ window (start_at (length image) second) (32 * slots_in (length image)) c
half_by image c second size = ap (λ n. window (start_at n second) (32 * slots_in n) c) size

-- A half is as long as its slots.
pub half_long : (image : List ℕ) (second : Bool) → length (half image second) ≡ 32 * slots_in (length image)
half_long image second =
    length_part image (start_at (length image) second) (32 * slots_in (length image)) (start_fits (length image) second)

module _ (image : List ℕ) (second : Bool) (at p : ℕ) (place : at ≡ start_at (length image) second + p) where
  -- A write within a half is one of that half.
  pub own_same : (n : ℕ) (c : List ℕ) → SameOutside at n image c
      → p + n ≤ 32 * slots_in (length image) → SameOutside p n (half image second) (half c second)
  own_same n c same within =
      subst (λ (h : List ℕ). SameOutside p n (half image second) h) (sym (half_by image c second same.size))
      (same_within at n image c same (start_at (length image) second) (32 * slots_in (length image)) p place within
      (start_fits (length image) second))

  -- And so are bytes that are written in it.
  pub own_written : (bytes c : List ℕ) → Written at bytes image c
      → p + length bytes ≤ 32 * slots_in (length image) → Written p bytes (half image second) (half c second)
  own_written bytes c written within =
      subst (λ (h : List ℕ). Written p bytes (half image second) h) (sym (half_by image c second written.same.size))
      (written_within at bytes image c written (start_at (length image) second) (32 * slots_in (length image)) p place
      within (start_fits (length image) second))

  -- It leaves the other half.
  pub other_same : (n : ℕ) (c : List ℕ) → SameOutside at n image c
      → p + n ≤ 32 * slots_in (length image) → half c (not second) ≡ half image (not second)
  other_same n c same within =
      let size = length image in
      let many = 32 * slots_in size in
      half_by image c (not second) same.size
      ∙ ⊎_elim (λ before. same_before at n image c same (start_at size (not second)) many (omega (arith, before, place)))
      (λ behind. same_behind at n image c same (start_at size (not second)) many (omega (arith, behind, place))) (apart size second)

-- A byte of a half is one of the image.
pub half_byte : (image c : List ℕ) (second : Bool) (at p : ℕ) → at ≡ start_at (length image) second + p
    → length c ≡ length image → p < 32 * slots_in (length image) → slice_index (half c second) p ≡ slice_index c at
half_byte image c second at p place size within =
    ap (λ (l : List ℕ). slice_index l p) (half_by image c second size)
    ∙ get_or-take (32 * slots_in (length image)) (drop (start_at (length image) second) c) p 0 within
    ∙ get_or-drop (start_at (length image) second) c p 0 ∙ ap (λ k. slice_index c k) (sym place)

-- The other half of the other half.
pub not_not : (second : Bool) → not (not second) ≡ second
not_not false = refl
not_not true = refl

-- What a half's first bytes say.
pub open_gate_first : {second : Bool} (bytes : List ℕ) → IsOpen second bytes → slice_index bytes 0 ≡ open_gate
open_gate_first bytes is_open =
    sym (get_or-take 15 bytes 0 0 (omega arith)) ∙ ap (λ (l : List ℕ). slice_index l 0) is_open.titled

-- Bytes with the same beginning say the same.
module _ (mine other : List ℕ) (same : take START mine ≡ take START other) where
  -- They have the same version.
  pub same_version : version_in mine ≡ version_in other
  same_version = sym (get_or-take START mine 15 0 (omega arith)) ∙ ap (λ (l : List ℕ). slice_index l 15) same
      ∙ get_or-take START other 15 0 (omega arith)

  -- They are open where the others are.
  pub same_title : {second : Bool} → IsOpen second other → IsOpen second mine
  same_title {second} is_open = record {
    titled = sym (take-take 15 START mine (omega arith)) ∙ ap (λ (l : List ℕ). take 15 l) same
        ∙ take-take 15 START other (omega arith) ∙ is_open.titled;
    version_is = subst (IsVersionOf second) (sym same_version) is_open.version_is;
  }

  -- They say the same generation.
  pub same_generation : generation_in mine ≡ generation_in other
  same_generation =
      let turns : turns_in mine ≡ turns_in other =
      ap (λ (l : List ℕ). from_le_bytes w32 l)
      (sym (part_of_part mine 0 START 16 4 (omega arith)) ∙ ap (λ (l : List ℕ). window 16 4 l) same
      ∙ part_of_part other 0 START 16 4 (omega arith)) in
      ap₂ (λ v n. cond (v == 1) 0 n) same_version turns

-- A half goes on to count beside the other one.
pub wins_on : (second : Bool) (mine other new_mine new_other : List ℕ) → generation_in new_mine ≡ generation_in mine
    → (IsOpen (not second) new_other → new_other ≡ other) → Wins second mine other → Wins second new_mine new_other
wins_on false mine other new_mine new_other same stays wins = λ is_open.
    let are = stays is_open in
    let was : IsOpen true other = subst (IsOpen true) are is_open in
    let less : generation_in other ≤ generation_in mine = wins was in
    let there : generation_in new_other ≡ generation_in other = ap generation_in are in
    omega (arith, less, there, same)
wins_on true mine other new_mine new_other same stays wins = λ is_open.
    let are = stays is_open in
    let was : IsOpen false other = subst (IsOpen false) are is_open in
    let less : generation_in other < generation_in mine = wins was in
    let there : generation_in new_other ≡ generation_in other = ap generation_in are in
    omega (arith, less, there, same)

-- A half with a greater generation counts.
pub wins_over : (second : Bool) (mine other : List ℕ) → generation_in other < generation_in mine
    → Wins second mine other
wins_over false mine other less = λ is_open. omega (arith, less)
wins_over true mine other less = λ is_open. less

-- The current half stays so where it begins with the same, and where the other one doesn't become open.
pub has_again : (image c : List ℕ) (second : Bool) (generation base : ℕ) (carry : Carry) (old rest : List Record)
    → HasHalf image second generation base carry old → length c ≡ length image
    → take START (half c second) ≡ take START (half image second)
    → (IsOpen (not second) (half c (not second)) → half c (not second) ≡ half image (not second))
    → bodies (room_of (length image) base) (drop START (half c second)) ≡ map body_of rest → All InRange rest
    → HasHalf c second generation base carry rest
has_again image c second generation base carry old rest has size begins other are in_range =
    let headed = has.headed in record {
      headed = record {
        long = omega (arith, size, headed.long);
        current = record {
          is_open = same_title (half c second) (half image second) begins headed.current.is_open;
          wins = wins_on second (half image second) (half image (not second)) (half c second) (half c (not second))
              (same_generation (half c second) (half image second) begins) other headed.current.wins;
        };
        begins = record { may = headed.begins.may; starts = begins ∙ headed.begins.starts };
      };
      records_are = ap (λ n. bodies (room_of n base) (drop START (half c second))) size ∙ are;
      in_range = in_range;
    }
