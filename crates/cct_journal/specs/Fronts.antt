-- What the fronts of the two halves say.
use Rattle.std.specs.Prelude.{◌≡◌, ℕ, Bool, not, List}
use Rattle.std.specs.Bool.{IsTrue}
use Rattle.cct_journal.specs.Half.{IsCurrent, IsOpen, generation_in, half, has_open_gate}
use Rattle.cct_journal.specs.Half.{version_in}
use Rattle.cct_journal.specs.Image.{IsHeaded}
use Rattle.cct_journal.specs.declared.opening.Current.{Current}
use Rattle.cct_journal.specs.declared.opening.Front.{Front}
use Rattle.cct_journal.specs.declared.place.Place.{Place}
use Rattle.cct_journal.specs.declared.start.Start.{Start}

-- What the first bytes of the first or the second half say.
pub record IsFront (second : Bool) (front : Front) (bytes : List ℕ) : Type 0 where
  pub gate : front.gate_open ≡ has_open_gate bytes
  pub title : IsTrue front.is_open → IsOpen second bytes
  pub titled : IsOpen second bytes → IsTrue front.is_open
  pub version : front.version ≡ version_in bytes
  pub generation_is : front.generation ≡ generation_in bytes

-- A half is the current one of an image, with its version, and the gate of the other one is as is
-- said.
pub record IsCurrentHalf (image : List ℕ) (found : Current) : Type 0 where
  pub current : IsCurrent found.second image
  pub version_is : found.version ≡ version_in (half image found.second)
  pub other_gate : has_open_gate (half image (not found.second)) ≡ found.other_open

-- The place of a journal whose current half begins so, before its first record.
abbrev pub before_records : Current → Start → Place
before_records current start = record {
  used = start.base;
  second = current.second;
  generation = start.generation;
  base = start.base;
  carry = start.carry;
  other_open = current.other_open;
}

-- The current half of an image begins as a place says, and the gate of the other half is as it
-- says.
pub record BeginsAt (image : List ℕ) (place : Place) : Type 0 where
  pub headed : IsHeaded image place.second place.generation place.base place.carry
  pub other_gate : has_open_gate (half image (not place.second)) ≡ place.other_open
