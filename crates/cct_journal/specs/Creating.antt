-- What an image is to a journal that is created on it.
use Rattle.std.specs.Prelude.{◌≡◌, ◌⊎◌, ℕ, ◌<◌, ◌≤◌, Bool, true, false, Option, Some, is_some, List}
use Rattle.std.specs.Prelude.{[], ⊤}
use Rattle.cct_model_lines.specs.Carried.{empty_carry}
use Rattle.cct_model_lines.specs.declared.carry.Carry.{Carry}
use Rattle.cct_model_lines.specs.declared.record.Record.{Record}
use Rattle.cct_journal.specs.Image.{HasHalf, IsAlien, IsBlank, IsFirstByteFrom, least_size}
use Rattle.cct_journal.specs.Stands.{Stands}
use Rattle.cct_journal.specs.declared.place.Place.{Place}
use Rattle.cct_journal.specs.declared.refusal.CreateNo.{CreateNo}
use Rattle.cct_journal.specs.declared.refusal.CreateNo.TheVariants.{Small, Disk, NotBlank}

-- Why a disk whose reads give these bytes isn't found to be blank.
abbrev pub IsNotBlank : Option (List ℕ) → CreateNo → Type 0
IsNotBlank seen (Small len) = ⊥
IsNotBlank seen Disk = ⊤
IsNotBlank seen (NotBlank at) = (image : List ℕ) → seen ≡ Some image → IsFirstByteFrom 0 image at

-- Why no journal is created on a disk of this size, whose reads give these bytes.
abbrev pub RefusesCreate : ℕ → Option (List ℕ) → CreateNo → Type 0
RefusesCreate size seen (Small len) = (len ≡ size) × (size < least_size)
RefusesCreate size seen Disk = least_size ≤ size
RefusesCreate size seen (NotBlank at) = (least_size ≤ size)
    × ((image : List ℕ) → seen ≡ Some image → IsFirstByteFrom 0 image at)

-- An image has a journal without a record, in its first half.
abbrev pub IsEmpty : List ℕ → Type 0
IsEmpty image = HasHalf image false 0 0 empty_carry []

-- What may stand on a disk while a journal is created on it: what stood there, no journal, or an
-- empty one.
abbrev pub IsCreated : List ℕ → List ℕ → Type 0
IsCreated old image = (image ≡ old) ⊎ (IsAlien image ⊎ IsEmpty image)

-- A journal without records was created on a disk that reads as blank.
pub record Creates {D : Type 0} (size : D → ℕ) (honest : D → Bool) (seen : D → Option (List ℕ))
    (may_leave : D → List ℕ → Type 0) (old new : D) (place : Place) : Type 0 where
  pub stands : honest old ≡ true → is_some (seen old) ≡ true
      → (carry_of : List Record → Carry) → carry_of [] ≡ empty_carry →
      Stands carry_of honest seen may_leave new place []
  pub none : place.used ≡ 0
  pub blank : (image : List ℕ) → seen old ≡ Some image → IsBlank image
  pub long : least_size ≤ size old
