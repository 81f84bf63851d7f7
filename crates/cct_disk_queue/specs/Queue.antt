-- A disk that notes calls, as its caller sees it.
use Rattle.std.specs.Prelude.{◌≡◌, ◌≤◌, ℕ, true, Some, None, Option, List, [], ◌∷◌, length}
use mathlib.Core.Path.{refl, sym, ap, subst}
use mathlib.Core.Logic.{inl, inr}
use Rattle.std.proofs.Math.Nat.{lt_irrefl}
use Rattle.cct_edge.specs.Faults.{next_count}
use Rattle.cct_disk.specs.Disk.{GoesOn, Elapses}
use Rattle.cct_disk_queue.specs.Calls.{Act, AreWithin, Leaves, Since, Sync, Write, after, bytes_in}

-- what the part held before the calls that are noted, these, newest first, and how often a call
-- failed
pub record Queue : Type 0 where
  pub base : List ℕ
  pub calls : List Act
  pub faults : ℕ

-- the bytes after all calls that are noted
abbrev pub bytes_of : Queue → List ℕ
bytes_of s = after s.base s.calls

-- an image that a power cut may leave
abbrev pub leaves : Queue → List ℕ → Type 0
leaves s image = Leaves s.base s.calls image

-- an image that a power cut might have left since a moment
abbrev pub since : Queue → ℕ → List ℕ → Type 0
since s t image = Since s.base s.calls t image

-- after one write more
abbrev pub noted : ℕ → List ℕ → Queue → Queue
noted at bytes s = record s { calls = Write at bytes ∷ s.calls }

-- after a call that failed
abbrev pub faulted : Queue → Queue
faulted s = record s { faults = next_count s.faults }

-- no call has failed, and at most so many are noted, with at most so many bytes
pub record Spent (s : Queue) (calls bytes : ℕ) : Type 0 where
  pub unfailed : s.faults ≡ 0
  pub few : length s.calls ≤ calls
  pub short : bytes_in s.calls ≤ bytes

-- the calls are within the bytes, and leave as many
pub record IsQueued (base : List ℕ) (calls : List Act) : Type 0 where
  pub within : AreWithin (length base) calls
  pub sized : length (after base calls) ≡ length base

-- the disk goes on
abbrev pub QueueGoesOn : Queue → Queue → Type 0
QueueGoesOn =
    GoesOn (λ (s : Queue). length (bytes_of s)) (λ _. true) (λ s. Some (bytes_of s)) (λ _. 0)

-- its clock goes on
abbrev pub QueueElapses : Queue → Queue → Type 0
QueueElapses = Elapses (λ (s : Queue). length s.calls) since leaves

-- bytes that are reported
abbrev told : Option (List ℕ) → List ℕ
told None = []
told (Some bytes) = bytes

-- what a read gives is as long as the disk
pub fits_bytes : (s : Queue) (bytes : List ℕ) → Some (bytes_of s) ≡ Some bytes → length bytes
    ≡ length (bytes_of s)
fits_bytes s bytes is = ap (λ (o : Option (List ℕ)). length (told o)) (sym is)

-- the bytes after the calls are an image
pub image_after : (base : List ℕ) (calls : List Act) → Leaves base calls (after base calls)
image_after base [] = refl
image_after base (Write at bytes ∷ before) = inl refl
image_after base (Sync ∷ before) = refl

pub image_now : (s : Queue) (bytes : List ℕ) → Some (bytes_of s) ≡ Some bytes → leaves s bytes
image_now s bytes is =
    subst (λ (o : Option (List ℕ)). leaves s (told o)) is (image_after s.base s.calls)

-- what a cut may leave now it might have left since any moment before
pub now_counts : (base : List ℕ) (calls : List Act) (t : ℕ) (image : List ℕ) →
    Leaves base calls image → Since base calls t image
now_counts base [] t image now = now
now_counts base (call ∷ before) t image now = inl now

-- and since now nothing else
pub now_only : (base : List ℕ) (calls : List Act) (image : List ℕ) →
    Since base calls (length calls) image → Leaves base calls image
now_only base [] image now = now
now_only base (call ∷ before) image (inl now) = now
now_only base (call ∷ before) image (inr earlier) = absurd (lt_irrefl (length before) earlier.0)
