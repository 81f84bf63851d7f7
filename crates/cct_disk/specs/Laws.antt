-- The laws of a disk, for a disk in memory and for one that shows nothing.
use Rattle.std.specs.Prelude.{◌≡◌, ℕ, Option, None, Some, List, [], ◌∷◌, get_or, length}
use mathlib.Core.Path.{sym, ap, subst}
use mathlib.Core.Logic.{inl, inr}
use Rattle.std.proofs.Math.Nat.{lt_irrefl}
use Rattle.std.proofs.Common.{arith}
use Rattle.cct_edge.specs.Faults.{Caused}
use Rattle.cct_disk.specs.Content.{Content, IsImage, IsImageSince, may_leave}
use Rattle.cct_disk.specs.declared.traced.Change.{Change}

-- bytes that are reported
abbrev pub told : Option (List ℕ) → List ℕ
told None = []
told (Some bytes) = bytes

-- what a read gives is as long as the disk
pub fits_bytes : (content : Content) (bytes : List ℕ) → Some content.bytes ≡ Some bytes
    → length bytes ≡ length content.bytes
fits_bytes content bytes is = ap (λ (o : Option (List ℕ)). length (told o)) (sym is)

-- what a read gives is an image
pub bytes_are_image : (content : Content) (bytes : List ℕ) → Some content.bytes ≡ Some bytes →
    may_leave content bytes
bytes_are_image content bytes is = record {
  size = fits_bytes content bytes is;
  same = λ place synced. ap (λ (o : Option (List ℕ)). get_or (told o) place 0) (sym is);
}

-- what a cut may leave now it might have left since any moment before
pub now_counts : (past : List Change) (replaced bytes : List ℕ) (t : ℕ) (image : List ℕ) →
    IsImage past bytes image
    → IsImageSince past replaced bytes t image
now_counts [] replaced bytes t image now = now
now_counts (change ∷ past) replaced bytes t image now = inl now

-- and since now nothing else
pub now_only : (past : List Change) (replaced bytes image : List ℕ)
    → IsImageSince past replaced bytes (length past) image → IsImage past bytes image
now_only [] replaced bytes image since = since
now_only (change ∷ past) replaced bytes image (inl now) = now
now_only (change ∷ past) replaced bytes image (inr earlier) =
    absurd (lt_irrefl (length past) earlier.0)

-- bytes that aren't reported
abbrev IsUntold : Option (List ℕ) → Type 0
IsUntold None = Unit
IsUntold (Some bytes) = ⊥

-- a disk that doesn't show its bytes has no bytes of another length
pub untold_fits : (size : ℕ) (bytes : List ℕ) → None ≡ Some bytes → length bytes ≡ size
untold_fits size bytes is = absurd (subst IsUntold is tt)

-- A call that fails counts its fault: so none has failed where none is counted.
pub sure : (before now : ℕ) (Fails : Type 0) → before ≡ 0 → now ≡ 0 → Caused before now Fails
    → Fails → ⊥
sure before now Fails none still caused fails = omega (arith, none, still, caused.rose fails)
