-- Calls that a caller makes on a part of his own, newest first: what they make of its bytes, and
-- what a power cut may leave while he makes them.
use Rattle.std.specs.Prelude.{◌≡◌, ◌⊎◌, ℕ, ◌+◌, ◌≤◌, List, [], ◌∷◌, length, take, drop}
use Rattle.cct_disk.specs.Disk.{put_at, SameOutside}
use Rattle.cct_disk_queue.specs.declared.calls.Call.{Call}
use Rattle.cct_disk_queue.specs.declared.calls.Call.TheVariants as calls
use Rattle.cct_disk_queue.specs.declared.calls.Note.{Note}
use Rattle.cct_disk_queue.specs.declared.calls.Note.TheVariants as notes

-- A call, wherever its bytes lie in memory.
pub data Act : Type 0 where
  Write : (at : ℕ) (bytes : List ℕ) → Act
  Sync : Act

-- a call by itself
abbrev pub act_of : Call → Act
act_of (calls.Write at bytes) = Write at bytes.now
act_of calls.Sync = Sync

-- The call that is noted, where these are the bytes of all writes.
abbrev pub called : List ℕ → Note → Act
called kept (notes.Write at from len) = Write at (take len (drop from kept))
called kept notes.Sync = Sync

-- The bytes of each write are among so many.
abbrev pub AreIn : ℕ → List Note → Type 0
AreIn many [] = Unit {0}
AreIn many (notes.Write at from len ∷ before) = (from + len ≤ many) × AreIn many before
AreIn many (notes.Sync ∷ before) = AreIn many before

-- the bytes after calls
abbrev pub after : List ℕ → List Act → List ℕ
after base [] = base
after base (Write at bytes ∷ before) = put_at (after base before) at bytes
after base (Sync ∷ before) = after base before

-- how many bytes calls write in all
abbrev pub bytes_in : List Act → ℕ
bytes_in [] = 0
bytes_in (Write at bytes ∷ before) = bytes_in before + length bytes
bytes_in (Sync ∷ before) = bytes_in before

-- Each write is within a part of this size.
abbrev pub AreWithin : ℕ → List Act → Type 0
AreWithin size [] = Unit {0}
AreWithin size (Write at bytes ∷ before) = (at + length bytes ≤ size) × AreWithin size before
AreWithin size (Sync ∷ before) = AreWithin size before

-- What a power cut may leave after these calls, as the clauses of a disk say: a write leaves
-- anything in its range, also the bytes that were written, and a sync only the bytes.
abbrev pub Leaves : List ℕ → List Act → List ℕ → Type 0
Leaves base [] image = image ≡ base
Leaves base (Write at bytes ∷ before) image =
    (image ≡ put_at (after base before) at bytes)
    ⊎ ((d : List ℕ) × Leaves base before d × SameOutside at (length bytes) d image)
Leaves base (Sync ∷ before) image = image ≡ after base before

-- what a power cut may leave, or might have left, since so many of these calls were made
abbrev pub Since : List ℕ → List Act → ℕ → List ℕ → Type 0
Since base [] t image = Leaves base [] image
Since base (call ∷ before) t image =
    Leaves base (call ∷ before) image ⊎ ((t ≤ length before) × Since base before t image)
