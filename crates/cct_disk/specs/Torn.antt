-- The value as which contracts see a disk in memory that tears a write which is set to fail.
use Rattle.std.specs.Prelude.{◌≡◌, ℕ, true, Some, length}
use Rattle.cct_disk.specs.Disk.{GoesOn, Outlasts}
use Rattle.cct_disk.specs.Memory.{MemoryDisk, IsAfterCut}

-- the disk in memory, and the choice by which it tears
pub record TornMemory : Type 0 where
  pub memory : MemoryDisk
  pub choice : ℕ

-- a disk after a cut
pub record IsTornAfterCut (choice : ℕ) (old new : TornMemory) : Type 0 where
  pub after_cut : IsAfterCut choice old.memory new.memory
  pub same_choice : new.choice ≡ old.choice

-- from one disk to another it goes on
abbrev pub TornGoesOn : TornMemory → TornMemory → Type 0
TornGoesOn =
    GoesOn (λ (s : TornMemory). length s.memory.content.bytes) (λ _. true)
    (λ s. Some s.memory.content.bytes)
    (λ s. s.memory.cuts)

-- and outlasts a cut
abbrev pub TornOutlasts : TornMemory → TornMemory → Type 0
TornOutlasts =
    Outlasts (λ (s : TornMemory). length s.memory.content.bytes) (λ _. true)
    (λ s. Some s.memory.content.bytes)
    (λ s. s.memory.cuts)
