-- The value as which contracts see a disk in memory, and what a call makes of it.
use Rattle.std.specs.Prelude.{◌≡◌, ◌⊎◌, ◌↔◌, ◌≤◌, ℕ, ◌+◌, true, Some, List, [], length, replicate}
use Rattle.std.specs.Prelude.{Result, IsErr, OnOk, OnErr}
use Rattle.cct_edge.specs.Faults.{HasCause, next_count}
use Rattle.cct_edge.specs.Memory.{FailsNext}
use Rattle.cct_disk.specs.Content.{Content, IsCut, written, written_torn}
use Rattle.cct_disk.specs.declared.traced.TheConstants.{MOST_CHANGES, MOST_REPLACED}
use Rattle.cct_disk.specs.Disk.{GoesOn, Outlasts, sure_bytes, sure_calls}
use Rattle.cct_disk.specs.Traced.{PassesRoom}

-- its content, how many writes, syncs and cuts changed it, the numbers of the calls that fail, and
-- how many calls, faults and cuts there were
pub record MemoryDisk : Type 0 where
  pub content : Content
  pub changes : ℕ
  pub fails : List ℕ
  pub calls : ℕ
  pub faults : ℕ
  pub cuts : ℕ

-- a disk of n zeros, of which the calls with these numbers fail
abbrev pub blank : ℕ → List ℕ → MemoryDisk
blank n fails = record {
  content = record { bytes = replicate n 0; past = []; replaced = [] };
  changes = 0;
  fails = fails;
  calls = 0;
  faults = 0;
  cuts = 0;
}

-- one more change that replaces so many bytes passes the room
abbrev pub LacksRoom : MemoryDisk → ℕ → Type 0
LacksRoom disk more = PassesRoom disk.changes (length disk.content.replaced) more

-- no call is set to fail, and none has failed; and since it was ready it took at most so many
-- changes, which replaced at most so many bytes
pub record Spent (disk : MemoryDisk) (calls bytes : ℕ) : Type 0 where
  pub told_none : disk.fails ≡ []
  pub unfailed : disk.faults ≡ 0
  pub few : disk.changes + sure_calls ≤ MOST_CHANGES + calls
  pub short : length disk.content.replaced + sure_bytes ≤ MOST_REPLACED + bytes

-- a disk after a call that failed
abbrev pub after_fault : MemoryDisk → MemoryDisk
after_fault disk = record disk { calls = next_count disk.calls; faults = next_count disk.faults }

-- a disk after a read
abbrev pub after_read : MemoryDisk → MemoryDisk
after_read disk = record disk { calls = next_count disk.calls }

-- a disk after a change to this content
abbrev pub after_change : Content → MemoryDisk → MemoryDisk
after_change content disk =
    record disk { content = content; changes = disk.changes + 1; calls = next_count disk.calls }

-- a disk after a write that failed, and that tore its range
abbrev pub after_torn : ℕ → ℕ → List ℕ → MemoryDisk → MemoryDisk
after_torn choice at bytes disk = record (after_fault disk) {
  content = written_torn choice at bytes disk.content;
  changes = disk.changes + 1;
}

-- a disk after a cut
pub record IsAfterCut (choice : ℕ) (old new : MemoryDisk) : Type 0 where
  pub cut : IsCut choice old.content new.content
  pub others : new ≡ record (after_change new.content old) { cuts = next_count old.cuts }

-- from one disk to another it goes on
abbrev pub MemoryGoesOn : MemoryDisk → MemoryDisk → Type 0
MemoryGoesOn =
    GoesOn (λ (s : MemoryDisk). length s.content.bytes) (λ _. true) (λ s. Some s.content.bytes)
    (λ s. s.cuts)

-- and outlasts a cut
abbrev pub MemoryOutlasts : MemoryDisk → MemoryDisk → Type 0
MemoryOutlasts =
    Outlasts (λ (s : MemoryDisk). length s.content.bytes) (λ _. true) (λ s. Some s.content.bytes)
    (λ s. s.cuts)

-- What a call answers, and what it leaves: it fails just where `Fails` holds, and then only counts
-- the fault; else the new disk is as `After` says.
pub record Answers {T E : Type 0} (Fails : Type 0) (After : MemoryDisk → Type 0)
    (old new : MemoryDisk)
    (result : Result T E) : Type 0 where
  pub fails : IsErr result ↔ Fails
  pub after : OnOk result (After new)
  pub after_fault : OnErr result (new ≡ after_fault old)
  pub cause : HasCause old.faults new.faults result

-- What a write answers that tears its range where it is set to fail, and what it leaves. Where it
-- lacks room it only counts the fault.
pub record AnswersTorn {T E : Type 0} (choice at : ℕ) (bytes : List ℕ) (old new : MemoryDisk)
    (result : Result T E)
    : Type 0 where
  pub fails : IsErr result ↔ (FailsNext old.fails old.calls ⊎ LacksRoom old (length bytes))
  pub after : OnOk result (new ≡ after_change (written at bytes old.content) old)
  pub torn : OnErr result ((LacksRoom old (length bytes) → ⊥) → new
      ≡ after_torn choice at bytes old)
  pub after_fault : OnErr result (LacksRoom old (length bytes) → new ≡ after_fault old)
  pub cause : HasCause old.faults new.faults result
