-- What contracts see of a disk over a file.
use Rattle.std.specs.Prelude.{ℕ, Bool, false, None, is_some}
use Rattle.cct_disk.specs.Disk.{GoesOn, Outlasts}
use Rattle.cct_disk.specs.declared.file.FileDisk.{FileDisk}

-- there is a file, of which no sync failed
abbrev pub is_open : {R F D : Type 0} → FileDisk R F D → Bool
is_open disk = is_some disk.file

-- how many bytes the disk has
abbrev pub file_len : {R F D : Type 0} → FileDisk R F D → ℕ
file_len disk = disk.len

-- how often a call has failed
abbrev pub file_faults : {R F D : Type 0} → FileDisk R F D → ℕ
file_faults disk = disk.faults

-- how often the power was cut
abbrev pub file_cuts : {R F D : Type 0} → FileDisk R F D → ℕ
file_cuts disk = disk.cuts

-- from one disk to another it goes on
abbrev pub FileGoesOn : {R F D : Type 0} → FileDisk R F D → FileDisk R F D → Type 0
FileGoesOn = GoesOn file_len (λ _. false) (λ _. None) file_cuts

-- and outlasts a cut
abbrev pub FileOutlasts : {R F D : Type 0} → FileDisk R F D → FileDisk R F D → Type 0
FileOutlasts = Outlasts file_len (λ _. false) (λ _. None) file_cuts
