-- How a service ends.
use Rattle.std.specs.Prelude.{List, [], ◌∷◌, Option, Some, None, Result, Ok, Err, ⊤}
use Rattle.cct_edge.specs.declared.fault.Failed.{Failed}
use Rattle.cct_model.specs.lines.entry.Entry.{Entry}
use Rattle.cct_model.specs.lines.entry.Entry.TheVariants as entry_of
use Rattle.cct_journal.specs.declared.refusal.CreateNo.{CreateNo}
use Rattle.cct_journal.specs.declared.refusal.CreateNo.TheVariants as making
use Rattle.cct_journal.specs.declared.refusal.ReadNo.{ReadNo}
use Rattle.cct_journal.specs.declared.refusal.ReadNo.TheVariants as reading
use Rattle.cct_live_service.specs.declared.served.Served.{Served}
use Rattle.cct_live_service.specs.declared.served.Served.TheVariants as served
use Rattle.cct_live_service.specs.Told.{Told, last}

-- Goes on, or ends where a line couldn't be written.
abbrev pub by_writing : Result (Unit {0}) Failed → Result (Unit {0}) Served
by_writing (Ok done) = Ok tt
by_writing (Err failed) = Err served.Unwritten

-- The last line, if there is one.
abbrev pub last_entry : Served → Option Entry
last_entry served.Done = None
last_entry (served.Refused number kind) = Some (entry_of.Line number kind)
last_entry served.Unread = Some entry_of.ReadFault
last_entry served.Unwritten = None
last_entry served.Disk = Some entry_of.DiskFault
last_entry (served.OtherSize len) = Some (entry_of.DiskSize len)
last_entry served.Alien = Some entry_of.JournalAlien
last_entry (served.BadRecord index) = Some (entry_of.JournalBad index)

-- One line more, if there is one.
abbrev pub lines_of : Option Entry → List Told
lines_of None = []
lines_of (Some e) = last e ∷ []

-- What is reported last.
abbrev pub last_told : Served → List Told
last_told how = lines_of (last_entry how)

-- A service ended so, or its last line couldn't be written.
abbrev pub closed_by : Result (Unit {0}) Failed → Served → Served
closed_by (Ok done) how = how
closed_by (Err failed) how = served.Unwritten

-- Why no journal is made.
abbrev pub unmade_by : CreateNo → Served
unmade_by (making.Small len) = served.OtherSize len
unmade_by making.Disk = served.Disk
unmade_by (making.NotBlank at) = served.Alien

-- Why no host is started.
abbrev pub unstarted_by : ReadNo → Served
unstarted_by reading.Disk = served.Disk
unstarted_by (reading.BadRecord index) = served.BadRecord index

-- An end that the disk brings.
abbrev pub IsOfDisk : Served → Type 0
IsOfDisk served.Disk = ⊤
IsOfDisk (served.OtherSize len) = ⊤
IsOfDisk served.Alien = ⊤
IsOfDisk (served.BadRecord index) = ⊤
IsOfDisk how = ⊥
