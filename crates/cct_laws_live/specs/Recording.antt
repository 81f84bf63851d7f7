-- A fact of each record of a device, by the lines before it: where it is put, and where it is kept
-- when the power is cut.
use Rattle.std.specs.Prelude.{◌≡◌, List, ◌∷◌, ⊤}
use Rattle.cct_model.specs.terms.device.DeviceSetup.{DeviceSetup}
use Rattle.cct_model.specs.lines.record.Record.{Record}
use Rattle.cct_model.specs.lines.entry.Entry.{Entry}
use Rattle.cct_model.specs.lines.entry.Entry.TheVariants as entry
use Rattle.cct_model.specs.Line.{Line}
use Rattle.cct_model.specs.Transcript.{owner, lines_of}

-- Of a record that is put, if it is one of the device.
abbrev pub IsPutBy : (List Line → Record → Type 0) → DeviceSetup → List Entry → Record → Type 0
IsPutBy P d past r = owner past r ≡ d.addr → P (lines_of d past) r

-- Of one that is kept, by the lines before the power was cut; no other record is kept.
abbrev pub IsKeptBy : (List Line → Record → Type 0) → DeviceSetup → List Entry → Record → Type 0
IsKeptBy P d (entry.Crash n ∷ past) r = IsPutBy P d past r
IsKeptBy P d past r = owner past r ≡ d.addr → ⊥

-- So it is of each record of the device.
abbrev pub IsRecordedBy : (List Line → Record → Type 0) → DeviceSetup → List Entry → Entry → Type 0
IsRecordedBy P d past (entry.Put r) = IsPutBy P d past r
IsRecordedBy P d past (entry.Kept r) = IsKeptBy P d past r
IsRecordedBy P d past e = ⊤
