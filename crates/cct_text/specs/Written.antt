-- Which entries a transcript may have.
use Rattle.std.specs.Prelude.{◌≡◌, ℕ, ◌^◌, ◌<◌, length, true, false, ⊤}
use Rattle.hex.specs.Hex.{IsBytes}
use Rattle.cct_model_lines.specs.declared.record.Record.{Record}
use Rattle.cct_model_lines.specs.declared.record.Record.TheVariants as record_of
use Rattle.cct_model_lines.specs.declared.command.Command.{Command}
use Rattle.cct_model_lines.specs.declared.shape.Field.{Field}
use Rattle.cct_model_lines.specs.declared.shape.Field.TheVariants.{Mask}
use Rattle.cct_model_lines.specs.Shape.{shape_of}
use Rattle.cct_model_lines.specs.declared.command.WireFault.{WireFault}
use Rattle.cct_model_lines.specs.declared.command.WireFault.TheVariants as fault
use Rattle.cct_model_lines.specs.declared.entry.Listed.{Listed}
use Rattle.cct_model_lines.specs.declared.entry.End.{End}
use Rattle.cct_model_lines.specs.declared.entry.End.TheVariants as end_of
use Rattle.cct_model_lines.specs.declared.entry.Entry.{Entry}
use Rattle.cct_model_lines.specs.declared.entry.Entry.TheVariants as entry
use Rattle.cct_model_lines.specs.DeviceSet.{has}

-- An inhibit mask has 16 bits.
abbrev pub IsMask : ℕ → Type 0
IsMask mask = mask < 2 ^ 16

-- The masks of a record fit.
abbrev pub IsRecord : Record → Type 0
IsRecord (record_of.Epoch addr mask accepts) = IsMask mask
IsRecord (record_of.Broken addr seen counter lost accepts posted) = IsMask seen
IsRecord r = ⊤

-- What a field spells has its digits: a mask fits.
abbrev pub IsField : Field → Type 0
IsField (Mask mask) = IsMask mask
IsField field = ⊤

-- The masks of a command fit.
abbrev pub IsCommand : Command → Type 0
IsCommand c = IsField (shape_of c).first × IsField (shape_of c).second × IsField (shape_of c).third

-- The piece of a wire fault has bytes.
abbrev pub IsFault : WireFault → Type 0
IsFault fault.Clear = ⊤
IsFault (fault.DevicesHear piece) = IsBytes piece
IsFault (fault.HostHears piece) = IsBytes piece
IsFault (fault.WholeHeard piece) = IsBytes piece

-- Two sets of addresses, 0 to 255, that share none.
pub record IsListed (listed : Listed) : Type 0 where
  pub simple : length listed.simple.members ≡ 256
  pub crc : length listed.crc.members ≡ 256
  pub once : (addr : ℕ) → has listed.simple addr ≡ true → has listed.crc addr ≡ false

-- The end of a job at an address: that of a scan is at address 0 and lists two such sets, and that
-- of a sale is at address 1.
abbrev pub IsEnd : ℕ → End → Type 0
IsEnd addr (end_of.Listed listed) = (addr ≡ 0) × IsListed listed
IsEnd addr end_of.Sold = addr ≡ 1
IsEnd addr end = ⊤

-- An entry is none of a load's sums, and its bytes, masks and sets are in range. Its numbers are
-- any.
abbrev pub IsWritten : Entry → Type 0
IsWritten (entry.Fault f) = IsFault f
IsWritten (entry.Taken c) = IsCommand c
IsWritten (entry.No c why) = IsCommand c
IsWritten (entry.Wire addr sent heard) = IsBytes sent × IsBytes heard
IsWritten (entry.Put r) = IsRecord r
IsWritten (entry.Kept r) = IsRecord r
IsWritten (entry.Ended addr end) = IsEnd addr end
IsWritten (entry.Listing index r) = IsRecord r
IsWritten (entry.Sum what amount) = ⊥
IsWritten e = ⊤
