-- A framer and the bytes that came to it since the last gap.
use Rattle.std.specs.Prelude.{◌≡◌, ℕ, ◌-◌, ◌^◌, nat_le, min, List, length, take, if◌then◌else◌}
use Rattle.std.specs.Prelude.{Option, Some, slice_index}
use Rattle.cct_model_wire.specs.declared.wire.CheckKind.{CheckKind}
use Rattle.cct_model_wire.specs.declared.wire.TheConstants.{MOST_SENT}
use Rattle.cct_frame.specs.Frame.{fault_in}
use Rattle.cct_frame.specs.declared.reading.FrameFault.{FrameFault}
use Rattle.cct_frame.specs.declared.reading.FrameFault.TheVariants.{Length}
use Rattle.cct_wire.specs.declared.framer.Framer.{Framer}

-- How many bytes are reported where so many came: a count stands still at the greatest number of
-- its type.
abbrev pub counted : List ℕ → ℕ
counted bytes = min (length bytes) (2 ^ 64 - 1)

-- The bytes that a framer holds.
abbrev pub held_by : Framer → List ℕ
held_by framer = take framer.count framer.buffer

-- These bytes came to a framer since the last gap: it holds as many of them as a message can have,
-- the first ones, and counts them all.
pub record Since (framer : Framer) (bytes : List ℕ) : Type 0 where
  pub count : framer.count ≡ counted bytes
  pub held : held_by framer ≡ take MOST_SENT bytes

-- What is wrong first with the bytes since the last gap, or none. Where they are more than a
-- message can have, their number disagrees with the second of them.
abbrev pub fault_since : CheckKind → List ℕ → Option FrameFault
fault_since kind bytes =
    if nat_le (length bytes) MOST_SENT then fault_in kind bytes
    else Some (Length (slice_index bytes 1) (counted bytes))
