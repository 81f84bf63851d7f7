-- The values as which contracts see a source and a sink in memory, and what a call makes of them.
use Rattle.std.specs.Prelude.{ℕ, ◌+◌, ◌<◌, List, ◌++◌, Contains, length, drop, min}
use Rattle.cct_edge.specs.Faults.{next_count}

-- a source: the bytes still to come, the most that it gives in one call, the numbers of the calls
-- that fail, and how many calls and faults there were
pub record MemoryInput : Type 0 where
  pub left : List ℕ
  pub most : ℕ
  pub fails : List ℕ
  pub calls : ℕ
  pub faults : ℕ

-- a sink: the bytes written, how many it holds at most, the numbers of the calls that fail, and how
-- many calls and faults there were
pub record MemoryOutput : Type 0 where
  pub written : List ℕ
  pub room : ℕ
  pub fails : List ℕ
  pub calls : ℕ
  pub faults : ℕ

-- the call after so many is one of those that fail
abbrev pub FailsNext : List ℕ → ℕ → Type 0
FailsNext fails calls = Contains fails (next_count calls)

-- how many bytes a source gives into a room of so many
abbrev pub amount_into : ℕ → MemoryInput → ℕ
amount_into room input = min room (min input.most (length input.left))

-- a source after a call that took so many bytes
abbrev pub input_after : ℕ → MemoryInput → MemoryInput
input_after taken input =
    record input { left = drop taken input.left; calls = next_count input.calls }

-- a source after a call that failed
abbrev pub input_after_fault : MemoryInput → MemoryInput
input_after_fault input =
    record input { calls = next_count input.calls; faults = next_count input.faults }

-- a piece doesn't fit into what room the sink has left
abbrev pub PassesRoom : MemoryOutput → List ℕ → Type 0
PassesRoom output piece = output.room < length output.written + length piece

-- a sink after a call that wrote a piece
abbrev pub output_after : List ℕ → MemoryOutput → MemoryOutput
output_after piece output =
    record output { written = output.written ++ piece; calls = next_count output.calls }

-- a sink after a call that failed
abbrev pub output_after_fault : MemoryOutput → MemoryOutput
output_after_fault output =
    record output { calls = next_count output.calls; faults = next_count output.faults }
