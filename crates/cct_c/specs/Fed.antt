-- A framer in the caller's memory.
use Rattle.std.specs.Prelude.{ℕ, List, take}
use Rattle.cct_c.specs.declared.framing.LhFramer.{LhFramer}

-- The bytes that came to a framer since the last gap, as far as a message can have them.
abbrev pub held_by : LhFramer → List ℕ
held_by framer = take framer.count framer.bytes
