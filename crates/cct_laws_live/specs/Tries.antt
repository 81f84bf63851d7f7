-- When a job of a live host ends for want of an answer.
use Rattle.std.specs.Prelude.{List, ⊤}
use Rattle.cct_model.specs.Line.{Line, accepted, dispensed}
use Rattle.cct_laws.specs.Tries.{TriesAt}

-- A job ends for want of an answer exactly after its third failed try in succession, as far as a
-- host sees the lines: that a hopper took a dispense, or that a bill was stacked, it doesn't.
abbrev pub SeenTriesAt : List Line → Line → Type 0
SeenTriesAt past (dispensed count) = ⊤
SeenTriesAt past (accepted coin) = ⊤
SeenTriesAt past line = TriesAt past line
