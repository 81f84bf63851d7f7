-- What an acceptor's records post and report as lost is tallied with the coins up to the mark,
-- after each line.
use Rattle.std.specs.Prelude.{List, ◌∷◌}
use Rattle.cct_model.specs.Line.{Line}
use Rattle.cct_model.specs.Claims.{AllPast, Tallies}

-- After a line, the coins up to the mark are as many as all that were posted and all that were
-- reported as lost.
abbrev pub TalliesAt : List Line → Line → Type 0
TalliesAt past line = Tallies (line ∷ past)

-- The same after each of these lines.
abbrev pub AlwaysTallies : List Line → Type 0
AlwaysTallies lines = AllPast TalliesAt lines
