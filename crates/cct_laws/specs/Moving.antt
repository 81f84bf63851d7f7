-- That a reading has to be made again shows that a coin came: one was accepted between its two
-- accept counters. And it is none of a stop.
use Rattle.std.specs.Prelude.{◌<◌, List, [], ◌∷◌, length, ⊤}
use Rattle.cct_model.specs.lines.command.Command.TheVariants as command
use Rattle.cct_model.specs.lines.entry.End.TheVariants.{Moved}
use Rattle.cct_model.specs.Line.{Line, ended}
use Rattle.cct_model.specs.Job.{Job, free, works, job, accepts_line}
use Rattle.cct_model.specs.Claims.{AllPast, behind, coins, reading}

-- All that came before the last reading of the accept counter, which is the last answered header
-- 225.
abbrev pub counting : List Line → List Line
counting [] = []
counting (line ∷ past) = behind (accepts_line line) past (counting past)

-- An end by which a reading has to be made again: fewer coins were accepted before the accept
-- counter was read that stands before the credits than before the last one.
abbrev pub MovedAt : List Line → Line → Type 0
MovedAt past (ended Moved) =
    length (coins (counting (reading past))) < length (coins (counting past))
MovedAt past line = ⊤

-- The same of each end of these lines.
abbrev pub MovesWithCoins : List Line → Type 0
MovesWithCoins lines = AllPast MovedAt lines

-- No job, or one that is no stop.
abbrev pub IsNoStop : Job → Type 0
IsNoStop free = ⊤
IsNoStop (works (command.Stop addr) since) = ⊥
IsNoStop (works c since) = ⊤

-- The job that ends because its reading has to be made again is no stop.
abbrev pub NoStopMovesAt : List Line → Line → Type 0
NoStopMovesAt past (ended Moved) = IsNoStop (job past)
NoStopMovesAt past line = ⊤

-- The same of each end of these lines.
abbrev pub NoStopMoves : List Line → Type 0
NoStopMoves lines = AllPast NoStopMovesAt lines
