-- The steps of hosts that live one after the other over one journal.
use Rattle.std.specs.Prelude.{ℕ, Option}
use Rattle.cct_model.specs.lines.command.Command.{Command}
use Rattle.cct_model.specs.lines.command.CrashAt.{CrashAt}

-- A step of a live host: a command is given, the next row of the job at an address is done, or the
-- operator's money is asked for. Or a new host starts over the journal: the one before it ended
-- anywhere, in a put of the job at an address after so many of its disk calls, or in none.
pub data LiveStep : Type 0 where
  command : (c : Command) → LiveStep
  next : (addr : ℕ) → LiveStep
  balance : LiveStep
  start : (at : Option CrashAt) → LiveStep
