-- The lines of one address, newest first, without bytes but those of a scan: an exchange is what
-- was asked and what was got.
use Rattle.std.specs.Prelude.{ℕ, List, Option}
use Rattle.cct_model.specs.terms.coin.Coin.{Coin}
use Rattle.cct_model.specs.terms.wire.CheckKind.{CheckKind}
use Rattle.cct_model.specs.terms.request.Request.{Request}
use Rattle.cct_model.specs.lines.record.Record.{Record}
use Rattle.cct_model.specs.lines.command.Command.{Command}
use Rattle.cct_model.specs.lines.entry.End.{End}
use Rattle.cct_model.specs.Reply.{Reply}

-- Of an acceptor: a coin was accepted or inhibited, an object that is no coin came. Of a hopper: a
-- coin fell out, or it took a dispense of so many coins. The device was reset. An exchange was
-- made; or a scan polled an address under a check, and this followed a good echo. A record was put,
-- a command was taken, a job ended. The host restarted after a power cut.
pub data Line : Type 0 where
  accepted : (coin : Coin) → Line
  inhibited : (place : ℕ) → Line
  alien : Line
  fell : Line
  reset : Line
  dispensed : (count : ℕ) → Line
  exchange : (asked : Option Request) (got : Option Reply) → Line
  scanned : (check : CheckKind) (addr : ℕ) (rest : Option (List ℕ)) → Line
  put : (entry : Record) → Line
  taken : (command : Command) → Line
  ended : (end : End) → Line
  restarted : Line
