-- One life of a host together with all that earlier hosts reported over its journal.
use Rattle.std.specs.Prelude.{◌≡◌, ℕ, List, [], ◌++◌, Option}
use Rattle.std.specs.List.{All}
use Rattle.cct_model.specs.terms.device.Setup.{Setup}
use Rattle.cct_model.specs.lines.record.Record.{Record}
use Rattle.cct_model.specs.lines.command.CrashAt.{CrashAt}
use Rattle.cct_model.specs.lines.entry.Entry.{Entry}
use Rattle.cct_model.specs.Legal.{EntriesOfRestart}
use Rattle.cct_model.specs.Records.{records}
use Rattle.cct_model.specs.Script.{IsCrash}
use Rattle.cct_laws_live.specs.LiveStep.{LiveStep}
use Rattle.cct_laws_live.specs.Live.{IsTellable, LiveFrom, started}

-- The past of a life over the records that it found is after all that earlier hosts reported, from
-- a journal without records on, where these left the records: the whole is what they reported, then
-- its start, and then what it reported.
pub record IsWhole (capacity : ℕ) (setup : Setup) (found : List Record) (past whole : List Entry)
    : Type 0 where
  pub steps : List LiveStep
  pub before : List Entry
  pub at : Option CrashAt
  pub news : List Entry
  pub told : List Entry
  pub in_range : All IsTellable steps
  pub crash : IsCrash at
  pub lived : LiveFrom capacity setup [] steps before
  pub restarted : EntriesOfRestart setup before at news
  pub left : records (news ++ before) ≡ found
  pub ends : past ≡ told ++ started found
  pub all : whole ≡ told ++ (news ++ before)
