-- What a power cut may keep, and what a host that restarts after it takes for granted of the
-- records.
use Rattle.std.specs.Prelude.{◌≡◌, ℕ, true, List, Option, Some, None}
use Rattle.std.specs.Option.{IfSome}
use Rattle.cct_model.specs.terms.device.Setup.{Setup}
use Rattle.cct_model.specs.lines.record.Record.{Record}
use Rattle.cct_model.specs.lines.command.CrashAt.{CrashAt}
use Rattle.cct_model.specs.lines.entry.Entry.{Entry}
use Rattle.cct_model.specs.Following.{follows, all_follow}
use Rattle.cct_model.specs.Legal.{due_at}
use Rattle.cct_model.specs.Records.{records}

-- The record that a power cut may keep: the one that the job at its address is about to put, if it
-- names one.
abbrev pub due_in : Setup → List Entry → Option CrashAt → Option Record
due_in setup past None = None
due_in setup past (Some at) = due_at setup past at.addr

-- How many of the four disk calls of a put a power cut comes after.
abbrev pub calls_in : Option CrashAt → ℕ
calls_in None = 0
calls_in (Some at) = at.calls

-- What a restart takes for granted of the past, so that a host restarts whatever the power cut
-- keeps: each record follows those before it, and so does the one that it may keep. Every past that
-- is legal is so.
pub record RestartSuits (setup : Setup) (past : List Entry) (at : Option CrashAt) : Type 0 where
  pub follow : all_follow setup (records past) ≡ true
  pub due : IfSome (due_in setup past at) (λ r. follows setup (records past) r ≡ true)
