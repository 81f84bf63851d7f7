-- What is reported of what the journal knows, against all that was reported before it.
use Rattle.std.specs.Prelude.{◌≡◌, ◌⊎◌, ℕ, true, List, [], ◌∷◌, ◌++◌, take, Option, Some, Result}
use Rattle.cct_edge.specs.declared.fault.Failed.{Failed}
use Rattle.cct_disk.specs.declared.disk.Disk.{Ghosts}
use Rattle.cct_disk.specs.Disk.{IsTrusted}
use Rattle.cct_model.specs.terms.device.Setup.{Setup}
use Rattle.cct_model.specs.lines.entry.Entry.{Entry}
use Rattle.cct_model.specs.lines.record.Record.{Record}
use Rattle.cct_model.specs.Carry.{carry}
use Rattle.cct_model.specs.Following.{all_follow}
use Rattle.cct_model.specs.Records.{records}
use Rattle.cct_host.specs.declared.host.Host.{Host}
use Rattle.cct_host.specs.Host.{StandsFor, disk_of, journal_of, setup_of}
use Rattle.cct_journal.specs.Journal as journals
use Rattle.cct_bench_state.specs.Books.{state_lines}
use Rattle.cct_live_service.specs.declared.notice.Notice.TheVariants as notice_of
use Rattle.cct_live_service.specs.Told.{WritesTold, knows_each, notice}

-- These lines are the whole state of a journal with these records, newest first, of which these
-- came since it last turned: what `cct_bench_state` reports of them, after the carry of the first
-- ones, by the setup.
pub record IsStateOf (setup : Setup) (all since : List Record) (lines : List (List ℕ)) : Type 0
  where
    pub first : List Record
    pub all_are : all ≡ since ++ first
    pub lines_are : lines ≡ state_lines (Some setup) (carry setup first) since

module _ {D : Type 0} {g : Ghosts D} where
  -- The records of a past that the current half of the journal of a host has, newest first.
  abbrev pub kept_in : Host D g → List Entry → List Record
  kept_in host past = take (journals.kept_of (journal_of host)) (records past)

  -- These lines are the state of the records of each past that a host represents, where its disk is
  -- trusted.
  abbrev pub IsStateFor : Host D g → List (List ℕ) → Type 0
  IsStateFor host lines =
      (past : List Entry) → StandsFor host past → IsTrusted g.honest g.seen (disk_of host)
      → IsStateOf (setup_of host) (records past) (kept_in host past) lines

-- It was reported that the journal couldn't be read.
abbrev pub IsUnread : {K : Type 0} → (K → Option (List ℕ)) →
    (K → List ℕ → Result (Unit {0}) Failed → K → Type 0) → K
    → Result (Unit {0}) Failed → K → Type 0
IsUnread written puts before result now =
    WritesTold written puts before (notice notice_of.StateUnread ∷ []) result now

module _ {D : Type 0} {g : Ghosts D} where
  -- This was missed, if a host represents a past whose records follow one another, and its disk is
  -- trusted.
  abbrev pub MissedFor : Host D g → Type 0 → Type 0
  MissedFor host Missed =
      (past : List Entry) → StandsFor host past → all_follow (setup_of host) (records past) ≡ true
      → IsTrusted g.honest g.seen (disk_of host) → Missed

-- The whole state of the journal of a host was reported; or that it couldn't be read, since this
-- was missed.
abbrev pub TellsKnown : {K : Type 0} → (K → Option (List ℕ)) →
    (K → List ℕ → Result (Unit {0}) Failed → K → Type 0)
    → {D : Type 0} → {g : Ghosts D} → Host D g → Type 0 → K → Result (Unit {0}) Failed → K → Type 0
TellsKnown written puts host Missed before result now =
    ((lines : List (List ℕ)) × IsStateFor host lines
    × WritesTold written puts before (knows_each lines lines) result now)
    ⊎ (IsUnread written puts before result now × MissedFor host Missed)
