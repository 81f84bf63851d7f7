-- What a host replays of the records that are found after a power cut.
use Rattle.std.specs.Prelude.{◌≡◌, ℕ, ◌+◌, Option, Some, None, List, length, reverse}
use Rattle.cct_model.specs.terms.device.Setup.{Setup}
use Rattle.cct_model.specs.lines.carry.Carry.{Carry}
use Rattle.cct_model.specs.lines.record.Record.{Record}
use Rattle.cct_journal_carry.specs.Tally as tallies
use Rattle.cct_host.specs.declared.replay.ReplayState.{ReplayState}
use Rattle.cct_host.specs.OnDisk.{StopsAt}
use Rattle.cct_host.specs.Starting.{TalliesOver}

-- A tally went over a carry of so many records and over those after it, oldest first, or there is
-- an index at which a host stops that starts over them.
abbrev pub GoesOver : Option ℕ → Setup → ℕ → Carry → List Record → Carry → Type 0
GoesOver None setup base c rest now = TalliesOver setup c rest now
GoesOver (Some index) setup base c rest now = StopsAt setup base c rest index

-- What went over a carry of so many records, and over records after it, newest first, from one
-- value to another.
pub record ReplaysTo (first : ReplayState) (base : ℕ) (c : Carry) (before : List Record)
    (now : ReplayState) : Type 0 where
  pub setup : tallies.setup_of now.tally ≡ tallies.setup_of first.tally
  pub counted : now.bad ≡ None → tallies.many_of now.tally ≡ base + length before
  pub over : GoesOver now.bad (tallies.setup_of now.tally) base c (reverse before)
      (tallies.carry_in now.tally)
