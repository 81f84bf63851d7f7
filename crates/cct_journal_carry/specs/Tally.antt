-- What contracts see of a tally.
use Rattle.std.specs.Prelude.{◌≡◌, ℕ}
use Rattle.cct_model.specs.terms.device.Setup.{Setup}
use Rattle.cct_model.specs.lines.carry.Carry.{Carry}
use Rattle.cct_journal_carry.specs.declared.tally.Tally.{Tally}

-- The setup of a tally.
abbrev pub setup_of : Tally → Setup
setup_of tally = tally.setup.now

-- How many records it went over.
abbrev pub many_of : Tally → ℕ
many_of tally = tally.many

-- The carry that it has.
abbrev pub carry_in : Tally → Carry
carry_in tally = tally.carry

-- A tally over this setup went over so many records, and has this carry.
pub record Counts (setup : Setup) (many : ℕ) (c : Carry) (tally : Tally) : Type 0 where
  pub setup_is : setup_of tally ≡ setup
  pub many_is : many_of tally ≡ many
  pub carry_is : carry_in tally ≡ c
