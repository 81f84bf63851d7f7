-- The parts of a host: its desks, the tally of its records and its journal.
use Rattle.std.specs.Prelude.{◌≡◌, ◌≤◌, ◌+◌}
use Rattle.std.proofs.Props.{props}
use Rattle.cct_disk.specs.declared.disk.Disk.{Ghosts}
use Rattle.cct_journal.specs.declared.journal.Journal.{Journal}
use Rattle.cct_journal.specs.Journal as journals
use Rattle.cct_journal.specs.declared.format.TheConstants.{MOST_RECORDS}
use Rattle.cct_journal_carry.specs.declared.tally.Tally.{Tally}
use Rattle.cct_journal_carry.specs.Tally as tallies
use Rattle.cct_host.specs.declared.desks.Desks.{Desks}
use Rattle.cct_host.specs.Desks as all_desks

module _ {D : Type 0} {g : Ghosts D} where
  -- These parts are those of one host: they have one setup, and the tally is of the records of the
  -- journal, which takes each record that the jobs may still put.
  pub record BelongTogether (desks : Desks) (tally : Tally) (journal : Journal D g) : Type 0 where
    pub same : tallies.setup_of tally ≡ all_desks.setup_of desks
    pub tallied : tallies.many_of tally ≡ journals.used_of journal
    pub fits : journals.used_of journal + all_desks.puts_of desks ≤ MOST_RECORDS

  pub BelongTogether-prop : (desks : Desks) (tally : Tally) (journal : Journal D g)
      → IsProp (BelongTogether desks tally journal)
  BelongTogether-prop desks tally journal = hlevel props
