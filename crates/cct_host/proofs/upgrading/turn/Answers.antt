use Rattle.std.proofs.Common.{subst, ◌∙◌}
use Rattle.cct_disk.specs.Disk.{LeavesOnly}
use Rattle.cct_journal.specs.Journal as journals
use Rattle.cct_journal.specs.OldImage.{IsTurning}
use Rattle.cct_journal.specs.OldJournal as olds
use Rattle.cct_journal.specs.OldStands.{IsTurned}
use Rattle.cct_host.proofs.upgrading.turn.Goals as goal

pub returns-in-Ok-clause-moments : goal.returns-in-Ok-clause-moments
returns-in-Ok-clause-moments g c rest stands =
    subst (λ k. LeavesOnly g.D.Disk.moment g.D.Disk.left_since (olds.disk_of c.args.journal)
    (journals.disk_of c.in-Ok.journal) (IsTurning (olds.place_of c.args.journal) k rest)) c.carry.ensures.value
    (c.in-Ok.ensures.moments rest stands)

pub returns-in-Ok-clause-done : goal.returns-in-Ok-clause-done
returns-in-Ok-clause-done g c rest stands =
    subst (IsTurned g.D.Disk.honest g.D.Disk.seen g.D.Disk.may_leave (journals.disk_of c.in-Ok.journal)
    (olds.used_of c.args.journal)) c.carry.ensures.value (c.in-Ok.ensures.done rest stands)

pub returns-in-Ok-clause-keeps : goal.returns-in-Ok-clause-keeps
returns-in-Ok-clause-keeps g c rest stands carry_of records many is =
    c.in-Ok.ensures.stands rest stands carry_of records many (c.carry.ensures.value ∙ is)

pub returns-in-Err-clause-moments : goal.returns-in-Err-clause-moments
returns-in-Err-clause-moments g c rest stands =
    subst (λ k. LeavesOnly g.D.Disk.moment g.D.Disk.left_since (olds.disk_of c.args.journal) c.in-Err.disk
    (IsTurning (olds.place_of c.args.journal) k rest)) c.carry.ensures.value (c.in-Err.ensures.moments rest stands)
