use Rattle.std.proofs.Common.{sym, subst}
use Rattle.cct_disk.specs.Disk.{LeavesOnly}
use Rattle.cct_journal.specs.Journal as journals
use Rattle.cct_journal.specs.OldImage.{IsTurning}
use Rattle.cct_journal.specs.OldStands.{IsTurned}
use Rattle.cct_journal.specs.Stands.{Stands}
use Rattle.cct_journal.proofs.OldTurns.{turned_is, turned_stands}
use Rattle.cct_journal.proofs.old_journal.OldJournal.turn.Goals as goal

pub returns-in-Ok-clause-moments : goal.returns-in-Ok-clause-moments
returns-in-Ok-clause-moments g c rest stands =
    subst (λ disk. LeavesOnly g.D.Disk.moment g.D.Disk.left_since c.args.self.disk disk
    (IsTurning c.args.self.at c.args.carry.now rest)) (sym c.at.ensures.disk) (c.turn_old.ensures.moments rest stands)

pub returns-in-Ok-clause-done : goal.returns-in-Ok-clause-done
returns-in-Ok-clause-done g c rest stands =
    subst (λ disk. IsTurned g.D.Disk.honest g.D.Disk.seen g.D.Disk.may_leave disk c.args.self.at.place.used
    c.args.carry.now) (sym c.at.ensures.disk)
    (turned_is c.args.self.at.place c.in-Ok.place c.args.carry.now c.in-Ok.ensures.place
    (c.in-Ok.ensures.done rest stands))

pub returns-in-Ok-clause-stands : goal.returns-in-Ok-clause-stands
returns-in-Ok-clause-stands g c rest stands carry_of records many carry_is =
    let disk = g.D.Disk in
    subst (λ place. Stands carry_of disk.honest disk.seen disk.may_leave (journals.disk_of c.at.result) place records)
    (sym c.at.ensures.place)
    (subst (λ d. Stands carry_of disk.honest disk.seen disk.may_leave d c.in-Ok.place records) (sym c.at.ensures.disk)
    (turned_stands c.args.self.at.place c.in-Ok.place c.args.carry.now c.in-Ok.ensures.place
    (c.in-Ok.ensures.done rest stands) carry_of records many carry_is))
