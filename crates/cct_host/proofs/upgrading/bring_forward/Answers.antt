use Rattle.std.proofs.Common.{subst, ◌∙◌, ap}
use Rattle.std.proofs.lemmas.Result.{IfOk-weaker}
use Rattle.cct_disk.specs.Disk.{LeavesOnly}
use Rattle.cct_journal.specs.Journal as journals
use Rattle.cct_journal.specs.OldImage.{IsTurning}
use Rattle.cct_journal.specs.OldJournal as olds
use Rattle.cct_journal.specs.OldStands.{IsTurned}
use Rattle.cct_journal.specs.declared.old_place.OldPlace.{OldPlace}
use Rattle.cct_journal_carry.specs.Tally as tallies
use Rattle.cct_host.specs.Upgrading.{disk_after}
use Rattle.cct_host.proofs.Upgrades.{if_ok_all, read_there, turns_leave}
use Rattle.cct_host.proofs.upgrading.bring_forward.Goals as goal

pub returns-in-Ok-clause-moments : goal.returns-in-Ok-clause-moments
returns-in-Ok-clause-moments g c rest stands =
    let can = c.in-Ok.ensures.can rest (read_there stands) in
    turns_leave g.D.Disk c.args.setup.now (olds.place_of c.args.journal) rest (olds.disk_of c.args.journal)
    (olds.disk_of c.tally_all.new.journal) (disk_after c.turn.result) (tallies.carry_in c.in-Ok.tally) stands
    c.in-Ok.ensures.reads.disk can.0 can.1
    (subst (λ p. LeavesOnly g.D.Disk.moment g.D.Disk.left_since (olds.disk_of c.tally_all.new.journal)
    (disk_after c.turn.result) (IsTurning p (tallies.carry_in c.in-Ok.tally) rest)) c.in-Ok.ensures.reads.place
    (c.turn.ensures.moments rest (c.in-Ok.ensures.reads.stands rest stands)))

pub returns-in-Ok-clause-done : goal.returns-in-Ok-clause-done
returns-in-Ok-clause-done g c =
    let used = ap (λ (p : OldPlace). p.place.used) c.in-Ok.ensures.reads.place in
    IfOk-weaker c.turn.result _ _
    (λ brought done rest stands.
    let can = c.in-Ok.ensures.can rest (read_there stands) in
    subst (IsTurned g.D.Disk.honest g.D.Disk.seen g.D.Disk.may_leave (journals.disk_of brought.0)
    (olds.used_of c.args.journal)) can.1
    (subst (λ n. IsTurned g.D.Disk.honest g.D.Disk.seen g.D.Disk.may_leave (journals.disk_of brought.0) n
    (tallies.carry_in c.in-Ok.tally)) used (done rest (c.in-Ok.ensures.reads.stands rest stands))))
    c.turn.ensures.done

pub returns-in-Ok-clause-keeps : goal.returns-in-Ok-clause-keeps
returns-in-Ok-clause-keeps g c =
    let used = ap (λ (p : OldPlace). p.place.used) c.in-Ok.ensures.reads.place in
    IfOk-weaker c.turn.result _ _
    (λ brought keeps rest stands carry_of records many is.
    keeps rest (c.in-Ok.ensures.reads.stands rest stands) carry_of records (used ∙ many)
    ((c.in-Ok.ensures.can rest (read_there stands)).1 ∙ is))
    c.turn.ensures.keeps

pub returns-in-Ok-clause-can : goal.returns-in-Ok-clause-can
returns-in-Ok-clause-can g c =
    if_ok_all c.turn.result _ (λ brought rest reads. (c.in-Ok.ensures.can rest reads).0)
