use Rattle.std.proofs.Common.{sym, subst}
use Rattle.cct_journal.specs.Journal as journals
use Rattle.cct_bench.specs.Upgrade.{AtEnd, AtMoments}
use Rattle.cct_bench.proofs.Keeping.{stands_leaves}
use Rattle.cct_bench.proofs.upgrading.bring_forward.Goals as goal

pub returns-in-Ok-clause-moments : goal.returns-in-Ok-clause-moments
returns-in-Ok-clause-moments g c =
    let disk = g.D.Disk in
    subst (λ last. AtMoments disk.honest disk.seen disk.may_leave disk.moment disk.left_since c.args.disk last
    c.args.setup.now) (sym c.into_disk.ensures)
    (record { each = c.in-Ok.ensures.moments; stands = c.in-Ok.ensures.stands; alone = c.in-Ok.ensures.alone })

pub returns-in-Ok-clause-forward : goal.returns-in-Ok-clause-forward
returns-in-Ok-clause-forward g c done =
    let disk = g.D.Disk in
    let journal = c.in-Ok.journal in
    subst (λ last. AtEnd disk.honest disk.seen disk.may_leave disk.moment disk.left_since c.args.disk last
    c.args.setup.now) (sym c.into_disk.ensures)
    (record {
      turned = c.in-Ok.ensures.done;
      stands = λ image records holds stands follow.
          stands_leaves c.args.setup.now disk.honest disk.seen disk.may_leave (journals.disk_of journal)
          (journals.place_of journal) records (c.in-Ok.ensures.keeps image records holds stands follow);
    })

pub returns-in-Err-clause-answers : goal.returns-in-Err-clause-answers
returns-in-Err-clause-answers g c image told = record {
  tells = c.in-Err.ensures.refused image told;
  never = λ base carry rest can. c.in-Err.ensures.never image base carry rest told can;
}

pub returns-in-Err-clause-moments : goal.returns-in-Err-clause-moments
returns-in-Err-clause-moments g c =
    record { each = c.in-Err.ensures.moments; stands = c.in-Err.ensures.stands; alone = c.in-Err.ensures.alone }
