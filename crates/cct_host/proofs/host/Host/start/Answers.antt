use Rattle.std.proofs.Common.{◌∙◌, ap, rules, subst, sym}
use Rattle.cct_disk.specs.Laws.{sure}
use Rattle.cct_journal.specs.declared.place.Place.{Place}
use Rattle.cct_host.specs.Replayed.{Resumes}
use Rattle.cct_host.proofs.Begun.{begun_empty, resumed_all, resumed_by, resumed_some}
use Rattle.cct_host.proofs.Records.{refuses_start}
use Rattle.cct_host.proofs.Starting.{free_together}
use Rattle.cct_host.proofs.host.Host.start.Goals as goal

pub invariant_of-result : goal.invariant_of-result
invariant_of-result g c =
    let desks = c.resume.ensures in
    let used = ap (λ (p : Place). p.used) c.replay_all.ensures.reads.place in
    record {
      together = free_together c.resume.result c.in-Ok.tally c.replay_all.new.journal desks.resumes.unused
          (c.in-Ok.ensures.setup ∙ sym desks.setup) (c.in-Ok.ensures.counted ∙ sym used);
    }

pub returns-in-Ok-clause-begins : goal.returns-in-Ok-clause-begins
returns-in-Ok-clause-begins g c =
    let used = ap (λ (p : Place). p.used) c.replay_all.ensures.reads.place in
    resumed_some _ c.args.setup.now _ _ _ c.resume.ensures.setup c.in-Ok.ensures.some
    (subst (Resumes c.resume.result) c.carry.ensures.value c.resume.ensures.resumes) used c.args.journal.placed.begins.rightly

pub returns-in-Ok-clause-resumes : goal.returns-in-Ok-clause-resumes
returns-in-Ok-clause-resumes g c rest reads =
    let used = ap (λ (p : Place). p.used) c.replay_all.ensures.reads.place in
    resumed_by _ c.args.setup.now _ _ rest c.resume.ensures.setup (c.in-Ok.ensures.over rest reads)
    (subst (Resumes c.resume.result) c.carry.ensures.value c.resume.ensures.resumes) (used ∙ reads.count)

pub returns-in-Ok-clause-knows : goal.returns-in-Ok-clause-knows
returns-in-Ok-clause-knows g c records reads first =
    resumed_all _ c.args.setup.now g.D.Disk.seen _ _ records c.resume.ensures.setup reads first
    (returns-in-Ok-clause-resumes g c)

pub returns-in-Ok-clause-fresh : goal.returns-in-Ok-clause-fresh
returns-in-Ok-clause-fresh g c none =
    let used = ap (λ (p : Place). p.used) c.replay_all.ensures.reads.place in
    begun_empty _ (c.in-Ok.ensures.fresh none)
    (subst (Resumes c.resume.result) c.carry.ensures.value c.resume.ensures.resumes) (used ∙ none)

pub returns-in-Err-clause-refused : goal.returns-in-Err-clause-refused
returns-in-Err-clause-refused g c records reads first =
    refuses_start c.args.setup.now _ _ reads.rest records c.requires.sound reads.continues c.in-Err.why first
    (c.in-Err.ensures.refused reads.rest reads.reads)

pub returns-in-Ok-clause-sure : goal.returns-in-Ok-clause-sure
returns-in-Ok-clause-sure g c ready = c.replay_all.ensures.reads.ready ready

pub returns-in-Err-clause-sure : goal.returns-in-Err-clause-sure
returns-in-Err-clause-sure g c ready = λ failed.
    let only = c.replay_all.ensures.reads in
    sure _ _ _ (g.met.D.Disk.unfailed _ 0 0 ready) (g.met.D.Disk.unfailed _ 0 0 (only.ready ready)) only.cause
    (search (rules, failed))
