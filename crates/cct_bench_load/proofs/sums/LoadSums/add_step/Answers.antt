use Rattle.std.proofs.Common.{◌≡◌, ◌∷◌, [], take, sym, ap, ◌∙◌, subst, arith, length-append}
use Rattle.std.proofs.Common.{take_all}
use Rattle.cct_model.specs.Transcript.{onto}
use Rattle.cct_laws.proofs.steps.OneMore.{onto_is, onto_next}
use Rattle.cct_bench_load.specs.Sums.{Counts}
use Rattle.cct_bench_load.proofs.sums.LoadSums.add_step.Goals as goal

pub loop-entry-preserved : goal.loop-entry-preserved
loop-entry-preserved c =
    let before = c.loop-entry.invariant in
    let report = c.args.report.now in
    let i = c.loop-entry.entry-index in
    record {
      counts = λ past counted. subst (Counts c.add.new.self)
          (sym (onto_next past report i c.entry-item.result c.loop-entry-test.true c.entry-item.is))
          (c.add.ensures.counts (onto past (take i report)) (before.counts past counted));
      steps = c.add.ensures.steps ∙ before.steps;
      few = omega arith;
    }

pub returns : goal.returns
returns c played past step sums =
    let report = c.args.report.now in
    let i = c.loop-entry.entry-index in
    let whole : take i report ≡ report = take_all i report (omega arith) in
    record {
      steps = c.loop-entry.invariant.steps ∙ omega (arith, sums.steps, length-append played (step ∷ []));
      counts = subst (Counts c.loop-entry.self) (ap (onto past) whole ∙ onto_is past report)
          (c.loop-entry.invariant.counts past sums.counts);
    }
