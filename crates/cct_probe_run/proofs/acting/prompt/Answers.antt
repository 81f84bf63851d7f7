use Rattle.std.proofs.Common.{[], refl}
use Rattle.cct_probe_run.specs.Plays.{not_begun}
use Rattle.cct_probe_run.proofs.acting.prompt.Goals as goal

pub returns-then-has_done-clause-came : goal.returns-then-has_done-clause-came
returns-then-has_done-clause-came g c = λ setup trials kept. (refl, c.tell.ensures.plays setup [] c.args.bench.now not_begun)
