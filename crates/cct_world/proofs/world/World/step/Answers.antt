use Rattle.std.proofs.Common.{subst}
use Rattle.cct_world.specs.Machine as machines
use Rattle.cct_world.proofs.world.World.step.Goals as goal

pub returns-in-Ok-clause-played : goal.returns-in-Ok-clause-played
returns-in-Ok-clause-played g c =
    subst (λ machine. machines.StepPlayed machine c.step.new.self c.args.step.now c.step.new.report.items)
    c.deref_mut.ensures.value c.in-Ok.ensures.played
