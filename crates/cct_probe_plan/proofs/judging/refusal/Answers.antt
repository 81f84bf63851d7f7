use Rattle.std.proofs.Common.{inl, refl}
use Rattle.cct_probe_plan.proofs.judging.refusal.Goals as goal

pub returns-in-Some-clause-names : goal.returns-in-Some-clause-names
returns-in-Some-clause-names c = c.right_if.ensures.names c.args.turn.premise (inl refl)
