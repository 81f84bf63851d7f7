use Rattle.std.proofs.Common.{inl, inr, refl}
use Rattle.cct_probe_plan.proofs.judging.shown_by.Goals as goal

pub returns-in-Silence-clause-names : goal.returns-in-Silence-clause-names
returns-in-Silence-clause-names c = c.right_if.ensures.names c.args.turn.premise (inl refl)

pub returns-in-NotAgain-clause-names : goal.returns-in-NotAgain-clause-names
returns-in-NotAgain-clause-names c = c.right_if-in-NotAgain.ensures.names c.args.turn.premise (inr tt)

pub returns-after-is_empty-clause-names : goal.returns-after-is_empty-clause-names
returns-after-is_empty-clause-names c = c.right_if-in-NobodyElse.ensures.names c.args.turn.premise (inr tt)
