use Rattle.cct_hopper.proofs.hopper.Hopper.set_enabled.Goals as goal

pub returns-else-code-eq-ENABLE_CODE-clause-stands : goal.returns-else-code-eq-ENABLE_CODE-clause-stands
returns-else-code-eq-ENABLE_CODE-clause-stands c = λ d past so.
    c.disable.ensures.stands d past c.args.code c.if-code-eq-ENABLE_CODE.false so
