use Rattle.cct_bus.proofs.hearing.all_hear.Goals as goal

pub returns-in_default-clause-answers : goal.returns-in_default-clause-answers
returns-in_default-clause-answers c = λ history distinct stand. c.each_hears.ensures.answers history stand
