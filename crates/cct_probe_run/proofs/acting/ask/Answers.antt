use Rattle.cct_probe_run.proofs.acting.ask.Goals as goal

pub returns-in-Heard-clause-shows : goal.returns-in-Heard-clause-shows
returns-in-Heard-clause-shows g c = λ trials of_plan.
    c.judged.ensures.shows trials c.args.say of_plan (c.exchange.ensures.bytes c.in-Heard.is)
