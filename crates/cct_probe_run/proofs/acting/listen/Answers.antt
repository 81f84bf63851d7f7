use Rattle.std.proofs.Common.{inr}
use Rattle.cct_probe_run.proofs.Showing.{listens, shows_named}
use Rattle.cct_probe_run.proofs.acting.listen.Goals as goal

pub returns-in-Heard-clause-shows : goal.returns-in-Heard-clause-shows
returns-in-Heard-clause-shows g c = λ trials. shows_named c.args.plan.setup.now trials c.args.turn.premise c.exchange.new.self.sent.items
    c.args.silent c.requires.names
    (λ this names. listens c.args.plan.setup.now trials c.args.turn.device.now c.args.turn.round c.args.turn.premise this
    c.exchange.new.self.sent.items c.requires.there (c.exchange.ensures.bytes c.in-Heard.is) names)

pub returns-in-Heard-2-clause-shows : goal.returns-in-Heard-2-clause-shows
returns-in-Heard-2-clause-shows g c = λ trials. listens c.args.plan.setup.now trials c.args.turn.device.now c.args.turn.round
    c.args.turn.premise _ c.exchange.new.self.sent.items c.requires.there (c.exchange.ensures.bytes c.in-Heard-2.is) (inr tt)
