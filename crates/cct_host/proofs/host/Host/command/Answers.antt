use Rattle.std.specs.Prelude.{refl}
use Rattle.cct_host.proofs.Hosts.{together_taken, tried_answers}
use Rattle.cct_host.proofs.host.Host.command.Goals as goal

pub returns-in-None-clause-answers : goal.returns-in-None-clause-answers
returns-in-None-clause-answers g c =
    tried_answers c.args.self.now _ c.args.command.now c.command.result c.in-None.ensures.stands c.command.ensures.answers
    c.command.ensures.setup refl refl

pub invariant_of-self : goal.invariant_of-self
invariant_of-self g c = record {
  together = together_taken c.args.self.now.desks c.command.new.self _ _ c.args.command.now c.command.result
      c.args.self.now.together c.command.ensures.setup c.command.ensures.takes c.command.ensures.stays
      (c.room_refusal.ensures.fits c.in-None.is);
}
