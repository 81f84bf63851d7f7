use Rattle.std.proofs.Common.{◌∙◌, []}
use Rattle.cct_bus.proofs.Lives.{at_gap, keeps_gap, known_lived, lives_on}
use Rattle.cct_bus.proofs.device.Device.befall.Goals as goal

pub befall-requires-clause-known : goal.befall-requires-clause-known
befall-requires-clause-known c = known_lived _ _ c.args.what c.args.self.now.lived ∙ c.requires.known

pub invariant_of-self : goal.invariant_of-self
invariant_of-self c = record {
  still = keeps_gap _ (c.befall.ensures.heard [] (at_gap _ c.args.self.now.still));
  lived = lives_on _ _ _ _ c.args.self.now.lived (c.befall.ensures.stands c.args.self.now.setup.now);
}
