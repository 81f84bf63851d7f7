use Rattle.cct_bus.proofs.Lives.{at_gap, keeps_gap, lives_on, lives_short}
use Rattle.cct_bus.proofs.device.Device.hear.Goals as goal

pub hear-requires : goal.hear-requires
hear-requires c = record { gap = at_gap _ c.args.self.now.still }

pub invariant_of-self : goal.invariant_of-self
invariant_of-self c = record {
  still = keeps_gap _ c.hear.ensures.gap;
  lived = lives_on _ _ _ _ c.args.self.now.lived (c.hear.ensures.stands c.args.self.now.setup.now);
}

pub returns-clause-room : goal.returns-clause-room
returns-clause-room c = lives_short _ _ _ _ c.args.self.now.lived (c.hear.ensures.answer c.args.self.now.setup.now)
