use Rattle.cct_hopper.proofs.device.Device.forget_bytes.Goals as goal

pub returns-clause-gap : goal.returns-clause-gap
returns-clause-gap c = c.gap.ensures.gap c.args.self.now.setup.now.addr
