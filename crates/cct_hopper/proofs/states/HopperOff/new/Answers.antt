use Rattle.std.proofs.Common.{[], subst, sym}
use Rattle.cct_device_core.specs.Listening.{HeardSince}
use Rattle.cct_hopper.proofs.states.HopperOff.new.Goals as goal

pub returns-clause-gap : goal.returns-clause-gap
returns-clause-gap c =
    subst (λ listener. HeardSince listener c.new-2.result.setup.now.addr []) (sym c.new-2.ensures.listener) (c.new.ensures.gap c.new-2.result.setup.now.addr)
