use Rattle.std.proofs.Common.{◌∙◌, ap, is_some}
use Rattle.std.specs.List.{position}
use Rattle.cct_bus.proofs.Buses.{place_there}
use Rattle.cct_bus.proofs.Places.{is_at}
use Rattle.cct_bus.proofs.bus.Bus.index_of.Goals as goal

pub unwrap-requires : goal.unwrap-requires
unwrap-requires c =
    ap is_some (c.place_of.ensures.first ∙ ap (λ ds. position (is_at c.args.addr) ds) c.deref.ensures.value)
    ∙ place_there c.args.self.now.devices.items c.args.self.now.setup.now c.args.addr c.args.self.now.order c.requires
