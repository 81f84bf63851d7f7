use Rattle.std.proofs.Common.{◌+◌, ◌∙◌, ap, ap₂}
use Rattle.cct_host.specs.Desk.{held_in}
use Rattle.cct_host.proofs.Held.{held_is}
use Rattle.cct_host.proofs.desks.Desks.held.Goals as goal

pub returns-clause-stands : goal.returns-clause-stands
returns-clause-stands c past stands =
    ap₂ (λ m n. m + n) (c.held_in.ensures.value ∙ ap held_in c.as_slice.ensures.value) c.held.ensures.value
    ∙ held_is c.args.self.now past stands
