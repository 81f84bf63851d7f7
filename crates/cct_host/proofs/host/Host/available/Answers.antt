use Rattle.std.proofs.Common.{◌≡◌, ◌∙◌}
use Rattle.cct_host.proofs.Money.{available_by}
use Rattle.cct_host.proofs.host.Host.available.Goals as goal

pub returns : goal.returns
returns g c past keeps =
    let host = c.args.self.now in
    let told = c.setup.ensures in
    let is : c.setup.result.now ≡ host.tally.setup.now = cc in
    c.saturating_sub.ensures
    ∙ available_by host.desks past c.carry.result.now keeps.desks keeps.follow (c.carry.ensures.value ∙ keeps.carry_is)
    c.setup.result.now (is ∙ host.together.same) c.reserved.result c.reserved.ensures.value c.available.result
    c.available.ensures
