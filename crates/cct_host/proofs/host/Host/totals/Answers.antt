use Rattle.std.proofs.Common.{◌≡◌, ◌∙◌, ap}
use Rattle.cct_model.specs.Carry.{owed_by}
use Rattle.cct_host.proofs.Money.{totals_by}
use Rattle.cct_host.proofs.host.Host.totals.Goals as goal

pub returns : goal.returns
returns g c past keeps =
    let host = c.args.self.now in
    let told = c.setup.ensures in
    let is : c.setup.result.now ≡ host.tally.setup.now = cc in
    totals_by host.desks past c.carry-carry.result.now keeps.desks keeps.follow (c.carry-carry.ensures.value ∙ keeps.carry_is)
    c.setup.result.now (is ∙ host.together.same) c.reserved.result c.reserved.ensures.value c.available.result
    c.owed-owed.result (c.available.ensures past keeps)
    (c.owed-owed.ensures ∙ ap (owed_by c.setup.result.now) c.as_slice.ensures.value)
