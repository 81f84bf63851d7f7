use Rattle.std.proofs.Common.{ap, ◌-◌}
use Rattle.cct_host.proofs.Talks.{converses}
use Rattle.cct_host.proofs.exchange.converse.Goals as goal

pub returns-clause-converses : goal.returns-clause-converses
returns-clause-converses g c =
    converses g.L.Link.gives _ _ _ _ _ c.args.report.now.items _ _ c.requires.last
    (ap (λ n. n - 1) c.len-index.ensures.value) c.fill.ensures.fills
