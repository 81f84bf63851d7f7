use Rattle.std.proofs.Common.{ap, ◌-◌}
use Rattle.cct_host.proofs.Reports.{told_over}
use Rattle.cct_host.proofs.exchange.tell_over.Goals as goal

pub returns-clause-told : goal.returns-clause-told
returns-clause-told c =
    told_over c.args.report.now.items c.args.entry _ c.requires.last (ap (λ n. n - 1) c.len-index.ensures.value)
