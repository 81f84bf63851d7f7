use Rattle.std.proofs.Common.{subst}
use Rattle.std.proofs.lemmas.Result.{on_ok_weaker}
use Rattle.cct_host.specs.Host.{Nexts}
use Rattle.cct_host.proofs.Reports.{kept_alone}
use Rattle.cct_host.proofs.host.Host.next_into.Goals as goal

pub returns-clause-nexts : goal.returns-clause-nexts
returns-clause-nexts g c =
    let next = c.attempt.new in
    on_ok_weaker c.attempt.result
    (λ nexts. subst
    (λ report. Nexts g.L.Link.gives c.args.link.now next.link c.args.addr c.args.self.now next.self report next.report.items)
    (kept_alone c.args.report.now.items c.requires.one) nexts)
    c.attempt.ensures.nexts
