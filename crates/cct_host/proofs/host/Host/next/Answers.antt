use Rattle.std.proofs.Common.{ap, ◌∙◌, subst}
use Rattle.cct_model.specs.lines.entry.Entry.TheVariants.{Words}
use Rattle.cct_host.specs.Host.{Nexts}
use Rattle.cct_host.specs.Report.{kept}
use Rattle.cct_host.proofs.Reports.{kept_of, left_again}
use Rattle.cct_host.proofs.host.Host.next.Goals as goal

pub returns-in-Ok-clause-nexts : goal.returns-in-Ok-clause-nexts
returns-in-Ok-clause-nexts g c =
    let next = c.attempt.new in
    subst (λ report. Nexts g.L.Link.gives c.args.link.now next.link c.args.addr c.args.self.now next.self report
    next.report.items)
    (ap kept c.push.ensures.items ∙ kept_of c.args.report.now.items Words) c.in-Ok.ensures.nexts

pub returns-in-Err-clause-stays : goal.returns-in-Err-clause-stays
returns-in-Err-clause-stays g c =
    left_again c.args.report.now _ _ _ Words c.push.ensures.items c.in-Err.ensures.stays
    c.pop.ensures.rest
