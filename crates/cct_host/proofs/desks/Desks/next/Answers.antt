use Rattle.std.proofs.Common.{ap, ◌∙◌, subst}
use Rattle.cct_model.specs.lines.entry.Entry.TheVariants.{Words}
use Rattle.cct_host.specs.Desks.{Nexts}
use Rattle.cct_host.specs.Report.{kept}
use Rattle.cct_host.proofs.Reports.{kept_of}
use Rattle.cct_host.proofs.desks.Desks.next.Goals as goal

pub returns-clause-nexts : goal.returns-clause-nexts
returns-clause-nexts g c =
    let next = c.next_there.new in
    subst (λ report. Nexts g.L.Link.gives c.args.link.now next.link c.args.addr c.args.self.now next.self report
    next.report.items)
    (ap kept c.push.ensures.items ∙ kept_of c.args.report.now.items Words) c.next_there.ensures.nexts
