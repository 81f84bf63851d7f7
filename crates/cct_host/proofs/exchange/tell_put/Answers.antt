use Rattle.std.proofs.Common.{ap, ◌-◌, ◌∙◌, ◌++◌, ◌∷◌, []}
use Rattle.cct_host.specs.Report.{kept}
use Rattle.cct_host.proofs.Reports.{told_over}
use Rattle.cct_host.proofs.exchange.tell_put.Goals as goal

pub returns-clause-told : goal.returns-clause-told
returns-clause-told c =
    told_over c.args.report.now.items _ _ c.requires.last (ap (λ n. n - 1) c.len-index.ensures.value)
    ∙ ap (λ said. kept c.args.report.now.items ++ said ∷ []) c.make_put.ensures
