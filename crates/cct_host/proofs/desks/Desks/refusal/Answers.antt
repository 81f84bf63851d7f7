use Rattle.std.proofs.Common.{◌∙◌, ap, sym}
use Rattle.cct_model.specs.Refusal.{state_refusal}
use Rattle.cct_host.proofs.Commands.{scan_refusal, sale_refusal_is}
use Rattle.cct_host.proofs.Places.{last_is}
use Rattle.cct_host.proofs.desks.Desks.refusal.Goals as goal

pub returns-in-Scan : goal.returns-in-Scan
returns-in-Scan c past stands =
    let scan = c.args.self.now.scan in
    c.busy.ensures
    ∙ scan_refusal c.args.self.now.setup.now c.args.command.now scan.job _ _ past c.in-Scan.is stands.scan

pub returns-in-Vend : goal.returns-in-Vend
returns-in-Vend c past stands =
    let desks = c.args.self.now in
    let last = last_is desks past c.last_id.result stands c.last_id.ensures.value in
    c.sale_refusal.ensures
    ∙ sale_refusal_is desks.setup.now _ c.in-Vend.price desks.sale.job _ _ c.last_id.result past last stands.sale
    ∙ sym (ap (state_refusal desks.setup.now past) c.in-Vend.is)
