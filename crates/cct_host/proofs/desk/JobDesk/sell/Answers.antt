use Rattle.std.proofs.Common.{ap, arith, refl, sym, ◌∙◌}
use Rattle.cct_model.specs.lines.command.Command.TheVariants as command
use Rattle.cct_model.specs.Rows.{has_closes, puts_in}
use Rattle.cct_jobs.specs.Ahead.{price_in}
use Rattle.cct_jobs.specs.Jobs.{order_of}
use Rattle.cct_host.proofs.Commands.{sale_refused, sale_taken}
use Rattle.cct_host.proofs.Holding.{sale_reserves, sale_room, sells_begun}
use Rattle.cct_host.proofs.desk.JobDesk.sell.Goals as goal

pub returns-in-Some-clause-commands : goal.returns-in-Some-clause-commands
returns-in-Some-clause-commands c past is_last sits =
    let desk = c.args.self.now in
    sale_refused c.args.setup.now c.args.id c.args.price desk.job desk.epoch desk.orders c.args.last past c.in-Some.why
    (is_last refl) (sym c.sale_refusal.ensures ∙ c.in-Some.is) sits

pub returns-in-None-clause-commands : goal.returns-in-None-clause-commands
returns-in-None-clause-commands c past is_last sits =
    let desk = c.args.self.now in
    sale_taken c.args.setup.now c.args.id c.args.price desk.job c.begin.result desk.epoch desk.orders _ c.args.last past
    (is_last refl) refl refl refl (sym c.sale_refusal.ensures ∙ c.in-None.is)
    (c.begin.ensures.sale c.args.id c.args.price refl) sits

pub returns-in-None-clause-takes : goal.returns-in-None-clause-takes
returns-in-None-clause-takes c =
    let desk = c.args.self.now in
    let free = sym c.sale_refusal.ensures ∙ c.in-None.is in
    let rows = c.begin.ensures.other_rows refl in
    let puts = ap puts_in rows in
    record {
      holds = sale_room desk.job c.args.id c.args.last c.begin.result (order_of desk.orders.order) free puts
          (ap has_closes rows);
      puts = omega (arith, puts);
      reserves = sale_reserves desk.job c.args.id c.args.last c.args.price c.begin.result free (ap price_in rows);
    }

pub returns-in-None-clause-sells : goal.returns-in-None-clause-sells
returns-in-None-clause-sells c = λ sells.
    sells_begun c.begin.result (command.Vend c.args.id c.args.price) (c.begin.ensures.sale c.args.id c.args.price refl)
