use Rattle.std.proofs.Common.{[], ap, arith, refl, sym, subst, ◌∙◌}
use Rattle.cct_model.specs.Rows.{puts_in}
use Rattle.cct_jobs.specs.Jobs.{Stands}
use Rattle.cct_host.proofs.Commands.{command_refused, command_taken, may_begin}
use Rattle.cct_host.proofs.Holding.{begun_holds, begun_reserves, rows_begin}
use Rattle.cct_host.proofs.desk.JobDesk.begin.Goals as goal

pub returns-in-Some-clause-commands : goal.returns-in-Some-clause-commands
returns-in-Some-clause-commands c fits past is_last sits =
    command_refused c.args.setup.now c.args.device.now c.args.command.now c.args.self.now.job c.args.self.now.epoch
    c.args.self.now.orders c.args.last past c.in-Some.why is_last c.requires.of_device c.args.self.now.runs
    c.requires.there (sym c.refusal.ensures ∙ c.in-Some.is) sits

pub returns-in-None-clause-commands : goal.returns-in-None-clause-commands
returns-in-None-clause-commands c fits past is_last sits =
    let free = sym c.refusal.ensures ∙ c.in-None.is in
    command_taken c.args.setup.now c.args.device.now c.args.command.now c.args.self.now.job c.begin.result
    c.args.self.now.epoch c.args.self.now.orders _ c.args.last past is_last
    c.requires.of_device c.args.self.now.runs refl (c.id_begun-self.ensures c.args.device.now c.requires.of_device) refl
    c.requires.there free
    (may_begin c.args.setup.now.devices c.args.device.now c.args.self.now.job c.args.self.now.epoch
    c.args.self.now.orders c.args.last c.args.command.now
    c.requires.no_halt c.requires.of_device c.requires.there free)
    (subst (Stands c.args.device.now c.begin.result c.args.command.now [] c.args.self.now.epoch) c.order.ensures.value
    (c.begin.ensures.device c.args.device.now c.requires.there fits c.requires.of_device)) sits

pub returns-in-None-clause-takes : goal.returns-in-None-clause-takes
returns-in-None-clause-takes c =
    let setup = c.args.setup.now in
    let device = c.args.device.now in
    let desk = c.args.self.now in
    let k = c.args.command.now in
    let free = sym c.refusal.ensures ∙ c.in-None.is in
    let rows = c.begin.ensures.rows device c.requires.there c.requires.of_device in
    let puts = ap puts_in (rows ∙ sym (rows_begin setup device k c.requires.of_device c.requires.there)) in
    record {
      holds = begun_holds setup device desk.job desk.epoch desk.orders c.args.last k c.begin.result c.requires.no_halt
          c.requires.of_device free c.requires.there rows;
      puts = omega (arith, puts);
      reserves = begun_reserves setup device desk.job desk.epoch desk.orders c.args.last k c.begin.result c.requires.no_halt
          c.requires.of_device free c.requires.there rows;
    }
