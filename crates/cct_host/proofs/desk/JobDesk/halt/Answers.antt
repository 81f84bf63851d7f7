use Rattle.std.proofs.Common.{ap, sym, ◌∙◌}
use Rattle.cct_host.proofs.Commands.{halt_refused, halt_taken}
use Rattle.cct_model.specs.Rows.{has_closes, puts_in}
use Rattle.cct_jobs.specs.Ahead.{coins_in}
use Rattle.cct_jobs.specs.Jobs.{order_of}
use Rattle.cct_host.proofs.Holding.{halt_finds, halt_holds, halt_puts, halt_reserves}
use Rattle.cct_host.proofs.desk.JobDesk.halt.Goals as goal

pub returns-in-Some-clause-commands : goal.returns-in-Some-clause-commands
returns-in-Some-clause-commands c past sits =
    let desk = c.args.self.now in
    halt_refused c.args.setup.now c.args.device.now c.args.command.now desk.job desk.epoch desk.orders past
    c.in-Some.why desk.runs c.requires.halt c.requires.there (sym c.halting_refusal.ensures ∙ c.in-Some.is) sits

pub returns-in-Some-take-clause-commands : goal.returns-in-Some-take-clause-commands
returns-in-Some-take-clause-commands c past sits =
    let desk = c.args.self.now in
    halt_taken c.args.setup.now c.args.device.now c.args.command.now desk.job c.in-Some-take.job c.halt.result
    desk.epoch desk.orders past (sym c.take.ensures.value ∙ c.in-Some-take.is) desk.runs c.requires.halt
    c.requires.there (sym c.halting_refusal.ensures ∙ c.in-None.is) c.halt.ensures.row sits

pub returns-in-Some-take-clause-takes : goal.returns-in-Some-take-clause-takes
returns-in-Some-take-clause-takes c =
    let setup = c.args.setup.now in
    let desk = c.args.self.now in
    let k = c.args.command.now in
    let was = sym c.take.ensures.value ∙ c.in-Some-take.is in
    let ahead = c.halt.ensures.ahead in
    record {
      holds = halt_holds setup k desk.job c.in-Some-take.job c.halt.result (order_of desk.orders.order) c.requires.halt was
          (ap puts_in ahead) (ap has_closes ahead);
      puts = halt_puts desk.job c.in-Some-take.job c.halt.result _ was (ap puts_in ahead);
      reserves = halt_reserves setup k desk.job c.in-Some-take.job c.halt.result c.requires.halt was (ap coins_in ahead);
    }

pub halt-requires : goal.halt-requires
halt-requires c =
    halt_finds c.args.device.now c.args.self.now.job c.in-Some-take.job (sym c.halting_refusal.ensures ∙ c.in-None.is)
    (sym c.take.ensures.value ∙ c.in-Some-take.is)
