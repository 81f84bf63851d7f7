use Rattle.std.proofs.Common.{ap, refl}
use Rattle.std.specs.Prelude.{is_some}
use Rattle.cct_host.proofs.Attempts.{desk_asks}
use Rattle.cct_host.proofs.Holding.{ask_frees}
use Rattle.cct_host.proofs.desk.JobDesk.ask.Goals as goal

pub returns-in-Some-clause-attempts : goal.returns-in-Some-clause-attempts
returns-in-Some-clause-attempts g c =
    let desk = c.args.self.now in
    desk_asks g.L.Link.gives _ _ c.args.addr desk.job desk.epoch desk.orders _ _ _ (ap is_some c.in-Some.is) desk.runs
    c.requires.due c.exchange.ensures.exchanges refl c.leave_orders.ensures

pub returns-in-Some-clause-frees : goal.returns-in-Some-clause-frees
returns-in-Some-clause-frees g c =
    let desk = c.args.self.now in
    ask_frees g.L.Link.gives _ _ c.args.addr desk.job _ _ _ (ap is_some c.in-Some.is) desk.runs c.requires.due
    c.exchange.ensures.exchanges
