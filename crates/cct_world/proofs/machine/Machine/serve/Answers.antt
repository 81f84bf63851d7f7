use Rattle.std.proofs.Common.{refl}
use Rattle.cct_model.specs.lines.entry.Entry.TheVariants as entry
use Rattle.cct_world.proofs.AtDesk.{asks_plays, ends_plays, idle_aside, odd_aside, served_aside, short_aside, wait_aside}
use Rattle.cct_world.proofs.machine.Machine.serve.Goals as goal

pub returns-in-Pay : goal.returns-in-Pay
returns-in-Pay g c =
    asks_plays c.args.self.now _ c.pay.new.self c.in-Pay.payment c.pay.new.report.items refl refl c.in-Pay.ensures c.pay.ensures

pub returns-in-Idle : goal.returns-in-Idle
returns-in-Idle g c =
    ends_plays c.args.self.now _ entry.ServeIdle c.tell_serving.new.report.items refl refl c.in-Idle.ensures c.tell_serving.ensures
    idle_aside

pub returns-in-Wait : goal.returns-in-Wait
returns-in-Wait g c =
    ends_plays c.args.self.now _ (entry.ServeWait c.in-Wait.addr) c.tell_serving-in-Wait.new.report.items refl refl
    c.in-Wait.ensures c.tell_serving-in-Wait.ensures (wait_aside c.in-Wait.addr)

pub returns-in-Odd : goal.returns-in-Odd
returns-in-Odd g c =
    ends_plays c.args.self.now _ (entry.ServeOdd c.in-Odd.id) c.tell_serving-in-Odd.new.report.items refl refl c.in-Odd.ensures
    c.tell_serving-in-Odd.ensures (odd_aside c.in-Odd.id)

pub returns-in-Served : goal.returns-in-Served
returns-in-Served g c =
    ends_plays c.args.self.now _ (entry.Served c.in-Served.amount) c.tell_serving-in-Served.new.report.items refl refl
    c.in-Served.ensures c.tell_serving-in-Served.ensures (served_aside c.in-Served.amount)

pub returns-in-Short : goal.returns-in-Short
returns-in-Short g c =
    let shortfall = c.in-Short.shortfall in
    ends_plays c.args.self.now _ (entry.Short shortfall.paid shortfall.rest) c.tell_serving-in-Short.new.report.items refl refl
    c.in-Short.ensures c.tell_serving-in-Short.ensures (short_aside shortfall.paid shortfall.rest)
