use Rattle.std.proofs.Common.{◌∙◌, arith, sym}
use Rattle.cct_edge.specs.Faults.{Rose}
use Rattle.cct_host.specs.Host.{setup_of}
use Rattle.cct_live_service.specs.Reported.{open_in}
use Rattle.cct_live_service.proofs.Ordering.{just_any, just_told}
use Rattle.cct_live_service.proofs.Orders.{order_closed, order_open}
use Rattle.cct_live_service.proofs.commands.order_told.Goals as goal

pub returns-in-Some : goal.returns-in-Some
returns-in-Some g c =
    let host = c.args.host.now in
    let misses = g.O.Outside.misses in
    let missed = Rose (misses c.args.outside.now) (misses c.args.outside.now) in
    record {
      known = λ past keeps. just_told (open_in (setup_of host) past c.args.id) c.in-Some.told
          (sym (c.open_order.ensures.known past keeps) ∙ c.in-Some.is);
      is = order_open host c.args.id missed c.in-Some.told
          (λ past keeps. sym (c.open_order.ensures.known past keeps) ∙ c.in-Some.is);
      later = omega arith;
      heard = λ before h. h;
    }

pub returns-in-None : goal.returns-in-None
returns-in-None g c =
    let host = c.args.host.now in
    let misses = g.O.Outside.misses in
    let missed = Rose (misses c.args.outside.now) (misses c.recorded_order.new.outside) in
    let told = c.recorded_order.result in
    record {
      known = λ past keeps. just_any (open_in (setup_of host) past c.args.id) told
          (sym (c.open_order.ensures.known past keeps) ∙ c.in-None.is);
      is = order_closed host c.args.id missed told
          (λ past keeps. sym (c.open_order.ensures.known past keeps) ∙ c.in-None.is) c.recorded_order.ensures.is;
      later = c.recorded_order.ensures.later;
      heard = c.recorded_order.ensures.heard;
    }
