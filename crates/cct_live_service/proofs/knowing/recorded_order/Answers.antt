use Rattle.std.proofs.Common.{◌∙◌, ap, inr, refl}
use Rattle.cct_edge.specs.Faults.{Rose}
use Rattle.cct_edge.proofs.Chains.{Rose-earlier}
use Rattle.cct_live_service.proofs.Orders.{looked_up, recorded_weaker}
use Rattle.cct_live_service.proofs.knowing.recorded_order.Goals as goal

pub returns-in-None-clause-is : goal.returns-in-None-clause-is
returns-in-None-clause-is g c past stands trusted = inr (refl, c.beside.ensures.missed.rose c.in-None.is)

pub returns-in-Some-clause-is : goal.returns-in-Some-clause-is
returns-in-Some-clause-is g c =
    let misses = g.O.Outside.misses in
    let host = c.args.host.now in
    let first = misses c.args.outside.now in
    let between = misses c.beside.new.self in
    let last = misses c.read_order.new.outside in
    let told = c.read_order.result in
    recorded_weaker host c.args.id (Rose between last) (Rose first last)
    (Rose-earlier first between last c.beside.ensures.missed.later) told
    (looked_up host c.args.id c.in-Some.disk (c.in-Some.ensures.same ∙ ap g.D.Disk.seen c.disk.ensures) (Rose between last)
    told c.read_order.ensures.looks)
