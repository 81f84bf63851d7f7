use Rattle.std.proofs.Common.{inr}
use Rattle.cct_edge.specs.Faults.{Rose}
use Rattle.cct_edge.proofs.Chains.{Rose-earlier}
use Rattle.cct_live_service.proofs.Knows.{known_weaker}
use Rattle.cct_live_service.proofs.knowing.tell_known.Goals as goal

pub returns-in-None-clause-tells : goal.returns-in-None-clause-tells
returns-in-None-clause-tells g c =
    inr (c.tell_unread.ensures.tells, λ past stands follow trusted. c.beside.ensures.missed.rose c.in-None.is)

pub returns-in-Some-clause-tells : goal.returns-in-Some-clause-tells
returns-in-Some-clause-tells g c =
    let sink = g.K.Sink in
    let misses = g.O.Outside.misses in
    let first = misses c.args.outside.now in
    let between = misses c.beside.new.self in
    let last = misses c.tell_disk.new.outside in
    known_weaker sink.written sink.puts c.args.host.now (Rose between last) (Rose first last)
    (Rose-earlier first between last c.beside.ensures.missed.later) c.args.out.now c.tell_disk.result c.tell_disk.new.out
    c.tell_disk.ensures.tells
