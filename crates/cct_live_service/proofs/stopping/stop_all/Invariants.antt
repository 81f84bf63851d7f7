use Rattle.std.proofs.Common.{Ok}
use Rattle.cct_host.specs.Host.{setup_of}
use Rattle.cct_live_service.specs.AtDesk.{Both, FollowsDesk}
use Rattle.cct_live_service.specs.Doing.{LivesPast, StopsUpTo}
use Rattle.cct_live_service.specs.Known.{KnownAfter}
use Rattle.cct_live_service.specs.Linked.{Exchanges, watched}
use Rattle.cct_live_service.specs.Parts.{Acts}
use Rattle.cct_live_service.proofs.stopping.stop_all.Given as goal

-- The host keeps running, and the acceptors before this address were stopped.
abbrev pub invariant-loop-addr : goal.invariant-loop-addr
invariant-loop-addr g l =
    let sink = g.K.Sink in
    let link = g.L.CountedLink in
    Acts sink.written sink.puts sink.faults (Both (Exchanges g.L.Link.gives link.sent link.failures (setup_of l.fn.host).devices (watched l.fn.link l.fn.page) (watched l.link l.page)) (FollowsDesk (Ok tt) l.fn.desk l.desk))
    (StopsUpTo l.addr (LivesPast (Ok tt)) (KnownAfter l.fn.host l.fn.desk) (setup_of l.fn.host)) (Ok tt) l.fn.out l.out l.fn.host l.host
