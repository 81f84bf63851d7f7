use Rattle.std.proofs.Common.{Ok}
use Rattle.cct_host.specs.Host.{setup_of}
use Rattle.cct_live_service.specs.AtDesk.{Both, FollowsDesk}
use Rattle.cct_live_service.specs.Known.{TaskAfter}
use Rattle.cct_live_service.specs.Linked.{Exchanges, watched}
use Rattle.cct_live_service.specs.Parts.{Acts}
use Rattle.cct_live_service.proofs.Polling.{SoFar}
use Rattle.cct_live_service.proofs.poll.visit_sound.Given as goal

-- The host keeps running, and visited devices of so many addresses.
abbrev pub invariant-loop-step : goal.invariant-loop-step
invariant-loop-step g l =
    let sink = g.K.Sink in
    let link = g.L.CountedLink in
    Acts sink.written sink.puts sink.faults (Both (Exchanges g.L.Link.gives link.sent link.failures (setup_of l.fn.host).devices (watched l.fn.link l.fn.page) (watched l.link l.page)) (FollowsDesk (Ok tt) l.fn.desk l.desk))
    (SoFar (TaskAfter l.fn.host l.fn.desk) l.first l.step l.turn) (Ok tt) l.fn.out l.out l.fn.host l.host
