use Rattle.std.proofs.Common.{◌≡◌, false, Ok}
use Rattle.std.specs.List.{list_any}
use Rattle.cct_host.specs.Host.{setup_of}
use Rattle.cct_live_service.specs.AtDesk.{Both, FollowsDesk}
use Rattle.cct_live_service.specs.Doing.{GoesOn, Times}
use Rattle.cct_live_service.specs.Ends.{is_end}
use Rattle.cct_live_service.specs.Linked.{Exchanges, watched}
use Rattle.cct_live_service.specs.Parts.{Acts}
use Rattle.cct_live_service.proofs.attempts.attempts.Given as goal

-- The host keeps running, and made so many attempts, none of which was the last one. None ended its
-- job.
abbrev pub invariant-loop-made : goal.invariant-loop-made
invariant-loop-made g l =
    let sink = g.K.Sink in
    let link = g.L.CountedLink in
    record {
      acts : Acts sink.written sink.puts sink.faults (Both (Exchanges g.L.Link.gives link.sent link.failures (setup_of l.fn.host).devices (watched l.fn.link l.fn.page) (watched l.link l.page)) (FollowsDesk (Ok tt) l.fn.desk l.desk))
          (Times l._made (GoesOn l.addr)) (Ok tt) l.fn.out l.out l.fn.host l.host;
      unended : (l._made ≡ 0 → ⊥) → list_any is_end l.page.report.items ≡ false;
    }
