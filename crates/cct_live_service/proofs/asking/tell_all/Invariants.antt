use Rattle.std.proofs.Common.{◌≡◌, Ok, take}
use Rattle.cct_live_service.specs.AtDesk.{Both, IsApart}
use Rattle.cct_live_service.specs.Doing.{IsFound}
use Rattle.cct_live_service.specs.Linked.{AreQuiet}
use Rattle.cct_live_service.specs.Parts.{Acts}
use Rattle.cct_live_service.proofs.asking.tell_all.Given as goal

-- The host keeps running, and reported the first of the findings.
abbrev pub invariant-loop-found : goal.invariant-loop-found
invariant-loop-found g l =
    let sink = g.K.Sink in
    record {
      acts : Acts sink.written sink.puts sink.faults (Both AreQuiet IsApart) (IsFound (take l.found-index l.findings)) (Ok tt)
          l.fn.out l.out l.fn.host l.host;
      watch : l.page.watch ≡ l.fn.page.watch;
    }
