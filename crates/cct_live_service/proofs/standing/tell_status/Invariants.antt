use Rattle.std.proofs.Common.{◌≡◌, Ok, take}
use Rattle.cct_edge.specs.Bytes.{Serves}
use Rattle.cct_host.specs.Host.{setup_of}
use Rattle.cct_live_service.specs.Reported.{TellsDevices}
use Rattle.cct_live_service.proofs.standing.tell_status.Given as goal

-- The first devices were reported.
abbrev pub invariant-loop-device : goal.invariant-loop-device
invariant-loop-device g l =
    let sink = g.K.Sink in
    record {
      tells : TellsDevices sink.written sink.puts l.fn.host l.fn.page.watch (take l.device-index (setup_of l.fn.host).devices) l.fn.out (Ok tt) l.out;
      watch : l.page.watch ≡ l.fn.page.watch;
      serves : Serves sink.written sink.faults l.fn.out l.out ⊥;
    }
