use Rattle.std.proofs.Common.{IsErr, ◌⊎◌}
use Rattle.cct_live_service.specs.Causes.{IsDiskFault, IsUnread, IsUnwritten}
use Rattle.cct_live_service.proofs.Causing.{close_fault, close_size, close_suits, close_unread, close_unwritten}
use Rattle.cct_live_service.proofs.Parts.{disk_weaker, serves_then, serves_weaker}
use Rattle.cct_live_service.proofs.serving.serve.Goals as goal

pub returns : goal.returns
returns g c =
    let source = g.S.Source in
    let sink = g.K.Sink in
    let disk = g.D.Disk in
    let live = c.live-how.ensures in
    let how = c.live-how.result.0 in
    let back = c.live-how.result.1 in
    let between = c.live-how.new.out in
    let closed = c.close.ensures.writes in
    let answer = closed.0 in
    let fails = IsUnwritten how ⊎ IsErr answer in
    let wrote = serves_then sink.written sink.faults c.args.out.now between c.close.new.out (IsUnwritten how)
    (IsErr answer) live.sink closed.2 fails (λ f. f) in
    record {
      lived = record {
        how = how;
        between = between;
        answer = answer;
        lived = live.lived;
        wrote = closed.1;
        result_is = closed.3;
      };
      read_cause = λ e. live.input.rose (close_unread answer how c.close.result closed.3 e);
      write_cause = λ e. wrote.rose (close_unwritten answer how c.close.result closed.3 e);
      disk_cause = λ e. live.disk.cause.rose (close_fault answer how c.close.result closed.3 e);
      refused = close_suits disk.size disk.honest disk.seen disk.may_leave disk.moment disk.left_since disk.cuts c.args.disk
          back c.args.setup.now answer how c.close.result closed.3 live.suits;
      size = λ other. close_size answer how c.close.result (disk.size c.args.disk) closed.3 (live.size other);
      input_goes_on = serves_weaker source.left source.faults c.args.input.now c.live-how.new.input (IsUnread how) ⊥
          (λ e. absurd e) live.input;
      sink_goes_on = serves_weaker sink.written sink.faults c.args.out.now c.close.new.out fails ⊥ (λ e. absurd e) wrote;
      disk_goes_on = disk_weaker disk.size disk.honest disk.seen disk.cuts disk.faults c.args.disk back (IsDiskFault how) ⊥
          (λ e. absurd e) live.disk;
    }
