use Rattle.cct_edge.specs.Faults.{Rose}
use Rattle.cct_bench.specs.Disks.{disks}
use Rattle.cct_world.specs.Relying.{IsReliable}
use Rattle.cct_text.specs.Writing.{Wrote, Broke}
use Rattle.cct_bench.specs.Run.{OverCut, Played, Ran}
use Rattle.cct_bench.proofs.Closing.{bytes_weaker, ran_written}
use Rattle.cct_bench.proofs.play.Bench.run.Goals as goal

pub returns-clause-ran : goal.returns-clause-ran
returns-clause-ran g c =
    let sink = g.K.Sink in
    let disk = g.D.Disk in
    let left = g.S.Source.left c.play_over-how.new.script in
    let out = c.args.out.now in
    let out1 = c.play_over-how.new.out in
    let out2 = c.finish_run.new.out in
    let how = c.play_over-how.result.0 in
    let last = c.play_over-how.result.1 in
    let ds = disks disk.size disk.honest disk.seen disk.may_leave disk.cuts disk.cut_to c.args.disk last in
    let closed = c.finish_run.ensures.writes in
    let W1 = Wrote sink.written sink.puts out out1 in
    let B1 = Broke sink.written sink.puts out out1 in
    let W2 = Wrote sink.written sink.puts out out2 in
    let B2 = Broke sink.written sink.puts out out2 in
    let source_failed = Rose (g.S.Source.faults c.args.script.now) (g.S.Source.faults c.play_over-how.new.script) in
    let disk_failed = Rose (disk.faults c.args.disk) (disk.faults last) in
    bytes_weaker (λ bytes. Played (IsReliable ds.trusted) bytes how left W1 B1 (OverCut ds))
    (λ bytes. Ran bytes c.finish_run.result left W2 B2 ds source_failed disk_failed)
    (g.S.Source.left c.args.script.now)
    (λ bytes p. ran_written sink.written sink.puts out out1 out2 bytes how c.finish_run.result closed.0 left ds source_failed
    disk_failed (record { unread = c.play_over-how.ensures.source.rose; failed = c.play_over-how.ensures.disk.rose }) closed.1 closed.2 p) c.play_over-how.ensures.played
