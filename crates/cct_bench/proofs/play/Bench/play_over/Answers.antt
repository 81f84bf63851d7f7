use Rattle.cct_disk.specs.Disk.{IsTrusted}
use Rattle.cct_world.specs.Relying.{IsReliable}
use Rattle.cct_bench.specs.Disks.{disks}
use Rattle.cct_text.specs.Writing.{Wrote, Broke}
use Rattle.cct_bench.specs.Run.{OverCut}
use Rattle.cct_text.proofs.Writing.{wrote_none}
use Rattle.cct_bench.proofs.Going.{played_before}
use Rattle.cct_bench.proofs.Keeping.{unopened_over}
use Rattle.cct_bench.proofs.play.Bench.play_over.Goals as goal

pub returns-in-Ok-clause-played : goal.returns-in-Ok-clause-played
returns-in-Ok-clause-played g c =
    c.play_script.ensures.played c.args.disk c.in-Ok.ensures.ready c.in-Ok.ensures.goes_on

pub returns-in-Err-clause-played : goal.returns-in-Err-clause-played
returns-in-Err-clause-played g c =
    let sink = g.K.Sink in
    let disk = g.D.Disk in
    let out = c.args.out.now in
    let how = c.in-Err.ended.0 in
    let last = c.in-Err.ended.1 in
    played_before (IsReliable (IsTrusted disk.honest disk.seen c.args.disk)) (g.S.Source.left c.args.script.now)
    (disk.size c.args.disk) (disk.seen c.args.disk) how (Wrote sink.written sink.puts out out)
    (Broke sink.written sink.puts out out)
    (OverCut (disks disk.size disk.honest disk.seen disk.may_leave disk.cuts disk.cut_to c.args.disk last)) c.in-Err.ensures.refused
    (unopened_over disk.size disk.honest disk.seen disk.may_leave disk.cuts disk.cut_to c.args.disk last how
    c.in-Err.ensures.goes_on c.in-Err.ensures.refused) (wrote_none sink.written sink.puts out)
