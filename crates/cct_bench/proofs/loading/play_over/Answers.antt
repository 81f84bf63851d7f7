use Rattle.cct_text.specs.Writing.{Broke, Wrote}
use Rattle.cct_text.proofs.Writing.{wrote_none}
use Rattle.cct_bench.specs.Disks.{disks}
use Rattle.cct_bench.proofs.LoadEnds.{load_unopened}
use Rattle.cct_bench.proofs.loading.play_over.Goals as goal

pub returns-in-Ok-clause-played : goal.returns-in-Ok-clause-played
returns-in-Ok-clause-played g c =
    c.play_journal.ensures.played c.args.disk c.in-Ok.ensures.ready c.in-Ok.ensures.goes_on

pub returns-in-Err-clause-played : goal.returns-in-Err-clause-played
returns-in-Err-clause-played g c =
    let sink = g.K.Sink in
    let disk = g.D.Disk in
    let out = c.args.out.now in
    load_unopened c.args.load.seed c.args.load.rounds (Wrote sink.written sink.puts out out)
    (Broke sink.written sink.puts out out)
    (disks disk.size disk.honest disk.seen disk.may_leave disk.cuts disk.cut_to c.args.disk c.in-Err.ended.1)
    c.in-Err.ensures.goes_on.same_cuts c.in-Err.ended.0 c.in-Err.ensures.refused (wrote_none sink.written sink.puts out)
