use Rattle.cct_edge.specs.Faults.{Rose}
use Rattle.cct_bench.specs.Disks.{disks}
use Rattle.cct_bench.proofs.LoadEnds.{load_written}
use Rattle.cct_bench.proofs.loading.run_load.Goals as goal

pub returns-clause-loaded : goal.returns-clause-loaded
returns-clause-loaded g c =
    let sink = g.K.Sink in
    let disk = g.D.Disk in
    let how = c.play_over-how.result.0 in
    let last = c.play_over-how.result.1 in
    let played = c.play_over-how.ensures in
    let closed = c.finish_run.ensures.writes in
    load_written sink.written sink.puts c.args.out.now c.play_over-how.new.out c.finish_run.new.out c.args.load.seed
    c.args.load.rounds how c.finish_run.result closed.0
    (disks disk.size disk.honest disk.seen disk.may_leave disk.cuts disk.cut_to c.args.disk last)
    (Rose (disk.faults c.args.disk) (disk.faults last)) played.disk.rose closed.1 closed.2 played.played
