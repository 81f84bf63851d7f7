use Rattle.std.proofs.Common.{ap, sym, ◌∙◌, subst}
use Rattle.cct_model.specs.Change.{clear_desk}
use Rattle.cct_disk.specs.Disk.{GoesOn}
use Rattle.cct_text.specs.Writing.{Broke, Wrote}
use Rattle.cct_text.proofs.Writing.{wrote_none}
use Rattle.cct_bench.specs.Disks.{disks}
use Rattle.cct_bench.specs.Load.{LoadPlayed}
use Rattle.cct_bench.proofs.LoadEnds.{load_no_memory, load_played, load_serves}
use Rattle.cct_bench.proofs.loading.play_journal.Goals as goal

pub returns-in-Ok-clause-played : goal.returns-in-Ok-clause-played
returns-in-Ok-clause-played g c given ready on =
    let sink = g.K.Sink in
    let disk = g.D.Disk in
    let load = c.args.load in
    let out = c.args.out.now in
    let out1 = c.play_load-how.new.out in
    let last = c.play_load-how.result.1 in
    let W = Wrote sink.written sink.puts out out1 in
    let B = Broke sink.written sink.puts out out1 in
    subst (λ how. LoadPlayed load.seed load.rounds how W B
    (disks disk.size disk.honest disk.seen disk.may_leave disk.cuts disk.cut_to given last)) (sym c.load_ending.ensures)
    (
    load_played given last c.in-Ok.world ready
    (subst (GoesOn disk.size disk.honest disk.seen disk.cuts given) (sym c.in-Ok.ensures.disk) on) load.seed load.rounds
    W B c.play_load-how.result.0 c.play_load-how.ensures.played
    )

pub returns-in-Ok-clause-disk : goal.returns-in-Ok-clause-disk
returns-in-Ok-clause-disk g c =
    let disk = g.D.Disk in
    load_serves disk.size disk.honest disk.seen disk.cuts disk.faults _ _ c.play_load-how.result.1 c.play_load-how.result.0
    _ c.in-Ok.ensures.disk c.load_ending.ensures c.play_load-how.ensures.disk

pub returns-in-Err-clause-played : goal.returns-in-Err-clause-played
returns-in-Err-clause-played g c given ready on =
    let sink = g.K.Sink in
    let disk = g.D.Disk in
    let out = c.args.out.now in
    load_no_memory c.args.load.seed c.args.load.rounds (Wrote sink.written sink.puts out out)
    (Broke sink.written sink.puts out out)
    (disks disk.size disk.honest disk.seen disk.may_leave disk.cuts disk.cut_to given c.in-Err.disk)
    (ap disk.cuts c.in-Err.ensures.disk ∙ on.same_cuts) (wrote_none sink.written sink.puts out)

pub play_load-how-requires-clause-fresh : goal.play_load-how-requires-clause-fresh
play_load-how-requires-clause-fresh g c = c.in-Ok.ensures.fresh (c.requires.made.stands c.load_setup.new.setup)

pub play_load-how-requires-clause-desk : goal.play_load-how-requires-clause-desk
play_load-how-requires-clause-desk g c = c.in-Ok.ensures.desk ∙ ap clear_desk c.load_setup.ensures.value
