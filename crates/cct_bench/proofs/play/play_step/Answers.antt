use Rattle.std.proofs.Common.{Err, refl, inl, reverse, sym, subst}
use Rattle.cct_world.specs.Step.{CutsIn}
use Rattle.cct_world.specs.Restarts.{RestartsIn}
use Rattle.cct_world.specs.World.{StandsFor, desk_of, disk_of, setup_of, used_of}
use Rattle.cct_text.specs.Writing.{Writes}
use Rattle.cct_world.proofs.Holding.{restarts_in}
use Rattle.cct_bench.proofs.Keeping.{books_play}
use Rattle.cct_bench.proofs.play.play_step.Goals as goal

pub returns-in-Err-write_entries-clause-ended : goal.returns-in-Err-write_entries-clause-ended
returns-in-Err-write_entries-clause-ended g c =
    let sink = g.K.Sink in
    let disk = g.D.Disk in
    let world = c.args.world in
    let next = c.in-Ok.world in
    let last = c.into_disk.result in
    let s = c.args.step.now in
    let played = c.in-Ok.ensures.played in
    let is = c.into_disk.ensures in
    let failed = c.in-Err-write_entries.field-0 in
    inl (
      refl,
      failed,
      used_of next,
      desk_of next,
      record {
        report = c.step.new.report.items;
        plays = books_play world next last s c.step.new.report.items c.requires.size played.plays is played.setup;
        desk = played.desk;
        told = played.told;
        cut = subst (CutsIn s disk.size disk.honest disk.seen disk.cuts disk.cut_to (disk_of world)) (sym is)
            played.cut;
        counts = played.counts;
        restarts = subst (λ d. RestartsIn (StandsFor world) (setup_of world) s (used_of world) (used_of next) (disk.seen d)
            (reverse c.step.new.report.items)) (sym is)
            (restarts_in world next s (reverse c.step.new.report.items) played.restarts);
        wrote = subst
            (λ report. Writes sink.written sink.puts c.args.out.now report (Err failed) c.write_entries.new.out)
            c.as_slice.ensures.value c.in-Err-write_entries.ensures.writes;
      },
    )
