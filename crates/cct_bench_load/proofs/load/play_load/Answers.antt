use Rattle.std.proofs.Common.{◌++◌, ◌∷◌, [], subst, sym}
use Rattle.cct_model.specs.lines.entry.Entry.TheVariants.{Balance}
use Rattle.cct_model.specs.Transcript.{onto}
use Rattle.cct_text.specs.Writing.{Broke, Writes, Wrote}
use Rattle.cct_text.proofs.Writing.{wrote_none}
use Rattle.cct_gen.specs.Load.{load_steps}
use Rattle.cct_bench_load.specs.Sums.{sums_of}
use Rattle.cct_bench_load.specs.Played.{PlaysLoad, first_line}
use Rattle.cct_bench_load.proofs.Ending.{broke_first, stopped_in, sums_end, sums_written}
use Rattle.cct_bench_load.proofs.load.play_load.Goals as goal

pub returns-in-Err-clause-played : goal.returns-in-Err-clause-played
returns-in-Err-clause-played g c =
    let sink = g.K.Sink in
    let out = c.args.out.now in
    let out1 = c.write_first.new.out in
    let W = Wrote sink.written sink.puts out out1 in
    let B = Broke sink.written sink.puts out out1 in
    let broke =
    subst (λ answer. Writes sink.written sink.puts out (first_line c.args.load ∷ []) answer out1) c.in-Err.is
    c.write_first.ensures.writes in
    broke_first c.args.world c.args.load c.into_disk.result W B c.requires.setup c.requires.fresh c.into_disk.ensures
    (out, c.in-Err.field-0, wrote_none sink.written sink.puts out, broke)

pub returns-in-Err-play_lines-clause-played : goal.returns-in-Err-play_lines-clause-played
returns-in-Err-play_lines-clause-played g c =
    let sink = g.K.Sink in
    let out = c.args.out.now in
    let out1 = c.write_first.new.out in
    let W = Wrote sink.written sink.puts out out1 in
    let B = Broke sink.written sink.puts out out1 in
    stopped_in c.args.world c.args.load c.in-Err-play_lines.disk W B c.in-Err-play_lines.why
    c.in-Err-play_lines.ensures.stopped
    (subst (λ answer. Writes sink.written sink.puts out (first_line c.args.load ∷ []) answer out1) c.in-Ok.is
    c.write_first.ensures.writes)

pub returns-clause-played : goal.returns-clause-played
returns-clause-played g c =
    let sink = g.K.Sink in
    let load = c.args.load in
    let out = c.args.out.now in
    let out1 = c.write_first.new.out in
    let out2 = c.write_sums-written.new.out in
    let made = c.in-Ok-play_lines.ensures in
    let lines = made.played.1 in
    let steps = load_steps load.seed load.rounds in
    let past = onto [] lines.transcript in
    let told = sums_of steps past ++ Balance c.totals.result ∷ [] in
    let W = Wrote sink.written sink.puts out out2 in
    let B = Broke sink.written sink.puts out out2 in
    let left = c.into_disk-2.result in
    let first =
    subst (λ answer. Writes sink.written sink.puts out (first_line load ∷ []) answer out1) c.in-Ok.is
    c.write_first.ensures.writes in
    subst (λ how. PlaysLoad c.args.world load how left W B) (sym c.end_of.ensures)
    (sums_end c.args.world load left W B c.in-Ok-play_lines.world c.play_lines.new.self.sums c.totals.result
    made.played.0 c.totals.ensures made.disk.outlasts c.into_disk-2.ensures lines
    c.write_sums-written.result
    (sums_written sink.written sink.puts out out1 out2 load told c.write_sums-written.result first
    (c.write_sums-written.ensures.writes steps past lines.holds.counted)))
