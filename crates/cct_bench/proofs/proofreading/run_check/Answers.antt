use Rattle.std.proofs.Common.{refl}
use Rattle.cct_edge.specs.Faults.{Rose}
use Rattle.cct_bench.proofs.CheckEnds.{check_clean, check_told, check_unread, check_unwritten}
use Rattle.cct_bench.proofs.proofreading.run_check.Goals as goal

pub returns-in-Clean-clause-checked : goal.returns-in-Clean-clause-checked
returns-in-Clean-clause-checked g c =
    let sink = g.K.Sink in
    let source = g.S.Source in
    let told = c.in-Clean.ensures.told in (
      told.0,
      told.1,
      check_clean sink.written sink.puts c.args.out.now c.proofread.new.out (source.left c.proofread.new.script)
          (Rose (source.faults c.args.script.now) (source.faults c.proofread.new.script)) told.0 told.2,
    )

pub returns-in-Told-clause-checked : goal.returns-in-Told-clause-checked
returns-in-Told-clause-checked g c =
    let sink = g.K.Sink in
    let source = g.S.Source in
    let told = c.in-Told.ensures.told in (
      told.0,
      told.1,
      check_told sink.written sink.puts c.args.out.now c.proofread.new.out (source.left c.proofread.new.script)
          (Rose (source.faults c.args.script.now) (source.faults c.proofread.new.script)) told.0 told.2,
    )

pub returns-in-Unread-clause-checked : goal.returns-in-Unread-clause-checked
returns-in-Unread-clause-checked g c =
    let sink = g.K.Sink in
    let source = g.S.Source in
    let told = c.in-Unread.ensures.told in (
      told.0,
      told.1,
      check_unread sink.written sink.puts c.args.out.now c.proofread.new.out (source.left c.proofread.new.script)
          (Rose (source.faults c.args.script.now) (source.faults c.proofread.new.script)) told.0 c.close.new.out
          c.close.result (c.in-Unread.ensures.source.rose refl) told.2 c.close.ensures.writes,
    )

pub returns-in-Unwritten-clause-checked : goal.returns-in-Unwritten-clause-checked
returns-in-Unwritten-clause-checked g c =
    let sink = g.K.Sink in
    let source = g.S.Source in
    let told = c.in-Unwritten.ensures.told in (
      told.0,
      told.1,
      check_unwritten sink.written sink.puts c.args.out.now c.proofread.new.out (source.left c.proofread.new.script)
          (Rose (source.faults c.args.script.now) (source.faults c.proofread.new.script)) told.0 told.2,
    )
