use Rattle.std.proofs.Common.{sym, subst}
use Rattle.cct_edge.specs.Faults.{Rose}
use Rattle.cct_audit.specs.Writing.{WritesLines}
use Rattle.cct_bench_state.specs.Known.{any_disk, of_image}
use Rattle.cct_bench.specs.State.{StateEnds, told_disk}
use Rattle.cct_bench.proofs.StateEnds.{behind}
use Rattle.cct_bench.proofs.stating.tell.Goals as goal

pub returns-clause-told : goal.returns-clause-told
returns-clause-told g c image seen bytes taken sized gives =
    let sink = g.K.Sink in
    let disk = g.D.Disk in
    let out = c.args.out.now in
    let told = c.tell_state-how.new.out in
    let last = c.finish_state.new.out in
    let by = told_disk (disk.size c.args.disk) (of_image image)
    (Rose (disk.faults c.args.disk) (disk.faults c.tell_state-how.result.1)) in
    let closed = c.finish_state.ensures.writes in
    subst (λ s. StateEnds by ⊥ bytes taken s (λ lines r. WritesLines sink.written sink.puts out lines r last))
    (sym closed.2)
    (behind by ⊥ bytes taken sink.written sink.puts out told last _ c.tell_state-how.result.0 closed.0 sized gives
    c.tell_state-how.ensures.disk_cause.rose (c.tell_state-how.ensures.told image seen) closed.1)

pub returns-clause-lines : goal.returns-clause-lines
returns-clause-lines g c bytes taken sized gives =
    let sink = g.K.Sink in
    let disk = g.D.Disk in
    let out = c.args.out.now in
    let told = c.tell_state-how.new.out in
    let last = c.finish_state.new.out in
    let by = told_disk (disk.size c.args.disk) any_disk
    (Rose (disk.faults c.args.disk) (disk.faults c.tell_state-how.result.1)) in
    let closed = c.finish_state.ensures.writes in
    subst (λ s. StateEnds by ⊥ bytes taken s (λ lines r. WritesLines sink.written sink.puts out lines r last))
    (sym closed.2)
    (behind by ⊥ bytes taken sink.written sink.puts out told last _ c.tell_state-how.result.0 closed.0 sized gives
    c.tell_state-how.ensures.disk_cause.rose c.tell_state-how.ensures.lines closed.1)
