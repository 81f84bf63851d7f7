use Rattle.std.proofs.Common.{◌≡◌, ◌∙◌, subst, sym}
use Rattle.cct_edge.specs.Faults.{Rose}
use Rattle.cct_audit.specs.Writing.{WritesLines}
use Rattle.cct_bench_state.specs.Known.{any_disk, of_image}
use Rattle.cct_bench.specs.State.{StateEnds, told_disk}
use Rattle.cct_bench.specs.declared.ending.Ending.TheVariants as ending
use Rattle.cct_bench.proofs.StateEnds.{none_given, stop_ends, weaker}
use Rattle.cct_bench.proofs.stating.tell_without.Goals as goal

pub returns-then-gives_none-clause-told : goal.returns-then-gives_none-clause-told
returns-then-gives_none-clause-told g c image seen bytes taken sized says =
    let sink = g.K.Sink in
    let disk = g.D.Disk in
    let by = told_disk (disk.size c.args.disk) (of_image image) (Rose (disk.faults c.args.disk) (disk.faults c.tell.result.1)) in
    weaker by ⊥ (c.args.how.now ≡ ending.Unread) bytes taken c.tell.result.0
    (λ lines r. WritesLines sink.written sink.puts c.args.out.now lines r c.tell.new.out) (λ never. absurd never) (c.tell.ensures.told image seen bytes taken sized
    (none_given c.args.how.now bytes taken (sym c.gives_none.ensures ∙ c.if-gives_none.true) says))

pub returns-else-gives_none-clause-told : goal.returns-else-gives_none-clause-told
returns-else-gives_none-clause-told g c image seen bytes taken sized says =
    let sink = g.K.Sink in
    let disk = g.D.Disk in
    let out = c.args.out.now in
    let last = c.finish_run.new.out in
    let by = told_disk (disk.size c.args.disk) (of_image image) (Rose (disk.faults c.args.disk) (disk.faults c.args.disk)) in
    let closed = c.finish_run.ensures.writes in
    subst (λ s. StateEnds by (c.args.how.now ≡ ending.Unread) bytes taken s (λ lines r. WritesLines sink.written sink.puts out lines r last))
    (sym closed.2)
    (stop_ends by (c.args.how.now ≡ ending.Unread) bytes taken sink.written sink.puts out last c.args.how.now closed.0 sized says (λ unread. unread) closed.1)

pub returns-then-gives_none-clause-lines : goal.returns-then-gives_none-clause-lines
returns-then-gives_none-clause-lines g c bytes taken sized says =
    let sink = g.K.Sink in
    let disk = g.D.Disk in
    let by = told_disk (disk.size c.args.disk) any_disk (Rose (disk.faults c.args.disk) (disk.faults c.tell.result.1)) in
    weaker by ⊥ (c.args.how.now ≡ ending.Unread) bytes taken c.tell.result.0
    (λ lines r. WritesLines sink.written sink.puts c.args.out.now lines r c.tell.new.out) (λ never. absurd never) (c.tell.ensures.lines bytes taken sized
    (none_given c.args.how.now bytes taken (sym c.gives_none.ensures ∙ c.if-gives_none.true) says))

pub returns-else-gives_none-clause-lines : goal.returns-else-gives_none-clause-lines
returns-else-gives_none-clause-lines g c bytes taken sized says =
    let sink = g.K.Sink in
    let disk = g.D.Disk in
    let out = c.args.out.now in
    let last = c.finish_run.new.out in
    let by = told_disk (disk.size c.args.disk) any_disk (Rose (disk.faults c.args.disk) (disk.faults c.args.disk)) in
    let closed = c.finish_run.ensures.writes in
    subst (λ s. StateEnds by (c.args.how.now ≡ ending.Unread) bytes taken s (λ lines r. WritesLines sink.written sink.puts out lines r last))
    (sym closed.2)
    (stop_ends by (c.args.how.now ≡ ending.Unread) bytes taken sink.written sink.puts out last c.args.how.now closed.0 sized says (λ unread. unread) closed.1)
