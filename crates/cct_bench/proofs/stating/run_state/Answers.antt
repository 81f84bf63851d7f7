use Rattle.std.proofs.Common.{◌≡◌, ◌∙◌, Err, List, Result, ap, sym, ℕ}
use Rattle.cct_edge.specs.Faults.{Rose}
use Rattle.cct_edge.specs.declared.fault.Failed.{Failed}
use Rattle.cct_audit.specs.Writing.{WritesLines}
use Rattle.cct_bench_state.specs.Known.{any_disk, of_image}
use Rattle.cct_bench.specs.State.{told_disk}
use Rattle.cct_bench.specs.declared.ending.Ending.TheVariants as ending
use Rattle.cct_bench.proofs.StateEnds.{other_size, script_read, script_stopped, weaker}
use Rattle.cct_bench.proofs.stating.run_state.Goals as goal

pub returns-then-len-ne-JOURNAL_BYTES-clause-stated : goal.returns-then-len-ne-JOURNAL_BYTES-clause-stated
returns-then-len-ne-JOURNAL_BYTES-clause-stated g c image seen =
    let sink = g.K.Sink in
    let disk = g.D.Disk in
    let closed = c.close-status.ensures.writes in
    other_size
    (told_disk (disk.size c.args.disk) (of_image image) (Rose (disk.faults c.args.disk) (disk.faults c.args.disk)))
    (Rose (g.S.Source.faults c.args.script.now) (g.S.Source.faults c.args.script.now)) (g.S.Source.left c.args.script.now)
    c.close-status.result sink.written sink.puts c.args.out.now c.close-status.new.out c.len-len.result closed.0
    c.len-len.ensures (λ is. c.if-len-ne-JOURNAL_BYTES.true (c.len-len.ensures ∙ is)) closed.1 closed.2

pub returns-then-len-ne-JOURNAL_BYTES-clause-lines : goal.returns-then-len-ne-JOURNAL_BYTES-clause-lines
returns-then-len-ne-JOURNAL_BYTES-clause-lines g c =
    let sink = g.K.Sink in
    let disk = g.D.Disk in
    let closed = c.close-status.ensures.writes in
    other_size
    (told_disk (disk.size c.args.disk) any_disk (Rose (disk.faults c.args.disk) (disk.faults c.args.disk)))
    (Rose (g.S.Source.faults c.args.script.now) (g.S.Source.faults c.args.script.now)) (g.S.Source.left c.args.script.now)
    c.close-status.result sink.written sink.puts c.args.out.now c.close-status.new.out c.len-len.result closed.0
    c.len-len.ensures (λ is. c.if-len-ne-JOURNAL_BYTES.true (c.len-len.ensures ∙ is)) closed.1 closed.2

pub returns-in-Ok-clause-stated : goal.returns-in-Ok-clause-stated
returns-in-Ok-clause-stated g c image seen =
    let sink = g.K.Sink in
    let disk = g.D.Disk in
    let Read = Rose (g.S.Source.faults c.args.script.now) (g.S.Source.faults c.read_upgrade.new.script) in
    let by = told_disk (disk.size c.args.disk) (of_image image) (Rose (disk.faults c.args.disk) (disk.faults c.tell.result.1)) in
    let W = λ (lines : List (List ℕ)) (r : Result (Unit {0}) Failed). WritesLines sink.written sink.puts c.args.out.now lines r c.tell.new.out in
    script_read by Read
    (g.S.Source.left c.args.script.now) (g.S.Source.left c.read_upgrade.new.script) c.tell.result.0
    W c.read_upgrade.new.setup
    (λ bytes taken gives.
    weaker by ⊥ Read bytes taken c.tell.result.0 W (λ never. absurd never)
    (c.tell.ensures.told image seen bytes taken (sym c.len-len.ensures ∙ c.if-len-ne-JOURNAL_BYTES.false) gives))
    c.in-Ok.ensures.read

pub returns-in-Ok-clause-lines : goal.returns-in-Ok-clause-lines
returns-in-Ok-clause-lines g c =
    let sink = g.K.Sink in
    let disk = g.D.Disk in
    let Read = Rose (g.S.Source.faults c.args.script.now) (g.S.Source.faults c.read_upgrade.new.script) in
    let by = told_disk (disk.size c.args.disk) any_disk (Rose (disk.faults c.args.disk) (disk.faults c.tell.result.1)) in
    let W = λ (lines : List (List ℕ)) (r : Result (Unit {0}) Failed). WritesLines sink.written sink.puts c.args.out.now lines r c.tell.new.out in
    script_read by Read
    (g.S.Source.left c.args.script.now) (g.S.Source.left c.read_upgrade.new.script) c.tell.result.0
    W c.read_upgrade.new.setup
    (λ bytes taken gives.
    weaker by ⊥ Read bytes taken c.tell.result.0 W (λ never. absurd never)
    (c.tell.ensures.lines bytes taken (sym c.len-len.ensures ∙ c.if-len-ne-JOURNAL_BYTES.false) gives))
    c.in-Ok.ensures.read

pub returns-in-Err-clause-stated : goal.returns-in-Err-clause-stated
returns-in-Err-clause-stated g c image seen =
    let sink = g.K.Sink in
    let disk = g.D.Disk in
    let Read = Rose (g.S.Source.faults c.args.script.now) (g.S.Source.faults c.read_upgrade.new.script) in
    let by = told_disk (disk.size c.args.disk) (of_image image) (Rose (disk.faults c.args.disk) (disk.faults c.tell_without.result.1)) in
    let W = λ (lines : List (List ℕ)) (r : Result (Unit {0}) Failed). WritesLines sink.written sink.puts c.args.out.now lines r c.tell_without.new.out in
    script_stopped by Read (g.S.Source.left c.args.script.now) (g.S.Source.left c.read_upgrade.new.script) c.tell_without.result.0
    W c.in-Err.how
    (λ bytes taken says.
    weaker by (c.in-Err.how ≡ ending.Unread) Read bytes taken c.tell_without.result.0 W (λ unread. c.in-Err.ensures.source.rose (ap Err unread))
    (c.tell_without.ensures.told image seen bytes taken (sym c.len-len.ensures ∙ c.if-len-ne-JOURNAL_BYTES.false) says))
    c.in-Err.ensures.stopped

pub returns-in-Err-clause-lines : goal.returns-in-Err-clause-lines
returns-in-Err-clause-lines g c =
    let sink = g.K.Sink in
    let disk = g.D.Disk in
    let Read = Rose (g.S.Source.faults c.args.script.now) (g.S.Source.faults c.read_upgrade.new.script) in
    let by = told_disk (disk.size c.args.disk) any_disk (Rose (disk.faults c.args.disk) (disk.faults c.tell_without.result.1)) in
    let W = λ (lines : List (List ℕ)) (r : Result (Unit {0}) Failed). WritesLines sink.written sink.puts c.args.out.now lines r c.tell_without.new.out in
    script_stopped by Read (g.S.Source.left c.args.script.now) (g.S.Source.left c.read_upgrade.new.script) c.tell_without.result.0
    W c.in-Err.how
    (λ bytes taken says.
    weaker by (c.in-Err.how ≡ ending.Unread) Read bytes taken c.tell_without.result.0 W (λ unread. c.in-Err.ensures.source.rose (ap Err unread))
    (c.tell_without.ensures.lines bytes taken (sym c.len-len.ensures ∙ c.if-len-ne-JOURNAL_BYTES.false) says))
    c.in-Err.ensures.stopped
