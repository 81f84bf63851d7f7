use Rattle.std.proofs.Common.{Err, refl, sym, ◌∙◌, ap}
use Rattle.cct_edge.specs.Faults.{Rose}
use Rattle.cct_text.specs.Writing.{Writes}
use Rattle.cct_bench.specs.Upgrade.{old_disk}
use Rattle.cct_bench.proofs.UpgradeEnds.{other_size, script_read, script_stopped, untouched_moments}
use Rattle.cct_bench.proofs.upgrading.run_upgrade.Goals as goal

pub returns-then-len-ne-JOURNAL_BYTES-clause-upgraded : goal.returns-then-len-ne-JOURNAL_BYTES-clause-upgraded
returns-then-len-ne-JOURNAL_BYTES-clause-upgraded g c =
    let sink = g.K.Sink in
    let disk = g.D.Disk in
    let left = g.S.Source.left c.args.script.now in
    let closed = c.close-status.ensures.writes in
    other_size
    (old_disk disk.size disk.honest disk.seen disk.may_leave disk.moment disk.left_since disk.cuts disk.faults c.args.disk c.args.disk)
    (Rose (g.S.Source.faults c.args.script.now) (g.S.Source.faults c.args.script.now)) left left c.close-status.result
    (λ lines answer. Writes sink.written sink.puts c.args.out.now lines answer c.close-status.new.out) c.len-len.result
    closed.0 refl c.len-len.ensures (λ is. c.if-len-ne-JOURNAL_BYTES.true (c.len-len.ensures ∙ is)) refl
    (untouched_moments g.met.D.Disk.only_now c.args.disk) closed.1 closed.2

pub returns-in-Ok-clause-upgraded : goal.returns-in-Ok-clause-upgraded
returns-in-Ok-clause-upgraded g c =
    let sink = g.K.Sink in
    let disk = g.D.Disk in
    let told = c.forward_and_tell.ensures.told in
    script_read
    (old_disk disk.size disk.honest disk.seen disk.may_leave disk.moment disk.left_since disk.cuts disk.faults c.args.disk
    c.forward_and_tell.result.1)
    (Rose (g.S.Source.faults c.args.script.now) (g.S.Source.faults c.read_upgrade.new.script))
    (g.S.Source.left c.args.script.now) (g.S.Source.left c.read_upgrade.new.script) c.forward_and_tell.result.0
    (λ lines answer. Writes sink.written sink.puts c.args.out.now lines answer c.forward_and_tell.new.out)
    c.read_upgrade.new.setup told.0 told.1 (sym c.len-len.ensures ∙ c.if-len-ne-JOURNAL_BYTES.false) told.2 told.3
    c.forward_and_tell.ensures.moments c.forward_and_tell.ensures.forward told.4 told.5 c.in-Ok.ensures.read

pub returns-in-Err-clause-upgraded : goal.returns-in-Err-clause-upgraded
returns-in-Err-clause-upgraded g c =
    let sink = g.K.Sink in
    let disk = g.D.Disk in
    let closed = c.finish_run.ensures.writes in
    script_stopped
    (old_disk disk.size disk.honest disk.seen disk.may_leave disk.moment disk.left_since disk.cuts disk.faults c.args.disk c.args.disk)
    (Rose (g.S.Source.faults c.args.script.now) (g.S.Source.faults c.read_upgrade.new.script))
    (g.S.Source.left c.args.script.now) (g.S.Source.left c.read_upgrade.new.script) c.finish_run.result
    (λ lines answer. Writes sink.written sink.puts c.args.out.now lines answer c.finish_run.new.out) c.in-Err.how closed.0
    (sym c.len-len.ensures ∙ c.if-len-ne-JOURNAL_BYTES.false)
    (λ unread. c.in-Err.ensures.source.rose (ap Err unread)) refl
    (untouched_moments g.met.D.Disk.only_now c.args.disk) closed.1 closed.2 c.in-Err.ensures.stopped
