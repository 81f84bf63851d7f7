use Rattle.std.proofs.Common.{◌≡◌, ◌⊎◌, ℕ, List, None, Result, Some, ap, inr, map, refl, true, ◌∙◌}
use Rattle.std.specs.Prelude.{IfSome, string_bytes}
use Rattle.cct_edge.specs.Faults.{Rose}
use Rattle.cct_edge.specs.declared.fault.Failed as put
use Rattle.cct_model.specs.lines.entry.Entry.{Entry}
use Rattle.cct_model.specs.Script.{script}
use Rattle.cct_journal.specs.Image.{IsBlank}
use Rattle.cct_bench.specs.declared.play.TheConstants.{JOURNAL_BYTES}
use Rattle.cct_world.specs.Relying.{losses_in}
use Rattle.cct_gen.specs.Load.{load_steps}
use Rattle.cct_bench.specs.declared.outcome.Status.TheVariants as status
use Rattle.cct_bench.specs.Disks.{disks}
use Rattle.cct_bench.specs.Load.{Loaded}
use Rattle.cct_bench.specs.Report.{IsOrMemory, size_known}
use Rattle.cct_bench.specs.CommandLine.{said_in}
use Rattle.cct_text.specs.Writing.{Writes, Wrote, Broke}
use Rattle.cct_bench.specs.Upgrade.{MayGoForward, Upgraded, old_disk}
use Rattle.cct_bench.specs.UpgradeScript.{upgrade_script}
use Rattle.cct_bench.specs.Run.{Completes, Ran}
use Rattle.cct_bench.proofs.Closing.{memory_completes, no_memory, bytes_weaker, ran_other, told_completes}
use Rattle.cct_bench.proofs.LoadEnds.{load_at_once, load_completes, load_other}
use Rattle.cct_bench.proofs.ReportEnds.{report_other}
use Rattle.cct_bench.proofs.CommandLine.{load_said, words_most}
use Rattle.cct_bench.proofs.UpgradeEnds.{goes_forward, no_memory_upgraded, some_bytes, untouched_moments, upgrade_completes}
use Rattle.cct_text.proofs.Writing.{wrote_none}
use Rattle.cct_audit.specs.Writing.{BrokeLines, WritesLines, WroteLines}
use Rattle.cct_bench_state.specs.Known.{any_disk, of_image}
use Rattle.cct_bench.specs.State.{told_disk}
use Rattle.cct_bench.proofs.StateEnds.{state_no_memory}
use Rattle.cct_audit.proofs.Puts.{wrote_none as wrote_no_line}
use Rattle.cct_audit.specs.Capture.{capture}
use Rattle.cct_bench.specs.Audit.{AuditRan}
use Rattle.cct_bench.proofs.AuditEnds.{audit_completes, audit_no_memory}
use Rattle.cct_bench.proofs.CheckEnds.{check_no_memory}
use Rattle.cct_bench.proofs.bench.Goals as goal

pub returns-in-Ok-clause-complete : goal.returns-in-Ok-clause-complete
returns-in-Ok-clause-complete g c is_run =
    let source = g.S.Source in
    let sink = g.K.Sink in
    let disk = g.D.Disk in
    let script0 = c.args.script.now in
    let script1 = c.run.new.script in
    let out0 = c.args.out.now in
    let out1 = c.run.new.out in
    let s = c.run.result.0 in
    let last = c.run.result.1 in
    let W = Wrote sink.written sink.puts out0 out1 in
    let B = Broke sink.written sink.puts out0 out1 in
    let ds = disks disk.size disk.honest disk.seen disk.may_leave disk.cuts disk.cut_to c.args.disk last in
    let Read = Rose (source.faults script0) (source.faults script1) in
    let Write = Rose (sink.faults out0) (sink.faults out1) in
    let Failed = Rose (disk.faults c.args.disk) (disk.faults last) in
    let Honest = disk.honest c.args.disk ≡ true in
    let ran = c.run.ensures in
    bytes_weaker (λ bytes. Ran bytes s (source.left script1) W B ds Read Failed)
    (λ bytes. IfSome (disk.seen c.args.disk) (λ image. disk.size c.args.disk ≡ JOURNAL_BYTES → IsBlank image
    → Honest ⊎ (losses_in (script bytes).steps ≡ 0) → (Read → ⊥) → (Write → ⊥) → (Failed → ⊥)
    → Completes (script bytes).refused s)) (source.left script0)
    (λ bytes. told_completes bytes s (source.left script1) W B ds Read Write Failed Honest (disk.seen c.args.disk) refl
    (λ honest tells. (honest, tells)) ran.source.rose ran.sink.rose ran.disk.rose) ran.ran

pub returns-in-Err-clause-complete : goal.returns-in-Err-clause-complete
returns-in-Err-clause-complete g c is_run =
    let disk = g.D.Disk in
    memory_completes (g.S.Source.left c.args.script.now) (disk.seen c.args.disk)
    (λ bytes image. disk.size c.args.disk ≡ JOURNAL_BYTES) (λ bytes image. IsBlank image)
    (λ bytes image. (disk.honest c.args.disk ≡ true) ⊎ (losses_in (script bytes).steps ≡ 0))
    (Rose (g.S.Source.faults c.args.script.now) (g.S.Source.faults c.args.script.now) → ⊥)
    (Rose (g.K.Sink.faults c.args.out.now) (g.K.Sink.faults c.args.out.now) → ⊥)
    (Rose (disk.faults c.args.disk) (disk.faults c.args.disk) → ⊥)

pub returns-in-Err-clause-ran : goal.returns-in-Err-clause-ran
returns-in-Err-clause-ran g c is_run =
    let sink = g.K.Sink in
    let disk = g.D.Disk in
    let out = c.args.out.now in
    no_memory (g.S.Source.left c.args.script.now) (Wrote sink.written sink.puts out out)
    (Broke sink.written sink.puts out out)
    (disks disk.size disk.honest disk.seen disk.may_leave disk.cuts disk.cut_to c.args.disk c.args.disk)
    (Rose (g.S.Source.faults c.args.script.now) (g.S.Source.faults c.args.script.now))
    (Rose (disk.faults c.args.disk) (disk.faults c.args.disk)) refl (wrote_none sink.written sink.puts out)

pub returns-in-Err-Memory-clause-complete : goal.returns-in-Err-Memory-clause-complete
returns-in-Err-Memory-clause-complete g c is_run =
    let disk = g.D.Disk in
    memory_completes (g.S.Source.left c.args.script.now) (disk.seen c.args.disk)
    (λ bytes image. disk.size c.args.disk ≡ JOURNAL_BYTES) (λ bytes image. IsBlank image)
    (λ bytes image. (disk.honest c.args.disk ≡ true) ⊎ (losses_in (script bytes).steps ≡ 0))
    (Rose (g.S.Source.faults c.args.script.now) (g.S.Source.faults c.args.script.now) → ⊥)
    (Rose (g.K.Sink.faults c.args.out.now) (g.K.Sink.faults c.args.out.now) → ⊥)
    (Rose (disk.faults c.args.disk) (disk.faults c.args.disk) → ⊥)

pub returns-in-Err-Memory-clause-ran : goal.returns-in-Err-Memory-clause-ran
returns-in-Err-Memory-clause-ran g c is_run =
    let sink = g.K.Sink in
    let disk = g.D.Disk in
    let out = c.args.out.now in
    no_memory (g.S.Source.left c.args.script.now) (Wrote sink.written sink.puts out out)
    (Broke sink.written sink.puts out out)
    (disks disk.size disk.honest disk.seen disk.may_leave disk.cuts disk.cut_to c.args.disk c.args.disk)
    (Rose (g.S.Source.faults c.args.script.now) (g.S.Source.faults c.args.script.now))
    (Rose (disk.faults c.args.disk) (disk.faults c.args.disk)) refl (wrote_none sink.written sink.puts out)

pub run_load-requires : goal.run_load-requires
run_load-requires g c =
    record {
      rounds = words_most (map string_bytes c.args.words.now) c.in-Ok-Load.seed c.in-Ok-Load.rounds
          (c.in-Ok-Load.ensures.said ∙ ap Some c.in-Ok-Load.field-0-is);
    }

pub returns-in-Ok-Load-clause-loaded : goal.returns-in-Ok-Load-clause-loaded
returns-in-Ok-Load-clause-loaded g c =
    let sink = g.K.Sink in
    let disk = g.D.Disk in
    let out = c.args.out.now in
    let W = Wrote sink.written sink.puts out c.run_load.new.out in
    let B = Broke sink.written sink.puts out c.run_load.new.out in
    let ds = disks disk.size disk.honest disk.seen disk.may_leave disk.cuts disk.cut_to c.args.disk c.run_load.result.1 in
    load_said (said_in c.args.words.now) c.in-Ok-Load.seed c.in-Ok-Load.rounds
    (λ seed rounds. Loaded seed rounds c.run_load.result.0 W B ds
    (Rose (disk.faults c.args.disk) (disk.faults c.run_load.result.1)))
    (c.in-Ok-Load.ensures.said ∙ ap Some c.in-Ok-Load.field-0-is) c.run_load.ensures.loaded

pub returns-in-Ok-Load-clause-load_complete : goal.returns-in-Ok-Load-clause-load_complete
returns-in-Ok-Load-clause-load_complete g c =
    let sink = g.K.Sink in
    let disk = g.D.Disk in
    let out0 = c.args.out.now in
    let out1 = c.run_load.new.out in
    let s = c.run_load.result.0 in
    let last = c.run_load.result.1 in
    let W = Wrote sink.written sink.puts out0 out1 in
    let B = Broke sink.written sink.puts out0 out1 in
    let ds = disks disk.size disk.honest disk.seen disk.may_leave disk.cuts disk.cut_to c.args.disk last in
    let Write = Rose (sink.faults out0) (sink.faults out1) in
    let Failed = Rose (disk.faults c.args.disk) (disk.faults last) in
    let Honest = disk.honest c.args.disk ≡ true in
    let load = c.run_load.ensures in
    load_said (said_in c.args.words.now) c.in-Ok-Load.seed c.in-Ok-Load.rounds
    (λ seed rounds. IfSome (disk.seen c.args.disk) (λ image. disk.size c.args.disk ≡ JOURNAL_BYTES → IsBlank image
    → Honest ⊎ (losses_in (load_steps seed rounds) ≡ 0) → (Write → ⊥) → (Failed → ⊥) → IsOrMemory status.Done s))
    (c.in-Ok-Load.ensures.said ∙ ap Some c.in-Ok-Load.field-0-is)
    (load_completes c.in-Ok-Load.seed c.in-Ok-Load.rounds s W B ds Write Failed Honest (disk.seen c.args.disk) refl
    (λ honest tells. (honest, tells)) load.sink.rose load.disk.rose load.loaded)

pub returns-in-Err-Memory-clause-loaded : goal.returns-in-Err-Memory-clause-loaded
returns-in-Err-Memory-clause-loaded g c seed rounds is =
    let sink = g.K.Sink in
    let disk = g.D.Disk in
    let out = c.args.out.now in
    load_at_once seed rounds (Wrote sink.written sink.puts out out) (Broke sink.written sink.puts out out)
    (disks disk.size disk.honest disk.seen disk.may_leave disk.cuts disk.cut_to c.args.disk c.args.disk) refl
    (Rose (disk.faults c.args.disk) (disk.faults c.args.disk)) (wrote_none sink.written sink.puts out)

pub returns-in-Ok-Upgrade-clause-upgrade_complete : goal.returns-in-Ok-Upgrade-clause-upgrade_complete
returns-in-Ok-Upgrade-clause-upgrade_complete g c is_upgrade =
    let source = g.S.Source in
    let sink = g.K.Sink in
    let disk = g.D.Disk in
    let script0 = c.args.script.now in
    let script1 = c.run_upgrade.new.script in
    let out0 = c.args.out.now in
    let out1 = c.run_upgrade.new.out in
    let s = c.run_upgrade.result.0 in
    let last = c.run_upgrade.result.1 in
    let old = old_disk disk.size disk.honest disk.seen disk.may_leave disk.moment disk.left_since disk.cuts disk.faults c.args.disk last in
    let Read = Rose (source.faults script0) (source.faults script1) in
    let Write = Rose (sink.faults out0) (sink.faults out1) in
    let Failed = Rose (disk.faults c.args.disk) (disk.faults last) in
    let W = λ (lines : List Entry) (answer : Result (Unit {0}) put.Failed). Writes sink.written sink.puts out0 lines answer out1 in
    bytes_weaker (λ bytes. Upgraded old Read bytes s (source.left script1) W)
    (λ bytes. (image : List ℕ) → disk.seen c.args.disk ≡ Some image → disk.size c.args.disk ≡ JOURNAL_BYTES
    → (upgrade_script bytes).refused ≡ None → MayGoForward (upgrade_script bytes).setup image → (Read → ⊥) → (Write → ⊥)
    → (Failed → ⊥) → IsOrMemory status.Done s) (source.left script0)
    (λ bytes up image told sized none may no_read no_write no_disk.
    upgrade_completes old Read Write bytes s (source.left script1) W up sized none
    (λ answer answers. goes_forward (upgrade_script bytes).setup image answer (answers image told) may) c.run_upgrade.ensures.sink.rose no_read no_write
    no_disk) c.run_upgrade.ensures.upgraded

pub returns-in-Err-Memory-clause-upgraded : goal.returns-in-Err-Memory-clause-upgraded
returns-in-Err-Memory-clause-upgraded g c is_upgrade =
    let sink = g.K.Sink in
    let disk = g.D.Disk in
    let left = g.S.Source.left c.args.script.now in
    let out = c.args.out.now in
    no_memory_upgraded
    (old_disk disk.size disk.honest disk.seen disk.may_leave disk.moment disk.left_since disk.cuts disk.faults c.args.disk c.args.disk)
    (Rose (g.S.Source.faults c.args.script.now) (g.S.Source.faults c.args.script.now)) left left status.OutOfMemory
    (λ lines answer. Writes sink.written sink.puts out lines answer out) refl refl
    (untouched_moments g.met.D.Disk.only_now c.args.disk) (wrote_none sink.written sink.puts out)

pub returns-in-Err-Memory-clause-upgrade_complete : goal.returns-in-Err-Memory-clause-upgrade_complete
returns-in-Err-Memory-clause-upgrade_complete g c is_upgrade =
    some_bytes (g.S.Source.left c.args.script.now)
    (λ bytes image told sized none may no_read no_write no_disk. inr refl)

pub returns-in-Ok-clause-upgrade_cause : goal.returns-in-Ok-clause-upgrade_cause
returns-in-Ok-clause-upgrade_cause g c is =
    let sink = g.K.Sink in
    let disk = g.D.Disk in
    let source = g.S.Source in
    let out0 = c.args.out.now in
    let out1 = c.run.new.out in
    let last = c.run.result.1 in
    let ran = c.run.ensures.ran in
    absurd (ran_other ran.0 c.run.result.0 (source.left c.run.new.script) (Wrote sink.written sink.puts out0 out1)
    (Broke sink.written sink.puts out0 out1)
    (disks disk.size disk.honest disk.seen disk.may_leave disk.cuts disk.cut_to c.args.disk last)
    (Rose (source.faults c.args.script.now) (source.faults c.run.new.script))
    (Rose (disk.faults c.args.disk) (disk.faults last)) ran.2 is)

pub returns-in-Ok-Load-clause-upgrade_cause : goal.returns-in-Ok-Load-clause-upgrade_cause
returns-in-Ok-Load-clause-upgrade_cause g c is =
    let sink = g.K.Sink in
    let disk = g.D.Disk in
    let out0 = c.args.out.now in
    let out1 = c.run_load.new.out in
    let last = c.run_load.result.1 in
    absurd (load_other c.in-Ok-Load.seed c.in-Ok-Load.rounds c.run_load.result.0 (Wrote sink.written sink.puts out0 out1)
    (Broke sink.written sink.puts out0 out1)
    (disks disk.size disk.honest disk.seen disk.may_leave disk.cuts disk.cut_to c.args.disk last)
    (Rose (disk.faults c.args.disk) (disk.faults last)) c.run_load.ensures.loaded is)

pub returns-in-Ok-Report-clause-upgrade_cause : goal.returns-in-Ok-Report-clause-upgrade_cause
returns-in-Ok-Report-clause-upgrade_cause g c is =
    let sink = g.K.Sink in
    let disk = g.D.Disk in
    absurd (report_other
    (size_known (disk.size c.args.disk) (Rose (disk.faults c.args.disk) (disk.faults c.report.result.1)))
    c.report.result.0 (λ lines answer. Writes sink.written sink.puts c.args.out.now lines answer c.report.new.out)
    c.report.ensures.lines is)

pub returns-in-Ok-Audit-clause-audit_complete : goal.returns-in-Ok-Audit-clause-audit_complete
returns-in-Ok-Audit-clause-audit_complete g c is_audit =
    let source = g.S.Source in
    let sink = g.K.Sink in
    let script0 = c.args.script.now in
    let script1 = c.run_audit.new.script in
    let out0 = c.args.out.now in
    let out1 = c.run_audit.new.out in
    let s = c.run_audit.result in
    let Read = Rose (source.faults script0) (source.faults script1) in
    let Write = Rose (sink.faults out0) (sink.faults out1) in
    let W = WroteLines sink.written sink.puts out0 out1 in
    let B = BrokeLines sink.written sink.puts out0 out1 in
    bytes_weaker (λ bytes. AuditRan bytes s None (source.left script1) Read W B)
    (λ bytes. (capture bytes).refused ≡ None → (Read → ⊥) → (Write → ⊥) → IsOrMemory status.Done s) (source.left script0)
    (λ bytes ran none no_read no_write.
    audit_completes bytes s (source.left script1) Read Write W B ran none c.run_audit.ensures.sink.rose no_read no_write)
    c.run_audit.ensures.audited

pub returns-in-Err-Memory-clause-audited : goal.returns-in-Err-Memory-clause-audited
returns-in-Err-Memory-clause-audited g c is_audit =
    let sink = g.K.Sink in
    let out = c.args.out.now in
    audit_no_memory (g.S.Source.left c.args.script.now)
    (Rose (g.S.Source.faults c.args.script.now) (g.S.Source.faults c.args.script.now))
    (WroteLines sink.written sink.puts out out) (BrokeLines sink.written sink.puts out out) (wrote_no_line sink.written sink.puts out)

pub returns-in-Err-Memory-clause-audit_complete : goal.returns-in-Err-Memory-clause-audit_complete
returns-in-Err-Memory-clause-audit_complete g c is_audit =
    some_bytes (g.S.Source.left c.args.script.now) (λ bytes none no_read no_write. inr refl)

pub returns-in-Err-Memory-clause-checked : goal.returns-in-Err-Memory-clause-checked
returns-in-Err-Memory-clause-checked g c is_check =
    let sink = g.K.Sink in
    let out = c.args.out.now in
    check_no_memory (g.S.Source.left c.args.script.now)
    (Rose (g.S.Source.faults c.args.script.now) (g.S.Source.faults c.args.script.now))
    (λ lines answer. Writes sink.written sink.puts out lines answer out) (wrote_none sink.written sink.puts out)

pub returns-in-Err-Memory-clause-stated : goal.returns-in-Err-Memory-clause-stated
returns-in-Err-Memory-clause-stated g c is_state image seen =
    let sink = g.K.Sink in
    let disk = g.D.Disk in
    let out = c.args.out.now in
    state_no_memory
    (told_disk (disk.size c.args.disk) (of_image image) (Rose (disk.faults c.args.disk) (disk.faults c.args.disk)))
    (Rose (g.S.Source.faults c.args.script.now) (g.S.Source.faults c.args.script.now)) (g.S.Source.left c.args.script.now)
    (λ lines answer. WritesLines sink.written sink.puts out lines answer out) (wrote_no_line sink.written sink.puts out)

pub returns-in-Err-Memory-clause-state_lines : goal.returns-in-Err-Memory-clause-state_lines
returns-in-Err-Memory-clause-state_lines g c is_state =
    let sink = g.K.Sink in
    let disk = g.D.Disk in
    let out = c.args.out.now in
    state_no_memory
    (told_disk (disk.size c.args.disk) any_disk (Rose (disk.faults c.args.disk) (disk.faults c.args.disk)))
    (Rose (g.S.Source.faults c.args.script.now) (g.S.Source.faults c.args.script.now)) (g.S.Source.left c.args.script.now)
    (λ lines answer. WritesLines sink.written sink.puts out lines answer out) (wrote_no_line sink.written sink.puts out)

pub returns-in-Ok-State-clause-upgrade_cause : goal.returns-in-Ok-State-clause-upgrade_cause
returns-in-Ok-State-clause-upgrade_cause g c is = absurd (c.run_state.ensures.own.upgrade is)
