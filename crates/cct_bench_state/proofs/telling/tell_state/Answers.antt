use Rattle.std.proofs.Common.{◌≡◌, ◌∙◌, inl, inr, reverse, sym, subst}
use Rattle.std.proofs.lemmas.List.{reverse-reverse}
use Rattle.std.specs.Prelude.{option_map}
use Rattle.cct_audit.specs.Writing.{WritesLines}
use Rattle.cct_edge.specs.Faults.{Rose}
use Rattle.cct_edge.proofs.Chains.{Rose-earlier}
use Rattle.cct_journal.specs.Image.{HasFrom}
use Rattle.cct_journal.specs.Journal.{JournalReadsFrom, disk_of, place_of}
use Rattle.cct_journal.specs.declared.refusal.OpenNo.{OpenNo}
use Rattle.cct_journal.specs.declared.refusal.OpenNo.TheVariants as opening
use Rattle.cct_bench_report.proofs.Ends.{reads_has}
use Rattle.cct_bench_state.specs.Known.{any_disk, of_image}
use Rattle.cct_bench_state.proofs.Chains.{wrote_none}
use Rattle.cct_bench_state.specs.declared.telling.StateEnd.TheVariants.{Unread}
use Rattle.cct_bench_state.proofs.Deciding.{decides}
use Rattle.cct_bench_state.proofs.Going.{all_held, tells_of, unopened_any, unopened_image}
use Rattle.cct_bench_state.proofs.telling.tell_state.Goals as goal

pub returns-in-Ok-clause-told : goal.returns-in-Ok-clause-told
returns-in-Ok-clause-told g c image seen =
    let sink = g.K.Sink in
    let journal = c.in-Ok.journal in
    let place = place_of journal in
    let found = c.in-Ok.ensures.finds.found image seen in
    let has = reads_has g.D.Disk.seen (disk_of journal) place image found.0 (c.in-Ok.ensures.reads.same_seen ∙ seen) found.1 in
    tells_of (of_image image) (JournalReadsFrom journal) (option_map (λ s. s.now) c.args.setup) place.base place.carry
    c.tell_journal-how.result
    (λ lines r. WritesLines sink.written sink.puts c.args.out.now lines r c.tell_journal-how.new.out)
    (λ before all. all_held (HasFrom image place.base place.carry) (JournalReadsFrom journal) found.0 has found.1 before all)
    (λ index why. inr (place.base, place.carry, found.0, has, why found.0 found.1)) c.tell_journal-how.ensures.told

pub returns-in-Ok-clause-lines : goal.returns-in-Ok-clause-lines
returns-in-Ok-clause-lines g c =
    let sink = g.K.Sink in
    let journal = c.in-Ok.journal in
    let place = place_of journal in
    tells_of any_disk (JournalReadsFrom journal) (option_map (λ s. s.now) c.args.setup) place.base place.carry
    c.tell_journal-how.result
    (λ lines r. WritesLines sink.written sink.puts c.args.out.now lines r c.tell_journal-how.new.out)
    (λ before all. (reverse before, tt, reverse-reverse before)) (λ index why. inl tt) c.tell_journal-how.ensures.told

pub returns-in-Err-clause-told : goal.returns-in-Err-clause-told
returns-in-Err-clause-told g c image seen =
    let sink = g.K.Sink in
    let out = c.args.out.now in
    unopened_image c.in-Err.why image (option_map (λ s. s.now) c.args.setup)
    (λ lines r. WritesLines sink.written sink.puts out lines r out) (c.in-Err.ensures.refused image seen)
    (wrote_none sink.written sink.puts out)

pub returns-in-Err-clause-lines : goal.returns-in-Err-clause-lines
returns-in-Err-clause-lines g c =
    let sink = g.K.Sink in
    let out = c.args.out.now in
    unopened_any c.in-Err.why (option_map (λ s. s.now) c.args.setup)
    (λ lines r. WritesLines sink.written sink.puts out lines r out) (wrote_none sink.written sink.puts out)

pub returns-in-Ok-clause-complete : goal.returns-in-Ok-clause-complete
returns-in-Ok-clause-complete g c image seen no_write no_disk =
    let sink = g.K.Sink in
    let disk = g.D.Disk in
    decides (option_map (λ s. s.now) c.args.setup) image c.tell_journal-how.result
    (λ lines r. WritesLines sink.written sink.puts c.args.out.now lines r c.tell_journal-how.new.out)
    (returns-in-Ok-clause-told g c image seen)
    (λ is. no_write (c.tell_journal-how.ensures.sink.rose is))
    (λ is.
    no_disk (subst (λ d. Rose (disk.faults c.args.disk) (disk.faults d)) (sym c.into_disk.ensures)
    (Rose-earlier _ _ _ c.in-Ok.ensures.cause (c.tell_journal-how.ensures.disk_cause.rose is))))

same_why : (why other : OpenNo) → Unread why ≡ Unread other → why ≡ other
same_why why other is = cc

pub returns-in-Err-clause-complete : goal.returns-in-Err-clause-complete
returns-in-Err-clause-complete g c image seen no_write no_disk =
    let sink = g.K.Sink in
    let out = c.args.out.now in
    decides (option_map (λ s. s.now) c.args.setup) image (Unread c.in-Err.why)
    (λ lines r. WritesLines sink.written sink.puts out lines r out) (returns-in-Err-clause-told g c image seen)
    (λ is. absurd cc)
    (λ is. no_disk (c.in-Err.ensures.cause.rose (same_why c.in-Err.why opening.Disk is)))
