use Rattle.std.proofs.Common.{◌≡◌, ◌∙◌, refl, sym, subst}
use Rattle.cct_edge.specs.Faults.{Rose}
use Rattle.cct_edge.proofs.Chains.{Rose-earlier}
use Rattle.cct_journal.specs.Journal.{disk_of, place_of}
use Rattle.cct_journal.proofs.Opens.{one_from, over_from}
use Rattle.cct_text.specs.Writing.{Writes}
use Rattle.cct_text.proofs.Writing.{wrote_none}
use Rattle.cct_bench_report.specs.Listing.{Lists}
use Rattle.cct_bench_report.proofs.Ends.{decides, opened_finds, reads_has, unopened_decides, unopened_finds, unopened_lists, unopened_some}
use Rattle.cct_bench_report.proofs.listing.list_journal.Goals as goal

pub returns-in-Ok-clause-every : goal.returns-in-Ok-clause-every
returns-in-Ok-clause-every g c image base carry rest told has =
    let sink = g.K.Sink in
    let found = c.in-Ok.ensures.finds.found image told in
    let place = place_of c.in-Ok.journal in
    let here = reads_has g.D.Disk.seen (disk_of c.in-Ok.journal) place image found.0 (c.in-Ok.ensures.reads.same_seen ∙ told)
    found.1 in
    over_from (λ b s rs. Lists c.list_records-how.result b s rs
    (λ entries answer. Writes sink.written sink.puts c.args.out.now entries answer c.list_records-how.new.out))
    (one_from image place.base base place.carry carry found.0 rest here has)
    (c.list_records-how.ensures.every found.0 found.1)

pub returns-in-Ok-clause-found : goal.returns-in-Ok-clause-found
returns-in-Ok-clause-found g c image told =
    let sink = g.K.Sink in
    let found = c.in-Ok.ensures.finds.found image told in
    let place = place_of c.in-Ok.journal in
    opened_finds c.list_records-how.result image place.base place.carry found.0
    (c.list_records-how.new.out ≡ c.args.out.now)
    (λ entries answer. Writes sink.written sink.puts c.args.out.now entries answer c.list_records-how.new.out)
    (reads_has g.D.Disk.seen (disk_of c.in-Ok.journal) place image found.0 (c.in-Ok.ensures.reads.same_seen ∙ told)
    found.1)
    (c.list_records-how.ensures.every found.0 found.1)

pub returns-in-Ok-clause-complete : goal.returns-in-Ok-clause-complete
returns-in-Ok-clause-complete g c image told no_write no_disk =
    let disk = g.D.Disk in
    decides c.list_records-how.result image (c.list_records-how.new.out ≡ c.args.out.now)
    (returns-in-Ok-clause-found g c image told)
    (λ is. no_write (c.list_records-how.ensures.sink.rose is))
    (λ is.
    no_disk (subst (λ d. Rose (disk.faults c.args.disk) (disk.faults d)) (sym c.into_disk.ensures)
    (Rose-earlier _ _ _ c.in-Ok.ensures.cause (c.list_records-how.ensures.disk_cause.rose is))))

pub returns-in-Err-clause-found : goal.returns-in-Err-clause-found
returns-in-Err-clause-found g c image told =
    unopened_finds c.in-Err.why image (c.args.out.now ≡ c.args.out.now) refl (c.in-Err.ensures.refused image told)

pub returns-in-Err-clause-every : goal.returns-in-Err-clause-every
returns-in-Err-clause-every g c image base carry rest told has =
    let sink = g.K.Sink in
    unopened_lists c.in-Err.why image base carry rest
    (λ entries answer. Writes sink.written sink.puts c.args.out.now entries answer c.args.out.now)
    (wrote_none sink.written sink.puts c.args.out.now) (c.in-Err.ensures.refused image told) has

pub returns-in-Err-clause-lines : goal.returns-in-Err-clause-lines
returns-in-Err-clause-lines g c =
    let sink = g.K.Sink in
    unopened_some c.in-Err.why
    (λ entries answer. Writes sink.written sink.puts c.args.out.now entries answer c.args.out.now)
    (wrote_none sink.written sink.puts c.args.out.now)

pub returns-in-Err-clause-complete : goal.returns-in-Err-clause-complete
returns-in-Err-clause-complete g c image told no_write no_disk =
    unopened_decides c.in-Err.why image (c.in-Err.ensures.refused image told)
    (λ is. no_disk (c.in-Err.ensures.cause.rose is))
