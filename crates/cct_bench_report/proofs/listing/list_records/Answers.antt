use Rattle.std.proofs.Common.{◌≡◌, ◌∙◌, Ok, Err, ap, refl, sym, subst, arith, rules}
use Rattle.cct_journal.specs.Journal.{JournalReadsFrom, base_of, carry_before}
use Rattle.cct_journal.specs.declared.place.Place.{Place}
use Rattle.cct_journal.proofs.Moments.{reads_then}
use Rattle.cct_text.proofs.Writing.{writes_one}
use Rattle.cct_bench_report.specs.Sums.{AreWithin, sums_in, with_record}
use Rattle.cct_bench_report.proofs.Going.{Going, carry_within, going_starts, going_ends, going_ends_within, going_on, sums_told, sums_told_of}
use Rattle.cct_bench_report.proofs.listing.list_records.Goals as goal

pub returns-in-Err-clause-lines : goal.returns-in-Err-clause-lines
returns-in-Err-clause-lines g c =
    let sink = g.K.Sink in
    let start = JournalReadsFrom c.args.journal.now in
    let here = JournalReadsFrom c.loop-index.journal in
    let before = c.loop-index.invariant in
    going_ends sink.written sink.puts {holds = start} before.going c.list_record.new.out here
    (base_of c.loop-index.journal) (λ entry. c.list_record.new.sums ≡ with_record entry c.loop-index.sums) c.in-Err.how c.in-Err.ensures.lists

pub returns-in-Err-clause-every : goal.returns-in-Err-clause-every
returns-in-Err-clause-every g c records held =
    let sink = g.K.Sink in
    let start = JournalReadsFrom c.args.journal.now in
    let here = JournalReadsFrom c.loop-index.journal in
    let before = c.loop-index.invariant in
    going_ends_within sink.written sink.puts {holds = start} before.going c.list_record.new.out here
    (base_of c.loop-index.journal) (λ entry. c.list_record.new.sums ≡ with_record entry c.loop-index.sums) records
    (ap (λ (place : Place). place.base) before.place) held (before.told records held)
    c.in-Err.how c.in-Err.ensures.lists

pub loop-index-init : goal.loop-index-init
loop-index-init g c =
    let sink = g.K.Sink in
    let journal = c.args.journal.now in
    let start = JournalReadsFrom journal in
    let is = c.of-sums.ensures ∙ ap sums_in c.carry.ensures.value in
    let starts =
    going_starts sink.written sink.puts c.args.out.now start (base_of journal) (carry_before journal) c.of-sums.result is in
    let small =
    carry_within (base_of journal) c.carry.result.now c.of-sums.result c.of-sums.ensures c.carry.ensures.rightly.small in
    let first = c.base-index.ensures.value in record {
      going = subst (Going sink.written sink.puts c.args.out.now c.args.out.now start (base_of journal)
          (carry_before journal) c.of-sums.result) (sym first) starts;
      from = omega arith;
      small = subst (λ n. AreWithin n c.of-sums.result) (sym first) small;
      told = λ rest held. held;
      place = refl;
      reads = search rules;
      later = omega arith;
      sink = search rules;
    }

pub loop-index-preserved : goal.loop-index-preserved
loop-index-preserved g c =
    let sink = g.K.Sink in
    let start = JournalReadsFrom c.args.journal.now in
    let here = JournalReadsFrom c.loop-index.journal in
    let before = c.loop-index.invariant in
    let one = c.in-Ok.ensures in record {
      going = going_on sink.written sink.puts {holds = start} before.going c.list_record.new.out here
          (base_of c.loop-index.journal) c.list_record.new.sums (ap (λ (place : Place). place.base) before.place)
          before.told one.lists;
      from = omega (arith, before.from);
      small = one.small;
      told = λ records held. one.told records (before.told records held);
      place = one.place ∙ before.place;
      reads = reads_then before.reads one.reads;
      later = omega (arith, before.later, one.disk_cause.later);
      sink = record {
        tells = one.sink.tells ∙ before.sink.tells;
        later = omega (arith, before.sink.later, one.sink.later);
        rose = λ never. absurd never;
      };
    }

pub returns-in-Ok-write_entry-clause-lines : goal.returns-in-Ok-write_entry-clause-lines
returns-in-Ok-write_entry-clause-lines g c =
    let sink = g.K.Sink in
    let start = JournalReadsFrom c.args.journal.now in
    let going = c.loop-index.invariant.going in
    let put = c.in-Ok-write_entry.ensures in
    let out1 = c.loop-index.out in
    let out2 = c.write_entry.new.out in
    let total = c.total.result in (
      base_of c.args.journal.now,
      carry_before c.args.journal.now,
      going.read,
      sums_told sink.written sink.puts {holds = start} going out2 total (Ok tt) c.total.ensures
          (writes_one sink.written sink.puts out1 out2 total (Ok tt) put.puts),
    )

pub returns-in-Ok-write_entry-clause-every : goal.returns-in-Ok-write_entry-clause-every
returns-in-Ok-write_entry-clause-every g c records held =
    let sink = g.K.Sink in
    let start = JournalReadsFrom c.args.journal.now in
    let going = c.loop-index.invariant.going in
    let put = c.in-Ok-write_entry.ensures in
    let out1 = c.loop-index.out in
    let out2 = c.write_entry.new.out in
    let total = c.total.result in
    sums_told_of sink.written sink.puts {holds = start} going out2 total (Ok tt) records held
    (omega (arith, held.count, c.loop-index-test.false)) c.total.ensures
    (writes_one sink.written sink.puts out1 out2 total (Ok tt) put.puts)

pub returns-in-Err-write_entry-clause-lines : goal.returns-in-Err-write_entry-clause-lines
returns-in-Err-write_entry-clause-lines g c =
    let sink = g.K.Sink in
    let start = JournalReadsFrom c.args.journal.now in
    let going = c.loop-index.invariant.going in
    let put = c.in-Err-write_entry.ensures in
    let failed = c.in-Err-write_entry.field-0 in
    let out1 = c.loop-index.out in
    let out2 = c.write_entry.new.out in
    let total = c.total.result in (
      base_of c.args.journal.now,
      carry_before c.args.journal.now,
      going.read,
      failed,
      sums_told sink.written sink.puts {holds = start} going out2 total (Err failed) c.total.ensures
          (writes_one sink.written sink.puts out1 out2 total (Err failed) put.puts),
    )

pub returns-in-Err-write_entry-clause-every : goal.returns-in-Err-write_entry-clause-every
returns-in-Err-write_entry-clause-every g c records held =
    let sink = g.K.Sink in
    let start = JournalReadsFrom c.args.journal.now in
    let going = c.loop-index.invariant.going in
    let put = c.in-Err-write_entry.ensures in
    let failed = c.in-Err-write_entry.field-0 in
    let out1 = c.loop-index.out in
    let out2 = c.write_entry.new.out in
    let total = c.total.result in (
      failed,
      sums_told_of sink.written sink.puts {holds = start} going out2 total (Err failed) records held
          (omega (arith, held.count, c.loop-index-test.false))
          c.total.ensures
          (writes_one sink.written sink.puts out1 out2 total (Err failed) put.puts),
    )
