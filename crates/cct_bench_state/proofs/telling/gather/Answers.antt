use Rattle.std.proofs.Common.{◌∙◌, [], ap, arith, refl, rules, subst, sym}
use Rattle.std.specs.Prelude.{option_map}
use Rattle.cct_journal.specs.Journal.{JournalReadsFrom, base_of, carry_before}
use Rattle.cct_journal.specs.declared.place.Place.{Place}
use Rattle.cct_journal.proofs.Moments.{reads_then}
use Rattle.cct_bench_state.specs.Books.{Keeps}
use Rattle.cct_bench_state.proofs.Going.{Going, going_all, going_ends, going_on, going_starts}
use Rattle.cct_bench_state.proofs.telling.gather.Goals as goal

pub loop-index-init : goal.loop-index-init
loop-index-init g c =
    let journal = c.args.journal.now in
    let setup = option_map (λ s. s.now) c.args.setup in
    let is = c.base-base.ensures.value in
    let keeps = subst (λ x. Keeps setup x [] c.in-Ok.books) c.carry.ensures.value c.in-Ok.ensures.keeps in record {
      going = subst (Going (JournalReadsFrom journal) setup (base_of journal) (carry_before journal) c.in-Ok.books) (sym is)
          (going_starts (JournalReadsFrom journal) setup (base_of journal) (carry_before journal) c.in-Ok.books keeps);
      from = omega (arith, is);
      ready = c.in-Ok.ensures.ready;
      told = λ rest held. held;
      place = refl;
      reads = search rules;
      later = omega arith;
    }

pub loop-index-preserved : goal.loop-index-preserved
loop-index-preserved g c =
    let before = c.loop-index.invariant in
    let one = c.in-Ok-read_on.ensures in record {
      going = going_on before.going (JournalReadsFrom c.loop-index.journal) (base_of c.loop-index.journal)
          (ap (λ (place : Place). place.base) before.place) before.told c.read_on.new.books one.one;
      from = omega (arith, before.from);
      ready = one.ready;
      told = λ records held. one.told records (before.told records held);
      place = one.place ∙ before.place;
      reads = reads_then before.reads one.reads;
      later = omega (arith, before.later, one.disk_cause.later);
    }

pub returns-in-Err-read_on-clause-refused : goal.returns-in-Err-read_on-clause-refused
returns-in-Err-read_on-clause-refused g c =
    let before = c.loop-index.invariant in
    going_ends before.going (JournalReadsFrom c.loop-index.journal) (base_of c.loop-index.journal)
    (ap (λ (place : Place). place.base) before.place) before.told c.read_on.new.books c.in-Err-read_on.why
    c.in-Err-read_on.ensures.one

pub returns-clause-all : goal.returns-clause-all
returns-clause-all g c =
    let going = c.loop-index.invariant.going in record {
      before = going.before;
      all = going_all (JournalReadsFrom c.args.journal.now) going.before going.first
          (λ records held. omega (arith, held.count, going.count, c.loop-index-test.false));
      keeps = going.keeps;
    }
