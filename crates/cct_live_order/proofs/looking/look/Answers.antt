use Rattle.std.proofs.Common.{◌∙◌, ap, arith, refl, rules, subst, sym}
use Rattle.cct_journal.specs.Journal.{JournalReadsFrom, base_of}
use Rattle.cct_journal.specs.declared.place.Place.{Place}
use Rattle.cct_journal.proofs.Moments.{reads_then}
use Rattle.cct_live_order.specs.declared.told.OrderTold.TheVariants.{Unknown}
use Rattle.cct_live_order.proofs.Going.{Going, going_all, going_on, going_starts}
use Rattle.cct_live_order.proofs.looking.look.Goals as goal

pub loop-index-init : goal.loop-index-init
loop-index-init g c =
    let journal = c.args.journal.now in
    let is = c.base-index.ensures.value in record {
      going = subst (Going (JournalReadsFrom journal) (base_of journal) c.args.id Unknown) (sym is)
          (going_starts (JournalReadsFrom journal) (base_of journal) c.args.id);
      from = omega (arith, is);
      told = λ rest held. held;
      place = refl;
      reads = search rules;
      later = omega arith;
    }

pub loop-index-preserved : goal.loop-index-preserved
loop-index-preserved g c =
    let before = c.loop-index.invariant in
    let one = c.in-Ok.ensures in record {
      going = going_on before.going (JournalReadsFrom c.loop-index.journal) (base_of c.loop-index.journal)
          (ap (λ (place : Place). place.base) before.place) before.told c.in-Ok.told one.one;
      from = omega (arith, before.from);
      told = λ rest held. one.told rest (before.told rest held);
      place = one.place ∙ before.place;
      reads = reads_then before.reads one.reads;
      later = omega (arith, before.later, one.disk_cause.later);
    }

pub returns-clause-all : goal.returns-clause-all
returns-clause-all g c =
    going_all c.loop-index.invariant.going
    (λ rest held. omega (arith, held.count, c.loop-index.invariant.going.count, c.loop-index-test.false))

pub returns-in-Err-clause-refused : goal.returns-in-Err-clause-refused
returns-in-Err-clause-refused g c rest held =
    c.in-Err.ensures.refused rest (c.loop-index.invariant.told rest held)
