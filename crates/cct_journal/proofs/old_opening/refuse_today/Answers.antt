use Rattle.std.proofs.Common.{ℕ, subst, arith, MatchOption}
use Rattle.cct_model_lines.specs.declared.carry.Carry.{Carry}
use Rattle.cct_journal.specs.Half.{half}
use Rattle.cct_journal.specs.Start.{Begins}
use Rattle.cct_journal.proofs.Found.{begins_there}
use Rattle.cct_journal.proofs.OldFound.{today_alien}
use Rattle.cct_journal.proofs.old_opening.refuse_today.Goals as goal

pub returns-in-Ok-Some-clause-refused : goal.returns-in-Ok-Some-clause-refused
returns-in-Ok-Some-clause-refused g c image told is current =
    let start = c.in-Ok-Some.field-0-0 in record {
      second = c.args.current.second;
      generation = start.generation;
      base = start.base;
      carry = start.carry;
      headed = record {
        long = omega (arith, g.met.D.Disk.fits _ image told, c.requires);
        current = current.current;
        begins = begins_there image c.args.current.second c.in-Ok-Some.field-0 start c.in-Ok-Some.field-0-is
            (c.in-Ok-Some.ensures.found image told);
      };
    }

pub returns-in-Ok-None-clause-refused : goal.returns-in-Ok-None-clause-refused
returns-in-Ok-None-clause-refused g c image told is current =
    let second = c.args.current.second in
    today_alien image c.args.current current (λ one. absurd (omega (arith, is, one)))
    (λ two. absurd (omega (arith, is, two)))
    (subst
    (λ o. MatchOption o
    ((generation base : ℕ) (carry : Carry) → Begins second generation base carry (half image second) → ⊥)
    (λ s. Begins second s.generation s.base s.carry (half image second))) c.in-Ok-None.field-0-is
    (c.in-Ok-None.ensures.found image told))
