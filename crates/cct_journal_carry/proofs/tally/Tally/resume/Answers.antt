use Rattle.std.proofs.Common.{sym, subst, true≢false, ◌∙◌}
use Rattle.cct_model.specs.lines.carry.Carry.{Carry}
use Rattle.cct_model.specs.Carry.{IsSafe}
use Rattle.cct_journal_carry.proofs.Fitting.{fits_from, fits_to}
use Rattle.cct_journal_carry.proofs.tally.Tally.resume.Goals as goal

pub invariant_of-result : goal.invariant_of-result
invariant_of-result c = record {
  sound = c.requires.sound;
  safe = subst (λ (d : Carry). IsSafe c.args.setup.now c.args.many d) (sym c.copied.ensures) (record {
    rightly = c.requires.rightly;
    fits = fits_from c.args.setup.now c.args.carry.now (sym c.if-fits.ensures);
  });
}

pub returns-else-fits-clause-refused : goal.returns-else-fits-clause-refused
returns-else-fits-clause-refused c = λ fits.
    true≢false (sym (fits_to c.args.setup.now c.args.carry.now fits) ∙ sym c.if-fits.ensures)
