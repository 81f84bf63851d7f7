use Rattle.std.proofs.Common.{subst, sym}
use Rattle.std.specs.Prelude.{IfNone}
use Rattle.std.proofs.lemmas.Bool.Decides.{not_from_Decides}
use Rattle.cct_record.specs.CarryBody.{SpellsNone}
use Rattle.cct_record.proofs.CarryBack.{refused_short, refused_carry}
use Rattle.cct_record.proofs.carry_reading.read_carry.Goals as goal

pub returns-in_err-carry-clause-refused : goal.returns-in_err-carry-clause-refused
returns-in_err-carry-clause-refused c =
    subst (λ r. IfNone r (SpellsNone c.args.base c.args.bodies.now)) (sym c.from_residual.ensures)
    (refused_short c.args.base c.args.bodies.now c.ranges.base.fits c.in_err-carry.ensures.none)

pub returns-else-is_spelt_by-clause-refused : goal.returns-else-is_spelt_by-clause-refused
returns-else-is_spelt_by-clause-refused c =
    refused_carry c.args.base c.args.bodies.now c.in_ok-carry.carry c.ranges.base.fits c.in_ok-carry.ensures.stands
    (not_from_Decides c.is_spelt_by.result c.is_spelt_by.ensures c.if-is_spelt_by.false)
