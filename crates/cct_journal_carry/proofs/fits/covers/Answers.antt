use Rattle.std.proofs.Common.{ap, arith, length}
use Rattle.cct_journal_carry.proofs.Fitting.{owed_most}
use Rattle.cct_model.specs.Carry.{owed_by}
use Rattle.cct_journal_carry.proofs.fits.covers.Goals as goal

pub owed-owed-requires : goal.owed-owed-requires
owed-owed-requires c =
    let same = ap (owed_by c.args.setup.now) c.as_slice.ensures.value in
    let many = ap length c.as_slice.ensures.value in
    let most = owed_most c.args.setup.now c.args.carry.now.orders c.requires.sound c.requires.orders in
    let few = c.as_slice.ensures.few in
    omega arith
