use Rattle.std.proofs.Common.{ap, refl, ◌∙◌, length, List, Option, arith}
use Rattle.std.proofs.lemmas.List.{length-map}
use Rattle.cct_model.specs.declared.judging.OpenOrder.{OpenOrder}
use Rattle.cct_model.specs.Carry.{owed_by}
use Rattle.cct_journal_carry.proofs.Coins.{values_most}
use Rattle.cct_ledger.proofs.OverCarry.{kept_worth, resumed_stands}
use Rattle.cct_ledger.proofs.ledger.Ledger.resume.Goals as goal

pub invariant_of-result : goal.invariant_of-result
invariant_of-result c =
    let owed = c.owed.ensures ∙ ap (owed_by c.args.setup.now) c.as_slice.ensures.value in
    let worth =
    kept_worth c.args.setup.now c.args.carry.now c.open_orders.result.items c.requires.sound.distinct
    c.open_orders.ensures in
    let covered = c.requires.fits.covered in
    let small = c.requires.rightly.small.value in
    record {
      places = ap (λ (os : List (Option OpenOrder)). length os) c.open_orders.ensures ∙ length-map _ _;
      values = λ addr place. values_most c.args.setup.now.devices addr place c.requires.sound.devices;
      owes = omega arith;
      fits = omega arith;
    }

pub returns-clause-stands : goal.returns-clause-stands
returns-clause-stands c = λ before count follow is.
    let owed = c.owed.ensures ∙ ap (owed_by c.args.setup.now) c.as_slice.ensures.value in
    resumed_stands c.args.setup.now c.args.base c.args.carry.now _ before c.requires.sound (record {
      setup_is = refl;
      counted = refl;
      orders = c.open_orders.ensures;
      available = omega arith;
      owed = omega arith;
      reserved = refl;
      paid = refl;
      sold = refl;
    }) count follow is
