use Rattle.std.proofs.Common.{ap, sym, ◌∙◌, subst, length, List, [], Option, arith}
use Rattle.std.proofs.lemmas.List.{length-map}
use Rattle.cct_model.specs.declared.judging.OpenOrder.{OpenOrder}
use Rattle.cct_ledger.specs.Orders.{KeepsOrders}
use Rattle.cct_ledger.proofs.Orders.{keeps_first, first_owed, first_worth}
use Rattle.cct_journal_carry.proofs.Coins.{values_most}
use Rattle.cct_ledger.proofs.ledger.Ledger.new.Goals as goal

pub invariant_of-result : goal.invariant_of-result
invariant_of-result c =
    let worth = first_worth c.args.setup.now c.none_open.result.items c.none_open.ensures in
    record {
      places = ap (λ (os : List (Option OpenOrder)). length os) c.none_open.ensures ∙ length-map _ _;
      values = λ addr place. values_most c.args.setup.now.devices addr place c.requires.sound.devices;
      owes = omega arith;
      fits = omega arith;
    }

pub returns-clause-fresh : goal.returns-clause-fresh
returns-clause-fresh c =
    let owed = first_owed c.args.setup.now in
    record {
      sound = c.requires.sound;
      counted = omega arith;
      orders = subst (λ (os : List (Option OpenOrder)). KeepsOrders c.args.setup.now [] os) (sym c.none_open.ensures)
          (keeps_first c.args.setup.now);
      owed = omega arith;
      reserved = omega arith;
      paid = omega arith;
      sold = omega arith;
      posted = omega arith;
    }
