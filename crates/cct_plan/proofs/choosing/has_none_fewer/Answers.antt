use Rattle.std.proofs.Common.{inl, inr, refl, arith}
use Rattle.std.proofs.lemmas.Bool.{leb-true, le-leb}
use Rattle.cct_plan.proofs.Fewest.{none_fewer, at_most}
use Rattle.cct_plan.proofs.choosing.has_none_fewer.Goals as goal

pub returns-then-least : goal.returns-then-least
returns-then-least c = (
  λ _. none_fewer c.args.trays.now c.args.amount _ c.requires.few c.requires.least c.args.count
      (inl (omega (arith, c.told-least.ensures, c.if-least.true))),
  λ _. refl,
)

pub returns : goal.returns
returns c = (
  λ yes. none_fewer c.args.trays.now c.args.amount _ c.requires.few c.requires.least c.args.count
      (inr (omega (arith, c.told-least.ensures, leb-true c.args.count c.told-least.result yes))),
  λ fewer. le-leb c.args.count c.told-least.result (omega (
    arith,
    c.told-least.ensures,
    at_most c.args.trays.now c.args.amount _ c.requires.few c.requires.least c.args.count
        (λ far. c.if-least.false (omega (arith, c.told-least.ensures, far))) fewer,
  )),
)
