use Rattle.std.proofs.Common.{◌≡◌, false, rules}
use Rattle.cct_hopper.specs.Hopper.{is_change}
use Rattle.cct_hopper.proofs.hopper.Hopper.act.Goals as goal

pub returns-in_default : goal.returns-in_default
returns-in_default c =
    let same : is_change c.args.request ≡ false = search rules in
    record {
      stands = λ d past so. c.tell.ensures.stands d past so same;
      answer = λ d past so. c.tell.ensures.answer d past so same;
      sayable = c.tell.ensures.sayable;
      heard = λ bytes so. so;
    }
