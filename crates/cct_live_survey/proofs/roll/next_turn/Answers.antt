-- What may be found by the next question is less.
use Rattle.std.proofs.Common.{arith}
use Rattle.cct_live_survey.proofs.Rolling.{least_found, some_found}
use Rattle.cct_live_survey.proofs.roll.next_turn.Goals as goal

pub returns-in-None-clause-less : goal.returns-in-None-clause-less
returns-in-None-clause-less c =
    let some = some_found c.args.turn.about in
    let least = least_found c.args.turn.about c.args.turn.silent in
    omega (arith, some, least)

pub returns-in-Some-clause-less : goal.returns-in-Some-clause-less
returns-in-Some-clause-less c =
    let least = least_found c.args.turn.about c.args.turn.silent in
    let less = c.in-Some.ensures.less in
    omega (arith, least, less)
