-- One question after another was answered, or the last one wasn't.
use Rattle.std.proofs.Common.{arith, inl, inr, sym}
use Rattle.cct_live_survey.specs.Roll.{all_answered, called_more, last_silent, uncalled}
use Rattle.cct_live_survey.proofs.roll.Roll.ask_those.Goals as goal

pub loop-init : goal.loop-init
loop-init g c = uncalled

pub returns-in-None : goal.returns-in-None
returns-in-None g c =
    all_answered c.loop.counter _ _ (omega (arith, c.loop-test.true)) c.loop.invariant (inr (sym c.in-None.ensures.first))

pub returns-in-Silent : goal.returns-in-Silent
returns-in-Silent g c = last_silent c.loop.counter c.in-Some.index c.loop.self _ c.loop.link _ (omega (arith, c.loop-test.true))
    c.loop.invariant (sym c.in-Some.ensures.first) c.in-Silent.ensures

pub loop-preserved : goal.loop-preserved
loop-preserved g c = called_more c.loop.counter c.in-Some.index c.loop.self _ c.loop.link _ c.loop.invariant
    (sym c.in-Some.ensures.first) c.in-All.ensures

pub returns : goal.returns
returns g c = all_answered c.loop.counter _ _ (omega (arith, c.loop.auto.counter-end)) c.loop.invariant
    (inl (omega (arith, c.loop-test.false, c.loop.auto.counter-end)))
