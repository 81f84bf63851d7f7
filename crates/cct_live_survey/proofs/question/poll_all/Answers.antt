use Rattle.std.proofs.Common.{◌≡◌, ◌∙◌, ◌+◌, ◌≤◌, None, ap, sym, subst, is_some, arith}
use Rattle.cct_model_wire.specs.declared.wire.TheConstants.{BROADCAST}
use Rattle.cct_model_wire.specs.declared.request.Request.TheVariants.{AddressPoll}
use Rattle.cct_model_wire.specs.Exchange.{after_echo, ask}
use Rattle.cct_live_survey.specs.Asking.{Tries, answers_to_all, asks_all, untried}
use Rattle.cct_live_survey.proofs.Trying.{none_there, tried_once}
use Rattle.cct_live_survey.proofs.question.poll_all.Goals as goal

pub loop-init : goal.loop-init
loop-init g c = record { sent = c.encode_request.ensures; tries = untried; nothing = λ some. absurd (omega (arith, some)) }

pub loop-preserved : goal.loop-preserved
loop-preserved g c =
    let heard = c.is_echoed.new.room.heard.items in
    let sent : c.is_echoed.new.room.sent.items ≡ ask c.args.kind BROADCAST AddressPoll = c.is_echoed.ensures.sent ∙ c.loop.invariant.sent in
    let nothing : answers_to_all c.args.kind heard ≡ None =
    none_there _ (ap (λ bytes. is_some (after_echo bytes heard)) (sym sent) ∙ sym c.is_echoed.ensures.echoed ∙ c.if-is_echoed.false) in
    record {
      sent = sent;
      tries = subst (λ found. Tries g.L.Link.gives (ask c.args.kind BROADCAST AddressPoll) (answers_to_all c.args.kind) c.args.link.now (c.loop.counter + 1) found c.is_echoed.new.link)
          nothing (tried_once _ _ _ c.args.link.now c.loop.link c.is_echoed.new.link c.loop.counter heard c.loop.invariant.sent c.loop.invariant.tries c.is_echoed.ensures.gives);
      nothing = λ some. nothing;
    }

pub returns-then-is_echoed-clause-asked : goal.returns-then-is_echoed-clause-asked
returns-then-is_echoed-clause-asked g c = record {
  made = c.loop.counter + 1;
  some = omega arith;
  few = omega (arith, c.loop-test.true);
  tries = tried_once _ _ _ c.args.link.now c.loop.link c.is_echoed.new.link c.loop.counter c.is_echoed.new.room.heard.items c.loop.invariant.sent c.loop.invariant.tries c.is_echoed.ensures.gives;
}

pub returns-clause-asked : goal.returns-clause-asked
returns-clause-asked g c =
    let some : 1 ≤ c.loop.counter = omega (arith, c.loop-test.false) in
    record {
      made = c.loop.counter;
      some = some;
      few = omega (arith, c.loop-test.false, c.loop.auto.counter-end);
      tries = subst (λ found. Tries g.L.Link.gives (ask c.args.kind BROADCAST AddressPoll) (answers_to_all c.args.kind) c.args.link.now c.loop.counter found c.loop.link)
          (sym (c.loop.invariant.nothing some)) c.loop.invariant.tries;
    }

pub returns-then-is_echoed-clause-inquires : goal.returns-then-is_echoed-clause-inquires
returns-then-is_echoed-clause-inquires g c = λ first before. asks_all c.args.kind _ _ _ before (returns-then-is_echoed-clause-asked g c)

pub returns-clause-inquires : goal.returns-clause-inquires
returns-clause-inquires g c = λ first before. asks_all c.args.kind _ _ _ before (returns-clause-asked g c)
