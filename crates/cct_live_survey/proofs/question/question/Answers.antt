use Rattle.std.proofs.Common.{◌≡◌, ◌∙◌, ◌+◌, ◌≤◌, None, ap, sym, subst, is_some, arith}
use Rattle.cct_model_wire.specs.Exchange.{ask, got}
use Rattle.cct_live_survey.specs.Asking.{Asked, Tries, asks_one, reply_to, untried}
use Rattle.cct_live_survey.proofs.Trying.{none_there, tried_once}
use Rattle.cct_live_survey.proofs.question.question.Goals as goal

pub loop-init : goal.loop-init
loop-init g c = record { sent = c.encode_request.ensures; tries = untried; nothing = λ some. absurd (omega (arith, some)) }

pub loop-preserved : goal.loop-preserved
loop-preserved g c =
    let heard = c.is_answered.new.room.heard.items in
    let sent : c.is_answered.new.room.sent.items ≡ ask c.args.kind c.args.addr c.args.request = c.is_answered.ensures.sent ∙ c.loop.invariant.sent in
    let nothing : reply_to c.args.kind c.args.addr c.args.request c.args.form heard ≡ None =
    none_there _ (ap (λ bytes. is_some (got c.args.kind c.args.addr c.args.form bytes heard)) (sym sent) ∙ sym c.is_answered.ensures.answered ∙ c.if-is_answered.false) in
    record {
      sent = sent;
      tries = subst (λ found. Tries g.L.Link.gives (ask c.args.kind c.args.addr c.args.request) (reply_to c.args.kind c.args.addr c.args.request c.args.form) c.args.link.now (c.loop.counter + 1) found c.is_answered.new.link)
          nothing (tried_once _ _ _ c.args.link.now c.loop.link c.is_answered.new.link c.loop.counter heard c.loop.invariant.sent c.loop.invariant.tries c.is_answered.ensures.gives);
      nothing = λ some. nothing;
    }

pub returns-then-is_answered-clause-asked : goal.returns-then-is_answered-clause-asked
returns-then-is_answered-clause-asked g c = record {
  made = c.loop.counter + 1;
  some = omega arith;
  few = omega (arith, c.loop-test.true);
  tries = tried_once _ _ _ c.args.link.now c.loop.link c.is_answered.new.link c.loop.counter c.is_answered.new.room.heard.items c.loop.invariant.sent c.loop.invariant.tries c.is_answered.ensures.gives;
}

pub returns-clause-asked : goal.returns-clause-asked
returns-clause-asked g c =
    let some : 1 ≤ c.loop.counter = omega (arith, c.loop-test.false, c.requires.some, c.requires.few) in
    record {
      made = c.loop.counter;
      some = some;
      few = omega (arith, c.loop-test.false, c.loop.auto.counter-end);
      tries = subst (λ found. Tries g.L.Link.gives (ask c.args.kind c.args.addr c.args.request) (reply_to c.args.kind c.args.addr c.args.request c.args.form) c.args.link.now c.loop.counter found c.loop.link)
          (sym (c.loop.invariant.nothing some)) c.loop.invariant.tries;
    }

pub returns-then-is_answered-clause-inquires : goal.returns-then-is_answered-clause-inquires
returns-then-is_answered-clause-inquires g c = λ first before.
    asks_one c.args.tries c.args.kind c.args.addr c.args.request c.args.form _ _ _ before c.requires.known c.requires.few (returns-then-is_answered-clause-asked g c)

pub returns-clause-inquires : goal.returns-clause-inquires
returns-clause-inquires g c = λ first before.
    asks_one c.args.tries c.args.kind c.args.addr c.args.request c.args.form _ _ _ before c.requires.known c.requires.few (returns-clause-asked g c)
