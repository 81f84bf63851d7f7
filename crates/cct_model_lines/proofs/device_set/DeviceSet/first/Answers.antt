use Rattle.std.proofs.Common.{◌≡◌, ◌*◌, ℕ, sym, subst, ◌∙◌, arith, None}
use Rattle.std.specs.Prelude.{find}
use Rattle.cct_model_lines.specs.DeviceSet.{has, all_addresses, addresses_below}
use Rattle.cct_model_lines.proofs.Ordered.{head_is}
use Rattle.cct_model_lines.proofs.Words.{least_here, none_here}
use Rattle.cct_model_lines.proofs.device_set.DeviceSet.first.Goals as goal

pub returns-then-word-ne0-clause-least : goal.returns-then-word-ne0-clause-least
unfolding all_addresses
returns-then-word-ne0-clause-least c =
    let words = c.self.inside.words in
    sym (least_here words c.args.self.now c.loop-index.index c.self.view_is c.self.invariant (omega (arith, c.self.invariant.four)) c.if-word-ne0.true c.loop-index.invariant)

pub returns-then-word-ne0-clause-head : goal.returns-then-word-ne0-clause-head
returns-then-word-ne0-clause-head c = returns-then-word-ne0-clause-least c ∙ head_is c.args.self.now

pub loop-index-preserved : goal.loop-index-preserved
loop-index-preserved c = none_here c.self.inside.words c.args.self.now c.loop-index.index c.self.view_is c.if-word-ne0.false c.loop-index.invariant

pub returns-clause-least : goal.returns-clause-least
unfolding all_addresses
returns-clause-least c =
    let all : c.loop-index.index * 64 ≡ 256 = omega (arith, c.self.invariant.four) in
    let P : ℕ → Type 0 = λ n. find (has c.args.self.now) (addresses_below n) ≡ None in
    sym (subst P all c.loop-index.invariant)

pub returns-clause-head : goal.returns-clause-head
returns-clause-head c = returns-clause-least c ∙ head_is c.args.self.now
