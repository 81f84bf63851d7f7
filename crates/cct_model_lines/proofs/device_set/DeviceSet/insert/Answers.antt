use Rattle.std.proofs.Common.{◌==◌, ◌||◌, ap, sym, ◌∙◌, arith}
use Rattle.std.proofs.lemmas.Nat.{or_lt}
use Rattle.cct_model_lines.proofs.Ordered.{placed_is}
use Rattle.cct_model_lines.proofs.Words.{has_is, set_is, still_told, still_words, told_by}
use Rattle.cct_model_lines.proofs.device_set.DeviceSet.insert.Goals as goal

pub invariant_of-self : goal.invariant_of-self
invariant_of-self c = still_words c.self.inside.words _ _ c.self.invariant (or_lt 64 _ _ (c.self.invariant.fit _) (omega arith))

pub returns-clause-one_more : goal.returns-clause-one_more
returns-clause-one_more c = λ other.
    let words = c.self.inside.words in
    has_is _ other ∙ set_is words c.args.addr other c.self.invariant.four (omega arith)
    ∙ ap (λ b. (other == c.args.addr) || b) (sym (told_by words c.args.self.now other c.self.view_is))

pub returns-clause-whole : goal.returns-clause-whole
returns-clause-whole c = still_told c.self.inside.words _ _ c.self.invariant

pub returns-clause-placed : goal.returns-clause-placed
returns-clause-placed c = placed_is c.args.self.now _ c.args.addr (omega arith) (returns-clause-one_more c)
