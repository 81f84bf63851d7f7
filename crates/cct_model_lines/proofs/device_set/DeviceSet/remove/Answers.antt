use Rattle.std.proofs.Common.{◌==◌, ◌&&◌, not, ap, sym, ◌∙◌, arith}
use Rattle.cct_model_lines.proofs.Ordered.{left_is}
use Rattle.cct_model_lines.proofs.Words.{cleared_is, has_is, still_told, told_by}
use Rattle.cct_model_lines.proofs.device_set.DeviceSet.remove.Goals as goal

pub returns-clause-one_less : goal.returns-clause-one_less
returns-clause-one_less c = λ other.
    let words = c.self.inside.words in
    has_is _ other ∙ cleared_is words c.args.addr other c.self.invariant.four (omega arith)
    ∙ ap (λ b. not (other == c.args.addr) && b) (sym (told_by words c.args.self.now other c.self.view_is))

pub returns-clause-whole : goal.returns-clause-whole
returns-clause-whole c = still_told c.self.inside.words _ _ c.self.invariant

pub returns-clause-left_out : goal.returns-clause-left_out
returns-clause-left_out c = left_is c.args.self.now _ c.args.addr (returns-clause-one_less c)
