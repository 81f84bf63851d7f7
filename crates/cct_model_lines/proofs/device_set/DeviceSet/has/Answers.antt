use Rattle.std.proofs.Common.{◌==◌, ◌/◌, ◌%◌, get_or, ap, sym, ◌∙◌, arith}
use Rattle.std.proofs.lemmas.Nat.Bits.{shr_and_one}
use Rattle.cct_model_lines.proofs.Ordered.{listed_is}
use Rattle.cct_model_lines.proofs.Words.{told_by}
use Rattle.cct_model_lines.proofs.device_set.DeviceSet.has.Goals as goal

pub returns-clause-member : goal.returns-clause-member
returns-clause-member c =
    let addr = c.args.addr in
    let words = c.self.inside.words in
    ap (λ bit. bit == 1) (shr_and_one (get_or words (addr / 64) 0) (addr % 64)) ∙ sym (told_by words c.args.self.now addr c.self.view_is)

pub returns-clause-listed : goal.returns-clause-listed
returns-clause-listed c = returns-clause-member c ∙ listed_is c.args.self.now c.args.addr (omega arith)
