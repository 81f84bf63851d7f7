use Rattle.std.proofs.Common.{◌++◌, arith, ap, sym, ◌∙◌}
use Rattle.std.proofs.lemmas.List.{take_all}
use Rattle.cct_check.specs.Check.{crc}
use Rattle.cct_frame.proofs.Words.{same_crc}
use Rattle.cct_frame.proofs.check.crc_of.Goals as goal

pub returns : goal.returns
returns c =
    let rest = c.args.rest.now in
    c.loop-byte.invariant
    ∙ ap (λ read. crc (c.args.front.now ++ read)) (take_all c.loop-byte.byte-index rest (omega arith))
    ∙ sym (same_crc (c.args.front.now ++ rest))
