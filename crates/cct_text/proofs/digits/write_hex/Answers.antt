use Rattle.std.proofs.Common.{ℕ, arith, slice_index}
use Rattle.hex.specs.Hex.{lower_digits}
use Rattle.hex.proofs.Pairs.{encode_step, encode_done}
use Rattle.cct_text.proofs.WrittenDigits.{pair_at}
use Rattle.cct_text.proofs.digits.write_hex.Goals as goal

pub loop-at-preserved : goal.loop-at-preserved
loop-at-preserved c =
    let bytes = c.args.bytes.now in
    let byte : ℕ = slice_index bytes c.loop-at.at in
    let pair = pair_at byte (omega arith) in
    encode_step lower_digits bytes c.loop-at.room c.loop-at.at _ _ (omega arith) (omega arith) pair.0 pair.1
    c.loop-at.invariant

pub returns : goal.returns
returns c = encode_done lower_digits _ _ c.loop-at.at (omega arith) (omega arith) c.loop-at.invariant
