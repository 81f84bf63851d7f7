use Rattle.std.proofs.Common.{◌+◌, ◌-◌, ◌*◌, ◌<◌, get_or, drop, sym, ap, ◌∙◌, arith}
use Rattle.std.specs.Prelude.{option_and_then}
use Rattle.std.proofs.lemmas.List.{at_drop_more}
use Rattle.cct_model_lines.specs.Grammar.{digits_from, within, is_digit}
use Rattle.cct_script.proofs.Decimals.{digits_above, and_then_chosen}
use Rattle.cct_script.proofs.numbers.digits_in.Goals as goal

pub returns-then-number-most : goal.returns-then-number-most
returns-then-number-most c =
    let digits = c.args.digits.now in
    let i = c.loop-byte.byte-index in
    let n = c.loop-byte.number in
    let byte = get_or digits i 0 in
    let more : c.args.most < 10 * n + (byte - 48) = omega arith in
    sym
    (
    ap (option_and_then (within 0 c.args.most))
    (sym c.loop-byte.invariant.0 ∙ at_drop_more (digits_from n) digits i 0 (omega arith))
    ∙ and_then_chosen (is_digit byte) (within 0 c.args.most) _
    (digits_above c.args.most (10 * n + (byte - 48)) (drop (i + 1) digits) more)
    )

pub returns-in_err-checked_mul : goal.returns-in_err-checked_mul
returns-in_err-checked_mul c =
    let digits = c.args.digits.now in
    let i = c.loop-byte.byte-index in
    let n = c.loop-byte.number in
    let byte = get_or digits i 0 in
    let more : c.args.most < 10 * n + (byte - 48) = omega (arith, c.in_err-checked_mul.ensures, c.ranges.most.fits) in
    c.from_residual.ensures
    ∙ sym
    (
    ap (option_and_then (within 0 c.args.most))
    (sym c.loop-byte.invariant.0 ∙ at_drop_more (digits_from n) digits i 0 (omega arith))
    ∙ and_then_chosen (is_digit byte) (within 0 c.args.most) _
    (digits_above c.args.most (10 * n + (byte - 48)) (drop (i + 1) digits) more)
    )

pub returns-in_err-number : goal.returns-in_err-number
returns-in_err-number c =
    let digits = c.args.digits.now in
    let i = c.loop-byte.byte-index in
    let n = c.loop-byte.number in
    let byte = get_or digits i 0 in
    let more : c.args.most < 10 * n + (byte - 48) =
    omega (arith, c.in_err-number.ensures, c.in_ok-checked_mul.ensures.1, c.from.ensures, c.ranges.most.fits) in
    c.from_residual-in_err-number.ensures
    ∙ sym
    (
    ap (option_and_then (within 0 c.args.most))
    (sym c.loop-byte.invariant.0 ∙ at_drop_more (digits_from n) digits i 0 (omega arith))
    ∙ and_then_chosen (is_digit byte) (within 0 c.args.most) _
    (digits_above c.args.most (10 * n + (byte - 48)) (drop (i + 1) digits) more)
    )
