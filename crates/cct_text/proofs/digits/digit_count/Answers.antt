use Rattle.std.proofs.Common.{arith}
use Rattle.std.proofs.lemmas.Fmt.{length-decimal-le}
use Rattle.cct_text.proofs.WrittenDigits.{four_more_digits}
use Rattle.cct_text.proofs.digits.digit_count.Goals as goal

pub overflow_add-count : goal.overflow_add-count
overflow_add-count c =
    omega (arith, c.loop-front.invariant, length-decimal-le 20 c.args.number (omega arith) (omega arith) (omega arith))

pub loop-front-preserved : goal.loop-front-preserved
loop-front-preserved c =
    omega (arith, c.loop-front.invariant, four_more_digits c.loop-front.front c.loop-front-test.true c.loop-front.auto.front-fits.fits)

pub overflow_add-result : goal.overflow_add-result
overflow_add-result c =
    omega (arith, c.loop-front.invariant, c.short_digit_count.ensures, length-decimal-le 20 c.args.number (omega arith) (omega arith) (omega arith))
