use Rattle.std.proofs.Common.{◌≡◌, ◌++◌, take, decimal, ap, ◌∙◌, arith}
use Rattle.cct_text.proofs.Numbers.{decimal_is}
use Rattle.cct_text.proofs.WrittenDigits.{written_at}
use Rattle.cct_text.proofs.text.TextLine.push_more_digits.Goals as goal

pub returns : goal.returns
returns c =
    let s = c.self.inside in
    let digits = decimal c.args.number in
    let wrote = c.write_digits.ensures in
    let start = c.write_digits.result in
    let at : start ≡ s.len = omega (arith, wrote.start, c.digit_count.ensures) in
    written_at s.bytes _ digits start _ (omega arith) wrote.start wrote.before wrote.written
    ∙ ap (λ place. take place s.bytes ++ digits) at
    ∙ ap (λ front. front ++ digits) c.self.view_is
    ∙ ap (λ text. c.args.self.now ++ text) (decimal_is c.args.number (omega (arith, c.ranges.number)))
