use Rattle.std.proofs.Common.{◌≡◌, ◌++◌, ◌∷◌, length, Some, None, take, ap, sym, ◌∙◌, arith}
use Rattle.std.specs.List.{position}
use Rattle.std.proofs.lemmas.List.{length-drop, nil_from_length}
use Rattle.cct_model_lines.specs.Script.{is_line_feed}
use Rattle.cct_script.proofs.Giving.{line_parts}
use Rattle.cct_script.proofs.Passing.{front_alone, one_line}
use Rattle.cct_script.proofs.buffer.LineBuffer.drop_line.Goals as goal

pub returns-in-Some : goal.returns-in-Some
returns-in-Some c =
    let old = c.args.self.now in
    let at = c.in-Some.at in
    let found : position is_line_feed old ≡ Some at =
    ap (position is_line_feed) (sym c.held.ensures.value) ∙ sym c.line_feed_in.ensures ∙ c.in-Some.is in (
      take at old,
      front_alone old at found,
      line_parts old at found ∙ ap (λ ys. take at old ++ 10 ∷ ys) (sym c.advance.ensures),
    )

pub returns-in-None : goal.returns-in-None
returns-in-None c =
    let old = c.args.self.now in
    let none : position is_line_feed old ≡ None =
    ap (position is_line_feed) (sym c.held.ensures.value) ∙ sym c.line_feed_in.ensures ∙ c.in-None.is in (
      one_line old none,
      nil_from_length _ (omega (arith, ap length c.advance-in-None.ensures, ap length c.held-len.ensures.value, length-drop (length c.held-len.result.now) old)),
    )
