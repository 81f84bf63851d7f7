use Rattle.std.proofs.Common.{◌≡◌, ℕ, ◌≤◌, List, Some, subst, position, sym, ◌∙◌, arith}
use Rattle.std.proofs.lemmas.List.{length-take-le}
use Rattle.cct_model_lines.specs.declared.entry.TheConstants.{MOST_LINE}
use Rattle.cct_model_lines.specs.Script.{is_line_feed, most_lines}
use Rattle.cct_script.specs.Giving.{standing_of}
use Rattle.cct_script.specs.Taking.{TakesOn}
use Rattle.cct_script.proofs.Giving.{line_alone, line_parts, line_within, not_empty}
use Rattle.cct_script.proofs.lines.Lines.find.Goals as goal

pub overflow_add-self : goal.overflow_add-self
overflow_add-self g c =
    let short : c.in-Ok-Line.len ≤ MOST_LINE = rw c.in-Ok-Line.field-0-is at c.in-Ok-Line.ensures.short in
    omega arith

pub returns-in-Ok-Line-clause-gives : goal.returns-in-Ok-Line-clause-gives
unfolding most_lines
returns-in-Ok-Line-clause-gives g c =
    let len = c.in-Ok-Line.len in
    let held = c.seek.new.self in
    let short : len ≤ MOST_LINE = rw c.in-Ok-Line.field-0-is at c.in-Ok-Line.ensures.short in
    let found : position is_line_feed held ≡ Some len = rw c.in-Ok-Line.field-0-is at c.in-Ok-Line.ensures.finds in
    let inside = line_within held len found in
    let fills = rw c.give_up.ensures.held at c.seek.ensures.fills in (
      omega (arith, c.give_up.ensures.given, c.if-self-ge-MOST_LINES.false),
      omega (arith, c.give_up.ensures.given),
      omega (arith, length-take-le len held (omega arith)),
      line_alone held len found,
      (fills.0, sym (line_parts held len found) ∙ fills.1, fills.2),
    )

pub returns-in-Ok-Long-clause-gives : goal.returns-in-Ok-Long-clause-gives
unfolding most_lines
returns-in-Ok-Long-clause-gives g c =
    let finds = rw c.in-Ok-Long.field-0-is at c.in-Ok-Long.ensures.finds in
    let fills = rw c.give_up.ensures.held at c.seek.ensures.fills in
    rw c.give_up.ensures.spent (
      (c.give_up.ensures.given, fills),
      omega (arith, c.give_up.ensures.given, c.if-self-ge-MOST_LINES.false),
      finds.0,
      finds.1,
    )

pub returns-else-is_empty-clause-gives : goal.returns-else-is_empty-clause-gives
unfolding most_lines
returns-else-is_empty-clause-gives g c =
    let finds = rw c.in-Ok-Ended.field-0-is at c.in-Ok-Ended.ensures.finds in
    let fills = rw c.give_up.ensures.held at c.seek.ensures.fills in
    let some = not_empty _ _ _ c.if-is_empty.false c.is_empty.ensures c.held.ensures.value in
    rw c.give_up.ensures.spent (
      (c.give_up.ensures.given, fills),
      omega (arith, c.give_up.ensures.given, c.if-self-ge-MOST_LINES.false),
      finds.0,
      some,
      finds.1,
      finds.2,
    )

pub returns-in-Err-clause-gives : goal.returns-in-Err-clause-gives
unfolding most_lines
returns-in-Err-clause-gives g c =
    let fills = rw c.give_up.ensures.held at c.seek.ensures.fills in
    rw c.give_up.ensures.spent (
      (c.give_up.ensures.given, fills),
      c.in-Err.ensures.partial,
      λ many. absurd (omega (arith, c.give_up.ensures.given, c.if-self-ge-MOST_LINES.false, many)),
    )

pub returns-in-Ok-Line-clause-takes : goal.returns-in-Ok-Line-clause-takes
returns-in-Ok-Line-clause-takes g c =
    let len = c.in-Ok-Line.len in
    let held = c.seek.new.self in
    let before = (standing_of c.args.self.now).held in
    let found : position is_line_feed held ≡ Some len = rw c.in-Ok-Line.field-0-is at c.in-Ok-Line.ensures.finds in
    let Taken : List ℕ → Type 0 =
    λ bytes. TakesOn g.S.Source.takes g.S.Source.left before c.args.source.now bytes c.seek.new.source in
    subst Taken (line_parts held len found) (rw c.give_up.ensures.held at c.in-Ok-Line.ensures.takes)

pub returns-in-Ok-Long-clause-takes : goal.returns-in-Ok-Long-clause-takes
returns-in-Ok-Long-clause-takes g c =
    rw c.give_up.ensures.spent (rw c.give_up.ensures.held at c.in-Ok-Long.ensures.takes)

pub returns-then-is_empty-clause-takes : goal.returns-then-is_empty-clause-takes
returns-then-is_empty-clause-takes g c =
    rw c.give_up.ensures.spent (rw c.give_up.ensures.held at c.in-Ok-Ended.ensures.takes)

pub returns-else-is_empty-clause-takes : goal.returns-else-is_empty-clause-takes
returns-else-is_empty-clause-takes g c =
    rw c.give_up.ensures.spent (rw c.give_up.ensures.held at c.in-Ok-Ended.ensures.takes)

pub returns-in-Err-clause-takes : goal.returns-in-Err-clause-takes
returns-in-Err-clause-takes g c =
    rw c.give_up.ensures.spent (rw c.give_up.ensures.held at c.in-Err.ensures.takes)
