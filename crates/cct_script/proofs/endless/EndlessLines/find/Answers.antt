use Rattle.std.proofs.Common.{◌≡◌, ◌≤◌, Some, sym, ◌∙◌, arith}
use Rattle.std.specs.List.{position}
use Rattle.std.proofs.lemmas.List.{length-take-le}
use Rattle.cct_model_lines.specs.declared.entry.TheConstants.{MOST_LINE}
use Rattle.cct_model_lines.specs.Script.{is_line_feed}
use Rattle.cct_script.proofs.Giving.{line_parts, line_within}
use Rattle.cct_script.proofs.Passing.{front_alone, gives_end, gives_on, one_line}
use Rattle.cct_script.proofs.endless.EndlessLines.find.Goals as goal

pub pass-requires-clause-alone : goal.pass-requires-clause-alone
pass-requires-clause-alone g c =
    one_line _ (rw c.in-Ok-Long.field-0-is at c.in-Ok-Long.ensures.finds).0

pub returns-in-Ok-Line-clause-gives : goal.returns-in-Ok-Line-clause-gives
returns-in-Ok-Line-clause-gives g c =
    let len = c.in-Ok-Line.len in
    let held = c.seek.new.self in
    let short : len ≤ MOST_LINE = rw c.in-Ok-Line.field-0-is at c.in-Ok-Line.ensures.short in
    let found : position is_line_feed held ≡ Some len = rw c.in-Ok-Line.field-0-is at c.in-Ok-Line.ensures.finds in
    let inside = line_within held len found in
    let fills = rw c.advance.ensures at c.seek.ensures.fills in (
      omega (arith, length-take-le len held (omega arith), short),
      front_alone held len found,
      (fills.0, sym (line_parts held len found) ∙ fills.1, fills.2),
    )

pub returns-in-Ok-Long-clause-gives : goal.returns-in-Ok-Long-clause-gives
returns-in-Ok-Long-clause-gives g c =
    gives_on _ c.seek.new.self _ _ _ _ c.pass.result (rw c.advance.ensures at c.seek.ensures.fills) c.pass.ensures.long
    c.pass.ensures.gives

pub returns-in-Ok-Ended-clause-gives : goal.returns-in-Ok-Ended-clause-gives
returns-in-Ok-Ended-clause-gives g c =
    let finds = rw c.in-Ok-Ended.field-0-is at c.in-Ok-Ended.ensures.finds in
    gives_end _ c.seek.new.self _ _ _ c.end.result (rw c.advance.ensures at c.seek.ensures.fills) finds.0 finds.2
    c.end.ensures.all c.end.ensures.cut

pub returns-in-Err-clause-gives : goal.returns-in-Err-clause-gives
returns-in-Err-clause-gives g c =
    (c.seek.new.self, one_line _ c.in-Err.ensures.partial, rw c.advance.ensures at c.seek.ensures.fills)
