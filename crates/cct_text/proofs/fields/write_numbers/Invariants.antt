use Rattle.std.proofs.Common.{◌≡◌, ◌+◌, ◌*◌, ◌≤◌, ◌++◌, length, map, take}
use Rattle.cct_model_lines.specs.Text.{number_text}
use Rattle.cct_text.specs.Joined.{each_after}
use Rattle.cct_text.proofs.fields.write_numbers.Given as goal

abbrev pub invariant-loop-number : goal.invariant-loop-number
invariant-loop-number l =
    (l.line ≡ l.initial.line ++ each_after 32 (map number_text (take l.number-index l.numbers)))
    × (length l.line ≤ length l.initial.line + 21 * l.number-index)
