use Rattle.std.proofs.Common.{◌≡◌, ◌+◌, ◌*◌, ◌≤◌, ◌++◌, length, map, take}
use Rattle.cct_model_lines.specs.Text.{coin_text}
use Rattle.cct_text.specs.Joined.{each_after}
use Rattle.cct_text.proofs.records.write_coins.Given as goal

abbrev pub invariant-loop-coin : goal.invariant-loop-coin
invariant-loop-coin l = (l.line ≡ l.initial.line ++ each_after 44 (map coin_text (take l.coin-index l.others))) × (length l.line ≤ length l.initial.line + 8 * l.coin-index)
