-- So much is shown.
use Rattle.std.proofs.Common.{◌≡◌, ◌+◌, ◌++◌, length, map, take}
use Rattle.cct_live_survey.specs.Finding.{shown}
use Rattle.cct_live_survey.proofs.finding.push_shown.Given as goal

abbrev pub invariant-loop-byte : goal.invariant-loop-byte
invariant-loop-byte l =
    (l.line ≡ l.fn.line ++ map shown (take l.byte-index l.text)) × (length l.line ≡ length l.fn.line + l.byte-index)
