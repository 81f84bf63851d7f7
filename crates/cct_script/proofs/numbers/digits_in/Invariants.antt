use Rattle.std.proofs.Common.{◌≡◌, ◌≤◌, drop}
use Rattle.cct_model_lines.specs.Grammar.{digits_from}
use Rattle.cct_script.proofs.numbers.digits_in.Given as goal

abbrev pub invariant-loop-byte : goal.invariant-loop-byte
invariant-loop-byte l = (digits_from l.number (drop l.byte-index l.digits) ≡ digits_from 0 l.digits)
    × (l.number ≤ l.most)
