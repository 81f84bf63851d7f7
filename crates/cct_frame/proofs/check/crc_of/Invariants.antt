use Rattle.std.proofs.Common.{◌≡◌, ◌++◌, take}
use Rattle.cct_check.specs.Check.{crc}
use Rattle.cct_frame.proofs.check.crc_of.Given as goal

abbrev pub invariant-loop-byte : goal.invariant-loop-byte
invariant-loop-byte l = l.crc ≡ crc (l.front ++ take l.byte-index l.rest)
