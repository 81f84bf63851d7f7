use Rattle.std.proofs.Common.{◌≡◌, take}
use Rattle.cct_check.specs.Check.{crc}
use Rattle.cct_check.proofs.crc.crc16.Given as goal

abbrev pub invariant-loop-byte : goal.invariant-loop-byte
invariant-loop-byte l = l.crc ≡ crc (take l.byte-index l.bytes)
