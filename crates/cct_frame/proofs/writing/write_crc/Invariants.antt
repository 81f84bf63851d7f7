use Rattle.std.proofs.Common.{◌≡◌, ◌∷◌, take}
use Rattle.cct_frame.proofs.writing.write_crc.Given as goal

abbrev pub invariant-loop-byte : goal.invariant-loop-byte
invariant-loop-byte l = l.out.items ≡ l.to ∷ l.said ∷ l.low ∷ l.header ∷ take l.byte-index l.body
