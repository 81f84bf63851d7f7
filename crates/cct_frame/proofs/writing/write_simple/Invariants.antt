use Rattle.std.proofs.Common.{◌≡◌, ◌%◌, ◌∷◌, take, sum}
use Rattle.cct_frame.proofs.writing.write_simple.Given as goal

abbrev pub invariant-loop-byte : goal.invariant-loop-byte
invariant-loop-byte l = record {
  items : l.out.items ≡ l.to ∷ l.said ∷ l.from ∷ l.header ∷ take l.byte-index l.body;
  sum : l.sum ≡ sum l.out.items % 256;
}
