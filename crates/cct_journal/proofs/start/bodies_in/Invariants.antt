-- The bodies of the slots so far.
use Rattle.std.proofs.Common.{◌≡◌}
use Rattle.arrayvec.specs.ArrayVec.{array_vec_len}
use Rattle.cct_journal.specs.StartReading.{bodies_in}
use Rattle.cct_journal.proofs.start.bodies_in.Given as goal

abbrev pub invariant-loop-slot : goal.invariant-loop-slot
invariant-loop-slot l = record {
  items : l.bodies.items ≡ bodies_in l.slot l.bytes;
  len : array_vec_len l.bodies ≡ l.slot;
}
