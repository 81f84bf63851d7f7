-- The bodies so far stand after those that were there.
use Rattle.std.proofs.Common.{◌≡◌, ◌+◌, ◌++◌, map, take}
use Rattle.arrayvec.specs.ArrayVec.{array_vec_len}
use Rattle.cct_record.specs.CarryBody.{epoch_body}
use Rattle.cct_record.proofs.carry.add_epochs.Given as goal

abbrev pub invariant-loop-epoch : goal.invariant-loop-epoch
invariant-loop-epoch l = record {
  items : l.bodies.items ≡ l.fn.bodies.items ++ map epoch_body (take l.epoch-index l.epochs);
  len : array_vec_len l.bodies ≡ array_vec_len l.fn.bodies + l.epoch-index;
}
