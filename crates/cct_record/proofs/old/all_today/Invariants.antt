-- The bodies so far as today's.
use Rattle.std.proofs.Common.{◌≡◌, length, map, take}
use Rattle.std.specs.Prelude.{All}
use Rattle.cct_record.specs.Today.{HasRoom, today}
use Rattle.cct_record.proofs.old.all_today.Given as goal

abbrev pub invariant-loop-body : goal.invariant-loop-body
invariant-loop-body l = record {
  items : l.all.items ≡ map today (take l.body-index l.bodies);
  count : length l.all.items ≡ l.body-index;
  room : All HasRoom (take l.body-index l.bodies);
}
