use Rattle.std.proofs.Common.{◌≡◌, take}
use Rattle.cct_plan.proofs.table.keep.Given as goal

abbrev pub invariant-loop-tray : goal.invariant-loop-tray
invariant-loop-tray l = l.kept.items ≡ take l.tray-index l.trays
