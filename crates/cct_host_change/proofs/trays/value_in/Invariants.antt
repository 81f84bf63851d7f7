use Rattle.std.proofs.Common.{◌≡◌, drop}
use Rattle.cct_model.specs.Change.{value_in}
use Rattle.cct_host_change.proofs.trays.value_in.Given as goal

abbrev pub invariant-loop-tray : goal.invariant-loop-tray
invariant-loop-tray l = value_in (drop l.tray-index l.trays) l.addr ≡ value_in l.trays l.addr
