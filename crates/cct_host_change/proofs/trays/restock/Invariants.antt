use Rattle.std.proofs.Common.{◌≡◌, ◌++◌, drop, length, take}
use Rattle.cct_model.specs.Change.{restocked}
use Rattle.cct_host_change.specs.Trays.{becomes}
use Rattle.cct_host_change.proofs.trays.restock.Given as goal

abbrev pub invariant-loop-i : goal.invariant-loop-i
invariant-loop-i l =
    (take l.i l.trays ++ restocked l.addr (becomes l.stock) (drop l.i l.trays) ≡ restocked l.addr (becomes l.stock) l.fn.trays)
    × (length l.trays ≡ length l.fn.trays)
