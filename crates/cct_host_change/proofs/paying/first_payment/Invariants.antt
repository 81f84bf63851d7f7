use Rattle.std.proofs.Common.{◌≡◌, drop}
use Rattle.cct_model.specs.Change.{first_pay}
use Rattle.cct_host_change.proofs.paying.first_payment.Given as goal

abbrev pub invariant-loop-i : goal.invariant-loop-i
invariant-loop-i l = first_pay (drop l.i l.trays) (drop l.i l.counts) ≡ first_pay l.trays l.counts
