use Rattle.std.proofs.Common.{◌∙◌, arith}
use Rattle.cct_host_change.proofs.Plans.{first_past}
use Rattle.cct_host_change.proofs.paying.first_payment.Goals as goal

pub loop-i-preserved : goal.loop-i-preserved
loop-i-preserved c =
    first_past c.args.trays.now c.args.counts.now c.loop-i.i (omega arith) c.requires.all (omega arith) ∙ c.loop-i.invariant
