use Rattle.std.proofs.Common.{◌∙◌, ap, arith, length}
use Rattle.cct_host_change.proofs.Plans.{one_each, planned}
use Rattle.cct_host_change.proofs.paying.planned_payment.Goals as goal

pub first_payment-requires : goal.first_payment-requires
first_payment-requires c = record {
  all = ap length c.as_slice.ensures.value ∙ one_each _ _ c.if-plan.ensures.chosen.fewest.plan.within;
}

pub returns-then-plan : goal.returns-then-plan
returns-then-plan c =
    planned c.first_payment.result c.args.trays.now c.as_slice.result.now c.args.session.now c.args.id
    c.first_payment.ensures.first c.first_payment.ensures.named c.requires.next (omega (arith, c.ranges.id.fits))
    c.requires.rest (rw c.as_slice.ensures.value c.if-plan.ensures.chosen)
