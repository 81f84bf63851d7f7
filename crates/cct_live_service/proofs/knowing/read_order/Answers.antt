use Rattle.std.proofs.Common.{◌∙◌, ◌≡◌, ◌≢◌, ℕ, Err, ap, arith, inl, inr, refl, subst}
use Rattle.cct_edge.specs.Faults.{Rose}
use Rattle.cct_live_order.specs.Looking.{Looks}
use Rattle.cct_live_service.proofs.knowing.read_order.Goals as goal

some_fault : (before now : ℕ) → before ≡ 0 → Rose before now → now ≢ 0
some_fault before now none rose some = omega (arith, none, rose, some)

pub count_miss-requires : goal.count_miss-requires
count_miss-requires g c = record {
  failed = λ disk. some_fault (g.D.Disk.faults c.args.disk) (g.D.Disk.faults c.order_on-told.result.1) c.requires.new
      (c.order_on-told.ensures.disk_cause.rose (c.in-Err.is ∙ ap (λ why. Err why) disk));
}

pub returns-in-Ok-clause-looks : goal.returns-in-Ok-clause-looks
returns-in-Ok-clause-looks g c image seen =
    inl (subst (Looks image c.args.id) c.in-Ok.is (c.order_on-told.ensures.looks image seen))

pub returns-in-Err-clause-looks : goal.returns-in-Err-clause-looks
returns-in-Err-clause-looks g c image seen = inr (
  refl,
  (
    c.in-Err.why,
    subst (Looks image c.args.id) c.in-Err.is (c.order_on-told.ensures.looks image seen),
    c.count_miss.ensures.missed.rose,
  ),
)
