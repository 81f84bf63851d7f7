use Rattle.std.proofs.Common.{◌≡◌, ◌+◌, drop}
use Rattle.cct_model.specs.Carry.{owed_by}
use Rattle.cct_bench_state.proofs.money.owed.Given as goal

abbrev pub invariant-loop-order : goal.invariant-loop-order
invariant-loop-order l = l.owed + owed_by l.setup (drop l.order-index l.orders) ≡ owed_by l.setup l.orders
