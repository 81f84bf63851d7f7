use Rattle.std.proofs.Common.{ap, arith}
use Rattle.cct_model.specs.Carry.{owed_by}
use Rattle.cct_bench_state.proofs.money.totals_by.Goals as goal

pub owed-requires : goal.owed-requires
owed-requires c =
    let same = ap (owed_by c.args.setup.now) c.as_slice.ensures.value in
    let covered = c.requires in
    omega arith
