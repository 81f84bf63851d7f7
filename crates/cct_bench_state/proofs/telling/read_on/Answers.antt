use Rattle.cct_bench_state.proofs.telling.read_on.Goals as goal

pub returns-in-Err-BadRecord-clause-one : goal.returns-in-Err-BadRecord-clause-one
returns-in-Err-BadRecord-clause-one g c records held =
    let is = c.in-Err-BadRecord.ensures.refused.never records held in absurd cc
