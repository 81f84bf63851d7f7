use Rattle.cct_jobs.proofs.Tries.{mask_unsure}
use Rattle.cct_jobs.proofs.laws.no_answer_comes_at_the_third_failed_try.Goals as goal

pub returns-clause-once : goal.returns-clause-once
returns-clause-once c = λ d command mask since state owed at. mask_unsure d command mask since state owed at
