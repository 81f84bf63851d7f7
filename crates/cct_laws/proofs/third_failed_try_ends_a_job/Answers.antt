use Rattle.cct_laws.proofs.jobs.Tries.{legal_tries, legal_few_tries}
use Rattle.cct_laws.proofs.third_failed_try_ends_a_job.Goals as goal

pub returns : goal.returns
returns c = record { exact = legal_tries; goes_on = legal_few_tries }
