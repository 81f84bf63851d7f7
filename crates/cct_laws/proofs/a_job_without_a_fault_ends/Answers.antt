use Rattle.cct_laws.proofs.jobs.Ending.{job_ends}
use Rattle.cct_laws.proofs.jobs.ReadingsMadeAgain.{job_moves}
use Rattle.cct_laws.proofs.a_job_without_a_fault_ends.Goals as goal

pub returns : goal.returns
returns c = record {
  ends = λ capacity setup before past d command steps end given.
      job_ends capacity setup before past d command steps end given.sound given.own given.in_range given.suited;
  moved = λ capacity setup before past d command steps end given accepting.
      job_moves capacity setup before past d command steps end given.sound given.own accepting given.in_range
      given.suited;
}
