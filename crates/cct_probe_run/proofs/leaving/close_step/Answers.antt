use Rattle.cct_probe_run.specs.Plays.{not_begun}
use Rattle.cct_probe_run.proofs.leaving.close_step.Goals as goal

pub returns-in-Waits-clause-sends : goal.returns-in-Waits-clause-sends
returns-in-Waits-clause-sends g c = rw c.in-Waits.is (λ none. not_begun)

pub returns-in-Person-clause-sends : goal.returns-in-Person-clause-sends
returns-in-Person-clause-sends g c = rw c.in-Person.is (λ none. not_begun)

pub returns-in-Settles-clause-sends : goal.returns-in-Settles-clause-sends
returns-in-Settles-clause-sends g c = rw c.in-Settles.is (λ none. not_begun)
