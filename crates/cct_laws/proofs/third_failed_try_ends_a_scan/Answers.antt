use Rattle.cct_laws.proofs.jobs.Scans.{legal_scans, legal_few_polls}
use Rattle.cct_laws.proofs.third_failed_try_ends_a_scan.Goals as goal

pub returns : goal.returns
returns c = record { exact = legal_scans; goes_on = legal_few_polls }
