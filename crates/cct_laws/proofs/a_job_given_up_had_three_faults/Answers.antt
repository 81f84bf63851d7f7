use Rattle.cct_laws.proofs.jobs.GivenUp.{legal_ends, legal_scan_ends}
use Rattle.cct_laws.proofs.a_job_given_up_had_three_faults.Goals as goal

pub returns : goal.returns
returns c = record { jobs = legal_ends; scans = legal_scan_ends }
