use Rattle.cct_laws_live.proofs.LifeTries.{life_few_polls, life_few_tries, life_scans, life_tries}
use Rattle.cct_laws_live.proofs.Tries.{live_few_polls, live_few_tries, live_scans, live_tries}
use Rattle.cct_laws_live.proofs.the_third_failed_try_ends_a_job_in_any_life.Goals as goal

pub returns : goal.returns
returns c = record {
  jobs = live_tries;
  goes_on = live_few_tries;
  scans = live_scans;
  scan_goes_on = live_few_polls;
  life_jobs = life_tries;
  life_goes_on = life_few_tries;
  life_scans = life_scans;
  life_scan_goes_on = life_few_polls;
}
