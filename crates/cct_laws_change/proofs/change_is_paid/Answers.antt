use Rattle.cct_laws_change.proofs.Runs.{change_paid, moment_found, moment_still, moment_told, moment_within, told_odd, told_served, told_short}
use Rattle.cct_laws_change.proofs.change_is_paid.Goals as goal

pub returns : goal.returns
returns c = record {
  within = moment_within;
  stays = moment_still;
  told = moment_told;
  served = told_served;
  short = told_short;
  never_odd = told_odd;
  whole = change_paid;
  moments = moment_found;
}
