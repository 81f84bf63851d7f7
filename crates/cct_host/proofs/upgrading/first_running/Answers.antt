use Rattle.cct_host.proofs.Epochs.{first_least}
use Rattle.cct_host.proofs.upgrading.first_running.Goals as goal

pub returns-in-len1-up-clause-runs : goal.returns-in-len1-up-clause-runs
returns-in-len1-up-clause-runs c =
    first_least c.args.carry.now c.as_slice.result.now _ c.as_slice.ensures.value c.in-len1-up.len_at_least
    c.requires.rightly.1.epochs_rise
