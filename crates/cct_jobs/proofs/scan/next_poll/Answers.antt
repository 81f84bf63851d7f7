use Rattle.std.proofs.Common.{◌≡◌, find, Some}
use Rattle.cct_model.specs.DeviceSet.{all_addresses, has}
use Rattle.cct_jobs.proofs.Scans.{polls_next}
use Rattle.cct_jobs.proofs.scan.next_poll.Goals as goal

pub returns-in-Some-clause-scan : goal.returns-in-Some-clause-scan
returns-in-Some-clause-scan c = λ since lists after.
    let first : find (has c.args.due) all_addresses ≡ Some c.in-Some.addr = cc in
    polls_next c.args.due c.args.listed since c.in-Some.addr lists after first
