use Rattle.std.proofs.Common.{subst, sym}
use Rattle.cct_host.specs.Restarting.{RestartFails}
use Rattle.cct_host.proofs.host.Host.crash.Goals as goal

pub returns-in-Err-clause-fails : goal.returns-in-Err-clause-fails
returns-in-Err-clause-fails g c =
    subst (λ left. RestartFails c.args.self c.args.at c.args.choice left c.in-Err.why) (sym c.into_disk.ensures)
    c.in-Err.ensures.fails
