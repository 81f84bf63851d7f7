-- Where a message wasn't sent: as the line was waited for, or as it was written.
use Rattle.cct_live_port.specs.Calls.{waiting}
use Rattle.cct_live_port.proofs.Following.{on_error, fails_by_write}
use Rattle.cct_live_port.proofs.calls.send.Goals as goal

pub returns-in_err-wait-clause-fails : goal.returns-in_err-wait-clause-fails
returns-in_err-wait-clause-fails g c =
    on_error _ _ _ c.from_residual.ensures.0 (waiting _ c.in_err-wait.ensures.unquiet)

pub returns-clause-fails : goal.returns-clause-fails
returns-clause-fails g c =
    fails_by_write g.L.Line.reads g.L.Line.writes _ _ _ _ _ _ c.write.result c.in_ok-wait.ensures.quiet c.write.ensures.one
