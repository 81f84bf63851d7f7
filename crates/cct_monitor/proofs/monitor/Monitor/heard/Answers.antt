use Rattle.std.proofs.Common.{map, ap, ◌∙◌}
use Rattle.std.specs.Prelude.{slice_get}
use Rattle.cct_monitor.specs.Machine.{heard_as}
use Rattle.cct_monitor.proofs.Monitors.{heard_told}
use Rattle.cct_monitor.proofs.monitor.Monitor.heard.Goals as goal

pub returns : goal.returns
returns c = λ past stands.
    heard_told past c.args.self.now c.args.place c.heard_at.result stands
    (c.heard_at.ensures ∙ ap (λ ws. slice_get (map heard_as ws) c.args.place) c.as_slice.ensures.value)
