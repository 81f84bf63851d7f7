use Rattle.std.proofs.Common.{flat_map, ap, ◌∙◌}
use Rattle.cct_monitor.specs.Machine.{ends_on}
use Rattle.cct_monitor.proofs.Monitors.{finish_told}
use Rattle.cct_monitor.proofs.monitor.Monitor.finish.Goals as goal

pub returns-clause-says : goal.returns-clause-says
returns-clause-says c = λ past stands.
    finish_told past c.args.self.now c.finish_devices.new.report.items stands
    (c.finish_devices.ensures ∙ ap (flat_map ends_on) c.as_slice.ensures.value)
