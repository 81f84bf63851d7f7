use Rattle.std.proofs.Common.{◌∙◌, ap, sym}
use Rattle.cct_host.specs.Host.{setup_of}
use Rattle.cct_host.specs.Standing.{command_at}
use Rattle.cct_live_service.specs.Known.{task_of}
use Rattle.cct_live_service.specs.Opening.{is_running}
use Rattle.cct_live_service.proofs.visit.task_at.Goals as goal

pub returns : goal.returns
returns g c past keeps =
    sym (c.task_of.ensures ∙ ap (λ job. task_of job c.runs.result) (c.command_at.ensures past keeps)
    ∙ ap (λ runs. task_of (command_at (setup_of c.args.host.now) past c.args.addr) runs)
    (c.runs.ensures ∙ ap is_running (c.epoch_at.ensures.stands past keeps)))
