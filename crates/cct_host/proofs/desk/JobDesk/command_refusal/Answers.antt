use Rattle.std.proofs.Common.{◌∙◌}
use Rattle.cct_host.proofs.Commands.{refusal_is}
use Rattle.cct_host.proofs.desk.JobDesk.command_refusal.Goals as goal

pub returns : goal.returns
returns c setup there past is_last sits =
    let desk = c.args.self.now in
    c.refusal.ensures
    ∙ refusal_is setup c.args.device.now desk.job desk.epoch desk.orders c.args.last past c.args.command.now is_last
    desk.runs c.requires.of_device there sits
