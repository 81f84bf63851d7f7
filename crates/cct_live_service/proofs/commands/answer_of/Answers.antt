use Rattle.std.proofs.Common.{Ok, Err}
use Rattle.cct_live_service.proofs.Desks.{apart_no, apart_taken}
use Rattle.cct_live_service.proofs.Linking.{refused_decides, taken_decides}
use Rattle.cct_live_service.proofs.Parts.{command_goes}
use Rattle.cct_live_service.proofs.commands.answer_of.Goals as goal

pub returns-in-Ok-clause-lives : goal.returns-in-Ok-clause-lives
returns-in-Ok-clause-lives g c =
    command_goes c.args.host.now c.command.new.self c.args.command.now (Ok tt) c.requires.told c.in-Ok.ensures.setup
    c.in-Ok.ensures.journal c.in-Ok.ensures.answers

pub returns-in-Err-clause-lives : goal.returns-in-Err-clause-lives
returns-in-Err-clause-lives g c =
    command_goes c.args.host.now c.command.new.self c.args.command.now (Err c.in-Err.why) c.requires.told
    c.in-Err.ensures.setup c.in-Err.ensures.journal c.in-Err.ensures.answers

pub returns-in-Ok-clause-quiet : goal.returns-in-Ok-clause-quiet
returns-in-Ok-clause-quiet g c = (taken_decides c.args.command.now, apart_taken c.args.command.now)

pub returns-in-Err-clause-quiet : goal.returns-in-Err-clause-quiet
returns-in-Err-clause-quiet g c = (refused_decides c.args.command.now c.in-Err.why, apart_no c.args.command.now c.in-Err.why)
