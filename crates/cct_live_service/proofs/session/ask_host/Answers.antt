use Rattle.std.proofs.Common.{subst}
use Rattle.cct_host.specs.Host.{Answers}
use Rattle.cct_live_service.specs.Told.{pay_of}
use Rattle.cct_live_service.proofs.Parts.{command_goes}
use Rattle.cct_live_service.proofs.session.ask_host.Goals as goal

pub returns-clause-lives : goal.returns-clause-lives
returns-clause-lives g c =
    command_goes c.args.host.now c.command.new.self (pay_of c.args.payment) c.command.result c.requires.payable
    c.command.ensures.setup c.command.ensures.journal
    (subst (λ k. Answers c.args.host.now c.command.new.self k c.command.result) c.command_of.ensures c.command.ensures.answers)
