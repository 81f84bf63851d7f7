use Rattle.std.proofs.lemmas.Result.{on_err_weaker, on_ok_weaker}
use Rattle.cct_host.proofs.Hosts.{next_goes, put_failed, put_failed_between}
use Rattle.cct_host.proofs.host.Host.attempt.Goals as goal

pub returns-clause-nexts : goal.returns-clause-nexts
returns-clause-nexts g c =
    on_ok_weaker c.advance.result
    (λ advances.
    next_goes g.L.Link.gives _ _ c.args.addr c.args.self.now _ _ _ c.advance.ensures.setup c.advance.ensures.goes_on
    advances)
    c.advance.ensures.advances

pub returns-clause-due : goal.returns-clause-due
returns-clause-due g c = on_err_weaker c.advance.result (λ fails. fails.due) c.advance.ensures.fails

pub returns-clause-fails : goal.returns-clause-fails
returns-clause-fails g c =
    on_err_weaker c.advance.result (λ fails. put_failed c.args.self.now _ c.args.addr fails) c.advance.ensures.fails

pub returns-clause-between : goal.returns-clause-between
returns-clause-between g c =
    on_err_weaker c.advance.result
    (λ fails. put_failed_between c.args.self.now c.args.addr c.advance.new.desks c.advance.new.tally
    c.advance.new.journal fails)
    c.advance.ensures.fails
