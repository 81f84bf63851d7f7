use Rattle.cct_host.proofs.Holding.{due_left}
use Rattle.cct_host.proofs.Turning.{some_by}
use Rattle.cct_host.proofs.desks.Desks.bare_due.Goals as goal

pub returns-then-addr-eq-HOST-clause-puts : goal.returns-then-addr-eq-HOST-clause-puts
returns-then-addr-eq-HOST-clause-puts c =
    some_by c.due.result _ _ _ c.due.ensures.value (due_left c.args.self.now.sale.job) (λ one. one)
