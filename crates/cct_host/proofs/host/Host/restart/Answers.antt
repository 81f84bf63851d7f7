use Rattle.cct_host.proofs.Losses.{fails_by, if_both_lost, if_each, restarts_by}
use Rattle.cct_host.proofs.host.Host.restart.Goals as goal

pub returns-clause-restarts : goal.returns-clause-restarts
returns-clause-restarts g c =
    if_each c.restart.result _ _ _ _ _ c.restart.ensures.restarts c.restart.ensures.records c.restart.ensures.over
    c.restart.ensures.begins
    (λ crashed restarts records over begins.
    restarts_by c.args.self.now _ c.args.at c.args.choice crashed c.restart.ensures.setup c.restart.ensures.due restarts
    records over begins)

pub returns-clause-fails : goal.returns-clause-fails
returns-clause-fails g c =
    if_both_lost c.restart.result _ _ _ c.restart.ensures.fails c.restart.ensures.never
    (λ why fails never.
    fails_by c.args.self.now c.restart.new.journal c.args.at c.args.choice why c.restart.ensures.due fails never)
