use Rattle.cct_live_service.proofs.Counting.{found_told}
use Rattle.cct_live_service.proofs.standing.opening_notice.Goals as goal

pub returns-then-was_there : goal.returns-then-was_there
returns-then-was_there g c =
    found_told c.args.host.now c.args.was_there c.records.result c.open_orders.result c.running_epochs.result
    c.if-was_there.true c.records.ensures.value c.open_orders.ensures c.running_epochs.ensures
