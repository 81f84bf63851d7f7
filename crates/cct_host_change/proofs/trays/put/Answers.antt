use Rattle.std.proofs.Common.{◌∙◌}
use Rattle.cct_host_change.proofs.InOrder.{put_there}
use Rattle.cct_host_change.proofs.trays.put.Goals as goal

pub returns-clause-trays : goal.returns-clause-trays
returns-clause-trays c =
    c.insert.ensures.items ∙ put_there c.args.tray c.args.trays.now.items c.rank_of-place.result
    (rw c.as_slice.ensures.value at c.rank_of-place.ensures.rank)
