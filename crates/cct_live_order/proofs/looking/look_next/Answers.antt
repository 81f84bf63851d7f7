use Rattle.std.proofs.Common.{ap, ◌∙◌}
use Rattle.cct_journal.specs.Opening.{open_no}
use Rattle.cct_live_order.proofs.looking.look_next.Goals as goal

pub returns-in-Err-clause-refused : goal.returns-in-Err-clause-refused
returns-in-Err-clause-refused g c rest held =
    c.from.ensures ∙ ap open_no (c.in-Err.ensures.refused.never rest held)
