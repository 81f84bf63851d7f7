use Rattle.cct_laws.proofs.steps.AtTheDesk.{at_desk_legal, entries_legal, leaves_legal, legal_at_desk}
use Rattle.cct_laws.proofs.what_is_legal_at_the_desk_is_legal.Goals as goal

pub returns : goal.returns
returns c = record { whole = legal_at_desk; leaves = leaves_legal; goes_on = at_desk_legal; each = entries_legal }
