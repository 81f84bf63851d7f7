-- It is what the step says of each moment.
use Rattle.cct_laws_poll.proofs.Keeping.{keeps}
use Rattle.cct_laws_poll.proofs.a_part_keeps_the_records.Goals as goal

pub returns : goal.returns
returns c = keeps
