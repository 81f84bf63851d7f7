use Rattle.cct_journal.specs.Half.{half}
use Rattle.cct_journal.proofs.Fronts.{front_of_half}
use Rattle.cct_journal.proofs.opening.look_at.Goals as goal

pub returns-clause-front : goal.returns-clause-front
returns-clause-front g c image told =
    front_of_half c.args.second c.front_of.result c.read_in.new.room (half image c.args.second)
    (c.in_ok-read_in.ensures.gives image told) c.front_of.ensures
