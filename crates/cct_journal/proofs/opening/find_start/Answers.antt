use Rattle.cct_journal.specs.Half.{half}
use Rattle.cct_journal.proofs.Fronts.{start_read}
use Rattle.cct_journal.proofs.opening.find_start.Goals as goal

pub returns-clause-found : goal.returns-clause-found
returns-clause-found g c image told =
    start_read c.args.second c.read_in.new.room (half image c.args.second) c.read_start.result
    (c.in_ok-read_in.ensures.gives image told) c.read_start.ensures.begins c.read_start.ensures.none
