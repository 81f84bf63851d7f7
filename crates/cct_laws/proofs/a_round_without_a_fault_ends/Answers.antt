use Rattle.cct_laws.proofs.jobs.Ending.{round_ends}
use Rattle.cct_laws.proofs.jobs.ReadingsMadeAgain.{round_moves}
use Rattle.cct_laws.proofs.a_round_without_a_fault_ends.Goals as goal

pub returns : goal.returns
returns c = record { ends = round_ends; moved = round_moves }
