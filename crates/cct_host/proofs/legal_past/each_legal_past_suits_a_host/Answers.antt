use Rattle.cct_host.proofs.Suiting.{legal_put_suits, legal_restart_suits}
use Rattle.cct_host.proofs.legal_past.each_legal_past_suits_a_host.Goals as goal

pub returns : goal.returns
returns c = record { puts = legal_put_suits; restarts = legal_restart_suits }
