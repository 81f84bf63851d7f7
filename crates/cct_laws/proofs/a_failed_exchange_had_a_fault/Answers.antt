use Rattle.cct_laws.proofs.wire.Faults.{legal_fails, legal_fails_but, legal_echoes}
use Rattle.cct_laws.proofs.a_failed_exchange_had_a_fault.Goals as goal

pub returns : goal.returns
returns c = record { replies = legal_fails; any_kind = legal_fails_but; echoes = legal_echoes }
