use Rattle.cct_laws.proofs.wire.HonestFaults.{honest_means, means_honest}
use Rattle.cct_laws.proofs.an_honest_fault_does_honest_damage.Goals as goal

pub returns : goal.returns
returns c = record { means = honest_means; tested = means_honest }
