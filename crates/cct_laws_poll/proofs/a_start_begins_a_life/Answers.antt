-- It is what its clause says.
use Rattle.cct_host.specs.Host.{setup_of}
use Rattle.cct_laws_poll.proofs.Beginning.{begins_life}
use Rattle.cct_laws_poll.proofs.a_start_begins_a_life.Goals as goal

pub returns : goal.returns
returns c = λ poll part starts found. begins_life (setup_of poll.host) part poll.host starts found
