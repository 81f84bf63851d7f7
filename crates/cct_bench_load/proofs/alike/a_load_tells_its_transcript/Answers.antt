use Rattle.cct_bench_load.proofs.Puts.{load_begins}
use Rattle.cct_bench_load.proofs.alike.a_load_tells_its_transcript.Goals as goal

pub returns : goal.returns
returns c = load_begins
