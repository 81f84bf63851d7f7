use Rattle.std.specs.Prelude.{[]}
use Rattle.cct_model.specs.Transcript.{onto}
use Rattle.cct_laws_live.proofs.Followed.{followed}
use Rattle.cct_laws_live.proofs.a_live_transcript_is_what_a_legal_one_shows.Goals as goal

pub returns : goal.returns
returns c = λ capacity setup steps transcript sound range is. followed capacity setup steps (onto [] transcript) range is
