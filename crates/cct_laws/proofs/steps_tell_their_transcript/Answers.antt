use Rattle.cct_laws.proofs.steps.SameTranscript.{steps_begin, fronts_begin}
use Rattle.cct_laws.proofs.steps_tell_their_transcript.Goals as goal

pub returns : goal.returns
returns c = record { longer = steps_begin; fronts = fronts_begin }
