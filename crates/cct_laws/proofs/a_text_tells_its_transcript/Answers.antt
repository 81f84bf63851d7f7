use Rattle.cct_laws.proofs.text.Scripts.{played_texts}
use Rattle.cct_laws.proofs.text.Texts.{legal_text}
use Rattle.cct_laws.proofs.a_text_tells_its_transcript.Goals as goal

pub returns : goal.returns
returns c = record { steps = legal_text; scripts = played_texts }
