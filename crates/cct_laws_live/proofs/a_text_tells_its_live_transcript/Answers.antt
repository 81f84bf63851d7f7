use Rattle.cct_laws_live.proofs.LifeTexts.{life_text}
use Rattle.cct_laws_live.proofs.Texts.{live_text}
use Rattle.cct_laws_live.proofs.a_text_tells_its_live_transcript.Goals as goal

pub returns : goal.returns
returns c = record { live = live_text; life = life_text }
