use Rattle.cct_live_setup_copy.specs.Text.{rest_text}
use Rattle.cct_live_setup_copy.proofs.Written.{both_written}
use Rattle.cct_live_setup_copy.proofs.writing.put_rest.Goals as goal

pub returns-in-Ok : goal.returns-in-Ok
unfolding rest_text
returns-in-Ok g c = both_written _ _ _ _ _ _ _ _ c.in-Ok.ensures c.put_texts.ensures
