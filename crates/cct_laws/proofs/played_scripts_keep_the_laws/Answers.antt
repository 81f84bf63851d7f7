use Rattle.cct_laws.proofs.text.Scripts.{played_right}
use Rattle.cct_laws.proofs.played_scripts_keep_the_laws.Goals as goal

pub returns : goal.returns
returns c = played_right
