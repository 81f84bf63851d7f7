use Rattle.std.proofs.Common.{rules}
use Rattle.cct_gen.proofs.LoadSetup.{made, made_sound}
use Rattle.cct_gen.proofs.setup.load_setup.Goals as goal

pub returns-clause-value : goal.returns-clause-value
returns-clause-value c = made _ (search rules)

pub returns-clause-sound : goal.returns-clause-sound
returns-clause-sound c = made_sound _ (search rules)
