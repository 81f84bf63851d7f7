use Rattle.cct_laws.proofs.text.Scripts.{setup_sound, steps_of_today, front_of_today}
use Rattle.cct_laws.proofs.scripts_are_in_range.Goals as goal

pub returns : goal.returns
returns c = record { setup = setup_sound; steps = steps_of_today; fronts = front_of_today }
