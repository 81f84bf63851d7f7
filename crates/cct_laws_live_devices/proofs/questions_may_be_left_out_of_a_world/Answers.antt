use Rattle.cct_laws_live_devices.proofs.Asked.{over_unasked}
use Rattle.cct_laws_live_devices.proofs.Surveyed.{question_asked}
use Rattle.cct_laws_live_devices.proofs.questions_may_be_left_out_of_a_world.Goals as goal

pub returns : goal.returns
returns c = record { left_out = over_unasked; asked = question_asked }
