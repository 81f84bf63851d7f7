use Rattle.cct_live_survey.proofs.Rolling.{roll_grows, roll_inquires}
use Rattle.cct_live_survey.proofs.roll.Roll.ask.Goals as goal

pub returns-clause-inquires : goal.returns-clause-inquires
returns-clause-inquires g c = roll_inquires _ _ _ _ _ _ _ _ c.ask_those.ensures

pub returns-clause-grows : goal.returns-clause-grows
returns-clause-grows g c = roll_grows _ _ _ _ _ _ _ _ c.ask_those.ensures
