use Rattle.cct_laws_live_service.proofs.Surveys.{survey_chain}
use Rattle.cct_laws_live_service.proofs.a_survey_is_a_chain.Goals as goal

pub returns : goal.returns
returns c start = survey_chain _
