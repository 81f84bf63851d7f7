use Rattle.cct_laws_live_service.proofs.Changing.{service_sessions}
use Rattle.cct_laws_live_service.proofs.a_session_on_an_honest_line_pays_what_it_tells.Goals as goal

pub returns : goal.returns
returns c start =
    λ setup sound first last watch watch_then roll now left_desk missed missed_then around around_then ends left how old new given back service.
    service_sessions _ _ _ _ _ _ _ _ _ _ _ setup sound first last watch watch_then roll now left_desk missed missed_then _ ends left how old new given back service
