use Rattle.cct_laws_live_service.proofs.Serving.{service_right}
use Rattle.cct_laws_live_service.proofs.a_service_over_an_honest_line_is_right.Goals as goal

pub returns : goal.returns
returns c start =
    λ echoes longest coming silent setup history sound line first last watch watch_then roll now desk left_desk missed missed_then around around_then ends left how old new given back service.
    service_right _ _ _ _ _ _ _ _ _ _ _ echoes longest coming silent setup history sound line first last watch watch_then roll now desk left_desk missed missed_then _ ends left how old new given
    back service
