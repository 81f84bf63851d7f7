use Rattle.cct_laws_live_service.proofs.HandingOn.{hands_on, told_next}
use Rattle.cct_laws_live_service.proofs.the_next_service_starts_over_what_is_left.Goals as goal

pub returns : goal.returns
returns c start =
    λ echoes longest coming silent setup history sound line first last watch watch_then roll now desk left_desk missed missed_then around around_then ends left how old new given back service found whole
    there lives port trusted image may.
    let starts =
    hands_on _ _ _ _ _ _ _ _ _ _ _ echoes longest coming silent setup history sound line first last watch watch_then roll now desk left_desk missed missed_then _ ends left how old new given
    back service found whole there lives port trusted image may in
    (starts, λ next holds. told_next _ _ _ _ setup _ _ image starts next holds)
