use Rattle.cct_live_service.specs.Found.{was_found}
use Rattle.cct_live_service.specs.Told.{news_of}
use Rattle.cct_laws_live_service.proofs.HandingOn.{told_next}
use Rattle.cct_laws_live_service.proofs.Killing.{cut_moment, point_right}
use Rattle.cct_laws_live_service.proofs.Serving.{service_chain}
use Rattle.cct_laws_live_service.proofs.a_service_may_be_killed_at_each_moment.Goals as goal

pub returns : goal.returns
returns c start =
    λ echoes longest coming silent setup history sound line first last watch watch_then roll now desk left_desk missed missed_then around around_then ends left how old new given back service found whole
    there lives port.
    let life = (service.lived found there).0 in
    let chain = service_chain _ _ _ _ _ _ _ _ _ _ _ setup sound first last watch watch_then roll now desk left_desk missed missed_then _ ends left how old new given back service found
    there in (
      λ point.
          let right = point_right _ _ echoes longest coming silent setup history sound line first last found whole lives port _ point in (
            right.0,
            right.1,
            λ image at.
                let starts = right.2 image at in
                (starts, λ next holds. told_next _ _ _ _ setup _ _ image starts next holds),
          ),
      λ before image holds may.
          cut_moment _ setup found first last service.steps (news_of service.told) life chain image _ _ given back
          (was_found service.begun) before how (service.moments found there before holds) may,
    )
