-- A service that is killed is a life, and what it leaves is where the next one starts.
use Rattle.std.proofs.Common.{◌≡◌, ◌⊎◌, inl, inr, ℕ, Bool, true, List, [], ◌∷◌, ◌++◌, reverse, refl, sym, subst, Option, Some, Result}
use Rattle.cct_edge.specs.declared.fault.Failed.{Failed}
use Rattle.cct_disk.specs.Disk.{Holds, LeavesOnly}
use Rattle.cct_journal.specs.declared.format.TheConstants.{MOST_RECORDS}
use Rattle.cct_journal.specs.Image.{StandsFor}
use Rattle.cct_model.specs.Carry.{carry_of}
use Rattle.cct_model.specs.Legal.{due_at}
use Rattle.cct_model.specs.Records.{records}
use Rattle.cct_model.specs.Setup.{IsSoundSetup}
use Rattle.cct_model.specs.terms.device.Setup.{Setup}
use Rattle.cct_model.specs.lines.entry.Entry.{Entry}
use Rattle.cct_model.specs.lines.record.Record.{Record}
use Rattle.cct_live_port.specs.declared.port.Port.{Port}
use Rattle.cct_live_port.specs.Port.{Gives, faults_of, line_of, was_sent}
use Rattle.cct_laws_live.specs.Life.{IsLife}
use Rattle.cct_laws_live.specs.Live.{started}
use Rattle.cct_laws_live.specs.LiveStep.{LiveStep}
use Rattle.cct_laws_live.proofs.LifeBooks.{life_due_follow, life_follow}
use Rattle.cct_live_survey.specs.Roll.{Rolled}
use Rattle.cct_laws_live_devices.specs.Asked.{Moment, entries}
use Rattle.cct_laws_live_devices.specs.Chain.{Chain}
use Rattle.cct_laws_live_devices.specs.Lives.{HaveLived, IsHonestLine, IsPortOf, IsRightOver, lived}
use Rattle.cct_laws_live_devices.proofs.Living.{life_right_over, lives_alike}
use Rattle.cct_live_service.specs.declared.served.Served.{Served}
use Rattle.cct_live_service.specs.declared.served.Served.TheVariants as served
use Rattle.cct_live_service.specs.declared.stopping.AtEnd.{AtEnd}
use Rattle.cct_live_service.specs.Found.{FoundOn, was_found}
use Rattle.cct_live_service.specs.Lived.{LeftSince, Lived}
use Rattle.cct_live_service.specs.Since.{IsMaking, MayStand, StandsForFirst}
use Rattle.cct_live_service.specs.Told.{news_of}
use Rattle.cct_laws_live_service.specs.Killed.{IsLeftAt, Point}
use Rattle.cct_laws_live_service.specs.Starts.{StartsOver}
use Rattle.cct_laws_live_service.proofs.HandingOn.{alike_told, at_start}
use Rattle.cct_laws_live_service.proofs.Points.{one_due, point_at, point_end}
use Rattle.cct_laws_live_service.proofs.Serving.{service_chain}

-- at a point of a service all is right, and what is left then is where the next one starts
module _ {L : Type 0} (reads : L → Option (List ℕ) → L → Type 0) (writes : L → List ℕ → Result (Unit {0}) Failed → L → Type 0)
    (echoes : Bool) (longest : ℕ) (coming : L → List ℕ) (silent : L → ℕ) (setup : Setup) (history : L → List Moment)
    (sound : IsSoundSetup setup) (line : IsHonestLine reads writes echoes longest coming silent setup history)
    (first last : Port L) (found : List Record) (whole : List Entry)
    (lives : HaveLived reads writes echoes longest coming silent MOST_RECORDS setup history (history (line_of first)) found whole)
    (port : IsPortOf reads writes echoes longest coming silent first) (told : List Entry) where
  pub point_right : (point : Point (Gives reads writes) setup found first last told) →
      IsRightOver setup (entries (history (line_of point.line))) (point.news ++ whole)
      × IsPortOf reads writes echoes longest coming silent point.line
      × ((image : List ℕ) → IsLeftAt setup (point.news ++ started found) image → StartsOver setup
      (λ rs all. HaveLived reads writes echoes longest coming silent MOST_RECORDS setup history (history (line_of point.line)) rs all)
      (point.news ++ whole) image)
  point_right point =
      let right =
      life_right_over reads writes echoes longest coming silent MOST_RECORDS setup history sound line first point.line found
      point.steps point.news whole lives port point.life point.before in (
        right.0,
        right.1,
        λ image left.
            at_start setup
            (λ rs all. HaveLived reads writes echoes longest coming silent MOST_RECORDS setup history (history (line_of point.line))
            rs all)
            (point.news ++ started found) (point.news ++ whole) image
            (alike_told point.news (started found) whole
            (lives_alike reads writes echoes longest coming silent MOST_RECORDS setup history sound line (history (line_of first))
            found whole lives))
            (life_follow MOST_RECORDS setup found point.steps (point.news ++ started found) sound point.life)
            (life_due_follow MOST_RECORDS setup found point.steps (point.news ++ started found) sound point.life)
            (λ at news crash restarted.
            lived first point.line found (records (news ++ (point.news ++ whole))) point.steps point.news news whole at lives port
            point.life point.before crash restarted refl)
            left,
      )

-- where a life is cut, by what an image represents
module _ {L : Type 0} (gives : L → List ℕ → List ℕ → L → Type 0) (setup : Setup) (found : List Record) (first last : L)
    (steps : List LiveStep) (told : List Entry) (life : IsLife MOST_RECORDS setup found steps (told ++ started found))
    (chain : Chain gives first told last) (image : List ℕ) where
  abbrev pub IsCutAt : Type 0
  IsCutAt = (point : Point gives setup found first last told) × IsLeftAt setup (point.news ++ started found) image

  cut_first : StandsForFirst setup found (records (told ++ started found)) image → IsCutAt
  cut_first h =
      let at = point_at gives setup found first last steps told life chain h.later h.put h.all_are in
      (at.0, inl (subst (λ rs. StandsFor (carry_of setup) image (reverse rs)) (sym at.1) h.stands))

  cut_due : (addr : ℕ) (r : Record) → due_at setup (told ++ started found) addr ≡ Some r →
      StandsForFirst setup found (r ∷ records (told ++ started found)) image → IsCutAt
  cut_due addr r due h =
      elim (one_due setup found (records (told ++ started found)) r image h.later h.put h.all_are h.stands) [
        | inl all ↦ (point_end gives setup found first last steps told life chain, inr (addr, r, due, all))
        | inr some ↦ cut_first some
      ]

  cut_making : (there : Bool) (old : List ℕ) (all : List Record) →
      (StandsForFirst setup found all image → IsCutAt) → MayStand setup there old found all image →
      IsMaking there old image ⊎ IsCutAt
  cut_making there old all cut may = elim may [
    | inl making ↦ inl making
    | inr stands ↦ inr (cut stands)
  ]

  module _ {D : Type 0} (moment : D → ℕ) (left_since : D → ℕ → List ℕ → Type 0) (given back : D) (there : Bool)
      (old : List ℕ) where
    pub cut_moment : (how : Served) →
        LeftSince moment left_since given back setup how there old found (told ++ started found) →
        left_since back (moment given) image → IsMaking there old image ⊎ IsCutAt
    cut_moment served.Disk (addr, r, due, left) may =
        cut_making there old (r ∷ records (told ++ started found)) (cut_due addr r due) (left.each image may)
    cut_moment how left may =
        cut_making there old (records (told ++ started found)) cut_first (left.each image may)
