-- A service over a port of an honest line.
use Rattle.std.proofs.Common.{ℕ, Bool, List, ◌++◌, refl, Option, Result}
use Rattle.cct_edge.specs.declared.fault.Failed.{Failed}
use Rattle.cct_journal.specs.declared.format.TheConstants.{MOST_RECORDS}
use Rattle.cct_model.specs.terms.device.Setup.{Setup}
use Rattle.cct_model.specs.lines.command.CrashAt.{CrashAt}
use Rattle.cct_model.specs.lines.entry.Entry.{Entry}
use Rattle.cct_model.specs.lines.record.Record.{Record}
use Rattle.cct_model.specs.Legal.{EntriesOfRestart}
use Rattle.cct_model.specs.Change.{Desk}
use Rattle.cct_model.specs.Records.{records}
use Rattle.cct_model.specs.Script.{IsCrash}
use Rattle.cct_model.specs.Setup.{IsSoundSetup}
use Rattle.cct_live_port.specs.declared.port.Port.{Port}
use Rattle.cct_live_port.specs.Port.{Gives, faults_of, line_of, was_sent}
use Rattle.cct_laws_live.specs.Live.{started}
use Rattle.cct_live_survey.specs.Roll.{Rolled}
use Rattle.cct_laws_live_devices.specs.Asked.{Moment, entries}
use Rattle.cct_laws_live_devices.specs.Chain.{Chain}
use Rattle.cct_laws_live_devices.specs.Lives.{HaveLived, IsHonestLine, IsPortOf, IsRightOver, lived}
use Rattle.cct_laws_live_devices.proofs.Living.{life_right_over}
use Rattle.cct_laws_live_devices.proofs.Sending.{asked_first, live_asked, started_asked}
use Rattle.cct_live_service.specs.declared.served.Served.{Served}
use Rattle.cct_live_service.specs.declared.stopping.AtEnd.{AtEnd}
use Rattle.cct_live_service.specs.declared.watch.Watch.{Watch}
use Rattle.cct_live_service.specs.Found.{FoundOn}
use Rattle.cct_live_service.specs.Hears.{Refusal}
use Rattle.cct_live_service.specs.Lived.{Lived}
use Rattle.cct_live_service.specs.Told.{news_of}
use Rattle.cct_laws_live_service.proofs.Linked.{uses_chain}

module _ {L : Type 0} (reads : L → Option (List ℕ) → L → Type 0) (writes : L → List ℕ → Result (Unit {0}) Failed → L → Type 0)
    {K : Type 0} (written : K → Option (List ℕ)) (puts : K → List ℕ → Result (Unit {0}) Failed → K → Type 0)
    {D : Type 0} (size : D → ℕ) (honest : D → Bool) (seen : D → Option (List ℕ)) (may_leave : D → List ℕ → Type 0)
    (moment : D → ℕ) (left_since : D → ℕ → List ℕ → Type 0) (cuts : D → ℕ) where
  -- what went over its link is a chain of the entries that it reported
  pub service_chain : (setup : Setup) → IsSoundSetup setup → (first last : Port L) (watch watch_then : Watch) (roll now : Rolled) (desk left_desk : Desk) (missed missed_then : ℕ) (Heard : List Refusal → Type 0) (ends : AtEnd)
      (left : Option (List ℕ)) (how : Served) (old new : K) (given back : D) →
      (service : Lived written puts (Gives reads writes) was_sent faults_of size honest seen may_leave moment left_since cuts
      given back setup roll now desk left_desk missed missed_then Heard ends left how old new
      (record { link = first; watch = watch }) (record { link = last; watch = watch_then })) →
      (found : List Record) → FoundOn honest seen may_leave given setup service.begun found →
      Chain (Gives reads writes) first (news_of service.told) last
  service_chain setup sound first last watch watch_then roll now desk left_desk missed missed_then Heard ends left how old new given back service found there =
      let told = news_of service.told in
      let asked =
      asked_first told (started found)
      (live_asked MOST_RECORDS setup service.steps (started found) (told ++ started found) sound (started_asked found)
      (service.lived found there).0.live) in
      uses_chain (Gives reads writes) was_sent faults_of setup.devices roll now (record { link = first; watch = watch })
      (record { link = last; watch = watch_then }) service.told asked service.linked

  pub service_right : (echoes : Bool) (longest : ℕ) (coming : L → List ℕ) (silent : L → ℕ) (setup : Setup) (history : L → List Moment) →
      IsSoundSetup setup → IsHonestLine reads writes echoes longest coming silent setup history → (first last : Port L) (watch watch_then : Watch)
      (roll now : Rolled) (desk left_desk : Desk) (missed missed_then : ℕ) (Heard : List Refusal → Type 0) (ends : AtEnd) (left : Option (List ℕ)) (how : Served) (old new : K) (given back : D) →
      (service : Lived written puts (Gives reads writes) was_sent faults_of size honest seen may_leave moment left_since cuts
      given back setup roll now desk left_desk missed missed_then Heard ends left how old new
      (record { link = first; watch = watch }) (record { link = last; watch = watch_then })) →
      (found : List Record) (whole : List Entry) → FoundOn honest seen may_leave given setup service.begun found →
      HaveLived reads writes echoes longest coming silent MOST_RECORDS setup history (history (line_of first)) found whole →
      IsPortOf reads writes echoes longest coming silent first →
      IsRightOver setup (entries (history (line_of last))) (news_of service.told ++ whole)
      × IsPortOf reads writes echoes longest coming silent last
      × ((at : Option CrashAt) (news : List Entry) → IsCrash at → EntriesOfRestart setup (news_of service.told ++ whole) at news →
      HaveLived reads writes echoes longest coming silent MOST_RECORDS setup history (history (line_of last))
      (records (news ++ (news_of service.told ++ whole))) (news ++ (news_of service.told ++ whole)))
  service_right echoes longest coming silent setup history sound line first last watch watch_then roll now desk left_desk missed missed_then Heard ends left how old new given back service found
      whole there lives port =
      let told = news_of service.told in
      let life = (service.lived found there).0 in
      let chain = service_chain setup sound first last watch watch_then roll now desk left_desk missed missed_then Heard ends left how old new given back service found there in
      let right =
      life_right_over reads writes echoes longest coming silent MOST_RECORDS setup history sound line first last found service.steps told
      whole lives port life chain in (
        right.0,
        right.1,
        λ at news crash restarted.
            lived first last found (records (news ++ (told ++ whole))) service.steps told news whole at lives port life chain crash
            restarted refl,
      )
