-- What a power cut leaves of a service is where the next life starts.
use Rattle.std.proofs.Common.{◌≡◌, inl, inr, ℕ, Bool, List, [], ◌∷◌, ◌++◌, refl, sym, ◌∙◌, subst, Option, Some, None, Result, reverse, true, arith}
use Rattle.std.proofs.lemmas.Grind.{reverse_onto}
use Rattle.cct_edge.specs.declared.fault.Failed.{Failed}
use Rattle.cct_disk.specs.Disk.{Holds, IsTrusted}
use Rattle.cct_journal.specs.declared.format.TheConstants.{MOST_RECORDS}
use Rattle.cct_journal.specs.Image.{StandsFor}
use Rattle.cct_model.specs.Carry.{carry_of}
use Rattle.cct_model.specs.Following.{all_follow}
use Rattle.cct_model.specs.terms.device.Setup.{Setup}
use Rattle.cct_model.specs.lines.command.CrashAt.{CrashAt}
use Rattle.cct_model.specs.lines.entry.Entry.{Entry}
use Rattle.cct_model.specs.lines.record.Record.{Record}
use Rattle.cct_model.specs.Legal.{EntriesOfRestart, RestartEntries, bare_restart, due_at, keeping_restart}
use Rattle.cct_model.specs.Change.{Desk}
use Rattle.cct_model.specs.Records.{records}
use Rattle.cct_model.specs.Script.{IsCrash}
use Rattle.cct_model.specs.Setup.{IsSoundSetup}
use Rattle.cct_live_port.specs.declared.port.Port.{Port}
use Rattle.cct_live_port.specs.Port.{Gives, faults_of, line_of, was_sent}
use Rattle.cct_laws_live.specs.Live.{started}
use Rattle.cct_laws_live.proofs.Alike.{Alike, alike_entry}
use Rattle.cct_laws_live.proofs.LifeBooks.{life_due_follow, life_follow}
use Rattle.cct_laws_live.proofs.Onward.{due_same}
use Rattle.cct_live_survey.specs.Roll.{Rolled}
use Rattle.cct_laws_live_devices.specs.Asked.{Moment}
use Rattle.cct_laws_live_devices.specs.Lives.{HaveLived, IsHonestLine, IsPortOf}
use Rattle.cct_laws_live_devices.proofs.Living.{lives_alike}
use Rattle.cct_live_service.specs.declared.served.Served.{Served}
use Rattle.cct_live_service.specs.declared.served.Served.TheVariants as served
use Rattle.cct_live_service.specs.declared.stopping.AtEnd.{AtEnd}
use Rattle.cct_live_service.specs.declared.watch.Watch.{Watch}
use Rattle.cct_live_service.specs.Found.{FoundOn, Tells}
use Rattle.cct_live_service.specs.Hears.{Refusal}
use Rattle.cct_live_service.specs.Lived.{LeftBy, Lived}
use Rattle.cct_live_service.specs.Told.{news_of}
use Rattle.cct_laws_live_service.specs.Killed.{IsLeftAt}
use Rattle.cct_laws_live_service.specs.Starts.{StartsOver}
use Rattle.cct_laws_live_service.proofs.Serving.{service_right}

-- pasts that are alike go on alike
pub alike_told : (told past other : List Entry) → Alike past other → Alike (told ++ past) (told ++ other)
alike_told [] past other alike = alike
alike_told (e ∷ told) past other alike = alike_entry (told ++ past) (told ++ other) e (alike_told told past other alike)

module _ {D : Type 0} (honest : D → Bool) (seen : D → Option (List ℕ)) (may_leave : D → List ℕ → Type 0) where
  cut_left : (back : D) (setup : Setup) (how : Served) (past : List Entry) (image : List ℕ) →
      LeftBy honest seen may_leave back setup how past → IsTrusted honest seen back → may_leave back image →
      IsLeftAt setup past image
  cut_left back setup served.Disk past image (addr, r, due, left) trusted may = elim ((left trusted).each image may) [
    | inl before ↦ inl before
    | inr with_it ↦ inr (addr, r, due, with_it)
  ]
  cut_left back setup how past image left trusted may = inl ((left trusted).each image may)

-- the next life starts over what is left at the end of a past
pub at_start : (setup : Setup) (HasLived : List Record → List Entry → Type 0) (past whole : List Entry) (image : List ℕ) →
    Alike past whole → all_follow setup (records past) ≡ true →
    ((addr : ℕ) (r : Record) → due_at setup past addr ≡ Some r → all_follow setup (r ∷ records past) ≡ true) →
    ((at : Option CrashAt) (news : List Entry) → IsCrash at → EntriesOfRestart setup whole at news →
    HasLived (records (news ++ whole)) (news ++ whole)) →
    IsLeftAt setup past image → StartsOver setup HasLived whole image
at_start setup HasLived past whole image alike follow due_follow goes (inl stands) = record {
  left = records whole;
  news = bare_restart whole;
  lived = goes None (bare_restart whole) tt refl;
  stands = subst (λ rs. StandsFor (carry_of setup) image (reverse rs)) alike.recorded stands;
  follow = subst (λ rs. all_follow setup rs ≡ true) alike.recorded follow;
}
at_start setup HasLived past whole image alike follow due_follow goes (inr (addr, r, due, stands)) = record {
  left = r ∷ records whole;
  news = keeping_restart whole r;
  lived =
      goes (Some (record { addr = addr; calls = 4 })) (keeping_restart whole r) (omega arith)
      (subst (λ at_work. RestartEntries whole 4 at_work (keeping_restart whole r))
      (sym (sym (due_same setup past whole addr alike) ∙ due)) (inr (omega arith, refl)));
  stands =
      subst (StandsFor (carry_of setup) image) (sym (reverse_onto (records whole) r []))
      (subst (λ rs. StandsFor (carry_of setup) image (reverse rs ++ r ∷ [])) alike.recorded stands);
  follow = subst (λ rs. all_follow setup (r ∷ rs) ≡ true) alike.recorded (due_follow addr r due);
}

-- the next life over it
module _ {L : Type 0} (reads : L → Option (List ℕ) → L → Type 0) (writes : L → List ℕ → Result (Unit {0}) Failed → L → Type 0)
    {K : Type 0} (written : K → Option (List ℕ)) (puts : K → List ℕ → Result (Unit {0}) Failed → K → Type 0)
    {D : Type 0} (size : D → ℕ) (honest : D → Bool) (seen : D → Option (List ℕ)) (may_leave : D → List ℕ → Type 0)
    (moment : D → ℕ) (left_since : D → ℕ → List ℕ → Type 0) (cuts : D → ℕ) where
  pub hands_on : (echoes : Bool) (longest : ℕ) (coming : L → List ℕ) (silent : L → ℕ) (setup : Setup) (history : L → List Moment) →
      IsSoundSetup setup → IsHonestLine reads writes echoes longest coming silent setup history → (first last : Port L) (watch watch_then : Watch)
      (roll now : Rolled) (desk left_desk : Desk) (missed missed_then : ℕ) (Heard : List Refusal → Type 0) (ends : AtEnd) (left : Option (List ℕ)) (how : Served) (old new : K) (given back : D) →
      (service : Lived written puts (Gives reads writes) was_sent faults_of size honest seen may_leave moment left_since cuts
      given back setup roll now desk left_desk missed missed_then Heard ends left how old new
      (record { link = first; watch = watch }) (record { link = last; watch = watch_then })) →
      (found : List Record) (whole : List Entry) → FoundOn honest seen may_leave given setup service.begun found →
      HaveLived reads writes echoes longest coming silent MOST_RECORDS setup history (history (line_of first)) found whole →
      IsPortOf reads writes echoes longest coming silent first → IsTrusted honest seen back → (image : List ℕ) →
      may_leave back image →
      StartsOver setup
      (λ rs all. HaveLived reads writes echoes longest coming silent MOST_RECORDS setup history (history (line_of last)) rs all)
      (news_of service.told ++ whole) image
  hands_on echoes longest coming silent setup history sound line first last watch watch_then roll now desk left_desk missed missed_then Heard ends left how old new given back service found
      whole there lives port trusted image may =
      let told = news_of service.told in
      let past = told ++ started found in
      let life = service.lived found there in
      at_start setup
      (λ rs all. HaveLived reads writes echoes longest coming silent MOST_RECORDS setup history (history (line_of last)) rs all) past
      (told ++ whole) image
      (alike_told told (started found) whole
      (lives_alike reads writes echoes longest coming silent MOST_RECORDS setup history sound line (history (line_of first)) found
      whole lives))
      (life_follow MOST_RECORDS setup found service.steps past sound life.0)
      (life_due_follow MOST_RECORDS setup found service.steps past sound life.0)
      (service_right reads writes written puts size honest seen may_leave moment left_since cuts echoes longest coming silent setup history sound line first last watch watch_then
      roll now desk left_desk missed missed_then Heard ends left how old new given back service found whole there lives port).2
      (cut_left honest seen may_leave back setup how past image life.2 trusted may)

-- a disk that holds such an image shows its records
pub told_next : (D : Type 0) (honest : D → Bool) (seen : D → Option (List ℕ)) (may_leave : D → List ℕ → Type 0) (setup : Setup)
    (HasLived : List Record → List Entry → Type 0) (whole : List Entry) (image : List ℕ)
    (starts : StartsOver setup HasLived whole image) (next : D) → Holds honest seen may_leave next image →
    Tells honest seen may_leave next setup starts.left
told_next D honest seen may_leave setup HasLived whole image starts next holds = record {
  image = image;
  seen_is = holds.tells;
  stands = starts.stands;
  follow = starts.follow;
  settled = λ trusted. record { image = image; held = holds; stands = starts.stands };
}
