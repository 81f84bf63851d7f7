-- What holds in one life of a host over records that it found, whatever is heard.
use Rattle.std.proofs.Common.{◌≡◌, ℕ, ◌≤◌, ◌==◌, Bool, true, false, cond, List, [], ◌∷◌, ◌++◌, map, refl, ap, sym, ◌∙◌, subst, arith}
use Rattle.std.specs.Prelude.{⊤}
use Rattle.cct_model.specs.terms.device.DeviceSetup.{DeviceSetup}
use Rattle.cct_model.specs.terms.device.Setup.{Setup}
use Rattle.cct_model.specs.lines.command.Step.{Step}
use Rattle.cct_model.specs.lines.record.Record.{Record}
use Rattle.cct_model.specs.lines.record.Record.TheVariants as record_of
use Rattle.cct_model.specs.lines.entry.Entry.{Entry}
use Rattle.cct_model.specs.lines.entry.Entry.TheVariants as entry
use Rattle.cct_model.specs.Following.{all_follow}
use Rattle.cct_model.specs.Line.{Line, put}
use Rattle.cct_model.specs.Paid.{AreFresh, anew_by}
use Rattle.cct_model.specs.Records.{records}
use Rattle.cct_model.specs.Setup.{IsSoundSetup}
use Rattle.cct_model.specs.Transcript.{lines_of, owner}
use Rattle.cct_laws.specs.Ids.{Ids}
use Rattle.cct_laws.specs.Law.{EachEntry, IsOf}
use Rattle.cct_laws.proofs.jobs.StepBrings.{Brought}
use Rattle.cct_laws.proofs.jobs.SeenAtOne.{along_from}
use Rattle.cct_laws.proofs.jobs.EntriesOfStep.{GoesOverForged, any_steps}
use Rattle.cct_laws.proofs.money.FromRecordsAlone.{restart_frees}
use Rattle.cct_laws.proofs.orders.OneMoreRecord.{step_grows}
use Rattle.cct_laws.proofs.orders.UsedIds.{grows_fresh}
use Rattle.cct_laws_live.specs.Counters.{IsTallied, told_in}
use Rattle.cct_laws_live.specs.Life.{EachLife, EachSinceStart, IsLife}
use Rattle.cct_laws_live.specs.Live.{shown, started}
use Rattle.cct_laws_live.specs.LiveStep.{LiveStep}
use Rattle.cct_laws_live.specs.Posts.{PostAt}
use Rattle.cct_laws_live.specs.Sends.{SentAt, sent_in}
use Rattle.cct_laws_live.proofs.Carrying.{each_shown, recorded}
use Rattle.cct_laws_live.proofs.Counted.{front_tallied}
use Rattle.cct_laws_live.proofs.Fronts.{front_since, since_shown}
use Rattle.cct_laws_live.proofs.Joining.{put_again}
use Rattle.cct_laws_live.proofs.Life.{life_shows}
use Rattle.cct_laws_live.proofs.LifeBooks.{free_ids}
use Rattle.cct_laws_live.proofs.Posting.{Orderly, posts_step}
use Rattle.cct_laws_live.proofs.Sends.{SendsWell, few_started, sends_step}
use Rattle.cct_laws_live.proofs.Undosed.{posts_shown, sends_shown, sent_shown}

-- a fact that each legal step keeps, and what it says of what a past shows
pub life_along : (Q R : List Entry → Type 0) (capacity : ℕ) (setup : Setup) (found : List Record) (steps : List LiveStep)
    (past : List Entry) → IsSoundSetup setup → IsLife capacity setup found steps past →
    ((before news : List Entry) (s : Step) → Ids setup before → Brought capacity setup before s news → Q before →
    Q (news ++ before)) → GoesOverForged Q → ((before : List Entry) → Q before → R (shown before)) → Q (started found) →
    R past
life_along Q R capacity setup found steps past sound life keeps over says start =
    let shows = life_shows capacity setup found steps past life in
    let follow = ap (all_follow setup) (put_again found) ∙ life.follow in
    subst R shows.shows (says shows.past
    (along_from capacity setup (λ s. ⊤) Q sound (λ before news s any ids told holds. keeps before news s ids told holds) over
    (started found) shows.steps shows.past (any_steps shows.steps)
    (free_ids setup (started found) (restart_frees (started found) tt) follow) shows.legal start).1)

-- ids stay fresh
pub life_fresh : EachLife (λ capacity setup found past. AreFresh found → AreFresh (records past))
life_fresh capacity setup found steps past sound life fresh =
    life_along (λ es. AreFresh (records es)) (λ es. AreFresh (records es)) capacity setup found steps past sound life
    (λ before news s ids told fresh.
    grows_fresh (records before) (records (news ++ before)) (step_grows capacity setup before news s ids told) fresh)
    (λ before addr fresh. fresh) (λ before fresh. subst AreFresh (recorded before) fresh)
    (subst AreFresh (sym (put_again found)) fresh)

-- nothing is sent by records that are found
anew_none : (r : Record) → anew_by r 0 ≡ 0
anew_none (record_of.Opened id addr count life) = refl
anew_none (record_of.Closed id paid unpaid) = refl
anew_none (record_of.Odd id life_before life_after) = refl
anew_none r = refl

put_sends_none : (here : Bool) (r : Record) (lines : List Line) → sent_in lines ≡ 0 →
    sent_in (cond here (put r ∷ []) [] ++ lines) ≡ 0
put_sends_none true r lines none = ap (anew_by r) none ∙ anew_none r
put_sends_none false r lines none = none

none_sent : (d : DeviceSetup) (found : List Record) → sent_in (lines_of d (map (λ r. entry.Put r) found)) ≡ 0
none_sent d [] = refl
none_sent d (r ∷ found) =
    let puts = map (λ r. entry.Put r) found in
    put_sends_none (owner puts r == d.addr) r (lines_of d puts) (none_sent d found)

none_at : (d : DeviceSetup) (found : List Record) → EachEntry (SentAt d) (map (λ r. entry.Put r) found)
none_at d [] = tt
none_at d (r ∷ found) = (tt, none_at d found)

-- each dispense is sent for an order that was opened in this life and that none was sent for
sends_start : (d : DeviceSetup) (found : List Record) → SendsWell d (started found)
sends_start d found =
    let none = none_sent d found in
    ((few_started (sent_in (lines_of d (map (λ r. entry.Put r) found))) (omega (arith, none)), tt), (tt, none_at d found))

pub life_sent : EachLife (λ capacity setup found past. (d : DeviceSetup) → IsOf setup d → EachEntry (SentAt d) past)
life_sent capacity setup found steps past sound life d own =
    life_along (SendsWell d) (EachEntry (SentAt d)) capacity setup found steps past sound life
    (λ before news s ids told both. sends_step capacity setup d sound own before news s tt ids told both)
    (λ before addr both. (both.0, (tt, both.1)))
    (λ before both. each_shown (SentAt d) (sends_shown d) before both.1) (sends_start d found)

pub life_few_sent : EachLife (λ capacity setup found past. (d : DeviceSetup) → IsOf setup d → sent_in (lines_of d past) ≤ 1)
life_few_sent capacity setup found steps past sound life d own =
    life_along (SendsWell d) (λ es. sent_in (lines_of d es) ≤ 1) capacity setup found steps past sound life
    (λ before news s ids told both. sends_step capacity setup d sound own before news s tt ids told both)
    (λ before addr both. (both.0, (tt, both.1)))
    (λ before both. subst (λ sent. sent ≤ 1) (sent_shown d before) both.0.0) (sends_start d found)

-- what is posted since the start was heard
pub life_posts : EachLife (λ capacity setup found past. (d : DeviceSetup) → IsOf setup d → EachSinceStart (PostAt d) past)
life_posts capacity setup found steps past sound life d own =
    life_along (λ es. Orderly d (lines_of d es) × EachSinceStart (PostAt d) es) (EachSinceStart (PostAt d)) capacity setup
    found steps past sound life
    (λ before news s ids told both.
    let well = posts_step capacity setup d sound own before news s ids told both.0 in
    (well.orderly, front_since (PostAt d) news before well.posts both.1))
    (λ before addr both. (both.0, (tt, both.1)))
    (λ before both. since_shown (PostAt d) (posts_shown d) before both.1) (tt, tt)

-- so what is posted is tallied, where the records that are found are
pub life_tallied : EachLife (λ capacity setup found past. (d : DeviceSetup) → IsOf setup d →
    IsTallied (told_in d.addr found) → IsTallied (told_in d.addr (records past)))
life_tallied capacity setup found steps past sound life d own tallied =
    life_along (λ es. Orderly d (lines_of d es) × IsTallied (told_in d.addr (records es)))
    (λ es. IsTallied (told_in d.addr (records es))) capacity setup found steps past sound life
    (λ before news s ids told both.
    let well = posts_step capacity setup d sound own before news s ids told both.0 in
    (well.orderly, front_tallied d news before well.posts both.1))
    (λ before addr both. both)
    (λ before both. subst (λ rs. IsTallied (told_in d.addr rs)) (recorded before) both.1)
    (tt, subst (λ rs. IsTallied (told_in d.addr rs)) (sym (put_again found)) tallied)
