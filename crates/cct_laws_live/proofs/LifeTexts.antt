-- The text of what one life reports, in bytes, says that.
use Rattle.std.proofs.Common.{◌≡◌, ℕ, List, [], ◌∷◌, map, ap, sym, ◌∙◌, subst, All}
use Rattle.std.proofs.lemmas.List.Elements.{All-head, All-tail, All-weaker}
use Rattle.cct_model.specs.terms.device.Setup.{Setup}
use Rattle.cct_model.specs.lines.record.Record.{Record}
use Rattle.cct_model.specs.lines.entry.Entry.{Entry}
use Rattle.cct_model.specs.lines.entry.Entry.TheVariants as entry
use Rattle.cct_model.specs.Following.{all_follow}
use Rattle.cct_model.specs.Setup.{IsSoundSetup}
use Rattle.cct_model.specs.Text.{text}
use Rattle.cct_model.specs.Transcript.{onto}
use Rattle.cct_text.specs.Written.{IsRecord, IsWritten}
use Rattle.cct_text.proofs.Whole.{text_is_one}
use Rattle.cct_laws.specs.Law.{EachEntry}
use Rattle.cct_laws.proofs.steps.OneMore.{each_onto, onto_each}
use Rattle.cct_laws.proofs.jobs.SeenAtOne.{along_from}
use Rattle.cct_laws.proofs.money.FromRecordsAlone.{restart_frees}
use Rattle.cct_laws.proofs.text.Texts.{Good, Says, all_say, good_step}
use Rattle.cct_laws.proofs.text.EntriesInRange.{AllTold, IsTold, told_written}
use Rattle.cct_laws_live.specs.LiveStep.{LiveStep}
use Rattle.cct_laws_live.specs.Live.{LiveFrom, started}
use Rattle.cct_laws_live.specs.Texts.{HearsBytes, IsLifeInBytes}
use Rattle.cct_laws_live.proofs.Carrying.{each_shown}
use Rattle.cct_laws_live.proofs.Followed.{follows_from}
use Rattle.cct_laws_live.proofs.Joining.{put_again}
use Rattle.cct_laws_live.proofs.Life.{all_tell, start_shown}
use Rattle.cct_laws_live.proofs.LifeBooks.{free_ids}
use Rattle.cct_laws_live.proofs.Texts.{all_of}

-- what is found hears nothing, and is reported
puts_hear : (found : List Record) → EachEntry (λ older e. HearsBytes e) (map (λ r. entry.Put r) found)
puts_hear [] = tt
puts_hear (r ∷ found) = (tt, puts_hear found)

puts_told : (found : List Record) → All IsRecord found → AllTold (map (λ r. entry.Put r) found)
puts_told [] all = tt
puts_told (r ∷ found) all = (All-head IsRecord r found all, puts_told found (All-tail IsRecord r found all))

-- every entry that a life reports is written
pub life_written : (capacity : ℕ) (setup : Setup) (found : List Record) (steps : List LiveStep) (transcript : List Entry) →
    IsSoundSetup setup → IsLifeInBytes capacity setup found steps transcript → All IsWritten transcript
life_written capacity setup found steps transcript sound is =
    let start = started found in
    let end = onto start transcript in
    let by =
    follows_from capacity setup steps start end (all_tell steps is.life.steps_are)
    (subst (λ es. LiveFrom capacity setup es steps end) (sym (start_shown found)) is.life.live) in
    let heard : All HearsBytes end = all_of HearsBytes end (each_onto HearsBytes start transcript (tt, puts_hear found) is.heard) in
    let follow = ap (all_follow setup) (put_again found) ∙ is.life.follow in
    let good =
    (along_from capacity setup Says Good sound (good_step capacity setup sound)
    (λ past addr good. record { told = (tt, good.told); scan = good.scan }) start by.steps by.past
    (all_say by.steps by.in_range (by.bytes is.said heard)) (free_ids setup start (restart_frees start tt) follow) by.legal
    (record { told = (tt, puts_told found is.masks); scan = tt })).1 in
    let told : AllTold end =
    subst AllTold by.shows (each_shown (λ older e. IsTold e) (λ past e is. is) by.past good.told) in
    All-weaker IsTold IsWritten told_written transcript (onto_each IsTold start transcript told).1

pub life_text : (capacity room : ℕ) (setup : Setup) (found others : List Record) (steps more : List LiveStep)
    (first second : List Entry) → IsSoundSetup setup → IsLifeInBytes capacity setup found steps first →
    IsLifeInBytes room setup others more second → text first ≡ text second → first ≡ second
life_text capacity room setup found others steps more first second sound one other same =
    text_is_one first second (life_written capacity setup found steps first sound one)
    (life_written room setup others more second sound other) same
