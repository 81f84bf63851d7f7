-- A world of live hosts is what a bench reports: by its newest entry, which happened to a device,
-- or is the last of a step of a host.
use Rattle.std.proofs.Common.{◌≡◌, inl, inr, ℕ, Bool, true, false, cond, List, [], ◌∷◌, ◌++◌, refl, sym, ap, ◌∙◌, subst, Option, Some, None, All, true≢false}
use Rattle.std.specs.Prelude.{MatchBool, if◌then◌else◌, ⊤}
use Rattle.std.proofs.lemmas.List.Elements.{All-append, All-head, All-tail, All-nil, All-cons}
use Rattle.cct_model.specs.terms.family.Happening.{Happening}
use Rattle.cct_model.specs.terms.family.Happening.TheVariants as happening
use Rattle.cct_model.specs.terms.device.Setup.{Setup}
use Rattle.cct_model.specs.lines.command.Command.{Command}
use Rattle.cct_model.specs.lines.command.CommandNo.{CommandNo}
use Rattle.cct_model.specs.lines.command.CrashAt.{CrashAt}
use Rattle.cct_model.specs.lines.command.Step.{Step}
use Rattle.cct_model.specs.lines.command.Step.TheVariants as step
use Rattle.cct_model.specs.lines.record.Record.{Record}
use Rattle.cct_model.specs.lines.entry.Entry.{Entry}
use Rattle.cct_model.specs.lines.entry.Entry.TheVariants as entry
use Rattle.cct_model.specs.Family.{IsPlaced}
use Rattle.cct_model.specs.Honest.{HonestPast, forged_after}
use Rattle.cct_model.specs.Legal.{command_entry, due_at, Entries, EntriesOfHappening, EntriesOfRestart, EntriesOnWire, LegalFrom, RestartEntries, step_of}
use Rattle.cct_model.specs.Refusal.{refusal}
use Rattle.cct_model.specs.Script.{IsInRange}
use Rattle.cct_model.specs.Transcript.{heard_after, onto}
use Rattle.cct_laws.proofs.wire.ForgedEntriesLast.{on_wire}
use Rattle.cct_laws_live.specs.LiveStep.{LiveStep}
use Rattle.cct_laws_live.specs.LiveStep as live
use Rattle.cct_laws_live.specs.Live.{EachLive, IsTellable, LiveEntries, LiveFrom}
use Rattle.cct_laws_live.proofs.Alike.{Alike, alike_back, alike_chain}
use Rattle.cct_laws_live.proofs.Followed.{legal_on}
use Rattle.cct_laws_live.proofs.Onward.{totals_same, refusal_same, restart_over, next_over}
use Rattle.cct_laws_live_devices.specs.World.{Answers, AnswersAt, Befalls, IsJustTold, OverDevices, is_told, told}
use Rattle.cct_laws_live_devices.specs.Played.{IsPlayed, mended}
use Rattle.cct_laws_live_devices.proofs.Rehearing.{AreAnswered, IsLate, IsNews, one, two, next_again, reheard}
use Rattle.cct_laws_live_devices.proofs.Mending.{alike_mended, as_model, mended_happening, mended_honest}
use Rattle.cct_laws_live_devices.proofs.Unseen.{alike_told}

-- the entries of a step of a live host
restart_shape : (past news : List Entry) (calls : ℕ) (due : Option Record) → RestartEntries past calls due news → IsNews news
restart_shape past news calls None is = subst IsNews (sym is) (one _)
restart_shape past news calls (Some r) is = elim is [
  | inl bare ↦ subst IsNews (sym bare.1) (one _)
  | inr keeping ↦ subst IsNews (sym keeping.1) (two (entry.Kept r) _ tt)
]

start_shape : (setup : Setup) (past news : List Entry) (at : Option CrashAt) → EntriesOfRestart setup past at news → IsNews news
start_shape setup past news None is = subst IsNews (sym is) (one _)
start_shape setup past news (Some at) is = restart_shape past news at.calls (due_at setup past at.addr) is

shape_of : (capacity : ℕ) (setup : Setup) (past news : List Entry) (s : LiveStep) → LiveEntries capacity setup past s news →
    IsNews news
shape_of capacity setup past news (live.command c) is = subst IsNews (sym is) (one _)
shape_of capacity setup past news (live.next addr) is = (next_again is.0 (λ sent. sent) news setup past addr is.2).shape
shape_of capacity setup past news live.balance is = subst IsNews (sym is) (one _)
shape_of capacity setup past news (live.start at) is = start_shape setup past news at is

-- the steps of live hosts, the newest first
abbrev LiveTo : ℕ → Setup → List LiveStep → List Entry → Type 0
LiveTo capacity setup [] end = end ≡ []
LiveTo capacity setup (s ∷ steps) end =
    (news : List Entry) × (before : List Entry) × (end ≡ news ++ before) × IsTellable s
    × LiveEntries capacity setup before s news × LiveTo capacity setup steps before

live_to : (capacity : ℕ) (setup : Setup) (steps more : List LiveStep) (past end : List Entry) → All IsTellable steps →
    LiveTo capacity setup more past → LiveFrom capacity setup past steps end →
    (all : List LiveStep) × LiveTo capacity setup all end
live_to capacity setup [] more past end range to is = (more, subst (LiveTo capacity setup more) (sym is) to)
live_to capacity setup (s ∷ steps) more past end range to is =
    live_to capacity setup steps (s ∷ more) (is.0 ++ past) end (All-tail IsTellable s steps range)
    (is.0, past, refl, All-head IsTellable s steps range, is.1, to) is.2

-- a past that a bench reports
record Plays (capacity : ℕ) (setup : Setup) (past : List Entry) : Type 0 where
  steps : List Step
  in_range : All IsInRange steps
  legal : LegalFrom capacity setup [] steps past

plays_on : (capacity : ℕ) (setup : Setup) (past news : List Entry) (s : Step) → IsInRange s →
    Entries capacity setup past s news → Plays capacity setup past → Plays capacity setup (news ++ past)
plays_on capacity setup past news s range is plays = record {
  steps = plays.steps ++ s ∷ [];
  in_range = All-append IsInRange plays.steps (s ∷ []) plays.in_range (All-cons IsInRange s [] range (All-nil IsInRange));
  legal = legal_on capacity setup plays.steps (s ∷ []) [] past (news ++ past) plays.legal (news, is, refl);
}

-- what happens to a device is a step
range_of : (addr : ℕ) (what : Happening) → IsPlaced what → IsInRange (step_of addr what)
range_of addr (happening.Coin place) is = is
range_of addr happening.Alien is = tt
range_of addr (happening.Bill place) is = is
range_of addr happening.Fall is = tt
range_of addr happening.Jam is = tt
range_of addr happening.Reset is = tt

entries_of : (capacity : ℕ) (setup : Setup) (past news : List Entry) (addr : ℕ) (what : Happening) →
    EntriesOfHappening setup past addr what news → Entries capacity setup past (step_of addr what) news
entries_of capacity setup past news addr (happening.Coin place) is = is
entries_of capacity setup past news addr happening.Alien is = is
entries_of capacity setup past news addr (happening.Bill place) is = is
entries_of capacity setup past news addr happening.Fall is = is
entries_of capacity setup past news addr happening.Jam is = is
entries_of capacity setup past news addr happening.Reset is = is

befallen : (capacity : ℕ) (setup : Setup) (past : List Entry) (e : Entry) (b : Bool) → b ≡ false →
    MatchBool b ⊤ (Befalls setup past e) → Plays capacity setup (mended setup past) →
    Plays capacity setup (e ∷ mended setup past)
befallen capacity setup past e true off at plays = absurd (true≢false off)
befallen capacity setup past e false off at plays =
    plays_on capacity setup (mended setup past) (e ∷ []) (step_of at.0 at.1) (range_of at.0 at.1 at.2)
    (entries_of capacity setup (mended setup past) (e ∷ []) at.0 at.1 (mended_happening setup past (e ∷ []) at.0 at.1 at.3))
    plays

untold : (capacity : ℕ) (setup : Setup) (past : List Entry) (e : Entry) → is_told e ≡ false → AnswersAt setup past e →
    Plays capacity setup (mended setup past) → Plays capacity setup (mended setup (e ∷ past))
untold capacity setup past (entry.Wire addr sent piece) off at plays = absurd (true≢false off)
untold capacity setup past (entry.Ended addr end) off at plays = absurd (true≢false off)
untold capacity setup past (entry.Kept r) off at plays = absurd (true≢false off)
untold capacity setup past (entry.Fault f) off at plays =
    plays_on capacity setup (mended setup past) (entry.Fault f ∷ []) (step.Fault f) at refl plays
untold capacity setup past e off at plays = befallen capacity setup past e (is_told e) off at plays

-- what is heard in a step, and that it isn't forged
wire_answered : (setup : Setup) (past : List Entry) (e : Entry) → AnswersAt setup past e →
    AreAnswered (heard_after setup (mended setup past)) (e ∷ [])
wire_answered setup past (entry.Wire addr sent piece) at = (as_model setup past addr sent piece at, tt)
wire_answered setup past e at = tt

late_answered : (hears : List ℕ → List ℕ) (late : Entry) (news : List Entry) → IsLate late → AreAnswered hears news →
    AreAnswered hears (late ∷ news)
late_answered hears (entry.Ended addr end) news is are = are
late_answered hears (entry.Kept r) news is are = are
late_answered hears e news is are = absurd is

news_answered : (setup : Setup) (past news : List Entry) → IsNews news → Answers setup (news ++ past) →
    AreAnswered (heard_after setup (mended setup past)) news
news_answered setup past _ (one e) answers = wire_answered setup past e answers.0
news_answered setup past _ (two late first is) answers =
    late_answered (heard_after setup (mended setup past)) late (first ∷ []) is (wire_answered setup past first answers.1.0)

none_forged : (past news : List Entry) → HonestPast (news ++ past) → forged_after past news ≡ []
none_forged past [] honest = refl
none_forged past (entry.Wire addr sent piece ∷ news) honest =
    ap (λ b. if b then [] else entry.Forged addr ∷ []) honest.0
none_forged past (e ∷ news) honest = none_forged past news honest.1

-- the entries of a step, as the model hears
mended_one : (setup : Setup) (past : List Entry) (e : Entry) →
    mended setup (e ∷ past) ≡ reheard (heard_after setup (mended setup past)) (e ∷ []) ++ mended setup past
mended_one setup past (entry.Wire addr sent piece) = refl
mended_one setup past e = refl

mended_late : (setup : Setup) (past : List Entry) (late first : Entry) → IsLate late →
    mended setup (late ∷ first ∷ past)
    ≡ reheard (heard_after setup (mended setup past)) (late ∷ first ∷ []) ++ mended setup past
mended_late setup past (entry.Ended addr end) first is = ap (λ es. entry.Ended addr end ∷ es) (mended_one setup past first)
mended_late setup past (entry.Kept r) first is = ap (λ es. entry.Kept r ∷ es) (mended_one setup past first)
mended_late setup past e first is = absurd is

mended_news : (setup : Setup) (past news : List Entry) → IsNews news →
    mended setup (news ++ past) ≡ reheard (heard_after setup (mended setup past)) news ++ mended setup past
mended_news setup past _ (one e) = mended_one setup past e
mended_news setup past _ (two late first is) = mended_late setup past late first is

command_reheard : (hears : List ℕ → List ℕ) (c : Command) (why : Option CommandNo) →
    reheard hears (command_entry c why ∷ []) ≡ command_entry c why ∷ []
command_reheard hears c None = refl
command_reheard hears c (Some why) = refl

due_reheard : (hears : List ℕ → List ℕ) (past news : List Entry) (calls : ℕ) (due : Option Record) →
    RestartEntries past calls due news → reheard hears news ≡ news
due_reheard hears past news calls None is = ap (reheard hears) is ∙ sym is
due_reheard hears past news calls (Some r) is = elim is [
  | inl bare ↦ ap (reheard hears) bare.1 ∙ sym bare.1
  | inr keeping ↦ ap (reheard hears) keeping.1 ∙ sym keeping.1
]

start_reheard : (hears : List ℕ → List ℕ) (setup : Setup) (past news : List Entry) (at : Option CrashAt) →
    EntriesOfRestart setup past at news → reheard hears news ≡ news
start_reheard hears setup past news None is = ap (reheard hears) is ∙ sym is
start_reheard hears setup past news (Some at) is = due_reheard hears past news at.calls (due_at setup past at.addr) is

-- a step of a live host, after a past of which it saw this
step_by : (capacity : ℕ) (setup : Setup) (past before news : List Entry) (s : LiveStep) →
    Alike (mended setup past) before → IsTellable s → LiveEntries capacity setup before s news →
    AreAnswered (heard_after setup (mended setup past)) news →
    HonestPast (reheard (heard_after setup (mended setup past)) news ++ mended setup past) →
    Plays capacity setup (mended setup past) →
    Plays capacity setup (reheard (heard_after setup (mended setup past)) news ++ mended setup past)
step_by capacity setup past before news (live.command c) alike range is are honest plays =
    let now = mended setup past in
    plays_on capacity setup now (reheard (heard_after setup now) news) (step.Command c) range
    (ap (reheard (heard_after setup now)) is ∙ command_reheard (heard_after setup now) c (refusal capacity setup before c)
    ∙ ap (λ why. command_entry c why ∷ []) (sym (refusal_same capacity setup now before c alike))) plays
step_by capacity setup past before news (live.next addr) alike range is are honest plays =
    let now = mended setup past in
    let news1 = reheard (heard_after setup now) news in
    let over = next_over (λ sent. is.0) setup before now news addr (alike_back now before alike) is.2 in
    let on = on_wire setup now addr news1 ((next_again is.0 (heard_after setup now) news setup now addr over).again are) in
    plays_on capacity setup now news1 (step.Next addr) tt
    (subst (λ forged. EntriesOnWire setup now addr (forged ++ news1)) (none_forged now news1 honest) on) plays
step_by capacity setup past before news live.balance alike range is are honest plays =
    let now = mended setup past in
    plays_on capacity setup now (reheard (heard_after setup now) news) step.Balance tt
    (ap (reheard (heard_after setup now)) is
    ∙ ap (λ t. entry.Balance t ∷ []) (sym (totals_same setup now before alike))) plays
step_by capacity setup past before news (live.start at) alike range is are honest plays =
    let now = mended setup past in
    let over = restart_over setup before now news at (alike_back now before alike) is in
    plays_on capacity setup now (reheard (heard_after setup now) news) (step.Crash at 0) range
    (subst (EntriesOfRestart setup now at) (sym (start_reheard (heard_after setup now) setup now news at over)) over) plays

step_on : (capacity : ℕ) (setup : Setup) (past before news : List Entry) (s : LiveStep) → told past ≡ before → IsTellable s →
    LiveEntries capacity setup before s news → IsNews news → Answers setup (news ++ past) → Answers setup past →
    HonestPast (news ++ past) → Plays capacity setup (mended setup past) → Plays capacity setup (mended setup (news ++ past))
step_on capacity setup past before news s same range is shape answers earlier honest plays =
    let alike = alike_chain (mended setup past) past before (alike_mended setup past earlier)
    (subst (Alike past) same (alike_told past)) in
    let whole = mended_news setup past news shape in
    subst (Plays capacity setup) (sym whole)
    (step_by capacity setup past before news s alike range is (news_answered setup past news shape answers)
    (subst HonestPast whole (mended_honest setup (news ++ past) honest)) plays)

-- a world, by its newest entry
first_is : {A : Type 0} (x y : A) (xs ys : List A) → (x ∷ xs) ≡ (y ∷ ys) → x ≡ y
first_is x y xs ys same = ap (λ zs. head_or x zs) same
  where
    head_or : {A : Type 0} → A → List A → A
    head_or x [] = x
    head_or x (z ∷ zs) = z

abbrev rest_of : {A : Type 0} → List A → List A
rest_of [] = []
rest_of (x ∷ xs) = xs

rest_is : {A : Type 0} (x y : A) (xs ys : List A) → (x ∷ xs) ≡ (y ∷ ys) → xs ≡ ys
rest_is x y xs ys same = ap rest_of same

abbrev is_none_in : {A : Type 0} → List A → Bool
is_none_in [] = true
is_none_in (x ∷ xs) = false

not_none : {A : Type 0} (x : A) (xs : List A) → (x ∷ xs) ≡ [] → ⊥
not_none x xs same = true≢false (sym (ap is_none_in same))

late_told : (setup : Setup) (past : List Entry) (e : Entry) → IsLate e → AnswersAt setup past e → IsJustTold past
late_told setup past (entry.Ended addr end) is at = at
late_told setup past (entry.Kept r) is at = at
late_told setup past e is at = absurd is

module _ (capacity : ℕ) (setup : Setup) where
  abbrev Grows : List Entry → Type 0
  Grows past = (steps : List LiveStep) (end : List Entry) → LiveTo capacity setup steps end → told past ≡ end →
      Answers setup past → HonestPast past → Plays capacity setup (mended setup past)

  by_one : (past : List Entry) (e : Entry) (before : List Entry) (s : LiveStep) (steps : List LiveStep) → Grows past →
      told past ≡ before → IsTellable s → LiveEntries capacity setup before s (e ∷ []) → LiveTo capacity setup steps before →
      Answers setup (e ∷ past) → HonestPast (e ∷ past) → Plays capacity setup (mended setup (e ∷ past))
  by_one past e before s steps grows same range is to answers honest =
      step_on capacity setup past before (e ∷ []) s same range is (one e) answers answers.1 honest
      (grows steps before to same answers.1 honest.1)

  by_two : (late : Entry) (past : List Entry) (first : Entry) (before : List Entry) (s : LiveStep) (steps : List LiveStep) →
      Grows (rest_of past) → told past ≡ first ∷ before → IsLate late → IsTellable s →
      LiveEntries capacity setup before s (late ∷ first ∷ []) → LiveTo capacity setup steps before →
      Answers setup (late ∷ past) → HonestPast (late ∷ past) → Plays capacity setup (mended setup (late ∷ past))
  by_two late [] first before s steps grows same is_late range is to answers honest =
      absurd (late_told setup [] late is_late answers.0)
  by_two late (e ∷ past) first before s steps grows same is_late range is to answers honest =
      let just : is_told e ≡ true = late_told setup (e ∷ past) late is_late answers.0 in
      let whole : (e ∷ told past) ≡ (first ∷ before) =
      subst (λ b. cond b (e ∷ told past) (told past) ≡ first ∷ before) just same in
      let below = rest_is e first (told past) before whole in
      let here = subst (λ x. LiveEntries capacity setup before s (late ∷ x ∷ [])) (sym (first_is e first (told past) before whole)) is in
      step_on capacity setup past before (late ∷ e ∷ []) s below range here (two late e is_late) answers answers.1.1 honest
      (grows steps before to below answers.1.1 honest.1.1)

  by_shape : (e : Entry) (past news before : List Entry) (s : LiveStep) (steps : List LiveStep) → Grows past →
      Grows (rest_of past) → IsNews news → (e ∷ told past) ≡ (news ++ before) → IsTellable s →
      LiveEntries capacity setup before s news → LiveTo capacity setup steps before → Answers setup (e ∷ past) →
      HonestPast (e ∷ past) → Plays capacity setup (mended setup (e ∷ past))
  by_shape e past _ before s steps grows below (one x) same range is to answers honest =
      by_one past e before s steps grows (rest_is e x (told past) before same) range
      (subst (λ y. LiveEntries capacity setup before s (y ∷ [])) (sym (first_is e x (told past) before same)) is) to answers honest
  by_shape e past _ before s steps grows below (two late first is_late) same range is to answers honest =
      let newest = first_is e late (told past) (first ∷ before) same in
      by_two e past first before s steps below (rest_is e late (told past) (first ∷ before) same)
      (subst IsLate (sym newest) is_late) range
      (subst (λ y. LiveEntries capacity setup before s (y ∷ first ∷ [])) (sym newest) is) to answers honest

  by_told : (e : Entry) (past : List Entry) (b : Bool) → is_told e ≡ b → Grows past → Grows (rest_of past) →
      (steps : List LiveStep) (end : List Entry) → LiveTo capacity setup steps end →
      cond b (e ∷ told past) (told past) ≡ end → Answers setup (e ∷ past) → HonestPast (e ∷ past) →
      Plays capacity setup (mended setup (e ∷ past))
  by_told e past false is grows below steps end to same answers honest =
      untold capacity setup past e is answers.0 (grows steps end to same answers.1 honest.1)
  by_told e past true is grows below [] end to same answers honest = absurd (not_none e (told past) (same ∙ to))
  by_told e past true is grows below (s ∷ steps) end to same answers honest =
      by_shape e past to.0 to.1 s steps grows below (shape_of capacity setup to.1 to.0 s to.4) (same ∙ to.2) to.3 to.4 to.5
      answers honest

  each_grows : (past : List Entry) → Grows past × Grows (rest_of past)
  each_grows [] = (none, none)
    where
      none : Grows []
      none steps end to same answers honest = record { steps = []; in_range = All-nil IsInRange; legal = refl }
  each_grows (e ∷ past) =
      let both = each_grows past in (by_told e past (is_told e) refl both.0 both.1, both.0)

pub world_from : (capacity : ℕ) (setup : Setup) (steps : List LiveStep) (world past : List Entry) → All IsTellable steps →
    LiveFrom capacity setup [] steps past → OverDevices setup world past → IsPlayed capacity setup (mended setup world)
world_from capacity setup steps world past range is over =
    let to = live_to capacity setup steps [] [] past range refl is in
    let plays = (each_grows capacity setup world).0 to.0 past to.1 over.tells over.answered over.honest in
    record { steps = plays.steps; in_range = plays.in_range; legal = plays.legal }

pub world_played : EachLive (λ capacity setup transcript. (world : List Entry) → OverDevices setup world (onto [] transcript) →
    IsPlayed capacity setup (mended setup world))
world_played capacity setup steps transcript sound range is world over =
    world_from capacity setup steps world (onto [] transcript) range is over
