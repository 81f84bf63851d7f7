-- What is done of trials: each step of each round is asked, and what comes is right; or else why
-- not.
use Rattle.std.specs.Prelude.{◌≡◌, ◌⊎◌, ⊤, ℕ, zero, suc, ◌+◌, ◌<◌, ◌==◌, ◌&&◌, Bool, true, false}
use Rattle.std.specs.Prelude.{List, ◌∷◌, length, Option, Some, None, Result, slice_index_or}
use Rattle.std.specs.List.{Contains}
use Rattle.cct_edge.specs.declared.fault.Failed.{Failed}
use Rattle.cct_model_wire.specs.declared.device.DeviceSetup.{DeviceSetup}
use Rattle.cct_model_wire.specs.declared.device.Setup.{Setup}
use Rattle.cct_model_wire.specs.Exchange.{after_echo}
use Rattle.cct_probe_plan.specs.declared.judging.Shown.TheVariants as shown
use Rattle.cct_probe_plan.specs.declared.memory.Memory.{Memory}
use Rattle.cct_probe_plan.specs.declared.plan.Ask.TheVariants as ask
use Rattle.cct_probe_plan.specs.declared.plan.Need.{Need}
use Rattle.cct_probe_plan.specs.declared.plan.Need.TheVariants as need
use Rattle.cct_probe_plan.specs.declared.plan.Say.{Say}
use Rattle.cct_probe_plan.specs.declared.plan.Say.TheVariants as say
use Rattle.cct_probe_plan.specs.declared.plan.Step.{Step}
use Rattle.cct_probe_plan.specs.declared.plan.Step.TheVariants as step
use Rattle.cct_probe_plan.specs.declared.plan.Trial.{Trial}
use Rattle.cct_probe_plan.specs.declared.plan.Want.{Want}
use Rattle.cct_probe_plan.specs.declared.premise.Common.TheVariants as common
use Rattle.cct_probe_plan.specs.declared.premise.Premise.{Premise}
use Rattle.cct_probe_plan.specs.declared.premise.Premise.TheVariants as premise
use Rattle.cct_probe_plan.specs.Closing.{is_for}
use Rattle.cct_probe_plan.specs.Judging.{judged, kept_judged, numbers_of, reply_after}
use Rattle.cct_probe_plan.specs.Tries.{is_at_device, is_of_line}
use Rattle.cct_probe_run.specs.declared.acting.TheConstants.{MOST_WAITS}
use Rattle.cct_probe_run.specs.declared.acting.Done.{Done}
use Rattle.cct_probe_run.specs.declared.acting.Done.TheVariants as done
use Rattle.cct_probe_run.specs.declared.bench.Bench.{Bench}
use Rattle.cct_probe_run.specs.declared.bench.Leave.{Leave}
use Rattle.cct_probe_run.specs.declared.findings.Why.{Why}
use Rattle.cct_probe_run.specs.declared.findings.Why.TheVariants as why
use Rattle.cct_probe_run.specs.declared.runner.Ended.{Ended}
use Rattle.cct_probe_run.specs.declared.runner.Ended.TheVariants as ended
use Rattle.cct_probe_run.specs.declared.runner.Presence.{Presence}
use Rattle.cct_probe_run.specs.declared.runner.Presence.TheVariants as presence
use Rattle.cct_probe_run.specs.Leaving.{Rests, Sent}
use Rattle.cct_probe_run.specs.Plays.{IsNoEmptyOrder, Plays, Tells, begins_broken, coins_of}

-- A status is a reply of four bytes, and has no coin left to pay.
abbrev pub is_paid : List ℕ → Bool
is_paid (to ∷ many ∷ source ∷ header ∷ counter ∷ left ∷ more) =
    (many == 4) && (header == 0) && (left == 0)
is_paid bytes = false

-- So is what follows the echo.
abbrev pub has_paid : Option (List ℕ) → Bool
has_paid (Some bytes) = is_paid bytes
has_paid None = false

-- Some device answered.
abbrev pub has_heard : Ended → Bool
has_heard ended.NothingHeard = false
has_heard this = true

-- A step stands at a place of these.
abbrev pub IsAt : List Step → ℕ → Step → Type 0
IsAt steps place this = (place < length steps) × (slice_index_or steps place this ≡ this)

-- A need isn't met, and this is why.
abbrev pub IsLacking : Leave → ℕ → Need → Why → Type 0
IsLacking leave asked need.Hands why.Hands = leave.hands ≡ false
IsLacking leave asked need.Long why.Long = leave.long ≡ false
IsLacking leave asked need.Long why.Hands = leave.hands ≡ false
IsLacking leave asked (need.Coins coins) why.Coins = leave.coins < asked + coins
IsLacking leave asked this reason = ⊥

-- An order would be of more coins than may be ordered, or of none.
abbrev pub IsTooMuch : {L K : Type 0} → Say → Bench L K → Type 0
IsTooMuch said bench = IsNoEmptyOrder said → bench.leave.coins < bench.asked + coins_of said

module _ {L K : Type 0} (reads : L → Option (List ℕ) → L → Type 0)
    (writes : L → List ℕ → Result (Unit {0}) Failed → L → Type 0)
    (puts : K → List ℕ → Result (Unit {0}) Failed → K → Type 0) (setup : Setup)
    (trials : List Trial) where
  -- An exchange was made, and what came is right: what is kept of the device is as it says then.
  pub record Asked (device : DeviceSetup) (round : ℕ) (tried : Premise) (said : Say) (wanted : Want)
      (kept later : Memory) (before after : Bench L K) : Type 0 where
    pub mid : Bench L K
    pub sent : Sent reads writes puts setup device round said before mid
    pub right : judged device round tried kept wanted
        mid.heard.items (after_echo mid.sent.items mid.heard.items) ≡ shown.Right
    pub numbers : numbers_of later ≡ numbers_of (kept_judged device round tried kept wanted
        (after_echo mid.sent.items mid.heard.items))
    pub reply : later.reply.items ≡ reply_after mid.sent.items
        (after_echo mid.sent.items mid.heard.items) kept.reply.items
    pub rests : Rests reads writes puts setup mid after

  -- A hopper was asked for its status until that had no coin left to pay.
  pub record Waited (device : DeviceSetup) (round : ℕ) (before after : Bench L K) : Type 0 where
    pub mid : Bench L K
    pub next : Bench L K
    pub plays : Plays reads writes puts setup trials before mid
    pub sent : Sent reads writes puts setup device round (say.Ask (ask.Plain 166)) mid next
    pub paid : has_paid (after_echo next.sent.items next.heard.items) ≡ true
    pub rests : Rests reads writes puts setup next after

  -- A hopper was asked for its status so often, and each time it had coins left to pay.
  abbrev pub Unpaid : DeviceSetup → ℕ → ℕ → Bench L K → Bench L K → Type 0
  Unpaid device round zero before after = after ≡ before
  Unpaid device round (suc many) before after = (mid : Bench L K) × (next : Bench L K)
      × Unpaid device round many before mid
      × Sent reads writes puts setup device round (say.Ask (ask.Plain 166)) mid next
      × (has_paid (after_echo next.sent.items next.heard.items) ≡ false)
      × Rests reads writes puts setup next after

  -- A step was done, and what came is right; where events are waited for nothing need come.
  abbrev pub StepDone : DeviceSetup → ℕ → Premise → Step → Memory → Memory → Bench L K → Bench L K
      → Type 0
  StepDone device round tried (step.Asks said wanted) kept later before after =
      Asked device round tried said wanted kept later before after
  StepDone device round tried step.Waits kept later before after =
      (later ≡ kept) × Waited device round before after
  StepDone device round tried (step.Person act) kept later before after =
      (later ≡ kept) × Rests reads writes puts setup before after
  StepDone device round tried (step.Settles more) kept later before after =
      (later ≡ kept) × Plays reads writes puts setup trials before after

  -- So many of these steps were, one after the other.
  abbrev pub StepsDone : DeviceSetup → ℕ → Premise → List Step → ℕ → Memory → Memory → Bench L K
      → Bench L K → Type 0
  StepsDone device round tried steps zero kept later before after =
      (later ≡ kept) × (after ≡ before)
  StepsDone device round tried steps (suc many) kept later before after = (between : Memory)
      × (mid : Bench L K) × StepsDone device round tried steps many kept between before mid
      × (this : Step) × IsAt steps many this
      × StepDone device round tried this between later mid after

  -- So many rounds of a trial were, with all its steps in each.
  abbrev pub RoundsDone : DeviceSetup → Trial → ℕ → Memory → Memory → Bench L K → Bench L K → Type 0
  RoundsDone device trial zero kept later before after = (later ≡ kept) × (after ≡ before)
  RoundsDone device trial (suc many) kept later before after = (between : Memory)
      × (mid : Bench L K) × RoundsDone device trial many kept between before mid
      × StepsDone device many trial.premise trial.steps.now (length trial.steps.now) between later
      mid after

  -- An exchange was made that wasn't answered as it has to be, which another premise is for.
  pub record Unanswered (device : DeviceSetup) (round : ℕ) (tried : Premise) (said : Say)
      (wanted : Want) (kept : Memory) (before after : Bench L K) : Type 0 where
    pub mid : Bench L K
    pub sent : Sent reads writes puts setup device round said before mid
    pub shows : (judged device round tried kept wanted
        mid.heard.items (after_echo mid.sent.items mid.heard.items) ≡ shown.Untold)
        ⊎ (judged device round tried kept wanted
        mid.heard.items (after_echo mid.sent.items mid.heard.items) ≡ shown.Refused)
    pub plays : Plays reads writes puts setup trials mid after

  -- A trial can't go on after a step, and this is why.
  abbrev pub IsLeft : DeviceSetup → ℕ → Premise → Step → Memory → Bench L K → Bench L K → Why
      → Type 0
  IsLeft device round tried (step.Asks said wanted) kept before after why.Coins =
      IsTooMuch said before
  IsLeft device round tried (step.Asks said wanted) kept before after why.Silent =
      Unanswered device round tried said wanted kept before after
  IsLeft device round tried step.Waits kept before after why.Silent =
      Unpaid device round MOST_WAITS before after
  IsLeft device round tried (step.Person act) kept before after why.Skipped = ⊤
  IsLeft device round tried this kept before after reason = ⊥

  -- What came of a step.
  abbrev pub StepCame : DeviceSetup → ℕ → Premise → Step → Memory → Memory → Bench L K → Bench L K
      → Done → Type 0
  StepCame device round tried this kept later before after done.On =
      StepDone device round tried this kept later before after
  StepCame device round tried this kept later before after (done.Broken broken) = ⊤
  StepCame device round tried this kept later before after (done.Untried reason) =
      IsLeft device round tried this kept before after reason

  -- A round can't go on after one of these steps.
  abbrev pub RoundLeft : DeviceSetup → ℕ → Premise → List Step → Bench L K → Bench L K → Why → Type
      0
  RoundLeft device round tried steps before after reason = (mid : Bench L K) × (kept : Memory)
      × (this : Step) × Contains steps this × Plays reads writes puts setup trials before mid
      × IsLeft device round tried this kept mid after reason

  -- What came of a round.
  abbrev pub RoundCame : DeviceSetup → ℕ → Premise → List Step → Memory → Memory → Bench L K
      → Bench L K → Done → Type 0
  RoundCame device round tried steps kept later before after done.On =
      StepsDone device round tried steps (length steps) kept later before after
  RoundCame device round tried steps kept later before after (done.Broken broken) = ⊤
  RoundCame device round tried steps kept later before after (done.Untried reason) =
      RoundLeft device round tried steps before after reason

  -- A trial can't go on after one of its steps.
  abbrev pub TrialLeft : DeviceSetup → Trial → Bench L K → Bench L K → Why → Type 0
  TrialLeft device trial before after reason = (mid : Bench L K) × (round : ℕ)
      × Plays reads writes puts setup trials before mid
      × RoundLeft device round trial.premise trial.steps.now mid after reason

  -- What came of all rounds.
  abbrev pub RoundsCame : DeviceSetup → Trial → Memory → Memory → Bench L K → Bench L K → Done
      → Type 0
  RoundsCame device trial kept later before after done.On = (mid : Bench L K)
      × RoundsDone device trial trial.rounds kept later before mid
      × Rests reads writes puts setup mid after
  RoundsCame device trial kept later before after (done.Broken broken) = ⊤
  RoundsCame device trial kept later before after (done.Untried reason) =
      TrialLeft device trial before after reason

  -- A premise was reported as broken, by one line.
  abbrev pub TellsThat : Premise → Bench L K → Bench L K → Type 0
  TellsThat this before after = (one : Tells reads writes puts setup trials before after)
      × (is : begins_broken one.piece ≡ true) × ((one.shows is).this ≡ this)

  -- What came of a trial: all of it was done and right; or a premise was reported as broken; or it
  -- wasn't begun, or can't go on.
  abbrev pub TrialCame : DeviceSetup → Trial → Bench L K → Bench L K → Done → Type 0
  TrialCame device trial before after done.On = (kept : Memory) × (later : Memory)
      × (mid : Bench L K) × Rests reads writes puts setup before mid
      × RoundsCame device trial kept later mid after done.On
  TrialCame device trial before after (done.Broken this) = (mid : Bench L K)
      × Plays reads writes puts setup trials before mid × TellsThat this mid after
  TrialCame device trial before after (done.Untried reason) =
      IsLacking before.leave before.asked trial.need reason
      ⊎ TrialLeft device trial before after reason

  -- It is concluded: a premise that is broken is reported. The answer is whether the device
  -- answered.
  abbrev pub Concludes : Done → Bench L K → Bench L K → Bool → Type 0
  Concludes done.On before after answered = (after ≡ before) × (answered ≡ true)
  Concludes (done.Broken this) before after answered = TellsThat this before after
      × (answered ≡ false → this ≡ premise.Common common.Answers)
  Concludes (done.Untried reason) before after answered = (after ≡ before) × (answered ≡ true)

  -- That came of a trial between two moments.
  abbrev pub CameIn : DeviceSetup → Trial → Done → Bench L K → Bench L K → Type 0
  CameIn device trial came first last = (before : Bench L K) × (after : Bench L K)
      × Plays reads writes puts setup trials first before
      × TrialCame device trial before after came
      × Plays reads writes puts setup trials after last

  -- Something came of a trial between two moments.
  abbrev pub Came : DeviceSetup → Trial → Bench L K → Bench L K → Type 0
  Came device trial first last = (came : Done) × CameIn device trial came first last

  -- Something came of a trial. The answer is whether the device answered.
  abbrev pub TryCame : DeviceSetup → Trial → Bench L K → Bench L K → Bool → Type 0
  TryCame device trial first last answered = (came : Done) × CameIn device trial came first last
      × (answered ≡ false → came ≡ done.Broken (premise.Common common.Answers))

  -- That a device answers was reported as broken.
  abbrev pub IsAbsent : DeviceSetup → Bench L K → Bench L K → Type 0
  IsAbsent device first last = (other : Trial) × Contains trials other
      × CameIn device other (done.Broken (premise.Common common.Answers)) first last

  -- A trial was tried at a device, or the device doesn't answer.
  abbrev pub WasTried : DeviceSetup → Trial → Bench L K → Bench L K → Type 0
  WasTried device trial first last =
      Came device trial first last ⊎ IsAbsent device first last

  -- A device answers as far as is known, or it doesn't, as was reported.
  abbrev pub IsHere : DeviceSetup → Presence → Bench L K → Bench L K → Type 0
  IsHere device presence.Absent first last = IsAbsent device first last
  IsHere device presence.Gone first last = IsAbsent device first last
  IsHere device this first last = ⊤

  -- A trial was tried at a device if it is for that, and this is known of the device now.
  abbrev pub NextTried : DeviceSetup → Trial → Bench L K → Bench L K → Presence → Type 0
  NextTried device trial first last this =
      ((is_at_device trial.part && is_for trial.who device.body) ≡ true
      → WasTried device trial first last) × IsHere device this first last

  -- Each of these trials that is for a device was tried at it.
  abbrev pub AllTried : DeviceSetup → List Trial → Bench L K → Bench L K → Type 0
  AllTried device some first last = (trial : Trial) → Contains some trial
      → (is_at_device trial.part && is_for trial.who device.body) ≡ true
      → WasTried device trial first last

  -- At each of these devices each trial that is for it was tried.
  abbrev pub EachTried : List DeviceSetup → Bench L K → Bench L K → Type 0
  EachTried devices first last = (device : DeviceSetup) → Contains devices device
      → AllTried device trials first last

  -- Each of these trials that is of the line was tried, by one device.
  abbrev pub LineTried : DeviceSetup → List Trial → Bench L K → Bench L K → Type 0
  LineTried device some first last = (trial : Trial) → Contains some trial
      → is_of_line trial.part ≡ true → Came device trial first last

  -- All trials of a plan were tried, those of the line too if some device answers.
  pub record AllDone (is_heard : Bool) (first last : Bench L K) : Type 0 where
    pub devices : EachTried setup.devices first last
    pub line : is_heard ≡ true → (device : DeviceSetup) × LineTried device trials first last
