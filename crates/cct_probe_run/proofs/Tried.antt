-- What is done of trials, one after the other.
use Rattle.std.proofs.Common.{◌≡◌, ◌⊎◌, ◌∙◌, ◌<◌, ◌≤◌, ◌+◌, ◌&&◌, inl, inr, ap, arith, refl, subst, sym, ℕ, zero, suc, Bool, true, false, List, [], ◌∷◌, ◌++◌, length, take, get_or, Option, Result, Ok, Err, IfOk}
use Rattle.std.proofs.lemmas.List.{take_all, take_more}
use Rattle.std.specs.List.{Contains}
use Rattle.cct_edge.specs.declared.fault.Failed.{Failed}
use Rattle.cct_model_wire.specs.declared.device.DeviceSetup.{DeviceSetup}
use Rattle.cct_model_wire.specs.declared.device.Setup.{Setup}
use Rattle.cct_model_wire.specs.Exchange.{after_echo}
use Rattle.cct_probe_plan.specs.declared.memory.Memory.{Memory}
use Rattle.cct_probe_plan.specs.declared.plan.Ask.TheVariants as ask
use Rattle.cct_probe_plan.specs.declared.plan.Say.TheVariants as say
use Rattle.cct_probe_plan.specs.declared.plan.Step.{Step}
use Rattle.cct_probe_plan.specs.declared.plan.Trial.{Trial}
use Rattle.cct_probe_plan.specs.declared.premise.Common.TheVariants as common
use Rattle.cct_probe_plan.specs.declared.premise.Premise.{Premise}
use Rattle.cct_probe_plan.specs.declared.premise.Premise.TheVariants as premise
use Rattle.cct_probe_plan.specs.Closing.{is_for}
use Rattle.cct_probe_plan.specs.Tries.{is_at_device, is_of_line}
use Rattle.cct_probe_run.specs.declared.acting.Done.{Done}
use Rattle.cct_probe_run.specs.declared.acting.Done.TheVariants as done
use Rattle.cct_probe_run.specs.declared.bench.Bench.{Bench}
use Rattle.cct_probe_run.specs.declared.findings.Why.{Why}
use Rattle.cct_probe_run.specs.declared.runner.Presence.TheVariants as presence
use Rattle.cct_probe_run.specs.Leaving.{Rests, Sent}
use Rattle.cct_probe_run.specs.Plays.{Plays, exchanged, not_begun, told}
use Rattle.cct_probe_run.specs.Doing.{AllDone, AllTried, Came, CameIn, Concludes, EachTried, IsAbsent, IsLacking, LineTried, NextTried, RoundCame, RoundLeft, RoundsCame, RoundsDone, StepCame, StepDone, StepsDone, TryCame, Unpaid, WasTried, has_paid}

pub clash : false ≡ true → ⊥
clash e = cc

-- what stands at a place, whatever stands past the end
pub at_place : {X : Type 0} (xs : List X) (place : ℕ) (d : X) → place < length xs → get_or xs place (get_or xs place d) ≡ get_or xs place d
at_place [] place d within = absurd (omega (arith, within))
at_place (x ∷ xs) zero d within = refl
at_place (x ∷ xs) (suc place) d within = at_place xs place d (omega (arith, within))

later_on : {X : Type 0} (z x y : X) (zs : List X) → Contains zs y ⊎ (x ≡ y) → Contains (z ∷ zs) y ⊎ (x ≡ y)
later_on z x y zs (inl (at, within, is)) = inl (suc at, omega (arith, within), is)
later_on z x y zs (inr same) = inr same

-- what a list with one more holds
push_cases : {X : Type 0} (xs : List X) (x y : X) → Contains (xs ++ x ∷ []) y → Contains xs y ⊎ (x ≡ y)
push_cases [] x y (zero, within, is) = inr is
push_cases [] x y (suc at, within, is) = absurd (omega (arith, within))
push_cases (z ∷ zs) x y (zero, within, is) = inl (zero, omega arith, is)
push_cases (z ∷ zs) x y (suc at, within, is) = later_on z x y zs (push_cases zs x y (at, omega (arith, within), is))

-- what holds anyway holds if it is so
pub whatever : {X Y : Type 0} (r : Result X Y) (P : Type 0) → P → IfOk r (λ _. P)
whatever (Ok x) P p = p
whatever (Err y) P p = tt

module _ {L K : Type 0} (reads : L → Option (List ℕ) → L → Type 0) (writes : L → List ℕ → Result (Unit {0}) Failed → L → Type 0)
    (puts : K → List ℕ → Result (Unit {0}) Failed → K → Type 0) (setup : Setup) (trials : List Trial) where
  -- one after the other
  pub plays_then : (first mid last : Bench L K) → Plays reads writes puts setup trials first mid
      → Plays reads writes puts setup trials mid last → Plays reads writes puts setup trials first last
  plays_then first mid _ before not_begun = before
  plays_then first mid _ before (exchanged bench next said earlier one) =
      exchanged bench next said (plays_then first mid bench before earlier) one
  plays_then first mid _ before (told bench next earlier one) = told bench next (plays_then first mid bench before earlier) one

  -- one step more of a round, and all
  pub steps_more : (device : DeviceSetup) (round : ℕ) (tried : Premise) (steps : List Step) (many : ℕ) (kept between later : Memory)
      (before mid after : Bench L K) (this : Step) → many < length steps → this ≡ get_or steps many this
      → StepsDone reads writes puts setup trials device round tried steps many kept between before mid
      → StepDone reads writes puts setup trials device round tried this between later mid after
      → StepsDone reads writes puts setup trials device round tried steps (many + 1) kept later before after
  steps_more device round tried steps many kept between later before mid after this within is sofar one =
      let next : suc many ≡ many + 1 = omega arith in
      subst (λ n. StepsDone reads writes puts setup trials device round tried steps n kept later before after) next
      (between, mid, sofar, this, (within, sym is), one)

  pub steps_next : (device : DeviceSetup) (round : ℕ) (tried : Premise) (steps : List Step) (many : ℕ) (kept between later : Memory)
      (before mid after : Bench L K) (d : Step) (came : Done) → many < length steps
      → StepsDone reads writes puts setup trials device round tried steps many kept between before mid
      → StepCame reads writes puts setup trials device round tried (get_or steps many d) between later mid after came → came ≡ done.On
      → StepsDone reads writes puts setup trials device round tried steps (many + 1) kept later before after
  steps_next device round tried steps many kept between later before mid after d came within sofar one is =
      steps_more device round tried steps many kept between later before mid after (get_or steps many d) within
      (sym (at_place steps many d within)) sofar
      (subst (λ c. StepCame reads writes puts setup trials device round tried (get_or steps many d) between later mid after c) is one)

  pub round_left : (device : DeviceSetup) (round : ℕ) (tried : Premise) (steps : List Step) (many : ℕ) (between later : Memory)
      (before mid after : Bench L K) (d : Step) (came : Done) (reason : Why) → many < length steps
      → Plays reads writes puts setup trials before mid
      → StepCame reads writes puts setup trials device round tried (get_or steps many d) between later mid after came
      → came ≡ done.Untried reason → RoundLeft reads writes puts setup trials device round tried steps before after reason
  round_left device round tried steps many between later before mid after d came reason within plays one is = (
    mid,
    between,
    get_or steps many d,
    (many, within, at_place steps many d within),
    plays,
    subst (λ c. StepCame reads writes puts setup trials device round tried (get_or steps many d) between later mid after c) is one,
  )

  pub rounds_left : (device : DeviceSetup) (round : ℕ) (tried : Premise) (steps : List Step) (kept later : Memory)
      (before after : Bench L K) (came : Done) (reason : Why)
      → RoundCame reads writes puts setup trials device round tried steps kept later before after came
      → came ≡ done.Untried reason → RoundLeft reads writes puts setup trials device round tried steps before after reason
  rounds_left device round tried steps kept later before after came reason one is =
      subst (λ c. RoundCame reads writes puts setup trials device round tried steps kept later before after c) is one

  pub round_done : (device : DeviceSetup) (round : ℕ) (tried : Premise) (steps : List Step) (kept later : Memory)
      (before after : Bench L K) (came : Done)
      → RoundCame reads writes puts setup trials device round tried steps kept later before after came
      → came ≡ done.On → StepsDone reads writes puts setup trials device round tried steps (length steps) kept later before after
  round_done device round tried steps kept later before after came one is =
      subst (λ c. RoundCame reads writes puts setup trials device round tried steps kept later before after c) is one

  pub rounds_whole : (device : DeviceSetup) (trial : Trial) (many all : ℕ) (kept later : Memory) (before after : Bench L K)
      → many ≡ all → RoundsDone reads writes puts setup trials device trial many kept later before after
      → RoundsDone reads writes puts setup trials device trial all kept later before after
  rounds_whole device trial many all kept later before after is sofar =
      subst (λ n. RoundsDone reads writes puts setup trials device trial n kept later before after) is sofar

  steps_few : (device : DeviceSetup) (round : ℕ) (tried : Premise) (steps : List Step) (many : ℕ) (kept later : Memory)
      (before after : Bench L K) → StepsDone reads writes puts setup trials device round tried steps many kept later before after
      → many ≤ length steps
  steps_few device round tried steps zero kept later before after sofar = omega arith
  steps_few device round tried steps (suc many) kept later before after (between, mid, sofar, this, at, one) = omega (arith, at.0)

  pub steps_whole : (device : DeviceSetup) (round : ℕ) (tried : Premise) (steps : List Step) (many : ℕ) (kept later : Memory)
      (before after : Bench L K) → length steps ≤ many
      → StepsDone reads writes puts setup trials device round tried steps many kept later before after
      → StepsDone reads writes puts setup trials device round tried steps (length steps) kept later before after
  steps_whole device round tried steps many kept later before after all sofar =
      let same : many ≡ length steps =
      omega (arith, all, steps_few device round tried steps many kept later before after sofar) in
      subst (λ n. StepsDone reads writes puts setup trials device round tried steps n kept later before after) same sofar

  -- one more status with coins left to pay, and all
  pub unpaid_more : (device : DeviceSetup) (round many : ℕ) (before mid next after : Bench L K)
      → Unpaid reads writes puts setup trials device round many before mid
      → Sent reads writes puts setup device round (say.Ask (ask.Plain 166)) mid next
      → has_paid (after_echo next.sent.items next.heard.items) ≡ false → Rests reads writes puts setup next after
      → Unpaid reads writes puts setup trials device round (many + 1) before after
  unpaid_more device round many before mid next after sofar sent left rests =
      let next_one : suc many ≡ many + 1 = omega arith in
      subst (λ n. Unpaid reads writes puts setup trials device round n before after) next_one (mid, next, sofar, sent, left, rests)

  pub unpaid_whole : (device : DeviceSetup) (round many all : ℕ) (before after : Bench L K) → many ≡ all
      → Unpaid reads writes puts setup trials device round many before after
      → Unpaid reads writes puts setup trials device round all before after
  unpaid_whole device round many all before after is sofar =
      subst (λ n. Unpaid reads writes puts setup trials device round n before after) is sofar

  -- one round more of a trial
  pub rounds_more : (device : DeviceSetup) (trial : Trial) (many : ℕ) (kept between later : Memory) (before mid after : Bench L K)
      → RoundsDone reads writes puts setup trials device trial many kept between before mid
      → StepsDone reads writes puts setup trials device many trial.premise trial.steps.now (length trial.steps.now) between later mid after
      → RoundsDone reads writes puts setup trials device trial (many + 1) kept later before after
  rounds_more device trial many kept between later before mid after sofar one =
      let next : suc many ≡ many + 1 = omega arith in
      subst (λ n. RoundsDone reads writes puts setup trials device trial n kept later before after) next (between, mid, sofar, one)

  -- what came stays so
  pub came_on : (device : DeviceSetup) (trial : Trial) (came : Done) (first mid last : Bench L K)
      → CameIn reads writes puts setup trials device trial came first mid → Plays reads writes puts setup trials mid last
      → CameIn reads writes puts setup trials device trial came first last
  came_on device trial came first mid last (before, after, plays, this, later) more =
      (before, after, plays, this, plays_then after mid last later more)

  pub came_from : (device : DeviceSetup) (trial : Trial) (came : Done) (first mid last : Bench L K)
      → Plays reads writes puts setup trials first mid → CameIn reads writes puts setup trials device trial came mid last
      → CameIn reads writes puts setup trials device trial came first last
  came_from device trial came first mid last more (before, after, plays, this, later) =
      (before, after, plays_then first mid before more plays, this, later)

  pub absent_on : (device : DeviceSetup) (first mid last : Bench L K) → IsAbsent reads writes puts setup trials device first mid
      → Plays reads writes puts setup trials mid last → IsAbsent reads writes puts setup trials device first last
  absent_on device first mid last (other, there, came) more =
      (other, there, came_on device other (done.Broken (premise.Common common.Answers)) first mid last came more)

  pub tried_on : (device : DeviceSetup) (trial : Trial) (first mid last : Bench L K)
      → WasTried reads writes puts setup trials device trial first mid → Plays reads writes puts setup trials mid last
      → WasTried reads writes puts setup trials device trial first last
  tried_on device trial first mid last (inl (came, this)) more = inl (came, came_on device trial came first mid last this more)
  tried_on device trial first mid last (inr absent) more = inr (absent_on device first mid last absent more)

  pub all_on : (device : DeviceSetup) (some : List Trial) (first mid last : Bench L K)
      → AllTried reads writes puts setup trials device some first mid → Plays reads writes puts setup trials mid last
      → AllTried reads writes puts setup trials device some first last
  all_on device some first mid last all more trial there is = tried_on device trial first mid last (all trial there is) more

  pub line_on : (device : DeviceSetup) (some : List Trial) (first mid last : Bench L K)
      → LineTried reads writes puts setup trials device some first mid → Plays reads writes puts setup trials mid last
      → LineTried reads writes puts setup trials device some first last
  line_on device some first mid last all more trial there is =
      let this = all trial there is in
      (this.0, came_on device trial this.0 first mid last this.1 more)

  pub each_on : (devices : List DeviceSetup) (first mid last : Bench L K)
      → EachTried reads writes puts setup trials devices first mid → Plays reads writes puts setup trials mid last
      → EachTried reads writes puts setup trials devices first last
  each_on devices first mid last each more device there = all_on device trials first mid last (each device there) more

  -- a trial is lacking, or its rounds are concluded
  pub lacks_came : (device : DeviceSetup) (trial : Trial) (reason : Why) (bench : Bench L K)
      → IsLacking bench.leave bench.asked trial.need reason → TryCame reads writes puts setup trials device trial bench bench true
  lacks_came device trial reason bench lacking =
      (done.Untried reason, (bench, bench, not_begun, inl lacking, not_begun), λ isnt. absurd (clash (sym isnt)))

  pub try_came : (device : DeviceSetup) (trial : Trial) (kept later : Memory) (first begun mid last : Bench L K) (came : Done) (answered : Bool)
      → Rests reads writes puts setup first begun → Plays reads writes puts setup trials first begun
      → Plays reads writes puts setup trials begun mid
      → RoundsCame reads writes puts setup trials device trial kept later begun mid came
      → Concludes reads writes puts setup trials came mid last answered
      → TryCame reads writes puts setup trials device trial first last answered
  try_came device trial kept later first begun mid last done.On answered rests p q (at, rounds, after) (same, here) = (
    done.On,
    (first, last, not_begun, (kept, later, begun, rests, (at, rounds, subst (λ b. Rests reads writes puts setup at b) (sym same) after)), not_begun),
    λ isnt. absurd (clash (sym isnt ∙ here)),
  )
  try_came device trial kept later first begun mid last (done.Broken this) answered rests p q rounds (tells, is) =
      (done.Broken this, (first, last, not_begun, (mid, plays_then first begun mid p q, tells), not_begun), λ isnt. ap (λ x. done.Broken x) (is isnt))
  try_came device trial kept later first begun mid last (done.Untried reason) answered rests p q (at, round, plays, left) (same, here) = (
    done.Untried reason,
    (
      first,
      last,
      not_begun,
      inr (
        at,
        round,
        plays_then first begun at p plays,
        subst (λ b. RoundLeft reads writes puts setup trials device round trial.premise trial.steps.now at b reason) (sym same) left,
      ),
      not_begun,
    ),
    λ isnt. absurd (clash (sym isnt ∙ here)),
  )

  pub try_also : (device : DeviceSetup) (trial : Trial) (first mid last : Bench L K) (answered other : Bool)
      → TryCame reads writes puts setup trials device trial first mid answered → Plays reads writes puts setup trials mid last
      → (other ≡ false → answered ≡ false) → TryCame reads writes puts setup trials device trial first last other
  try_also device trial first mid last answered other (came, this, is) more so =
      (came, came_on device trial came first mid last this more, λ isnt. is (so isnt))

  -- the next trial of a device
  pub next_here : (device : DeviceSetup) (trial : Trial) (first mid last : Bench L K) (answered : Bool)
      → Plays reads writes puts setup trials first mid → TryCame reads writes puts setup trials device trial mid last answered
      → WasTried reads writes puts setup trials device trial first last
  next_here device trial first mid last answered plays (came, this, is) = inl (came, came_from device trial came first mid last plays this)

  pub next_absent : (device : DeviceSetup) (trial : Trial) (first mid last : Bench L K) (answered : Bool) → Contains trials trial
      → Plays reads writes puts setup trials first mid → TryCame reads writes puts setup trials device trial mid last answered
      → answered ≡ false → IsAbsent reads writes puts setup trials device first last
  next_absent device trial first mid last answered there plays (came, this, is) isnt = (
    trial,
    there,
    subst (λ c. CameIn reads writes puts setup trials device trial c first last) (is isnt)
        (came_from device trial came first mid last plays this),
  )

  -- what is known after the next trial
  pub next_there : (device : DeviceSetup) (trial : Trial) (first mid last : Bench L K) (answered : Bool)
      → Plays reads writes puts setup trials first mid → TryCame reads writes puts setup trials device trial mid last answered
      → NextTried reads writes puts setup trials device trial first last presence.Here
  next_there device trial first mid last answered plays came = (λ of. next_here device trial first mid last answered plays came, tt)

  pub next_silent : (device : DeviceSetup) (trial : Trial) (first mid last : Bench L K) (answered : Bool) → Contains trials trial
      → Plays reads writes puts setup trials first mid → TryCame reads writes puts setup trials device trial mid last answered
      → answered ≡ false → NextTried reads writes puts setup trials device trial first last presence.Absent
  next_silent device trial first mid last answered there plays came isnt =
      let absent = next_absent device trial first mid last answered there plays came isnt in (λ of. inr absent, absent)

  pub next_gone : (device : DeviceSetup) (trial : Trial) (first mid last : Bench L K) (answered : Bool) → Contains trials trial
      → Plays reads writes puts setup trials first mid → TryCame reads writes puts setup trials device trial mid last answered
      → answered ≡ false → NextTried reads writes puts setup trials device trial first last presence.Gone
  next_gone device trial first mid last answered there plays came isnt =
      let absent = next_absent device trial first mid last answered there plays came isnt in (λ of. inr absent, absent)

  -- one more of these trials
  one_of_all : (device : DeviceSetup) (some : List Trial) (trial other : Trial) (first last : Bench L K)
      → AllTried reads writes puts setup trials device some first last
      → ((is_at_device trial.part && is_for trial.who device.body) ≡ true → WasTried reads writes puts setup trials device trial first last)
      → Contains some other ⊎ (trial ≡ other) → (is_at_device other.part && is_for other.who device.body) ≡ true
      → WasTried reads writes puts setup trials device other first last
  one_of_all device some trial other first last all this (inl earlier) is = all other earlier is
  one_of_all device some trial other first last all this (inr same) is =
      subst (λ t. (is_at_device t.part && is_for t.who device.body) ≡ true → WasTried reads writes puts setup trials device t first last) same this is

  pub all_more : (device : DeviceSetup) (many : ℕ) (trial : Trial) (first last : Bench L K) → many < length trials
      → trial ≡ get_or trials many trial → AllTried reads writes puts setup trials device (take many trials) first last
      → ((is_at_device trial.part && is_for trial.who device.body) ≡ true → WasTried reads writes puts setup trials device trial first last)
      → AllTried reads writes puts setup trials device (take (many + 1) trials) first last
  all_more device many trial first last within is all this =
      let more = take_more trials many trial within ∙ ap (λ x. take many trials ++ x ∷ []) (sym is) in
      subst (λ some. AllTried reads writes puts setup trials device some first last) (sym more)
      (λ other there of. one_of_all device (take many trials) trial other first last all this (push_cases (take many trials) trial other there) of)

  one_of_line : (device : DeviceSetup) (some : List Trial) (trial other : Trial) (first last : Bench L K)
      → LineTried reads writes puts setup trials device some first last
      → (is_of_line trial.part ≡ true → Came reads writes puts setup trials device trial first last)
      → Contains some other ⊎ (trial ≡ other) → is_of_line other.part ≡ true
      → Came reads writes puts setup trials device other first last
  one_of_line device some trial other first last all this (inl earlier) is = all other earlier is
  one_of_line device some trial other first last all this (inr same) is =
      subst (λ t. is_of_line t.part ≡ true → Came reads writes puts setup trials device t first last) same this is

  pub line_more : (device : DeviceSetup) (many : ℕ) (trial : Trial) (first last : Bench L K) → many < length trials
      → trial ≡ get_or trials many trial → LineTried reads writes puts setup trials device (take many trials) first last
      → (is_of_line trial.part ≡ true → Came reads writes puts setup trials device trial first last)
      → LineTried reads writes puts setup trials device (take (many + 1) trials) first last
  line_more device many trial first last within is all this =
      let more = take_more trials many trial within ∙ ap (λ x. take many trials ++ x ∷ []) (sym is) in
      subst (λ some. LineTried reads writes puts setup trials device some first last) (sym more)
      (λ other there of. one_of_line device (take many trials) trial other first last all this (push_cases (take many trials) trial other there) of)

  -- one device more
  one_of_each : (some : List DeviceSetup) (device other : DeviceSetup) (first last : Bench L K)
      → EachTried reads writes puts setup trials some first last → AllTried reads writes puts setup trials device trials first last
      → Contains some other ⊎ (device ≡ other) → AllTried reads writes puts setup trials other trials first last
  one_of_each some device other first last each this (inl earlier) = each other earlier
  one_of_each some device other first last each this (inr same) =
      subst (λ d. AllTried reads writes puts setup trials d trials first last) same this

  pub each_more : (devices : List DeviceSetup) (many : ℕ) (device : DeviceSetup) (first last : Bench L K) → many < length devices
      → device ≡ get_or devices many device → EachTried reads writes puts setup trials (take many devices) first last
      → AllTried reads writes puts setup trials device trials first last
      → EachTried reads writes puts setup trials (take (many + 1) devices) first last
  each_more devices many device first last within is each this =
      let more = take_more devices many device within ∙ ap (λ x. take many devices ++ x ∷ []) (sym is) in
      subst (λ some. EachTried reads writes puts setup trials some first last) (sym more)
      (λ other there. one_of_each (take many devices) device other first last each this (push_cases (take many devices) device other there))

  -- none yet
  pub none_tried : (device : DeviceSetup) (first last : Bench L K) → AllTried reads writes puts setup trials device [] first last
  none_tried device first last trial (at, within, is) of = absurd (omega (arith, within))

  pub none_of_line : (device : DeviceSetup) (first last : Bench L K) → LineTried reads writes puts setup trials device [] first last
  none_of_line device first last trial (at, within, is) of = absurd (omega (arith, within))

  pub none_each : (first last : Bench L K) → EachTried reads writes puts setup trials [] first last
  none_each first last device (at, within, is) = absurd (omega (arith, within))

  -- the next of them, and all
  pub all_next : (device : DeviceSetup) (many : ℕ) (d : Trial) (first mid last : Bench L K) → many < length trials
      → AllTried reads writes puts setup trials device (take many trials) first mid → Plays reads writes puts setup trials mid last
      → ((is_at_device (get_or trials many d).part && is_for (get_or trials many d).who device.body) ≡ true
      → WasTried reads writes puts setup trials device (get_or trials many d) first last)
      → AllTried reads writes puts setup trials device (take (many + 1) trials) first last
  all_next device many d first mid last within all plays this =
      all_more device many (get_or trials many d) first last within (sym (at_place trials many d within))
      (all_on device (take many trials) first mid last all plays) this

  pub all_whole : (device : DeviceSetup) (many : ℕ) (first mid last : Bench L K) → length trials ≤ many
      → AllTried reads writes puts setup trials device (take many trials) first mid → Plays reads writes puts setup trials mid last
      → AllTried reads writes puts setup trials device trials first last
  all_whole device many first mid last few all plays =
      subst (λ some. AllTried reads writes puts setup trials device some first last) (take_all many trials few)
      (all_on device (take many trials) first mid last all plays)

  line_first : (device : DeviceSetup) (trial : Trial) (first mid last : Bench L K) → Plays reads writes puts setup trials first mid
      → (is_of_line trial.part ≡ true → Came reads writes puts setup trials device trial mid last)
      → is_of_line trial.part ≡ true → Came reads writes puts setup trials device trial first last
  line_first device trial first mid last plays this is =
      let came = this is in (came.0, came_from device trial came.0 first mid last plays came.1)

  pub line_next : (device : DeviceSetup) (many : ℕ) (d : Trial) (first mid last : Bench L K) → many < length trials
      → LineTried reads writes puts setup trials device (take many trials) first mid → Plays reads writes puts setup trials first mid
      → Plays reads writes puts setup trials mid last
      → (is_of_line (get_or trials many d).part ≡ true → Came reads writes puts setup trials device (get_or trials many d) mid last)
      → LineTried reads writes puts setup trials device (take (many + 1) trials) first last
  line_next device many d first mid last within all before plays this =
      line_more device many (get_or trials many d) first last within (sym (at_place trials many d within))
      (line_on device (take many trials) first mid last all plays) (line_first device (get_or trials many d) first mid last before this)

  pub line_whole : (device : DeviceSetup) (many : ℕ) (first mid last : Bench L K) → length trials ≤ many
      → LineTried reads writes puts setup trials device (take many trials) first mid → Plays reads writes puts setup trials mid last
      → LineTried reads writes puts setup trials device trials first last
  line_whole device many first mid last few all plays =
      subst (λ some. LineTried reads writes puts setup trials device some first last) (take_all many trials few)
      (line_on device (take many trials) first mid last all plays)

  pub line_from : (device : DeviceSetup) (some : List Trial) (first mid last : Bench L K) → Plays reads writes puts setup trials first mid
      → LineTried reads writes puts setup trials device some mid last → LineTried reads writes puts setup trials device some first last
  line_from device some first mid last plays all trial there = line_first device trial first mid last plays (all trial there)

  all_from : (device : DeviceSetup) (some : List Trial) (first mid last : Bench L K) → Plays reads writes puts setup trials first mid
      → AllTried reads writes puts setup trials device some mid last → AllTried reads writes puts setup trials device some first last
  all_from device some first mid last plays all trial there is = tried_from (all trial there is)
    where
      tried_from : WasTried reads writes puts setup trials device trial mid last → WasTried reads writes puts setup trials device trial first last
      tried_from (inl (came, this)) = inl (came, came_from device trial came first mid last plays this)
      tried_from (inr (other, in_plan, this)) =
          inr (other, in_plan, came_from device other (done.Broken (premise.Common common.Answers)) first mid last plays this)

  pub each_next : (devices : List DeviceSetup) (many : ℕ) (device : DeviceSetup) (first mid last : Bench L K) → many < length devices
      → device ≡ get_or devices many device → EachTried reads writes puts setup trials (take many devices) first mid
      → Plays reads writes puts setup trials first mid → Plays reads writes puts setup trials mid last
      → AllTried reads writes puts setup trials device trials mid last
      → EachTried reads writes puts setup trials (take (many + 1) devices) first last
  each_next devices many device first mid last within is each before plays this =
      each_more devices many device first last within is
      (each_on (take many devices) first mid last each plays) (all_from device trials first mid last before this)

  pub each_whole : (devices : List DeviceSetup) (many : ℕ) (first mid last : Bench L K) → length devices ≤ many
      → EachTried reads writes puts setup trials (take many devices) first mid → Plays reads writes puts setup trials mid last
      → EachTried reads writes puts setup trials devices first last
  each_whole devices many first mid last few each plays =
      subst (λ some. EachTried reads writes puts setup trials some first last) (take_all many devices few)
      (each_on (take many devices) first mid last each plays)

  -- all of a plan
  pub none_heard : (first last : Bench L K) → EachTried reads writes puts setup trials setup.devices first last
      → AllDone reads writes puts setup trials false first last
  none_heard first last each = record { devices = each; line = λ is. absurd (clash is) }

  pub some_heard : (device : DeviceSetup) (first mid next last : Bench L K)
      → EachTried reads writes puts setup trials setup.devices first mid → Plays reads writes puts setup trials first mid
      → LineTried reads writes puts setup trials device trials mid next → Plays reads writes puts setup trials mid next
      → Plays reads writes puts setup trials next last → AllDone reads writes puts setup trials true first last
  some_heard device first mid next last each before line plays more = record {
    devices = each_on setup.devices first mid last each (plays_then mid next last plays more);
    line = λ is. (device, line_from device trials first mid last before (line_on device trials mid next last line more));
  }

  pub done_on : (heard other : Bool) (first mid last : Bench L K) → AllDone reads writes puts setup trials heard first mid
      → Plays reads writes puts setup trials mid last → other ≡ heard → AllDone reads writes puts setup trials other first last
  done_on heard other first mid last all plays is = record {
    devices = each_on setup.devices first mid last all.devices plays;
    line = λ so. let line = all.line (sym is ∙ so) in (line.0, line_on line.0 trials first mid last line.1 plays);
  }
