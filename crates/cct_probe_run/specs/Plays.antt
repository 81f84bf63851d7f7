-- What was done on a line with the devices of a setup by a plan of trials: each exchange is one of
-- its rows, coins are ordered with leave alone, and what shows a premise broken names a trial that
-- may show it, and shows the last exchange, which is a row of it.
use Rattle.std.specs.Prelude.{◌≡◌, ◌⊎◌, ℕ, ◌+◌, ◌≤◌, ◌==◌, Bool, true, false, List, [], ◌∷◌, ◌++◌}
use Rattle.std.specs.Prelude.{length, codes, Option, Result}
use Rattle.std.specs.List.{Contains}
use Rattle.cct_edge.specs.declared.fault.Failed.{Failed}
use Rattle.cct_model_wire.specs.declared.device.DeviceSetup.{DeviceSetup}
use Rattle.cct_model_wire.specs.declared.device.Setup.{Setup}
use Rattle.cct_model_lines.specs.Text.{number_text, piece_field}
use Rattle.cct_live_port.specs.Port.{Gives, with_gap}
use Rattle.cct_probe_plan.specs.declared.plan.Ask.TheVariants as ask
use Rattle.cct_probe_plan.specs.declared.plan.Ask.{Ask}
use Rattle.cct_probe_plan.specs.declared.plan.Say.TheVariants as say
use Rattle.cct_probe_plan.specs.declared.plan.Say.{Say}
use Rattle.cct_probe_plan.specs.declared.plan.Step.TheVariants as step
use Rattle.cct_probe_plan.specs.declared.plan.Step.{Step}
use Rattle.cct_probe_plan.specs.declared.plan.Trial.{Trial}
use Rattle.cct_probe_plan.specs.declared.premise.Premise.{Premise}
use Rattle.cct_probe_plan.specs.declared.premise.Promise.{Promise}
use Rattle.cct_probe_plan.specs.declared.premise.Promise.TheVariants as promise
use Rattle.cct_probe_plan.specs.Judging.{IsTried}
use Rattle.cct_probe_plan.specs.Saying.{IsSaid}
use Rattle.cct_probe_plan.specs.Words.{premise_word}
use Rattle.cct_probe_run.specs.Broken.{broken_after, fails}
use Rattle.cct_probe_run.specs.declared.bench.Bench.{Bench}
use Rattle.cct_probe_run.specs.declared.telling.TheConstants.{MOST_NAME}

-- A step of a plan says this.
abbrev pub Says : Step → Say → Type 0
Says (step.Asks this want) said = this ≡ said
Says step.Waits said = say.Ask (ask.Plain 166) ≡ said
Says (step.Person act) said = ⊥
Says (step.Settles more) said = say.Ask ask.Credits ≡ said

-- A step is one of a trial of a plan.
pub record IsStep (trials : List Trial) (this : Step) : Type 0 where
  pub trial : Trial
  pub of_plan : Contains trials trial
  pub of_trial : Contains trial.steps.now this

-- A plan has a step that says this.
pub record IsRow (trials : List Trial) (said : Say) : Type 0 where
  pub this : Step
  pub is_step : IsStep trials this
  pub says : Says this said

-- It has, or nothing is sent: a plan is listened to at any time.
abbrev pub IsOfPlan : List Trial → Say → Type 0
IsOfPlan trials said = IsRow trials said ⊎ (said ≡ say.Nothing true)

-- How many coins a message orders.
abbrev pub coins_in : Ask → ℕ
coins_in (ask.Plain header) = 0
coins_in (ask.One header byte) = 0
coins_in (ask.Two header first second) = 0
coins_in ask.Credits = 0
coins_in ask.Coin = 0
coins_in ask.Bill = 0
coins_in ask.Bit = 0
coins_in ask.Place = 0
coins_in (ask.Dispense coins is_own) = coins

-- How many coins are ordered by what is said.
abbrev pub coins_of : Say → ℕ
coins_of (say.Ask q) = coins_in q
coins_of (say.Odd o) = 0
coins_of (say.Nothing at_once) = 0

-- What is said is no order of no coin.
abbrev pub IsNoEmptyOrder : Say → Type 0
IsNoEmptyOrder (say.Ask (ask.Dispense coins is_own)) = 1 ≤ coins
IsNoEmptyOrder said = Unit {0}

-- What is said is no order of coins.
abbrev pub IsNoOrder : Say → Type 0
IsNoOrder (say.Ask (ask.Dispense coins is_own)) = ⊥
IsNoOrder said = Unit {0}

-- Bytes begin as a line `broken` does: no other line begins so.
abbrev pub begins_broken : List ℕ → Bool
begins_broken [] = false
begins_broken (byte ∷ bytes) = byte == 98

-- The line that says that a promise holds: no other line begins as it does.
abbrev pub holds_text : Promise → List ℕ
holds_text promise.Coins = codes "holds coins" ++ 10 ∷ []
holds_text promise.Orders = codes "holds orders" ++ 10 ∷ []
holds_text promise.Disk = codes "holds disk" ++ 10 ∷ []

-- A line that begins as neither does, and isn't empty.
abbrev pub Begun : List ℕ → Type 0
Begun [] = ⊥
Begun (byte ∷ bytes) = ((byte == 98) ≡ false) × ((byte == 104) ≡ false)

-- A word that begins such a line.
abbrev pub IsOther : List ℕ → Type 0
IsOther word = Begun word × (length word ≤ 20)

-- The line of an exchange.
abbrev pub wire_text : ℕ → List ℕ → List ℕ → List ℕ
wire_text addr sent heard =
    119 ∷ 105 ∷ 114 ∷ 101 ∷ 32 ∷ number_text addr ++ 32 ∷ piece_field sent ++ 32 ∷ piece_field heard
    ++ 10 ∷ []

-- The line that shows a premise of a device broken, by a trial.
abbrev pub broken_text : ℕ → Premise → List ℕ → List ℕ
broken_text addr this name = codes "broken " ++ number_text addr ++ 32 ∷ premise_word this ++ 32 ∷ name ++ 10 ∷ []

-- Bytes were sent for a row of these trials at a device of the setup, where this premise was tried
-- or any exchange may show it.
pub record Shows (setup : Setup) (trials : List Trial) (tried this : Premise) (sent : List ℕ) : Type
    0 where
  pub device : DeviceSetup
  pub there : Contains setup.devices device
  pub round : ℕ
  pub said : Say
  pub of_plan : IsOfPlan trials said
  pub bytes : IsSaid said setup device round sent
  pub premise : IsTried tried this

-- Bytes report a premise as broken: they name a trial of the plan that may show it, and end with an
-- exchange, which is a row of this trial.
pub record TellsBroken (setup : Setup) (trials : List Trial) (piece sent heard : List ℕ) : Type 0
  where
    pub trial : Trial
    pub of_plan : Contains trials trial
    pub addr : ℕ
    pub this : Premise
    pub shows : Shows setup (trial ∷ []) trial.premise this sent
    pub front : List ℕ
    pub text : piece ≡ front ++ wire_text addr sent heard
    pub names : length trial.name.now ≤ MOST_NAME → front ≡ broken_text addr this trial.name.now

module _ {L K : Type 0} (reads : L → Option (List ℕ) → L → Type 0)
    (writes : L → List ℕ → Result (Unit {0}) Failed → L → Type 0) (setup : Setup) where
  -- One exchange was made with a device, in a round.
  pub record Given (device : DeviceSetup) (round : ℕ) (said : Say) (before after : Bench L K) : Type
      0 where
    pub bytes : IsSaid said setup device round after.sent.items
    pub gap : ℕ
    pub gives : Gives reads writes (with_gap gap before.port) after.sent.items after.heard.items
        after.port
    pub asked : after.asked ≡ before.asked
    pub leave : after.leave ≡ before.leave
    pub broken : after.broken ≡ before.broken
    pub out : after.out ≡ before.out

module _ {L K : Type 0} (reads : L → Option (List ℕ) → L → Type 0)
    (writes : L → List ℕ → Result (Unit {0}) Failed → L → Type 0)
    (puts : K → List ℕ → Result (Unit {0}) Failed → K → Type 0) (setup : Setup)
    (trials : List Trial) where
  -- One exchange was made: it is a row of the plan at a device of the setup, and the coins that it
  -- orders are counted. The count is never above the leave, as each bench has it.
  pub record Exchanges (before : Bench L K) (said : Say) (after : Bench L K) : Type 0 where
    pub of_plan : IsOfPlan trials said
    pub device : DeviceSetup
    pub there : Contains setup.devices device
    pub round : ℕ
    pub bytes : IsSaid said setup device round after.sent.items
    pub gap : ℕ
    pub gives : Gives reads writes (with_gap gap before.port) after.sent.items after.heard.items
        after.port
    pub counted : after.asked ≡ before.asked + coins_of said
    pub no_empty : IsNoEmptyOrder said
    pub leave : after.leave ≡ before.leave
    pub broken : after.broken ≡ before.broken
    pub out : after.out ≡ before.out

  -- Something was put: if it begins as a line `broken` does, it shows the last exchange; and it
  -- says that a promise holds only where no premise that it rests on was reported as broken.
  pub record Tells (before after : Bench L K) : Type 0 where
    pub piece : List ℕ
    pub result : Result (Unit {0}) Failed
    pub put : puts before.out piece result after.out
    pub shows : begins_broken piece ≡ true →
        TellsBroken setup trials piece before.sent.items before.heard.items
    pub port : after.port ≡ before.port
    pub sent : after.sent.items ≡ before.sent.items
    pub heard : after.heard.items ≡ before.heard.items
    pub asked : after.asked ≡ before.asked
    pub leave : after.leave ≡ before.leave
    pub breaks : (is : begins_broken piece ≡ true) →
        after.broken ≡ broken_after (shows is).this before.broken
    pub stays : begins_broken piece ≡ false → after.broken ≡ before.broken
    pub holds : (promise : Promise) → piece ≡ holds_text promise → fails promise before.broken ≡ false

  -- Exchanges and lines, one after the other.
  pub data Plays (first : Bench L K) : Bench L K → Type 0 where
    not_begun : Plays first first
    exchanged : (bench next : Bench L K) (said : Say) → Plays first bench →
        Exchanges bench said next → Plays first next
    told : (bench next : Bench L K) → Plays first bench → Tells bench next → Plays first next

  -- They go on from one moment to a later one.
  abbrev pub PlaysOn : Bench L K → Bench L K → Type 0
  PlaysOn before after = (first : Bench L K) → Plays first before → Plays first after

  -- How many coins were ordered.
  abbrev pub ordered : {first last : Bench L K} → Plays first last → ℕ
  ordered not_begun = 0
  ordered (exchanged bench next said before one) = ordered before + coins_of said
  ordered (told bench next before one) = ordered before

  -- Nothing that was sent ordered coins.
  abbrev pub OrdersNone : {first last : Bench L K} → Plays first last → Type 0
  OrdersNone not_begun = Unit {0}
  OrdersNone (exchanged bench next said before one) = OrdersNone before × IsNoOrder said
  OrdersNone (told bench next before one) = OrdersNone before

  -- From a bench that ordered none yet, never more coins than the leave are ordered; and without
  -- leave nothing that was sent orders coins.
  abbrev pub OrdersWithinLeave : Type 0
  OrdersWithinLeave = (first last : Bench L K) (played : Plays first last) → first.asked ≡ 0
      → (ordered played ≤ first.leave.coins) × (first.leave.coins ≡ 0 → OrdersNone played)
