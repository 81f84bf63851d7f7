-- One exchange more, one line more.
use Rattle.std.proofs.Common.{◌≡◌, ◌∙◌, ◌+◌, ◌∷◌, ◌++◌, ◌==◌, Bool, ap, arith, slice_index, sym, subst, ℕ, true, false, List, [], Option, Result}
use Rattle.std.specs.List.{Contains}
use Rattle.cct_edge.specs.declared.fault.Failed.{Failed}
use Rattle.cct_model_wire.specs.declared.device.DeviceSetup.{DeviceSetup}
use Rattle.cct_model_wire.specs.declared.device.Setup.{Setup}
use Rattle.cct_probe_plan.specs.declared.plan.Say.{Say}
use Rattle.cct_probe_plan.specs.declared.plan.Step.{Step}
use Rattle.cct_probe_plan.specs.declared.plan.Trial.{Trial}
use Rattle.cct_probe_plan.specs.declared.premise.Promise.{Promise}
use Rattle.cct_probe_plan.specs.declared.premise.Promise.TheVariants as promise
use Rattle.cct_live_port.specs.Port.{Gives, with_gap}
use Rattle.cct_probe_run.specs.declared.bench.Bench.{Bench}
use Rattle.cct_probe_run.specs.declared.bench.Broken.{Broken}
use Rattle.cct_probe_run.specs.Broken.{broken_after, fails}
use Rattle.cct_probe_run.specs.Doing.{TellsThat}
use Rattle.cct_probe_plan.specs.declared.premise.Premise.{Premise}
use Rattle.cct_probe_run.specs.Plays.{Begun, Given, IsNoEmptyOrder, IsOfPlan, IsStep, Plays, Tells, TellsBroken, begins_broken, coins_of, exchanged, holds_text, told, wire_text}

clash : false ≡ true → ⊥
clash e = cc

-- A line that begins as another doesn't begin as a line `broken`.
pub no_break : (line piece : List ℕ) → Begun line → piece ≡ line → begins_broken piece ≡ true → ⊥
no_break [] piece begun is breaks = begun
no_break (byte ∷ bytes) piece begun is breaks = clash (sym begun.0 ∙ ap begins_broken (sym is) ∙ breaks)

-- Whether bytes begin as the line of a promise that holds.
abbrev first_holds : List ℕ → Bool
first_holds [] = false
first_holds (byte ∷ bytes) = byte == 104

-- Such a line isn't that of a promise that holds.
pub no_holds : (line piece : List ℕ) (promise : Promise) → Begun line → piece ≡ line → piece ≡ holds_text promise → ⊥
no_holds [] piece promise begun is holds = begun
no_holds (byte ∷ bytes) piece promise.Coins begun is holds = clash (sym begun.1 ∙ ap first_holds (sym is ∙ holds))
no_holds (byte ∷ bytes) piece promise.Orders begun is holds = clash (sym begun.1 ∙ ap first_holds (sym is ∙ holds))
no_holds (byte ∷ bytes) piece promise.Disk begun is holds = clash (sym begun.1 ∙ ap first_holds (sym is ∙ holds))

-- Nor is one that begins as a line `broken` does.
pub not_both : (piece : List ℕ) (promise : Promise) → begins_broken piece ≡ true → piece ≡ holds_text promise → ⊥
not_both piece promise.Coins breaks holds = clash (sym (ap begins_broken holds) ∙ breaks)
not_both piece promise.Orders breaks holds = clash (sym (ap begins_broken holds) ∙ breaks)
not_both piece promise.Disk breaks holds = clash (sym (ap begins_broken holds) ∙ breaks)

-- What begins so and goes on begins so.
pub begins_on : (line front more piece : List ℕ) → begins_broken front ≡ true → line ≡ front ++ more → piece ≡ line
    → begins_broken piece ≡ true
begins_on line [] more piece begins whole is = absurd (clash begins)
begins_on line (byte ∷ bytes) more piece begins whole is = ap begins_broken (is ∙ whole) ∙ begins

pub unclear : (piece : List ℕ) → begins_broken piece ≡ true → begins_broken piece ≡ false → ⊥
unclear piece breaks isnt = clash (sym isnt ∙ breaks)

-- One line says of one promise that it holds.
pub same_promise : (told other : Promise) (broken : Broken) → holds_text told ≡ holds_text other
    → fails told broken ≡ false → fails other broken ≡ false
same_promise promise.Coins promise.Coins broken e kept = kept
same_promise promise.Coins promise.Orders broken e kept = absurd (omega (arith, ap (λ text. slice_index text 6) e))
same_promise promise.Coins promise.Disk broken e kept = absurd (omega (arith, ap (λ text. slice_index text 6) e))
same_promise promise.Orders promise.Coins broken e kept = absurd (omega (arith, ap (λ text. slice_index text 6) e))
same_promise promise.Orders promise.Orders broken e kept = kept
same_promise promise.Orders promise.Disk broken e kept = absurd (omega (arith, ap (λ text. slice_index text 6) e))
same_promise promise.Disk promise.Coins broken e kept = absurd (omega (arith, ap (λ text. slice_index text 6) e))
same_promise promise.Disk promise.Orders broken e kept = absurd (omega (arith, ap (λ text. slice_index text 6) e))
same_promise promise.Disk promise.Disk broken e kept = kept

-- What was put ends with the line of an exchange.
pub ends : (piece line front : List ℕ) (addr : ℕ) {told_sent told_heard sent heard : List ℕ} → piece ≡ line
    → line ≡ front ++ wire_text addr told_sent told_heard → told_sent ≡ sent → told_heard ≡ heard
    → piece ≡ front ++ wire_text addr sent heard
ends piece line front addr {told_sent} {told_heard} {sent} {heard} is wire s h =
    is ∙ wire ∙ ap (λ bytes. front ++ wire_text addr bytes told_heard) s ∙ ap (λ bytes. front ++ wire_text addr sent bytes) h

-- A step of a trial of a plan is one of the plan.
pub step_of : (trials : List Trial) (trial : Trial) (this : Step) → Contains trials trial → Contains trial.steps.now this
    → IsStep trials this
step_of trials trial this of_plan of_trial = record { trial = trial; of_plan = of_plan; of_trial = of_trial }

module _ {L K : Type 0} {reads : L → Option (List ℕ) → L → Type 0} {writes : L → List ℕ → Result (Unit {0}) Failed → L → Type 0}
    {puts : K → List ℕ → Result (Unit {0}) Failed → K → Type 0} {setup : Setup} {trials : List Trial} where
  pub one_exchange : {first before mid after : Bench L K} (device : DeviceSetup) (round : ℕ) (said : Say)
      → IsOfPlan trials said → Contains setup.devices device → IsNoEmptyOrder said
      → mid.port ≡ before.port → mid.out ≡ before.out → mid.leave ≡ before.leave → mid.asked ≡ before.asked + coins_of said
      → mid.broken ≡ before.broken
      → Given reads writes setup device round said mid after
      → Plays reads writes puts setup trials first before → Plays reads writes puts setup trials first after
  one_exchange {first} {before} {mid} {after} device round said of_plan there no_empty port out leave asked broken given played =
      exchanged before after said played (record {
        of_plan = of_plan;
        device = device;
        there = there;
        round = round;
        bytes = given.bytes;
        gap = given.gap;
        gives = subst (λ p. Gives reads writes (with_gap given.gap p) after.sent.items after.heard.items after.port) port given.gives;
        counted = given.asked ∙ asked;
        no_empty = no_empty;
        leave = given.leave ∙ leave;
        broken = given.broken ∙ broken;
        out = given.out ∙ out;
      })

  pub one_tell : {before after : Bench L K} (piece : List ℕ) (result : Result (Unit {0}) Failed)
      → puts before.out piece result after.out
      → (shows : begins_broken piece ≡ true → TellsBroken setup trials piece before.sent.items before.heard.items)
      → after.port ≡ before.port → after.sent.items ≡ before.sent.items → after.heard.items ≡ before.heard.items
      → after.asked ≡ before.asked → after.leave ≡ before.leave
      → ((is : begins_broken piece ≡ true) → after.broken ≡ broken_after (shows is).this before.broken)
      → (begins_broken piece ≡ false → after.broken ≡ before.broken)
      → ((promise : Promise) → piece ≡ holds_text promise → fails promise before.broken ≡ false)
      → Tells reads writes puts setup trials before after
  one_tell piece result put shows port sent heard asked leave breaks stays holds = record {
    piece = piece;
    result = result;
    put = put;
    shows = shows;
    port = port;
    sent = sent;
    heard = heard;
    asked = asked;
    leave = leave;
    breaks = breaks;
    stays = stays;
    holds = holds;
  }

  pub one_put : {first before after : Bench L K} → Plays reads writes puts setup trials first before
      → Tells reads writes puts setup trials before after → Plays reads writes puts setup trials first after
  one_put {first} {before} {after} played one = told before after played one

  pub that_told : {before after : Bench L K} (this : Premise) (piece : List ℕ) (result : Result (Unit {0}) Failed)
      → puts before.out piece result after.out → (is : begins_broken piece ≡ true)
      → (tells : TellsBroken setup trials piece before.sent.items before.heard.items) → tells.this ≡ this
      → after.port ≡ before.port → after.sent.items ≡ before.sent.items → after.heard.items ≡ before.heard.items
      → after.asked ≡ before.asked → after.leave ≡ before.leave → after.broken ≡ broken_after tells.this before.broken
      → TellsThat reads writes puts setup trials this before after
  unfolding one_tell
  that_told this piece result put is tells same port sent heard asked leave breaks = (
    one_tell piece result put (λ _. tells) port sent heard asked leave (λ _. breaks)
        (λ isnt. absurd (unclear piece is isnt)) (λ promise holds. absurd (not_both piece promise is holds)),
    is,
    same,
  )
