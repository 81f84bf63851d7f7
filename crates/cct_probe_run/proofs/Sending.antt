-- What was sent, joined.
use Rattle.std.proofs.Common.{◌≡◌, ◌<◌, ◌≤◌, ◌-◌, inl, inr, ◌&&◌, ℕ, List, [], ◌∷◌, ◌++◌, length, take, drop, get_or, Option, Result, arith, cond, true, false, subst, sym}
use Rattle.std.proofs.Math.Seq.{take-length}
use Rattle.std.specs.List.{Contains}
use Rattle.cct_edge.specs.declared.fault.Failed.{Failed}
use Rattle.cct_model_wire.specs.declared.device.DeviceSetup.{DeviceSetup}
use Rattle.cct_model_wire.specs.declared.device.Setup.{Setup}
use Rattle.cct_probe_plan.specs.Closing.{all_said, closes, closing, is_for, said_in}
use Rattle.cct_probe_plan.specs.declared.plan.Ending.{Ending}
use Rattle.cct_probe_plan.specs.declared.plan.Ending.TheVariants as ending
use Rattle.cct_probe_plan.specs.declared.plan.Say.{Say}
use Rattle.cct_probe_plan.specs.declared.plan.Step.{Step}
use Rattle.cct_probe_plan.specs.declared.plan.Trial.{Trial}
use Rattle.cct_probe_run.specs.declared.bench.Bench.{Bench}
use Rattle.cct_probe_run.specs.Plays.{IsOfPlan, Plays, TellsBroken, exchanged, not_begun, told}
use Rattle.cct_probe_run.specs.Leaving.{Leaves, OrderNone, Rests, Sends}

-- a plan without a trial has no row
only_listens : (trials : List Trial) (said : Say) → IsOfPlan [] said → IsOfPlan trials said
only_listens trials said (inl row) = absurd (none row.is_step.of_plan)
  where
    none : {t : Trial} → Contains [] t → ⊥
    none (at, within, is) = absurd (omega (arith, within))
only_listens trials said (inr nothing) = inr nothing

tells_none : {setup : Setup} {piece sent heard : List ℕ} → TellsBroken setup [] piece sent heard → ⊥
tells_none tells = none tells.of_plan
  where
    none : {t : Trial} → Contains [] t → ⊥
    none (at, within, is) = absurd (omega (arith, within))

no_trial : {setup : Setup} {piece sent heard : List ℕ} (trials : List Trial) → TellsBroken setup [] piece sent heard →
    TellsBroken setup trials piece sent heard
no_trial trials tells = absurd (tells_none tells)

-- the others of a list, whose number is reported by the length
others_whole : {X : Type 0} (x : X) (xs : List X) → take (length (x ∷ xs) - 1) xs ≡ xs
others_whole x xs =
    let less : length (x ∷ xs) - 1 ≡ length xs = omega arith in rw less (take-length xs)

pub first_none : (xs ys : List Say) → OrderNone (xs ++ ys) → OrderNone xs
first_none [] ys none = tt
first_none (x ∷ xs) ys none = (none.0, first_none xs ys none.1)

pub others_none : (xs ys : List Say) → OrderNone (xs ++ ys) → OrderNone ys
others_none [] ys none = none
others_none (x ∷ xs) ys none = others_none xs ys none.1

module _ {L K : Type 0} (reads : L → Option (List ℕ) → L → Type 0) (writes : L → List ℕ → Result (Unit {0}) Failed → L → Type 0)
    (puts : K → List ℕ → Result (Unit {0}) Failed → K → Type 0) (setup : Setup) where
  -- what is only listened goes with any plan
  pub plays_on : (trials : List Trial) (first mid last : Bench L K) → Plays reads writes puts setup trials first mid →
      Rests reads writes puts setup mid last → Plays reads writes puts setup trials first last
  plays_on trials first mid _ before not_begun = before
  plays_on trials first mid _ before (exchanged bench next said earlier one) =
      exchanged bench next said (plays_on trials first mid bench before earlier) (record {
        of_plan = only_listens trials said one.of_plan;
        device = one.device;
        there = one.there;
        round = one.round;
        bytes = one.bytes;
        gap = one.gap;
        gives = one.gives;
        counted = one.counted;
        no_empty = one.no_empty;
        leave = one.leave;
        broken = one.broken;
        out = one.out;
      })
  plays_on trials first mid _ before (told bench next earlier one) =
      told bench next (plays_on trials first mid bench before earlier) (record {
        piece = one.piece;
        result = one.result;
        put = one.put;
        shows = λ breaks. no_trial trials (one.shows breaks);
        port = one.port;
        sent = one.sent;
        heard = one.heard;
        asked = one.asked;
        leave = one.leave;
        breaks = λ is. absurd (tells_none (one.shows is));
        stays = one.stays;
        holds = one.holds;
      })

  pub rests_first : (device : DeviceSetup) (round : ℕ) (says : List Say) (first mid last : Bench L K) →
      Rests reads writes puts setup first mid → Sends reads writes puts setup device round says mid last →
      Sends reads writes puts setup device round says first last
  rests_first device round [] first mid last rests more = plays_on [] first mid last rests more
  rests_first device round (said ∷ says) first mid last rests (at, next, waits, sent, more) =
      (at, next, plays_on [] first mid at rests waits, sent, more)

  pub sends_both : (device : DeviceSetup) (round : ℕ) (xs ys : List Say) (first mid last : Bench L K) →
      Sends reads writes puts setup device round xs first mid → Sends reads writes puts setup device round ys mid last →
      Sends reads writes puts setup device round (xs ++ ys) first last
  sends_both device round [] ys first mid last sends more = rests_first device round ys first mid last sends more
  sends_both device round (x ∷ xs) ys first mid last (at, next, waits, sent, sends) more =
      (at, next, waits, sent, sends_both device round xs ys next mid last sends more)

  pub sends_all : (device : DeviceSetup) (round : ℕ) (xs ys : List Say) (first mid last : Bench L K) →
      (OrderNone xs → Sends reads writes puts setup device round xs first mid) →
      (OrderNone ys → Sends reads writes puts setup device round ys mid last) →
      OrderNone (xs ++ ys) → Sends reads writes puts setup device round (xs ++ ys) first last
  sends_all device round xs ys first mid last sends more none =
      sends_both device round xs ys first mid last (sends (first_none xs ys none)) (more (others_none xs ys none))

  -- a trial that is done where this ends, and one that isn't
  pub one_closes : (device : DeviceSetup) (ending : Ending) (trial : Trial) (trials : List Trial) (first mid last : Bench L K) →
      (closes ending trial.part && is_for trial.who device.body) ≡ true →
      (OrderNone (all_said trial.steps.now) → Sends reads writes puts setup device 0 (all_said trial.steps.now) first mid) →
      (OrderNone (closing ending device.body trials) → Sends reads writes puts setup device 0 (closing ending device.body trials) mid last) →
      OrderNone (closing ending device.body (trial ∷ trials)) →
      Sends reads writes puts setup device 0 (closing ending device.body (trial ∷ trials)) first last
  one_closes device ending trial trials first mid last is sends more =
      subst (λ b. OrderNone (cond b (all_said trial.steps.now ++ closing ending device.body trials) (closing ending device.body trials)) →
      Sends reads writes puts setup device 0
      (cond b (all_said trial.steps.now ++ closing ending device.body trials) (closing ending device.body trials)) first last)
      (sym is) (sends_all device 0 (all_said trial.steps.now) (closing ending device.body trials) first mid last sends more)

  pub none_closes : (device : DeviceSetup) (ending : Ending) (trial : Trial) (trials : List Trial) (first last : Bench L K) →
      (closes ending trial.part && is_for trial.who device.body) ≡ false →
      (OrderNone (closing ending device.body trials) → Sends reads writes puts setup device 0 (closing ending device.body trials) first last) →
      OrderNone (closing ending device.body (trial ∷ trials)) →
      Sends reads writes puts setup device 0 (closing ending device.body (trial ∷ trials)) first last
  none_closes device ending trial trials first last is more =
      subst (λ b. OrderNone (cond b (all_said trial.steps.now ++ closing ending device.body trials) (closing ending device.body trials)) →
      Sends reads writes puts setup device 0
      (cond b (all_said trial.steps.now ++ closing ending device.body trials) (closing ending device.body trials)) first last)
      (sym is) more

  -- what is sent for a list, by its length, its first and the others
  pub empty_said : (device : DeviceSetup) (round : ℕ) (steps : List Step) (bench : Bench L K) → length steps < 1 →
      OrderNone (all_said steps) → Sends reads writes puts setup device round (all_said steps) bench bench
  empty_said device round [] bench few none = not_begun
  empty_said device round (this ∷ steps) bench few none = absurd (omega (arith, few))

  pub more_said : (device : DeviceSetup) (round : ℕ) (steps : List Step) (default : Step) (first mid last : Bench L K) → 1 ≤ length steps →
      (OrderNone (said_in (get_or steps 0 default)) →
      Sends reads writes puts setup device round (said_in (get_or steps 0 default)) first mid) →
      (OrderNone (all_said (take (length steps - 1) (drop 1 steps))) →
      Sends reads writes puts setup device round (all_said (take (length steps - 1) (drop 1 steps))) mid last) →
      OrderNone (all_said steps) → Sends reads writes puts setup device round (all_said steps) first last
  more_said device round [] default first mid last some sends more = absurd (omega (arith, some))
  more_said device round (this ∷ steps) default first mid last some sends more =
      sends_all device round (said_in this) (all_said steps) first mid last sends
      (subst (λ ss. OrderNone (all_said ss) → Sends reads writes puts setup device round (all_said ss) mid last)
      (others_whole this steps) more)

  pub empty_closes : (device : DeviceSetup) (ending : Ending) (trials : List Trial) (bench : Bench L K) → length trials < 1 →
      OrderNone (closing ending device.body trials) →
      Sends reads writes puts setup device 0 (closing ending device.body trials) bench bench
  empty_closes device ending [] bench few none = not_begun
  empty_closes device ending (trial ∷ trials) bench few none = absurd (omega (arith, few))

  pub more_closes : (device : DeviceSetup) (ending : Ending) (trials : List Trial) (default : Trial) (first mid last : Bench L K) →
      1 ≤ length trials →
      (closes ending (get_or trials 0 default).part && is_for (get_or trials 0 default).who device.body) ≡ true →
      (OrderNone (all_said (get_or trials 0 default).steps.now) →
      Sends reads writes puts setup device 0 (all_said (get_or trials 0 default).steps.now) first mid) →
      (OrderNone (closing ending device.body (take (length trials - 1) (drop 1 trials))) →
      Sends reads writes puts setup device 0 (closing ending device.body (take (length trials - 1) (drop 1 trials))) mid last) →
      OrderNone (closing ending device.body trials) →
      Sends reads writes puts setup device 0 (closing ending device.body trials) first last
  more_closes device ending [] default first mid last some is sends more = absurd (omega (arith, some))
  more_closes device ending (trial ∷ trials) default first mid last some is sends more =
      one_closes device ending trial trials first mid last is sends
      (subst (λ ts. OrderNone (closing ending device.body ts) →
      Sends reads writes puts setup device 0 (closing ending device.body ts) mid last) (others_whole trial trials) more)

  pub empty_left : (trials : List Trial) (devices : List DeviceSetup) (bench : Bench L K) → length devices < 1 →
      Leaves reads writes puts setup trials devices bench bench
  empty_left trials [] bench few = not_begun
  empty_left trials (device ∷ devices) bench few = absurd (omega (arith, few))

  pub more_left : (trials : List Trial) (devices : List DeviceSetup) (d : DeviceSetup) (first mid last : Bench L K) → 1 ≤ length devices →
      d ≡ get_or devices 0 d →
      (OrderNone (closing ending.Run d.body trials) → Sends reads writes puts setup d 0 (closing ending.Run d.body trials) first mid) →
      Leaves reads writes puts setup trials (take (length devices - 1) (drop 1 devices)) mid last →
      Leaves reads writes puts setup trials devices first last
  more_left trials [] d first mid last some is sends leaves = absurd (omega (arith, some))
  more_left trials (device ∷ devices) d first mid last some is sends leaves = (
    mid,
    subst (λ e. OrderNone (closing ending.Run e.body trials) →
        Sends reads writes puts setup e 0 (closing ending.Run e.body trials) first mid) is sends,
    subst (λ ds. Leaves reads writes puts setup trials ds mid last) (others_whole device devices) leaves,
  )
