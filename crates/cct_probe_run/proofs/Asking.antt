-- What an exchange of a trial shows.
use Rattle.std.proofs.Common.{◌≡◌, ◌∙◌, ◌⊎◌, inl, inr, refl, ap, subst, sym, ℕ, List, Option, Result}
use Rattle.cct_edge.specs.declared.fault.Failed.{Failed}
use Rattle.cct_model_wire.specs.declared.device.DeviceSetup.{DeviceSetup}
use Rattle.cct_model_wire.specs.declared.device.Setup.{Setup}
use Rattle.cct_model_wire.specs.Exchange.{after_echo}
use Rattle.cct_probe_plan.specs.declared.judging.Shown.{Shown}
use Rattle.cct_probe_plan.specs.declared.judging.Shown.TheVariants as shown
use Rattle.cct_probe_plan.specs.declared.memory.Memory.{Memory}
use Rattle.cct_probe_plan.specs.declared.plan.Say.{Say}
use Rattle.cct_probe_plan.specs.declared.plan.Step.TheVariants as step
use Rattle.cct_probe_plan.specs.declared.plan.Trial.{Trial}
use Rattle.cct_probe_plan.specs.declared.plan.Want.{Want}
use Rattle.cct_probe_plan.specs.declared.premise.Premise.{Premise}
use Rattle.cct_probe_plan.specs.Judging.{judged, kept_judged, numbers_of, reply_after}
use Rattle.cct_probe_run.specs.declared.acting.Done.{Done}
use Rattle.cct_probe_run.specs.declared.acting.Done.TheVariants as done
use Rattle.cct_probe_run.specs.declared.bench.Bench.{Bench}
use Rattle.cct_probe_run.specs.declared.findings.Why.TheVariants as why
use Rattle.cct_probe_run.specs.Leaving.{Rests, Sent}
use Rattle.cct_probe_run.specs.Plays.{Plays}
use Rattle.cct_probe_run.specs.Doing.{Asked, StepCame, Unanswered}
use Rattle.cct_probe_run.specs.Showing.{IsOrLate}

-- the pieces of the last exchange
same_pieces : (told_sent told_heard sent heard : List ℕ) → told_sent ≡ sent → told_heard ≡ heard
    → after_echo told_sent told_heard ≡ after_echo sent heard
same_pieces told_sent told_heard sent heard s h = ap (λ x. after_echo x told_heard) s ∙ ap (λ x. after_echo sent x) h

module _ {L K : Type 0} (reads : L → Option (List ℕ) → L → Type 0) (writes : L → List ℕ → Result (Unit {0}) Failed → L → Type 0)
    (puts : K → List ℕ → Result (Unit {0}) Failed → K → Type 0) (setup : Setup) (trials : List Trial) where
  shows_again : (device : DeviceSetup) (round : ℕ) (tried : Premise) (wanted : Want) (kept : Memory) (mid : Bench L K)
      (told_sent told_heard : List ℕ) (came other : Shown) → told_sent ≡ mid.sent.items → told_heard ≡ mid.heard.items
      → came ≡ judged device round tried kept wanted told_heard (after_echo told_sent told_heard) → came ≡ other
      → judged device round tried kept wanted mid.heard.items (after_echo mid.sent.items mid.heard.items) ≡ other
  shows_again device round tried wanted kept mid told_sent told_heard came other s h shows is =
      ap (λ x. judged device round tried kept wanted x (after_echo mid.sent.items mid.heard.items)) (sym h)
      ∙ ap (λ x. judged device round tried kept wanted told_heard x) (sym (same_pieces told_sent told_heard mid.sent.items mid.heard.items s h)) ∙ sym shows ∙ is

  pub asked : (device : DeviceSetup) (round : ℕ) (tried : Premise) (said : Say) (wanted : Want) (kept later : Memory)
      (before mid after : Bench L K) (told_sent told_heard : List ℕ) (came : Shown)
      → told_sent ≡ mid.sent.items → told_heard ≡ mid.heard.items → Sent reads writes puts setup device round said before mid
      → came ≡ judged device round tried kept wanted told_heard (after_echo told_sent told_heard) → came ≡ shown.Right
      → numbers_of later ≡ numbers_of (kept_judged device round tried kept wanted (after_echo told_sent told_heard))
      → later.reply.items ≡ reply_after told_sent (after_echo told_sent told_heard) kept.reply.items
      → Rests reads writes puts setup mid after
      → Asked reads writes puts setup trials device round tried said wanted kept later before after
  asked device round tried said wanted kept later before mid after told_sent told_heard came s h sent shows is numbers reply rests =
      let pieces = same_pieces told_sent told_heard mid.sent.items mid.heard.items s h in
      record {
        mid = mid;
        sent = sent;
        right = shows_again device round tried wanted kept mid told_sent told_heard came shown.Right s h shows is;
        numbers = numbers ∙ ap (λ x. numbers_of (kept_judged device round tried kept wanted x)) pieces;
        reply = reply ∙ ap (λ x. reply_after told_sent x kept.reply.items) pieces
            ∙ ap (λ x. reply_after x (after_echo mid.sent.items mid.heard.items) kept.reply.items) s;
        rests = rests;
      }

  -- one that shows nothing, or that the device refuses it
  pub unanswered : (device : DeviceSetup) (round : ℕ) (tried : Premise) (said : Say) (wanted : Want) (kept : Memory)
      (before mid after : Bench L K) (told_sent told_heard : List ℕ) (came : Shown)
      → told_sent ≡ mid.sent.items → told_heard ≡ mid.heard.items → Sent reads writes puts setup device round said before mid
      → came ≡ judged device round tried kept wanted told_heard (after_echo told_sent told_heard)
      → (came ≡ shown.Untold) ⊎ (came ≡ shown.Refused) → Plays reads writes puts setup trials mid after
      → Unanswered reads writes puts setup trials device round tried said wanted kept before after
  unanswered device round tried said wanted kept before mid after told_sent told_heard came s h sent shows which plays =
      record {
        mid = mid;
        sent = sent;
        shows = subst (λ x. (x ≡ shown.Untold) ⊎ (x ≡ shown.Refused))
            (sym (shows_again device round tried wanted kept mid told_sent told_heard came came s h shows refl)) which;
        plays = plays;
      }

  or_late : (device : DeviceSetup) (round : ℕ) (tried : Premise) (said : Say) (wanted : Want) (kept later : Memory)
      (before after : Bench L K) (listened : Done)
      → Unanswered reads writes puts setup trials device round tried said wanted kept before after
      → IsOrLate (done.Untried why.Silent) listened
      → StepCame reads writes puts setup trials device round tried (step.Asks said wanted) kept later before after listened
  or_late device round tried said wanted kept later before after listened unanswered (inl is) =
      subst (λ d. StepCame reads writes puts setup trials device round tried (step.Asks said wanted) kept later before after d) (sym is) unanswered
  or_late device round tried said wanted kept later before after listened unanswered (inr is) =
      subst (λ d. StepCame reads writes puts setup trials device round tried (step.Asks said wanted) kept later before after d) (sym is) tt

  pub untold_came : (device : DeviceSetup) (round : ℕ) (tried : Premise) (said : Say) (wanted : Want) (kept later : Memory)
      (before mid after : Bench L K) (told_sent told_heard : List ℕ) (came : Shown) (listened : Done)
      → told_sent ≡ mid.sent.items → told_heard ≡ mid.heard.items → Sent reads writes puts setup device round said before mid
      → came ≡ judged device round tried kept wanted told_heard (after_echo told_sent told_heard) → came ≡ shown.Untold
      → Plays reads writes puts setup trials mid after → IsOrLate (done.Untried why.Silent) listened
      → StepCame reads writes puts setup trials device round tried (step.Asks said wanted) kept later before after listened
  untold_came device round tried said wanted kept later before mid after told_sent told_heard came listened s h sent shows is plays late =
      or_late device round tried said wanted kept later before after listened
      (unanswered device round tried said wanted kept before mid after told_sent told_heard came s h sent shows (inl is) plays)
      late
