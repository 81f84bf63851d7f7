-- Coins are ordered within the leave.
use Rattle.std.proofs.Common.{◌≡◌, ◌∙◌, ◌+◌, ◌≤◌, ap, refl, ℕ, List, Option, Result, arith}
use Rattle.cct_edge.specs.declared.fault.Failed.{Failed}
use Rattle.cct_model_wire.specs.declared.device.Setup.{Setup}
use Rattle.cct_probe_plan.specs.declared.plan.Ask.TheVariants as ask
use Rattle.cct_probe_plan.specs.declared.plan.Say.{Say}
use Rattle.cct_probe_plan.specs.declared.plan.Say.TheVariants as say
use Rattle.cct_probe_plan.specs.declared.plan.Trial.{Trial}
use Rattle.cct_probe_run.specs.declared.bench.Bench.{Bench}
use Rattle.cct_probe_run.specs.Plays.{IsNoEmptyOrder, IsNoOrder, OrdersNone, Plays, coins_of, exchanged, not_begun, ordered, told}

-- What orders no coin, and isn't an order of none, is no order.
no_order : (said : Say) → IsNoEmptyOrder said → coins_of said ≡ 0 → IsNoOrder said
no_order (say.Ask (ask.Dispense coins is_own)) some none = absurd (omega (arith, some, none))
no_order (say.Ask (ask.Plain header)) some none = tt
no_order (say.Ask (ask.One header byte)) some none = tt
no_order (say.Ask (ask.Two header first second)) some none = tt
no_order (say.Ask ask.Credits) some none = tt
no_order (say.Ask ask.Coin) some none = tt
no_order (say.Ask ask.Bill) some none = tt
no_order (say.Ask ask.Bit) some none = tt
no_order (say.Ask ask.Place) some none = tt
no_order (say.Odd o) some none = tt
no_order (say.Nothing at_once) some none = tt

module _ {L K : Type 0} {reads : L → Option (List ℕ) → L → Type 0} {writes : L → List ℕ → Result (Unit {0}) Failed → L → Type 0}
    {puts : K → List ℕ → Result (Unit {0}) Failed → K → Type 0} {setup : Setup} {trials : List Trial} where
  -- The count of a bench is that of the coins that were ordered, and its leave stays.
  pub counts : {first last : Bench L K} (played : Plays reads writes puts setup trials first last)
      → (last.asked ≡ first.asked + ordered reads writes puts setup trials played) × (last.leave ≡ first.leave)
  counts {first} not_begun = (omega arith, refl)
  counts {first} (exchanged bench next said before one) =
      let so_far = counts before in
      (omega (arith, so_far.0, one.counted), one.leave ∙ so_far.1)
  counts {first} (told bench next before one) =
      let so_far = counts before in
      (one.asked ∙ so_far.0, one.leave ∙ so_far.1)

  -- Where none were ordered in all, nothing orders any.
  pub none_ordered : {first last : Bench L K} (played : Plays reads writes puts setup trials first last)
      → ordered reads writes puts setup trials played ≡ 0 → OrdersNone reads writes puts setup trials played
  none_ordered not_begun none = tt
  none_ordered (exchanged bench next said before one) none =
      (none_ordered before (omega (arith, none)), no_order said one.no_empty (omega (arith, none)))
  none_ordered (told bench next before one) none = none_ordered before none

  pub within : (first last : Bench L K) (played : Plays reads writes puts setup trials first last) → first.asked ≡ 0
      → (ordered reads writes puts setup trials played ≤ first.leave.coins)
      × (first.leave.coins ≡ 0 → OrdersNone reads writes puts setup trials played)
  within first last played fresh =
      let so_far = counts played in
      let few : ordered reads writes puts setup trials played ≤ first.leave.coins =
      omega (arith, so_far.0, fresh, last.within_leave, ap (λ l. l.coins) so_far.1) in
      (few, λ none. none_ordered played (omega (arith, few, none)))
