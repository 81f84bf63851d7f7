-- How devices are left: what was sent to each at last.
use Rattle.std.specs.Prelude.{◌≡◌, ℕ, List, [], ◌∷◌, ⊤, Option, Result}
use Rattle.cct_edge.specs.declared.fault.Failed.{Failed}
use Rattle.cct_model_wire.specs.declared.device.DeviceSetup.{DeviceSetup}
use Rattle.cct_model_wire.specs.declared.device.Setup.{Setup}
use Rattle.cct_live_port.specs.Port.{Gives, with_gap}
use Rattle.cct_probe_plan.specs.declared.plan.Ending.TheVariants as ending
use Rattle.cct_probe_plan.specs.declared.plan.Say.{Say}
use Rattle.cct_probe_plan.specs.declared.plan.Trial.{Trial}
use Rattle.cct_probe_plan.specs.Closing.{closing}
use Rattle.cct_probe_plan.specs.Saying.{IsSaid}
use Rattle.cct_probe_run.specs.declared.bench.Bench.{Bench}
use Rattle.cct_probe_run.specs.Plays.{IsNoOrder, Plays}

-- Nothing of these orders coins.
abbrev pub OrderNone : List Say → Type 0
OrderNone [] = ⊤
OrderNone (said ∷ more) = IsNoOrder said × OrderNone more

module _ {L K : Type 0} (reads : L → Option (List ℕ) → L → Type 0)
    (writes : L → List ℕ → Result (Unit {0}) Failed → L → Type 0)
    (puts : K → List ℕ → Result (Unit {0}) Failed → K → Type 0) (setup : Setup) where
  -- This was sent to a device, by one exchange of the port.
  pub record Sent (device : DeviceSetup) (round : ℕ) (said : Say) (before after : Bench L K) : Type
      0 where
    pub bytes : IsSaid said setup device round after.sent.items
    pub gap : ℕ
    pub gives : Gives reads writes (with_gap gap before.port) after.sent.items after.heard.items
        after.port
    pub out : after.out ≡ before.out

  -- Nothing was sent: it was only listened, and lines were reported.
  abbrev pub Rests : Bench L K → Bench L K → Type 0
  Rests before after = Plays reads writes puts setup [] before after

  -- All of these were sent to a device, one after the other, and nothing else to anybody.
  abbrev pub Sends : DeviceSetup → ℕ → List Say → Bench L K → Bench L K → Type 0
  Sends device round [] before after = Rests before after
  Sends device round (said ∷ more) before after =
      (mid : Bench L K) × (next : Bench L K) × Rests before mid
      × Sent device round said mid next × Sends device round more next after

  -- Each of these devices in turn was sent all that a plan has for its end, where that orders no
  -- coins, and nothing else was sent.
  abbrev pub Leaves : List Trial → List DeviceSetup → Bench L K → Bench L K → Type 0
  Leaves trials [] before after = Rests before after
  Leaves trials (device ∷ devices) before after = (next : Bench L K)
      × (OrderNone (closing ending.Run device.body trials) →
      Sends device 0 (closing ending.Run device.body trials) before next)
      × Leaves trials devices next after

  -- After all else each device was left.
  abbrev pub EndsLeft : List Trial → Bench L K → Bench L K → Type 0
  EndsLeft trials first last = (mid : Bench L K) × Plays reads writes puts setup trials first mid
      × Leaves trials setup.devices mid last
