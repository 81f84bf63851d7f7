-- What the last exchange of a step shows.
use Rattle.std.specs.Prelude.{◌≡◌, ◌⊎◌, ℕ, List, ⊤}
use Rattle.cct_model_wire.specs.declared.device.Setup.{Setup}
use Rattle.cct_probe_plan.specs.declared.plan.Trial.{Trial}
use Rattle.cct_probe_plan.specs.declared.premise.Common.TheVariants as common
use Rattle.cct_probe_plan.specs.declared.premise.Premise.{Premise}
use Rattle.cct_probe_plan.specs.declared.premise.Premise.TheVariants as premise
use Rattle.cct_probe_plan.specs.Judging.{IsTried}
use Rattle.cct_probe_run.specs.declared.acting.Done.{Done}
use Rattle.cct_probe_run.specs.declared.acting.Done.TheVariants as done
use Rattle.cct_probe_run.specs.Plays.{Shows}

-- If a premise is broken, it is the one that is tried, or one that any exchange may show.
abbrev pub NamesIf : Premise → Done → Type 0
NamesIf tried done.On = ⊤
NamesIf tried (done.Broken this) = IsTried tried this
NamesIf tried (done.Untried why) = ⊤

-- If a premise is broken, these bytes were sent for a row of these trials.
abbrev pub ShowsIf : Setup → List Trial → Premise → List ℕ → Done → Type 0
ShowsIf setup trials tried sent done.On = ⊤
ShowsIf setup trials tried sent (done.Broken this) = Shows setup trials tried this sent
ShowsIf setup trials tried sent (done.Untried why) = ⊤

-- This came, or a reply that comes late was reported as broken.
abbrev pub IsOrLate : Done → Done → Type 0
IsOrLate silent came =
    (came ≡ silent) ⊎ (came ≡ done.Broken (premise.Common common.Prompt))
