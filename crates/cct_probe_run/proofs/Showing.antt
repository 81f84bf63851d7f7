-- What an exchange shows.
use Rattle.std.proofs.Common.{◌≡◌, ℕ, List, true, inr, refl, subst}
use Rattle.std.specs.List.{Contains}
use Rattle.cct_model_wire.specs.declared.device.DeviceSetup.{DeviceSetup}
use Rattle.cct_model_wire.specs.declared.device.Setup.{Setup}
use Rattle.cct_probe_plan.specs.declared.plan.Say.TheVariants as say
use Rattle.cct_probe_plan.specs.declared.plan.Trial.{Trial}
use Rattle.cct_probe_plan.specs.declared.premise.Premise.{Premise}
use Rattle.cct_probe_plan.specs.Judging.{IsTried}
use Rattle.cct_probe_plan.specs.Saying.{IsSaid}
use Rattle.cct_probe_run.specs.declared.acting.Done.{Done}
use Rattle.cct_probe_run.specs.declared.acting.Done.TheVariants as done
use Rattle.cct_probe_run.specs.Plays.{Shows}
use Rattle.cct_probe_run.specs.Showing.{NamesIf, ShowsIf}

-- It was listened, which goes with any trials.
pub listens : (setup : Setup) (trials : List Trial) (device : DeviceSetup) (round : ℕ) (tried this : Premise) (sent : List ℕ) →
    Contains setup.devices device → IsSaid (say.Nothing true) setup device round sent → IsTried tried this →
    Shows setup trials tried this sent
listens setup trials device round tried this sent there bytes names = record {
  device = device;
  there = there;
  round = round;
  said = say.Nothing true;
  of_plan = inr refl;
  bytes = bytes;
  premise = names;
}

-- What came is that a premise is broken.
pub shows_broken : (setup : Setup) (trials : List Trial) (tried this : Premise) (sent : List ℕ) (came : Done) →
    ShowsIf setup trials tried sent came → came ≡ done.Broken this → Shows setup trials tried this sent
shows_broken setup trials tried this sent came shows is = subst (λ c. ShowsIf setup trials tried sent c) is shows

-- What came of a step names what is tried.
pub shows_named : (setup : Setup) (trials : List Trial) (tried : Premise) (sent : List ℕ) (came : Done) → NamesIf tried came →
    ((this : Premise) → IsTried tried this → Shows setup trials tried this sent) → ShowsIf setup trials tried sent came
shows_named setup trials tried sent done.On names shows = tt
shows_named setup trials tried sent (done.Broken this) names shows = shows this names
shows_named setup trials tried sent (done.Untried why) names shows = tt
