-- What a plan has for the end of a trial, or of all: how a device is left.
use Rattle.std.specs.Prelude.{◌&&◌, Bool, true, false, List, [], ◌∷◌, ◌++◌, if◌then◌else◌}
use Rattle.cct_model_wire.specs.declared.device.DeviceBody.{DeviceBody}
use Rattle.cct_model_wire.specs.Device.{is_acceptor, is_bill, is_hopper, is_taker}
use Rattle.cct_probe_plan.specs.declared.plan.Ending.{Ending}
use Rattle.cct_probe_plan.specs.declared.plan.Ending.TheVariants as ending
use Rattle.cct_probe_plan.specs.declared.plan.Part.{Part}
use Rattle.cct_probe_plan.specs.declared.plan.Part.TheVariants as part
use Rattle.cct_probe_plan.specs.declared.plan.Say.{Say}
use Rattle.cct_probe_plan.specs.declared.plan.Step.{Step}
use Rattle.cct_probe_plan.specs.declared.plan.Step.TheVariants as step
use Rattle.cct_probe_plan.specs.declared.plan.Trial.{Trial}
use Rattle.cct_probe_plan.specs.declared.plan.Who.{Who}
use Rattle.cct_probe_plan.specs.declared.plan.Who.TheVariants as who

-- Whether a part of a plan is done where this ends.
abbrev pub closes : Ending → Part → Bool
closes ending.Trial part.Closing = true
closes ending.Run part.Leaving = true
closes this other = false

-- Whether a trial is for a device.
abbrev pub is_for : Who → DeviceBody → Bool
is_for who.All body = true
is_for who.Takers body = is_taker body
is_for who.Acceptors body = is_acceptor body
is_for who.Bills body = is_bill body
is_for who.Hoppers body = is_hopper body

-- What a step says.
abbrev pub said_in : Step → List Say
said_in (step.Asks this want) = this ∷ []
said_in step.Waits = []
said_in (step.Person act) = []
said_in (step.Settles more) = []

-- What steps say, one after the other.
abbrev pub all_said : List Step → List Say
all_said [] = []
all_said (this ∷ steps) = said_in this ++ all_said steps

-- What trials have for a device where this ends.
abbrev pub closing : Ending → DeviceBody → List Trial → List Say
closing this body [] = []
closing this body (trial ∷ trials) =
    if closes this trial.part && is_for trial.who body then all_said trial.steps.now
    ++ closing this body trials
    else closing this body trials
