-- The words by which premises are reported.
use Rattle.std.specs.Prelude.{ℕ, List, codes}
use Rattle.cct_probe_plan.specs.declared.premise.Common.{Common}
use Rattle.cct_probe_plan.specs.declared.premise.Common.TheVariants as common
use Rattle.cct_probe_plan.specs.declared.premise.OfHopper.{OfHopper}
use Rattle.cct_probe_plan.specs.declared.premise.OfHopper.TheVariants as hopper
use Rattle.cct_probe_plan.specs.declared.premise.OfLine.TheVariants as line
use Rattle.cct_probe_plan.specs.declared.premise.OfTaker.{OfTaker}
use Rattle.cct_probe_plan.specs.declared.premise.OfTaker.TheVariants as taker
use Rattle.cct_probe_plan.specs.declared.premise.Premise.{Premise}
use Rattle.cct_probe_plan.specs.declared.premise.Premise.TheVariants as premise

-- The word of a premise of each device.
abbrev pub common_word : Common → List ℕ
common_word common.Answers = codes "answers"
common_word common.Prompt = codes "prompt"
common_word common.Once = codes "once"
common_word common.Alone = codes "alone"
common_word common.Form = codes "form"
common_word common.Check = codes "check"
common_word common.Cut = codes "cut"
common_word common.Unknown = codes "unknown"
common_word common.Identity = codes "identity"

-- That of one of acceptors.
abbrev pub taker_word : OfTaker → List ℕ
taker_word taker.Empty = codes "empty"
taker_word taker.Inhibited = codes "inhibited"
taker_word taker.Master = codes "master"
taker_word taker.Mask = codes "mask"
taker_word taker.Accepts = codes "accepts"
taker_word taker.Events = codes "events"
taker_word taker.Wrap = codes "wrap"
taker_word taker.Count = codes "count"
taker_word taker.Power = codes "power"
taker_word taker.Places = codes "places"
taker_word taker.Route = codes "route"

-- That of one of hoppers.
abbrev pub hopper_word : OfHopper → List ℕ
hopper_word hopper.Rises = codes "rises"
hopper_word hopper.Life = codes "life"
hopper_word hopper.Lasts = codes "lasts"
hopper_word hopper.Serial = codes "serial"
hopper_word hopper.Enable = codes "enable"
hopper_word hopper.Busy = codes "busy"
hopper_word hopper.Halts = codes "stop"
hopper_word hopper.Status = codes "status"

-- That of any premise.
abbrev pub premise_word : Premise → List ℕ
premise_word (premise.Common this) = common_word this
premise_word (premise.Line line.Others) = codes "others"
premise_word (premise.Line line.Quiet) = codes "quiet"
premise_word (premise.Taker this) = taker_word this
premise_word (premise.Hopper this) = hopper_word this
