-- Which premises a plan has a trial for, at a device and of the line.
use Rattle.std.specs.Prelude.{◌&&◌, Bool, true, false, List, bytes_eq}
use Rattle.std.specs.List.{list_any}
use Rattle.cct_model_wire.specs.declared.device.DeviceBody.{DeviceBody}
use Rattle.cct_model_wire.specs.Device.{is_acceptor, is_bill, is_hopper, is_taker}
use Rattle.cct_probe_plan.specs.declared.plan.Part.{Part}
use Rattle.cct_probe_plan.specs.declared.plan.Part.TheVariants as part
use Rattle.cct_probe_plan.specs.declared.plan.Trial.{Trial}
use Rattle.cct_probe_plan.specs.declared.premise.Common.TheVariants as common
use Rattle.cct_probe_plan.specs.declared.premise.OfTaker.TheVariants as taker
use Rattle.cct_probe_plan.specs.declared.premise.Premise.{Premise}
use Rattle.cct_probe_plan.specs.declared.premise.Premise.TheVariants as premise
use Rattle.cct_probe_plan.specs.Closing.{is_for}
use Rattle.cct_probe_plan.specs.Words.{premise_word}

-- A premise of a device is one that a trial can try there. That replies are in time and of the
-- right form each exchange shows; only coins come six at a time, and only bills are routed.
abbrev pub is_tried_at : DeviceBody → Premise → Bool
is_tried_at device (premise.Common common.Prompt) = false
is_tried_at device (premise.Common common.Form) = false
is_tried_at device (premise.Common this) = true
is_tried_at device (premise.Line this) = false
is_tried_at device (premise.Taker taker.Events) = is_acceptor device
is_tried_at device (premise.Taker taker.Route) = is_bill device
is_tried_at device (premise.Taker this) = is_taker device
is_tried_at device (premise.Hopper this) = is_hopper device

-- A trial is done at each device that it is for.
abbrev pub is_at_device : Part → Bool
is_at_device part.Device = true
is_at_device part.Timed = true
is_at_device this = false

-- It is done once, for the line.
abbrev pub is_of_line : Part → Bool
is_of_line part.Line = true
is_of_line this = false

-- Two premises have one word.
abbrev pub is_same : Premise → Premise → Bool
is_same this that = bytes_eq (premise_word this) (premise_word that)

-- Some trial tries a premise at a device, or of the line.
abbrev pub tries_at : List Trial → DeviceBody → Premise → Bool
tries_at trials device this = list_any (λ trial. is_at_device trial.part
    && is_for trial.who device && is_same trial.premise this) trials

-- And of the line.
abbrev pub tries_on_line : List Trial → Premise → Bool
tries_on_line trials this =
    list_any (λ trial. is_of_line trial.part && is_same trial.premise this) trials
