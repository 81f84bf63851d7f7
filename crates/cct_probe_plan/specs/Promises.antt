-- Which premises a promise rests on.
use Rattle.std.specs.Prelude.{Bool, true, false}
use Rattle.cct_probe_plan.specs.declared.premise.Common.{Common}
use Rattle.cct_probe_plan.specs.declared.premise.Common.TheVariants as common
use Rattle.cct_probe_plan.specs.declared.premise.OfTaker.TheVariants as taker
use Rattle.cct_probe_plan.specs.declared.premise.Premise.{Premise}
use Rattle.cct_probe_plan.specs.declared.premise.Premise.TheVariants as premise
use Rattle.cct_probe_plan.specs.declared.premise.Promise.{Promise}
use Rattle.cct_probe_plan.specs.declared.premise.Promise.TheVariants as promise

-- Where a device doesn't answer, or in another form, its job ends without an answer, and no promise
-- is broken.
abbrev pub is_relied_on : Common → Bool
is_relied_on common.Answers = false
is_relied_on common.Form = false
is_relied_on common.Unknown = false
is_relied_on this = true

-- Coins are posted once and not lost by what acceptors do.
abbrev pub carries_coins : Premise → Bool
carries_coins (premise.Common common.Cut) = false
carries_coins (premise.Common this) = is_relied_on this
carries_coins (premise.Line this) = true
carries_coins (premise.Taker taker.Master) = false
carries_coins (premise.Taker this) = true
carries_coins (premise.Hopper this) = false

-- Orders are paid once by what hoppers do.
abbrev pub carries_orders : Premise → Bool
carries_orders (premise.Common this) = is_relied_on this
carries_orders (premise.Line this) = true
carries_orders (premise.Taker this) = false
carries_orders (premise.Hopper this) = true

-- What is put is on the disk, whatever devices do.
abbrev pub carries : Promise → Premise → Bool
carries promise.Coins this = carries_coins this
carries promise.Orders this = carries_orders this
carries promise.Disk this = false
