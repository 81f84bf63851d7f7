-- What was reported as broken, and which promises rest on it.
use Rattle.std.specs.Prelude.{◌||◌, Bool, true, false}
use Rattle.cct_probe_plan.specs.declared.premise.Premise.{Premise}
use Rattle.cct_probe_plan.specs.declared.premise.Promise.{Promise}
use Rattle.cct_probe_plan.specs.declared.premise.Promise.TheVariants as promise
use Rattle.cct_probe_plan.specs.Promises.{carries}
use Rattle.cct_probe_run.specs.declared.bench.Broken.{Broken}

-- Nothing was.
abbrev pub none_broken : Broken
none_broken = record { any = false; coins = false; orders = false }

-- One premise more was.
abbrev pub broken_after : Premise → Broken → Broken
broken_after this before = record {
  any = true;
  coins = carries promise.Coins this || before.coins;
  orders = carries promise.Orders this || before.orders;
}

-- A promise rests on a premise that was.
abbrev pub fails : Promise → Broken → Bool
fails promise.Coins broken = broken.coins
fails promise.Orders broken = broken.orders
fails promise.Disk broken = false
