use Rattle.std.proofs.Common.{◌≡◌, ◌≤◌, ℕ, take}
use Rattle.cct_model.specs.Following.{Known}
use Rattle.cct_host.specs.Host.{setup_of}
use Rattle.cct_host.specs.Starting.{BeginsAs}
use Rattle.cct_live_service.specs.Opening.{orders_known}
use Rattle.cct_live_service.proofs.standing.open_orders.Given as goal

-- So many are counted as the devices have that were looked at, and no more than these.
abbrev pub invariant-loop-device : goal.invariant-loop-device
invariant-loop-device g l = record {
  few : l.count ≤ l.device-index;
  counts : (k : Known) (last : ℕ) → BeginsAs l.fn.host k last
      → l.count ≡ orders_known k (take l.device-index (setup_of l.fn.host).devices);
}
