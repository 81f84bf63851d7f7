-- Devices by their addresses.
use Rattle.std.proofs.Common.{◌≡◌, ℕ, ◌==◌, Bool, true, false, cond, List, [], ◌∷◌, refl, sym, ap, ◌∙◌, Some}
use Rattle.std.proofs.lemmas.Bool.{eqb-true}
use Rattle.cct_model.specs.terms.device.DeviceSetup.{DeviceSetup}
use Rattle.cct_model.specs.Exchange.{device_at}

address_by : (here : Bool) (x : DeviceSetup) (devices : List DeviceSetup) (addr : ℕ) (d : DeviceSetup)
    → (x.addr == addr) ≡ here → (device_at devices addr ≡ Some d → d.addr ≡ addr)
    → cond here (Some x) (device_at devices addr) ≡ Some d → d.addr ≡ addr
address_by true x devices addr d same later e =
    let is : x ≡ d = cc in
    ap (λ (y : DeviceSetup). y.addr) (sym is) ∙ eqb-true _ _ same
address_by false x devices addr d other later e = later e

-- the device that is found at an address has it
pub address_there : (devices : List DeviceSetup) (addr : ℕ) (d : DeviceSetup) → device_at devices addr ≡ Some d
    → d.addr ≡ addr
address_there [] addr d e = absurd cc
address_there (x ∷ devices) addr d e =
    address_by (x.addr == addr) x devices addr d refl (address_there devices addr d) e
