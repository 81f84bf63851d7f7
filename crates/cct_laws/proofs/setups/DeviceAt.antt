-- The device of a setup at an address.
use Rattle.std.proofs.Common.{◌≡◌, ◌≢◌, ℕ, ◌==◌, cond, true, false, Bool, List, [], ◌∷◌, refl, ap, sym, ◌∙◌, subst, Option, Some, ◌⊎◌, inl, inr, All, eqb-true}
use Rattle.std.proofs.lemmas.Bool.{cases_eq}
use Rattle.std.proofs.lemmas.List.Elements.{All-head, All-tail}
use Rattle.cct_model.specs.terms.device.DeviceSetup.{DeviceSetup}
use Rattle.cct_model.specs.terms.device.Setup.{Setup}
use Rattle.cct_model.specs.Exchange.{device_at}
use Rattle.cct_model.proofs.Addresses.{address_there}
use Rattle.cct_laws.specs.Law.{IsOf}

pub same_some : {A : Type 0} (x y : A) → Some x ≡ Some y → x ≡ y
same_some x y e = cc

found_by : (P : DeviceSetup → Type 0) (addr : ℕ) (e d : DeviceSetup) (rest : Option DeviceSetup) (here : Bool) → (e.addr == addr) ≡ here → P e →
    (rest ≡ Some d → P d × (d.addr ≡ addr)) → cond here (Some e) rest ≡ Some d → P d × (d.addr ≡ addr)
found_by P addr e d rest true test p later found =
    let is = same_some e d found in
    (subst P is p, ap (λ x. x.addr) (sym is) ∙ eqb-true e.addr addr test)
found_by P addr e d rest false test p later found = later found

-- what holds of all devices holds of the one that is found, and its address is that one
pub found_in : (P : DeviceSetup → Type 0) (devices : List DeviceSetup) (addr : ℕ) (d : DeviceSetup) → All P devices → device_at devices addr ≡ Some d → P d × (d.addr ≡ addr)
found_in P [] addr d all found = absurd cc
found_in P (e ∷ devices) addr d all found =
    found_by P addr e d (device_at devices addr) (e.addr == addr) refl (All-head P e devices all) (found_in P devices addr d (All-tail P e devices all)) found

pub address_found : (setup : Setup) (addr : ℕ) (d : DeviceSetup) → device_at setup.devices addr ≡ Some d → d.addr ≡ addr
address_found setup addr d found = address_there setup.devices addr d found

-- the device that is found is the one at hand, or has another address
pub same_or_other : (setup : Setup) (d e : DeviceSetup) (addr : ℕ) → IsOf setup d → device_at setup.devices addr ≡ Some e → (e ≡ d) ⊎ (e.addr ≢ d.addr)
same_or_other setup d e addr own found =
    elim (cases_eq e.addr d.addr) [
      | inl same ↦ inl (same_some e d (sym (ap (device_at setup.devices) (sym same ∙ address_found setup addr e found) ∙ found) ∙ own))
      | inr other ↦ inr other
    ]
