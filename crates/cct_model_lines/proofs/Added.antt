-- What holds of all devices of a setup holds of them after a setup line, and their addresses stay different.
use Rattle.std.proofs.Common.{◌≡◌, ℕ, ◌==◌, ◌||◌, nat_le, Bool, true, false, cond, List, [], ◌∷◌, ◌++◌, length, map, subst, Option, Some, None, is_some, Result, Ok, Err, refl, ap, sym, ◌∙◌, All, arith, eqb-true}
use Rattle.std.specs.Prelude.{⊤}
use Rattle.std.proofs.lemmas.Bool.Decides.{nat_tests}
use Rattle.std.proofs.lemmas.List.Elements.{All-append, All-cons, All-nil, All-head, All-tail}
use Rattle.cct_model_lines.specs.terms.device.TheConstants.{DEVICES}
use Rattle.cct_model_lines.specs.terms.device.DeviceSetup.{DeviceSetup}
use Rattle.cct_model_lines.specs.terms.device.Setup.{Setup}
use Rattle.cct_model_lines.specs.declared.setup.SetupLine.{SetupLine}
use Rattle.cct_model_lines.specs.declared.setup.SetupLine.TheVariants as says
use Rattle.cct_model_lines.specs.declared.entry.LineKind.{LineKind}
use Rattle.cct_model_lines.specs.declared.entry.LineKind.TheVariants as kind
use Rattle.cct_model_lines.specs.Exchange.{device_at}
use Rattle.cct_model_lines.specs.Setup.{AreDistinct}
use Rattle.cct_model_lines.specs.Grammar.{added, change_device, with_device, valued, named}
use Rattle.cct_model_lines.proofs.Replaced.{renewed}

-- a fact of all devices of a setup, and no two of them have the same address
pub record AreAll (P : DeviceSetup → Type 0) (setup : Setup) : Type 0 where
  pub each : All P setup.devices
  pub distinct : AreDistinct setup.devices

-- a setup line keeps a fact of each device
abbrev pub KeepsEach : (DeviceSetup → Type 0) → SetupLine → Type 0
KeepsEach P (says.Acceptor d) = P d
KeepsEach P (says.Hopper d) = P d
KeepsEach P (says.Bills d) = P d
KeepsEach P (says.Value addr place value id) = (d e : DeviceSetup) → P d → valued d place value id d.body ≡ Ok e → P e
KeepsEach P (says.Named addr texts) = (d e : DeviceSetup) → P d → named d texts ≡ Ok e → P e
KeepsEach P says.Begin = ⊤

other_by : (here : Bool) (d : DeviceSetup) (rest : Option DeviceSetup) → cond here (Some d) rest ≡ None → (here ≡ false) × (rest ≡ None)
other_by true d rest none = absurd cc
other_by false d rest none = (refl, none)

none_by : (here : Bool) (d e : DeviceSetup) (rest more : Option DeviceSetup) → (rest ≡ None → more ≡ None) → cond here (Some d) rest ≡ None → cond here (Some e) more ≡ None
none_by true d e rest more goes none = absurd cc
none_by false d e rest more goes none = goes none

flipped : (a b : ℕ) → (a == b) ≡ false → (b == a) ≡ false
flipped a b e = grind (arith, nat_tests)

none_behind : (devices : List DeviceSetup) (d : DeviceSetup) (addr : ℕ) → device_at devices addr ≡ None → (d.addr == addr) ≡ false → device_at (devices ++ d ∷ []) addr ≡ None
none_behind [] d addr none other = rw other refl
none_behind (e ∷ devices) d addr none other =
    let apart = other_by (e.addr == addr) e (device_at devices addr) none in
    rw apart.0 (none_behind devices d addr apart.1 other)

distinct_behind : (devices : List DeviceSetup) (d : DeviceSetup) → AreDistinct devices → device_at devices d.addr ≡ None → AreDistinct (devices ++ d ∷ [])
distinct_behind [] d distinct none = (refl, tt)
distinct_behind (e ∷ devices) d distinct none =
    let apart = other_by (e.addr == d.addr) e (device_at devices d.addr) none in
    (none_behind devices d e.addr distinct.0 (flipped e.addr d.addr apart.0), distinct_behind devices d distinct.1 apart.1)

-- a device more
one_more : (P : DeviceSetup → Type 0) (setup new : Setup) (d : DeviceSetup) (at : Option DeviceSetup) (full : Bool) → P d → AreAll P setup → device_at setup.devices d.addr ≡ at →
    cond (is_some at || full) (Err kind.Device) (Ok (record { devices = setup.devices ++ d ∷ [] })) ≡ Ok new → AreAll P new
one_more P setup new d (Some e) full fits all same was = absurd cc
one_more P setup new d None true fits all same was = absurd cc
one_more P setup new d None false fits all same was =
    let is : record { devices = setup.devices ++ d ∷ [] } ≡ new = cc in
    let made : AreAll P (record { devices = setup.devices ++ d ∷ [] }) =
    record { each = All-append P setup.devices (d ∷ []) all.each (All-cons P d [] fits (All-nil P)); distinct = distinct_behind setup.devices d all.distinct same } in
    subst (AreAll P) is made

-- a device in the place of the one at its address
renewed_by : (P : DeviceSetup → Type 0) (d e : DeviceSetup) (here : Bool) → (e.addr == d.addr) ≡ here → P d → P e → P (cond here d e) × ((cond here d e).addr ≡ e.addr)
renewed_by P d e true same fits holds = (fits, sym (eqb-true e.addr d.addr same))
renewed_by P d e false same fits holds = (holds, refl)

each_renewed : (P : DeviceSetup → Type 0) (d : DeviceSetup) (devices : List DeviceSetup) → P d → All P devices → All P (map (renewed d) devices)
each_renewed P d [] fits all = All-nil P
each_renewed P d (e ∷ devices) fits all =
    All-cons P (renewed d e) (map (renewed d) devices) (renewed_by P d e (e.addr == d.addr) refl fits (All-head P e devices all)).0
    (each_renewed P d devices fits (All-tail P e devices all))

same_address : (d e : DeviceSetup) → (renewed d e).addr ≡ e.addr
same_address d e = (renewed_by (λ x. Unit) d e (e.addr == d.addr) refl tt tt).1

none_renewed : (d : DeviceSetup) (devices : List DeviceSetup) (addr : ℕ) → device_at devices addr ≡ None → device_at (map (renewed d) devices) addr ≡ None
none_renewed d [] addr none = refl
none_renewed d (e ∷ devices) addr none =
    rw (same_address d e) (none_by (e.addr == addr) e (renewed d e) (device_at devices addr) (device_at (map (renewed d) devices) addr) (none_renewed d devices addr) none)

distinct_renewed : (d : DeviceSetup) (devices : List DeviceSetup) → AreDistinct devices → AreDistinct (map (renewed d) devices)
distinct_renewed d [] distinct = tt
distinct_renewed d (e ∷ devices) distinct =
    (ap (device_at (map (renewed d) devices)) (same_address d e) ∙ none_renewed d devices e.addr distinct.0, distinct_renewed d devices distinct.1)

-- a device of the setup
at_by : (P : DeviceSetup → Type 0) (here : Bool) (e d : DeviceSetup) (rest : Option DeviceSetup) → P e → (rest ≡ Some d → P d) → cond here (Some e) rest ≡ Some d → P d
at_by P true e d rest holds goes found =
    let is : e ≡ d = cc in
    subst P is holds
at_by P false e d rest holds goes found = goes found

each_at : (P : DeviceSetup → Type 0) (devices : List DeviceSetup) (addr : ℕ) (d : DeviceSetup) → All P devices → device_at devices addr ≡ Some d → P d
each_at P [] addr d all found = absurd cc
each_at P (e ∷ devices) addr d all found =
    at_by P (e.addr == addr) e d (device_at devices addr) (All-head P e devices all) (each_at P devices addr d (All-tail P e devices all)) found

-- a device changed
changed_to : (P : DeviceSetup → Type 0) (setup new : Setup) (d : DeviceSetup) (r : Result DeviceSetup LineKind) → AreAll P setup → ((e : DeviceSetup) → r ≡ Ok e → P e) →
    change_device setup (Some d) (λ x. r) ≡ Ok new → AreAll P new
changed_to P setup new d (Ok e) all keeps was =
    let is : with_device setup e ≡ new = cc in
    let made : AreAll P (with_device setup e) = record { each = each_renewed P e setup.devices (keeps e refl) all.each; distinct = distinct_renewed e setup.devices all.distinct } in
    subst (AreAll P) is made
changed_to P setup new d (Err why) all keeps was = absurd cc

changed : (P : DeviceSetup → Type 0) (setup new : Setup) (at : Option DeviceSetup) (change : DeviceSetup → Result DeviceSetup LineKind) → AreAll P setup →
    ((d e : DeviceSetup) → at ≡ Some d → change d ≡ Ok e → P e) → change_device setup at change ≡ Ok new → AreAll P new
changed P setup new None change all keeps was = absurd cc
changed P setup new (Some d) change all keeps was = changed_to P setup new d (change d) all (λ e done. keeps d e refl done) was

-- a setup line that keeps a fact of each device keeps it of all
pub added_keeps : (P : DeviceSetup → Type 0) (setup new : Setup) (line : SetupLine) → KeepsEach P line → AreAll P setup → added setup line ≡ Ok new → AreAll P new
unfolding added
added_keeps P setup new (says.Acceptor d) keeps all was = one_more P setup new d (device_at setup.devices d.addr) (nat_le DEVICES (length setup.devices)) keeps all refl was
added_keeps P setup new (says.Hopper d) keeps all was = one_more P setup new d (device_at setup.devices d.addr) (nat_le DEVICES (length setup.devices)) keeps all refl was
added_keeps P setup new (says.Bills d) keeps all was = one_more P setup new d (device_at setup.devices d.addr) (nat_le DEVICES (length setup.devices)) keeps all refl was
added_keeps P setup new (says.Value addr place value id) keeps all was =
    changed P setup new (device_at setup.devices addr) (λ d. valued d place value id d.body) all
    (λ d e at done. keeps d e (each_at P setup.devices addr d all.each at) done) was
added_keeps P setup new (says.Named addr texts) keeps all was =
    changed P setup new (device_at setup.devices addr) (λ d. named d texts) all
    (λ d e at done. keeps d e (each_at P setup.devices addr d all.each at) done) was
added_keeps P setup new says.Begin keeps all was =
    let is : setup ≡ new = cc in
    subst (AreAll P) is all
