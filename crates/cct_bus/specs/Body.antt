-- A coin acceptor, a bill acceptor or a hopper that represents all that it met.
use Rattle.std.specs.Prelude.{◌≡◌, ℕ, List, []}
use Rattle.cct_model.specs.terms.device.DeviceSetup.{DeviceSetup}
use Rattle.cct_model.specs.terms.family.Family.{Family}
use Rattle.cct_model.specs.terms.family.Family.TheVariants as family
use Rattle.cct_model.specs.History.{Met}
use Rattle.cct_acceptor.specs.Acceptor as acceptor
use Rattle.cct_acceptor.specs.declared.acceptor.Acceptor as acceptors
use Rattle.cct_bill.specs.Bill as bill
use Rattle.cct_bill.specs.declared.bill.BillAcceptor as bills
use Rattle.cct_hopper.specs.Hopper as hopper
use Rattle.cct_hopper.specs.declared.hopper.Hopper as hoppers
use Rattle.cct_bus.specs.declared.body.Body.{Body}
use Rattle.cct_bus.specs.declared.body.Body.TheVariants.{Acceptor, Bill, Hopper}

-- Its family.
abbrev pub family_in : Body → Family
family_in (Acceptor a) = family.Acceptor
family_in (Hopper h) = family.Hopper
family_in (Bill b) = family.Bill

-- It represents one of a setup that met all this, newest first.
abbrev pub StandsFor : Body → DeviceSetup → List Met → Type 0
StandsFor (Acceptor a) d past = acceptor.StandsFor a d past
StandsFor (Hopper h) d past = hopper.StandsFor h d past
StandsFor (Bill b) d past = bill.StandsFor b d past

-- It heard these bytes since the last gap.
abbrev pub HasHeard : Body → List ℕ → Type 0
HasHeard (Acceptor a) bytes = acceptor.HasHeard a bytes
HasHeard (Hopper h) bytes = hopper.HasHeard h bytes
HasHeard (Bill b) bytes = bill.HasHeard b bytes

-- It heard no byte since the last gap.
abbrev pub IsAtGap : Body → Type 0
IsAtGap body = HasHeard body []

-- The same, as a struct can keep it.
abbrev pub KeepsGap : Body → Type 0
KeepsGap body =
    ((a : acceptors.Acceptor) → body ≡ Acceptor a → acceptor.IsAtGap a)
    × ((h : hoppers.Hopper) → body ≡ Hopper h → hopper.IsAtGap h)
    × ((b : bills.BillAcceptor) → body ≡ Bill b → bill.IsAtGap b)
