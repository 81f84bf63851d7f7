-- The families of devices, and what happens to a device.
use Rattle.std.specs.Prelude.{◌≤◌, Bool, true, false, ⊤}
use Rattle.cct_model_wire.specs.declared.coin.TheConstants.{COIN_PLACES}
use Rattle.cct_model_wire.specs.declared.device.DeviceBody.{DeviceBody}
use Rattle.cct_model_wire.specs.declared.device.DeviceBody.TheVariants as body
use Rattle.cct_model_wire.specs.declared.family.Family.{Family}
use Rattle.cct_model_wire.specs.declared.family.Family.TheVariants.{Acceptor, Bill, Hopper}
use Rattle.cct_model_wire.specs.declared.family.Happening.{Happening}
use Rattle.cct_model_wire.specs.declared.family.Happening.TheVariants as what
use Rattle.cct_model_wire.specs.History.{Met}
use Rattle.cct_model_wire.specs.History as met

-- The family of a device.
abbrev pub family_of : DeviceBody → Family
family_of (body.Acceptor accepts values ids) = Acceptor
family_of (body.Hopper life value) = Hopper
family_of (body.Bill accepts values ids) = Bill

-- Whether two families are the same.
abbrev pub is_same : Family → Family → Bool
is_same Acceptor Acceptor = true
is_same Acceptor Hopper = false
is_same Acceptor Bill = false
is_same Hopper Acceptor = false
is_same Hopper Hopper = true
is_same Hopper Bill = false
is_same Bill Acceptor = false
is_same Bill Hopper = false
is_same Bill Bill = true

-- Whether devices of a family take money in, and have epochs.
abbrev pub takes_money : Family → Bool
takes_money Acceptor = true
takes_money Hopper = false
takes_money Bill = true

-- Whether a family knows this, so that it can happen to a device of it: coins and other objects
-- fall into an acceptor, bills are put into a bill acceptor, coins fall out of a hopper or get
-- stuck there, and any device is reset.
abbrev pub known_to : Happening → Family → Bool
known_to (what.Coin place) family = is_same Acceptor family
known_to what.Alien family = is_same Acceptor family
known_to (what.Bill place) family = is_same Bill family
known_to what.Fall family = is_same Hopper family
known_to what.Jam family = is_same Hopper family
known_to what.Reset family = true

-- A place of a coin or of a bill is one.
abbrev pub IsPlaced : Happening → Type 0
IsPlaced (what.Coin place) = (1 ≤ place) × (place ≤ COIN_PLACES)
IsPlaced (what.Bill place) = (1 ≤ place) × (place ≤ COIN_PLACES)
IsPlaced happened = ⊤

-- What a device met that this happened to.
abbrev pub met_by : Happening → Met
met_by (what.Coin place) = met.coin place
met_by what.Alien = met.alien
met_by (what.Bill place) = met.coin place
met_by what.Fall = met.fall
met_by what.Jam = met.jam
met_by what.Reset = met.reset
