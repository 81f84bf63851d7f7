-- Facts that have one proof at most, so that a value can keep them: that a setup is sound, that a
-- carry fits it, and that a carry is safe.
use Rattle.std.specs.Prelude.{ℕ, List, [], ◌∷◌}
use Rattle.std.proofs.Props.{props}
use Rattle.cct_model.specs.terms.device.DeviceBody.{DeviceBody}
use Rattle.cct_model.specs.terms.device.DeviceBody.TheVariants.{Acceptor, Bill, Hopper}
use Rattle.cct_model.specs.terms.device.DeviceSetup.{DeviceSetup}
use Rattle.cct_model.specs.terms.device.Setup.{Setup}
use Rattle.cct_model.specs.lines.carry.Carry.{Carry}
use Rattle.cct_model.specs.lines.carry.CarryOrder.{CarryOrder}
use Rattle.cct_model.specs.Carried.{IsRightly-prop}
use Rattle.cct_model.specs.Carry.{AreApart, Fits, IsSafe}
use Rattle.cct_model.specs.Device.{IsSound, IsSoundBody}
use Rattle.cct_model.specs.Setup.{AreDistinct, IsSoundSetup}

IsSoundBody-prop : (body : DeviceBody) → IsProp (IsSoundBody body)
IsSoundBody-prop (Acceptor accepts values ids) = hlevel props
IsSoundBody-prop (Hopper life value) = hlevel props
IsSoundBody-prop (Bill accepts values ids) = hlevel props

IsSound-prop : (d : DeviceSetup) → IsProp (IsSound d)
IsSound-prop d = hlevel (props, IsSoundBody-prop)

AreDistinct-prop : (ds : List DeviceSetup) → IsProp (AreDistinct ds)
AreDistinct-prop [] = hlevel props
AreDistinct-prop (d ∷ ds) = hlevel (props, AreDistinct-prop ds)

pub IsSoundSetup-prop : (setup : Setup) → IsProp (IsSoundSetup setup)
IsSoundSetup-prop setup = hlevel (props, IsSound-prop, AreDistinct-prop)

AreApart-prop : (orders : List CarryOrder) → IsProp (AreApart orders)
AreApart-prop [] = hlevel props
AreApart-prop (o ∷ orders) = hlevel (props, AreApart-prop orders)

pub Fits-prop : (setup : Setup) (c : Carry) → IsProp (Fits setup c)
Fits-prop setup c = hlevel (props, AreApart-prop)

pub IsSafe-prop : (setup : Setup) (many : ℕ) (c : Carry) → IsProp (IsSafe setup many c)
IsSafe-prop setup many c = hlevel (props, IsRightly-prop, Fits-prop)
