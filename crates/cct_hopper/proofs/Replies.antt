-- The replies of a hopper.
use Rattle.std.proofs.Common.{◌≡◌, ℕ, List, refl}
use Rattle.cct_model_wire.specs.declared.device.DeviceBody.{DeviceBody}
use Rattle.cct_model_wire.specs.declared.device.DeviceBody.TheVariants as body
use Rattle.cct_model_wire.specs.declared.request.Request.{Request}
use Rattle.cct_model_wire.specs.Device.{IsHopper, own_reply}
use Rattle.cct_model_wire.specs.History.{Met}
use Rattle.cct_model_wire.specs.Hopper.{hopper_reply}
use Rattle.cct_hopper.specs.Hopper.{start_of}

-- What a hopper's kind alone answers, it answers by its serial number and its start.
pub own_is : (serial : ℕ) (b : DeviceBody) (past : List Met) (q : Request)
    → IsHopper b → own_reply serial b past q ≡ hopper_reply serial (start_of b) past q
own_is serial (body.Acceptor start values ids) past q kind = absurd kind
own_is serial (body.Hopper life value) past q kind = refl
own_is serial (body.Bill accepts values ids) past q kind = absurd kind
