-- A coin acceptor that represents all that it met (ccTalk Generic Specification 4, part 2).
use Rattle.std.specs.Prelude.{◌≡◌, ℕ, Bool, true, false, List, [], if◌then◌else◌}
use Rattle.cct_model_wire.specs.declared.device.DeviceBody.{DeviceBody}
use Rattle.cct_model_wire.specs.declared.device.DeviceBody.TheVariants as body
use Rattle.cct_model_wire.specs.declared.device.DeviceSetup.{DeviceSetup}
use Rattle.cct_model_wire.specs.declared.request.Request.{Request}
use Rattle.cct_model_wire.specs.declared.request.Request.TheVariants.{ResetDevice, SetMask}
use Rattle.cct_model_wire.specs.declared.request.Request.TheVariants.{SetMaster, SetPath}
use Rattle.cct_model_wire.specs.declared.request.Request.TheVariants.{SetDefault}
use Rattle.cct_model_wire.specs.Acceptor.{accepted_coins, accepts, events, path_of, settings}
use Rattle.cct_model_wire.specs.Device.{IsAcceptor}
use Rattle.cct_model_wire.specs.History.{Met}
use Rattle.cct_device_core.specs.Listening.{HeardSince}
use Rattle.cct_device_intake.specs.Intake.{Holds}
use Rattle.cct_acceptor.specs.declared.acceptor.Acceptor.{Acceptor}
use Rattle.cct_acceptor.specs.declared.acceptor.Inserted.{Inserted}
use Rattle.cct_acceptor.specs.declared.acceptor.Inserted.TheVariants.{Accepted, Inhibited}

-- The number at which the accept counter of an acceptor starts.
abbrev pub start_of : DeviceBody → ℕ
start_of (body.Acceptor start values ids) = start
start_of (body.Hopper life value) = 0
start_of (body.Bill start values ids) = 0

-- The identifications of the coins of an acceptor, that of place 1 first.
abbrev pub ids_of : DeviceBody → List (List ℕ)
ids_of (body.Acceptor start values ids) = ids
ids_of (body.Hopper life value) = []
ids_of (body.Bill start values ids) = []

-- An acceptor represents one of this setup that met all this, newest first: its settings, its
-- events and its accept counter are what that made them.
pub record StandsFor (acceptor : Acceptor) (d : DeviceSetup) (past : List Met) : Type 0 where
  pub kind : IsAcceptor d.body
  pub setup : acceptor.setup.now ≡ d
  pub ids : acceptor.ids.now ≡ ids_of d.body
  pub intake : Holds acceptor.intake (start_of d.body) (settings past) (events past)
      (accepted_coins past)

-- An acceptor heard these bytes since the last gap.
abbrev pub HasHeard : Acceptor → List ℕ → Type 0
HasHeard acceptor bytes = HeardSince acceptor.listener acceptor.setup.now.addr bytes

-- An acceptor heard no byte since the last gap.
abbrev pub IsAtGap : Acceptor → Type 0
IsAtGap acceptor = HasHeard acceptor []

-- What becomes of a coin of a place that falls into an acceptor that met all this: it is accepted
-- and falls by the path of its place, or it is inhibited and given back.
abbrev pub inserted : List Met → ℕ → Inserted
inserted past place = if accepts past place then Accepted
    (record { place = place; path = path_of past place }) else Inhibited

-- Whether a request changes what an acceptor holds: it resets the device or sets something.
abbrev pub is_change : Request → Bool
is_change ResetDevice = true
is_change (SetMask mask) = true
is_change (SetMaster value) = true
is_change (SetPath place path) = true
is_change (SetDefault path) = true
is_change q = false
