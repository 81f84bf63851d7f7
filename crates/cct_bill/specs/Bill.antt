-- A bill acceptor that represents all that it met.
use Rattle.std.specs.Prelude.{◌≡◌, ℕ, Bool, true, false, List, [], ◌∷◌}
use Rattle.cct_model_wire.specs.declared.device.DeviceBody.{DeviceBody}
use Rattle.cct_model_wire.specs.declared.device.DeviceBody.TheVariants as body
use Rattle.cct_model_wire.specs.declared.device.DeviceSetup.{DeviceSetup}
use Rattle.cct_model_wire.specs.declared.request.Request.{Request}
use Rattle.cct_model_wire.specs.declared.request.Request.TheVariants.{ResetDevice, SetMask}
use Rattle.cct_model_wire.specs.declared.request.Request.TheVariants.{SetMaster, RouteBill}
use Rattle.cct_model_wire.specs.Acceptor.{settings}
use Rattle.cct_model_wire.specs.Bill.{bill_events, bill_held, stacked_bills}
use Rattle.cct_model_wire.specs.Device.{IsBill}
use Rattle.cct_model_wire.specs.History.{Met}
use Rattle.cct_model_wire.specs.Setting.{Setting, mask_set, master_set, path_set, default_set}
use Rattle.cct_device_core.specs.Listening.{HeardSince}
use Rattle.cct_device_intake.specs.Intake.{Holds}
use Rattle.cct_bill.specs.declared.bill.BillAcceptor.{BillAcceptor}

-- The number at which the accept counter of a bill acceptor starts.
abbrev pub start_of : DeviceBody → ℕ
start_of (body.Acceptor start values ids) = 0
start_of (body.Hopper life value) = 0
start_of (body.Bill start values ids) = start

-- The settings of the inhibits among all that were asked for: a bill acceptor has no sorter.
abbrev pub inhibits_in : List Setting → List Setting
inhibits_in [] = []
inhibits_in (mask_set mask ∷ past) = mask_set mask ∷ inhibits_in past
inhibits_in (master_set value ∷ past) = master_set value ∷ inhibits_in past
inhibits_in (path_set place path ∷ past) = inhibits_in past
inhibits_in (default_set path ∷ past) = inhibits_in past

-- A bill acceptor represents one of this setup that met all this, newest first: its inhibits, its
-- events, its accept counter and the bill in its escrow are what that made them.
pub record StandsFor (bills : BillAcceptor) (d : DeviceSetup) (past : List Met) : Type 0 where
  pub kind : IsBill d.body
  pub setup : bills.setup.now ≡ d
  pub intake : Holds bills.intake (start_of d.body) (inhibits_in (settings past)) (bill_events past)
      (stacked_bills past)
  pub held : bills.held ≡ bill_held past

-- A bill acceptor heard these bytes since the last gap.
abbrev pub HasHeard : BillAcceptor → List ℕ → Type 0
HasHeard bills bytes = HeardSince bills.listener bills.setup.now.addr bytes

-- A bill acceptor heard no byte since the last gap.
abbrev pub IsAtGap : BillAcceptor → Type 0
IsAtGap bills = HasHeard bills []

-- Whether a request changes what a bill acceptor holds: it resets the device, sets an inhibit or
-- routes a bill.
abbrev pub is_change : Request → Bool
is_change ResetDevice = true
is_change (SetMask mask) = true
is_change (SetMaster value) = true
is_change (RouteBill way) = true
is_change q = false
