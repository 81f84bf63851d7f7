-- The replies of a bill acceptor.
use Rattle.std.proofs.Common.{◌≡◌, ℕ, Bool, true, false, List, refl}
use Rattle.cct_model_wire.specs.declared.device.DeviceBody.{DeviceBody}
use Rattle.cct_model_wire.specs.declared.device.DeviceBody.TheVariants as body
use Rattle.cct_model_wire.specs.declared.request.Request.{Request}
use Rattle.cct_model_wire.specs.declared.request.Request.TheVariants.{ReadBills, RouteBill, SetMask, SetMaster}
use Rattle.cct_model_wire.specs.Acceptor.{inhibit_reply}
use Rattle.cct_model_wire.specs.Bill.{bill_reply, stack_count}
use Rattle.cct_model_wire.specs.Device.{IsBill, own_reply}
use Rattle.cct_model_wire.specs.History.{Met}
use Rattle.cct_device_intake.specs.Intake.{is_setting}
use Rattle.cct_bill.specs.Bill.{is_change, start_of}

-- What a bill acceptor's kind alone answers, it answers by its start.
pub own_is : (serial : ℕ) (b : DeviceBody) (past : List Met) (q : Request)
    → IsBill b → own_reply serial b past q ≡ bill_reply (start_of b) past q
own_is serial (body.Acceptor start values ids) past q kind = absurd kind
own_is serial (body.Hopper life value) past q kind = absurd kind
own_is serial (body.Bill start values ids) past q kind = refl

-- Whether bill acceptors alone answer a request.
abbrev pub is_of_bills : Request → Bool
is_of_bills ReadBills = true
is_of_bills (RouteBill way) = true
is_of_bills q = false

-- Any other they answer as all devices do that take money.
pub other_is : (start : ℕ) (past : List Met) (q : Request)
    → is_of_bills q ≡ false → bill_reply start past q ≡ inhibit_reply (stack_count start past) past q
unfolding bill_reply
other_is start past ReadBills other = absurd cc
other_is start past (RouteBill way) other = absurd cc
other_is start past q other = refl

-- A request that changes nothing sets no inhibit.
pub sets_nothing : (q : Request) → is_change q ≡ false → is_setting q ≡ false
sets_nothing (SetMask mask) still = absurd cc
sets_nothing (SetMaster value) still = absurd cc
sets_nothing q still = refl
