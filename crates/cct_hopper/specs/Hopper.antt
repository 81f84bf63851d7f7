-- A hopper that represents all that it met (ccTalk Generic Specification 4, part 3).
use Rattle.std.specs.Prelude.{◌≡◌, ℕ, ◌==◌, Bool, true, false, List, [], Option, Some, None, Result}
use Rattle.std.specs.Prelude.{Ok, Err, if◌then◌else◌, not}
use Rattle.cct_model_wire.specs.declared.device.DeviceBody.{DeviceBody}
use Rattle.cct_model_wire.specs.declared.device.DeviceBody.TheVariants as body
use Rattle.cct_model_wire.specs.declared.device.DeviceSetup.{DeviceSetup}
use Rattle.cct_model_wire.specs.declared.request.Request.{Request}
use Rattle.cct_model_wire.specs.declared.request.Request.TheVariants.{ResetDevice, Enable, Dispense}
use Rattle.cct_model_wire.specs.declared.request.Request.TheVariants.{StopNow, TestHopper}
use Rattle.cct_model_wire.specs.Acceptor as acceptor
use Rattle.cct_model_wire.specs.Device.{IsHopper}
use Rattle.cct_model_wire.specs.History.{Met}
use Rattle.cct_model_wire.specs.Hopper.{enabled, remaining, payouts, last_paid, last_unpaid}
use Rattle.cct_model_wire.specs.Hopper.{has_timeout, is_tested, life_count}
use Rattle.cct_device_core.specs.Listening.{HeardSince}
use Rattle.cct_life.specs.Life.{count_of}
use Rattle.cct_hopper.specs.declared.device.Device.{Device}
use Rattle.cct_hopper.specs.declared.hopper.Hopper.{Hopper}
use Rattle.cct_hopper.specs.declared.hopper.Hopper.TheVariants.{Off, Idle, Paying}
use Rattle.cct_hopper.specs.declared.states.AfterFall.{AfterFall}
use Rattle.cct_hopper.specs.declared.states.AfterFall.TheVariants as fell
use Rattle.cct_hopper.specs.declared.states.DispenseNo.{DispenseNo}
use Rattle.cct_hopper.specs.declared.states.DispenseNo.TheVariants.{WrongSerial, Nothing}
use Rattle.cct_hopper.specs.declared.states.HopperIdle.{HopperIdle}
use Rattle.cct_hopper.specs.declared.states.HopperPaying.{HopperPaying}

-- The number at which the life count of a hopper starts.
abbrev pub start_of : DeviceBody → ℕ
start_of (body.Acceptor start values ids) = 0
start_of (body.Hopper life value) = life
start_of (body.Bill accepts values ids) = 0

-- What a hopper remembers in whatever state it is: its life count, its event counter, how many
-- coins of its last payout were paid and stayed unpaid, whether a jam ended that, and whether its
-- test register was read.
pub record Memory : Type 0 where
  pub life : ℕ
  pub counter : ℕ
  pub paid : ℕ
  pub unpaid : ℕ
  pub timeout : Bool
  pub tested : Bool

-- What a hopper remembers, as its fields have it.
abbrev pub memory : Device → Memory
memory device = record {
  life = count_of device.life;
  counter = device.counter;
  paid = device.paid;
  unpaid = device.unpaid;
  timeout = device.timeout;
  tested = device.tested;
}

-- What a hopper remembers after a reset: its life count alone.
abbrev pub at_power_up : ℕ → Memory
at_power_up life =
    record { life = life; counter = 0; paid = 0; unpaid = 0; timeout = false; tested = false }

-- What a hopper of this setup remembers that met all this.
abbrev pub remembered : DeviceSetup → List Met → Memory
remembered d past = record {
  life = life_count d.serial (start_of d.body) past;
  counter = acceptor.counter (payouts d.serial past);
  paid = last_paid d.serial past;
  unpaid = last_unpaid d.serial past;
  timeout = has_timeout d.serial past;
  tested = is_tested past;
}

-- The hopper itself, in whatever state it is.
abbrev pub device_of : Hopper → Device
device_of (Off hopper) = hopper.device
device_of (Idle hopper) = hopper.device
device_of (Paying hopper) = hopper.device

-- Whether a hopper in a state may pay.
abbrev pub may_pay : Hopper → Bool
may_pay (Off hopper) = false
may_pay (Idle hopper) = true
may_pay (Paying hopper) = true

-- How many coins a hopper in a state has left to pay.
abbrev pub left_of : Hopper → ℕ
left_of (Off hopper) = 0
left_of (Idle hopper) = 0
left_of (Paying hopper) = hopper.remaining

-- A hopper represents one of this setup that met all this, newest first: its state and what it
-- remembers are what that made them. It is paying exactly where coins are left to pay, and off
-- exactly where it may not pay.
pub record StandsFor (hopper : Hopper) (d : DeviceSetup) (past : List Met) : Type 0 where
  pub kind : IsHopper d.body
  pub setup : (device_of hopper).setup.now ≡ d
  pub may_pay : may_pay hopper ≡ enabled past
  pub left : left_of hopper ≡ remaining d.serial past
  pub memory : memory (device_of hopper) ≡ remembered d past

-- The hopper itself heard these bytes since the last gap.
abbrev pub DeviceHeard : Device → List ℕ → Type 0
DeviceHeard device bytes = HeardSince device.listener device.setup.now.addr bytes

-- A hopper heard these bytes since the last gap, whatever its state.
abbrev pub HasHeard : Hopper → List ℕ → Type 0
HasHeard hopper bytes = DeviceHeard (device_of hopper) bytes

-- A hopper heard no byte since the last gap.
abbrev pub IsAtGap : Hopper → Type 0
IsAtGap hopper = HasHeard hopper []

-- The serial number of an idle hopper.
abbrev pub serial_of : HopperIdle → ℕ
serial_of hopper = hopper.device.setup.now.serial

-- Why an idle hopper with its own serial number doesn't pay what it is asked, or none where it
-- does.
abbrev pub refusal : ℕ → ℕ → ℕ → Option DispenseNo
refusal own serial count =
    if not (serial == own) then Some WrongSerial else if count == 0 then Some Nothing else None

-- The hopper after it was asked to pay.
abbrev pub after_dispense : Result HopperPaying (HopperIdle × DispenseNo) → Hopper
after_dispense (Ok paying) = Paying paying
after_dispense (Err refused) = Idle refused.0

-- The hopper after a coin fell.
abbrev pub after_fall : AfterFall → Hopper
after_fall (fell.Paying hopper) = Paying hopper
after_fall (fell.Idle hopper) = Idle hopper

-- Whether a request changes what a hopper holds: it resets it, enables it or turns it off, asks it
-- to pay or to stop, or reads its test register.
abbrev pub is_change : Request → Bool
is_change ResetDevice = true
is_change (Enable code) = true
is_change (Dispense serial count) = true
is_change StopNow = true
is_change TestHopper = true
is_change q = false
