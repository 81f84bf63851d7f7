-- How a host stands, by all that happened.
use Rattle.std.specs.Prelude.{ℕ, ◌+◌, ◌-◌, ◌==◌, List, length, if◌then◌else◌, Option, Some, None}
use Rattle.cct_model.specs.terms.wire.TheConstants.{BROADCAST, HOST}
use Rattle.cct_model.specs.terms.device.DeviceSetup.{DeviceSetup}
use Rattle.cct_model.specs.terms.device.Setup.{Setup}
use Rattle.cct_model.specs.lines.command.Command.{Command}
use Rattle.cct_model.specs.lines.entry.Entry.{Entry}
use Rattle.cct_model.specs.declared.judging.EpochState.{EpochState}
use Rattle.cct_model.specs.declared.judging.EpochState.TheVariants.{Idle}
use Rattle.cct_model.specs.declared.judging.OpenOrder.{OpenOrder}
use Rattle.cct_model.specs.Exchange.{device_at}
use Rattle.cct_model.specs.Job.{epoch, job}
use Rattle.cct_model.specs.Order.{order}
use Rattle.cct_model.specs.Records.{records}
use Rattle.cct_model.specs.Refusal.{held}
use Rattle.cct_model.specs.Transcript.{lines_of, sale_lines, scan_lines}
use Rattle.cct_host.specs.Running.{command_of}

-- The epoch of a device that was found; none runs where none was.
abbrev pub epoch_there : List Entry → Option DeviceSetup → EpochState
epoch_there past None = Idle
epoch_there past (Some d) = epoch (lines_of d past)

-- The epoch of the device at an address.
abbrev pub epoch_at : Setup → List Entry → ℕ → EpochState
epoch_at setup past addr = epoch_there past (device_at setup.devices addr)

-- The open order of a device that was found; none is open where none was.
abbrev pub order_there : List Entry → Option DeviceSetup → Option OpenOrder
order_there past None = None
order_there past (Some d) = order (lines_of d past)

-- The open order of the device at an address.
abbrev pub order_at : Setup → List Entry → ℕ → Option OpenOrder
order_at setup past addr = order_there past (device_at setup.devices addr)

-- The command whose job is at an address where no device was found: a scan is at the address of all
-- devices, and a sale at that of the host.
abbrev pub bare_command : List Entry → ℕ → Option Command
bare_command past addr =
    if addr == BROADCAST then command_of (job (scan_lines past))
    else if addr == HOST then command_of (job (sale_lines past)) else None

-- The command whose job is at an address, where this device was found.
abbrev pub command_there : List Entry → ℕ → Option DeviceSetup → Option Command
command_there past addr None = bare_command past addr
command_there past addr (Some d) = command_of (job (lines_of d past))

-- The command whose job is at an address, if one is.
abbrev pub command_at : Setup → List Entry → ℕ → Option Command
command_at setup past addr = command_there past addr (device_at setup.devices addr)

-- How many records a journal of this capacity takes beside those that are put and those that are
-- held for jobs and for open orders; none where it has no such room.
abbrev pub room_after : ℕ → Setup → List Entry → ℕ
room_after capacity setup past = capacity - (length (records past) + held setup past)
