-- In what a setup differs from the one that a journal was made for, of all that touches its records
-- or money.
use Rattle.std.specs.Prelude.{ℕ, ◌==◌, Bool, true, false, bytes_eq, if◌then◌else◌, Option, Some}
use Rattle.std.specs.Prelude.{None}
use Rattle.cct_model_lines.specs.terms.wire.CheckKind.{CheckKind}
use Rattle.cct_model_lines.specs.terms.wire.CheckKind.TheVariants.{Simple, Crc}
use Rattle.cct_model_lines.specs.terms.device.DeviceBody.{DeviceBody}
use Rattle.cct_model_lines.specs.terms.device.DeviceBody.TheVariants.{Acceptor, Bill, Hopper}
use Rattle.cct_model_lines.specs.terms.device.DeviceSetup.{DeviceSetup}
use Rattle.cct_model_lines.specs.terms.device.Setup.{Setup}
use Rattle.cct_model_lines.specs.Exchange.{device_at}
use Rattle.cct_model_wire.specs.Family.{family_of, is_same}
use Rattle.cct_live_setup_copy.specs.declared.difference.What.{What}
use Rattle.cct_live_setup_copy.specs.declared.difference.What.TheVariants.{Missing, New, Kind}
use Rattle.cct_live_setup_copy.specs.declared.difference.What.TheVariants.{Check, Serial, Value}

-- Two checks are the same.
abbrev pub same_check : CheckKind → CheckKind → Bool
same_check Simple Simple = true
same_check Simple Crc = false
same_check Crc Simple = false
same_check Crc Crc = true

-- Two devices have the same values: those of the places of acceptors of coins, or of bills, or
-- those of hoppers' coins.
abbrev pub same_values : DeviceBody → DeviceBody → Bool
same_values (Acceptor accepts values ids) (Acceptor counted others names) = bytes_eq values others
same_values (Bill accepts values ids) (Bill counted others names) = bytes_eq values others
same_values (Hopper life value) (Hopper paid other) = value == other
same_values body other = false

-- What differs between two devices of one address, by the first of these that does.
abbrev pub difference_between : DeviceSetup → DeviceSetup → Option What
difference_between kept given =
    if is_same (family_of kept.body) (family_of given.body)
    then (if same_check kept.kind given.kind
    then (if kept.serial == given.serial
    then (if same_values kept.body given.body then None else Some Value)
    else Some Serial)
    else Some Check)
    else Some Kind

-- What differs between what two setups have at an address.
abbrev pub difference_of : Option DeviceSetup → Option DeviceSetup → Option What
difference_of None None = None
difference_of None (Some given) = Some New
difference_of (Some kept) None = Some Missing
difference_of (Some kept) (Some given) = difference_between kept given

-- What differs at an address between the setup that is kept and another one.
unfoldable pub difference_at : Setup → Setup → ℕ → Option What
difference_at kept given addr =
    difference_of (device_at kept.devices addr) (device_at given.devices addr)
