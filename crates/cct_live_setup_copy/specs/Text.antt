-- The setup lines that say a setup.
use Rattle.std.specs.Prelude.{ℕ, ◌+◌, ◌==◌, Bool, true, false, List, [], ◌∷◌, ◌++◌, if◌then◌else◌}
use Rattle.std.specs.Prelude.{codes}
use Rattle.cct_model_lines.specs.terms.wire.CheckKind.{CheckKind}
use Rattle.cct_model_lines.specs.terms.wire.CheckKind.TheVariants.{Simple, Crc}
use Rattle.cct_model_lines.specs.terms.device.DeviceBody.{DeviceBody}
use Rattle.cct_model_lines.specs.terms.device.DeviceBody.TheVariants.{Acceptor, Bill, Hopper}
use Rattle.cct_model_lines.specs.terms.device.DeviceSetup.{DeviceSetup}
use Rattle.cct_model_lines.specs.terms.device.Texts.{Texts}
use Rattle.cct_model_lines.specs.terms.device.Setup.{Setup}
use Rattle.cct_model_lines.specs.Text.{number_text}

-- A field after its space.
abbrev pub field : List ℕ → List ℕ
field text = 32 ∷ text

-- A number as a field.
abbrev pub number_field : ℕ → List ℕ
number_field n = field (number_text n)

-- A check as a field.
abbrev pub check_field : CheckKind → List ℕ
check_field Simple = codes " simple"
check_field Crc = codes " crc"

-- The fields that the line of each device begins with.
abbrev pub head_text : List ℕ → DeviceSetup → List ℕ
head_text word d = word ++ number_field d.addr ++ check_field d.kind ++ number_field d.serial

-- The end of a line.
abbrev pub line_end : List ℕ
line_end = 10 ∷ []

-- The line of a device.
abbrev pub device_line : DeviceBody → DeviceSetup → List ℕ
device_line (Acceptor accepts values ids) d = head_text (codes "acceptor") d ++ number_field accepts ++ line_end
device_line (Bill accepts values ids) d = head_text (codes "bills") d ++ number_field accepts ++ line_end
device_line (Hopper life value) d = head_text (codes "hopper") d ++ number_field life ++ number_field value ++ line_end

-- The line of a place that has a value.
abbrev pub value_line : ℕ → ℕ → ℕ → List ℕ → List ℕ
value_line addr place value id =
    codes "value" ++ number_field addr ++ number_field place ++ number_field value ++ field id ++ line_end

-- The line of a place, if it has a value.
abbrev pub value_text : ℕ → ℕ → ℕ → List ℕ → List ℕ
value_text addr place value id = if value == 0 then [] else value_line addr place value id

-- The lines of places from one on, by their values and identifications.
abbrev pub places_text : ℕ → ℕ → List ℕ → List (List ℕ) → List ℕ
places_text addr place (value ∷ values) (id ∷ ids) =
    value_text addr place value id ++ places_text addr (place + 1) values ids
places_text addr place values ids = []

-- The lines of the places of a device.
abbrev pub values_text : ℕ → DeviceBody → List ℕ
values_text addr (Acceptor accepts values ids) = places_text addr 1 values ids
values_text addr (Bill accepts values ids) = places_text addr 1 values ids
values_text addr (Hopper life value) = []

-- The line of a device's texts, where a line said them.
abbrev pub named_text : Bool → ℕ → Texts → List ℕ
named_text false addr texts = []
named_text true addr texts =
    codes "texts" ++ number_field addr ++ field texts.maker ++ field texts.product ++ field texts.software ++ field texts.build
    ++ line_end

-- The lines of a device after the first.
unfoldable pub rest_text : DeviceSetup → List ℕ
rest_text d = values_text d.addr d.body ++ named_text d.named d.addr d.texts

-- The lines of one device.
unfoldable pub device_text : DeviceSetup → List ℕ
device_text d = device_line d.body d ++ rest_text d

-- The lines of devices, in their order.
abbrev pub devices_text : List DeviceSetup → List ℕ
devices_text [] = []
devices_text (d ∷ devices) = device_text d ++ devices_text devices

-- The setup lines of a setup, with `begin`.
abbrev pub setup_text : Setup → List ℕ
setup_text setup = devices_text setup.devices ++ codes "begin\n"
