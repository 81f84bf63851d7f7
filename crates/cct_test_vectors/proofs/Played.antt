-- What a device meets, row by row, with what it is to say.
use Rattle.std.proofs.Common.{ℕ, ◌+◌, ◌-◌, ◌*◌, ◌==◌, nat_lt, not, cond, Bool, List, [], ◌∷◌, Option, Some, None}
use Prim.Native.String.{String}
use Rattle.std.specs.Prelude.{codes}
use Rattle.cct_model.specs.terms.device.DeviceSetup.{DeviceSetup}
use Rattle.cct_model.specs.terms.device.Texts.{Texts}
use Rattle.cct_model.specs.History.{Met, coin, fall, jam, reset, heard}
use Rattle.cct_model.specs.Hopper.{remaining}
use Rattle.cct_model.specs.Bill.{holds}
use Rattle.cct_model.specs.Exchange.{answer, asks_of}

-- a digit of a hexadecimal number
abbrev digit : ℕ → ℕ
digit code = cond (nat_lt code 58) (code - 48) (code - 87)

-- the bytes of which these are the digits
abbrev pub bytes_of : List ℕ → List ℕ
bytes_of [] = []
bytes_of (high ∷ []) = []
bytes_of (high ∷ low ∷ more) = (16 * digit high + digit low) ∷ bytes_of more

-- four texts of three characters
abbrev pub texts : Texts
texts = record { maker = codes "MMM"; product = codes "PPP"; software = codes "SSS"; build = codes "BBB" }

-- what happens to a device, and what it is to say: the answer to a piece, none where it is silent; whether a bill of a place
-- is held; and whether a coin that falls or sticks is anything to it
pub data Row : Type 0 where
  hears : (piece said : String) → Row
  put_in : (place : ℕ) (is_held : Bool) → Row
  fell : (is_paid : Bool) → Row
  jammed : (is_stuck : Bool) → Row
  had_reset : Row

-- what a device says: bytes, or none, or whether something is anything to it
pub data Told : Type 0 where
  says : (bytes : Option (List ℕ)) → Told
  takes : (yes : Bool) → Told
  nothing : Told

-- no bytes are silence
abbrev said_by : List ℕ → Option (List ℕ)
said_by [] = None
said_by (byte ∷ bytes) = Some (byte ∷ bytes)

-- what a row wants
abbrev pub wanted : Row → Told
wanted (hears piece said) = says (said_by (bytes_of (codes said)))
wanted (put_in place is_held) = takes is_held
wanted (fell is_paid) = takes is_paid
wanted (jammed is_stuck) = takes is_stuck
wanted had_reset = nothing

-- what the device says after all that it met before, newest first
abbrev told : DeviceSetup → List Met → Row → Told
told d past (hears piece said) = says (answer d past (bytes_of (codes piece)))
told d past (put_in place is_held) = takes (holds past place)
told d past (fell is_paid) = takes (not (remaining d.serial past == 0))
told d past (jammed is_stuck) = takes (not (remaining d.serial past == 0))
told d past had_reset = nothing

-- what it then met more
abbrev met : DeviceSetup → Row → Met
met d (hears piece said) = heard (asks_of d (bytes_of (codes piece)))
met d (put_in place is_held) = coin place
met d (fell is_paid) = fall
met d (jammed is_stuck) = jam
met d had_reset = reset

-- what it says to each of these rows, one after the other
abbrev pub all_told : DeviceSetup → List Met → List Row → List Told
all_told d past [] = []
all_told d past (row ∷ rows) = told d past row ∷ all_told d (met d row ∷ past) rows

-- all that it met after these rows, newest first
abbrev pub after : DeviceSetup → List Met → List Row → List Met
after d past [] = past
after d past (row ∷ rows) = after d (met d row ∷ past) rows
