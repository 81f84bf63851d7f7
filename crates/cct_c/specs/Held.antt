-- A device core that represents all that it met, and what it answers to a program in another
-- language.
use Rattle.std.specs.Prelude.{ℕ, ◌==◌, not, List, [], ◌∷◌, if◌then◌else◌, Option, Some, None}
use Rattle.cct_model_wire.specs.Bill.{holds}
use Rattle.cct_model_wire.specs.Hopper.{remaining}
use Rattle.cct_model_wire.specs.declared.device.DeviceSetup.{DeviceSetup}
use Rattle.cct_model_wire.specs.History.{Met, coin, alien}
use Rattle.cct_acceptor.specs.Acceptor as acceptor
use Rattle.cct_acceptor.specs.declared.acceptor.Inserted.{Inserted}
use Rattle.cct_acceptor.specs.declared.acceptor.Inserted.TheVariants.{Accepted, Inhibited}
use Rattle.cct_bill.specs.Bill as bill
use Rattle.cct_hopper.specs.Hopper as hopper
use Rattle.cct_c.specs.declared.codes.TheConstants.{OK, BAD_HANDLE, NOTHING, SILENCE, WRONG_FAMILY}
use Rattle.cct_c.specs.declared.held.Held.{Held}
use Rattle.cct_c.specs.declared.held.Held.TheVariants.{Acceptor, Bill, Hopper, Settings}

-- It represents a device of a setup that met all this, newest first. Settings alone are no device.
abbrev pub StandsFor : Held → DeviceSetup → List Met → Type 0
StandsFor (Settings s) d past = ⊥
StandsFor (Acceptor a) d past = acceptor.StandsFor a d past
StandsFor (Hopper h) d past = hopper.StandsFor h d past
StandsFor (Bill b) d past = bill.StandsFor b d past

-- It heard these bytes since the last gap.
abbrev pub HasHeard : Held → List ℕ → Type 0
HasHeard (Settings s) bytes = ⊥
HasHeard (Acceptor a) bytes = acceptor.HasHeard a bytes
HasHeard (Hopper h) bytes = hopper.HasHeard h bytes
HasHeard (Bill b) bytes = bill.HasHeard b bytes

-- What a call answers that every device knows.
abbrev pub device_code : Held → ℕ
device_code (Settings s) = BAD_HANDLE
device_code (Acceptor a) = OK
device_code (Hopper h) = OK
device_code (Bill b) = OK

-- What a call answers to bytes that a device answers so, or not at all.
abbrev pub answer_code : Option (List ℕ) → ℕ
answer_code None = SILENCE
answer_code (Some said) = OK

-- What a call answers to a coin of which this became.
abbrev pub inserted_code : Inserted → ℕ
inserted_code (Accepted taken) = OK
inserted_code Inhibited = NOTHING

-- The sorter path of a coin that was taken, or what stood there before.
abbrev pub inserted_path : Inserted → ℕ → ℕ
inserted_path (Accepted taken) before = taken.path
inserted_path Inhibited before = before

-- What it met once a coin or a bill of a place was put in.
abbrev pub met_put : Held → ℕ → List Met → List Met
met_put (Settings s) place past = past
met_put (Acceptor a) place past = coin place ∷ past
met_put (Hopper h) place past = past
met_put (Bill b) place past = coin place ∷ past

-- What a call answers by which a coin or a bill of a place is put in.
abbrev pub put_code : Held → ℕ → List Met → ℕ
put_code (Settings s) place past = BAD_HANDLE
put_code (Acceptor a) place past = inserted_code (acceptor.inserted past place)
put_code (Hopper h) place past = WRONG_FAMILY
put_code (Bill b) place past = if holds past place then OK else NOTHING

-- The sorter path that is reported for a coin, or what stood there before where none was taken.
abbrev pub path_told : Held → ℕ → List Met → ℕ → ℕ
path_told (Settings s) place past before = before
path_told (Acceptor a) place past before = inserted_path (acceptor.inserted past place) before
path_told (Hopper h) place past before = before
path_told (Bill b) place past before = before

-- What it met once an object that is no coin was put in.
abbrev pub met_alien : Held → List Met → List Met
met_alien (Settings s) past = past
met_alien (Acceptor a) past = alien ∷ past
met_alien (Hopper h) past = past
met_alien (Bill b) past = past

-- What a call answers that only a coin acceptor knows.
abbrev pub acceptor_code : Held → ℕ
acceptor_code (Settings s) = BAD_HANDLE
acceptor_code (Acceptor a) = OK
acceptor_code (Hopper h) = WRONG_FAMILY
acceptor_code (Bill b) = WRONG_FAMILY

-- What it met once something happened that only a hopper knows.
abbrev pub met_paying : Held → Met → List Met → List Met
met_paying (Settings s) what past = past
met_paying (Acceptor a) what past = past
met_paying (Hopper h) what past = what ∷ past
met_paying (Bill b) what past = past

-- What a call answers that only a hopper knows, which is nothing to one that isn't paying.
abbrev pub paying_code : Held → ℕ → List Met → ℕ
paying_code (Settings s) serial past = BAD_HANDLE
paying_code (Acceptor a) serial past = WRONG_FAMILY
paying_code (Hopper h) serial past = if not (remaining serial past == 0) then OK else NOTHING
paying_code (Bill b) serial past = WRONG_FAMILY
