-- Which lines of an input are refused.
use Rattle.std.specs.Prelude.{ℕ, suc, Bool, true, false, List, [], ◌∷◌, ◌++◌, length, Result, Ok, Err}
use Rattle.cct_model.specs.lines.entry.LineKind.TheVariants as kind
use Rattle.cct_model.specs.terms.device.DeviceSetup.{DeviceSetup}
use Rattle.cct_live_service.specs.declared.input.InputLine.TheVariants as input
use Rattle.cct_live_service.specs.declared.served.Served.{Served}
use Rattle.cct_live_service.specs.Doing.{is_known}
use Rattle.cct_live_service.specs.Hears.{Refusal}
use Rattle.cct_live_service.specs.Said.{Said}

-- The line of a number is refused since it says nothing.
abbrev pub unread : ℕ → Said → List Refusal
unread number (Ok says) = []
unread number (Err why) = (number, why) ∷ []

-- It is refused since it names no device of its kind, unless it names one.
abbrev pub unless_named : Bool → ℕ → List Refusal
unless_named true number = []
unless_named false number = (number, kind.Device) ∷ []

-- The line of a number is refused since it names no device of its kind.
abbrev pub unnamed : List DeviceSetup → ℕ → Said → List Refusal
unnamed devices number (Ok (input.Host says)) = unless_named (is_known devices says) number
unnamed devices number (Ok input.State) = []
unnamed devices number (Err why) = []

-- What comes next of an input is refused: a line that says nothing.
abbrev pub next_unread : ℕ → Result Said Served → List Refusal
next_unread number (Ok said) = unread number said
next_unread number (Err how) = []

-- Those of some lines that are refused, newest first.
abbrev pub refusals : List DeviceSetup → List Said → List Refusal
refusals devices [] = []
refusals devices (said ∷ before) =
    (unnamed devices (suc (length before)) said ++ unread (suc (length before)) said)
    ++ refusals devices before
