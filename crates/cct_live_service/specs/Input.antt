-- What a line of the input says: to the host, or of its journal.
use Rattle.std.specs.Prelude.{ℕ, List, ◌∷◌, ◌==◌, ◌&&◌, Bool, false, if◌then◌else◌, Result, Ok, Err}
use Rattle.std.specs.Prelude.{codes, bytes_eq, ⊤}
use Rattle.cct_model.specs.lines.entry.LineKind.{LineKind}
use Rattle.cct_model.specs.lines.entry.LineKind.TheVariants as kind
use Rattle.cct_script.specs.declared.live.LiveLine.{LiveLine}
use Rattle.cct_script.specs.Live.{IsTold, live_line}
use Rattle.cct_live_service.specs.declared.input.InputLine.{InputLine}
use Rattle.cct_live_service.specs.declared.input.InputLine.TheVariants as input

-- The first bytes are the word `state` and a space.
abbrev pub begins_with_state : List ℕ → Bool
begins_with_state (a ∷ b ∷ c ∷ d ∷ e ∷ f ∷ rest) =
    (a == 115) && (b == 116) && (c == 97) && (d == 116) && (e == 101) && (f == 32)
begins_with_state line = false

-- What a line says to the host is said by the input.
abbrev pub to_host : Result LiveLine LineKind → Result InputLine LineKind
to_host (Ok said) = Ok (input.Host said)
to_host (Err why) = Err why

-- What a line says, without its line feed, or why it is refused.
abbrev pub input_line : List ℕ → Result InputLine LineKind
input_line line =
    if bytes_eq line (codes "state") then Ok input.State
    else if begins_with_state line then Err kind.Form
    else to_host (live_line line)

-- What is said to the host has its numbers in their ranges.
abbrev pub IsToldInput : InputLine → Type 0
IsToldInput (input.Host said) = IsTold said
IsToldInput input.State = ⊤
