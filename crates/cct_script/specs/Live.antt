-- What a line says to a host on a real line.
use Rattle.std.specs.Prelude.{ℕ, List, [], ◌∷◌, if◌then◌else◌, Option, None, Result, Ok, Err, codes}
use Rattle.std.specs.Prelude.{bytes_eq, ⊤, ◌≤◌}
use Rattle.std.specs.Option.{ok_or, option_map}
use Rattle.std.specs.List.{slice_split}
use Rattle.cct_model_lines.specs.declared.command.TheConstants.{GREATEST_AMOUNT}
use Rattle.cct_model_lines.specs.declared.command.Step.{Step}
use Rattle.cct_model_lines.specs.declared.command.Step.TheVariants as step
use Rattle.cct_model_lines.specs.declared.entry.LineKind.{LineKind}
use Rattle.cct_model_lines.specs.declared.entry.LineKind.TheVariants as kind
use Rattle.cct_model_lines.specs.Grammar.{address_in, alone, is_space, ranged, step_line}
use Rattle.cct_model_lines.specs.Script.{IsCommand}
use Rattle.cct_script.specs.declared.live.LiveLine.{LiveLine}
use Rattle.cct_script.specs.declared.live.LiveLine.TheVariants as says

-- What is after the word `do`: an address.
abbrev pub do_form : List (List ℕ) → Option LiveLine
do_form (a ∷ []) = option_map says.Do (address_in a)
do_form fields = None

-- What is after the word `order`: the number of an order, as a payment has it.
abbrev pub order_form : List (List ℕ) → Option LiveLine
order_form (i ∷ []) = option_map says.Order (ranged 1 4294967295 i)
order_form fields = None

-- A step line of a script that a host on a real line knows: a command, `next`, `balance`, a line of
-- the operator's desk or `end`.
abbrev pub of_step : Result Step LineKind → Result LiveLine LineKind
of_step (Ok (step.Command c)) = Ok (says.Command c)
of_step (Ok (step.Next addr)) = Ok (says.Next addr)
of_step (Ok step.Balance) = Ok says.Balance
of_step (Ok (step.Stock addr count)) = Ok (says.Stock addr count)
of_step (Ok (step.Change first amount)) = Ok (says.Change first amount)
of_step (Ok step.Serve) = Ok says.Serve
of_step (Ok step.End) = Ok says.End
of_step (Ok s) = Err kind.Word
of_step (Err why) = Err why

-- A line of this word and these fields after it.
abbrev pub live_word : List ℕ → List (List ℕ) → List ℕ → Result LiveLine LineKind
live_word word fields line =
    if bytes_eq word (codes "do") then ok_or (do_form fields) kind.Form
    else if bytes_eq word (codes "poll") then ok_or (alone says.Poll fields) kind.Form
    else if bytes_eq word (codes "status") then ok_or (alone says.Status fields) kind.Form
    else if bytes_eq word (codes "order") then ok_or (order_form fields) kind.Form
    else of_step (step_line line)

-- Its fields, the first one its word.
abbrev pub live_fields : List (List ℕ) → List ℕ → Result LiveLine LineKind
live_fields [] line = Err kind.Word
live_fields (word ∷ fields) line = live_word word fields line

-- What a line says, without its line feed, or why it is refused.
unfoldable pub live_line : List ℕ → Result LiveLine LineKind
live_line line = live_fields (slice_split is_space line) line

-- The numbers of a command are in their ranges, as the number of an order and what a session is to
-- begin with are.
abbrev pub IsTold : LiveLine → Type 0
IsTold (says.Command c) = IsCommand c
IsTold (says.Order id) = (1 ≤ id) × (id ≤ 4294967295)
IsTold (says.Change first amount) = (1 ≤ first) × (amount ≤ GREATEST_AMOUNT)
IsTold line = ⊤
