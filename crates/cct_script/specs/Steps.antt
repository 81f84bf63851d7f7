-- The words of step lines in groups of a few: what is after none of a group's words, the next group
-- says.
use Rattle.std.specs.Prelude.{◌≡◌, ℕ, List, if◌then◌else◌, Option, None, Result, Ok, Err}
use Rattle.std.specs.Prelude.{OnOk, codes, bytes_eq}
use Rattle.std.specs.Option.{ok_or, option_map}
use Rattle.cct_model_lines.specs.declared.command.Command.TheVariants as command
use Rattle.cct_model_lines.specs.declared.command.Step.{Step}
use Rattle.cct_model_lines.specs.declared.command.Step.TheVariants as step
use Rattle.cct_model_lines.specs.declared.command.WireFault.TheVariants as fault
use Rattle.cct_model_lines.specs.declared.entry.LineKind.{LineKind}
use Rattle.cct_model_lines.specs.declared.entry.LineKind.TheVariants as kind
use Rattle.cct_model_lines.specs.Grammar.{alone, change_step, crash_step, fault_step, path_step}
use Rattle.cct_model_lines.specs.Grammar.{pay_step, piece_in, place_step}
use Rattle.cct_model_lines.specs.Grammar.{route_step, start_step, step_at, stock_step, vend_step}
use Rattle.cct_model_lines.specs.terms.wire.TheConstants.{MOST_HEARD, MOST_SENT}
use Rattle.cct_model_lines.specs.Script.{IsInRange}

-- What a line says, by the answer and what stands then in the room for its step.
abbrev pub said_into : Result (Unit {0}) LineKind → Step → Result Step LineKind
said_into (Ok done) s = Ok s
said_into (Err why) s = Err why

-- The answer and the step in its room are what the grammar says, and a step that is said is in
-- range.
pub record ReadsInto (result : Result (Unit {0}) LineKind) (s : Step) (said : Result Step LineKind)
    : Type 0 where
  pub reads : said_into result s ≡ said
  pub ranged : OnOk result (IsInRange s)

-- A wire fault with the bytes that a field spells in the place of its own; of any other step there
-- is none.
abbrev pub with_bytes : Step → List ℕ → Option Step
with_bytes (step.Fault (fault.DevicesHear old)) field =
    option_map (λ bytes. step.Fault (fault.DevicesHear bytes)) (piece_in MOST_SENT field)
with_bytes (step.Fault (fault.HostHears old)) field =
    option_map (λ bytes. step.Fault (fault.HostHears bytes)) (piece_in MOST_SENT field)
with_bytes (step.Fault (fault.WholeHeard old)) field =
    option_map (λ bytes. step.Fault (fault.WholeHeard bytes)) (piece_in MOST_HEARD field)
with_bytes s field = None

-- What the operator reads, says of a hopper's stock, and wants of a session of change; and the end.
unfoldable pub desk_step : List ℕ → List (List ℕ) → Result Step LineKind
desk_step word fields =
    if bytes_eq word (codes "balance") then ok_or (alone step.Balance fields) kind.Form
    else if bytes_eq word (codes "stock") then ok_or (stock_step fields) kind.Form
    else if bytes_eq word (codes "change") then ok_or (change_step fields) kind.Form
    else if bytes_eq word (codes "serve") then ok_or (alone step.Serve fields) kind.Form
    else if bytes_eq word (codes "end") then ok_or (alone step.End fields) kind.Form
    else Err kind.Word

-- The other commands, and a power cut; then the others.
unfoldable pub other_step : List ℕ → List (List ℕ) → Result Step LineKind
other_step word fields =
    if bytes_eq word (codes "path") then ok_or (path_step fields) kind.Form
    else if bytes_eq word (codes "route") then ok_or (route_step fields) kind.Form
    else if bytes_eq word (codes "vend") then ok_or (vend_step fields) kind.Form
    else if bytes_eq word (codes "crash") then ok_or (crash_step fields) kind.Form
    else desk_step word fields

-- The commands to a hopper, and those that ask of devices; then the others.
unfoldable pub order_step : List ℕ → List (List ℕ) → Result Step LineKind
order_step word fields =
    if bytes_eq word (codes "settle") then ok_or (step_at (λ a. step.Command (command.Settle a)) fields) kind.Form
    else if bytes_eq word (codes "halt") then ok_or (step_at (λ a. step.Command (command.Halt a)) fields) kind.Form
    else if bytes_eq word (codes "ident") then ok_or (step_at (λ a. step.Command (command.Ident a)) fields) kind.Form
    else if bytes_eq word (codes "pay") then ok_or (pay_step fields) kind.Form
    else if bytes_eq word (codes "scan") then ok_or (alone (step.Command command.Scan) fields) kind.Form
    else other_step word fields

-- What is wrong on the wire, and the commands of an epoch; then the others.
unfoldable pub epoch_step : List ℕ → List (List ℕ) → Result Step LineKind
epoch_step word fields =
    if bytes_eq word (codes "fault") then ok_or (fault_step fields) kind.Form
    else if bytes_eq word (codes "start") then ok_or (start_step fields) kind.Form
    else if bytes_eq word (codes "round") then ok_or (step_at (λ a. step.Command (command.Round a)) fields) kind.Form
    else if bytes_eq word (codes "stop") then ok_or (step_at (λ a. step.Command (command.Stop a)) fields) kind.Form
    else order_step word fields

-- What happens to a device; then the others.
unfoldable pub device_step : List ℕ → List (List ℕ) → Result Step LineKind
device_step word fields =
    if bytes_eq word (codes "coin") then ok_or (place_step step.Coin fields) kind.Form
    else if bytes_eq word (codes "alien") then ok_or (step_at step.Alien fields) kind.Form
    else if bytes_eq word (codes "bill") then ok_or (place_step step.Bill fields) kind.Form
    else if bytes_eq word (codes "fall") then ok_or (step_at step.Fall fields) kind.Form
    else if bytes_eq word (codes "jam") then ok_or (step_at step.Jam fields) kind.Form
    else if bytes_eq word (codes "reset") then ok_or (step_at step.Reset fields) kind.Form
    else epoch_step word fields

-- The next attempt of a job; then the others.
unfoldable pub next_step : List ℕ → List (List ℕ) → Result Step LineKind
next_step word fields =
    if bytes_eq word (codes "next") then ok_or (step_at step.Next fields) kind.Form
    else device_step word fields
