-- What a script says: its setup, its steps, and the first line that is refused, with its kind
-- (docs/SCRIPT.md).
use Rattle.std.specs.Prelude.{◌≤◌, ℕ, ◌+◌, ◌==◌, ◌&&◌, nat_lt, Bool, true, false, List, [], ◌∷◌}
use Rattle.std.specs.Prelude.{length, if◌then◌else◌, Option, Some, None, Result, Ok, Err, ⊤}
use Rattle.std.specs.List.{slice_split, before_first}
use Rattle.cct_model_lines.specs.terms.coin.TheConstants.{COIN_PLACES, PATHS}
use Rattle.cct_model_lines.specs.terms.request.TheConstants.{STACK_CODE}
use Rattle.cct_model_lines.specs.terms.wire.TheConstants.{MOST_HEARD, MOST_SENT}
use Rattle.cct_model_lines.specs.terms.device.Setup.{Setup}
use Rattle.cct_model_lines.specs.terms.family.Happening.TheVariants as happening
use Rattle.cct_model_lines.specs.declared.entry.TheConstants.{MOST_LINE, MOST_LINES}
use Rattle.cct_model_lines.specs.declared.setup.SetupLine.{SetupLine}
use Rattle.cct_model_lines.specs.declared.setup.SetupLine.TheVariants as says
use Rattle.cct_model_lines.specs.declared.command.TheConstants.{GREATEST_AMOUNT, GREATEST_FIRST}
use Rattle.cct_model_lines.specs.declared.command.Command.{Command}
use Rattle.cct_model_lines.specs.declared.command.Command.TheVariants as command
use Rattle.cct_model_lines.specs.declared.command.CrashAt.{CrashAt}
use Rattle.cct_model_lines.specs.declared.command.WireFault.{WireFault}
use Rattle.cct_model_lines.specs.declared.command.WireFault.TheVariants as fault
use Rattle.cct_model_lines.specs.declared.command.Step.{Step}
use Rattle.cct_model_lines.specs.declared.command.Step.TheVariants as step
use Rattle.cct_model_lines.specs.declared.entry.LineKind.{LineKind}
use Rattle.cct_model_lines.specs.declared.entry.LineKind.TheVariants as kind
use Rattle.cct_model_lines.specs.Exchange.{device_at, hopper_there, known_there}
use Rattle.cct_model_lines.specs.Grammar.{is_space, setup_line, step_line, added}

-- The byte is a line feed.
abbrev pub is_line_feed : ℕ → Bool
is_line_feed byte = byte == 10

-- The first field of a line.
abbrev pub word_of : List ℕ → List ℕ
word_of line = before_first is_space line

-- Which line a script wants next: one of its setup, a step, or none.
pub data Stage : Type 0 where
  at_setup : (setup : Setup) → Stage
  at_steps : (setup : Setup) → Stage
  at_end : (setup : Setup) → Stage

-- The setup that a stage has.
abbrev pub setup_at : Stage → Setup
setup_at (at_setup setup) = setup
setup_at (at_steps setup) = setup
setup_at (at_end setup) = setup

-- What a line is to a script: it goes on, plays a step, or is refused.
pub data Read : Type 0 where
  opens : (next : Stage) → Read
  plays : (s : Step) (next : Stage) → Read
  refuses : (why : LineKind) → Read

-- A setup after a line that adds to it, or why the line is refused.
abbrev pub opened : Result Setup LineKind → Read
opened (Ok setup) = opens (at_setup setup)
opened (Err why) = refuses why

-- What a setup line is to a script: `begin` ends the setup, and another adds to it.
abbrev pub read_setup_line : Setup → Result SetupLine LineKind → Read
read_setup_line setup (Err why) = refuses why
read_setup_line setup (Ok says.Begin) = opens (at_steps setup)
read_setup_line setup (Ok line) = opened (added setup line)

-- Where a step happens to a device, the setup has that device, and its family knows this; and where
-- it shows a stock, that device is a hopper.
abbrev pub is_known : Setup → Step → Bool
is_known setup (step.Coin addr place) =
    known_there (happening.Coin place) (device_at setup.devices addr)
is_known setup (step.Alien addr) = known_there happening.Alien (device_at setup.devices addr)
is_known setup (step.Bill addr place) =
    known_there (happening.Bill place) (device_at setup.devices addr)
is_known setup (step.Fall addr) = known_there happening.Fall (device_at setup.devices addr)
is_known setup (step.Jam addr) = known_there happening.Jam (device_at setup.devices addr)
is_known setup (step.Reset addr) = known_there happening.Reset (device_at setup.devices addr)
is_known setup (step.Stock addr count) = hopper_there (device_at setup.devices addr)
is_known setup s = true

-- A step of a script: one that names a device that isn't there is refused.
abbrev pub read_known : Setup → Step → Read
read_known setup s = if is_known setup s then plays s (at_steps setup) else refuses kind.Device

-- What a step line is to a script: `end` ends it.
abbrev pub read_step_line : Setup → Result Step LineKind → Read
read_step_line setup (Err why) = refuses why
read_step_line setup (Ok step.End) = opens (at_end setup)
read_step_line setup (Ok s) = read_known setup s

-- A whole line, by its word and its form.
unfoldable pub read_form : Stage → List ℕ → Read
read_form (at_setup setup) line = read_setup_line setup (setup_line line)
read_form (at_steps setup) line = read_step_line setup (step_line line)
read_form (at_end setup) line = refuses kind.Trailing

-- The most lines of a script.
unfoldable pub most_lines : ℕ
most_lines = MOST_LINES

-- The most bytes of a line, without its line feed.
abbrev pub most_bytes : ℕ
most_bytes = MOST_LINE

-- The script has ended.
abbrev pub is_over : Stage → Bool
is_over (at_end setup) = true
is_over stage = false

-- A whole line with its number: a line after the end first, then too many lines, then too long a
-- line, then its form.
abbrev pub read_line : ℕ → Stage → List ℕ → Read
read_line number stage line =
    if is_over stage then refuses kind.Trailing
    else if nat_lt most_lines number then refuses kind.Lines
    else if nat_lt most_bytes (length line) then refuses kind.Long
    else read_form stage line

-- Why an unfinished line is refused, if it is: a byte after the end; a byte too many lines; a byte
-- too long; else the input ends within it. Nothing after the end is no line.
abbrev pub unfinished : ℕ → Stage → List ℕ → Option LineKind
unfinished number stage rest =
    if is_over stage then (if nat_lt 0 (length rest) then Some kind.Trailing else None)
    else if nat_lt most_lines number && nat_lt 0 (length rest) then Some kind.Lines
    else if nat_lt most_bytes (length rest) then Some kind.Long
    else Some kind.Cut

-- A refused line: its number, from 1, and its kind.
pub record Refusal : Type 0 where
  pub number : ℕ
  pub why : LineKind

-- What a script says: its setup, its steps up to its end or its first refused line, and that line
-- if there is one.
pub record Script : Type 0 where
  pub setup : Setup
  pub steps : List Step
  pub refused : Option Refusal

-- A line that is refused, with its number.
abbrev pub refusal_at : ℕ → Option LineKind → Option Refusal
refusal_at number (Some why) = Some (record { number = number; why = why })
refusal_at number None = None

-- A script that says no more steps: its end was read, or a line is refused.
abbrev pub closed_script : ℕ → Setup → Option LineKind → Script
closed_script number setup why =
    record { setup = setup; steps = []; refused = refusal_at number why }

-- A script that begins with these steps.
abbrev pub with_steps : List Step → Script → Script
with_steps [] rest = rest
with_steps (s ∷ steps) rest =
    record { setup = rest.setup; steps = s ∷ (with_steps steps rest).steps; refused = rest.refused }

-- The stage after a line.
abbrev pub stage_after : Stage → Read → Stage
stage_after stage (opens next) = next
stage_after stage (plays s next) = next
stage_after stage (refuses why) = stage

-- A line, and what the lines after it say.
abbrev pub goes_on : ℕ → Stage → Read → Script → Script
goes_on number stage (opens next) rest = rest
goes_on number stage (plays s next) rest = with_steps (s ∷ []) rest
goes_on number stage (refuses why) rest = closed_script number (setup_at stage) (Some why)

-- What the lines from this number on say: whole lines, and last the bytes after the last line feed.
abbrev pub script_from : ℕ → Stage → List (List ℕ) → Script
script_from number stage [] = closed_script number (setup_at stage) (unfinished number stage [])
script_from number stage (rest ∷ []) =
    closed_script number (setup_at stage) (unfinished number stage rest)
script_from number stage (line ∷ next ∷ parts) =
    goes_on number stage (read_line number stage line)
    (script_from (number + 1) (stage_after stage (read_line number stage line)) (next ∷ parts))

-- The setup before any setup line.
abbrev pub no_devices : Setup
no_devices = record { devices = [] }

-- What the bytes of a script say.
unfoldable pub script : List ℕ → Script
script bytes = script_from 1 (at_setup no_devices) (slice_split is_line_feed bytes)

-- A command that a line can spell: its numbers are in their ranges.
abbrev pub IsCommand : Command → Type 0
IsCommand (command.Start addr mask) = 1 ≤ mask
IsCommand (command.Pay addr id count) = (1 ≤ id) × (1 ≤ count) × (count ≤ 255)
IsCommand (command.Path addr place path) = (place ≤ COIN_PLACES) × (1 ≤ path) × (path ≤ PATHS)
IsCommand (command.Route addr way) = way ≤ STACK_CODE
IsCommand (command.Vend id price) = (1 ≤ id) × (1 ≤ price) × (price ≤ 1000000000)
IsCommand c = ⊤

-- A wire fault that a line can spell: its piece isn't too long.
abbrev pub IsFault : WireFault → Type 0
IsFault fault.Clear = ⊥
IsFault (fault.DevicesHear piece) = length piece ≤ MOST_SENT
IsFault (fault.HostHears piece) = length piece ≤ MOST_SENT
IsFault (fault.WholeHeard piece) = length piece ≤ MOST_HEARD

-- The place of a crash that a line can spell.
abbrev pub IsCrash : Option CrashAt → Type 0
IsCrash None = ⊤
IsCrash (Some at) = at.calls ≤ 4

-- A step that a line can spell: its numbers are in their ranges.
abbrev pub IsInRange : Step → Type 0
IsInRange (step.Coin addr place) = (1 ≤ place) × (place ≤ COIN_PLACES)
IsInRange (step.Bill addr place) = (1 ≤ place) × (place ≤ COIN_PLACES)
IsInRange (step.Fault f) = IsFault f
IsInRange (step.Command c) = IsCommand c
IsInRange (step.Crash at choice) = IsCrash at
IsInRange (step.Change first amount) =
    (1 ≤ first) × (first ≤ GREATEST_FIRST) × (1 ≤ amount) × (amount ≤ GREATEST_AMOUNT)
IsInRange s = ⊤
