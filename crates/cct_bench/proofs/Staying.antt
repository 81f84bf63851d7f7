-- The setup stays once the steps begin.
use Rattle.std.proofs.Common.{◌≡◌, ℕ, ◌+◌, Bool, true, false, List, [], ◌∷◌, length, Result, Ok, Err}
use Rattle.std.specs.Prelude.{if◌then◌else◌, nat_lt}
use Rattle.cct_model.specs.terms.device.Setup.{Setup}
use Rattle.cct_model.specs.lines.command.Step.{Step}
use Rattle.cct_model.specs.lines.command.Step.TheVariants as step
use Rattle.cct_model.specs.lines.entry.LineKind.{LineKind}
use Rattle.cct_model.specs.lines.entry.LineKind.TheVariants as kind
use Rattle.cct_model.specs.Grammar.{step_line}
use Rattle.cct_model.specs.Script.{Stage, at_setup, at_steps, at_end, setup_at, Read, opens, plays, refuses, read_line}
use Rattle.cct_model.specs.Script.{read_form, read_step_line, read_known, is_known, is_over}
use Rattle.cct_model.specs.Script.{most_lines, most_bytes, stage_after, goes_on, Script, script_from}

-- the setup is done, and it is this one
abbrev pub IsDone : Setup → Stage → Type 0
IsDone setup (at_setup before) = ⊥
IsDone setup (at_steps before) = before ≡ setup
IsDone setup (at_end before) = before ≡ setup

abbrev GoesDone : Setup → Read → Type 0
GoesDone setup (opens next) = IsDone setup next
GoesDone setup (plays s next) = IsDone setup next
GoesDone setup (refuses why) = Unit {0}

either : (P : Read → Type 0) (b : Bool) (x y : Read) → P x → P y → P (if b then x else y)
either P true x y p q = p
either P false x y p q = q

known_done : (setup before : Setup) (s : Step) → before ≡ setup → GoesDone setup (read_known before s)
known_done setup before s same =
    either (GoesDone setup) (is_known before s) _ _ same tt

step_done : (setup before : Setup) (r : Result Step LineKind) → before ≡ setup
    → GoesDone setup (read_step_line before r)
step_done setup before (Err why) same = tt
step_done setup before (Ok step.End) same = same
step_done setup before (Ok s) same = known_done setup before s same

form_done : (setup : Setup) (stage : Stage) (line : List ℕ) → IsDone setup stage → GoesDone setup (read_form stage line)
unfolding read_form
form_done setup (at_setup before) line done = absurd done
form_done setup (at_steps before) line done =
    step_done setup before (step_line line) done
form_done setup (at_end before) line done = tt

line_done : (number : ℕ) (setup : Setup) (stage : Stage) (line : List ℕ) → IsDone setup stage
    → GoesDone setup (read_line number stage line)
line_done number setup stage line done =
    let form = form_done setup stage line done in
    let short = if nat_lt most_bytes (length line) then refuses kind.Long else read_form stage line in
    let few = if nat_lt most_lines number then refuses kind.Lines else short in
    either (GoesDone setup) (is_over stage) (refuses kind.Trailing) few tt
    (
    either (GoesDone setup) (nat_lt most_lines number) (refuses kind.Lines) short tt
    (either (GoesDone setup) (nat_lt most_bytes (length line)) (refuses kind.Long) (read_form stage line) tt form)
    )

after_done : (setup : Setup) (stage : Stage) (read : Read) → IsDone setup stage → GoesDone setup read
    → IsDone setup (stage_after stage read)
after_done setup stage (opens next) done goes = goes
after_done setup stage (plays s next) done goes = goes
after_done setup stage (refuses why) done goes = done

setup_done : (setup : Setup) (stage : Stage) → IsDone setup stage → setup_at stage ≡ setup
setup_done setup (at_setup before) done = absurd done
setup_done setup (at_steps before) done = done
setup_done setup (at_end before) done = done

goes_done : (number : ℕ) (setup : Setup) (stage : Stage) (read : Read) (rest : Script) → IsDone setup stage
    → rest.setup ≡ setup → (goes_on number stage read rest).setup ≡ setup
goes_done number setup stage (opens next) rest done same = same
goes_done number setup stage (plays s next) rest done same = same
goes_done number setup stage (refuses why) rest done same = setup_done setup stage done

-- what the lines say from a step on has that setup
pub setup_stays : (number : ℕ) (setup : Setup) (stage : Stage) (parts : List (List ℕ)) → IsDone setup stage
    → (script_from number stage parts).setup ≡ setup
setup_stays number setup stage [] done = setup_done setup stage done
setup_stays number setup stage (rest ∷ []) done = setup_done setup stage done
setup_stays number setup stage (line ∷ next ∷ parts) done =
    let read = read_line number stage line in
    goes_done number setup stage read (script_from (number + 1) (stage_after stage read) (next ∷ parts)) done
    (setup_stays (number + 1) setup (stage_after stage read) (next ∷ parts)
    (after_done setup stage read done (line_done number setup stage line done)))
