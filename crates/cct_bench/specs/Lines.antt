-- How the lines of a script go on, and where they stop.
use Rattle.std.specs.Prelude.{◌≡◌, ℕ, List, Option, Some, None}
use Rattle.std.specs.List.{slice_split, position}
use Rattle.cct_model.specs.terms.device.Setup.{Setup}
use Rattle.cct_model.specs.lines.entry.LineKind.{LineKind}
use Rattle.cct_model.specs.Script.{is_line_feed, is_over, Stage, setup_at, at_end, Read, refuses}
use Rattle.cct_model.specs.Script.{stage_after, goes_on, Script}
use Rattle.cct_model.specs.Script.{script_from, closed_script}
use Rattle.cct_script.specs.declared.stops.ScriptStop.{ScriptStop}
use Rattle.cct_script.specs.Scripts.{Kind, GoesOnIn, IsClosedIn, StopsIn}
use Rattle.cct_bench.specs.declared.ending.Ending.{Ending}
use Rattle.cct_bench.specs.declared.ending.Ending.TheVariants as ending

-- What the lines from this number on say.
abbrev pub said_from : ℕ → Stage → List ℕ → Script
said_from number stage bytes = script_from number stage (slice_split is_line_feed bytes)

-- The script of a run, as a kind of script.
abbrev pub of_run : Kind Stage Read Script
of_run = record {
  says = script_from;
  is_over = is_over;
  refuses = refuses;
  after = stage_after;
  goes_on = goes_on;
  closed = λ number stage why. closed_script number (setup_at stage) why;
}

-- The first line is this to the script of a run.
abbrev pub ScriptGoesOn : ℕ → Stage → List ℕ → Read → List ℕ → Type 0
ScriptGoesOn = GoesOnIn of_run

-- The script of a run says no more from here on.
abbrev pub IsClosed : ℕ → Stage → Option LineKind → Option (List ℕ) → List ℕ → Type 0
IsClosed = IsClosedIn of_run

-- Why the bytes of the script of a run are read no further.
abbrev pub StopsAt : ℕ → Stage → ScriptStop → Option (List ℕ) → List ℕ → Type 0
StopsAt = StopsIn of_run

-- How the steps of a script end after its line `end`, where the next line has this number: nothing
-- follows, or it is read no further.
abbrev pub EndsAt : ℕ → Setup → Ending → Option (List ℕ) → List ℕ → Type 0
EndsAt number setup ending.Done left held = IsClosed number (at_end setup) None left held
EndsAt number setup (ending.Refused line why) left held =
    (line ≡ number) × IsClosed number (at_end setup) (Some why) left held
EndsAt number setup ending.Unread left held = position is_line_feed held ≡ None
EndsAt number setup how left held = ⊥
