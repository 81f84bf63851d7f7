-- What proofreading finds in a script: each line that is refused, where the refused lines before it
-- are left out.
use Rattle.std.specs.Prelude.{◌≡◌, ◌≢◌, ℕ, ◌+◌, List, [], ◌∷◌, ◌++◌, map, Option, Some, None}
use Rattle.std.specs.Prelude.{Result, Ok, Err}
use Rattle.std.specs.List.{position, slice_split}
use Rattle.cct_edge.specs.declared.fault.Failed.{Failed}
use Rattle.cct_model_lines.specs.declared.entry.Entry.{Entry}
use Rattle.cct_model_lines.specs.declared.entry.Entry.TheVariants as entry
use Rattle.cct_model_lines.specs.declared.entry.LineKind.{LineKind}
use Rattle.cct_model_lines.specs.Script.{Read, Refusal, Stage, at_setup, is_line_feed, is_over}
use Rattle.cct_model_lines.specs.Script.{no_devices, opens, plays, read_form}
use Rattle.cct_model_lines.specs.Script.{refuses, unfinished}
use Rattle.cct_script.specs.Scripts.{Kind, tested}
use Rattle.cct_script.specs.Source.{to_come}
use Rattle.cct_script_check.specs.declared.proofreading.ProofEnd.{ProofEnd}
use Rattle.cct_script_check.specs.declared.proofreading.ProofEnd.TheVariants.{Clean, Told, Unread}
use Rattle.cct_script_check.specs.declared.proofreading.ProofEnd.TheVariants.{Unwritten}

-- What a line is: the script goes on; it is refused and left out; or it is refused, and the script
-- is read no further.
pub data Mark : Type 0 where
  goes : (next : Stage) → Mark
  left_out : (why : LineKind) → Mark
  stops : (why : LineKind) → Mark

-- What a line is that a run reads so.
abbrev pub mark_of : Read → Mark
mark_of (opens next) = goes next
mark_of (plays s next) = goes next
mark_of (refuses why) = left_out why

-- A whole line by its form, as a run reads it.
abbrev pub mark_form : Stage → List ℕ → Mark
mark_form stage line = mark_of (read_form stage line)

-- A whole line with its number: a line after the end, one too many, or one too long stops the
-- script.
abbrev pub mark_line : ℕ → Stage → List ℕ → Mark
mark_line number stage line = tested stops (is_over stage) number line (mark_form stage line)

-- The stage after a line: one that is refused changes nothing.
abbrev pub stage_by : Stage → Mark → Stage
stage_by stage (goes next) = next
stage_by stage (left_out why) = stage
stage_by stage (stops why) = stage

-- The refusal of a line of this number, if it is refused.
abbrev pub refusal_by : ℕ → Option LineKind → List Refusal
refusal_by number (Some why) = record { number = number; why = why } ∷ []
refusal_by number None = []

-- A line, and the refusals after it.
abbrev pub refusals_with : ℕ → Mark → List Refusal → List Refusal
refusals_with number (goes next) rest = rest
refusals_with number (left_out why) rest = refusal_by number (Some why) ++ rest
refusals_with number (stops why) rest = refusal_by number (Some why)

-- The refusals of the lines from this number on: whole lines, and last the bytes after the last
-- line feed.
abbrev pub refusals_from : ℕ → Stage → List (List ℕ) → List Refusal
refusals_from number stage [] = refusal_by number (unfinished number stage [])
refusals_from number stage (rest ∷ []) = refusal_by number (unfinished number stage rest)
refusals_from number stage (line ∷ next ∷ parts) =
    refusals_with number (mark_line number stage line)
    (refusals_from (number + 1) (stage_by stage (mark_line number stage line)) (next ∷ parts))

-- A script that is proofread, as a kind of script.
abbrev pub of_proof : Kind Stage Mark (List Refusal)
of_proof = record {
  says = refusals_from;
  is_over = is_over;
  refuses = stops;
  after = stage_by;
  goes_on = λ number stage mark rest. refusals_with number mark rest;
  closed = λ number stage why. refusal_by number why;
}

-- The lines of a script of these bytes that are refused, in their order: each with its number and
-- its kind, where the refused lines before it are left out.
unfoldable pub refusals : List ℕ → List Refusal
refusals bytes = refusals_from 1 (at_setup no_devices) (slice_split is_line_feed bytes)

-- The first of some refusals, or none.
abbrev pub first_of : List Refusal → Option Refusal
first_of [] = None
first_of (r ∷ later) = Some r

-- The line that shows a refusal.
abbrev pub refusal_line : Refusal → Entry
refusal_line refusal = entry.Line refusal.number refusal.why

-- These are the refusals of the lines that stand whole in these bytes.
pub record AreOfWhole (taken : List ℕ) (told : List Refusal) : Type 0 where
  pub number : ℕ
  pub stage : Stage
  pub held : List ℕ
  pub alone : position is_line_feed held ≡ None
  pub says : refusals taken ≡ told ++ refusal_by number (unfinished number stage held)

-- What was reported of a script of these bytes, of which these were taken, by the end: nothing,
-- since no line is refused; all refusals; those of the lines that stand whole in the bytes taken,
-- where reading failed; or, where writing failed, all of them up to there.
abbrev pub ProofEnds : List ℕ → List ℕ → ProofEnd →
    (List Entry → Result (Unit {0}) Failed → Type 0) → Type 0
ProofEnds bytes taken Clean writes = (refusals bytes ≡ []) × writes [] (Ok tt)
ProofEnds bytes taken Told writes =
    (refusals bytes ≢ []) × writes (map refusal_line (refusals bytes)) (Ok tt)
ProofEnds bytes taken Unread writes =
    (told : List Refusal) × AreOfWhole taken told × writes (map refusal_line told) (Ok tt)
ProofEnds bytes taken Unwritten writes =
    (failed : Failed) × (refusals bytes ≢ [])
    × writes (map refusal_line (refusals bytes)) (Err failed)

-- A script of these bytes was proofread: what was taken of it, and what was reported. The bytes are
-- those taken and those still to come; a source that shows none is taken to have no more.
pub record Proofread (bytes : List ℕ) (how : ProofEnd) (left : Option (List ℕ))
    (writes : List Entry → Result (Unit {0}) Failed → Type 0) : Type 0 where
  pub taken : List ℕ
  pub took : bytes ≡ taken ++ to_come left
  pub ends : ProofEnds bytes taken how writes
