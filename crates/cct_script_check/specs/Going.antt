-- What a proofreading keeps from line to line.
use Rattle.std.specs.Prelude.{◌≡◌, ◌≢◌, ℕ, Bool, true, false, List, [], ◌∷◌, ◌++◌, map, Option}
use Rattle.std.specs.Prelude.{Result, Ok, Err}
use Rattle.std.specs.Io.KnownBytes.{Consumes}
use Rattle.std.specs.List.{slice_split}
use Rattle.cct_edge.specs.declared.fault.Failed.{Failed}
use Rattle.cct_model_lines.specs.declared.entry.Entry.{Entry}
use Rattle.cct_model_lines.specs.declared.entry.Entry.TheVariants as entry
use Rattle.cct_model_lines.specs.Script.{Refusal, Stage, is_line_feed}
use Rattle.cct_script.specs.declared.stops.ScriptStop.{ScriptStop}
use Rattle.cct_script.specs.declared.stops.ScriptStop.TheVariants as stop
use Rattle.cct_script_check.specs.Proof.{refusal_line, refusals, refusals_from}
use Rattle.cct_script_check.specs.declared.proofreading.ProofEnd.{ProofEnd}
use Rattle.cct_script_check.specs.declared.proofreading.ProofEnd.TheVariants.{Clean, Told, Unread}
use Rattle.cct_script_check.specs.declared.proofreading.ProofEnd.TheVariants.{Unwritten}

-- How a proofreading ends that is read to its end, where a refusal was reported or none was.
abbrev pub end_of : Bool → ProofEnd
end_of true = Told
end_of false = Clean

-- An end says whether a refusal was reported.
abbrev pub Marks : ProofEnd → List Refusal → Type 0
Marks Clean told = told ≡ []
Marks Told told = told ≢ []
Marks how told = ⊥

-- What was taken and reported so far: whatever follows, the refusals of the script are those
-- reported and those of the lines from here on; and the lines that report them were written.
pub record Going (left0 left : Option (List ℕ)) (held : List ℕ) (number : ℕ) (stage : Stage)
    (end : ProofEnd)
    (Written : List Entry → Type 0) : Type 0 where
  pub taken : List ℕ
  pub told : List Refusal
  pub consumed : Consumes left0 left taken
  pub says : (more : List ℕ)
      → refusals (taken ++ more) ≡ told ++ refusals_from number stage
      (slice_split is_line_feed (held ++ more))
  pub marks : Marks end told
  pub wrote : Written (map refusal_line told)

-- How a proofreading closes where the script is read no further at a line of this number: the line
-- that shows it was written, or writing failed; or nothing was written, since reading failed.
abbrev pub Closes : ScriptStop → ProofEnd → ℕ → (List Entry → Result (Unit {0}) Failed → Type 0) →
    Type 0 → Type 0
Closes stop.Unread how number writes nothing = (how ≡ Unread) × nothing
Closes (stop.Refused why) Told number writes nothing = writes (entry.Line number why ∷ []) (Ok tt)
Closes (stop.Refused why) Unwritten number writes nothing =
    (failed : Failed) × writes (entry.Line number why ∷ []) (Err failed)
Closes (stop.Refused why) how number writes nothing = ⊥
