-- What a check of the bench leaves: what it took of its script, and what it wrote, by its status.
use Rattle.std.specs.Prelude.{◌≡◌, ◌≢◌, ◌⊎◌, ℕ, List, [], ◌∷◌, ◌++◌, map, Option, Result, Ok, Err}
use Rattle.std.specs.Prelude.{⊤}
use Rattle.cct_edge.specs.declared.fault.Failed.{Failed}
use Rattle.cct_model.specs.lines.entry.Entry.{Entry}
use Rattle.cct_model.specs.lines.entry.Entry.TheVariants as entry
use Rattle.cct_model.specs.Script.{Refusal}
use Rattle.cct_script_check.specs.Proof.{AreOfWhole, refusal_line, refusals}
use Rattle.cct_script.specs.Source.{to_come}
use Rattle.cct_bench.specs.declared.outcome.Status.{Status}
use Rattle.cct_bench.specs.declared.outcome.Status.TheVariants as status

-- of a check of a script of these bytes, of which these were taken
module _ (bytes taken : List ℕ) (source_failed : Type 0) where
  -- All lines of a check, by its status: none, since no line of the script is refused; the lines of
  -- all refusals; or those of the lines that stand whole in the bytes taken, and a last line, where
  -- reading failed.
  abbrev pub CheckIs : Status → List Entry → Type 0
  CheckIs status.Done lines = (refusals bytes ≡ []) × (lines ≡ [])
  CheckIs status.ScriptRefused lines =
      (refusals bytes ≢ []) × (lines ≡ map refusal_line (refusals bytes))
  CheckIs status.ReadFault lines =
      (told : List Refusal) × AreOfWhole taken told × source_failed
      × (lines ≡ map refusal_line told ++ entry.ReadFault ∷ [])
  CheckIs s lines = ⊥

  -- What a check wrote, by its status: all its lines; or, where the sink failed, those of a check
  -- of another status up to a put that failed; or, where there was no memory, nothing.
  abbrev pub CheckEnds : Status → (List Entry → Result (Unit {0}) Failed → Type 0) → Type 0
  CheckEnds status.WriteFault writes =
      (s : Status) × (lines : List Entry) × (failed : Failed) × CheckIs s lines
      × writes lines (Err failed)
  CheckEnds status.OutOfMemory writes = (taken ≡ []) × writes [] (Ok tt)
  CheckEnds s writes = (lines : List Entry) × CheckIs s lines × writes lines (Ok tt)

-- A check of a script of these bytes: what it took of them, and what it wrote. The bytes are those
-- taken and those still to come; a source that shows none is taken to have no more.
pub record CheckRan (bytes : List ℕ) (s : Status) (left : Option (List ℕ)) (source_failed : Type 0)
    (writes : List Entry → Result (Unit {0}) Failed → Type 0) : Type 0 where
  pub taken : List ℕ
  pub took : bytes ≡ taken ++ to_come left
  pub ends : CheckEnds bytes taken source_failed s writes

-- A check may end with this status.
abbrev pub IsOfCheck : Status → Type 0
IsOfCheck status.Done = ⊤
IsOfCheck status.ScriptRefused = ⊤
IsOfCheck status.ReadFault = ⊤
IsOfCheck status.WriteFault = ⊤
IsOfCheck s = ⊥
