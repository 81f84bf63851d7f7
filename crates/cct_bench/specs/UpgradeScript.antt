-- What the script of an upgrade says: its setup, and the first line that is refused, with its kind
-- (docs/SCRIPT.md).
use Rattle.std.specs.Prelude.{◌≡◌, ◌==◌, ℕ, ◌+◌, List, [], ◌∷◌, ◌++◌, Option, Some, None, Result}
use Rattle.std.specs.Prelude.{Ok, Err}
use Rattle.std.specs.Prelude.{if◌then◌else◌, codes, bytes_eq}
use Rattle.std.specs.List.{position, slice_split}
use Rattle.cct_model.specs.terms.device.Setup.{Setup}
use Rattle.cct_model.specs.lines.entry.LineKind.{LineKind}
use Rattle.cct_model.specs.lines.entry.LineKind.TheVariants as kind
use Rattle.cct_model.specs.Script.{is_line_feed, Read, Script, Stage, at_setup, at_steps}
use Rattle.cct_model.specs.Script.{closed_script, goes_on, is_over}
use Rattle.cct_model.specs.Script.{no_devices, read_form, refuses, setup_at, stage_after}
use Rattle.cct_model.specs.Script.{unfinished, word_of}
use Rattle.cct_script.specs.Scripts.{Kind, tested}
use Rattle.cct_script.specs.Source.{to_come}
use Rattle.cct_bench.specs.declared.ending.Ending.{Ending}
use Rattle.cct_bench.specs.declared.ending.Ending.TheVariants as ending

-- A whole line by its word and its form: as in any script, but after `begin` no word other than
-- `end` is taken.
abbrev pub upgrade_form : Stage → List ℕ → Read
upgrade_form (at_steps setup) line =
    if bytes_eq (word_of line) (codes "end") then read_form (at_steps setup) line else refuses kind.Word
upgrade_form stage line = read_form stage line

-- A whole line with its number.
abbrev pub upgrade_line : ℕ → Stage → List ℕ → Read
upgrade_line number stage line =
    tested refuses (is_over stage) number line (upgrade_form stage line)

-- What a line that begins with the letters of `end` is, by what is after them.
abbrev pub behind_word : List ℕ → Result (Unit {0}) LineKind
behind_word [] = Ok tt
behind_word (byte ∷ bytes) = if byte == 32 then Err kind.Form else Err kind.Word

-- What the lines from this number on say: whole lines, and last the bytes after the last line feed.
-- No step is said.
abbrev pub upgrade_from : ℕ → Stage → List (List ℕ) → Script
upgrade_from number stage [] = closed_script number (setup_at stage) (unfinished number stage [])
upgrade_from number stage (rest ∷ []) =
    closed_script number (setup_at stage) (unfinished number stage rest)
upgrade_from number stage (line ∷ next ∷ parts) =
    goes_on number stage (upgrade_line number stage line)
    (upgrade_from (number + 1) (stage_after stage (upgrade_line number stage line)) (next ∷ parts))

-- The script of an upgrade, as a kind of script.
abbrev pub of_upgrade : Kind Stage Read Script
of_upgrade = record {
  says = upgrade_from;
  is_over = is_over;
  refuses = refuses;
  after = stage_after;
  goes_on = goes_on;
  closed = λ number stage why. closed_script number (setup_at stage) why;
}

-- What the bytes of the script of an upgrade say.
unfoldable pub upgrade_script : List ℕ → Script
upgrade_script bytes = upgrade_from 1 (at_setup no_devices) (slice_split is_line_feed bytes)

-- No line that stands whole in these bytes is refused: they say what a last line says that isn't
-- finished.
pub record IsUnfinished (taken : List ℕ) : Type 0 where
  pub number : ℕ
  pub stage : Stage
  pub held : List ℕ
  pub alone : position is_line_feed held ≡ None
  pub says : upgrade_script taken ≡ closed_script number (setup_at stage)
      (unfinished number stage held)

-- What the script of these bytes says, by how it came that it was read no further, of which these
-- bytes were taken.
abbrev pub ScriptSays : Ending → List ℕ → List ℕ → Type 0
ScriptSays (ending.Refused number why) bytes taken =
    (upgrade_script bytes).refused ≡ Some (record { number = number; why = why })
ScriptSays ending.Unread bytes taken = IsUnfinished taken
ScriptSays how bytes taken = ⊥

-- A script of these bytes was read up to its end, with this setup and no line refused, and these
-- bytes are left of it.
pub record WasRead (bytes : List ℕ) (left : Option (List ℕ)) (setup : Setup) : Type 0 where
  pub taken : List ℕ
  pub took : bytes ≡ taken ++ to_come left
  pub says : upgrade_script bytes ≡ record { setup = setup; steps = []; refused = None }

-- A script of these bytes was read no further than the bytes that are left of it, and so the
-- upgrade ends.
pub record WasStopped (bytes : List ℕ) (left : Option (List ℕ)) (how : Ending) : Type 0 where
  pub taken : List ℕ
  pub took : bytes ≡ taken ++ to_come left
  pub says : ScriptSays how bytes taken
