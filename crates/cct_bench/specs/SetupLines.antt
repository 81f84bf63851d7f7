-- The lines of a script's setup, up to and with `begin`.
use Rattle.std.specs.Prelude.{◌≡◌, ℕ, ◌+◌, List, [], ◌∷◌, ◌++◌, Option, None, Result}
use Rattle.std.specs.List.{position}
use Rattle.cct_model.specs.terms.device.Setup.{Setup}
use Rattle.std.specs.Io.KnownBytes.{Consumes}
use Rattle.cct_edge.specs.declared.fault.Failed.{Failed}
use Rattle.cct_script.specs.Taking.{TakesOn}
use Rattle.cct_script.specs.Window.{Fills}
use Rattle.cct_model.specs.Script.{is_line_feed, Stage, at_setup, at_steps, no_devices, opens}
use Rattle.cct_model.specs.Script.{read_line}
use Rattle.cct_bench.specs.Lines.{StopsAt}
use Rattle.cct_bench.specs.Run.{ending_at}
use Rattle.cct_bench.specs.declared.ending.Ending.{Ending}
use Rattle.cct_script.specs.declared.stops.ScriptStop.{ScriptStop}

-- The bytes of whole lines, each with its line feed.
abbrev pub whole_lines : List (List ℕ) → List ℕ
whole_lines [] = []
whole_lines (line ∷ lines) = line ++ 10 ∷ whole_lines lines

-- Lines from this number on, none of them refused and none a step, and the number and the stage
-- after them.
abbrev pub OpenedBy : ℕ → Stage → List (List ℕ) → ℕ → Stage → Type 0
OpenedBy number stage [] last behind = (number ≡ last) × (stage ≡ behind)
OpenedBy number stage (line ∷ lines) last behind =
    (next : Stage) × (position is_line_feed line ≡ None)
    × (read_line number stage line ≡ opens next)
    × OpenedBy (number + 1) next lines last behind

-- What was taken of a script are whole lines of its setup, none of them refused, and bytes after
-- them, where it is read no further: no line more is whole, or the next line is refused; and so the
-- run ends.
pub record SetupStops (left0 left : Option (List ℕ)) (how : Ending) : Type 0 where
  pub lines : List (List ℕ)
  pub held : List ℕ
  pub number : ℕ
  pub setup : Setup
  pub why : ScriptStop
  pub took : Consumes left0 left (whole_lines lines ++ held)
  pub opened : OpenedBy 1 (at_setup no_devices) lines number (at_setup setup)
  pub stops : StopsAt number (at_setup setup) why left held
  pub told : how ≡ ending_at number why

-- of a source of which is known what a take does, and which bytes it shows as left
module _ {S : Type 0} (takes : S → ℕ → Result ℕ Failed → S → Type 0) (left : S → Option (List ℕ))
  where
    -- The bytes held and those that came are a whole line of this number, which leaves a stage, and
    -- the bytes after it; and the source was taken from only while no line feed was held.
    pub record OpensLine (number : ℕ) (stage next : Stage) (held rest : List ℕ) (before now : S)
        : Type 0 where
      pub line : List ℕ
      pub fills : Fills held (line ++ 10 ∷ rest) (left before) (left now)
      pub alone : position is_line_feed line ≡ None
      pub reads : read_line number stage line ≡ opens next
      pub needed : TakesOn takes left held before (line ++ 10 ∷ rest) now

    -- The takes that whole lines needed, each line from what was held after the one before: none was
    -- made once the line feed of the last one was held.
    abbrev pub TakesForLines : List ℕ → S → List (List ℕ) → List ℕ → S → Type 0
    TakesForLines held before [] rest now = (rest ≡ held) × (now ≡ before)
    TakesForLines held before (line ∷ lines) rest now =
        (kept : List ℕ) × (between : S) × TakesOn takes left held before (line ++ 10 ∷ kept) between
        × TakesForLines kept between lines rest now

    -- What was taken of a script are whole lines of its setup that leave this number and this stage,
    -- and bytes after them that are held; and it was taken by just the takes that those lines needed.
    pub record TookOpening (before now : S) (held : List ℕ) (number : ℕ) (stage : Stage) : Type 0
      where
        pub lines : List (List ℕ)
        pub took : Consumes (left before) (left now) (whole_lines lines ++ held)
        pub opened : OpenedBy 1 (at_setup no_devices) lines number stage
        pub needed : TakesForLines [] before lines held now

    -- What was taken are the lines of the setup up to and with `begin`, none of them refused, and
    -- bytes that came with them: no take was made once `begin` was held whole.
    abbrev pub TookSetup : S → S → Type 0
    TookSetup before now =
        (held : List ℕ) × (number : ℕ) × (setup : Setup)
        × TookOpening before now held number (at_steps setup)
