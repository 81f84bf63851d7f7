-- What the reader of lines takes from its source.
use Rattle.std.specs.Prelude.{◌≡◌, ℕ, ◌+◌, ◌-◌, ◌<◌, List, ◌∷◌, ◌++◌, length, position, Option}
use Rattle.std.specs.Prelude.{Some, None}
use Rattle.std.specs.Prelude.{Result, Ok, Err}
use Rattle.std.specs.Io.KnownBytes.{Consumes}
use Rattle.cct_edge.specs.declared.fault.Failed.{Failed}
use Rattle.cct_model_lines.specs.declared.entry.TheConstants.{MOST_LINE}
use Rattle.cct_model_lines.specs.Script.{is_line_feed}
use Rattle.cct_script.specs.declared.lines.LinesNo.{LinesNo}
use Rattle.cct_script.specs.declared.lines.LinesNo.TheVariants as no

-- of a source of which is known what a take does, and which bytes it shows as left
module _ {S : Type 0} (takes : S → ℕ → Result ℕ Failed → S → Type 0) (left : S → Option (List ℕ))
  where
    -- Takes from a source, each made while the bytes held had no line feed and left room for more,
    -- and into all of that room; what each brought is held after the rest.
    pub data TakesOn (held : List ℕ) (before : S) : List ℕ → S → Type 0 where
      no_take : TakesOn held before held before
      take_more : (old piece new : List ℕ) (from to : S) → TakesOn held before old from →
          position is_line_feed old ≡ None → length old < MOST_LINE + 1 →
          takes from (MOST_LINE + 1 - length old) (Ok (length piece)) to →
          Consumes (left from) (left to) piece → new ≡ old ++ piece →
          TakesOn held before new to

    -- Such takes, and after them one that failed, made as they were.
    pub record TakesUntilFault (held : List ℕ) (before : S) (taken : List ℕ) (now : S) : Type 0 where
      pub last : S
      pub before_it : TakesOn held before taken last
      pub none : position is_line_feed taken ≡ None
      pub room : length taken < MOST_LINE + 1
      pub why : Failed
      pub fails : takes last (MOST_LINE + 1 - length taken) (Err why) now

    -- The takes that one line needed, or the end of the input, or a refusal, and what is held after
    -- them: none was made once a line feed was held, and none after one that failed.
    abbrev pub TakesForLine : List ℕ → S → List ℕ → S → Result (Option (List ℕ)) LinesNo → Type 0
    TakesForLine held before kept now (Ok (Some line)) = TakesOn held before (line ++ 10 ∷ kept) now
    TakesForLine held before kept now (Ok None) = TakesOn held before kept now
    TakesForLine held before kept now (Err no.Read) = TakesUntilFault held before kept now
    TakesForLine held before kept now (Err why) = TakesOn held before kept now
