-- The words of the command line: `run`, `report`, `upgrade`, `audit`, `check`, `state`, or
-- `load SEED N`.
use Rattle.std.specs.Prelude.{ℕ, List, [], ◌∷◌, if◌then◌else◌, Option, Some, None, codes, bytes_eq}
use Rattle.cct_model_lines.specs.Grammar.{◌>>=◌, alone, ranged}
use Rattle.cct_bench_words.specs.declared.words.Words.{Words}
use Rattle.cct_bench_words.specs.declared.words.Words.TheVariants as words

-- `SEED N`: a number below 2^64, and how many rounds, 1 to 10,000, both in decimal.
unfoldable pub load_words : List (List ℕ) → Option Words
load_words (s ∷ n ∷ []) = do
  seed ← ranged 0 18446744073709551615 s
  rounds ← ranged 1 10000 n
  Some (words.Load seed rounds)
load_words rest = None

-- What the words of a command line say, without the program's name; none where they are in no form.
unfoldable pub words_said : List (List ℕ) → Option Words
words_said [] = None
words_said (verb ∷ rest) =
    if bytes_eq verb (codes "run") then alone words.Run rest
    else if bytes_eq verb (codes "report") then alone words.Report rest
    else if bytes_eq verb (codes "upgrade") then alone words.Upgrade rest
    else if bytes_eq verb (codes "audit") then alone words.Audit rest
    else if bytes_eq verb (codes "check") then alone words.Check rest
    else if bytes_eq verb (codes "state") then alone words.State rest
    else if bytes_eq verb (codes "load") then load_words rest
    else None
