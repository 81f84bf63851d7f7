-- What writing lines does to a sink, one after the other.
use Rattle.std.specs.Prelude.{◌≡◌, ℕ, List, [], ◌∷◌, flat_map, Option, Result, Ok, Err, MatchResult}
use Rattle.std.specs.Io.KnownBytes.{Appends}
use Rattle.cct_edge.specs.Bytes.{AppendsFront}
use Rattle.cct_edge.specs.declared.fault.Failed.{Failed}
use Rattle.cct_text.specs.Writing.{Puts}

-- The bytes of lines.
abbrev pub bytes_of : List (List ℕ) → List ℕ
bytes_of lines = flat_map (λ line. line) lines

-- Lines were written to a sink: each was put once, in their order, up to the first whose put
-- failed; and what is known of the bytes grew by them, or by a front of them where a put failed.
pub record WritesLines {K : Type 0} (written : K → Option (List ℕ))
    (puts : K → List ℕ → Result (Unit {0}) Failed → K → Type 0) (before : K) (lines : List (List ℕ))
    (result : Result (Unit {0}) Failed) (now : K) : Type 0 where
  pub put : Puts puts before lines result now
  pub told : MatchResult result (λ _. Appends (written before) (written now) (bytes_of lines))
      (λ _. AppendsFront (written before) (written now) (bytes_of lines))

-- They were written whole.
abbrev pub WroteLines : {K : Type 0} → (K → Option (List ℕ)) →
    (K → List ℕ → Result (Unit {0}) Failed → K → Type 0) → K → K
    → List (List ℕ) → Type 0
WroteLines written puts before now lines = WritesLines written puts before lines (Ok tt) now

-- The first of these lines were written whole, and then a put failed within the others.
abbrev pub BrokeLines : {K : Type 0} → (K → Option (List ℕ)) →
    (K → List ℕ → Result (Unit {0}) Failed → K → Type 0) → K → K
    → List (List ℕ) → List (List ℕ) → Type 0
BrokeLines {K} written puts before now whole cut =
    (between : K) × (failed : Failed) × WroteLines written puts before between whole
    × WritesLines written puts between cut (Err failed) now

-- Nothing was written.
abbrev pub NoLine : List (List ℕ) → Type 0
NoLine past = past ≡ []

-- No put failed.
abbrev pub NeverBroke : List (List ℕ) → List (List ℕ) → Type 0
NeverBroke whole cut = ⊥
