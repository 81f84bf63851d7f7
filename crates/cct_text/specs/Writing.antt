-- What writing a transcript does to a sink, line by line.
use Rattle.std.specs.Prelude.{◌≡◌, ℕ, ◌⊎◌, List, [], ◌∷◌, map, Option, Result, Ok, Err, MatchResult}
use Rattle.std.specs.Prelude.{OnErr, OnOk}
use Rattle.std.specs.Io.KnownBytes.{Appends}
use Rattle.cct_edge.specs.Bytes.{AppendsFront}
use Rattle.cct_edge.specs.declared.fault.Failed.{Failed}
use Rattle.cct_model_lines.specs.declared.entry.Entry.{Entry}
use Rattle.cct_model_lines.specs.Text.{line_of, text}

-- A line was put once: what is known of the bytes grew by it, or by a front of it if the put
-- failed.
pub record PutsLine {K : Type 0} (written : K → Option (List ℕ))
    (puts : K → List ℕ → Result (Unit {0}) Failed → K → Type 0) (before : K) (line : List ℕ)
    (result : Result (Unit {0}) Failed) (now : K) : Type 0 where
  pub one : puts before line result now
  -- The line of the definitions: a mask has four hexadecimal digits, all hexadecimal is in lower
  -- case, no bytes are a hyphen, coins stand oldest first.
  pub ok : OnOk result (Appends (written before) (written now) line)
  pub err : OnErr result (AppendsFront (written before) (written now) line)

-- These lines were put one after the other, each by one put, and nothing else was: all of them, or
-- up to the first whose put failed.
abbrev pub Puts : {K : Type 0} → (K → List ℕ → Result (Unit {0}) Failed → K → Type 0) → K →
    List (List ℕ)
    → Result (Unit {0}) Failed → K → Type 0
Puts puts before [] result now = (result ≡ Ok tt) × (now ≡ before)
Puts {K} puts before (piece ∷ pieces) result now =
    ((next : K) × puts before piece (Ok tt) next × Puts puts next pieces result now)
    ⊎ ((failed : Failed) × (result ≡ Err failed) × puts before piece (Err failed) now)

-- Entries were written to a sink: the line of each was put once, in their order, up to the first
-- whose put failed; and what is known of the bytes grew by their text, or by a front of it where a
-- put failed.
pub record Writes {K : Type 0} (written : K → Option (List ℕ))
    (puts : K → List ℕ → Result (Unit {0}) Failed → K → Type 0) (before : K) (entries : List Entry)
    (result : Result (Unit {0}) Failed) (now : K) : Type 0 where
  pub put : Puts puts before (map line_of entries) result now
  pub told : MatchResult result (λ _. Appends (written before) (written now) (text entries))
      (λ _. AppendsFront (written before) (written now) (text entries))

-- They were written whole.
abbrev pub Wrote : {K : Type 0} → (K → Option (List ℕ)) →
    (K → List ℕ → Result (Unit {0}) Failed → K → Type 0) → K → K
    → List Entry → Type 0
Wrote written puts before now entries = Writes written puts before entries (Ok tt) now

-- The first of these entries were written whole, and then a put failed within the others.
abbrev pub Broke : {K : Type 0} → (K → Option (List ℕ)) →
    (K → List ℕ → Result (Unit {0}) Failed → K → Type 0) → K → K
    → List Entry → List Entry → Type 0
Broke {K} written puts before now whole cut =
    (between : K) × (failed : Failed) × Wrote written puts before between whole
    × Writes written puts between cut (Err failed) now

-- Nothing was written.
abbrev pub IsNothing : List Entry → Type 0
IsNothing past = past ≡ []

-- No put failed.
abbrev pub NeverBroke : List Entry → List Entry → Type 0
NeverBroke whole cut = ⊥
