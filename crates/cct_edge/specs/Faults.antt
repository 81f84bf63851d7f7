-- What a count of faults says of an answer.
use Rattle.std.specs.Prelude.{◌≡◌, ℕ, ◌+◌, ◌-◌, ◌^◌, ◌≤◌, min, Result, IsErr, MatchResult}

-- the last value of a count, at which it stands still
abbrev pub last_count : ℕ
last_count = 2 ^ 64 - 1

-- a count after one more
abbrev pub next_count : ℕ → ℕ
next_count count = min (count + 1) last_count

-- a count rose, or it is at its last value
abbrev pub Rose : ℕ → ℕ → Type 0
Rose before now = min (before + 1) last_count ≤ now

-- a count never falls; and if a call failed so, it rose, or it is at its last value
pub record Caused (before now : ℕ) (Fails : Type 0) : Type 0 where
  pub later : before ≤ now
  pub rose : Fails → Rose before now

-- a count never falls, and an answer is an error only if the count rose, or is at its last value
abbrev pub HasCause : {T E : Type 0} → ℕ → ℕ → Result T E → Type 0
HasCause before now result = Caused before now (IsErr result)

-- an error counts one more fault, and nothing else does
pub record CountsFaults {T E : Type 0} (before now : ℕ) (result : Result T E) : Type 0 where
  pub counted : MatchResult result (λ _. now ≡ before) (λ _. now ≡ next_count before)
  pub cause : HasCause before now result
