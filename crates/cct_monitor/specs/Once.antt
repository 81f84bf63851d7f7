-- What is said of a span, at all taps and at their end.
use Rattle.std.specs.Prelude.{ℕ, ◌==◌, ◌&&◌, Bool, false, List, [], ◌∷◌, ◌++◌}
use Rattle.cct_audit_taps.specs.declared.said.Said.{Said}
use Rattle.cct_audit_taps.specs.declared.said.Said.TheVariants.{Sure, Quiet, Doubt, Fell, Broken}
use Rattle.cct_audit_taps.specs.declared.shown.Shown.{Shown}
use Rattle.cct_monitor.specs.Spans.{Span, quiet_at, said_at}

-- All that is said of the acceptor at an address at taps that showed this, newest first; what is
-- said first stands first.
abbrev pub all_said : ℕ → List Shown → List Said
all_said addr [] = []
all_said addr (s ∷ past) = all_said addr past ++ said_at addr s past

-- The same of an acceptor that is watched for resets alone.
abbrev pub all_quietly : ℕ → List Shown → List Said
all_quietly addr [] = []
all_quietly addr (s ∷ past) = all_quietly addr past ++ quiet_at addr s past

-- It is said of a span, whose readings are the taps of these two numbers.
abbrev pub is_of : ℕ → ℕ → Said → Bool
is_of first last (Sure addr f l coins) = (f == first) && (l == last)
is_of first last (Quiet addr f l coins) = (f == first) && (l == last)
is_of first last (Doubt addr f l) = (f == first) && (l == last)
is_of first last (Fell addr f l count) = false
is_of first last (Broken addr premise f l) = false

-- It is said of a span of the acceptor at an address, whose readings are the taps of these two
-- numbers.
abbrev pub is_of_at : ℕ → ℕ → ℕ → Said → Bool
is_of_at addr first last (Sure a f l coins) = (a == addr) && ((f == first) && (l == last))
is_of_at addr first last (Quiet a f l coins) = (a == addr) && ((f == first) && (l == last))
is_of_at addr first last (Doubt a f l) = (a == addr) && ((f == first) && (l == last))
is_of_at addr first last (Fell a f l count) = false
is_of_at addr first last (Broken a premise f l) = false

-- The readings of a span are the taps of these two numbers.
abbrev pub is_between : ℕ → ℕ → Span → Bool
is_between first last span = (span.first.number == first) && (span.last.number == last)
