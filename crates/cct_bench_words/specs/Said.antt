-- What the matches of a parse say, and which words aren't read.
use Rattle.std.specs.Prelude.{ℕ, ◌==◌, Bool, false, List, [], ◌∷◌, if◌then◌else◌, Option, Some}
use Rattle.std.specs.Prelude.{None, codes, bytes_eq}
use Rattle.clap.specs.Walk.{Row, Text, first_of}
use Rattle.cct_bench_words.specs.Grammar.{load_words}
use Rattle.cct_bench_words.specs.declared.words.Words.{Words}
use Rattle.cct_bench_words.specs.declared.words.Words.TheVariants as words

-- The word begins with a hyphen.
abbrev pub is_dashed : List ℕ → Bool
is_dashed [] = false
is_dashed (byte ∷ bytes) = byte == 45

-- The load that two words say, where both are there.
abbrev pub load_by : Option Text → Option Text → Option Words
load_by (Some seed) (Some rounds) = load_words (seed ∷ rounds ∷ [])
load_by seed rounds = None

-- The load that the matches of `load` say.
abbrev pub load_in : List Row → Option Words
load_in rows = load_by (first_of (codes "seed") rows) (first_of (codes "rounds") rows)

-- What a subcommand with its matches says.
abbrev pub said_by : Text → List Row → Option Words
said_by name rows =
    if bytes_eq name (codes "run") then Some words.Run
    else if bytes_eq name (codes "report") then Some words.Report
    else if bytes_eq name (codes "upgrade") then Some words.Upgrade
    else if bytes_eq name (codes "audit") then Some words.Audit
    else if bytes_eq name (codes "check") then Some words.Check
    else if bytes_eq name (codes "state") then Some words.State
    else if bytes_eq name (codes "load") then load_in rows
    else None

-- What a parse says, by the subcommand that it met.
unfoldable pub said_under : Option (Text × List Row) → Option Words
said_under None = None
said_under (Some met) = said_by met.0 met.1
