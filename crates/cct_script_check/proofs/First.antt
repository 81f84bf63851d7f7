-- The first line that is reported is the one at which a run ends.
use Rattle.std.proofs.Common.{◌≡◌, ℕ, ◌+◌, Bool, true, false, List, [], ◌∷◌, Option, Some, None, length, refl, subst}
use Rattle.std.specs.List.{slice_split}
use Rattle.std.specs.Prelude.{if◌then◌else◌, nat_lt}
use Rattle.cct_model_lines.specs.declared.entry.LineKind.{LineKind}
use Rattle.cct_model_lines.specs.declared.entry.LineKind.TheVariants as kind
use Rattle.cct_model_lines.specs.Script.{Read, Stage, at_setup, goes_on, is_line_feed, is_over, most_bytes, most_lines, no_devices}
use Rattle.cct_model_lines.specs.Script.{opens, plays, read_form, read_line, refusal_at, refuses, script, script_from, stage_after}
use Rattle.cct_model_lines.specs.Script.{unfinished}
use Rattle.cct_script_check.specs.Proof.{Mark, first_of, goes, left_out, mark_line, mark_of, refusal_by, refusals, refusals_from}
use Rattle.cct_script_check.specs.Proof.{refusals_with, stage_by, stops}

-- a line is to proofreading what it is to a run
abbrev Alike : Mark → Read → Type 0
Alike (goes next) (opens other) = next ≡ other
Alike (goes next) (plays s other) = next ≡ other
Alike (left_out why) (refuses other) = why ≡ other
Alike (stops why) (refuses other) = why ≡ other
Alike mark read = ⊥

read_alike : (read : Read) → Alike (mark_of read) read
read_alike (opens next) = refl
read_alike (plays s next) = refl
read_alike (refuses why) = refl

tests_alike : (over many long : Bool) (read : Read)
    → Alike (if over then stops kind.Trailing else if many then stops kind.Lines else if long then stops kind.Long else mark_of read)
    (if over then refuses kind.Trailing else if many then refuses kind.Lines else if long then refuses kind.Long else read)
tests_alike true many long read = refl
tests_alike false true long read = refl
tests_alike false false true read = refl
tests_alike false false false read = read_alike read

line_alike : (number : ℕ) (stage : Stage) (line : List ℕ) → Alike (mark_line number stage line) (read_line number stage line)
line_alike number stage line =
    tests_alike (is_over stage) (nat_lt most_lines number) (nat_lt most_bytes (length line)) (read_form stage line)

first_closed : (number : ℕ) (why : Option LineKind) → first_of (refusal_by number why) ≡ refusal_at number why
first_closed number None = refl
first_closed number (Some why) = refl

first_with : (number : ℕ) (stage : Stage) (parts : List (List ℕ)) (mark : Mark) (read : Read) → Alike mark read
    → ((next : Stage) → first_of (refusals_from (number + 1) next parts) ≡ (script_from (number + 1) next parts).refused)
    → first_of (refusals_with number mark (refusals_from (number + 1) (stage_by stage mark) parts))
    ≡ (goes_on number stage read (script_from (number + 1) (stage_after stage read) parts)).refused
first_with number stage parts (goes next) (opens other) alike later =
    subst (λ n. first_of (refusals_from (number + 1) next parts) ≡ (script_from (number + 1) n parts).refused) alike (later next)
first_with number stage parts (goes next) (plays s other) alike later =
    subst (λ n. first_of (refusals_from (number + 1) next parts) ≡ (script_from (number + 1) n parts).refused) alike (later next)
first_with number stage parts (left_out why) (refuses other) alike later =
    subst (λ w. Some (record { number = number; why = why }) ≡ refusal_at number (Some w)) alike refl
first_with number stage parts (stops why) (refuses other) alike later =
    subst (λ w. Some (record { number = number; why = why }) ≡ refusal_at number (Some w)) alike refl
first_with number stage parts (goes next) (refuses other) alike later = absurd alike
first_with number stage parts (left_out why) (opens other) alike later = absurd alike
first_with number stage parts (left_out why) (plays s other) alike later = absurd alike
first_with number stage parts (stops why) (opens other) alike later = absurd alike
first_with number stage parts (stops why) (plays s other) alike later = absurd alike

first_from : (number : ℕ) (stage : Stage) (parts : List (List ℕ))
    → first_of (refusals_from number stage parts) ≡ (script_from number stage parts).refused
first_from number stage [] = first_closed number (unfinished number stage [])
first_from number stage (rest ∷ []) = first_closed number (unfinished number stage rest)
first_from number stage (line ∷ next ∷ parts) =
    first_with number stage (next ∷ parts) (mark_line number stage line) (read_line number stage line)
    (line_alike number stage line)
    (λ later. first_from (number + 1) later (next ∷ parts))

pub first_refused : (bytes : List ℕ) → first_of (refusals bytes) ≡ (script bytes).refused
unfolding refusals script
first_refused bytes = first_from 1 (at_setup no_devices) (slice_split is_line_feed bytes)
