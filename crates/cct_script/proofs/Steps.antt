-- A step line, given by the groups of its words.
use Rattle.std.proofs.Common.{◌≡◌, ◌∙◌, ℕ, Bool, true, false, List, ◌∷◌, Result, Ok, Err, ap, refl, subst, sym}
use Rattle.std.specs.Prelude.{MatchResult, bytes_eq, codes}
use Rattle.std.specs.Cmp.Lexicographic.{bytes_decides}
use Rattle.std.specs.List.{slice_split}
use Rattle.cct_model_lines.specs.Grammar.{is_space, step_fields, step_line}
use Rattle.cct_model_lines.specs.declared.command.Step.{Step}
use Rattle.cct_model_lines.specs.declared.entry.LineKind.{LineKind}
use Rattle.cct_script.specs.Steps.{device_step, epoch_step, next_step, order_step, other_step, desk_step, said_into}

-- the groups one after another are the whole definition, wherever `next` is looked for: no other word is this one
next_first : (b : Bool) (word : List ℕ) (fields : List (List ℕ)) → bytes_eq word (codes "next") ≡ b
    → step_fields (word ∷ fields) ≡ next_step word fields
unfolding next_step device_step epoch_step order_step other_step desk_step
next_first true word fields is =
    subst (λ w. step_fields (w ∷ fields) ≡ next_step w fields) (sym ((bytes_decides word (codes "next")).0 is)) refl
next_first false word fields is = rw is refl

pub groups : (line word : List ℕ) (fields : List (List ℕ)) → slice_split is_space line ≡ word ∷ fields →
    step_line line ≡ next_step word fields
unfolding step_line
groups line word fields split = ap step_fields split ∙ next_first (bytes_eq word (codes "next")) word fields refl

-- what is said into the room for a step, by the answer
pub said_by : (said : Result Step LineKind) (r : Result Unit LineKind) (s : Step) → said ≡ said_into r s →
    MatchResult r (λ done. said ≡ Ok s) (λ why. said ≡ Err why)
said_by said (Ok done) s e = e
said_by said (Err why) s e = e
