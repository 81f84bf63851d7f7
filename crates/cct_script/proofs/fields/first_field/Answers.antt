use Rattle.std.proofs.Common.{◌+◌, ◌∷◌, take, sym, ap, ◌∙◌}
use Rattle.std.specs.List.{slice_split}
use Rattle.std.proofs.lemmas.List.{take_rest}
use Rattle.cct_model_lines.specs.Grammar.{is_space}
use Rattle.cct_script.proofs.Splits.{split_at, split_none}
use Rattle.cct_script.proofs.fields.first_field.Goals as goal

pub returns-in-Some : goal.returns-in-Some
returns-in-Some c =
    let line = c.args.line.now in
    let at = c.in-Some.at in
    split_at is_space line at 0 (sym c.in-Some.ensures)
    ∙ ap (λ rest. take at line ∷ slice_split is_space rest) (sym (take_rest line (at + 1)))

pub returns-in-None : goal.returns-in-None
returns-in-None c = split_none is_space c.args.line.now (sym c.in-None.ensures)
