use Rattle.std.proofs.Common.{◌≡◌, ℕ, ◌-◌, List, [], ◌∷◌, ◌++◌, length, take, drop, ◌∙◌, ap, arith, rules}
use Rattle.std.proofs.lemmas.List.{take_rest}
use Rattle.cct_journal.proofs.turning.spell_behind.Goals as goal

pub returns-clause-spelt : goal.returns-clause-spelt
returns-clause-spelt c =
    let start = c.spell_start-start.result in
    let whole : length start ≡ 1152 = search rules in
    let few : 1151 ≡ length start - 1 = omega (arith, whole) in
    ap (λ (l : List ℕ). l ++ 0 ∷ [])
    (c.copy_from_slice.ensures.after ∙ ap (λ k. take k (drop 1 start)) few ∙ take_rest start 1
    ∙ ap (λ (l : List ℕ). drop 1 l) c.spell_start-start.ensures)
