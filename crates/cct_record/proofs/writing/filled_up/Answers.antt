use Rattle.std.proofs.Common.{◌≡◌, ◌-◌, ℕ, ◌++◌, List, length, drop, replicate, ap, ◌∙◌}
use Rattle.std.proofs.lemmas.List.{drop-replicate}
use Rattle.cct_record.proofs.writing.filled_up.Goals as goal

filled : (n : ℕ) (xs front : List ℕ) → front ≡ xs → n ≡ length xs
    → front ++ drop n (replicate 31 0) ≡ xs ++ replicate (31 - length xs) 0
filled n xs front same count =
    ap (λ (ys : List ℕ). ys ++ drop n (replicate 31 0)) same
    ∙ ap (λ (ys : List ℕ). xs ++ ys) (drop-replicate n 31 0 ∙ ap (λ k. replicate (31 - k) 0) count)

pub returns : goal.returns
returns c = filled c.len.result c.args.fields.now.items c.copy_from_slice.new.self
    (c.copy_from_slice.ensures.after ∙ c.as_slice.ensures.value) c.len.ensures.value
