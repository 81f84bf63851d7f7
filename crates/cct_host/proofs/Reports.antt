-- A report whose last entry gives way to the first one that is reported next.
use Rattle.std.proofs.Common.{◌≡◌, ℕ, ◌≤◌, ◌-◌, ◌+◌, List, [], ◌∷◌, ◌++◌, length, set, take, refl, ap, ◌∙◌, arith}
use Rattle.cct_model.specs.lines.entry.Entry.{Entry}
use Rattle.arrayvec.specs.ArrayVec.{ArrayVec, array_vec_len}
use Rattle.cct_host.specs.Report.{kept}

-- what is put there and gives way leaves the report as it was
pub kept_of : (report : List Entry) (e : Entry) → kept (report ++ e ∷ []) ≡ report
kept_of [] e = refl
kept_of (x ∷ []) e = refl
kept_of (x ∷ y ∷ es) e = ap (λ fs. x ∷ fs) (kept_of (y ∷ es) e)

-- of one entry nothing stays
pub kept_alone : (report : List Entry) → length report ≡ 1 → kept report ≡ []
kept_alone [] one = absurd cc
kept_alone (x ∷ []) one = refl
kept_alone (x ∷ y ∷ es) one = absurd (omega (arith, one))

-- an entry in the place of the last one
set_last : (report : List Entry) (said : Entry) (i : ℕ) → i + 1 ≡ length report
    → set report i said ≡ kept report ++ said ∷ []
set_last [] said i is = absurd (omega (arith, is))
set_last (x ∷ []) said i is =
    let first : i ≡ 0 = omega (arith, is) in
    ap (λ n. set (x ∷ []) n said) first
set_last (x ∷ y ∷ es) said i is =
    let last : i ≡ length (y ∷ es) = omega (arith, is) in
    let more : length es + 1 ≡ length (y ∷ es) = omega arith in
    ap (λ n. set (x ∷ y ∷ es) n said) last ∙ ap (λ fs. x ∷ fs) (set_last (y ∷ es) said (length es) more)

-- the same, by the index of the last one
pub told_over : (report : List Entry) (said : Entry) (index : ℕ) → 1 ≤ length report
    → index ≡ length report - 1 → set report index said ≡ kept report ++ said ∷ []
told_over report said index some is = set_last report said index (omega (arith, some, is))

take_before : (report : List Entry) (e : Entry) → take (length report) (report ++ e ∷ []) ≡ report
take_before [] e = refl
take_before (x ∷ es) e = ap (λ fs. x ∷ fs) (take_before es e)

one_more : (report : List Entry) (e : Entry) → length (report ++ e ∷ []) ≡ length report + 1
one_more [] e = refl
one_more (x ∷ es) e = omega (arith, one_more es e)

take_front : (report : List Entry) (e : Entry) → take (length (report ++ e ∷ []) - 1) (report ++ e ∷ []) ≡ report
take_front report e =
    let front : length (report ++ e ∷ []) - 1 ≡ length report = omega (arith, one_more report e) in
    ap (λ n. take n (report ++ e ∷ [])) front ∙ take_before report e

-- what was put there for an attempt that failed is taken back
pub left_again : (report pushed tried left : ArrayVec Entry) (e : Entry) → pushed.items ≡ report.items ++ e ∷ []
    → tried ≡ pushed → left.items ≡ take (array_vec_len tried - 1) tried.items → left ≡ report
left_again report pushed tried left e pushed_is tried_is left_is =
    ap (λ (es : List Entry). as_report es)
    (left_is ∙ ap (λ (v : ArrayVec Entry). take (array_vec_len v - 1) v.items) tried_is
    ∙ ap (λ es. take (length es - 1) es) pushed_is ∙ take_front report.items e)
  where
    as_report : List Entry → ArrayVec Entry
    as_report es = record { items = es }
