use Rattle.std.proofs.Common.{◌≡◌, ℕ, ◌-◌, ◌≤◌, List, length, drop, take, replicate, refl, sym, ◌∙◌, ap, arith, subst}
use Rattle.std.proofs.lemmas.List.{drop-replicate, take_rest}
use Rattle.std.proofs.lemmas.Slice.Eq.{bytes_eq-Decides}
use borrow.Rule.Slice.PartMut.{mid_of}
use Rattle.cct_record.proofs.old.today.Goals as goal

-- The end of a list of 31.
end_of : (at : ℕ) (bytes : List ℕ) → length bytes ≡ 31 → mid_of at (31 - at) bytes ≡ drop at bytes
end_of at bytes long = ap (λ n. take (n - at) (drop at bytes)) (sym long) ∙ take_rest bytes at

-- Where the end of a body is that of one of zeros, it is 0.
ends_in_zeros : (bytes : List ℕ) (many : ℕ) → length bytes ≡ 31 → many ≤ 31
    → mid_of (31 - many) (31 - (31 - many)) bytes ≡ mid_of (31 - many) (31 - (31 - many)) (replicate 31 0)
    → drop (31 - many) bytes ≡ replicate many 0
ends_in_zeros bytes many long within same =
    sym (end_of (31 - many) bytes long) ∙ same ∙ end_of (31 - many) (replicate 31 0) refl
    ∙ drop-replicate (31 - many) 31 0 ∙ ap (λ n. replicate n 0) (omega (arith, within))

pub returns-then-eq-clause-room : goal.returns-then-eq-clause-room
returns-then-eq-clause-room c =
    let many = c.added-at.result.1 in
    let bytes : List ℕ = c.args.bytes.now in
    let within : many ≤ 31 = omega (arith, c.added-at.ensures.within) in
    let same =
    (bytes_eq-Decides (mid_of (31 - many) (31 - (31 - many)) bytes)
    (mid_of (31 - many) (31 - (31 - many)) (replicate 31 0))).0 (sym c.eq.ensures ∙ c.if-eq.true) in
    subst (λ n. drop (31 - n) bytes ≡ replicate n 0) c.added-at.ensures.many
    (ends_in_zeros bytes many c.told-bytes within same)
