use Rattle.std.proofs.Common.{◌≡◌, ℕ, ◌-◌, ◌+◌, ◌≤◌, List, [], ◌++◌, length, take, drop, replicate, sym, ◌∙◌, ap, arith}
use Rattle.std.proofs.Common.{append_assoc, length-append}
use Rattle.std.proofs.lemmas.List.{append-nil, drop-replicate, drop-take, drop_at, length-replicate, length-take-le, replicate-append-replicate, take_at}
use borrow.Rule.Slice.PartMut.{put_mid, post_of}
use Rattle.cct_record.proofs.old.widened.Goals as goal

-- What is written over the end of a list is after what was before it.
put_end : (at many : ℕ) (front end new all : List ℕ) → all ≡ front ++ end → length front ≡ at → length end ≡ many
    → put_mid at many all new ≡ front ++ new
put_end at many front end new all is before long =
    ap (λ (xs : List ℕ). put_mid at many xs new) is
    ∙ ap (λ (xs : List ℕ). xs ++ (new ++ post_of at many (front ++ end))) (take_at front end at before)
    ∙ ap (λ (xs : List ℕ). front ++ (new ++ drop many xs)) (drop_at front end at before)
    ∙ ap (λ (xs : List ℕ). front ++ (new ++ xs)) (ap (drop many) (sym (append-nil end)) ∙ drop_at end [] many long)
    ∙ ap (λ (xs : List ℕ). front ++ xs) (append-nil new)

-- Zeros stand between what is written first and last.
zeros_between : (at many : ℕ) (first front new : List ℕ) → at + many ≤ 31 → first ≡ front → length front ≡ at
    → put_mid (at + many) (31 - (at + many)) (first ++ drop at (replicate 31 0)) new ≡ front ++ (replicate many 0 ++ new)
zeros_between at many first front new within same before =
    let rest : ℕ = 31 - (at + many) in
    let both : 31 - at ≡ many + rest = omega (arith, within) in
    let zeros : drop at (replicate {A = ℕ} 31 0) ≡ replicate many 0 ++ replicate rest 0 =
    drop-replicate at 31 0 ∙ ap (λ n. replicate n 0) both ∙ sym (replicate-append-replicate many rest 0) in
    let is : first ++ drop at (replicate 31 0) ≡ (front ++ replicate many 0) ++ replicate rest 0 =
    ap (λ (xs : List ℕ). xs ++ drop at (replicate 31 0)) same
    ∙ ap (λ (xs : List ℕ). front ++ xs) zeros
    ∙ sym (append_assoc front (replicate many 0) (replicate rest 0)) in
    let long : length (front ++ replicate many 0) ≡ at + many =
    length-append front (replicate many 0) ∙ ap (λ n. n + length (replicate {A = ℕ} many 0)) before
    ∙ ap (λ n. at + n) (length-replicate many 0) in
    put_end (at + many) rest (front ++ replicate many 0) (replicate rest 0) new (first ++ drop at (replicate 31 0)) is long
    (length-replicate rest 0)
    ∙ append_assoc front (replicate many 0) new

-- A part of a list that ends before its end.
part : (at end : ℕ) (bytes : List ℕ) → at ≤ end → take (end - at) (drop at bytes) ≡ drop at (take end bytes)
part at end bytes before =
    let whole : end ≡ at + (end - at) = omega (arith, before) in
    sym (ap (λ n. drop at (take n bytes)) whole ∙ drop-take at (end - at) bytes)

pub returns : goal.returns
returns c =
    let at = c.args.at in
    let many = c.args.many in
    let bytes : List ℕ = c.args.bytes.now in
    zeros_between at many c.copy_from_slice.new.self (take at bytes) c.copy_from_slice-2.new.self c.requires
    c.copy_from_slice.ensures.after (length-take-le at bytes (omega (arith, c.requires, c.told-bytes)))
    ∙ ap (λ (xs : List ℕ). take at bytes ++ (replicate many 0 ++ xs))
    (c.copy_from_slice-2.ensures.after ∙ part at (31 - many) bytes (omega (arith, c.requires)))
