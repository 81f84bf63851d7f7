-- The bytes that spell a message are that message.
use Rattle.std.proofs.Common.{◌≡◌, ℕ, ◌+◌, ◌-◌, ◌%◌, ◌≤◌, ◌&&◌, true, eqb, leb, List, [], ◌∷◌, ◌++◌, length, sum, refl, ap, ◌∙◌, Option, Some, arith, cond, eq-eqb}
use Rattle.std.proofs.lemmas.List.{take_at, length-append}
use Rattle.std.proofs.lemmas.List.Sums.{fold-append}
use Rattle.std.proofs.lemmas.Bool.Decides.{nat_tests}
use Rattle.cct_model_wire.specs.declared.wire.CheckKind.TheVariants.{Simple}
use Rattle.cct_model_wire.specs.Message.{Message, message, spelling, closing_byte, length_agrees}

-- the last byte closes the sum
closing_sum : (s : ℕ) → (s + (256 - s % 256) % 256) % 256 ≡ 0
closing_sum s = omega arith

sum_closed : (front : List ℕ) → sum (front ++ closing_byte front ∷ []) % 256 ≡ 0
sum_closed front = ap (λ n. n % 256) (fold-append ◌+◌ 0 front (closing_byte front ∷ [])) ∙ closing_sum (sum front)

data_agree : (body : List ℕ) (last : ℕ) → length body ≤ 255 → length_agrees (length body) (body ++ last ∷ []) ≡ true
data_agree body last short =
    let fits : leb (length body) 255 ≡ true = grind (arith, nat_tests) in
    let agree : eqb (length (body ++ last ∷ [])) (length body + 1) ≡ true = eq-eqb _ _ (length-append body (last ∷ [])) in
    rw (fits, agree) refl

both_hold : (a b : _) (x y : Option Message) → a ≡ true → b ≡ true → cond (a && b) x y ≡ x
both_hold a b x y p q = rw (p, q) refl

-- a message whose source is named, spelled under the simple check, is read back
pub simple_read_back : (to from header : ℕ) (body : List ℕ) → length body ≤ 255 →
    message Simple (spelling Simple (record { to = to; from = Some from; header = header; body = body })) ≡ Some (record { to = to; from = Some from; header = header; body = body })
unfolding message spelling
simple_read_back to from header body short =
    let last = closing_byte (to ∷ length body ∷ from ∷ header ∷ body) in
    let closed : eqb (sum (to ∷ length body ∷ from ∷ header ∷ (body ++ last ∷ [])) % 256) 0 ≡ true = eq-eqb _ _ (sum_closed (to ∷ length body ∷ from ∷ header ∷ body)) in
    both_hold _ _ _ _ (data_agree body last short) closed
    ∙ ap (λ front. Some (record { to = to; from = Some from; header = header; body = front })) (take_at body (last ∷ []) (length body) refl)
