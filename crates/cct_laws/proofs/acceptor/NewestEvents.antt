-- The coins of the newest events, and what a credit buffer shows of them.
use Rattle.std.proofs.Common.{◌≡◌, ℕ, ◌-◌, ◌≤◌, min, cond, eqb, true, false, Bool, List, [], ◌∷◌, ◌++◌, length, take, drop, reverse, refl, ap, sym, ◌∙◌, arith, take-append-drop, take-take, length-append, append_assoc, take_at, replicate}
use Rattle.std.proofs.lemmas.List.{reverse-reverse, take-append-le}
use Rattle.cct_model.specs.terms.coin.Pair.{Pair}
use Rattle.cct_model.specs.terms.coin.Coin.{Coin}
use Rattle.cct_model.specs.Reading.{coins_among, posted_of}
use Rattle.cct_model.specs.Acceptor.{last_five, no_event}
use Rattle.cct_model.specs.Claims.{AreNewest}

append_by : (b : Bool) (coin : Coin) (xs ys zs : List Coin) → zs ≡ xs ++ ys → cond b zs (coin ∷ zs) ≡ cond b xs (coin ∷ xs) ++ ys
append_by true coin xs ys zs same = same
append_by false coin xs ys zs same = ap (λ cs. coin ∷ cs) same

pub coins_among-append : (xs ys : List Pair) → coins_among (xs ++ ys) ≡ coins_among xs ++ coins_among ys
coins_among-append [] ys = refl
coins_among-append (pair ∷ xs) ys = append_by (eqb pair.a 0) (record { place = pair.a; path = pair.b }) _ _ _ (coins_among-append xs ys)

-- a list in front of another is what its length more takes
pub take_front : (xs ys : List Coin) → take (length (xs ++ ys) - length ys) (xs ++ ys) ≡ xs
take_front xs ys = take_at xs ys (length (xs ++ ys) - length ys) (omega (arith, length-append xs ys))

-- the buffer's newest events, at most five, are the newest events
pub buffer_newest : (new old : List Pair) (n : ℕ) → n ≤ length new → take (min n 5) (last_five (new ++ old)) ≡ take (min n 5) new
buffer_newest new old n most =
    let blank = replicate 5 no_event in
    take-take (min n 5) 5 (new ++ old ++ blank) (omega arith)
    ∙ ap (take (min n 5)) (append_assoc new old blank)
    ∙ take-append-le (min n 5) new (old ++ blank) (omega arith)

-- the posted coins are the newest of those that came since
pub posted_newest : (new old : List Pair) (n : ℕ) → n ≤ length new → AreNewest (posted_of n (last_five (new ++ old))) (coins_among new)
posted_newest new old n most =
    let newest = take (min n 5) new in
    let rest = drop (min n 5) new in (
      coins_among rest,
      ap coins_among (sym (take-append-drop (min n 5) new))
          ∙ coins_among-append newest rest
          ∙ ap (λ cs. cs ++ coins_among rest) (sym (reverse-reverse (coins_among newest)) ∙ ap (λ ps. reverse (reverse (coins_among ps))) (sym (buffer_newest new old n most))),
    )
