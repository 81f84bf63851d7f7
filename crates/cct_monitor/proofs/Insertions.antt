-- A watched device is put at its place.
use Rattle.std.proofs.Common.{◌≡◌, ℕ, ◌+◌, ◌&&◌, ◌||◌, not, nat_le, nat_lt, ◌≤◌, Bool, true, false, cond, List, [], ◌∷◌, insert, length, arith, refl, sym, ap, ap₂, ◌∙◌, position, Some, None, one-add}
use Rattle.std.specs.List.{list_any, position_or_len}
use Rattle.std.proofs.lemmas.Bool.{and_parts, or_parts}
use Rattle.std.proofs.lemmas.Bool.Decides.{nat_tests}
use Rattle.cct_monitor.specs.declared.watched.Watched.{Watched}
use Rattle.cct_monitor.specs.Places.{are_apart, has_addr, is_behind, put_watched}
use Rattle.cct_monitor.proofs.Positions.{past_all, swapped}

-- the first place of a test, or the length
pub place_some : (p : Watched → Bool) (xs : List Watched) (i : ℕ) → position p xs ≡ Some i → position_or_len p xs ≡ i
place_some p xs i found = by_test (nat_lt (position_or_len p xs) (length xs)) (position_or_len p xs) found
  where
    by_test : (below : Bool) (n : ℕ) → cond below (Some n) None ≡ Some i → n ≡ i
    by_test true n is = cc
    by_test false n is = absurd cc

most : (p : Watched → Bool) (xs : List Watched) → position_or_len p xs ≤ length xs
most p [] = omega arith
most p (x ∷ xs) = by_test (p x) (most p xs)
  where
    by_test : (passes : Bool) → position_or_len p xs ≤ length xs →
        cond (not passes) (1 + position_or_len p xs) 0 ≤ length (x ∷ xs)
    by_test true rest = omega arith
    by_test false rest = omega arith

pub place_none : (p : Watched → Bool) (xs : List Watched) → position p xs ≡ None → position_or_len p xs ≡ length xs
place_none p xs none =
    let test : nat_lt (position_or_len p xs) (length xs) ≡ false =
    past_all (nat_lt (position_or_len p xs) (length xs)) (position_or_len p xs) none in
    let bound : position_or_len p xs ≤ length xs = most p xs in
    grind (arith, nat_tests)

pub put_is : (w : Watched) (ws : List Watched) →
    put_watched w ws ≡ insert ws (position_or_len (is_behind w.addr) ws) w
put_is w [] = refl
put_is w (v ∷ ws) =
    by_test (nat_le w.addr v.addr) (position_or_len (is_behind w.addr) ws) (put_is w ws)
  where
    by_test : (below : Bool) (at : ℕ) → put_watched w ws ≡ insert ws at w →
        cond below (w ∷ v ∷ ws) (v ∷ put_watched w ws) ≡ insert (v ∷ ws) (cond (not below) (1 + at) 0) w
    by_test true at rest = refl
    by_test false at rest = ap (λ xs. v ∷ xs) rest ∙ ap (λ n. insert (v ∷ ws) n w) (sym (one-add at))

-- of two in a row, the other one may come first
turned : (x y rest : Bool) → (x || (y || rest)) ≡ (y || (x || rest))
turned true true rest = refl
turned true false rest = refl
turned false true rest = refl
turned false false rest = refl

-- those that pass a test are the same, wherever one more is put
pub any_put : (p : Watched → Bool) (w : Watched) (ws : List Watched) →
    list_any p (put_watched w ws) ≡ (p w || list_any p ws)
any_put p w [] = refl
any_put p w (v ∷ ws) = by_test (nat_le w.addr v.addr) (any_put p w ws)
  where
    by_test : (below : Bool) → list_any p (put_watched w ws) ≡ (p w || list_any p ws) →
        list_any p (cond below (w ∷ v ∷ ws) (v ∷ put_watched w ws)) ≡ (p w || (p v || list_any p ws))
    by_test true rest = refl
    by_test false rest = ap (λ b. p v || b) rest ∙ turned (p v) (p w) (list_any p ws)

pub put_more : (w : Watched) (ws : List Watched) → length (put_watched w ws) ≡ length ws + 1
put_more w [] = refl
put_more w (v ∷ ws) = by_test (nat_le w.addr v.addr) (put_more w ws)
  where
    by_test : (below : Bool) → length (put_watched w ws) ≡ length ws + 1 →
        length (cond below (w ∷ v ∷ ws) (v ∷ put_watched w ws)) ≡ length (v ∷ ws) + 1
    by_test true rest = omega arith
    by_test false rest = omega arith

is_none : (b : Bool) → b ≡ false → not b ≡ true
is_none true none = absurd cc
is_none false none = refl

no_other : (b : Bool) → not b ≡ true → b ≡ false
no_other true fails = absurd cc
no_other false fails = refl

pub put_apart : (w : Watched) (ws : List Watched) → list_any (has_addr w.addr) ws ≡ false → are_apart ws ≡ true →
    are_apart (put_watched w ws) ≡ true
put_apart w [] new apart = refl
put_apart w (v ∷ ws) new apart =
    let parts = or_parts (has_addr w.addr v) (list_any (has_addr w.addr) ws) new in
    let before = and_parts (not (list_any (has_addr v.addr) ws)) (are_apart ws) apart in
    by_test (nat_le w.addr v.addr)
    (any_put (has_addr v.addr) w ws
    ∙ ap₂ (λ a b. a || b) (swapped v.addr w.addr parts.0) (no_other (list_any (has_addr v.addr) ws) before.0))
    (put_apart w ws parts.1 before.1)
  where
    by_test : (below : Bool) → list_any (has_addr v.addr) (put_watched w ws) ≡ false →
        are_apart (put_watched w ws) ≡ true → are_apart (cond below (w ∷ v ∷ ws) (v ∷ put_watched w ws)) ≡ true
    by_test true others rest = ap₂ (λ a b. a && b) (is_none (list_any (has_addr w.addr) (v ∷ ws)) new) apart
    by_test false others rest = ap₂ (λ a b. a && b) (is_none (list_any (has_addr v.addr) (put_watched w ws)) others) rest
