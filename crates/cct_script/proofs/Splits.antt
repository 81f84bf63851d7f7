-- A list cut at the elements that pass a test, given by where the first of them stands.
use Rattle.std.proofs.Common.{◌≡◌, ℕ, suc, ◌+◌, ◌<◌, ◌≤◌, Bool, true, false, List, [], ◌∷◌, ◌++◌, length, get_or}
use Rattle.std.proofs.Common.{take, drop, Some, None, refl, ap, sym, ◌∙◌, arith, cond, ltb}
use Rattle.std.specs.List.{slice_split, onto_first, position, position_or_len, All}
use Rattle.std.proofs.lemmas.List.{take-append-drop, drop_more, length-take-le, get_or-take, get_or_default}
use Rattle.std.proofs.lemmas.List.Splits.{slice_split_at, slice_split_none, slice_split-cons_no}
use Rattle.std.proofs.lemmas.List.Sums.{fails_before_first}
use Rattle.std.proofs.lemmas.List.Quantifiers.{position-Some}
use Rattle.std.proofs.lemmas.Bool.{ltb-false}

none_first : (b : Bool) (n : ℕ) → cond b (Some n) None ≡ None → b ≡ false
none_first true n e = cc
none_first false n e = refl

-- a list of parts has a first one
abbrev pub Begins : {X : Type 0} → List (List X) → Type 0
Begins {X} all = (part : List X) × (parts : List (List X)) × (all ≡ part ∷ parts)

module _ {X : Type 0} where
  pub split_place : (xs : List X) (n : ℕ) (d : X) → n < length xs → xs ≡ take n xs ++ get_or xs n d ∷ drop (n + 1) xs
  split_place xs n d inside = sym (take-append-drop n xs) ∙ ap (λ ys. take n xs ++ ys) (drop_more xs n d inside)

  pub fails_in_front : (p : X → Bool) (xs : List X) (n : ℕ) (d : X) → n < length xs
      → ((k : ℕ) → k < n → p (get_or xs k d) ≡ false) → All (λ x. p x ≡ false) (take n xs)
  fails_in_front p xs n d inside fails k e below =
      let k_below : k < n = omega (arith, length-take-le n xs (omega arith)) in
      ap p (get_or-take n xs k e k_below ∙ get_or_default xs k e d (omega arith)) ∙ fails k k_below

  -- the first part ends at the first element that passes
  pub split_at : (p : X → Bool) (xs : List X) (n : ℕ) (d : X) → position p xs ≡ Some n
      → slice_split p xs ≡ take n xs ∷ slice_split p (drop (n + 1) xs)
  split_at p xs n d e =
      let h = position-Some p xs n d e in
      ap (slice_split p) (split_place xs n d h.0)
      ∙ slice_split_at p (take n xs) (get_or xs n d) (drop (n + 1) xs) (fails_in_front p xs n d h.0 h.2) h.1

  pub fails_everywhere : (p : X → Bool) (xs : List X) → position p xs ≡ None → All (λ x. p x ≡ false) xs
  fails_everywhere p xs e k d inside =
      let last : ltb (position_or_len p xs) (length xs) ≡ false = none_first _ _ e in
      let past : length xs ≤ position_or_len p xs = ltb-false _ _ last in
      fails_before_first p xs k d (omega arith)

  -- a part that ends at an element that passes
  pub split_behind : (p : X → Bool) (xs : List X) (x : X) (ys : List X) → position p xs ≡ None → p x ≡ true
      → slice_split p (xs ++ x ∷ ys) ≡ xs ∷ slice_split p ys
  split_behind p xs x ys none passes = slice_split_at p xs x ys (fails_everywhere p xs none) passes

  -- where no element passes, the list is the one part
  pub split_none : (p : X → Bool) (xs : List X) → position p xs ≡ None → slice_split p xs ≡ xs ∷ []
  split_none p xs e = slice_split_none p xs (fails_everywhere p xs e)

  some_after : (b : Bool) (x : X) (parts : List (List X)) → Begins parts
      → Begins (cond b ([] ∷ parts) (onto_first x parts))
  some_after true x parts h = ([], parts, refl)
  some_after false x parts h = (x ∷ h.0, h.1, ap (onto_first x) h.2)

  -- there is always a first part
  pub split_some : (p : X → Bool) (xs : List X) → Begins (slice_split p xs)
  split_some p [] = ([], [], refl)
  split_some p (x ∷ xs) = some_after (p x) x (slice_split p xs) (split_some p xs)

  -- the first part of a list that begins with elements none of which passes
  pub split_front : (p : X → Bool) (xs more : List X) → All (λ x. p x ≡ false) xs → (part : List X)
      × (parts : List (List X)) × (slice_split p (xs ++ more) ≡ (xs ++ part) ∷ parts)
  split_front p [] more fails = split_some p more
  split_front p (x ∷ xs) more fails =
      let h = split_front p xs more (λ k d inside. fails (suc k) d (omega arith)) in
      (h.0, h.1, slice_split-cons_no p x (xs ++ more) (fails 0 x (omega arith)) ∙ ap (onto_first x) h.2)

  pub split_front_none : (p : X → Bool) (xs more : List X) → position p xs ≡ None → (part : List X)
      × (parts : List (List X)) × (slice_split p (xs ++ more) ≡ (xs ++ part) ∷ parts)
  split_front_none p xs more e = split_front p xs more (fails_everywhere p xs e)

-- a list is cut into one part at the least
pub split_not_empty : {X : Type 0} (p : X → Bool) (xs : List X) → 1 ≤ length (slice_split p xs)
split_not_empty p xs = let h = split_some p xs in rw h.2 (omega arith)
