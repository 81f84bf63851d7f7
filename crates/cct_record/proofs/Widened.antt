-- What was put into an old body, and taken out of it again.
use Rattle.std.proofs.Common.{◌≡◌, ℕ, ◌+◌, ◌-◌, ◌≤◌, ◌==◌, zero, suc, Bool, true, false, List, [], ◌∷◌, ◌++◌, length, take, drop, replicate, slice_index, refl, sym, ◌∙◌, ap, subst, arith}
use Rattle.std.specs.Prelude.{if◌then◌else◌}
use Rattle.std.proofs.Common.{append_assoc}
use Rattle.std.proofs.lemmas.List.{drop-drop, drop_at, length-replicate, length-take-le, take-append-drop, take-take, take_at}
use Rattle.cct_record.specs.Today.{HasRoom, added, added_at, today, widen}

-- A body without so many bytes from a place on, filled up with 0.
abbrev pub narrow : ℕ → ℕ → List ℕ → List ℕ
narrow at many body = take at body ++ (drop (at + many) body ++ replicate many 0)

-- Today's body as an old one.
abbrev pub narrowed : List ℕ → List ℕ
narrowed body = narrow (added_at (slice_index body 0)) (added (slice_index body 0)) body

-- Where the old bodies have no bytes, today's has 0.
abbrev pub IsUnused : List ℕ → Type 0
IsUnused body =
    take (added (slice_index body 0)) (drop (added_at (slice_index body 0)) body) ≡ replicate (added (slice_index body 0)) 0

-- The tables by their tests.
abbrev many_by : Bool → Bool → Bool → Bool → ℕ
many_by a b c d = if a then 3 else if b then 5 else if c then 6 else if d then 3 else 0

abbrev place_by : Bool → Bool → Bool → Bool → ℕ
place_by a b c d = if a then 4 else if b then 4 else if c then 5 else if d then 5 else 0

within_by : (a b c d : Bool) → place_by a b c d + many_by a b c d ≤ 31
within_by true b c d = omega arith
within_by false true c d = omega arith
within_by false false true d = omega arith
within_by false false false true = omega arith
within_by false false false false = omega arith

-- What is put in lies within a body.
pub added_within : (kind : ℕ) → added_at kind + added kind ≤ 31
added_within kind = within_by (kind == 1) (kind == 2) (kind == 3) (kind == 12)

nothing_by : (a b c d : Bool) → place_by a b c d ≡ 0 → many_by a b c d ≡ 0
nothing_by true b c d none = absurd cc
nothing_by false true c d none = absurd cc
nothing_by false false true d none = absurd cc
nothing_by false false false true none = absurd cc
nothing_by false false false false none = refl

-- Nothing is put in before the kind.
nothing_first : (kind : ℕ) → added_at kind ≡ 0 → added kind ≡ 0
nothing_first kind = nothing_by (kind == 1) (kind == 2) (kind == 3) (kind == 12)

-- So the kind stays the first byte.
first_widen : (at many : ℕ) (body : List ℕ) → length body ≡ 31 → (at ≡ 0 → many ≡ 0)
    → slice_index (widen at many body) 0 ≡ slice_index body 0
first_widen at many [] long first = absurd (omega (arith, long))
first_widen zero many (kind ∷ rest) long first =
    ap (λ n. slice_index (widen 0 n (kind ∷ rest)) 0) (first refl)
first_widen (suc at) many (kind ∷ rest) long first = refl

pub first_today : (body : List ℕ) → length body ≡ 31 → slice_index (today body) 0 ≡ slice_index body 0
first_today body long =
    first_widen (added_at (slice_index body 0)) (added (slice_index body 0)) body long
    (nothing_first (slice_index body 0))

module _ (at many : ℕ) (body : List ℕ) (long : length body ≡ 31) (within : at + many ≤ 31) where
  front_long : length (take at body) ≡ at
  front_long = length-take-le at body (omega (arith, long, within))

  after_front : drop at (widen at many body) ≡ replicate many 0 ++ drop at (take (31 - many) body)
  after_front = drop_at (take at body) (replicate many 0 ++ drop at (take (31 - many) body)) at front_long

  pub unused_widen : take many (drop at (widen at many body)) ≡ replicate many 0
  unused_widen =
      ap (take many) after_front
      ∙ take_at (replicate many 0) (drop at (take (31 - many) body)) many (length-replicate many 0)

  before_widen : take at (widen at many body) ≡ take at body
  before_widen = take_at (take at body) (replicate many 0 ++ drop at (take (31 - many) body)) at front_long

  behind_widen : drop (at + many) (widen at many body) ≡ drop at (take (31 - many) body)
  behind_widen =
      sym (drop-drop many at (widen at many body)) ∙ ap (drop many) after_front
      ∙ drop_at (replicate many 0) (drop at (take (31 - many) body)) many (length-replicate many 0)

  kept_widen : take at body ++ drop at (take (31 - many) body) ≡ take (31 - many) body
  kept_widen =
      ap (λ (xs : List ℕ). xs ++ drop at (take (31 - many) body))
      (sym (take-take at (31 - many) body (omega (arith, within))))
      ∙ take-append-drop at (take (31 - many) body)

  -- Where nothing but 0 went, a body is as before.
  pub narrow_widen : drop (31 - many) body ≡ replicate many 0 → narrow at many (widen at many body) ≡ body
  narrow_widen ends =
      ap (λ (xs : List ℕ). xs ++ (drop (at + many) (widen at many body) ++ replicate many 0)) before_widen
      ∙ ap (λ (xs : List ℕ). take at body ++ (xs ++ replicate many 0)) behind_widen
      ∙ sym (append_assoc (take at body) (drop at (take (31 - many) body)) (replicate many 0))
      ∙ ap (λ (xs : List ℕ). xs ++ replicate many 0) kept_widen
      ∙ ap (λ (xs : List ℕ). take (31 - many) body ++ xs) (sym ends)
      ∙ take-append-drop (31 - many) body

-- An old body that was made one of today is found again in it.
pub narrowed_today : (body : List ℕ) → length body ≡ 31 → HasRoom body → narrowed (today body) ≡ body
narrowed_today body long room =
    subst (λ k. narrow (added_at k) (added k) (today body) ≡ body) (sym (first_today body long))
    (narrow_widen (added_at (slice_index body 0)) (added (slice_index body 0)) body long
    (added_within (slice_index body 0)) room)

-- And what was put into it is 0.
pub unused_today : (body : List ℕ) → length body ≡ 31 → IsUnused (today body)
unused_today body long =
    subst (λ k. take (added k) (drop (added_at k) (today body)) ≡ replicate (added k) 0) (sym (first_today body long))
    (unused_widen (added_at (slice_index body 0)) (added (slice_index body 0)) body long
    (added_within (slice_index body 0)))
