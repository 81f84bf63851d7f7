-- Spans of a list: what is written in them, and what stays outside.
use Rattle.std.proofs.Common.{◌≡◌, ◌⊎◌, inl, inr, ℕ, ◌+◌, ◌-◌, ◌<◌, ◌≤◌, List, [], ◌∷◌, ◌++◌, length, take, drop}
use Rattle.std.proofs.Common.{get_or, set, sym, ◌∙◌, ap, arith, length-append, length-drop, append_assoc}
use Rattle.std.proofs.Common.{take-append-drop}
use Rattle.std.proofs.lemmas.List.{get_or-take, get_or-drop, length-take-le, length-set, take-set-le, drop-set-lt}
use Rattle.std.proofs.lemmas.List.{take_more, take_at, drop_at, drop-drop, get_or_append_left, get_or-append_right}
use Rattle.cct_disk.specs.Disk.{put_at, SameOutside}
use Rattle.cct_disk.specs.Content.{window}

pub set_within : (at n : ℕ) (old new : List ℕ) (p y : ℕ) → at ≤ p → p < at + n → SameOutside at n old new
    → SameOutside at n old (set new p y)
set_within at n old new p y from to same = record {
  before = take-set-le at new p y from ∙ same.before;
  after = drop-set-lt (at + n) new p y to ∙ same.after;
  size = length-set new p y ∙ same.size;
}

pub window_more : (at n : ℕ) (bytes : List ℕ) → at + n < length bytes
    → window at (n + 1) bytes ≡ window at n bytes ++ get_or bytes (at + n) 0 ∷ []
window_more at n bytes within =
    take_more (drop at bytes) n 0 (omega (arith, length-drop at bytes))
    ∙ ap (λ (y : ℕ). window at n bytes ++ y ∷ []) (get_or-drop at bytes n 0)

pub length-window : (at n : ℕ) (bytes : List ℕ) → at + n ≤ length bytes → length (window at n bytes) ≡ n
length-window at n bytes within = length-take-le n (drop at bytes) (omega (arith, length-drop at bytes))

-- a byte outside the span is the same
pub outside : (at n : ℕ) (old new : List ℕ) (p : ℕ) → SameOutside at n old new → (p < at) ⊎ (at + n ≤ p)
    → get_or new p 0 ≡ get_or old p 0
outside at n old new p same (inl less) =
    sym (get_or-take at new p 0 less) ∙ ap (λ (l : List ℕ). get_or l p 0) same.before ∙ get_or-take at old p 0 less
outside at n old new p same (inr more) =
    let behind : at + n + (p - (at + n)) ≡ p = omega arith in
    ap (λ (k : ℕ). get_or new k 0) (sym behind)
    ∙ sym (get_or-drop (at + n) new (p - (at + n)) 0)
    ∙ ap (λ (l : List ℕ). get_or l (p - (at + n)) 0) same.after
    ∙ get_or-drop (at + n) old (p - (at + n)) 0
    ∙ ap (λ (k : ℕ). get_or old k 0) behind

-- the bytes that were replaced, put back
pub put_back : (at n : ℕ) (old new : List ℕ) → at + n ≤ length old → SameOutside at n old new
    → put_at new at (window at n old) ≡ old
put_back at n old new within same =
    ap (λ (k : ℕ). take at new ++ window at n old ++ drop (at + k) new) (length-window at n old within)
    ∙ ap (λ (l : List ℕ). l ++ window at n old ++ drop (at + n) new) same.before
    ∙ ap (λ (l : List ℕ). take at old ++ window at n old ++ l) (same.after ∙ sym (drop-drop n at old))
    ∙ append_assoc (take at old) (window at n old) (drop n (drop at old))
    ∙ ap (λ (l : List ℕ). take at old ++ l) (take-append-drop n (drop at old))
    ∙ take-append-drop at old

module _ (at : ℕ) (old bytes : List ℕ) (within : at + length bytes ≤ length old) where
  front : length (take at old) ≡ at
  front = length-take-le at old (omega (arith, within))

  -- bytes that are put into a span leave all else
  pub put_outside : SameOutside at (length bytes) old (put_at old at bytes)
  put_outside = record {
    before = ap (λ (l : List ℕ). take at l) (append_assoc (take at old) bytes (drop (at + length bytes) old))
        ∙ take_at (take at old) (bytes ++ drop (at + length bytes) old) at front;
    after = drop_at (take at old ++ bytes) (drop (at + length bytes) old) (at + length bytes)
        (omega (arith, length-append (take at old) bytes, front));
    size = omega (
      arith,
      within,
      front,
      length-append (take at old) bytes,
      length-append (take at old ++ bytes) (drop (at + length bytes) old),
      length-drop (at + length bytes) old,
    );
  }

  pub put_inside : (p : ℕ) → at ≤ p → p < at + length bytes → get_or (put_at old at bytes) p 0 ≡ get_or bytes (p - at) 0
  put_inside p from to =
      get_or_append_left (take at old ++ bytes) (drop (at + length bytes) old) 0 p
      (omega (arith, to, length-append (take at old) bytes, front))
      ∙ get_or-append_right (take at old) bytes at p 0 front from

pub other_way : (at n : ℕ) (old new : List ℕ) → SameOutside at n old new → SameOutside at n new old
other_way at n old new same = record { before = sym same.before; after = sym same.after; size = sym same.size }

-- a byte of what stood in a span
pub get_or-window : (at n : ℕ) (bytes : List ℕ) (p : ℕ) → at ≤ p → p < at + n
    → get_or (window at n bytes) (p - at) 0 ≡ get_or bytes p 0
get_or-window at n bytes p from to =
    let behind : at + (p - at) ≡ p = omega (arith, from) in
    get_or-take n (drop at bytes) (p - at) 0 (omega (arith, from, to))
    ∙ get_or-drop at bytes (p - at) 0
    ∙ ap (λ (k : ℕ). get_or bytes k 0) behind
