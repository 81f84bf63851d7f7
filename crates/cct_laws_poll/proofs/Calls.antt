-- Calls on a part of which the first ones leave just one image.
use Rattle.std.proofs.Common.{◌≡◌, inl, inr, ℕ, ◌+◌, List, [], ◌∷◌, ◌++◌, length, take, drop, reverse, slice_index_or, Some, None, sym, ap, ◌∙◌, subst, arith}
use Rattle.std.specs.Prelude.{slice_get}
use Rattle.std.proofs.lemmas.Bool.{cases_lt}
use Rattle.std.proofs.lemmas.List.{length-reverse, reverse-append, reverse-reverse, take-append-drop, take_all, take_more}
use Rattle.std.proofs.lemmas.Option.{slice_get-get_or, slice_get_past}
use Rattle.cct_disk.specs.Disk.{put_at}
use Rattle.cct_disk_queue.specs.Calls.{Act, Leaves, Since, Sync, Write, after}
use Rattle.cct_disk_queue.specs.Queue.{now_counts}
use Rattle.cct_disk_queue.proofs.Making.{since_more}

-- what they leave then, the others leave of that
module _ (part base : List ℕ) (settled : List Act) (holds : after part settled ≡ base) where
  pub after_on : (calls : List Act) → after part (calls ++ settled) ≡ after base calls
  after_on [] = holds
  after_on (Write at bytes ∷ calls) = ap (λ b. put_at b at bytes) (after_on calls)
  after_on (Sync ∷ calls) = after_on calls

  pub leaves_on : ((image : List ℕ) → Leaves part settled image → image ≡ base) → (calls : List Act)
      → (image : List ℕ) → Leaves part (calls ++ settled) image → Leaves base calls image
  leaves_on only [] image left = only image left
  leaves_on only (Write at bytes ∷ calls) image (inl is) = inl (is ∙ ap (λ b. put_at b at bytes) (after_on calls))
  leaves_on only (Write at bytes ∷ calls) image (inr (from, left, same)) =
      inr (from, leaves_on only calls from left, same)
  leaves_on only (Sync ∷ calls) image is = is ∙ after_on calls

-- what was left of the first ones was left of all
since_first : (base : List ℕ) (others first : List Act) (image : List ℕ) → Since base first 0 image
    → Since base (others ++ first) 0 image
since_first base [] first image since = since
since_first base (call ∷ others) first image since =
    since_more base call (others ++ first) image (since_first base others first image since)

-- the first so many of those that are noted, newest first
abbrev pub first_of : ℕ → List Act → List Act
first_of many noted = reverse (take many (reverse noted))

pub none_first : (many : ℕ) (noted : List Act) → noted ≡ [] → first_of many noted ≡ []
none_first many noted none =
    ap (λ l. reverse (take many (reverse l))) none ∙ ap reverse (take_all many [] (omega arith))

pub all_first : (many : ℕ) (noted : List Act) → many ≡ length noted → first_of many noted ≡ noted
all_first many noted all =
    ap reverse (take_all many (reverse noted) (omega (arith, all, length-reverse noted))) ∙ reverse-reverse noted

pub some_same : {X : Type 0} (x y : X) → Some x ≡ Some y → x ≡ y
some_same x y is = cc

pub none_some : {X : Type 0} {x : X} → None ≡ Some x → ⊥
none_some e = cc e

-- one more
pub next_first : (many : ℕ) (noted : List Act) (call : Act) → slice_get (reverse noted) many ≡ Some call
    → first_of (many + 1) noted ≡ call ∷ first_of many noted
next_first many noted call is = elim (cases_lt many (length (reverse noted))) [
  | inl within ↦
      let there = some_same _ call (sym (slice_get-get_or (reverse noted) many call within) ∙ is) in
      ap reverse (take_more (reverse noted) many call within)
      ∙ reverse-append (take many (reverse noted)) (slice_index_or (reverse noted) many call ∷ [])
      ∙ ap (λ c. c ∷ first_of many noted) there
  | inr past ↦ absurd (none_some (sym (slice_get_past (reverse noted) many past) ∙ is))
]

-- what the first ones leave was left of all
pub first_since : (base : List ℕ) (many : ℕ) (noted : List Act) (image : List ℕ)
    → Leaves base (first_of many noted) image → Since base noted 0 image
first_since base many noted image left =
    let whole : reverse (drop many (reverse noted)) ++ first_of many noted ≡ noted =
    sym (reverse-append (take many (reverse noted)) (drop many (reverse noted)))
    ∙ ap reverse (take-append-drop many (reverse noted)) ∙ reverse-reverse noted in
    subst (λ l. Since base l 0 image) whole
    (since_first base (reverse (drop many (reverse noted))) (first_of many noted) image
    (now_counts base (first_of many noted) 0 image left))
