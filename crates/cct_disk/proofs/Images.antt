-- One more change on the trace: what it adds to the images.
use Rattle.std.proofs.Common.{◌≡◌, ◌⊎◌, inl, inr, ⊎_elim, ℕ, ◌+◌, ◌-◌, ◌<◌, ◌≤◌, List, ◌∷◌, ◌++◌, length, get_or}
use Rattle.std.proofs.Common.{sym, ◌∙◌, ap, subst, arith, length-append}
use Rattle.std.proofs.lemmas.Bool.{cases_lt}
use Rattle.std.proofs.lemmas.List.{take_at, drop_at}
use Rattle.std.proofs.lemmas.Grind.{same_number_lists}
use Rattle.cct_disk.specs.Disk.{put_at, SameOutside, Follows, Only}
use Rattle.cct_disk.specs.Content.{Content, may_leave, written, ElapsesTo, window, IsSynced, IsImage, IsImageSince}
use Rattle.cct_disk.specs.Content.{bytes_before, replaced_before}
use Rattle.cct_disk.specs.declared.traced.Span.{Span}
use Rattle.cct_disk.specs.declared.traced.Change.{Change}
use Rattle.cct_disk.specs.declared.traced.Change.TheVariants.{Wrote, Settled}
use Rattle.cct_disk.proofs.Ranges.{outside, put_back, put_outside, put_inside, other_way, length-window, get_or-window}

-- where all is settled there is one image
pub settled_only : (past : List Change) (bytes : List ℕ) → Only bytes (IsImage (Settled ∷ past) bytes)
settled_only past bytes image is = same_number_lists image bytes is.size (λ k less. is.same k tt)

module _ (span : Span) (past : List Change) (replaced old new : List ℕ)
    (within : span.at + span.len ≤ length old) (same : SameOutside span.at span.len old new) where
  abbrev pub stood : List ℕ
  stood = window span.at span.len old

  front : length (replaced ++ stood) - span.len ≡ length replaced
  front = omega (arith, length-append replaced stood, length-window span.at span.len old within)

  replaced_is : replaced_before (Wrote span) (replaced ++ stood) ≡ replaced
  replaced_is = take_at replaced stood _ (sym front)

  bytes_are : bytes_before (Wrote span) (replaced ++ stood) new ≡ old
  bytes_are =
      ap (λ (l : List ℕ). put_at new span.at l) (drop_at replaced stood _ (sym front))
      ∙ put_back span.at span.len old new within same

  -- since t a cut might have left what it may leave now, or what it might have left before
  pub wrote_since : (t : ℕ) (image : List ℕ) → IsImageSince (Wrote span ∷ past) (replaced ++ stood) new t image
      → IsImage (Wrote span ∷ past) new image ⊎ IsImageSince past replaced old t image
  wrote_since t image (inl now) = inl now
  wrote_since t image (inr earlier) =
      inr (subst (λ (l : List ℕ). IsImageSince past l old t image) replaced_is
      (subst (λ (l : List ℕ). IsImageSince past (replaced_before (Wrote span) (replaced ++ stood)) l t image)
      bytes_are earlier.1))

  pub wrote_keeps : (t : ℕ) (image : List ℕ) → t ≤ length past → IsImageSince past replaced old t image
      → IsImageSince (Wrote span ∷ past) (replaced ++ stood) new t image
  wrote_keeps t image le since =
      inr (
        le,
        subst (λ (l : List ℕ). IsImageSince past (replaced_before (Wrote span) (replaced ++ stood)) l t image)
            (sym bytes_are)
            (subst (λ (l : List ℕ). IsImageSince past l old t image) (sym replaced_is) since),
      )

  module _ (image : List ℕ) (is : IsImage (Wrote span ∷ past) new image) where
    length-stood : length stood ≡ span.len
    length-stood = length-window span.at span.len old within

    fits : span.at + length stood ≤ length image
    fits = omega (arith, length-stood, within, is.size, same.size)

    abbrev pub image_before : List ℕ
    image_before = put_at image span.at stood

    from_image : SameOutside span.at span.len image image_before
    from_image = subst (λ (n : ℕ). SameOutside span.at n image image_before) length-stood
        (put_outside span.at image stood fits)

    beside : (p : ℕ) → (p < span.at) ⊎ (span.at + span.len ≤ p) → IsSynced past p
        → get_or image_before p 0 ≡ get_or old p 0
    beside p out synced =
        outside span.at span.len image image_before p from_image out ∙ is.same p (out, synced)
        ∙ outside span.at span.len old new p same out

    inside : (p : ℕ) → span.at ≤ p → p < span.at + span.len → get_or image_before p 0 ≡ get_or old p 0
    inside p from to =
        put_inside span.at image stood fits p from (omega (arith, to, length-stood))
        ∙ get_or-window span.at span.len old p from to

    places : (p : ℕ) → IsSynced past p → get_or image_before p 0 ≡ get_or old p 0
    places p synced = ⊎_elim
        (λ less. beside p (inl less) synced)
        (λ from. ⊎_elim (λ to. inside p from to) (λ more. beside p (inr more) synced) (cases_lt p (span.at + span.len)))
        (cases_lt p span.at)

    -- an image after a write is one before it, but for the span
    pub wrote_follows : (d : List ℕ) × IsImage past old d × SameOutside span.at span.len d image
    wrote_follows = (
      image_before,
      record { size = from_image.size ∙ is.size ∙ same.size; same = places },
      other_way span.at span.len image image_before from_image,
    )

module _ (at : ℕ) (bytes : List ℕ) (old : Content) (within : at + length bytes ≤ length old.bytes) where
  abbrev span : Span
  span = record { at = at; len = length bytes }

  beside_it : SameOutside at (length bytes) old.bytes (put_at old.bytes at bytes)
  beside_it = put_outside at old.bytes bytes within

  written_follows : Follows (SameOutside at (length bytes)) (may_leave old) (may_leave (written at bytes old))
  written_follows image is =
      wrote_follows span old.past old.replaced old.bytes (put_at old.bytes at bytes) within beside_it image is

  written_time : ElapsesTo old (written at bytes old)
  written_time = record {
    later = omega arith;
    nothing_else = λ t image le since.
        ⊎_elim (λ is. inr is) (λ earlier. inl earlier)
        (wrote_since span old.past old.replaced old.bytes (put_at old.bytes at bytes) within beside_it
        t image since);
    keeps = λ t image le since.
        wrote_keeps span old.past old.replaced old.bytes (put_at old.bytes at bytes) within beside_it t image le since;
  }

  -- the same where it is known by an equation
  module _ (new : Content) (is : new ≡ written at bytes old) where
    pub new_follows : Follows (SameOutside at (length bytes)) (may_leave old) (may_leave new)
    new_follows = subst (λ (c : Content). Follows (SameOutside at (length bytes)) (may_leave old) (may_leave c)) (sym is)
        written_follows

    pub new_time : ElapsesTo old new
    new_time = subst (λ (c : Content). ElapsesTo old c) (sym is) written_time
