-- What is noted: the calls of a row of notes, and one more.
use Rattle.std.proofs.lemmas.List.{drop-append-le, length-append, length-drop, map-append, reverse-append, reverse-reverse, take-append-le, take_all, take_more}
use Rattle.std.proofs.lemmas.Option.{slice_get-get_or, slice_get-map, slice_get_past}
use Rattle.std.proofs.Math.Seq.{drop-append_seam}
use Rattle.std.specs.Prelude.{Option, Some, None, slice_get}
use Rattle.std.specs.Option.{option_map}
use Rattle.std.proofs.Common.{◌≡◌, ℕ, suc, zero, ◌+◌, ◌-◌, ◌<◌, ◌≤◌, slice_index_or, take, drop, map, List, [], ◌∷◌, ◌++◌, length, refl, sym, ◌∙◌, ap, subst, arith, reverse}
use Rattle.cct_disk_queue.specs.declared.calls.Note.{Note}
use Rattle.cct_disk_queue.specs.declared.calls.Note.TheVariants as notes
use Rattle.cct_disk_queue.specs.Calls.{Act, AreIn, AreWithin, Sync, Write, after, called}

-- the last of a row, and those before it
last_first : (row : List Note) (d : Note) → 1 ≤ length row
    → reverse row ≡ slice_index_or row (length row - 1) d ∷ reverse (take (length row - 1) row)
last_first row d some =
    let last : Note = slice_index_or row (length row - 1) d in
    let whole : take (length row - 1 + 1) row ≡ row = take_all (length row - 1 + 1) row (omega arith) in
    let parts : row ≡ take (length row - 1) row ++ last ∷ [] =
    sym whole ∙ take_more row (length row - 1) d (omega arith) in
    ap reverse parts ∙ reverse-append (take (length row - 1) row) (last ∷ [])

-- one of a row, and those before it
pub in_first : (many : ℕ) (n : Note) (before : List Note) → AreIn many (n ∷ before) → AreIn many (n ∷ [])
in_first many (notes.Write at from len) before is = (is.0, tt)
in_first many notes.Sync before is = tt

pub in_rest : (many : ℕ) (n : Note) (before : List Note) → AreIn many (n ∷ before) → AreIn many before
in_rest many (notes.Write at from len) before is = is.1
in_rest many notes.Sync before is = is

pub within_first : (size : ℕ) (c : Act) (before : List Act) → AreWithin size (c ∷ before) → AreWithin size (c ∷ [])
within_first size (Write at bytes) before is = (is.0, tt)
within_first size Sync before is = tt

pub within_rest : (size : ℕ) (c : Act) (before : List Act) → AreWithin size (c ∷ before) → AreWithin size before
within_rest size (Write at bytes) before is = is.1
within_rest size Sync before is = is

pub after_one : (base : List ℕ) (c : Act) (before : List Act) → after (after base before) (c ∷ []) ≡ after base (c ∷ before)
after_one base (Write at bytes) before = refl
after_one base Sync before = refl

-- the same of notes and their calls
module _ (kept : List ℕ) (row : List Note) (d : Note) (some : 1 ≤ length row) where
  pub acts_last : map (called kept) (reverse row)
      ≡ called kept (slice_index_or row (length row - 1) d) ∷ map (called kept) (reverse (take (length row - 1) row))
  acts_last = ap (λ (l : List Note). map (called kept) l) (last_first row d some)

  pub in_front : (many : ℕ) → AreIn many (reverse row) → AreIn many (reverse (take (length row - 1) row))
  in_front many are =
      in_rest many (slice_index_or row (length row - 1) d) (reverse (take (length row - 1) row))
      (subst (λ (l : List Note). AreIn many l) (last_first row d some) are)

  pub within_last : (size : ℕ) → AreWithin size (map (called kept) (reverse row))
      → AreWithin size (called kept (slice_index_or row (length row - 1) d) ∷ [])
  within_last size are =
      within_first size (called kept (slice_index_or row (length row - 1) d)) (map (called kept) (reverse (take (length row - 1) row)))
      (subst (λ (l : List Act). AreWithin size l) acts_last are)

  pub within_front : (size : ℕ) → AreWithin size (map (called kept) (reverse row))
      → AreWithin size (map (called kept) (reverse (take (length row - 1) row)))
  within_front size are =
      within_rest size (called kept (slice_index_or row (length row - 1) d)) (map (called kept) (reverse (take (length row - 1) row)))
      (subst (λ (l : List Act). AreWithin size l) acts_last are)

pub in_last : (row : List Note) (d : Note) (many : ℕ) → 1 ≤ length row → AreIn many (reverse row)
    → AreIn many (slice_index_or row (length row - 1) d ∷ [])
in_last row d many some are =
    in_first many (slice_index_or row (length row - 1) d) (reverse (take (length row - 1) row))
    (subst (λ (l : List Note). AreIn many l) (last_first row d some) are)

-- what holds of a row holds of the one at a place
in_back : (many : ℕ) (row : List Note) (x : Note) → AreIn many (row ++ x ∷ []) → AreIn many (x ∷ [])
in_back many [] x are = are
in_back many (notes.Write at from len ∷ row) x are = in_back many row x are.1
in_back many (notes.Sync ∷ row) x are = in_back many row x are

in_but : (many : ℕ) (row : List Note) (x : Note) → AreIn many (row ++ x ∷ []) → AreIn many row
in_but many [] x are = tt
in_but many (notes.Write at from len ∷ row) x are = (are.0, in_but many row x are.1)
in_but many (notes.Sync ∷ row) x are = in_but many row x are

pub in_at : (many : ℕ) (row : List Note) (i : ℕ) (d : Note) → AreIn many (reverse row) → i < length row
    → AreIn many (slice_index_or row i d ∷ [])
in_at many [] i d are within = absurd (omega (arith, within))
in_at many (x ∷ row) zero d are within =
    in_back many (reverse row) x (subst (λ (l : List Note). AreIn many l) (reverse-append (x ∷ []) row) are)
in_at many (x ∷ row) (suc i) d are within =
    in_at many row i d (in_but many (reverse row) x (subst (λ (l : List Note). AreIn many l) (reverse-append (x ∷ []) row) are))
    (omega (arith, within))

-- the calls of a row, oldest first
acts_reverse : (kept : List ℕ) (row : List Note) → map (called kept) (reverse row) ≡ reverse (map (called kept) row)
acts_reverse kept [] = refl
acts_reverse kept (x ∷ row) =
    ap (λ (l : List Note). map (called kept) l) (reverse-append (x ∷ []) row)
    ∙ map-append (called kept) (reverse row) (x ∷ [])
    ∙ ap (λ (l : List Act). l ++ called kept x ∷ []) (acts_reverse kept row)
    ∙ sym (reverse-append (called kept x ∷ []) (map (called kept) row))

acts_at : (kept : List ℕ) (row : List Note) (i : ℕ)
    → slice_get (reverse (map (called kept) (reverse row))) i ≡ option_map (called kept) (slice_get row i)
acts_at kept row i =
    ap (λ (l : List Act). slice_get (reverse l) i) (acts_reverse kept row)
    ∙ ap (λ (l : List Act). slice_get l i) (reverse-reverse (map (called kept) row))
    ∙ slice_get-map (called kept) row i

pub act_at : (kept : List ℕ) (row : List Note) (i : ℕ) (d : Note) (act : Act) → i < length row
    → act ≡ called kept (slice_index_or row i d) → Some act ≡ slice_get (reverse (map (called kept) (reverse row))) i
act_at kept row i d act within same =
    ap (λ (a : Act). Some a) same
    ∙ sym (acts_at kept row i ∙ ap (λ (o : Option Note). option_map (called kept) o) (slice_get-get_or row i d within))

pub no_act_at : (kept : List ℕ) (row : List Note) (i : ℕ) → length row ≤ i
    → None ≡ slice_get (reverse (map (called kept) (reverse row))) i
no_act_at kept row i past =
    sym (acts_at kept row i ∙ ap (λ (o : Option Note). option_map (called kept) o) (slice_get_past row i past))

-- more bytes are kept
cut_more : (kept more : List ℕ) (from len : ℕ) → from + len ≤ length kept
    → take len (drop from (kept ++ more)) ≡ take len (drop from kept)
cut_more kept more from len le =
    ap (λ (l : List ℕ). take len l) (drop-append-le from kept more (omega (arith, le)))
    ∙ take-append-le len (drop from kept) more (omega (arith, le, length-drop from kept))

all_more : (kept more : List ℕ) (ns : List Note) → AreIn (length kept) ns
    → map (called (kept ++ more)) ns ≡ map (called kept) ns
all_more kept more [] are = refl
all_more kept more (notes.Write at from len ∷ ns) are =
    rw (cut_more kept more from len are.0, all_more kept more ns are.1) refl
all_more kept more (notes.Sync ∷ ns) are = ap (λ (l : List Act). Sync ∷ l) (all_more kept more ns are)

in_more : (many more : ℕ) (ns : List Note) → AreIn many ns → AreIn (many + more) ns
in_more many more [] are = tt
in_more many more (notes.Write at from len ∷ ns) are = (omega (arith, are.0), in_more many more ns are.1)
in_more many more (notes.Sync ∷ ns) are = in_more many more ns are

-- one write more is noted
module _ (kept bytes : List ℕ) (ns : List Note) (at : ℕ) (are : AreIn (length kept) (reverse ns)) where
  last : reverse (ns ++ notes.Write at (length kept) (length bytes) ∷ []) ≡ notes.Write at (length kept) (length bytes) ∷ reverse ns
  last = reverse-append ns (notes.Write at (length kept) (length bytes) ∷ [])

  its_bytes : take (length bytes) (drop (length kept) (kept ++ bytes)) ≡ bytes
  its_bytes = ap (λ (l : List ℕ). take (length bytes) l) (drop-append_seam kept bytes) ∙ take_all (length bytes) bytes (omega arith)

  pub noted_is : map (called (kept ++ bytes)) (reverse (ns ++ notes.Write at (length kept) (length bytes) ∷ []))
      ≡ Write at bytes ∷ map (called kept) (reverse ns)
  noted_is = rw (last, its_bytes, all_more kept bytes (reverse ns) are) refl

  pub noted_in : AreIn (length (kept ++ bytes)) (reverse (ns ++ notes.Write at (length kept) (length bytes) ∷ []))
  noted_in =
      subst (λ (l : List Note). AreIn (length (kept ++ bytes)) l) (sym last)
      (omega (arith, length-append kept bytes), subst (λ (n : ℕ). AreIn n (reverse ns)) (sym (length-append kept bytes)) (in_more (length kept) (length bytes) (reverse ns) are))
