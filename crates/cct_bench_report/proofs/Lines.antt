-- The lines of records, and their sums, one record after another.
use Rattle.std.proofs.Common.{◌≡◌, ℕ, suc, ◌+◌, List, [], ◌∷◌, ◌++◌, length, Some, refl, sym, ◌∙◌, ap, arith}
use Rattle.std.proofs.Common.{append_assoc}
use Rattle.std.specs.List.{slice_get}
use Rattle.cct_model_lines.specs.declared.record.Record.{Record}
use Rattle.cct_model_lines.specs.declared.entry.Entry.{Entry}
use Rattle.cct_model_lines.specs.declared.entry.Entry.TheVariants.{Listing}
use Rattle.cct_bench_report.specs.declared.sums.Sums.{Sums}
use Rattle.cct_bench_report.specs.Sums.{sums_over, with_record}
use Rattle.cct_bench_report.specs.Listing.{listed, listing_from, total_over}

listing_append : (n : ℕ) (xs ys : List Record)
    → listing_from n (xs ++ ys) ≡ listing_from n xs ++ listing_from (n + length xs) ys
listing_append n [] ys =
    let here : n ≡ n + 0 = omega arith in
    ap (λ k. listing_from k ys) here
listing_append n (x ∷ xs) ys =
    let later : suc n + length xs ≡ n + suc (length xs) = omega arith in
    ap (λ l. Listing n x ∷ l)
    (listing_append (suc n) xs ys ∙ ap (λ k. listing_from (suc n) xs ++ listing_from k ys) later)

-- the lines of records and of one more
pub listing_more : (base index : ℕ) (read : List Record) (entry : Record) → index ≡ base + length read
    → listing_from base (read ++ entry ∷ []) ≡ listing_from base read ++ Listing index entry ∷ []
listing_more base index read entry count =
    listing_append base read (entry ∷ []) ∙ ap (λ k. listing_from base read ++ Listing k entry ∷ []) (sym count)

-- the lines of the first records are the first of a listing
pub listed_front : (base : ℕ) (sums : Sums) (first later : List Record)
    → (more : List Entry) × (listed base sums (first ++ later) ≡ listing_from base first ++ more)
listed_front base sums first later =
    let total = total_over sums (first ++ later) ∷ [] in
    let others = listing_from (base + length first) later in (
      others ++ total,
      ap (λ l. l ++ total) (listing_append base first later)
          ∙ append_assoc (listing_from base first) others total,
    )

-- the sums over records and one more
pub sums_more : (sums : Sums) (read : List Record) (entry : Record)
    → with_record entry (sums_over sums read) ≡ sums_over sums (read ++ entry ∷ [])
sums_more sums [] entry = refl
sums_more sums (r ∷ read) entry = sums_more (with_record r sums) read entry

-- the record after the first ones is that of their number
pub after_first : (first later : List Record) (entry : Record)
    → slice_get (first ++ later) (length first) ≡ Some entry
    → (rest : List Record) × (later ≡ entry ∷ rest)
after_first [] [] entry is = absurd cc
after_first [] (r ∷ rest) entry is = (rest, cc)
after_first (r ∷ first) later entry is = after_first first later entry is
