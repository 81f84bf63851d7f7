-- A torn write is a write of other bytes: those that its choice makes of what stood there and what was to be written.
use Rattle.std.proofs.Common.{◌≡◌, ◌⊎◌, inl, inr, ⊎_elim, ℕ, ◌+◌, ◌-◌, ◌<◌, ◌≤◌, List, [], ◌∷◌, ◌++◌, length, get_or}
use Rattle.std.proofs.Common.{suc, zero, refl, sym, ◌∙◌, ap, subst, arith}
use Rattle.std.proofs.lemmas.Bool.{cases_lt}
use Rattle.std.proofs.lemmas.Grind.{same_number_lists}
use Rattle.cct_disk.specs.Disk.{put_at, SameOutside, Follows}
use Rattle.cct_disk.specs.Content.{Content, may_leave, ElapsesTo, window, written, torn_bytes, written_torn, cut_byte}
use Rattle.cct_disk.specs.declared.traced.Change.TheVariants.{Wrote}
use Rattle.cct_disk.proofs.Images.{new_follows, new_time}
use Rattle.cct_disk.proofs.Ranges.{outside, put_outside, put_inside, length-window}

pub length-torn : (choice place : ℕ) (olds news : List ℕ) → length olds ≡ length news
    → length (torn_bytes choice place olds news) ≡ length news
length-torn choice place [] [] same = refl
length-torn choice place [] (new ∷ news) same = absurd (omega (arith, same))
length-torn choice place (old ∷ olds) [] same = absurd (omega (arith, same))
length-torn choice place (old ∷ olds) (new ∷ news) same =
    omega (arith, length-torn choice (place + 1) olds news (omega (arith, same)))

get_or-torn : (choice place : ℕ) (olds news : List ℕ) (i : ℕ) → length olds ≡ length news → i < length news
    → get_or (torn_bytes choice place olds news) i 0 ≡ cut_byte choice (place + i) (get_or olds i 0) (get_or news i 0)
get_or-torn choice place olds [] i same less = absurd (omega (arith, less))
get_or-torn choice place [] (new ∷ news) i same less = absurd (omega (arith, same))
get_or-torn choice place (old ∷ olds) (new ∷ news) zero same less =
    ap (λ (p : ℕ). cut_byte choice p old new) (omega arith)
get_or-torn choice place (old ∷ olds) (new ∷ news) (suc i) same less =
    get_or-torn choice (place + 1) olds news i (omega (arith, same)) (omega (arith, less))
    ∙ ap (λ (p : ℕ). cut_byte choice p (get_or olds i 0) (get_or news i 0)) (omega arith)

module _ (choice at : ℕ) (bytes : List ℕ) (old : Content) (within : at + length bytes ≤ length old.bytes) where
  abbrev stood : List ℕ
  stood = window at (length bytes) old.bytes

  abbrev torn : List ℕ
  torn = torn_bytes choice at stood bytes

  length-stood : length stood ≡ length bytes
  length-stood = length-window at (length bytes) old.bytes within

  length-tear : length torn ≡ length bytes
  length-tear = length-torn choice at stood bytes length-stood

  tear_within : at + length torn ≤ length old.bytes
  tear_within = omega (arith, within, length-tear)

  pub tear_outside : SameOutside at (length bytes) old.bytes (put_at old.bytes at torn)
  tear_outside = subst (λ (n : ℕ). SameOutside at n old.bytes (put_at old.bytes at torn)) length-tear
      (put_outside at old.bytes torn tear_within)

  -- what may be left after a torn write, and since before it
  module _ (new : Content) (is : new ≡ written_torn choice at bytes old) where
    pub torn_follows : Follows (SameOutside at (length bytes)) (may_leave old) (may_leave new)
    torn_follows = subst (λ (n : ℕ). Follows (SameOutside at n) (may_leave old) (may_leave new)) length-tear
        (new_follows at torn old tear_within new is)

    pub torn_time : ElapsesTo old new
    torn_time = new_time at torn old tear_within new is

  -- Bytes were written, and then each place of the range was set by the choice.
  module _ (written_so : Content) (so : written_so ≡ written at bytes old)
      (replaced now : List ℕ) (stood_so : replaced ≡ stood)
      (beside : SameOutside at (length replaced) written_so.bytes now)
      (set : (i : ℕ) → i < length replaced → get_or now (at + i) 0
      ≡ cut_byte choice (at + i) (get_or replaced i 0) (get_or written_so.bytes (at + i) 0)) where
    length-replaced : length replaced ≡ length bytes
    length-replaced = ap length stood_so ∙ length-stood

    beside_range : SameOutside at (length bytes) (put_at old.bytes at bytes) now
    beside_range = subst (λ (n : ℕ). SameOutside at n (put_at old.bytes at bytes) now) length-replaced
        (subst (λ (c : Content). SameOutside at (length replaced) c.bytes now) so beside)

    set_so : (i : ℕ) → i < length bytes → get_or now (at + i) 0
        ≡ cut_byte choice (at + i) (get_or stood i 0) (get_or (put_at old.bytes at bytes) (at + i) 0)
    set_so i less =
        set i (omega (arith, less, length-replaced))
        ∙ ap (λ (l : List ℕ). cut_byte choice (at + i) (get_or l i 0) (get_or written_so.bytes (at + i) 0)) stood_so
        ∙ ap (λ (c : Content). cut_byte choice (at + i) (get_or stood i 0) (get_or c.bytes (at + i) 0)) so

    beside_it : (p : ℕ) → (p < at) ⊎ (at + length bytes ≤ p) → get_or now p 0 ≡ get_or (put_at old.bytes at torn) p 0
    beside_it p out =
        outside at (length bytes) (put_at old.bytes at bytes) now p beside_range out
        ∙ outside at (length bytes) old.bytes (put_at old.bytes at bytes) p (put_outside at old.bytes bytes within) out
        ∙ sym (outside at (length bytes) old.bytes (put_at old.bytes at torn) p tear_outside out)

    inside_it : (p : ℕ) → at ≤ p → p < at + length bytes → get_or now p 0 ≡ get_or (put_at old.bytes at torn) p 0
    inside_it p from to =
        let i = p - at in
        let less : i < length bytes = omega (arith, from, to) in
        let back : at + i ≡ p = omega (arith, from) in
        ap (λ (k : ℕ). get_or now k 0) (sym back)
        ∙ set_so i less
        ∙ ap (λ (k : ℕ). cut_byte choice (at + i) (get_or stood i 0) (get_or (put_at old.bytes at bytes) k 0)) back
        ∙ ap (λ (b : ℕ). cut_byte choice (at + i) (get_or stood i 0) b) (put_inside at old.bytes bytes within p from to)
        ∙ sym (get_or-torn choice at stood bytes i length-stood less)
        ∙ sym (put_inside at old.bytes torn tear_within p from (omega (arith, to, length-tear)))

    places : (p : ℕ) → get_or now p 0 ≡ get_or (put_at old.bytes at torn) p 0
    places p = ⊎_elim
        (λ less. beside_it p (inl less))
        (λ from. ⊎_elim (λ to. inside_it p from to) (λ more. beside_it p (inr more)) (cases_lt p (at + length bytes)))
        (cases_lt p at)

    torn_is : now ≡ put_at old.bytes at torn
    torn_is = same_number_lists now (put_at old.bytes at torn)
        (beside_range.size ∙ (put_outside at old.bytes bytes within).size ∙ sym tear_outside.size)
        (λ p less. places p)

    pub tears : record written_so { bytes = now } ≡ written_torn choice at bytes old
    tears =
        ap (λ (c : Content). record c { bytes = now }) so
        ∙ ap (λ (l : List ℕ). record (written at bytes old) { bytes = l }) torn_is
        ∙ ap (λ (n : ℕ). record {
          bytes = put_at old.bytes at torn;
          past = Wrote (record { at = at; len = n }) ∷ old.past;
          replaced = old.replaced ++ window at n old.bytes;
        }) (sym length-tear)
