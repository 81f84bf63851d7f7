-- What a write leaves of a part of an image.
use Rattle.std.proofs.Common.{◌≡◌, ℕ, ◌+◌, ◌-◌, ◌≤◌, List, ◌++◌, length, take, drop, refl, sym, ◌∙◌, ap}
use Rattle.std.proofs.Common.{arith, length-drop, take-append-drop}
use Rattle.std.proofs.lemmas.List.{drop-drop, drop-take, length-take-le, take-take, take_at}
use Rattle.cct_disk.specs.Disk.{SameOutside, put_at}
use Rattle.cct_disk.proofs.Ranges.{put_outside}
use Rattle.cct_journal.specs.Half.{window}
use Rattle.cct_journal.proofs.Bytes.{put_there, same_before}

-- A part before the range of a write stays: `same_before`. So does one after it.
pub same_behind : (at n : ℕ) (old new : List ℕ) → SameOutside at n old new → (from m : ℕ) → at + n ≤ from
    → window from m new ≡ window from m old
same_behind at n old new same from m behind =
    let place : at + n + (from - (at + n)) ≡ from = omega arith in
    let read : (l : List ℕ) → drop (from - (at + n)) (drop (at + n) l) ≡ drop from l = λ l.
    drop-drop (from - (at + n)) (at + n) l ∙ ap (λ k. drop k l) place in
    ap (λ (l : List ℕ). take m l)
    (sym (read new) ∙ ap (λ (l : List ℕ). drop (from - (at + n)) l) same.after ∙ read old)

-- A part of a part.
pub part_of_part : (l : List ℕ) (from m at n : ℕ) → at + n ≤ m → window at n (window from m l) ≡ window (from + at) n l
part_of_part l from m at n within =
    let all : at + (m - at) ≡ m = omega arith in
    ap (λ k. take n (drop at (take k (drop from l)))) (sym all)
    ∙ ap (λ (x : List ℕ). take n x) (drop-take at (m - at) (drop from l))
    ∙ take-take n (m - at) (drop at (drop from l)) (omega arith)
    ∙ ap (λ (x : List ℕ). take n x) (drop-drop at from l)

-- A part is as long as is said, where there are so many bytes.
pub length_part : (l : List ℕ) (from m : ℕ) → from + m ≤ length l → length (window from m l) ≡ m
length_part l from m within = length-take-le m (drop from l) (omega (arith, length-drop from l))

-- The rest of a part.
pub rest_of_part : (l : List ℕ) (from m at : ℕ) → at ≤ m → drop at (window from m l) ≡ window (from + at) (m - at) l
rest_of_part l from m at within =
    let all : at + (m - at) ≡ m = omega arith in
    ap (λ k. drop at (take k (drop from l))) (sym all)
    ∙ drop-take at (m - at) (drop from l)
    ∙ ap (λ (x : List ℕ). take (m - at) x) (drop-drop at from l)

-- A write within a part is one of that part.
pub same_within : (at n : ℕ) (old new : List ℕ) → SameOutside at n old new → (from m p : ℕ) → at ≡ from + p
    → p + n ≤ m → from + m ≤ length old → SameOutside p n (window from m old) (window from m new)
same_within at n old new same from m p place within long = record {
  before = take-take p m (drop from new) (omega arith) ∙ same_before at n old new same from p (omega (arith, place))
      ∙ sym (take-take p m (drop from old) (omega arith));
  after =
      rest_of_part new from m (p + n) within
      ∙ same_behind at n old new same (from + (p + n)) (m - (p + n)) (omega (arith, place))
      ∙ sym (rest_of_part old from m (p + n) within);
  size = length_part new from m (omega (arith, same.size)) ∙ sym (length_part old from m long);
}

-- Bytes are written at a place, and all else stays.
pub record Written (at : ℕ) (bytes old new : List ℕ) : Type 0 where
  pub same : SameOutside at (length bytes) old new
  pub there : window at (length bytes) new ≡ bytes

-- Bytes that are put are written.
pub put_written : (at : ℕ) (bytes old : List ℕ) → at + length bytes ≤ length old
    → Written at bytes old (put_at old at bytes)
put_written at bytes old fits = record {
  same = put_outside at old bytes fits;
  there = ap (λ (l : List ℕ). take (length bytes) l) (put_there at bytes old fits)
      ∙ take_at bytes (drop (at + length bytes) old) (length bytes) refl;
}

-- Bytes that are written within a part are written in that part.
pub written_within : (at : ℕ) (bytes old new : List ℕ) → Written at bytes old new → (from m p : ℕ) → at ≡ from + p
    → p + length bytes ≤ m → from + m ≤ length old → Written p bytes (window from m old) (window from m new)
written_within at bytes old new w from m p place within long = record {
  same = same_within at (length bytes) old new w.same from m p place within long;
  there = part_of_part new from m p (length bytes) within
      ∙ ap (λ k. window k (length bytes) new) (sym place) ∙ w.there;
}

-- From the place on stand the bytes that are written, and then what stood there.
pub written_there : (at : ℕ) (bytes old new : List ℕ) → Written at bytes old new
    → drop at new ≡ bytes ++ drop (at + length bytes) old
written_there at bytes old new w =
    sym (take-append-drop (length bytes) (drop at new))
    ∙ ap (λ (l : List ℕ). l ++ drop (length bytes) (drop at new)) w.there
    ∙ ap (λ (l : List ℕ). bytes ++ l) (drop-drop (length bytes) at new ∙ w.same.after)
