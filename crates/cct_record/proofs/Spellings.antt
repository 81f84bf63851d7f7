-- What is at the places of the fields of a body is the record that it spells.
use Rattle.std.proofs.Common.{◌≡◌, ℕ, ◌^◌, ◌<◌, ◌≤◌, List, [], ◌∷◌, length, refl, ◌∙◌, ap, subst, Some, None, arith}
use Rattle.std.proofs.lemmas.Nat.{from_le_bytes-to_le_bytes_2, from_le_bytes-to_le_bytes_4}
use Rattle.cct_model_lines.specs.terms.coin.Coin.{Coin}
use Rattle.cct_model_lines.specs.declared.record.Record.{Record}
use Rattle.cct_model_lines.specs.declared.record.Record.TheVariants.{Epoch, Reading, Broken, EpochEnd, Opened, Closed, Odd}
use Rattle.cct_model_lines.specs.declared.record.Record.TheVariants.{Sold}
use Rattle.cct_model_lines.proofs.Requests.{three_back}
use Rattle.cct_record.specs.Body.{Encodable, InRange, IsRefused, Spells, body_of, fields_of}
use Rattle.cct_record.specs.Fields.{record_at}

-- A reading with so few coins is read back.
reading_back : (addr counter lost accepts : ℕ) (posted : List Coin) → length posted ≤ 5 → lost < 2 ^ 24 → accepts < 2 ^ 24
    → record_at (body_of (Reading addr counter lost accepts posted)) ≡ Some (Reading addr counter lost accepts posted)
unfolding body_of fields_of record_at
reading_back addr counter lost accepts [] few many total =
    λ i. Some (Reading addr counter (three_back lost many i) (three_back accepts total i) [])
reading_back addr counter lost accepts (c1 ∷ []) few many total =
    λ i. Some (Reading addr counter (three_back lost many i) (three_back accepts total i) (c1 ∷ []))
reading_back addr counter lost accepts (c1 ∷ c2 ∷ []) few many total =
    λ i. Some (Reading addr counter (three_back lost many i) (three_back accepts total i) (c1 ∷ c2 ∷ []))
reading_back addr counter lost accepts (c1 ∷ c2 ∷ c3 ∷ []) few many total =
    λ i. Some (Reading addr counter (three_back lost many i) (three_back accepts total i) (c1 ∷ c2 ∷ c3 ∷ []))
reading_back addr counter lost accepts (c1 ∷ c2 ∷ c3 ∷ c4 ∷ []) few many total =
    λ i. Some (Reading addr counter (three_back lost many i) (three_back accepts total i) (c1 ∷ c2 ∷ c3 ∷ c4 ∷ []))
reading_back addr counter lost accepts (c1 ∷ c2 ∷ c3 ∷ c4 ∷ c5 ∷ []) few many total =
    λ i. Some (Reading addr counter (three_back lost many i) (three_back accepts total i) (c1 ∷ c2 ∷ c3 ∷ c4 ∷ c5 ∷ []))
reading_back addr counter lost accepts (c1 ∷ c2 ∷ c3 ∷ c4 ∷ c5 ∷ c6 ∷ more) few many total = absurd (omega arith)

-- And so is a broken epoch.
broken_back : (addr mask_seen counter lost accepts : ℕ) (posted : List Coin) → length posted ≤ 5 → mask_seen < 2 ^ 16
    → lost < 2 ^ 24 → accepts < 2 ^ 24 → record_at (body_of (Broken addr mask_seen counter lost accepts posted))
    ≡ Some (Broken addr mask_seen counter lost accepts posted)
unfolding body_of fields_of record_at
broken_back addr mask counter lost accepts [] few fits many total =
    λ i. Some (Broken addr (from_le_bytes-to_le_bytes_2 mask fits i) counter (three_back lost many i)
    (three_back accepts total i) [])
broken_back addr mask counter lost accepts (c1 ∷ []) few fits many total =
    λ i. Some (Broken addr (from_le_bytes-to_le_bytes_2 mask fits i) counter (three_back lost many i)
    (three_back accepts total i) (c1 ∷ []))
broken_back addr mask counter lost accepts (c1 ∷ c2 ∷ []) few fits many total =
    λ i. Some (Broken addr (from_le_bytes-to_le_bytes_2 mask fits i) counter (three_back lost many i)
    (three_back accepts total i) (c1 ∷ c2 ∷ []))
broken_back addr mask counter lost accepts (c1 ∷ c2 ∷ c3 ∷ []) few fits many total =
    λ i. Some (Broken addr (from_le_bytes-to_le_bytes_2 mask fits i) counter (three_back lost many i)
    (three_back accepts total i) (c1 ∷ c2 ∷ c3 ∷ []))
broken_back addr mask counter lost accepts (c1 ∷ c2 ∷ c3 ∷ c4 ∷ []) few fits many total =
    λ i. Some (Broken addr (from_le_bytes-to_le_bytes_2 mask fits i) counter (three_back lost many i)
    (three_back accepts total i) (c1 ∷ c2 ∷ c3 ∷ c4 ∷ []))
broken_back addr mask counter lost accepts (c1 ∷ c2 ∷ c3 ∷ c4 ∷ c5 ∷ []) few fits many total =
    λ i. Some (Broken addr (from_le_bytes-to_le_bytes_2 mask fits i) counter (three_back lost many i)
    (three_back accepts total i) (c1 ∷ c2 ∷ c3 ∷ c4 ∷ c5 ∷ []))
broken_back addr mask counter lost accepts (c1 ∷ c2 ∷ c3 ∷ c4 ∷ c5 ∷ c6 ∷ more) few fits many total = absurd (omega arith)

-- Each record is read back from its body.
pub read_back : (r : Record) → InRange r → record_at (body_of r) ≡ Some r
unfolding body_of fields_of record_at
read_back (Epoch addr mask accepts) fits =
    λ i. Some (Epoch addr (from_le_bytes-to_le_bytes_2 mask fits.1 i) (three_back accepts fits.2 i))
read_back (Reading addr counter lost accepts posted) fits =
    reading_back addr counter lost accepts posted fits.4.few fits.2 fits.3
read_back (Broken addr mask_seen counter lost accepts posted) fits =
    broken_back addr mask_seen counter lost accepts posted fits.5.few fits.1 fits.3 fits.4
read_back (EpochEnd addr) fits = refl
read_back (Opened id addr count life) fits =
    λ i. Some (Opened (from_le_bytes-to_le_bytes_4 id fits.0 i) addr count (three_back life fits.3 i))
read_back (Closed id paid unpaid) fits = ap (λ n. Some (Closed n paid unpaid)) (from_le_bytes-to_le_bytes_4 id fits.0)
read_back (Odd id life_before life_after) fits =
    λ i. Some (Odd (from_le_bytes-to_le_bytes_4 id fits.0 i) (three_back life_before fits.1 i)
    (three_back life_after fits.2 i))
read_back (Sold id price) fits =
    λ i. Some (Sold (from_le_bytes-to_le_bytes_4 id fits.0 i) (from_le_bytes-to_le_bytes_4 price fits.1 i))

-- A body in which no known kind stands spells nothing.
pub refused_unknown : (body : List ℕ) → record_at body ≡ None → IsRefused body
refused_unknown body unknown = record {
  none = λ r fits spelt.
      let back = read_back r fits in
      let found : record_at (body_of r) ≡ None = ap record_at spelt ∙ unknown in
      cc;
}

-- Nor does one that doesn't spell what is in it.
pub refused_other : (body : List ℕ) (at : Record) → record_at body ≡ Some at → (Spells at body → ⊥) → IsRefused body
refused_other body at is not_spelt = record {
  none = λ r fits spelt.
      let back = read_back r fits in
      let found : record_at (body_of r) ≡ Some at = ap record_at spelt ∙ is in
      let same : r ≡ at = cc in
      not_spelt (subst (λ x. Spells x body) same (record { in_range = fits; spelt = spelt }));
}

-- Only what can be spelt is in range.
pub encodable : (r : Record) → InRange r → Encodable r
encodable (Epoch addr mask accepts) fits = fits.2
encodable (Reading addr counter lost accepts posted) fits = (fits.2, fits.3, fits.4.placed)
encodable (Broken addr mask_seen counter lost accepts posted) fits = (fits.3, fits.4, fits.5.placed)
encodable (EpochEnd addr) fits = tt
encodable (Opened id addr count life) fits = fits.3
encodable (Closed id paid unpaid) fits = tt
encodable (Odd id life_before life_after) fits = (fits.1, fits.2)
encodable (Sold id price) fits = tt

-- No two records have one body.
pub one_spelling : (x y : Record) → InRange x → InRange y → body_of x ≡ body_of y → x ≡ y
one_spelling x y fits_x fits_y same =
    let first = read_back x fits_x in
    let second = read_back y fits_y in
    let both : record_at (body_of x) ≡ record_at (body_of y) = ap record_at same in
    cc
