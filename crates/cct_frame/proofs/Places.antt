-- Whether a piece is a message, given by its length, its second byte and its last.
use Rattle.std.proofs.Common.{◌≡◌, ◌≢◌, ℕ, suc, ◌+◌, ◌-◌, ◌*◌, ◌%◌, ◌==◌, if◌then◌else◌, ◌<◌, ◌≤◌, ◌&&◌, Bool, true, false, List, [], ◌∷◌, length, take, slice_index, slice_range, sum, refl, sym, ap, ◌∙◌, Some, None, arith, cond, eq-eqb}
use Rattle.std.proofs.Math.Seq.{take-length}
use Rattle.std.proofs.lemmas.List.Sums.{sum_by_more}
use Rattle.std.proofs.lemmas.Bool.{ne_eqb}
use Rattle.std.proofs.lemmas.Bool.Decides.{nat_tests}
use Rattle.cct_model_wire.specs.declared.wire.CheckKind.{CheckKind}
use Rattle.cct_model_wire.specs.declared.wire.CheckKind.TheVariants.{Simple, Crc}
use Rattle.cct_model_wire.specs.Message.{message, closing_byte, crc, length_agrees}
use Rattle.cct_frame.specs.declared.reading.FrameFault.{FrameFault}
use Rattle.cct_frame.specs.Frame.{check_fault, crc_in, source_in, under_crc}

-- the last byte is the one that closes the sum exactly where the whole sum is 0 modulo 256
closes : (s last : ℕ) → (256 - s % 256) % 256 ≡ last → (s + last) % 256 ≡ 0
closes s last e = omega arith

closes_only : (s last : ℕ) → last < 256 → (256 - s % 256) % 256 ≢ last → (s + last) % 256 ≢ 0
closes_only s last byte differ = omega arith

sum_split : (p : List ℕ) → 0 < length p → sum p ≡ sum (take (length p - 1) p) + slice_index p (length p - 1)
sum_split p some =
    let whole : take (length p - 1 + 1) p ≡ p = grind (arith, take-length {A = ℕ} p) in
    ap sum (sym whole) ∙ sum_by_more (λ x. x) p (length p - 1) 0 (omega arith)

pub agrees : (said : ℕ) (rest : List ℕ) → said ≤ 255 → length rest ≡ said + 1 → length_agrees said rest ≡ true
agrees said rest small e = grind (arith, nat_tests)

disagrees : (said : ℕ) (rest : List ℕ) → length rest ≢ said + 1 → length_agrees said rest ≡ false
disagrees said rest differ = grind (arith, nat_tests)

pub both : {X : Type 0} (a b : Bool) (x y : X) → a ≡ true → b ≡ true → cond (a && b) x y ≡ x
both a b x y p q = rw (p, q) refl

first_fails : {X : Type 0} (a b : Bool) (x y : X) → a ≡ false → cond (a && b) x y ≡ y
first_fails a b x y p = rw p refl

second_fails : {X : Type 0} (a b : Bool) (x y : X) → b ≡ false → cond (a && b) x y ≡ y
second_fails true b x y p = rw p refl
second_fails false b x y p = refl

-- a piece of fewer than five bytes is no message, under either check
pub none_short : (kind : CheckKind) (p : List ℕ) → length p < 5 → message kind p ≡ None
unfolding message
none_short Simple [] _ = refl
none_short Simple (to ∷ []) _ = refl
none_short Simple (to ∷ said ∷ []) _ = refl
none_short Simple (to ∷ said ∷ from ∷ []) _ = refl
none_short Simple (to ∷ said ∷ from ∷ header ∷ rest) short = first_fails _ _ _ _ (disagrees said rest (λ e. omega arith))
none_short Crc [] _ = refl
none_short Crc (to ∷ []) _ = refl
none_short Crc (to ∷ said ∷ []) _ = refl
none_short Crc (to ∷ said ∷ low ∷ []) _ = refl
none_short Crc (to ∷ said ∷ low ∷ header ∷ rest) short = first_fails _ _ _ _ (disagrees said rest (λ e. omega arith))

-- nor is one whose second byte and five are not its length
pub none_length : (kind : CheckKind) (p : List ℕ) → slice_index p 1 + 5 ≢ length p → message kind p ≡ None
unfolding message
none_length Simple [] _ = refl
none_length Simple (to ∷ []) _ = refl
none_length Simple (to ∷ said ∷ []) _ = refl
none_length Simple (to ∷ said ∷ from ∷ []) _ = refl
none_length Simple (to ∷ said ∷ from ∷ header ∷ rest) differ = first_fails _ _ _ _ (disagrees said rest (λ e. differ (omega arith)))
none_length Crc [] _ = refl
none_length Crc (to ∷ []) _ = refl
none_length Crc (to ∷ said ∷ []) _ = refl
none_length Crc (to ∷ said ∷ low ∷ []) _ = refl
none_length Crc (to ∷ said ∷ low ∷ header ∷ rest) differ = first_fails _ _ _ _ (disagrees said rest (λ e. differ (omega arith)))

too_many : (said : ℕ) (rest : List ℕ) → 256 < length rest → length_agrees said rest ≡ false
too_many said rest long = grind (arith, nat_tests)

-- nor is one of more bytes than the second can say
pub none_many : (kind : CheckKind) (p : List ℕ) → 260 < length p → message kind p ≡ None
unfolding message
none_many Simple [] long = refl
none_many Simple (to ∷ []) long = refl
none_many Simple (to ∷ said ∷ []) long = refl
none_many Simple (to ∷ said ∷ from ∷ []) long = refl
none_many Simple (to ∷ said ∷ from ∷ header ∷ rest) long = first_fails _ _ _ _ (too_many said rest (omega arith))
none_many Crc [] long = refl
none_many Crc (to ∷ []) long = refl
none_many Crc (to ∷ said ∷ []) long = refl
none_many Crc (to ∷ said ∷ low ∷ []) long = refl
none_many Crc (to ∷ said ∷ low ∷ header ∷ rest) long = first_fails _ _ _ _ (too_many said rest (omega arith))

-- what the test of a check shows
faultless : (want got : ℕ) (fault : FrameFault) → (if want == got then None else Some fault) ≡ None → want ≡ got
faultless want got fault e = grind (arith, nat_tests)

faulty : (want got : ℕ) (fault told : FrameFault) → (if want == got then None else Some fault) ≡ Some told → want ≢ got
faulty want got fault told e = grind (arith, nat_tests)

-- nor is one whose last byte does not close the sum of those before it
none_sum : (p : List ℕ) → 5 ≤ length p → slice_index p (length p - 1) < 256 → closing_byte (take (length p - 1) p) ≢ slice_index p (length p - 1) → message Simple p ≡ None
unfolding message
none_sum [] long byte differ = refl
none_sum (to ∷ []) long byte differ = refl
none_sum (to ∷ said ∷ []) long byte differ = refl
none_sum (to ∷ said ∷ from ∷ []) long byte differ = refl
none_sum (to ∷ said ∷ from ∷ header ∷ rest) long byte differ =
    let p = to ∷ said ∷ from ∷ header ∷ rest in
    let unclosed : sum p % 256 ≢ 0 = rw (sum_split p (omega arith)) (closes_only _ _ byte differ) in
    second_fails _ _ _ _ (ne_eqb _ _ unclosed)

-- what the CRC covers, and the CRC carried, by the places of a piece
covers : (to said low header : ℕ) (rest : List ℕ) → length rest ≡ said + 1 → under_crc (to ∷ said ∷ low ∷ header ∷ rest) ≡ to ∷ said ∷ header ∷ take said rest
covers to said low header rest fits =
    let places : length (to ∷ said ∷ low ∷ header ∷ rest) - 1 - 3 ≡ suc said = omega arith in
    ap (λ n. to ∷ said ∷ take n (header ∷ rest)) places

carries : (to said low header : ℕ) (rest : List ℕ) → length rest ≡ said + 1 → crc_in (to ∷ said ∷ low ∷ header ∷ rest) ≡ low + 256 * slice_index rest said
carries to said low header rest fits =
    let last : length (to ∷ said ∷ low ∷ header ∷ rest) - 1 ≡ suc (suc (suc (suc said))) = omega arith in
    ap (λ n. low + 256 * slice_index (to ∷ said ∷ low ∷ header ∷ rest) n) last

-- nor is one that does not carry the CRC of its other bytes
none_crc : (p : List ℕ) → 5 ≤ length p → slice_index p 1 + 5 ≡ length p → crc (under_crc p) ≢ crc_in p → message Crc p ≡ None
unfolding message
none_crc [] long fits differ = refl
none_crc (to ∷ []) long fits differ = refl
none_crc (to ∷ said ∷ []) long fits differ = refl
none_crc (to ∷ said ∷ low ∷ []) long fits differ = refl
none_crc (to ∷ said ∷ low ∷ header ∷ rest) long fits differ =
    let agreed : length rest ≡ said + 1 = omega arith in
    let other : crc (to ∷ said ∷ header ∷ take said rest) ≢ low + 256 * slice_index rest said =
    λ e. differ (ap crc (covers to said low header rest agreed) ∙ e ∙ sym (carries to said low header rest agreed)) in
    second_fails _ _ _ _ (ne_eqb _ _ other)

pub none_check : (kind : CheckKind) (p : List ℕ) (fault : FrameFault) → 5 ≤ length p → slice_index p (length p - 1) < 256 → slice_index p 1 + 5 ≡ length p → check_fault kind p ≡ Some fault → message kind p ≡ None
none_check Simple p fault long byte fits e = none_sum p long byte (faulty _ _ _ fault e)
none_check Crc p fault long byte fits e = none_crc p long fits (faulty _ _ _ fault e)

-- and any other is the message of its bytes
whole_sum : (p : List ℕ) → slice_index p 1 < 256 → 5 ≤ length p → slice_index p 1 + 5 ≡ length p → closing_byte (take (length p - 1) p) ≡ slice_index p (length p - 1)
    → message Simple p ≡ Some (record { to = slice_index p 0; from = Some (slice_index p 2); header = slice_index p 3; body = slice_range p 4 (length p - 1) })
unfolding message
whole_sum [] byte long fits closed = absurd (omega arith)
whole_sum (to ∷ []) byte long fits closed = absurd (omega arith)
whole_sum (to ∷ said ∷ []) byte long fits closed = absurd (omega arith)
whole_sum (to ∷ said ∷ from ∷ []) byte long fits closed = absurd (omega arith)
whole_sum (to ∷ said ∷ from ∷ header ∷ rest) byte long fits closed =
    let p = to ∷ said ∷ from ∷ header ∷ rest in
    let zero_sum : sum p % 256 ≡ 0 = rw (sum_split p (omega arith)) (closes _ _ closed) in
    let said_is : said ≡ length p - 1 - 4 = omega arith in
    let data_is : take said rest ≡ slice_range p 4 (length p - 1) = ap (λ n. take n rest) said_is in
    both _ _ _ _ (agrees said rest (omega arith) (omega arith)) (eq-eqb _ _ zero_sum)
    ∙ ap (λ body. Some (record { to = to; from = Some from; header = header; body = body })) data_is

whole_crc : (p : List ℕ) → slice_index p 1 < 256 → 5 ≤ length p → slice_index p 1 + 5 ≡ length p → crc (under_crc p) ≡ crc_in p
    → message Crc p ≡ Some (record { to = slice_index p 0; from = None; header = slice_index p 3; body = slice_range p 4 (length p - 1) })
unfolding message
whole_crc [] byte long fits same = absurd (omega arith)
whole_crc (to ∷ []) byte long fits same = absurd (omega arith)
whole_crc (to ∷ said ∷ []) byte long fits same = absurd (omega arith)
whole_crc (to ∷ said ∷ low ∷ []) byte long fits same = absurd (omega arith)
whole_crc (to ∷ said ∷ low ∷ header ∷ rest) byte long fits same =
    let p = to ∷ said ∷ low ∷ header ∷ rest in
    let agreed : length rest ≡ said + 1 = omega arith in
    let equal : crc (to ∷ said ∷ header ∷ take said rest) ≡ low + 256 * slice_index rest said =
    sym (ap crc (covers to said low header rest agreed)) ∙ same ∙ carries to said low header rest agreed in
    let said_is : said ≡ length p - 1 - 4 = omega arith in
    let data_is : take said rest ≡ slice_range p 4 (length p - 1) = ap (λ n. take n rest) said_is in
    both _ _ _ _ (agrees said rest (omega arith) agreed) (eq-eqb _ _ equal)
    ∙ ap (λ body. Some (record { to = to; from = None; header = header; body = body })) data_is

pub some_whole : (kind : CheckKind) (p : List ℕ) → slice_index p 1 < 256 → 5 ≤ length p → slice_index p 1 + 5 ≡ length p → check_fault kind p ≡ None
    → message kind p ≡ Some (record { to = slice_index p 0; from = source_in kind p; header = slice_index p 3; body = slice_range p 4 (length p - 1) })
some_whole Simple p byte long fits e = whole_sum p byte long fits (faultless _ _ _ e)
some_whole Crc p byte long fits e = whole_crc p byte long fits (faultless _ _ _ e)
