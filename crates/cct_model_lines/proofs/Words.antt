-- The addresses that the words of a set have.
use Rattle.std.proofs.Common.{◌≡◌, ◌≢◌, ℕ, suc, zero, ◌+◌, ◌-◌, ◌*◌, ◌/◌, ◌%◌, ◌^◌, ◌<◌, ◌==◌, ◌&&◌, ◌||◌, not, inl, inr, Bool, true, false, cond, List, [], ◌∷◌, ◌++◌, length, set, get_or, refl, sym, ap, ◌∙◌, arith, eq-eqb, ne_eqb}
use Rattle.std.specs.Prelude.{Some, None, find, flat_map, replicate}
use Rattle.std.specs.Int.{bit_at, bit_not, trailing_zeros, w64}
use Rattle.std.specs.Int.RustNames.{bit_and, bit_or}
use Rattle.std.proofs.lemmas.Bool.{cases_eq, cases_lt}
use Rattle.std.proofs.lemmas.List.{length-append, length-set, get_or_append_left, get_or-append-add, get_or-set_same, get_or-set_other}
use Rattle.std.proofs.lemmas.Nat.Bits.{bit_at_lowest, bit_at-suc, bit_at-zero, bit_at_set_same, bit_at_set_other, bit_at_clear_same, bit_at_clear_other, bit_at-trailing_zeros}
use Rattle.cct_model_lines.specs.declared.device_set.DeviceSet.{DeviceSet}
use Rattle.cct_model_lines.specs.DeviceSet.{addresses_below, has}
use Rattle.cct_model_lines.specs.Members.{AreWords, bits_of, set_in}
use Rattle.cct_model_lines.proofs.Sets.{first_found, none_more}

-- Whether words have an address: it is a bit of its word.
abbrev pub has_bit : List ℕ → ℕ → Bool
has_bit words addr = bit_at (get_or words (addr / 64) 0) (addr % 64) == 1

length_bits : (count number : ℕ) → length (bits_of count number) ≡ count
length_bits zero number = refl
length_bits (suc count) number = ap suc (length_bits count (number / 2))

bit_there : (count number i : ℕ) → i < count → get_or (bits_of count number) i false ≡ (bit_at number i == 1)
bit_there zero number i within = absurd (omega arith)
bit_there (suc count) number zero within = ap (λ bit. bit == 1) (sym (bit_at_lowest number))
bit_there (suc count) number (suc i) within = bit_there count (number / 2) i (omega arith) ∙ ap (λ bit. bit == 1) (sym (bit_at-suc number i))

-- a set shows as many addresses as its words have bits
pub all_told : (words : List ℕ) → length (set_in words).members ≡ length words * 64
unfolding set_in
all_told [] = refl
all_told (word ∷ words) = length-append (bits_of 64 word) (flat_map (bits_of 64) words) ∙ omega (arith, length_bits 64 word, all_told words)

-- a word more, and the addresses that it adds
has_more : (word : ℕ) (words : List ℕ) (bits more : List Bool) (addr : ℕ) → length bits ≡ 64 → (addr < 64 → get_or bits addr false ≡ (bit_at word addr == 1))
    → ((a : ℕ) → get_or more a false ≡ has_bit words a) → get_or (bits ++ more) addr false ≡ has_bit (word ∷ words) addr
has_more word words bits more addr long here there =
    elim (cases_lt addr 64) [
      | inl within ↦
          let first : addr / 64 ≡ 0 = omega arith in
          let place : addr % 64 ≡ addr = omega arith in
          get_or_append_left bits more false addr (omega arith) ∙ here within ∙ rw (first, place) refl
      | inr from ↦
          let a = addr - 64 in
          let behind : addr ≡ length bits + a = omega arith in
          let next : addr / 64 ≡ suc (a / 64) = omega arith in
          let place : addr % 64 ≡ a % 64 = omega arith in
          ap (λ i. get_or (bits ++ more) i false) behind ∙ get_or-append-add bits more a false ∙ there a ∙ rw (next, place) refl
    ]

-- a set has what its words have
pub has_is : (words : List ℕ) (addr : ℕ) → get_or (set_in words).members addr false ≡ has_bit words addr
unfolding set_in
has_is [] addr = rw (bit_at-zero (addr % 64)) refl
has_is (word ∷ words) addr =
    has_more word words (bits_of 64 word) (flat_map (bits_of 64) words) addr (length_bits 64 word) (bit_there 64 word addr) (has_is words)

-- a bit that one word says otherwise

bit_changed : (words : List ℕ) (addr other word : ℕ) → addr / 64 < length words → other / 64 ≡ addr / 64 → has_bit (set words (addr / 64) word) other ≡ (bit_at word (other % 64) == 1)
bit_changed words addr other word within same = ap (λ w. bit_at w (other % 64) == 1) (ap (λ i. get_or (set words (addr / 64) word) i 0) same ∙ get_or-set_same words (addr / 64) word 0 within)

bit_kept : (words : List ℕ) (addr other word : ℕ) → other / 64 ≢ addr / 64 → has_bit (set words (addr / 64) word) other ≡ has_bit words other
bit_kept words addr other word apart = ap (λ w. bit_at w (other % 64) == 1) (get_or-set_other words (addr / 64) (other / 64) word 0 apart)

-- what words have after one of them was changed: at an address as said, and else as before
changed : (words : List ℕ) (addr other word : ℕ) (b : Bool) → length words ≡ 4 → addr < 256 → (bit_at word (addr % 64) == 1) ≡ b
    → ((i : ℕ) → i < 64 → i ≢ addr % 64 → bit_at word i ≡ bit_at (get_or words (addr / 64) 0) i)
    → has_bit (set words (addr / 64) word) other ≡ cond (other == addr) b (has_bit words other)
changed words addr other word b four within here there =
    elim (cases_eq other addr) [
      | inl same ↦
          rw (eq-eqb _ _ same)
          (bit_changed words addr other word (omega arith) (ap (λ a. a / 64) same) ∙ ap (λ a. bit_at word (a % 64) == 1) same ∙ here)
      | inr apart ↦
          rw (ne_eqb _ _ apart)
          (elim (cases_eq (other / 64) (addr / 64)) [
            | inl one ↦
                bit_changed words addr other word (omega arith) one ∙ ap (λ bit. bit == 1) (there (other % 64) (omega arith) (λ e. apart (omega (arith, e, one))))
                ∙ ap (λ n. bit_at (get_or words n 0) (other % 64) == 1) (sym one)
            | inr two ↦ bit_kept words addr other word two
          ])
    ]

as_or : (here there : Bool) → cond here true there ≡ (here || there)
as_or true there = refl
as_or false there = refl

as_and : (here there : Bool) → cond here false there ≡ (not here && there)
as_and true there = refl
as_and false there = refl

-- what words have after the bit of an address was set
pub set_is : (words : List ℕ) (addr other : ℕ) → length words ≡ 4 → addr < 256
    → has_bit (set words (addr / 64) (bit_or (get_or words (addr / 64) 0) (1 * 2 ^ (addr % 64) % 2 ^ 64))) other ≡ ((other == addr) || has_bit words other)
set_is words addr other four within =
    let word = get_or words (addr / 64) 0 in
    let place = addr % 64 in
    let low : place < 64 = omega arith in
    changed words addr other (bit_or word (1 * 2 ^ place % 2 ^ 64)) true four within (ap (λ bit. bit == 1) (bit_at_set_same w64 word place low))
    (λ i below apart. bit_at_set_other w64 word place low i apart)
    ∙ as_or (other == addr) (has_bit words other)

-- what words have after the bit of an address was cleared
pub cleared_is : (words : List ℕ) (addr other : ℕ) → length words ≡ 4 → addr < 256
    → has_bit (set words (addr / 64) (bit_and (get_or words (addr / 64) 0) (bit_not w64 (1 * 2 ^ (addr % 64) % 2 ^ 64)))) other ≡ (not (other == addr) && has_bit words other)
cleared_is words addr other four within =
    let word = get_or words (addr / 64) 0 in
    let place = addr % 64 in
    let low : place < 64 = omega arith in
    changed words addr other (bit_and word (bit_not w64 (1 * 2 ^ place % 2 ^ 64))) false four within (ap (λ bit. bit == 1) (bit_at_clear_same w64 word place low))
    (λ i below apart. bit_at_clear_other w64 word place low i below apart)
    ∙ as_and (other == addr) (has_bit words other)

-- a set that words keep has what they have
pub told_by : (words : List ℕ) (set : DeviceSet) (addr : ℕ) → set_in words ≡ set → has set addr ≡ has_bit words addr
told_by words set addr is = ap (λ s. has s addr) (sym is) ∙ has_is words addr

zero_at : (count i : ℕ) → get_or (replicate count zero) i zero ≡ zero
zero_at zero i = refl
zero_at (suc count) zero = refl
zero_at (suc count) (suc i) = zero_at count i

-- words of zeros have no address
pub none_set : (count addr : ℕ) → has_bit (replicate count zero) addr ≡ false
none_set count addr = rw (zero_at count (addr / 64), bit_at-zero (addr % 64)) refl

set_fits : (words : List ℕ) (n word i : ℕ) → word < 2 ^ 64 → ((i : ℕ) → get_or words i 0 < 2 ^ 64) → get_or (set words n word) i 0 < 2 ^ 64
set_fits [] n word i fits all = all i
set_fits (w ∷ words) zero word zero fits all = fits
set_fits (w ∷ words) zero word (suc i) fits all = all (suc i)
set_fits (w ∷ words) (suc n) word zero fits all = all 0
set_fits (w ∷ words) (suc n) word (suc i) fits all = set_fits words n word i fits (λ k. all (suc k))

-- four words stay so
pub still_words : (words : List ℕ) (n word : ℕ) → AreWords words → word < 2 ^ 64 → AreWords (set words n word)
still_words words n word are fits = record {
  four = length-set words n word ∙ are.four;
  fit = λ i. set_fits words n word i fits are.fit;
}

-- and they hold all addresses
pub still_told : (words : List ℕ) (n word : ℕ) → AreWords words → length (set_in (set words n word)).members ≡ 256
still_told words n word are = all_told (set words n word) ∙ omega (arith, length-set words n word, are.four)

-- the least address of a set: none is below the first word that isn't 0, and its lowest bit shows it

none_in : (words : List ℕ) (addr : ℕ) → get_or words (addr / 64) 0 ≡ 0 → has_bit words addr ≡ false
none_in words addr zeros = rw (zeros, bit_at-zero (addr % 64)) refl

-- where a word is 0, its addresses aren't in the set
pub none_here : (words : List ℕ) (set : DeviceSet) (n : ℕ) → set_in words ≡ set → get_or words n 0 ≡ 0
    → find (has set) (addresses_below (n * 64)) ≡ None → find (has set) (addresses_below ((n + 1) * 64)) ≡ None
none_here words set n is zeros before =
    none_more (has set) (n * 64) ((n + 1) * 64) before
    (λ a from below.
    let here : a / 64 ≡ n = omega arith in
    told_by words set a is ∙ none_in words a (ap (λ i. get_or words i 0) here ∙ zeros)) (omega arith)

-- where a word isn't 0, its lowest bit is the least address
pub least_here : (words : List ℕ) (set : DeviceSet) (n : ℕ) → set_in words ≡ set → AreWords words → n < 4 → get_or words n 0 ≢ 0
    → find (has set) (addresses_below (n * 64)) ≡ None → find (has set) (addresses_below 256) ≡ Some (n * 64 + trailing_zeros w64 (get_or words n 0))
least_here words set n is are within some before =
    let word = get_or words n 0 in
    let place = trailing_zeros w64 word in
    let least = bit_at-trailing_zeros w64 word (omega (arith, some)) (are.fit n) in
    let low : place < 64 = least.0 in
    first_found (has set) (n * 64 + place) 256
    (none_more (has set) (n * 64) (n * 64 + place) before
    (λ a from below.
    let here : a / 64 ≡ n = omega arith in
    let at : a % 64 < place = omega arith in
    told_by words set a is ∙ ap (λ i. bit_at (get_or words i 0) (a % 64) == 1) here ∙ ap (λ bit. bit == 1) (least.2 (a % 64) at)) (omega arith))
    (let here : (n * 64 + place) / 64 ≡ n = omega arith in
    let at : (n * 64 + place) % 64 ≡ place = omega arith in
    told_by words set (n * 64 + place) is ∙ ap (λ i. bit_at (get_or words i 0) ((n * 64 + place) % 64) == 1) here ∙ ap (λ i. bit_at word i == 1) at ∙ ap (λ bit. bit == 1) least.1)
    (omega arith)
