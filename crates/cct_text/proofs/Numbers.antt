-- Numbers in decimal, digit by digit.
use Rattle.std.proofs.Common.{◌≡◌, ℕ, zero, suc, ◌+◌, ◌*◌, ◌/◌, ◌%◌, ◌^◌, ◌<◌, ◌≤◌, nat_lt, cond, Bool, true, false, List, [], ◌∷◌, ◌++◌, decimal, refl, ap, subst, ◌∙◌, arith}
use Rattle.std.specs.Str.Parse.{digits_value, digits_value_after}
use Rattle.std.specs.Char.{digit_value}
use Rattle.std.proofs.lemmas.Bool.Decides.{nat_tests}
use Rattle.std.proofs.lemmas.Fmt.{decimal_digit, decimal_step}
use Rattle.std.proofs.lemmas.Str.{digit_value_digit}
use Rattle.cct_model_lines.specs.Text.{last_digits, number_text}

-- what holds of a number of one digit, and with each digit more
abbrev HoldsOfDigit : (ℕ → List ℕ → Type 0) → Type 0
HoldsOfDigit P = (n : ℕ) → n < 10 → P n ((48 + n) ∷ [])

abbrev HoldsOfMore : (ℕ → List ℕ → Type 0) → Type 0
HoldsOfMore P = (n : ℕ) (digits : List ℕ) → 10 ≤ n → P (n / 10) digits → P n (digits ++ (48 + n % 10) ∷ [])

digits_by_test : (P : ℕ → List ℕ → Type 0) (most n : ℕ) (small : Bool) → HoldsOfDigit P → HoldsOfMore P →
    nat_lt n 10 ≡ small → (10 ≤ n → P (n / 10) (last_digits most (n / 10))) →
    P n (cond small ((48 + n) ∷ []) (last_digits most (n / 10) ++ (48 + n % 10) ∷ []))
digits_by_test P most n true one more test front = one n (grind (arith, nat_tests))
digits_by_test P most n false one more test front =
    let large : 10 ≤ n = grind (arith, nat_tests) in
    more n (last_digits most (n / 10)) large (front large)

digits_by_steps : (P : ℕ → List ℕ → Type 0) (most n : ℕ) → HoldsOfDigit P → HoldsOfMore P → n < 10 ^ suc most →
    P n (last_digits most n)
digits_by_steps P zero n one more fits =
    let same : n ≡ n % 10 = omega (arith, fits) in
    subst (λ digit. P n ((48 + digit) ∷ [])) same (one n (omega (arith, fits)))
digits_by_steps P (suc most) n one more fits =
    digits_by_test P most n (nat_lt n 10) one more refl
    (λ large. digits_by_steps P most (n / 10) one more (omega (arith, fits)))

-- a number has no more digits
room_for : (rest : ℕ) → 10 ^ 64 * suc rest ≤ 10 ^ (rest + 64)
room_for zero = omega arith
room_for (suc rest) =
    let next : suc (rest + 64) ≡ suc rest + 64 = omega arith in
    let room = room_for rest in
    let more : 10 ^ 64 * suc (suc rest) ≤ 10 ^ suc (rest + 64) = omega (arith, room) in
    subst (λ k. 10 ^ 64 * suc (suc rest) ≤ 10 ^ k) next more

digits_fit : (n : ℕ) → n < 10 ^ suc (n / 10 ^ 64 + 63)
digits_fit n =
    let room = room_for (n / 10 ^ 64) in
    let same : n / 10 ^ 64 + 64 ≡ suc (n / 10 ^ 64 + 63) = omega arith in
    let within : n < 10 ^ (n / 10 ^ 64 + 64) = omega (arith, room) in
    subst (λ k. n < 10 ^ k) same within

-- holds of every number and its text
pub number_by_steps : (P : ℕ → List ℕ → Type 0) → HoldsOfDigit P → HoldsOfMore P → (n : ℕ) → P n (number_text n)
unfolding number_text
number_by_steps P one more n = digits_by_steps P (n / 10 ^ 64 + 63) n one more (digits_fit n)

-- up to 64 bits that is what the library writes
pub decimal_is : (n : ℕ) → n < 2 ^ 64 → decimal n ≡ number_text n
decimal_is n fits =
    number_by_steps (λ n digits. n < 2 ^ 64 → decimal n ≡ digits) (λ n small _. decimal_digit n small)
    (λ n digits large front few.
    decimal_step n large few ∙ ap (λ ds. ds ++ (48 + n % 10) ∷ []) (front (omega (arith, few))))
    n fits

-- and it is read as the number
value_more : (before : ℕ) (digits : List ℕ) (byte : ℕ) →
    digits_value_after 10 before (digits ++ byte ∷ []) ≡ digits_value_after 10 before digits * 10 + digit_value byte
value_more before [] byte = refl
value_more before (digit ∷ digits) byte = value_more (before * 10 + digit_value digit) digits byte

value_of_digit : (digit : ℕ) → digit < 10 → digit_value (48 + digit) ≡ digit
value_of_digit digit small =
    let is : digit_value (48 + digit) + 48 ≡ 48 + digit = digit_value_digit (48 + digit) (omega arith, omega arith) in
    omega (arith, is)

value_last : (n front : ℕ) → front ≡ n / 10 → front * 10 + digit_value (48 + n % 10) ≡ n
value_last n front is =
    let last : digit_value (48 + n % 10) ≡ n % 10 = value_of_digit (n % 10) (omega arith) in
    omega (arith, is, last)

pub number_back : (n : ℕ) → digits_value 10 (number_text n) ≡ n
number_back n =
    number_by_steps (λ n digits. digits_value 10 digits ≡ n)
    (λ n small. let is : digit_value (48 + n) ≡ n = value_of_digit n small in omega (arith, is))
    (λ n digits large front. value_more 0 digits (48 + n % 10) ∙ value_last n (digits_value 10 digits) front) n
