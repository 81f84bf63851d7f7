-- Requests and replies are read back from their data bytes, and what is read is what was written.
use Rattle.std.proofs.Common.{◌≡◌, ◌≢◌, ℕ, ◌/◌, ◌%◌, ◌^◌, ◌<◌, ◌≤◌, ◌++◌, ◌==◌, ◌||◌, not, rules, Bool, true, false, cond, List, [], ◌∷◌, length, slice_index, refl, ap, subst, ◌∙◌, Option, Some, arith}
use Rattle.std.specs.Bool.{⊤}
use Rattle.std.specs.List.{All, flat_map}
use Rattle.std.proofs.lemmas.Bool.{eqb-true}
use Rattle.std.proofs.lemmas.List.Elements.{All-get_or}
use Rattle.cct_model_wire.specs.declared.coin.Pair.{Pair}
use Rattle.cct_model_wire.specs.declared.request.Request.{Request}
use Rattle.cct_model_wire.specs.declared.request.Request.TheVariants.{SetMask, Dispense, CipherDispense, PumpRng, CipherKey}
use Rattle.cct_model_wire.specs.declared.request.ReplyForm.TheVariants as form
use Rattle.cct_model_wire.specs.Request.{from_two, from_three, header_of, data_of, requests_with, open_requests, with_header, request_of}
use Rattle.cct_model_wire.specs.Reply.{credits, coin_id, pair_bytes, reply_in}

-- a number is read back from its two bytes
pub two_back : (n : ℕ) → from_two (n % 256) (n / 256) ≡ n
two_back n = omega arith

-- and from its three
pub three_back : (n : ℕ) → n < 2 ^ 24 → from_three (n % 256) (n / 256 % 256) (n / 65536 % 256) ≡ n
three_back n small = omega arith

-- a request whose serial number fits three bytes is read back from its header and data bytes
pub request_back : (q : Request) → ((serial count : ℕ) → q ≡ Dispense serial count → serial < 2 ^ 24) → request_of (header_of q) (data_of q) ≡ Some q
unfolding request_of requests_with data_of
request_back (SetMask mask) fits = ap (λ n. Some (SetMask n)) (two_back mask)
request_back (Dispense serial count) fits = ap (λ n. Some (Dispense n count)) (three_back serial (fits serial count refl))
request_back q fits = refl

-- a request has at most nine data bytes
pub request_short : (q : Request) → length (data_of q) ≤ 9
unfolding data_of
request_short (Dispense serial count) = omega arith
request_short q = omega arith

header_step : (header : ℕ) (same : Bool) (first q : Request) (rest : Option Request) → (header == header_of first) ≡ same → (rest ≡ Some q → header ≡ header_of q) → cond same (Some first) rest ≡ Some q → header ≡ header_of q
header_step header true first q rest e h found =
    let is : first ≡ q = cc in
    eqb-true _ _ e ∙ ap header_of is
header_step header false first q rest e h found = h found

header_among : (header : ℕ) (qs : List Request) (q : Request) → with_header header qs ≡ Some q → header ≡ header_of q
header_among header [] q found = cc
header_among header (first ∷ qs) q found =
    header_step header (header == header_of first) first q (with_header header qs) refl (header_among header qs q) found

-- what is read as a request has its header
pub request_header : (header : ℕ) (body : List ℕ) (q : Request) → request_of header body ≡ Some q → header ≡ header_of q
unfolding request_of
request_header header body q found = header_among header (open_requests ++ requests_with body) q found

-- a fact of each request of a list
abbrev pub Each : (Request → Type 0) → List Request → Type 0
Each P [] = ⊤
Each P (q ∷ qs) = P q × Each P qs

found_step : (P : Request → Type 0) (same : Bool) (first q : Request) (rest : Option Request) → P first → (rest ≡ Some q → P q) → cond same (Some first) rest ≡ Some q → P q
found_step P true first q rest p h found =
    let is : first ≡ q = cc in
    subst P is p
found_step P false first q rest p h found = h found

-- it is one of them
found_among : (P : Request → Type 0) (header : ℕ) (qs : List Request) (q : Request) → Each P qs → with_header header qs ≡ Some q → P q
found_among P header [] q each found = absurd cc
found_among P header (first ∷ qs) q each found =
    found_step P (header == header_of first) first q (with_header header qs) each.0 (found_among P header qs q each.1) found

-- the data bytes that a request may come with: its own, but any for two of them, and any nine under a cipher
abbrev MayCarry : List ℕ → Request → Type 0
MayCarry body PumpRng = ⊤
MayCarry body CipherKey = ⊤
MayCarry body CipherDispense = length body ≡ 9
MayCarry body q = body ≡ data_of q

-- two bytes are those of their number
pub two_bytes : (first second : ℕ) → first < 256 → second < 256 → first ∷ second ∷ [] ≡ from_two first second % 256 ∷ from_two first second / 256 ∷ []
two_bytes first second a b =
    let low : first ≡ from_two first second % 256 = omega arith in
    let high : second ≡ from_two first second / 256 = omega arith in
    cc

four_bytes : (low middle high count : ℕ) → low < 256 → middle < 256 → high < 256 → low ∷ middle ∷ high ∷ count ∷ [] ≡ from_three low middle high % 256 ∷ from_three low middle high / 256 % 256 ∷ from_three low middle high / 65536 % 256 ∷ count ∷ []
four_bytes low middle high count a b c =
    let first : low ≡ from_three low middle high % 256 = omega arith in
    let second : middle ≡ from_three low middle high / 256 % 256 = omega arith in
    let third : high ≡ from_three low middle high / 65536 % 256 = omega arith in
    cc

-- each of some bytes is below 256
pub byte_at : (body : List ℕ) (i : ℕ) → i < length body → All (λ byte. byte < 256) body → slice_index body i < 256
byte_at body i within bytes = All-get_or (λ byte. byte < 256) body i 0 within bytes

carried_with : (body : List ℕ) → All (λ byte. byte < 256) body → Each (MayCarry body) (requests_with body)
unfolding requests_with data_of
carried_with [] bytes = search rules
carried_with (byte ∷ []) bytes = search rules
carried_with (first ∷ second ∷ []) bytes =
    let body = first ∷ second ∷ [] in
    (two_bytes first second (byte_at body 0 (omega arith) bytes) (byte_at body 1 (omega arith) bytes), (refl, tt))
carried_with (a ∷ b ∷ c ∷ []) bytes = tt
carried_with (low ∷ middle ∷ high ∷ count ∷ []) bytes =
    let body = low ∷ middle ∷ high ∷ count ∷ [] in
    (four_bytes low middle high count (byte_at body 0 (omega arith) bytes) (byte_at body 1 (omega arith) bytes) (byte_at body 2 (omega arith) bytes), tt)
carried_with (a ∷ b ∷ c ∷ d ∷ e ∷ []) bytes = tt
carried_with (a ∷ b ∷ c ∷ d ∷ e ∷ f ∷ []) bytes = tt
carried_with (a ∷ b ∷ c ∷ d ∷ e ∷ f ∷ g ∷ []) bytes = tt
carried_with (a ∷ b ∷ c ∷ d ∷ e ∷ f ∷ g ∷ h ∷ []) bytes = tt
carried_with (a ∷ b ∷ c ∷ d ∷ e ∷ f ∷ g ∷ h ∷ i ∷ []) bytes = (refl, tt)
carried_with (a ∷ b ∷ c ∷ d ∷ e ∷ f ∷ g ∷ h ∷ i ∷ j ∷ rest) bytes = tt

own_data : (body : List ℕ) (q : Request) → MayCarry body q → q ≢ PumpRng → q ≢ CipherKey → q ≢ CipherDispense → body ≡ data_of q
own_data body PumpRng h not_rng not_key not_cipher = absurd (not_rng refl)
own_data body CipherKey h not_rng not_key not_cipher = absurd (not_key refl)
own_data body CipherDispense h not_rng not_key not_cipher = absurd (not_cipher refl)
own_data body q h not_rng not_key not_cipher = h

-- what is read as a request has its data bytes, but for the three that are open or under a cipher
pub request_data : (header : ℕ) (body : List ℕ) (q : Request) → All (λ byte. byte < 256) body → request_of header body ≡ Some q → q ≢ PumpRng → q ≢ CipherKey → q ≢ CipherDispense → body ≡ data_of q
unfolding request_of
request_data header body q bytes found =
    own_data body q (found_among (MayCarry body) header (open_requests ++ requests_with body) q (tt, (tt, carried_with body bytes)) found)

-- nine bytes under a cipher, or any other request
abbrev NineUnderCipher : List ℕ → Request → Type 0
NineUnderCipher body CipherDispense = length body ≡ 9
NineUnderCipher body q = ⊤

nine_with : (body : List ℕ) → Each (NineUnderCipher body) (requests_with body)
unfolding requests_with
nine_with [] = search rules
nine_with (byte ∷ []) = search rules
nine_with (first ∷ second ∷ []) = (tt, (tt, tt))
nine_with (a ∷ b ∷ c ∷ []) = tt
nine_with (a ∷ b ∷ c ∷ d ∷ []) = (tt, tt)
nine_with (a ∷ b ∷ c ∷ d ∷ e ∷ []) = tt
nine_with (a ∷ b ∷ c ∷ d ∷ e ∷ f ∷ []) = tt
nine_with (a ∷ b ∷ c ∷ d ∷ e ∷ f ∷ g ∷ []) = tt
nine_with (a ∷ b ∷ c ∷ d ∷ e ∷ f ∷ g ∷ h ∷ []) = tt
nine_with (a ∷ b ∷ c ∷ d ∷ e ∷ f ∷ g ∷ h ∷ i ∷ []) = (refl, tt)
nine_with (a ∷ b ∷ c ∷ d ∷ e ∷ f ∷ g ∷ h ∷ i ∷ j ∷ rest) = tt

-- a dispense request under a cipher has nine data bytes
pub cipher_nine : (header : ℕ) (body : List ℕ) → request_of header body ≡ Some CipherDispense → length body ≡ 9
unfolding request_of
cipher_nine header body found =
    found_among (NineUnderCipher body) header (open_requests ++ requests_with body) CipherDispense (tt, (tt, nine_with body)) found

-- and any nine are one
pub cipher_any : (body : List ℕ) → length body ≡ 9 → request_of 167 body ≡ Some CipherDispense
unfolding request_of requests_with
cipher_any [] nine = absurd (omega arith)
cipher_any (a ∷ []) nine = absurd (omega arith)
cipher_any (a ∷ b ∷ []) nine = absurd (omega arith)
cipher_any (a ∷ b ∷ c ∷ []) nine = absurd (omega arith)
cipher_any (a ∷ b ∷ c ∷ d ∷ []) nine = absurd (omega arith)
cipher_any (a ∷ b ∷ c ∷ d ∷ e ∷ []) nine = absurd (omega arith)
cipher_any (a ∷ b ∷ c ∷ d ∷ e ∷ f ∷ []) nine = absurd (omega arith)
cipher_any (a ∷ b ∷ c ∷ d ∷ e ∷ f ∷ g ∷ []) nine = absurd (omega arith)
cipher_any (a ∷ b ∷ c ∷ d ∷ e ∷ f ∷ g ∷ h ∷ []) nine = absurd (omega arith)
cipher_any (a ∷ b ∷ c ∷ d ∷ e ∷ f ∷ g ∷ h ∷ i ∷ []) nine = refl
cipher_any (a ∷ b ∷ c ∷ d ∷ e ∷ f ∷ g ∷ h ∷ i ∷ j ∷ rest) nine = absurd (omega arith)

-- the requests that are open come with any data bytes
pub rng_any : (body : List ℕ) → request_of 161 body ≡ Some PumpRng
unfolding request_of
rng_any body = refl

pub key_any : (body : List ℕ) → request_of 160 body ≡ Some CipherKey
unfolding request_of
key_any body = refl

-- a counter and five events are read back from their data bytes
pub credits_back : (n : ℕ) (pairs : List Pair) → length pairs ≡ 5 → reply_in form.Credits (n ∷ flat_map pair_bytes pairs) ≡ Some (credits (record { counter = n; pairs = pairs }))
unfolding reply_in
credits_back n [] five = absurd (omega arith)
credits_back n (a ∷ []) five = absurd (omega arith)
credits_back n (a ∷ b ∷ []) five = absurd (omega arith)
credits_back n (a ∷ b ∷ c ∷ []) five = absurd (omega arith)
credits_back n (a ∷ b ∷ c ∷ d ∷ []) five = absurd (omega arith)
credits_back n (a ∷ b ∷ c ∷ d ∷ e ∷ []) five = refl
credits_back n (a ∷ b ∷ c ∷ d ∷ e ∷ f ∷ rest) five = absurd (omega arith)

-- and the six characters of a coin
pub coin_id_back : (characters : List ℕ) → length characters ≡ 6 → reply_in form.CoinId characters ≡ Some (coin_id characters)
unfolding reply_in
coin_id_back [] six = absurd (omega arith)
coin_id_back (a ∷ []) six = absurd (omega arith)
coin_id_back (a ∷ b ∷ []) six = absurd (omega arith)
coin_id_back (a ∷ b ∷ c ∷ []) six = absurd (omega arith)
coin_id_back (a ∷ b ∷ c ∷ d ∷ []) six = absurd (omega arith)
coin_id_back (a ∷ b ∷ c ∷ d ∷ e ∷ []) six = absurd (omega arith)
coin_id_back (a ∷ b ∷ c ∷ d ∷ e ∷ f ∷ []) six = refl
coin_id_back (a ∷ b ∷ c ∷ d ∷ e ∷ f ∷ g ∷ rest) six = absurd (omega arith)

-- a header under which a job asks once
abbrev pub is_once_header : ℕ → Bool
is_once_header header = (header == 231) || (header == 167) || (header == 154)

-- a request that a job asks again: it has another header than those that are sent once
abbrev pub is_asked_again : Request → Bool
is_asked_again q = not (is_once_header (header_of q))

abbrev pub IsAgain : Request → Type 0
IsAgain q = is_asked_again q ≡ true
