-- The bodies of records, by hand, and bodies that spell no record.
use Rattle.std.proofs.Common.{◌≡◌, ℕ, ◌-◌, ◌&&◌, ◌==◌, ◌≤◌, Bool, true, false, List, [], ◌∷◌, ◌++◌, length, replicate, Some, ap, arith, refl}
use Prim.Native.String.{String}
use Rattle.std.specs.Prelude.{codes}
use Rattle.cct_model_lines.specs.terms.coin.Coin.{Coin}
use Rattle.cct_model_lines.specs.declared.record.Record.{Record}
use Rattle.cct_model_lines.specs.declared.record.Record.TheVariants.{Epoch, Reading, Broken, EpochEnd, Opened, Closed, Odd, Sold}
use Rattle.cct_record.specs.Body.{IsRefused, Spells, body_of, fields_of}
use Rattle.cct_record.specs.Fields.{record_at}
use Rattle.cct_record.proofs.Spellings.{refused_other, refused_unknown}
use Rattle.cct_test_vectors.proofs.Played.{bytes_of}

-- a body that begins with the bytes of which these are the digits, and goes on with 0
abbrev pub body : String → List ℕ
body digits = let bytes = bytes_of (codes digits) in bytes ++ replicate (31 - length bytes) 0

abbrev pub coin : ℕ → ℕ → Coin
coin place path = record { place = place; path = path }

abbrev pub five_coins : List Coin
five_coins = coin 5 1 ∷ coin 8 16 ∷ coin 1 255 ∷ coin 255 0 ∷ coin 2 2 ∷ []

-- two lists of bytes are the same
abbrev pub are_same : List ℕ → List ℕ → Bool
are_same [] [] = true
are_same (byte ∷ bytes) (other ∷ others) = (byte == other) && are_same bytes others
are_same bytes others = false

-- the records of an epoch
epoch : body_of (Epoch 2 32773 197121) ≡ body "01020580010203"
unfolding body_of fields_of
epoch = refl

reading : body_of (Reading 2 1 0 1 (coin 5 1 ∷ [])) ≡ body "020201000000010000010501"
unfolding body_of fields_of
reading = refl

full_reading : body_of (Reading 255 254 16777215 16777210 five_coins) ≡ body "02fffefffffffaffff050501081001ffff000202"
unfolding body_of fields_of
full_reading = refl

broken : body_of (Broken 3 65534 0 258 65536 (coin 16 8 ∷ [])) ≡ body "030300feff020100000001011008"
unfolding body_of fields_of
broken = refl

epoch_end : body_of (EpochEnd 9) ≡ body "0409"
unfolding body_of fields_of
epoch_end = refl

-- and those of an order
opened : body_of (Opened 41 3 4 16777214) ≡ body "05032900000004feffff"
unfolding body_of fields_of
opened = refl

closed : body_of (Closed 16909060 2 1) ≡ body "06040302010201"
unfolding body_of fields_of
closed = refl

odd : body_of (Odd 4294967295 16777215 256) ≡ body "07ffffffffffffff000100"
unfolding body_of fields_of
odd = refl

sold : body_of (Sold 65536 1000000000) ≡ body "080000010000ca9a3b"
unfolding body_of fields_of
sold = refl

-- a body isn't that of the record whose fields stand in it
pub refuse : (bytes : List ℕ) (at : Record) → record_at bytes ≡ Some at → are_same (body_of at) bytes ≡ false
    → are_same bytes bytes ≡ true → IsRefused bytes
refuse bytes at is differs itself =
    refused_other bytes at is
    (λ (spells : Spells at bytes). let same = ap (λ b. are_same b bytes) spells.spelt in absurd cc)

-- no kind has these numbers
no_byte : IsRefused (body "")
unfolding record_at
no_byte = refused_unknown _ refl

ninth_kind : IsRefused (body "0902")
unfolding record_at
ninth_kind = refused_unknown _ refl

all_ones : IsRefused (replicate 31 255)
unfolding record_at
all_ones = refused_unknown _ refl

-- a byte after the fields
after_an_epoch : IsRefused (body "0102010000000001")
unfolding record_at body_of fields_of
after_an_epoch = refuse _ (Epoch 2 1 0) refl refl refl

after_no_coin : IsRefused (body "020201000000010000000501")
unfolding record_at body_of fields_of
after_no_coin = refuse _ (Reading 2 1 0 1 []) refl refl refl

after_an_end : IsRefused (4 ∷ 9 ∷ (replicate 28 0 ++ 1 ∷ []))
unfolding record_at body_of fields_of
after_an_end = refuse _ (EpochEnd 9) refl refl refl

after_a_sale : IsRefused (body "08010000000100000001")
unfolding record_at body_of fields_of
after_a_sale = refuse _ (Sold 1 1) refl refl refl

-- six coins
abbrev pub ones : ℕ → List Coin
ones count = replicate count (coin 1 1)

six_coins : IsRefused (body "02020600000006000006010101010101010101010101")
unfolding record_at body_of fields_of
six_coins = refuse _ (Reading 2 6 0 6 (ones 5)) refl refl refl

-- the place of the first coin is 0, or that of the second
no_place : IsRefused (body "020201000000010000010001")
unfolding record_at
no_place =
    refused_other _ (Reading 2 1 0 1 (coin 0 1 ∷ [])) refl
    (λ (spells : Spells _ _). let low : 1 ≤ 0 = spells.in_range.4.placed 0 (coin 0 1) (omega arith) in omega (arith, low))

no_second_place : IsRefused (body "0302010000000000020000020101")
unfolding record_at
no_second_place =
    refused_other _ (Broken 2 0 1 0 2 (coin 1 1 ∷ coin 0 0 ∷ [])) refl
    (λ (spells : Spells _ _). let low : 1 ≤ 0 = spells.in_range.5.placed 1 (coin 0 0) (omega arith) in omega (arith, low))
