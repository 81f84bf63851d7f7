-- Bodies of journals of versions 1 and 2 that spelt no record in them, and those of a carry of version 2 that spelt none.
-- What spelt a record is in cct_record.
use Rattle.std.proofs.Common.{◌≡◌, ◌≤◌, [], ◌∷◌, replicate, arith, refl}
use Rattle.cct_model_lines.specs.declared.record.Record.TheVariants.{Epoch, Reading, Broken, Opened, Closed, Odd, Sold}
use Rattle.cct_record.specs.Body.{Spells, body_of, fields_of}
use Rattle.cct_record.specs.Fields.{record_at}
use Rattle.cct_record.specs.OldBody.{IsRefusedOld, old_body_of, old_fields_of}
use Rattle.cct_record.proofs.OldBack.{refused_old}
use Rattle.cct_record.proofs.Spellings.{refused_other, refused_unknown}
use Rattle.cct_test_vectors.proofs.Bodies.{body, coin, five_coins, ones, refuse}

full_reading : old_body_of (Reading 255 254 249 0 five_coins) ≡ body "02fffef9050501081001ffff000202"
unfolding old_body_of old_fields_of
full_reading = refl

-- orders and sales were spelt as they are today
opened : old_body_of (Opened 41 3 4 16777214) ≡ body "05032900000004feffff"
unfolding old_body_of old_fields_of fields_of
opened = refl

closed : old_body_of (Closed 16909060 2 1) ≡ body "06040302010201"
unfolding old_body_of old_fields_of fields_of
closed = refl

odd : old_body_of (Odd 4294967295 16777215 256) ≡ body "07ffffffffffffff000100"
unfolding old_body_of old_fields_of fields_of
odd = refl

sold : old_body_of (Sold 65536 1000000000) ≡ body "080000010000ca9a3b"
unfolding old_body_of old_fields_of fields_of
sold = refl

-- the kinds of a carry, and unknown ones
no_byte : IsRefusedOld (body "")
unfolding record_at
no_byte = refused_old _ (refused_unknown _ refl)

ninth_kind : IsRefusedOld (body "09")
unfolding record_at
ninth_kind = refused_old _ (refused_unknown _ refl)

twelfth_kind : IsRefusedOld (body "0c02010001")
unfolding record_at
twelfth_kind = refused_old _ (refused_unknown _ refl)

all_ones : IsRefusedOld (replicate 31 255)
unfolding record_at
all_ones = refused_old _ (refused_unknown _ refl)

-- six coins
six_coins : IsRefusedOld (body "0202060106010101010101010101010101")
unfolding record_at body_of fields_of
six_coins = refused_old _ (refuse _ (Reading 2 6 1 0 (ones 5)) refl refl refl)

six_coins_of_a_break : IsRefusedOld (body "030206000006010101010101010101010101")
unfolding record_at body_of fields_of
six_coins_of_a_break = refused_old _ (refuse _ (Broken 2 0 6 0 0 (ones 5)) refl refl refl)

-- the place of the first coin is 0, or that of the second
no_place : IsRefusedOld (body "02020100010001")
unfolding record_at
no_place =
    refused_old _
    (refused_other _ (Reading 2 1 0 0 (coin 0 1 ∷ [])) refl
    (λ (spells : Spells _ _). let low : 1 ≤ 0 = spells.in_range.4.placed 0 (coin 0 1) (omega arith) in omega (arith, low)))

no_second_place : IsRefusedOld (body "03020100000201010001")
unfolding record_at
no_second_place =
    refused_old _
    (refused_other _ (Broken 2 0 1 0 0 (coin 1 1 ∷ coin 0 1 ∷ [])) refl
    (λ (spells : Spells _ _). let low : 1 ≤ 0 = spells.in_range.5.placed 1 (coin 0 1) (omega arith) in omega (arith, low)))

-- today's body of an epoch whose accept counter is 1
of_today : IsRefusedOld (body "0102ffff01")
unfolding record_at body_of fields_of
of_today = refused_old _ (refuse _ (Epoch 2 65535 0) refl refl refl)
