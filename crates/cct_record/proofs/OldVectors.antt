-- Bodies of journals of versions 1 and 2, worked out by hand: an epoch of acceptor 2 with the mask ffff, a reading of it
-- with one coin of place 5 by path 1, the end of the epoch, a broken epoch, and the epoch of a carry.
use Rattle.std.proofs.Common.{◌≡◌, List, [], ◌∷◌, replicate, refl}
use Rattle.cct_model_lines.specs.terms.coin.Coin.{Coin}
use Rattle.cct_model_lines.specs.declared.record.Record.TheVariants.{Epoch, Reading, Broken, EpochEnd}
use Rattle.cct_record.specs.Body.{fields_of}
use Rattle.cct_record.specs.OldBody.{old_body_of, old_fields_of}
use Rattle.cct_record.specs.OldCarryBody.{old_epoch_body}

-- a coin of place 5 by path 1
abbrev one_coin : List Coin
one_coin = record { place = 5; path = 1 } ∷ []

epoch : old_body_of (Epoch 2 65535 0) ≡ 1 ∷ 2 ∷ 255 ∷ 255 ∷ replicate 27 0
unfolding old_body_of old_fields_of
epoch = refl

reading : old_body_of (Reading 2 1 0 0 one_coin) ≡ 2 ∷ 2 ∷ 1 ∷ 0 ∷ 1 ∷ 5 ∷ 1 ∷ replicate 24 0
unfolding old_body_of old_fields_of
reading = refl

lost : old_body_of (Reading 3 254 249 0 []) ≡ 2 ∷ 3 ∷ 254 ∷ 249 ∷ 0 ∷ replicate 26 0
unfolding old_body_of old_fields_of
lost = refl

epoch_end : old_body_of (EpochEnd 2) ≡ 4 ∷ 2 ∷ replicate 29 0
unfolding old_body_of old_fields_of fields_of
epoch_end = refl

broken : old_body_of (Broken 3 65534 4 0 0 one_coin) ≡ 3 ∷ 3 ∷ 4 ∷ 254 ∷ 255 ∷ 1 ∷ 5 ∷ 1 ∷ replicate 23 0
unfolding old_body_of old_fields_of
broken = refl

carried : old_epoch_body (record { addr = 2; mask = 16; counter = 3; accepts = 0 })
    ≡ 12 ∷ 2 ∷ 16 ∷ 0 ∷ 3 ∷ replicate 26 0
unfolding old_epoch_body
carried = refl
