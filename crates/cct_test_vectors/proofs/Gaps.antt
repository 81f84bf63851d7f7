-- What an acceptor and a hopper at address 7 say to the bytes between two gaps, which may be no message, or more than
-- one.
use Rattle.std.proofs.Common.{◌≡◌, List, [], ◌∷◌, map, replicate, true, None, refl}
use Rattle.std.specs.Prelude.{codes}
use Rattle.cct_model.specs.terms.wire.CheckKind.TheVariants.{Simple}
use Rattle.cct_model.specs.terms.device.DeviceBody.{DeviceBody}
use Rattle.cct_model.specs.terms.device.DeviceBody.TheVariants.{Acceptor, Hopper}
use Rattle.cct_model.specs.terms.device.DeviceSetup.{DeviceSetup}
use Rattle.cct_model.specs.Message.{message, spelling}
use Rattle.cct_model.specs.Request.{request_of, requests_with}
use Rattle.cct_model.specs.Reply.{reply_data}
use Rattle.cct_model.specs.Device.{common_reply, reply_of}
use Rattle.cct_model.specs.Acceptor.{acceptor_reply}
use Rattle.cct_model.specs.Hopper.{hopper_reply}
use Rattle.cct_model.specs.Exchange.{answer, asker, asks_of}
use Rattle.cct_test_vectors.proofs.Played.{Row, hears, all_told, texts, wanted}

abbrev seventh : DeviceBody → DeviceSetup
seventh body = record { addr = 7; kind = Simple; serial = 197121; texts = texts; named = true; body = body }

abbrev taker : DeviceSetup
taker = seventh (Acceptor 3 (replicate 16 100) (replicate 16 (codes "EU100A")))

abbrev payer : DeviceSetup
payer = seventh (Hopper 3 100)

abbrev rows : List Row
rows =
    hears "070001fefa" "01000700f8"
    -- two polls without a gap between, and a gap within one
    ∷ hears "070001fefa070001fefa" ""
    ∷ hears "070001fefa" "01000700f8"
    ∷ hears "070001" ""
    ∷ hears "fefa" ""
    ∷ hears "070001fefa" "01000700f8"
    -- the address poll to all, a poll to all, and no byte
    ∷ hears "000001fd02" "07"
    ∷ hears "000001fe01" ""
    ∷ hears "" ""
    ∷ hears "070001fefa" "01000700f8"
    ∷ []

taker_told : all_told taker [] rows ≡ map wanted rows
unfolding message spelling asker asks_of request_of requests_with common_reply reply_of acceptor_reply reply_data
taker_told = refl

payer_told : all_told payer [] rows ≡ map wanted rows
unfolding message spelling asker asks_of request_of requests_with common_reply reply_of hopper_reply reply_data
payer_told = refl

-- more bytes than a message has, for another device and for this one
too_many : map (answer taker []) (replicate 261 85 ∷ replicate 261 7 ∷ []) ≡ None ∷ None ∷ []
unfolding message asks_of
too_many = refl
