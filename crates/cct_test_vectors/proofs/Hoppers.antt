-- A hopper at address 3 under the simple checksum, whose life count starts at its highest number: each of its states
-- against every request and event, and pieces that are damaged, cut, lengthened or for others, by which nothing is asked
-- of it.
use Rattle.std.proofs.Common.{◌≡◌, ◌+◌, ◌-◌, ◌%◌, ℕ, List, [], ◌∷◌, ◌++◌, length, map, flat_map, replicate, take, drop, true, false, None, refl, slice_index}
use Prim.Native.String.{String}
use Rattle.std.specs.Prelude.{codes}
use Rattle.cct_model.specs.terms.wire.CheckKind.TheVariants.{Simple}
use Rattle.cct_model.specs.terms.device.DeviceBody.TheVariants.{Hopper}
use Rattle.cct_model.specs.terms.device.DeviceSetup.{DeviceSetup}
use Rattle.cct_model.specs.Message.{message, spelling}
use Rattle.cct_model.specs.Request.{request_of, requests_with}
use Rattle.cct_model.specs.Reply.{reply_data}
use Rattle.cct_model.specs.Device.{common_reply, reply_of}
use Rattle.cct_model.specs.Hopper.{hopper_reply}
use Rattle.cct_model.specs.Exchange.{asker, asks_of}
use Rattle.cct_test_vectors.proofs.Played.{Row, hears, fell, jammed, had_reset, all_told, after, bytes_of, texts, wanted}

abbrev payer : DeviceSetup
payer = record { addr = 3; kind = Simple; serial = 197121; texts = texts; named = true; body = Hopper 16777215 100 }

-- from power-up on, until it is to pay
abbrev off_and_idle : List Row
off_and_idle =
    -- After power-up it is off: the register shows so, and that it was not read yet.
    hears "030001a656" "0104030000000000f8"
    ∷ hears "030001a359" "01010300c03b"
    ∷ hears "030001a359" "01010300807b"
    ∷ hears "030001a854" "01030300fffffffc"
    -- Off: it takes no dispense, has nothing to stop, and no coin falls or sticks.
    ∷ hears "030101a40057" "01000300fc"
    ∷ hears "030401a70102030447" "01000305f7"
    ∷ hears "030001ac50" "0101030000fb"
    ∷ fell false
    ∷ jammed false
    ∷ hears "030001a656" "0104030000000000f8"
    -- Idle: no other serial number, and no coin at all.
    ∷ hears "030101a4a5b2" "01000300fc"
    ∷ hears "030101a4a5b2" "01000300fc"
    ∷ hears "030001a359" "0101030000fb"
    ∷ hears "030401a70102040248" "01000305f7"
    ∷ hears "030401a7010203004b" "01000305f7"
    ∷ hears "030001ac50" "0101030000fb"
    ∷ fell false
    ∷ jammed false
    ∷ hears "030001a656" "0104030000000000f8"
    -- Idle, and off again.
    ∷ hears "030101a40057" "01000300fc"
    ∷ hears "030001a359" "01010300807b"
    ∷ hears "030401a7010203014a" "01000305f7"
    ∷ hears "030101a4a5b2" "01000300fc"
    ∷ []

off_and_idle_told : all_told payer [] off_and_idle ≡ map wanted off_and_idle
unfolding message spelling asker asks_of request_of requests_with common_reply reply_of hopper_reply reply_data
off_and_idle_told = refl

-- after that: payouts that end by themselves, by a jam and by a stop
abbrev paying : List Row
paying =
    -- Paying: no further dispense, and enabled it stays paying. The life count goes from its last number to 0.
    hears "030401a70102030348" "01000300fc"
    ∷ hears "030001a656" "0104030001030000f4"
    ∷ hears "030401a70102030348" "01000305f7"
    ∷ hears "030101a4a5b2" "01000300fc"
    ∷ fell true
    ∷ hears "030001a656" "0104030001020100f4"
    ∷ hears "030001a854" "01030300000000f9"
    ∷ fell true
    ∷ fell true
    ∷ hears "030001a656" "0104030001000300f4"
    ∷ hears "030001a854" "01030300020000f7"
    ∷ fell false
    ∷ hears "030001a359" "0101030000fb"
    -- A jam ends the payout: the register shows the timeout until the next one.
    ∷ hears "030401a70102030447" "01000300fc"
    ∷ hears "030001a656" "0104030002040000f2"
    ∷ fell true
    ∷ jammed true
    ∷ hears "030001a656" "0104030002000103f2"
    ∷ hears "030001a359" "0101030002f9"
    ∷ fell false
    ∷ jammed false
    ∷ hears "030401a7010203014a" "01000300fc"
    ∷ hears "030001a359" "0101030000fb"
    ∷ hears "030001a656" "0104030003010000f4"
    ∷ fell true
    ∷ hears "030001a656" "0104030003000100f4"
    ∷ hears "030001a854" "01030300040000f5"
    -- A stop ends it, and the hopper may pay again.
    ∷ hears "030401a70102030546" "01000300fc"
    ∷ fell true
    ∷ hears "030001ac50" "0101030004f7"
    ∷ hears "030001a656" "0104030004000104ef"
    ∷ hears "030001a359" "0101030000fb"
    ∷ hears "030001ac50" "0101030000fb"
    ∷ hears "030001a656" "0104030004000104ef"
    ∷ []

paying_told : all_told payer (after payer [] off_and_idle) paying ≡ map wanted paying
unfolding message spelling asker asks_of request_of requests_with common_reply reply_of hopper_reply reply_data
paying_told = refl

-- after those: payouts that a disable and a reset end, and what every device is asked
abbrev disabled_and_reset : List Row
disabled_and_reset =
    -- Disabled while it pays: what remained is unpaid, and it is off.
    hears "030401a7010203ff4c" "01000300fc"
    ∷ fell true
    ∷ hears "030101a40057" "01000300fc"
    ∷ hears "030001a656" "01040300050001fef4"
    ∷ hears "030001a359" "01010300807b"
    ∷ fell false
    ∷ hears "030401a7010203014a" "01000305f7"
    -- A reset forgets the payout, by request or by itself, but not the life count.
    ∷ hears "030101a4a5b2" "01000300fc"
    ∷ hears "030401a70102030249" "01000300fc"
    ∷ hears "03000101fb" "01000300fc"
    ∷ hears "030001a656" "0104030000000000f8"
    ∷ hears "030001a359" "01010300c03b"
    ∷ fell false
    ∷ hears "030001a854" "01030300060000f3"
    ∷ hears "030101a4a5b2" "01000300fc"
    ∷ hears "030401a70102030249" "01000300fc"
    ∷ fell true
    ∷ had_reset
    ∷ hears "030001a656" "0104030000000000f8"
    ∷ hears "030001a359" "01010300c03b"
    ∷ hears "030401a7010203014a" "01000305f7"
    ∷ jammed false
    ∷ hears "030001a854" "01030300070000f2"
    -- What every device says of itself, and what a hopper refuses or does not know.
    ∷ hears "030001fefe" "01000300fc"
    ∷ hears "030001f507" "010603005061796f757474"
    ∷ hears "030001f606" "010303004d4d4d12"
    ∷ hears "030001f408" "0103030050505009"
    ∷ hears "030001f20a" "01030300010203f3"
    ∷ hears "030001f10b" "0103030053535300"
    ∷ hears "030001c03c" "0103030042424233"
    ∷ hears "03000104f8" "01030300010400f4"
    ∷ hears "000001fd02" "03"
    ∷ hears "030001fdff" ""
    ∷ hears "030901a70000000000000000004c" "01000305f7"
    ∷ hears "030001a15b" "01000305f7"
    ∷ hears "030001a05c" "01000305f7"
    ∷ hears "030001e517" ""
    ∷ hears "030001e616" ""
    ∷ hears "030201e7ffff15" ""
    ∷ hears "030001e11b" ""
    ∷ []

disabled_and_reset_told : all_told payer (after payer (after payer [] off_and_idle) paying) disabled_and_reset ≡ map wanted disabled_and_reset
unfolding message spelling asker asks_of request_of requests_with common_reply reply_of hopper_reply reply_data
disabled_and_reset_told = refl

-- a request of each kind that a hopper answers, and of its address alone
abbrev requests : List String
requests =
    "030001fefe"
    ∷ "030001f606"
    ∷ "030001f507"
    ∷ "030001f408"
    ∷ "030001f20a"
    ∷ "030001f10b"
    ∷ "030001c03c"
    ∷ "03000104f8"
    ∷ "03000101fb"
    ∷ "030101a4a5b2"
    ∷ "030101a40057"
    ∷ "030401a70102030942"
    ∷ "030001a656"
    ∷ "030001a854"
    ∷ "030001ac50"
    ∷ "030001a359"
    ∷ "030001a15b"
    ∷ "030001a05c"
    ∷ []

-- requests with a data byte too many or too few, and polls of all addresses that are cut, lengthened, with another sum,
-- for one device, or with a data byte
abbrev others : List String
others =
    "030101fe00fd"
    ∷ "030101f60005"
    ∷ "030101f50006"
    ∷ "030101f40007"
    ∷ "030101f20009"
    ∷ "030101f1000a"
    ∷ "030101c0003b"
    ∷ "0301010400f7"
    ∷ "0301010100fa"
    ∷ "030201a4a500b1"
    ∷ "030201a4000056"
    ∷ "030501a7010203090041"
    ∷ "030101a60055"
    ∷ "030101a80053"
    ∷ "030101ac004f"
    ∷ "030101a30058"
    ∷ "030001a458"
    ∷ "030301a70102034c"
    ∷ "000001fd"
    ∷ "000001fd0200"
    ∷ "000001fd03"
    ∷ "040001fdfe"
    ∷ "030001fdff"
    ∷ "000101fd0001"
    ∷ []

-- a piece without its last byte, with a further one, with another sum, or with the address and the sum of a message to
-- another device
abbrev cut : List ℕ → List ℕ
cut piece = take (length piece - 1) piece

abbrev sum_of : List ℕ → ℕ
sum_of piece = slice_index piece (length piece - 1)

abbrev with_sum : List ℕ → ℕ → List ℕ
with_sum piece sum = cut piece ++ (sum % 256) ∷ []

abbrev for_device : ℕ → List ℕ → List ℕ
for_device addr piece = addr ∷ drop 1 (with_sum piece (sum_of piece + 3 + 256 - addr))

abbrev damaged : String → List (List ℕ)
damaged text =
    let piece = bytes_of (codes text) in
    cut piece ∷ (piece ++ 0 ∷ []) ∷ with_sum piece (sum_of piece + 1) ∷ for_device 4 piece ∷ for_device 0 piece ∷ []

damaged_ask_nothing : map (asks_of payer) (flat_map damaged requests) ≡ replicate 90 None
unfolding message asks_of request_of requests_with
damaged_ask_nothing = refl

others_ask_nothing : map (λ text. asks_of payer (bytes_of (codes text))) others ≡ replicate 24 None
unfolding message asks_of request_of requests_with
others_ask_nothing = refl
