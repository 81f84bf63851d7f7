-- A bill acceptor at address 4 under the simple checksum, whose accept count starts at its highest number: what happens to
-- it and what it is asked, one after the other, with what it is to say.
use Rattle.std.proofs.Common.{◌≡◌, ℕ, zero, suc, ◌+◌, ◌-◌, ◌%◌, List, [], ◌∷◌, map, replicate, true, false, Option, Some, refl}
use Rattle.std.specs.Prelude.{codes}
use Rattle.cct_model.specs.terms.wire.CheckKind.TheVariants.{Simple}
use Rattle.cct_model.specs.terms.device.DeviceBody.TheVariants.{Bill}
use Rattle.cct_model.specs.terms.device.DeviceSetup.{DeviceSetup}
use Rattle.cct_model.specs.Message.{message, spelling}
use Rattle.cct_model.specs.Request.{request_of, requests_with}
use Rattle.cct_model.specs.Reply.{reply_data}
use Rattle.cct_model.specs.Setting.{has_place}
use Rattle.cct_model.specs.History.{Met, heard}
use Rattle.cct_model.specs.Bill.{bill_held, bill_reply}
use Rattle.cct_model.specs.Device.{common_reply, reply_of}
use Rattle.cct_model.specs.Exchange.{answer, asker, asks_of}
use Rattle.cct_test_vectors.proofs.Played.{Row, hears, put_in, had_reset, after, all_told, bytes_of, texts, wanted}

abbrev banker : DeviceSetup
banker = record {
  addr = 4;
  kind = Simple;
  serial = 9;
  texts = texts;
  named = true;
  body = Bill 16777215 (replicate 16 500) (replicate 16 (codes "XX500A"));
}

-- from power-up on: what the inhibits let in, and that one bill is held at most
abbrev inhibits : List Row
inhibits =
    -- Every place is inhibited, in normal operation, and no bill is held that could be routed.
    hears "040001e615" "010204000000f9"
    ∷ hears "040001e318" "0101040001f9"
    ∷ put_in 1 false
    ∷ hears "0400019f5c" "010b04000100020000000000000000ed"
    ∷ hears "0401019a015f" "01000405f6"
    ∷ hears "0401019a0060" "01000405f6"
    ∷ hears "0400019f5c" "010b04000100020000000000000000ed"
    ∷ hears "040001e11a" "01030400fffffffb"
    -- Places 1 and 4: a bill is held, and no other one beside it.
    ∷ hears "040201e7090009" "01000400fb"
    ∷ hears "040001e615" "010204000900f0"
    ∷ put_in 2 false
    ∷ put_in 1 true
    ∷ hears "0400019f5c" "010b04000301010002000200000000e7"
    ∷ put_in 4 false
    ∷ hears "0400019f5c" "010b04000400020101000200020000e4"
    ∷ hears "040001e11a" "01030400fffffffb"
    -- All is inhibited by the master and by the mask: the bill that is held is stacked all the same, and counted.
    ∷ hears "040101e40016" "01000400fb"
    ∷ hears "040001e318" "0101040000fa"
    ∷ hears "040201e7000012" "01000400fb"
    ∷ hears "0401019a015f" "01000400fb"
    ∷ hears "0400019f5c" "010b04000501000002010100020002e2"
    ∷ hears "040001e11a" "01030400000000f8"
    -- One master bit lets all in again, whatever the others are.
    ∷ hears "040201e7010011" "01000400fb"
    ∷ put_in 1 false
    ∷ hears "040101e4fe18" "01000400fb"
    ∷ put_in 1 false
    ∷ hears "040101e48195" "01000400fb"
    ∷ put_in 1 true
    ∷ hears "0400019f5c" "010b04000801010002000201000002df"
    ∷ hears "0401019a015f" "01000400fb"
    ∷ hears "040001e11a" "01030400010000f7"
    ∷ hears "0401019a015f" "01000405f6"
    ∷ hears "040001e11a" "01030400010000f7"
    ∷ []

inhibits_told : all_told banker [] inhibits ≡ map wanted inhibits
unfolding message spelling asker asks_of request_of requests_with common_reply reply_of bill_reply reply_data has_place
inhibits_told = refl

-- the sixth event puts the first one out of the buffer
abbrev events : List Row
events =
    hears "040201e7ffff14" "01000400fb"
    ∷ put_in 1 true
    ∷ hears "0401019a0060" "01000400fb"
    ∷ hears "0400019f5c" "010b04000200010101000000000000eb"
    ∷ put_in 2 true
    ∷ hears "0401019a015f" "01000400fb"
    ∷ put_in 3 true
    ∷ hears "0400019f5c" "010b04000503010200020100010101df"
    ∷ hears "0401019a015f" "01000400fb"
    ∷ hears "0400019f5c" "010b04000603000301020002010001dd"
    ∷ put_in 16 true
    ∷ hears "0401019a0060" "01000400fb"
    ∷ hears "0400019f5c" "010b04000800011001030003010200cd"
    ∷ hears "040001e11a" "01030400010000f7"
    ∷ []

events_told : all_told banker [] events ≡ map wanted events
unfolding message spelling asker asks_of request_of requests_with common_reply reply_of bill_reply reply_data has_place
events_told = refl

-- a bill that is held is given back by a reset of either kind, which is no event; the accept count stays
abbrev resets : List Row
resets =
    hears "040201e7ffff14" "01000400fb"
    ∷ hears "040101e40016" "01000400fb"
    ∷ hears "040101e40115" "01000400fb"
    ∷ put_in 7 true
    ∷ hears "0401019a015f" "01000400fb"
    ∷ put_in 7 true
    ∷ hears "0400019f5c" "010b04000307010700070100000000d6"
    ∷ had_reset
    ∷ hears "0400019f5c" "010b04000000000000000000000000f0"
    ∷ hears "0401019a015f" "01000405f6"
    ∷ hears "0401019a0060" "01000405f6"
    ∷ hears "0400019f5c" "010b04000000000000000000000000f0"
    ∷ hears "040001e11a" "01030400000000f8"
    ∷ hears "040001e615" "010204000000f9"
    ∷ hears "040001e318" "0101040001f9"
    ∷ put_in 7 false
    ∷ hears "0400019f5c" "010b04000100020000000000000000ed"
    ∷ hears "040201e74000d2" "01000400fb"
    ∷ put_in 7 true
    ∷ hears "040101e40016" "01000400fb"
    ∷ hears "04000101fa" "01000400fb"
    ∷ hears "0400019f5c" "010b04000000000000000000000000f0"
    ∷ hears "0401019a015f" "01000405f6"
    ∷ hears "0401019a0060" "01000405f6"
    ∷ hears "040001e11a" "01030400000000f8"
    ∷ hears "040001e318" "0101040001f9"
    ∷ put_in 7 false
    -- No bill is held, so that another one can be.
    ∷ hears "040201e74000d2" "01000400fb"
    ∷ put_in 7 true
    ∷ hears "0401019a015f" "01000400fb"
    ∷ hears "040001e11a" "01030400010000f7"
    ∷ hears "0400019f5c" "010b04000307000701000200000000dc"
    ∷ []

resets_told : all_told banker [] resets ≡ map wanted resets
unfolding message spelling asker asks_of request_of requests_with common_reply reply_of bill_reply reply_data has_place
resets_told = refl

-- what it says of itself; what only other devices know, and requests to route with another number
-- of bytes, to all or to another device: it is silent, and holds its bill still
abbrev others : List Row
others =
    hears "040201e7008092" "01000400fb"
    ∷ put_in 16 true
    ∷ hears "040001fefd" "01000400fb"
    ∷ hears "040001f506" "010e040042696c6c2056616c696461746f72a4"
    ∷ hears "040001f605" "010304004d4d4d11"
    ∷ hears "040001f407" "0103040050505008"
    ∷ hears "040001f209" "01030400090000ef"
    ∷ hears "040001f10a" "01030400535353ff"
    ∷ hears "040001c03b" "0103040042424232"
    ∷ hears "04000104f7" "01030400010400f3"
    ∷ hears "000001fd02" "04"
    ∷ hears "040001fdfe" ""
    ∷ hears "040001e516" ""
    ∷ hears "040201d2100116" ""
    ∷ hears "040101d11019" ""
    ∷ hears "040101bd013c" ""
    ∷ hears "040001bc3f" ""
    ∷ hears "040101b81032" ""
    ∷ hears "040101a4a5b1" ""
    ∷ hears "040401a70900000146" ""
    ∷ hears "040001a655" ""
    ∷ hears "040001a853" ""
    ∷ hears "040001ac4f" ""
    ∷ hears "040001a358" ""
    ∷ hears "040001a15a" ""
    ∷ hears "040001a05b" ""
    ∷ hears "0400016398" ""
    ∷ hears "0400019a61" ""
    ∷ hears "0402019a01015d" ""
    ∷ hears "0401019f015a" ""
    ∷ hears "0001019a0163" ""
    ∷ hears "0501019a015e" ""
    ∷ hears "0401019a015e" ""
    ∷ hears "0401019a01" ""
    ∷ hears "0400019f5c" "010b04000110010000000000000000de"
    ∷ hears "0401019a015f" "01000400fb"
    ∷ hears "0400019f5c" "010b04000210001001000000000000cd"
    ∷ hears "040001e11a" "01030400000000f8"
    ∷ []

others_told : all_told banker [] others ≡ map wanted others
unfolding message spelling asker asks_of request_of requests_with common_reply reply_of bill_reply reply_data has_place
others_told = refl

-- each byte of header 154: 1 stacks the bill of place 5 that is held, 0 gives it back, and another one is refused, by
-- which it stays held
abbrev holding : List Met
holding = after banker [] (hears "040201e7ffff14" "01000400fb" ∷ put_in 5 true ∷ [])

abbrev stacks : List Row
stacks =
    hears "0401019a015f" "01000400fb"
    ∷ hears "0400019f5c" "010b04000205000501000000000000e3"
    ∷ hears "040001e11a" "01030400000000f8"
    ∷ put_in 6 true
    ∷ []

stacks_told : all_told banker holding stacks ≡ map wanted stacks
unfolding message spelling asker asks_of request_of requests_with common_reply reply_of bill_reply reply_data has_place
stacks_told = refl

abbrev gives_back : List Row
gives_back =
    hears "0401019a0060" "01000400fb"
    ∷ hears "0400019f5c" "010b04000200010501000000000000e7"
    ∷ hears "040001e11a" "01030400fffffffb"
    ∷ put_in 6 true
    ∷ []

gives_back_told : all_told banker holding gives_back ≡ map wanted gives_back
unfolding message spelling asker asks_of request_of requests_with common_reply reply_of bill_reply reply_data has_place
gives_back_told = refl

-- the numbers below another one, and the message of header 154 with a byte
abbrev below : ℕ → List ℕ
below zero = []
below (suc count) = count ∷ below count

abbrev routing : ℕ → List ℕ
routing way = 4 ∷ 1 ∷ 1 ∷ 154 ∷ way ∷ (352 - way) % 256 ∷ []

abbrev other_ways : List ℕ
other_ways = map (λ way. way + 2) (below 254)

-- what is said to each of these bytes, and which bill is held then
abbrev answers : List Met → List ℕ → List (Option (List ℕ))
answers past ways = map (λ way. answer banker past (routing way)) ways

abbrev held_then : List ℕ → List (Option ℕ)
held_then ways = map (λ way. bill_held (heard (asks_of banker (routing way)) ∷ holding)) ways

abbrev refusal : List ℕ
refusal = bytes_of (codes "01000405f6")

others_refused : answers holding other_ways ≡ replicate 254 (Some refusal)
unfolding message spelling asker asks_of request_of requests_with common_reply reply_of bill_reply reply_data has_place
others_refused = refl

others_leave_it : held_then other_ways ≡ replicate 254 (Some 5)
unfolding message asks_of request_of requests_with has_place
others_leave_it = refl

-- and each is refused where no bill is held
all_refused : answers [] (below 256) ≡ replicate 256 (Some refusal)
unfolding message spelling asker asks_of request_of requests_with common_reply reply_of bill_reply reply_data has_place
all_refused = refl
