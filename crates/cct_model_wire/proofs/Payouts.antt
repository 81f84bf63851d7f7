-- A hopper at worked values: what it answers to bytes, and payouts that end in each way.
use Rattle.std.proofs.Common.{◌≡◌, ℕ, zero, suc, List, [], ◌∷◌, Some, None, codes, refl, false}
use Rattle.cct_model_wire.specs.declared.device.DeviceBody.TheVariants.{Hopper}
use Rattle.cct_model_wire.specs.declared.device.DeviceSetup.{DeviceSetup}
use Rattle.cct_model_wire.specs.declared.wire.CheckKind.TheVariants.{Simple}
use Rattle.cct_model_wire.specs.declared.request.Request.TheVariants.{ResetDevice, Enable, Dispense, StopNow, TestHopper}
use Rattle.cct_model_wire.specs.Message.{message, spelling}
use Rattle.cct_model_wire.specs.Request.{request_of, requests_with}
use Rattle.cct_model_wire.specs.Reply.{reply_data}
use Rattle.cct_model_wire.specs.Reply as reply
use Rattle.cct_model_wire.specs.History.{Met, fall, jam, reset, heard}
use Rattle.cct_model_wire.specs.Hopper.{life_count, status_of, register_of, hopper_reply}
use Rattle.cct_model_wire.specs.Device.{common_reply, reply_of}
use Rattle.cct_model_wire.specs.Exchange.{answer, asker, asks_of}

-- a hopper at address 3, with the serial number 01 02 03, whose life count starts two below 2 ^ 24
abbrev the_hopper : DeviceSetup
the_hopper = record {
  addr = 3;
  kind = Simple;
  serial = 197121;
  texts = record { maker = codes "BENCH"; product = codes "CCT"; software = codes "1"; build = codes "1" };
  named = false;
  body = Hopper 16777214 10;
}

-- what it hears
abbrev on : Met
on = heard (Some (Enable 165))

abbrev off : Met
off = heard (Some (Enable 164))

abbrev stop : Met
stop = heard (Some StopNow)

-- it is asked to pay three coins, or one
abbrev three : Met
three = heard (Some (Dispense 197121 3))

abbrev one : Met
one = heard (Some (Dispense 197121 1))

-- the request for four coins: refused by a fresh hopper, and taken where it may pay
refused_when_fresh : answer the_hopper [] (3 ∷ 4 ∷ 1 ∷ 167 ∷ 1 ∷ 2 ∷ 3 ∷ 4 ∷ 71 ∷ []) ≡ Some (1 ∷ 0 ∷ 3 ∷ 5 ∷ 247 ∷ [])
unfolding asker asks_of message request_of requests_with reply_of common_reply hopper_reply reply_data spelling
refused_when_fresh = refl

taken_when_enabled : answer the_hopper (on ∷ []) (3 ∷ 4 ∷ 1 ∷ 167 ∷ 1 ∷ 2 ∷ 3 ∷ 4 ∷ 71 ∷ [])
    ≡ Some (1 ∷ 0 ∷ 3 ∷ 0 ∷ 252 ∷ [])
unfolding asker asks_of message request_of requests_with reply_of common_reply hopper_reply reply_data spelling
taken_when_enabled = refl

refused_under_a_cipher : answer the_hopper (on ∷ []) (3 ∷ 9 ∷ 1 ∷ 167 ∷ 0 ∷ 0 ∷ 0 ∷ 0 ∷ 0 ∷ 0 ∷ 0 ∷ 0 ∷ 0 ∷ 76 ∷ [])
    ≡ Some (1 ∷ 0 ∷ 3 ∷ 5 ∷ 247 ∷ [])
unfolding asker asks_of message request_of requests_with reply_of common_reply hopper_reply reply_data spelling
refused_under_a_cipher = refl

answers_life : answer the_hopper [] (3 ∷ 0 ∷ 1 ∷ 168 ∷ 84 ∷ []) ≡ Some (1 ∷ 3 ∷ 3 ∷ 0 ∷ 254 ∷ 255 ∷ 255 ∷ 253 ∷ [])
unfolding asker asks_of message request_of requests_with reply_of common_reply hopper_reply reply_data spelling
answers_life = refl

answers_status : answer the_hopper (fall ∷ three ∷ on ∷ []) (3 ∷ 0 ∷ 1 ∷ 166 ∷ 86 ∷ [])
    ≡ Some (1 ∷ 4 ∷ 3 ∷ 0 ∷ 1 ∷ 2 ∷ 1 ∷ 0 ∷ 244 ∷ [])
unfolding asker asks_of message request_of requests_with reply_of common_reply hopper_reply reply_data spelling
answers_status = refl

silent_to_an_acceptor_s_request : answer the_hopper [] (3 ∷ 0 ∷ 1 ∷ 229 ∷ 23 ∷ []) ≡ None
unfolding asker asks_of message request_of requests_with reply_of common_reply hopper_reply
silent_to_an_acceptor_s_request = refl

-- a payout of three coins is paid, and a fourth fall drops none
three_paid : status_of 197121 (fall ∷ fall ∷ fall ∷ three ∷ on ∷ []) ≡ reply.status 1 0 3 0
three_paid = refl

no_fourth : status_of 197121 (fall ∷ fall ∷ fall ∷ fall ∷ three ∷ on ∷ []) ≡ reply.status 1 0 3 0
no_fourth = refl

next_payout : status_of 197121 (one ∷ fall ∷ fall ∷ fall ∷ three ∷ on ∷ []) ≡ reply.status 2 1 0 0
next_payout = refl

-- halfway it jams, is stopped, or is disabled
jammed_halfway : status_of 197121 (jam ∷ fall ∷ three ∷ on ∷ []) ≡ reply.status 1 0 1 2
jammed_halfway = refl

timeout_told : register_of 197121 (jam ∷ fall ∷ three ∷ on ∷ []) ≡ 66
timeout_told = refl

timeout_cleared : register_of 197121 (one ∷ heard (Some TestHopper) ∷ jam ∷ fall ∷ three ∷ on ∷ []) ≡ 0
timeout_cleared = refl

stop_tells_two : hopper_reply 197121 0 (fall ∷ three ∷ on ∷ []) StopNow ≡ Some (reply.remaining 2)
unfolding hopper_reply
stop_tells_two = refl

stopped_halfway : status_of 197121 (stop ∷ fall ∷ three ∷ on ∷ []) ≡ reply.status 1 0 1 2
stopped_halfway = refl

stopped_twice : status_of 197121 (stop ∷ fall ∷ jam ∷ stop ∷ fall ∷ three ∷ on ∷ []) ≡ reply.status 1 0 1 2
stopped_twice = refl

no_timeout_told : register_of 197121 (jam ∷ stop ∷ fall ∷ three ∷ on ∷ []) ≡ 64
no_timeout_told = refl

disabled_halfway : status_of 197121 (off ∷ fall ∷ three ∷ on ∷ []) ≡ reply.status 1 0 1 2
disabled_halfway = refl

off_told : register_of 197121 (off ∷ fall ∷ three ∷ on ∷ []) ≡ 192
off_told = refl

enabled_halfway : status_of 197121 (on ∷ fall ∷ three ∷ on ∷ []) ≡ reply.status 1 2 1 0
enabled_halfway = refl

-- a dispense request while it pays is refused, and changes nothing
refused_while_paying : hopper_reply 197121 0 (fall ∷ three ∷ on ∷ []) (Dispense 197121 1) ≡ Some reply.nak
unfolding hopper_reply
refused_while_paying = refl

kept_while_paying : status_of 197121 (one ∷ fall ∷ three ∷ on ∷ []) ≡ reply.status 1 2 1 0
kept_while_paying = refl

-- so is one with another serial number, or for nothing
refused_for_another : hopper_reply 197121 0 (on ∷ []) (Dispense 197120 3) ≡ Some reply.nak
unfolding hopper_reply
refused_for_another = refl

refused_for_nothing : hopper_reply 197121 0 (on ∷ []) (Dispense 197121 0) ≡ Some reply.nak
unfolding hopper_reply
refused_for_nothing = refl

-- a reset in a payout forgets all but the coins that it dropped, whether it was asked for or not
reset_halfway : status_of 197121 (fall ∷ reset ∷ fall ∷ three ∷ on ∷ []) ≡ reply.status 0 0 0 0
reset_halfway = refl

reset_told : register_of 197121 (reset ∷ heard (Some TestHopper) ∷ jam ∷ fall ∷ three ∷ on ∷ []) ≡ 192
reset_told = refl

counted_over_reset : life_count 197121 16777214
    (fall ∷ one ∷ on ∷ fall ∷ heard (Some ResetDevice) ∷ fall ∷ fall ∷ three ∷ on ∷ []) ≡ 1
counted_over_reset = refl

-- the event counter goes from 255 to 1
abbrev many : ℕ → List Met
many zero = on ∷ []
many (suc n) = fall ∷ one ∷ many n

counted_to_255 : status_of 197121 (many 255) ≡ reply.status 255 0 1 0
counted_to_255 = refl

one_after_255 : status_of 197121 (many 256) ≡ reply.status 1 0 1 0
one_after_255 = refl
