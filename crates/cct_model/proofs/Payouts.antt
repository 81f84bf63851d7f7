-- What a hopper answers and does in each of its states.
use Rattle.std.proofs.Common.{◌≡◌, ℕ, List, [], ◌∷◌, Option, Some, None, refl}
use Prim.Native.String.{String}
use Rattle.std.specs.Prelude.{codes}
use Rattle.cct_model.specs.terms.request.Request.TheVariants.{Enable, Dispense, ResetDevice, StopNow, TestHopper}
use Rattle.cct_model.specs.lines.entry.Entry.TheVariants as entry
use Rattle.cct_model.specs.lines.command.Step.TheVariants as step
use Rattle.cct_model.specs.Message.{message, spelling}
use Rattle.cct_model.specs.Request.{data_of, request_of, requests_with}
use Rattle.cct_model.specs.Reply.{reply_data}
use Rattle.cct_model.specs.Reply as reply
use Rattle.cct_model.specs.History.{Met, fall, jam, reset, heard}
use Rattle.cct_model.specs.Acceptor.{counter}
use Rattle.cct_model.specs.Hopper.{hopper_reply, status_of, register_of, life_count}
use Rattle.cct_model.specs.Device.{common_reply, reply_of}
use Rattle.cct_model.specs.Exchange.{asks_of, asker, answer}
use Rattle.cct_model.proofs.Machine.{Row, Plays, setup, hopper, bytes_of, one}

-- a hopper met all this and hears bytes
abbrev hears : String → List Met → List Met
hears piece past = heard (asks_of hopper (bytes_of (codes piece))) ∷ past

-- what it answers to bytes
abbrev says : List Met → String → Option (List ℕ)
says past piece = answer hopper past (bytes_of (codes piece))

-- the bytes with these digits
abbrev piece : String → Option (List ℕ)
piece digits = Some (bytes_of (codes digits))

-- its test register before it was read, as it is read again, and as it is enabled
first_test : says [] "030001a359" ≡ piece "01010300c03b"
unfolding message spelling data_of request_of requests_with reply_data hopper_reply common_reply reply_of asks_of asker
first_test = refl

second_test : says (hears "030001a359" []) "030001a359" ≡ piece "01010300807b"
unfolding message spelling data_of request_of requests_with reply_data hopper_reply common_reply reply_of asks_of asker
second_test = refl

test_enabled : says (hears "030101a4a5b2" (hears "030001a359" (hears "030001a359" []))) "030001a359" ≡ piece "0101030000fb"
unfolding message spelling data_of request_of requests_with reply_data hopper_reply common_reply reply_of asks_of asker
test_enabled = refl

-- one that is not enabled refuses a dispense, and any refuses what is under a cipher
asleep : says [] "030401a70102030447" ≡ piece "01000305f7"
unfolding message spelling data_of request_of requests_with reply_data hopper_reply common_reply reply_of asks_of asker
asleep = refl

no_cipher : says [] "030001a15b" ≡ piece "01000305f7"
unfolding message spelling data_of request_of requests_with reply_data hopper_reply common_reply reply_of asks_of asker
no_cipher = refl

no_key : says (hears "030101a4a5b2" []) "030001a05c" ≡ piece "01000305f7"
unfolding message spelling data_of request_of requests_with reply_data hopper_reply common_reply reply_of asks_of asker
no_key = refl

no_secret : says (hears "030101a4a5b2" []) "030901a70000000000000000004c" ≡ piece "01000305f7"
unfolding message spelling data_of request_of requests_with reply_data hopper_reply common_reply reply_of asks_of asker
no_secret = refl

-- it is silent to what an acceptor is asked, and to a dispense of five data bytes
not_mine : says (hears "030101a4a5b2" []) "030001e517" ≡ None
unfolding message spelling data_of request_of requests_with reply_data hopper_reply common_reply reply_of asks_of asker
not_mine = refl

too_long : says (hears "030101a4a5b2" []) "030501a7010203040541" ≡ None
unfolding message spelling data_of request_of requests_with reply_data hopper_reply common_reply reply_of asks_of asker
too_long = refl

-- one that is enabled, one that then took a dispense of four coins, and one of which two of them fell
abbrev awake : List Met
awake = heard (Some (Enable 165)) ∷ []

abbrev paying : List Met
paying = heard (Some (Dispense 197121 4)) ∷ awake

abbrev half : List Met
half = fall ∷ fall ∷ paying

-- it takes a dispense with its serial number and a count, and no other
takes : hopper_reply 197121 16777214 (awake) (Dispense 197121 4) ≡ Some reply.ack
unfolding hopper_reply
takes = refl

wrong_serial : hopper_reply 197121 16777214 (awake) (Dispense 197122 4) ≡ Some reply.nak
unfolding hopper_reply
wrong_serial = refl

no_coins : hopper_reply 197121 16777214 (awake) (Dispense 197121 0) ≡ Some reply.nak
unfolding hopper_reply
no_coins = refl

-- it takes no dispense while it pays, nor after a reset or a disable
already_paying : hopper_reply 197121 16777214 (half) (Dispense 197121 1) ≡ Some reply.nak
unfolding hopper_reply
already_paying = refl

asleep_again : hopper_reply 197121 16777214 (reset ∷ awake) (Dispense 197121 1) ≡ Some reply.nak
unfolding hopper_reply
asleep_again = refl

was_reset : hopper_reply 197121 16777214 (heard (Some ResetDevice) ∷ awake) (Dispense 197121 1) ≡ Some reply.nak
unfolding hopper_reply
was_reset = refl

disabled : hopper_reply 197121 16777214 (heard (Some (Enable 0)) ∷ awake) (Dispense 197121 1) ≡ Some reply.nak
unfolding hopper_reply
disabled = refl

-- after its last coin, a jam or a stop it takes the next one
pays_again : hopper_reply 197121 16777214 (fall ∷ fall ∷ half) (Dispense 197121 1) ≡ Some reply.ack
unfolding hopper_reply
pays_again = refl

unjammed : hopper_reply 197121 16777214 (jam ∷ half) (Dispense 197121 1) ≡ Some reply.ack
unfolding hopper_reply
unjammed = refl

stopped_enabled : hopper_reply 197121 16777214 (heard (Some StopNow) ∷ half) (Dispense 197121 1) ≡ Some reply.ack
unfolding hopper_reply
stopped_enabled = refl

-- its state before a dispense, after one, as two coins fell, and as all did
not_taken : status_of 197121 (awake) ≡ reply.status 0 0 0 0
not_taken = refl

taken_four : status_of 197121 (paying) ≡ reply.status 1 4 0 0
taken_four = refl

two_fell : status_of 197121 (half) ≡ reply.status 1 2 2 0
two_fell = refl

all_fell : status_of 197121 (fall ∷ fall ∷ half) ≡ reply.status 1 0 4 0
all_fell = refl

no_more_falls : status_of 197121 (fall ∷ fall ∷ fall ∷ half) ≡ reply.status 1 0 4 0
no_more_falls = refl

-- another enable changes nothing of a payout, and what ends it leaves the rest unpaid
enabled_meanwhile : status_of 197121 (heard (Some (Enable 165)) ∷ half) ≡ reply.status 1 2 2 0
enabled_meanwhile = refl

stopped_half : status_of 197121 (heard (Some StopNow) ∷ half) ≡ reply.status 1 0 2 2
stopped_half = refl

jammed_half : status_of 197121 (jam ∷ half) ≡ reply.status 1 0 2 2
jammed_half = refl

disabled_half : status_of 197121 (heard (Some (Enable 164)) ∷ half) ≡ reply.status 1 0 2 2
disabled_half = refl

refused_meanwhile : status_of 197121 (heard (Some (Dispense 197121 9)) ∷ half) ≡ reply.status 1 2 2 0
refused_meanwhile = refl

-- what comes after that changes nothing
stopped_twice : status_of 197121 (fall ∷ jam ∷ heard (Some StopNow) ∷ heard (Some StopNow) ∷ half) ≡ reply.status 1 0 2 2
stopped_twice = refl

-- a jam and a stop of a hopper that doesn't pay are nothing
jam_of_nothing : status_of 197121 (jam ∷ heard (Some StopNow) ∷ fall ∷ fall ∷ half) ≡ reply.status 1 0 4 0
jam_of_nothing = refl

-- the next dispense begins anew
second_payout : status_of 197121 (fall ∷ heard (Some (Dispense 197121 3)) ∷ jam ∷ half) ≡ reply.status 2 2 1 0
second_payout = refl

-- a reset clears it all but the life count, however it comes
reset_half : status_of 197121 (reset ∷ half) ≡ reply.status 0 0 0 0
reset_half = refl

asked_to_reset : status_of 197121 (heard (Some ResetDevice) ∷ half) ≡ reply.status 0 0 0 0
asked_to_reset = refl

-- a stop says what was left, and then nothing
stops_two : hopper_reply 197121 16777214 (half) (StopNow) ≡ Some (reply.remaining 2)
unfolding hopper_reply
stops_two = refl

stops_nothing : hopper_reply 197121 16777214 (heard (Some StopNow) ∷ half) (StopNow) ≡ Some (reply.remaining 0)
unfolding hopper_reply
stops_nothing = refl

-- a jam sets the timeout until the next dispense that is taken, or a reset
timeout : register_of 197121 (heard (Some TestHopper) ∷ jam ∷ half) ≡ 2
timeout = refl

timeout_refused : register_of 197121 (heard (Some (Dispense 197121 0)) ∷ heard (Some TestHopper) ∷ jam ∷ half) ≡ 2
timeout_refused = refl

timeout_cleared : register_of 197121 (heard (Some (Dispense 197121 1)) ∷ heard (Some TestHopper) ∷ jam ∷ half) ≡ 0
timeout_cleared = refl

no_timeout : register_of 197121 (jam ∷ heard (Some StopNow) ∷ heard (Some TestHopper) ∷ half) ≡ 0
no_timeout = refl

disabled_tested : register_of 197121 (heard (Some (Enable 0)) ∷ heard (Some TestHopper) ∷ jam ∷ half) ≡ 130
disabled_tested = refl

tested_again : register_of 197121 (reset ∷ heard (Some TestHopper) ∷ jam ∷ half) ≡ 192
tested_again = refl

-- the life count goes by the coins that fell in payouts alone, over resets too
life_goes_round : life_count 197121 16777214 (half) ≡ 0
life_goes_round = refl

life_kept : life_count 197121 16777214 (fall ∷ reset ∷ fall ∷ half) ≡ 1
life_kept = refl

life_stopped : life_count 197121 16777214 (fall ∷ heard (Some StopNow) ∷ half) ≡ 0
life_stopped = refl

-- the event counter goes from 255 to 1
counter_goes_round : counter 255 ≡ 255
counter_goes_round = refl

counter_from_one : counter 256 ≡ 1
counter_from_one = refl

-- nothing falls out of a hopper that doesn't pay, or sticks in it
abbrev idle : List Row
idle =
    one (step.Fall 3) (entry.NoFall 3)
    ∷ one (step.Jam 3) (entry.NoJam 3)
    ∷ one (step.Reset 3) (entry.Reset 3)
    ∷ []

idle_plays : Plays 65535 setup [] idle
idle_plays = search
