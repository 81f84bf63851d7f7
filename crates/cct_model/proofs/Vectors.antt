-- Readings, the wire between a host and three acceptors, the rows of a start and the polls of a scan, at worked values.
use Rattle.std.proofs.Common.{◌≡◌, ℕ, List, [], ◌∷◌, Some, None, refl}
use Rattle.cct_model.specs.terms.wire.CheckKind.{CheckKind}
use Rattle.cct_model.specs.terms.wire.CheckKind.TheVariants.{Simple, Crc}
use Rattle.cct_model.specs.terms.coin.Pair.{Pair}
use Rattle.cct_model.specs.terms.coin.Coin.{Coin}
use Rattle.cct_model.specs.terms.coin.Credits.{Credits}
use Rattle.cct_model.specs.terms.device.DeviceSetup.{DeviceSetup}
use Rattle.cct_model.specs.terms.device.Setup.{Setup}
use Rattle.cct_model.specs.terms.request.Request.TheVariants.{ResetDevice, ReadCredits, SetMask, AcceptCount}
use Rattle.cct_model.specs.terms.request.ReplyForm.TheVariants as form
use Rattle.cct_model.specs.lines.command.Command.{Command}
use Rattle.cct_model.specs.lines.command.Command.TheVariants as command
use Rattle.cct_model.specs.lines.command.WireFault.TheVariants as fault
use Rattle.cct_model.specs.lines.record.Record.TheVariants as record_of
use Rattle.cct_model.specs.lines.entry.End.TheVariants.{StartUnsure}
use Rattle.cct_model.specs.lines.entry.Entry.TheVariants as entry
use Rattle.cct_model.specs.declared.judging.Judged.TheVariants.{Nothing, Moved, Reading, Broken}
use Rattle.cct_model.specs.declared.judging.EpochState.TheVariants.{Idle, Running}
use Rattle.cct_model.specs.Message.{message, spelling, crc}
use Rattle.cct_model.specs.Request.{request_of, requests_with}
use Rattle.cct_model.specs.Reply.{reply_in, reply_data, ack, accepts, credits}
use Rattle.cct_model.specs.Device.{common_reply, reply_of}
use Rattle.cct_model.specs.Acceptor.{acceptor_reply}
use Rattle.cct_model.specs.Exchange.{after_echo, asker, asks_of, got}
use Rattle.cct_model.specs.Grammar.{plain_device, plain_acceptor}
use Rattle.cct_model.specs.DeviceSet.{all_addresses}
use Rattle.cct_model.specs.Line.{Line, exchange, scanned, put}
use Rattle.cct_model.specs.Job.{sends, puts}
use Rattle.cct_model.specs.Rows.{row, end_of}
use Rattle.cct_model.specs.Scan.{scan_row, next_due}
use Rattle.cct_model.specs.Transcript.{heard_after}
use Rattle.cct_model.specs.Reading.{distance, accepted_between, judge}

from_first : distance 0 254 ≡ 254
unfolding distance
from_first = refl

round_the_end : distance 255 1 ≡ 1
unfolding distance
round_the_end = refl

nearly_round : distance 1 255 ≡ 254
unfolding distance
nearly_round = refl

none_between : distance 7 7 ≡ 0
unfolding distance
none_between = refl

after_a_reset : distance 7 0 ≡ 0
unfolding distance
after_a_reset = refl

-- five events, newest first; the newest but one is an error
abbrev five : List Pair
five =
    record { a = 5; b = 1 }
    ∷ record { a = 0; b = 2 }
    ∷ record { a = 6; b = 1 }
    ∷ record { a = 6; b = 2 }
    ∷ record { a = 5; b = 3 }
    ∷ []

abbrev read : ℕ → Credits
read counter = record { counter = counter; pairs = five }

-- the coins of the newest event, of the newest three and of all five, oldest first
abbrev one_coin : List Coin
one_coin = record { place = 5; path = 1 } ∷ []

abbrev two_coins : List Coin
two_coins = record { place = 6; path = 1 } ∷ one_coin

abbrev four_coins : List Coin
four_coins = record { place = 5; path = 3 } ∷ record { place = 6; path = 2 } ∷ two_coins

posts_the_newest : judge 2 48 255 10 (read 1) 48 11 11 ≡ Reading (record_of.Reading 2 1 0 11 one_coin)
unfolding judge distance accepted_between
posts_the_newest = refl

-- three coins were accepted, and the newest three events are two coins and an error
posts_oldest_first : judge 2 48 254 10 (read 2) 48 13 13 ≡ Reading (record_of.Reading 2 2 1 13 two_coins)
unfolding judge distance accepted_between
posts_oldest_first = refl

tells_the_lost : judge 2 48 1 10 (read 255) 48 264 264 ≡ Reading (record_of.Reading 2 255 250 264 four_coins)
unfolding judge distance accepted_between
tells_the_lost = refl

-- the accept counter goes round, and the event counter has gone round unseen: no coin is posted, and 255 are lost
counts_go_round : judge 2 48 1 16777215 (read 1) 48 254 254 ≡ Reading (record_of.Reading 2 1 255 254 [])
unfolding judge distance accepted_between
counts_go_round = refl

nothing_came : judge 2 48 7 10 (read 7) 48 10 10 ≡ Nothing
unfolding judge distance accepted_between
nothing_came = refl

a_coin_between : judge 2 48 254 10 (read 2) 48 12 13 ≡ Moved
unfolding judge distance accepted_between
a_coin_between = refl

-- a break goes by the second accept counter, whether or not the two agree
a_break_posts : judge 2 48 254 10 (read 2) 0 12 13 ≡ Broken (record_of.Broken 2 0 2 1 13 two_coins)
unfolding judge distance accepted_between
a_break_posts = refl

a_reset_breaks : judge 2 48 254 10 (read 0) 48 12 12 ≡ Broken (record_of.Broken 2 48 0 2 12 [])
unfolding judge distance accepted_between
a_reset_breaks = refl

-- an acceptor of which a script says no more
abbrev acceptor : ℕ → CheckKind → DeviceSetup
acceptor addr check = plain_device addr check 1 (plain_acceptor 0)

-- acceptors at 4 and 2 under the simple check, and at 3 under the CRC; they answer an address poll in rising order
abbrev three : Setup
three = record { devices = acceptor 4 Simple ∷ acceptor 2 Simple ∷ acceptor 3 Crc ∷ [] }

all_answer : heard_after three [] (0 ∷ 0 ∷ 1 ∷ 253 ∷ 2 ∷ []) ≡ 0 ∷ 0 ∷ 1 ∷ 253 ∷ 2 ∷ 2 ∷ 4 ∷ []
unfolding heard_after asker asks_of message request_of requests_with reply_of common_reply acceptor_reply crc
all_answer = refl

one_answers_under_the_crc : heard_after three [] (0 ∷ 0 ∷ 178 ∷ 253 ∷ 62 ∷ []) ≡ 0 ∷ 0 ∷ 178 ∷ 253 ∷ 62 ∷ 3 ∷ []
unfolding heard_after asker asks_of message request_of requests_with reply_of common_reply acceptor_reply crc
one_answers_under_the_crc = refl

nobody_answers : heard_after three [] (5 ∷ 0 ∷ 1 ∷ 229 ∷ 21 ∷ []) ≡ 5 ∷ 0 ∷ 1 ∷ 229 ∷ 21 ∷ []
unfolding heard_after asker asks_of message request_of requests_with crc
nobody_answers = refl

-- a fault takes the place of the one before, and a clear wire is one without a fault
later_fault :
    heard_after three
    (entry.Fault (fault.WholeHeard (187 ∷ [])) ∷ entry.Fault (fault.DevicesHear (170 ∷ [])) ∷ [])
    (2 ∷ 0 ∷ 1 ∷ 254 ∷ 255 ∷ [])
    ≡ 187 ∷ []
unfolding heard_after
later_fault = refl

cleared_fault :
    heard_after three
    (entry.Fault fault.Clear ∷ entry.Fault (fault.HostHears (170 ∷ [])) ∷ [])
    (2 ∷ 0 ∷ 1 ∷ 254 ∷ 255 ∷ [])
    ≡ 2 ∷ 0 ∷ 1 ∷ 254 ∷ 255 ∷ 1 ∷ 0 ∷ 2 ∷ 0 ∷ 253 ∷ []
unfolding heard_after asker asks_of message request_of requests_with reply_of common_reply reply_data spelling crc
cleared_fault = refl

-- a start with the mask of places 5 and 7: it is reset, its credits are asked once in vain, and its counter is 0; it has
-- accepted 10 coins so far; then the epoch is put, and a refused mask ends it unsure
abbrev start : Command
start = command.Start 2 80

abbrev after_reset : List Line
after_reset = exchange (Some ResetDevice) (Some ack) ∷ []

abbrev after_silence : List Line
after_silence = exchange (Some ReadCredits) None ∷ after_reset

abbrev after_credits : List Line
after_credits = exchange (Some ReadCredits) (Some (credits (record { counter = 0; pairs = [] }))) ∷ after_silence

abbrev after_count : List Line
after_count = exchange (Some AcceptCount) (Some (accepts 10)) ∷ after_credits

abbrev after_epoch : List Line
after_epoch = put (record_of.Epoch 2 80 10) ∷ after_count

resets_first : row (acceptor 2 Simple) start [] Idle None ≡ sends ResetDevice
resets_first = refl

reads_then : row (acceptor 2 Simple) start after_reset Idle None ≡ sends ReadCredits
reads_then = refl

reads_again : row (acceptor 2 Simple) start after_silence Idle None ≡ sends ReadCredits
reads_again = refl

counts_then : row (acceptor 2 Simple) start after_credits Idle None ≡ sends AcceptCount
counts_then = refl

puts_then : row (acceptor 2 Simple) start after_count Idle None ≡ puts (record_of.Epoch 2 80 10)
puts_then = refl

sets_then : row (acceptor 2 Simple) start after_epoch (Running 80 0 10) None ≡ sends (SetMask 80)
sets_then = refl

a_refusal_is_no_acknowledgement :
    got Simple 2 form.Ack
    (2 ∷ 2 ∷ 1 ∷ 231 ∷ 80 ∷ 0 ∷ 196 ∷ [])
    (2 ∷ 2 ∷ 1 ∷ 231 ∷ 80 ∷ 0 ∷ 196 ∷ 1 ∷ 0 ∷ 2 ∷ 5 ∷ 248 ∷ [])
    ≡ None
unfolding got after_echo message
a_refusal_is_no_acknowledgement = refl

a_refused_mask : end_of (acceptor 2 Simple) start (exchange (Some (SetMask 80)) None) after_epoch (Running 80 0 10) ≡ Some StartUnsure
a_refused_mask = refl

-- a scan that hears the bytes 2 and 9 after its first address poll asks device 2, and then device 9 under both checks
first_poll : scan_row [] ≡ Some (Simple, 0)
unfolding scan_row
first_poll = refl

second_poll : scan_row (scanned Simple 0 (Some (2 ∷ 9 ∷ [])) ∷ []) ≡ Some (Crc, 0)
unfolding scan_row
second_poll = refl

first_device : scan_row (scanned Crc 0 (Some []) ∷ scanned Simple 0 (Some (2 ∷ 9 ∷ [])) ∷ []) ≡ Some (Simple, 2)
unfolding scan_row next_due all_addresses
first_device = refl

-- the acknowledgement of device 2 is the bytes 01 00 02 00 fd
second_device : scan_row (scanned Simple 2 (Some (1 ∷ 0 ∷ 2 ∷ 0 ∷ 253 ∷ [])) ∷ scanned Crc 0 (Some []) ∷ scanned Simple 0 (Some (2 ∷ 9 ∷ [])) ∷ []) ≡ Some (Simple, 9)
unfolding scan_row next_due all_addresses message reply_in
second_device = refl

other_check : scan_row (scanned Simple 9 (Some []) ∷ scanned Simple 2 (Some (1 ∷ 0 ∷ 2 ∷ 0 ∷ 253 ∷ [])) ∷ scanned Crc 0 (Some []) ∷ scanned Simple 0 (Some (2 ∷ 9 ∷ [])) ∷ []) ≡ Some (Crc, 9)
unfolding scan_row message
other_check = refl

nothing_left : scan_row (scanned Crc 9 (Some []) ∷ scanned Simple 9 (Some []) ∷ scanned Simple 2 (Some (1 ∷ 0 ∷ 2 ∷ 0 ∷ 253 ∷ [])) ∷ scanned Crc 0 (Some []) ∷ scanned Simple 0 (Some (2 ∷ 9 ∷ [])) ∷ []) ≡ None
unfolding scan_row next_due all_addresses
nothing_left = refl
