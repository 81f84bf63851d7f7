-- A day of two acceptors and three hoppers: both checks, a jam and a power cut, up to the balance in the evening.
use Rattle.std.proofs.Common.{◌≡◌, List, [], ◌∷◌, None, refl}
use Rattle.cct_model.specs.Message.{message, spelling, crc}
use Rattle.cct_model.specs.Request.{data_of, request_of, requests_with, form_of}
use Rattle.cct_model.specs.Reply.{reply_data, reply_in}
use Rattle.cct_model.specs.Setting.{has_place}
use Rattle.cct_model.specs.Acceptor.{acceptor_reply}
use Rattle.cct_model.specs.Hopper.{hopper_reply}
use Rattle.cct_model.specs.Device.{common_reply, reply_of}
use Rattle.cct_model.specs.Exchange.{ask, asked, asks_of, asker, after_echo, got}
use Rattle.cct_model.specs.Transcript.{heard_after, got_by}
use Rattle.cct_model.specs.Reading.{distance, judge, accepted_between}
use Rattle.cct_model.specs.Order.{life_between, close}
use Rattle.cct_model.specs.Records.{records}
use Rattle.cct_model.specs.lines.command.Step.TheVariants as step
use Rattle.cct_model.specs.lines.command.Command.TheVariants as command
use Rattle.cct_model.specs.lines.record.Record.TheVariants as record_of
use Rattle.cct_model.specs.lines.entry.Entry.{Entry}
use Rattle.cct_model.specs.lines.entry.Entry.TheVariants as entry
use Rattle.cct_model.specs.lines.entry.End.TheVariants as end_of
use Rattle.cct_model.proofs.Machine.{Row, PlayOn, after, house, coin, one, both, wire}
use Rattle.cct_model.proofs.Ledger.{five, day}

-- both acceptors are started
abbrev opening : List Row
opening =
    one (step.Command (command.Start 2 65535)) (entry.Taken (command.Start 2 65535))
    ∷ one (step.Next 2) (wire 2 "02000101fc" "02000101fc01000200fd")
    ∷ one (step.Next 2) (wire 2 "020001e518" "020001e518010b02000000000000000000000000f2")
    ∷ one (step.Next 2) (wire 2 "020001e11c" "020001e11c01030200000000fa")
    ∷ one (step.Next 2) (entry.Put (record_of.Epoch 2 65535 0))
    ∷ both (step.Next 2) (wire 2 "020201e7ffff16" "020201e7ffff1601000200fd") (entry.Ended 2 end_of.Started)
    ∷ one (step.Command (command.Start 4 65535)) (entry.Taken (command.Start 4 65535))
    ∷ one (step.Next 4) (wire 4 "0400e101cc" "0400e101cc0100300037")
    ∷ one (step.Next 4) (wire 4 "04004be571" "04004be571010b9e000000000000000000000000bf")
    ∷ one (step.Next 4) (wire 4 "0400cfe131" "0400cfe13101037200000000ab")
    ∷ one (step.Next 4) (entry.Put (record_of.Epoch 4 65535 0))
    ∷ both (step.Next 4) (wire 4 "0402c0e7ffff5c" "0402c0e7ffff5c0100300037") (entry.Ended 4 end_of.Started)
    ∷ []

abbrev after_opening : List Entry
after_opening = after [] opening

-- five coins fall into each acceptor in turn, and are posted: twice
abbrev morning : List Row
morning =
    one (step.Coin 2 1) (entry.Accepted 2 (coin 1 1))
    ∷ one (step.Coin 2 2) (entry.Accepted 2 (coin 2 1))
    ∷ one (step.Coin 2 3) (entry.Accepted 2 (coin 3 1))
    ∷ one (step.Coin 2 4) (entry.Accepted 2 (coin 4 1))
    ∷ one (step.Coin 2 5) (entry.Accepted 2 (coin 5 1))
    ∷ one (step.Command (command.Round 2)) (entry.Taken (command.Round 2))
    ∷ one (step.Next 2) (wire 2 "020001e11c" "020001e11c01030200050000f5")
    ∷ one (step.Next 2) (wire 2 "020001e518" "020001e518010b02000505010401030102010101d9")
    ∷ one (step.Next 2) (wire 2 "020001e617" "020001e61701020200fffffd")
    ∷ one (step.Next 2) (wire 2 "020001e11c" "020001e11c01030200050000f5")
    ∷ both (step.Next 2) (entry.Put (record_of.Reading 2 5 0 5 five)) (entry.Ended 2 end_of.Posted)
    ∷ one (step.Coin 4 1) (entry.Accepted 4 (coin 1 1))
    ∷ one (step.Coin 4 2) (entry.Accepted 4 (coin 2 1))
    ∷ one (step.Coin 4 3) (entry.Accepted 4 (coin 3 1))
    ∷ one (step.Coin 4 4) (entry.Accepted 4 (coin 4 1))
    ∷ one (step.Coin 4 5) (entry.Accepted 4 (coin 5 1))
    ∷ one (step.Command (command.Round 4)) (entry.Taken (command.Round 4))
    ∷ one (step.Next 4) (wire 4 "0400cfe131" "0400cfe1310103820005000040")
    ∷ one (step.Next 4) (wire 4 "04004be571" "04004be571010b3600050501040103010201010135")
    ∷ one (step.Next 4) (wire 4 "040028e641" "040028e64101023600ffff5a")
    ∷ one (step.Next 4) (wire 4 "0400cfe131" "0400cfe1310103820005000040")
    ∷ both (step.Next 4) (entry.Put (record_of.Reading 4 5 0 5 five)) (entry.Ended 4 end_of.Posted)
    ∷ one (step.Coin 2 1) (entry.Accepted 2 (coin 1 1))
    ∷ one (step.Coin 2 2) (entry.Accepted 2 (coin 2 1))
    ∷ one (step.Coin 2 3) (entry.Accepted 2 (coin 3 1))
    ∷ one (step.Coin 2 4) (entry.Accepted 2 (coin 4 1))
    ∷ one (step.Coin 2 5) (entry.Accepted 2 (coin 5 1))
    ∷ one (step.Command (command.Round 2)) (entry.Taken (command.Round 2))
    ∷ one (step.Next 2) (wire 2 "020001e11c" "020001e11c010302000a0000f0")
    ∷ one (step.Next 2) (wire 2 "020001e518" "020001e518010b02000a05010401030102010101d4")
    ∷ one (step.Next 2) (wire 2 "020001e617" "020001e61701020200fffffd")
    ∷ one (step.Next 2) (wire 2 "020001e11c" "020001e11c010302000a0000f0")
    ∷ both (step.Next 2) (entry.Put (record_of.Reading 2 10 0 10 five)) (entry.Ended 2 end_of.Posted)
    ∷ one (step.Coin 4 1) (entry.Accepted 4 (coin 1 1))
    ∷ one (step.Coin 4 2) (entry.Accepted 4 (coin 2 1))
    ∷ one (step.Coin 4 3) (entry.Accepted 4 (coin 3 1))
    ∷ one (step.Coin 4 4) (entry.Accepted 4 (coin 4 1))
    ∷ one (step.Coin 4 5) (entry.Accepted 4 (coin 5 1))
    ∷ one (step.Command (command.Round 4)) (entry.Taken (command.Round 4))
    ∷ one (step.Next 4) (wire 4 "0400cfe131" "0400cfe1310103b3000a00006c")
    ∷ one (step.Next 4) (wire 4 "04004be571" "04004be571010b05000a05010401030102010101be")
    ∷ one (step.Next 4) (wire 4 "040028e641" "040028e64101023600ffff5a")
    ∷ one (step.Next 4) (wire 4 "0400cfe131" "0400cfe1310103b3000a00006c")
    ∷ both (step.Next 4) (entry.Put (record_of.Reading 4 10 0 10 five)) (entry.Ended 4 end_of.Posted)
    ∷ []

abbrev after_morning : List Entry
after_morning = after after_opening morning

-- and twice more
abbrev noon : List Row
noon =
    one (step.Coin 2 1) (entry.Accepted 2 (coin 1 1))
    ∷ one (step.Coin 2 2) (entry.Accepted 2 (coin 2 1))
    ∷ one (step.Coin 2 3) (entry.Accepted 2 (coin 3 1))
    ∷ one (step.Coin 2 4) (entry.Accepted 2 (coin 4 1))
    ∷ one (step.Coin 2 5) (entry.Accepted 2 (coin 5 1))
    ∷ one (step.Command (command.Round 2)) (entry.Taken (command.Round 2))
    ∷ one (step.Next 2) (wire 2 "020001e11c" "020001e11c010302000f0000eb")
    ∷ one (step.Next 2) (wire 2 "020001e518" "020001e518010b02000f05010401030102010101cf")
    ∷ one (step.Next 2) (wire 2 "020001e617" "020001e61701020200fffffd")
    ∷ one (step.Next 2) (wire 2 "020001e11c" "020001e11c010302000f0000eb")
    ∷ both (step.Next 2) (entry.Put (record_of.Reading 2 15 0 15 five)) (entry.Ended 2 end_of.Posted)
    ∷ one (step.Coin 4 1) (entry.Accepted 4 (coin 1 1))
    ∷ one (step.Coin 4 2) (entry.Accepted 4 (coin 2 1))
    ∷ one (step.Coin 4 3) (entry.Accepted 4 (coin 3 1))
    ∷ one (step.Coin 4 4) (entry.Accepted 4 (coin 4 1))
    ∷ one (step.Coin 4 5) (entry.Accepted 4 (coin 5 1))
    ∷ one (step.Command (command.Round 4)) (entry.Taken (command.Round 4))
    ∷ one (step.Next 4) (wire 4 "0400cfe131" "0400cfe131010343000f000087")
    ∷ one (step.Next 4) (wire 4 "04004be571" "04004be571010b0b000f0501040103010201010137")
    ∷ one (step.Next 4) (wire 4 "040028e641" "040028e64101023600ffff5a")
    ∷ one (step.Next 4) (wire 4 "0400cfe131" "0400cfe131010343000f000087")
    ∷ both (step.Next 4) (entry.Put (record_of.Reading 4 15 0 15 five)) (entry.Ended 4 end_of.Posted)
    ∷ one (step.Coin 2 1) (entry.Accepted 2 (coin 1 1))
    ∷ one (step.Coin 2 2) (entry.Accepted 2 (coin 2 1))
    ∷ one (step.Coin 2 3) (entry.Accepted 2 (coin 3 1))
    ∷ one (step.Coin 2 4) (entry.Accepted 2 (coin 4 1))
    ∷ one (step.Coin 2 5) (entry.Accepted 2 (coin 5 1))
    ∷ one (step.Command (command.Round 2)) (entry.Taken (command.Round 2))
    ∷ one (step.Next 2) (wire 2 "020001e11c" "020001e11c01030200140000e6")
    ∷ one (step.Next 2) (wire 2 "020001e518" "020001e518010b02001405010401030102010101ca")
    ∷ one (step.Next 2) (wire 2 "020001e617" "020001e61701020200fffffd")
    ∷ one (step.Next 2) (wire 2 "020001e11c" "020001e11c01030200140000e6")
    ∷ both (step.Next 2) (entry.Put (record_of.Reading 2 20 0 20 five)) (entry.Ended 2 end_of.Posted)
    ∷ one (step.Coin 4 1) (entry.Accepted 4 (coin 1 1))
    ∷ one (step.Coin 4 2) (entry.Accepted 4 (coin 2 1))
    ∷ one (step.Coin 4 3) (entry.Accepted 4 (coin 3 1))
    ∷ one (step.Coin 4 4) (entry.Accepted 4 (coin 4 1))
    ∷ one (step.Coin 4 5) (entry.Accepted 4 (coin 5 1))
    ∷ one (step.Command (command.Round 4)) (entry.Taken (command.Round 4))
    ∷ one (step.Next 4) (wire 4 "0400cfe131" "0400cfe1310103d10014000034")
    ∷ one (step.Next 4) (wire 4 "04004be571" "04004be571010b42001405010401030102010101b8")
    ∷ one (step.Next 4) (wire 4 "040028e641" "040028e64101023600ffff5a")
    ∷ one (step.Next 4) (wire 4 "0400cfe131" "0400cfe1310103d10014000034")
    ∷ both (step.Next 4) (entry.Put (record_of.Reading 4 20 0 20 five)) (entry.Ended 4 end_of.Posted)
    ∷ []

abbrev after_noon : List Entry
after_noon = after after_morning noon

-- two orders are paid
abbrev payouts : List Row
payouts =
    one (step.Command (command.Pay 3 1 10)) (entry.Taken (command.Pay 3 1 10))
    ∷ one (step.Next 3) (wire 3 "030101a4a5b2" "030101a4a5b201000300fc")
    ∷ one (step.Next 3) (wire 3 "030001a854" "030001a85401030300fefffffd")
    ∷ one (step.Next 3) (entry.Put (record_of.Opened 1 3 10 16777214))
    ∷ one (step.Next 3) (wire 3 "030401a70102030a41" "030401a70102030a4101000300fc")
    ∷ one (step.Fall 3) (entry.Fell 3)
    ∷ one (step.Fall 3) (entry.Fell 3)
    ∷ one (step.Fall 3) (entry.Fell 3)
    ∷ one (step.Fall 3) (entry.Fell 3)
    ∷ one (step.Fall 3) (entry.Fell 3)
    ∷ one (step.Fall 3) (entry.Fell 3)
    ∷ one (step.Fall 3) (entry.Fell 3)
    ∷ one (step.Fall 3) (entry.Fell 3)
    ∷ one (step.Fall 3) (entry.Fell 3)
    ∷ one (step.Fall 3) (entry.Fell 3)
    ∷ one (step.Next 3) (wire 3 "030001a656" "030001a6560104030001000a00ed")
    ∷ one (step.Next 3) (wire 3 "030001a854" "030001a85401030300080000f1")
    ∷ both (step.Next 3) (entry.Put (record_of.Closed 1 10 0)) (entry.Ended 3 end_of.Closed)
    ∷ one (step.Command (command.Pay 5 2 4)) (entry.Taken (command.Pay 5 2 4))
    ∷ one (step.Next 5) (wire 5 "050101a4a5b0" "050101a4a5b001000500fa")
    ∷ one (step.Next 5) (wire 5 "050001a852" "050001a85201030500000000f7")
    ∷ one (step.Next 5) (entry.Put (record_of.Opened 2 5 4 0))
    ∷ one (step.Next 5) (wire 5 "050401a70500000446" "050401a7050000044601000500fa")
    ∷ one (step.Fall 5) (entry.Fell 5)
    ∷ one (step.Fall 5) (entry.Fell 5)
    ∷ one (step.Fall 5) (entry.Fell 5)
    ∷ one (step.Fall 5) (entry.Fell 5)
    ∷ one (step.Next 5) (wire 5 "050001a654" "050001a6540104050001000400f1")
    ∷ one (step.Next 5) (wire 5 "050001a852" "050001a85201030500040000f3")
    ∷ both (step.Next 5) (entry.Put (record_of.Closed 2 4 0)) (entry.Ended 5 end_of.Closed)
    ∷ []

abbrev after_payouts : List Entry
after_payouts = after after_noon payouts

-- two more, of which the second jams
abbrev jam : List Row
jam =
    one (step.Command (command.Pay 6 3 3)) (entry.Taken (command.Pay 6 3 3))
    ∷ one (step.Next 6) (wire 6 "06015ca4a524" "06015ca4a5240100300037")
    ∷ one (step.Next 6) (wire 6 "060042a886" "060042a8860103e2000700002e")
    ∷ one (step.Next 6) (entry.Put (record_of.Opened 3 6 3 7))
    ∷ one (step.Next 6) (wire 6 "0604cea706000003fd" "0604cea706000003fd0100300037")
    ∷ one (step.Fall 6) (entry.Fell 6)
    ∷ one (step.Fall 6) (entry.Fell 6)
    ∷ one (step.Fall 6) (entry.Fell 6)
    ∷ one (step.Next 6) (wire 6 "06008ca667" "06008ca66701042700010003009d")
    ∷ one (step.Next 6) (wire 6 "060042a886" "060042a8860103b3000a00006c")
    ∷ both (step.Next 6) (entry.Put (record_of.Closed 3 3 0)) (entry.Ended 6 end_of.Closed)
    ∷ one (step.Command (command.Pay 3 4 5)) (entry.Taken (command.Pay 3 4 5))
    ∷ one (step.Next 3) (wire 3 "030101a4a5b2" "030101a4a5b201000300fc")
    ∷ one (step.Next 3) (wire 3 "030001a854" "030001a85401030300080000f1")
    ∷ one (step.Next 3) (entry.Put (record_of.Opened 4 3 5 8))
    ∷ one (step.Next 3) (wire 3 "030401a70102030546" "030401a7010203054601000300fc")
    ∷ one (step.Fall 3) (entry.Fell 3)
    ∷ one (step.Fall 3) (entry.Fell 3)
    ∷ one (step.Jam 3) (entry.Jammed 3)
    ∷ one (step.Next 3) (wire 3 "030001a656" "030001a6560104030002000203f1")
    ∷ one (step.Next 3) (wire 3 "030001a854" "030001a854010303000a0000ef")
    ∷ both (step.Next 3) (entry.Put (record_of.Closed 4 2 3)) (entry.Ended 3 end_of.Closed)
    ∷ []

abbrev after_jam : List Entry
after_jam = after after_payouts jam

-- the power is cut while an order is paid, and the host settles it; then one more is paid
abbrev power_cut : List Row
power_cut =
    one (step.Command (command.Pay 5 5 2)) (entry.Taken (command.Pay 5 5 2))
    ∷ one (step.Next 5) (wire 5 "050101a4a5b0" "050101a4a5b001000500fa")
    ∷ one (step.Next 5) (wire 5 "050001a852" "050001a85201030500040000f3")
    ∷ one (step.Next 5) (entry.Put (record_of.Opened 5 5 2 4))
    ∷ one (step.Next 5) (wire 5 "050401a70500000248" "050401a7050000024801000500fa")
    ∷ one (step.Fall 5) (entry.Fell 5)
    ∷ one (step.Crash None 1) (entry.Crash 19)
    ∷ one (step.Fall 5) (entry.Fell 5)
    ∷ one (step.Command (command.Settle 5)) (entry.Taken (command.Settle 5))
    ∷ one (step.Next 5) (wire 5 "050001a654" "050001a6540104050002000200f2")
    ∷ one (step.Next 5) (wire 5 "050001a852" "050001a85201030500060000f1")
    ∷ both (step.Next 5) (entry.Put (record_of.Closed 5 2 0)) (entry.Ended 5 end_of.Closed)
    ∷ one (step.Command (command.Pay 6 6 1)) (entry.Taken (command.Pay 6 6 1))
    ∷ one (step.Next 6) (wire 6 "06015ca4a524" "06015ca4a5240100300037")
    ∷ one (step.Next 6) (wire 6 "060042a886" "060042a8860103b3000a00006c")
    ∷ one (step.Next 6) (entry.Put (record_of.Opened 6 6 1 10))
    ∷ one (step.Next 6) (wire 6 "06048ca706000001dd" "06048ca706000001dd0100300037")
    ∷ one (step.Fall 6) (entry.Fell 6)
    ∷ one (step.Next 6) (wire 6 "06008ca667" "06008ca667010499000200010060")
    ∷ one (step.Next 6) (wire 6 "060042a886" "060042a886010383000b00005b")
    ∷ both (step.Next 6) (entry.Put (record_of.Closed 6 1 0)) (entry.Ended 6 end_of.Closed)
    ∷ []

abbrev after_power_cut : List Entry
after_power_cut = after after_jam power_cut

-- something is sold, both acceptors are stopped, and the balance is read
abbrev closing : List Row
closing =
    one (step.Command (command.Vend 7 150)) (entry.Taken (command.Vend 7 150))
    ∷ both (step.Next 1) (entry.Put (record_of.Sold 7 150)) (entry.Ended 1 end_of.Sold)
    ∷ one (step.Command (command.Stop 2)) (entry.Taken (command.Stop 2))
    ∷ one (step.Next 2) (wire 2 "020101e40018" "020101e4001801000200fd")
    ∷ one (step.Next 2) (wire 2 "020001e11c" "020001e11c01030200140000e6")
    ∷ one (step.Next 2) (wire 2 "020001e518" "020001e518010b02001405010401030102010101ca")
    ∷ one (step.Next 2) (wire 2 "020001e617" "020001e61701020200fffffd")
    ∷ one (step.Next 2) (wire 2 "020001e11c" "020001e11c01030200140000e6")
    ∷ both (step.Next 2) (entry.Put (record_of.EpochEnd 2)) (entry.Ended 2 end_of.Stopped)
    ∷ one (step.Command (command.Stop 4)) (entry.Taken (command.Stop 4))
    ∷ one (step.Next 4) (wire 4 "0401b7e40021" "0401b7e400210100300037")
    ∷ one (step.Next 4) (wire 4 "0400cfe131" "0400cfe1310103d10014000034")
    ∷ one (step.Next 4) (wire 4 "04004be571" "04004be571010b42001405010401030102010101b8")
    ∷ one (step.Next 4) (wire 4 "040028e641" "040028e64101023600ffff5a")
    ∷ one (step.Next 4) (wire 4 "0400cfe131" "0400cfe1310103d10014000034")
    ∷ both (step.Next 4) (entry.Put (record_of.EpochEnd 4)) (entry.Ended 4 end_of.Stopped)
    ∷ one step.Balance (entry.Balance (record { available = 2030; reserved = 0; paid = 820; sold = 150 }))
    ∷ []

abbrev after_closing : List Entry
after_closing = after after_power_cut closing

-- the whole day is played, one part after the other
day_plays : PlayOn house [] (opening ∷ morning ∷ noon ∷ payouts ∷ jam ∷ power_cut ∷ closing ∷ [])
unfolding message spelling data_of request_of requests_with form_of reply_data reply_in has_place acceptor_reply
    hopper_reply common_reply reply_of ask asked asks_of asker after_echo got heard_after got_by distance judge accepted_between
    life_between close crc
day_plays = (search, (search, (search, (search, (search, (search, (search, tt)))))))

-- its records are those that the ledger reports
day_records : records after_closing ≡ day
day_records = refl
