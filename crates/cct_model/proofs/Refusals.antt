-- Each test of each command, in its order: a past in which the later tests hold too.
use Rattle.std.proofs.Common.{◌≡◌, List, [], ◌∷◌, replicate, Some, None, refl}
use Rattle.cct_model.specs.terms.device.Setup.{Setup}
use Rattle.cct_model.specs.lines.command.Command.TheVariants.{Start, Round, Stop, Pay, Settle, Halt, Scan, Ident, Path, Vend}
use Rattle.cct_model.specs.lines.command.CommandNo.TheVariants.{NoDevice, WrongKind, Busy, EpochRuns, NoEpoch, NoValue, OrderOpen, NoOrder, NoPayout, OldId, Short, JournalFull}
use Rattle.cct_model.specs.lines.record.Record.TheVariants.{Epoch, Reading, EpochEnd, Opened, Closed, Sold}
use Rattle.cct_model.specs.lines.entry.Entry.{Entry}
use Rattle.cct_model.specs.lines.entry.Entry.TheVariants.{Taken, Put, Ended}
use Rattle.cct_model.specs.lines.entry.End.TheVariants as end_of
use Rattle.cct_model.specs.Message.{message, spelling}
use Rattle.cct_model.specs.Request.{request_of, requests_with, form_of}
use Rattle.cct_model.specs.Reply.{reply_in}
use Rattle.cct_model.specs.Setting.{has_place}
use Rattle.cct_model.specs.Exchange.{asked, asks_of, after_echo, got}
use Rattle.cct_model.specs.Transcript.{got_by}
use Rattle.cct_model.specs.Reading.{distance, judge, accepted_between}
use Rattle.cct_model.specs.Refusal.{refusal, held}
use Rattle.cct_model.proofs.Machine.{setup, acceptor_of, coin, wire}

-- an epoch runs and a coin of value 100 was posted, no job is running, and two records are used
abbrev posted : List Entry
posted = Ended 2 end_of.Posted ∷ Put (Reading 2 1 0 1 (coin 5 1 ∷ [])) ∷ Put (Epoch 2 65535 0) ∷ []

-- an order is open that no job is to close
abbrev owing : List Entry
owing = Put (Opened 41 3 4 0) ∷ posted

-- that order was closed
abbrev settled : List Entry
settled = Put (Closed 41 4 0) ∷ owing

-- a job is at each address, an order is open, and more than the journal takes is used
abbrev crowded : List Entry
crowded = Taken (Vend 7 10) ∷ Taken (Settle 3) ∷ Taken (Round 2) ∷ Taken Scan ∷ owing

-- a payment: at its first row, with the hopper enabled, with its life count read, with its order opened, with its coins
-- sent, and with nothing left to pay
abbrev paying : List Entry
paying = Taken (Pay 3 42 4) ∷ posted

abbrev awake : List Entry
awake = wire 3 "030101a4a5b2" "030101a4a5b201000300fc" ∷ paying

abbrev known : List Entry
known = wire 3 "030001a854" "030001a85401030300fefffffd" ∷ awake

abbrev opened : List Entry
opened = Put (Opened 42 3 4 16777214) ∷ known

abbrev sent : List Entry
sent = wire 3 "030401a70102030447" "030401a7010203044701000300fc" ∷ opened

abbrev empty : List Entry
empty = wire 3 "030001a656" "030001a6560104030001000400f3" ∷ sent

-- an acceptor whose places 3 and 5 have no value
abbrev sparse : Setup
sparse = record { devices = acceptor_of (100 ∷ 100 ∷ 0 ∷ 100 ∷ 0 ∷ replicate 11 100) ∷ [] }

-- a start
start_nowhere : refusal 0 setup crowded (Start 9 65535) ≡ Some NoDevice
start_nowhere = refl

start_at_hopper : refusal 0 setup crowded (Start 3 65535) ≡ Some WrongKind
start_at_hopper = refl

start_busy : refusal 0 setup crowded (Start 2 65535) ≡ Some Busy
start_busy = refl

start_twice : refusal 0 sparse posted (Start 2 65535) ≡ Some EpochRuns
start_twice = refl

start_without_value : refusal 0 sparse [] (Start 2 65535) ≡ Some (NoValue 3)
unfolding has_place
start_without_value = refl

start_without_later_value : refusal 0 sparse [] (Start 2 16) ≡ Some (NoValue 5)
unfolding has_place
start_without_later_value = refl

start_full : refusal 0 sparse [] (Start 2 3) ≡ Some (JournalFull 0 0 1)
unfolding has_place
start_full = refl

start_last : refusal 1 sparse [] (Start 2 3) ≡ None
unfolding has_place
start_last = refl

start_again : refusal 4 sparse (Put (EpochEnd 2) ∷ posted) (Start 2 3) ≡ None
unfolding has_place
start_again = refl

-- a round
round_nowhere : refusal 0 setup crowded (Round 9) ≡ Some NoDevice
round_nowhere = refl

round_at_hopper : refusal 0 setup crowded (Round 3) ≡ Some WrongKind
round_at_hopper = refl

round_busy : refusal 0 setup (Taken (Round 2) ∷ []) (Round 2) ≡ Some Busy
round_busy = refl

round_idle : refusal 0 setup [] (Round 2) ≡ Some NoEpoch
round_idle = refl

round_ended : refusal 0 setup (Put (EpochEnd 2) ∷ posted) (Round 2) ≡ Some NoEpoch
round_ended = refl

round_full : refusal 2 setup posted (Round 2) ≡ Some (JournalFull 2 0 1)
round_full = refl

round_last : refusal 3 setup posted (Round 2) ≡ None
round_last = refl

-- a stop
stop_nowhere : refusal 0 setup crowded (Stop 9) ≡ Some NoDevice
stop_nowhere = refl

stop_at_hopper : refusal 0 setup crowded (Stop 3) ≡ Some WrongKind
stop_at_hopper = refl

stop_busy : refusal 0 setup (Taken (Round 2) ∷ []) (Stop 2) ≡ Some Busy
stop_busy = refl

stop_idle : refusal 0 setup [] (Stop 2) ≡ Some NoEpoch
stop_idle = refl

stop_ended : refusal 0 setup (Put (EpochEnd 2) ∷ posted) (Stop 2) ≡ Some NoEpoch
stop_ended = refl

stop_full : refusal 3 setup posted (Stop 2) ≡ Some (JournalFull 2 0 2)
stop_full = refl

stop_last : refusal 4 setup posted (Stop 2) ≡ None
stop_last = refl

-- a payment
pay_nowhere : refusal 0 setup crowded (Pay 9 41 255) ≡ Some NoDevice
pay_nowhere = refl

pay_at_acceptor : refusal 0 setup crowded (Pay 2 41 255) ≡ Some WrongKind
pay_at_acceptor = refl

pay_busy : refusal 0 setup crowded (Pay 3 41 255) ≡ Some Busy
pay_busy = refl

pay_open : refusal 0 setup owing (Pay 3 41 255) ≡ Some (OrderOpen 41)
pay_open = refl

pay_old : refusal 0 setup settled (Pay 3 41 255) ≡ Some (OldId 41)
pay_old = refl

pay_old_of_sale : refusal 0 setup (Taken (Vend 50 1) ∷ settled) (Pay 3 50 255) ≡ Some (OldId 50)
pay_old_of_sale = refl

pay_short : refusal 0 setup settled (Pay 3 42 255) ≡ Some (Short 60)
pay_short = refl

pay_just_short : refusal 0 setup settled (Pay 3 42 7) ≡ Some (Short 60)
pay_just_short = refl

-- the journal of three records that has two finds no room for the two of a payment
pay_full : refusal 3 setup posted (Pay 3 41 4) ≡ Some (JournalFull 2 0 2)
pay_full = refl

pay_last : refusal 4 setup posted (Pay 3 41 10) ≡ None
pay_last = refl

pay_full_beside_a_round : refusal 4 setup (Taken (Round 2) ∷ posted) (Pay 3 41 10) ≡ Some (JournalFull 2 1 2)
pay_full_beside_a_round = refl

-- a payment that has put nothing reserves its coins, and so does an open order
pay_reserved : refusal 65535 setup (Taken (Vend 50 70) ∷ posted) (Pay 3 51 4) ≡ Some (Short 30)
pay_reserved = refl

vend_beside_payment : refusal 65535 setup paying (Vend 43 61) ≡ Some (Short 60)
vend_beside_payment = refl

vend_beside_order : refusal 65535 setup owing (Vend 43 61) ≡ Some (Short 60)
vend_beside_order = refl

vend_behind_opened : refusal 65535 setup opened (Vend 43 61) ≡ Some (Short 60)
unfolding message spelling request_of requests_with form_of reply_in asked asks_of after_echo got got_by
vend_behind_opened = refl

-- a settlement
settle_nowhere : refusal 0 setup crowded (Settle 9) ≡ Some NoDevice
settle_nowhere = refl

settle_at_acceptor : refusal 0 setup crowded (Settle 2) ≡ Some WrongKind
settle_at_acceptor = refl

settle_busy : refusal 0 setup crowded (Settle 3) ≡ Some Busy
settle_busy = refl

settle_nothing : refusal 0 setup settled (Settle 3) ≡ Some NoOrder
settle_nothing = refl

settle_full : refusal 3 setup owing (Settle 3) ≡ Some (JournalFull 3 1 0)
settle_full = refl

settle_last : refusal 4 setup owing (Settle 3) ≡ None
settle_last = refl

-- a halt, which is taken up to the look that shows nothing left to pay
halt_nowhere : refusal 0 setup sent (Halt 9) ≡ Some NoDevice
halt_nowhere = refl

halt_at_acceptor : refusal 0 setup sent (Halt 2) ≡ Some WrongKind
halt_at_acceptor = refl

halt_idle : refusal 0 setup owing (Halt 3) ≡ Some NoPayout
halt_idle = refl

halt_other : refusal 0 setup (Taken (Ident 3) ∷ owing) (Halt 3) ≡ Some NoPayout
halt_other = refl

halt_first : refusal 0 setup paying (Halt 3) ≡ None
halt_first = refl

halt_sent : refusal 0 setup sent (Halt 3) ≡ None
unfolding message spelling request_of requests_with form_of reply_in asked asks_of after_echo got got_by
halt_sent = refl

halt_empty : refusal 0 setup empty (Halt 3) ≡ Some NoPayout
unfolding message spelling request_of requests_with form_of reply_in asked asks_of after_echo got got_by
halt_empty = refl

halt_settling : refusal 0 setup (Taken (Settle 3) ∷ owing) (Halt 3) ≡ None
halt_settling = refl

halt_settled : refusal 0 setup (wire 3 "030001a656" "030001a6560104030001000400f3" ∷ Taken (Settle 3) ∷ owing) (Halt 3) ≡ Some NoPayout
unfolding message spelling request_of requests_with form_of reply_in asked asks_of after_echo got got_by
halt_settled = refl

-- a scan, an identification and the setting of a path
scan_busy : refusal 0 setup crowded (Scan) ≡ Some Busy
scan_busy = refl

scan_free : refusal 0 setup posted (Scan) ≡ None
scan_free = refl

ident_nowhere : refusal 0 setup crowded (Ident 9) ≡ Some NoDevice
ident_nowhere = refl

ident_busy : refusal 0 setup crowded (Ident 3) ≡ Some Busy
ident_busy = refl

ident_free : refusal 0 setup posted (Ident 3) ≡ None
ident_free = refl

path_nowhere : refusal 0 setup crowded (Path 9 1 1) ≡ Some NoDevice
path_nowhere = refl

path_at_hopper : refusal 0 setup crowded (Path 3 1 1) ≡ Some WrongKind
path_at_hopper = refl

path_busy : refusal 0 setup crowded (Path 2 1 1) ≡ Some Busy
path_busy = refl

path_free : refusal 0 setup posted (Path 2 1 1) ≡ None
path_free = refl

-- a sale
vend_busy : refusal 0 setup crowded (Vend 7 255) ≡ Some Busy
vend_busy = refl

vend_old : refusal 0 setup settled (Vend 41 255) ≡ Some (OldId 41)
vend_old = refl

vend_old_of_payment : refusal 0 setup paying (Vend 42 255) ≡ Some (OldId 42)
vend_old_of_payment = refl

vend_old_of_sale : refusal 0 setup (Put (Sold 9 10) ∷ posted) (Vend 8 255) ≡ Some (OldId 9)
vend_old_of_sale = refl

vend_short : refusal 0 setup posted (Vend 5 101) ≡ Some (Short 100)
vend_short = refl

vend_full : refusal 2 setup posted (Vend 5 100) ≡ Some (JournalFull 2 0 1)
vend_full = refl

vend_last : refusal 3 setup posted (Vend 5 100) ≡ None
vend_last = refl

-- an id of a job that put nothing is free again after its end
id_given_up : refusal 65535 setup (Ended 3 end_of.NoAnswer ∷ paying) (Pay 3 42 4) ≡ None
id_given_up = refl

-- how many records are held: by an order without a job, by a payment up to its opened order and after it
holds_nothing : held setup posted ≡ 0
holds_nothing = refl

holds_order : held setup owing ≡ 1
holds_order = refl

holds_closed : held setup settled ≡ 0
holds_closed = refl

holds_payment : held setup paying ≡ 2
holds_payment = refl

holds_known : held setup known ≡ 2
unfolding message spelling request_of requests_with form_of reply_in asked asks_of after_echo got got_by
holds_known = refl

holds_opened : held setup opened ≡ 1
unfolding message spelling request_of requests_with form_of reply_in asked asks_of after_echo got got_by
holds_opened = refl

holds_empty : held setup empty ≡ 1
unfolding message spelling request_of requests_with form_of reply_in asked asks_of after_echo got got_by
holds_empty = refl

holds_given_up : held setup (Ended 3 end_of.NoAnswer ∷ opened) ≡ 1
unfolding message spelling request_of requests_with form_of reply_in asked asks_of after_echo got got_by
holds_given_up = refl

-- by a settlement, by an identification beside an open order, by a round, by a sale
holds_settlement : held setup (Taken (Settle 3) ∷ owing) ≡ 1
holds_settlement = refl

holds_identification : held setup (Taken (Ident 3) ∷ owing) ≡ 1
holds_identification = refl

holds_round : held setup (Taken (Round 2) ∷ posted) ≡ 1
holds_round = refl

holds_sale : held setup (Taken (Vend 7 10) ∷ posted) ≡ 1
holds_sale = refl

holds_all : held setup crowded ≡ 3
holds_all = refl

-- by a start up to its put, and by a stop up to its last row
holds_start : held setup (Taken (Start 2 65535) ∷ []) ≡ 1
holds_start = refl

holds_start_put : held setup (wire 2 "020001e11c" "020001e11c01030200000000fa" ∷ wire 2 "020001e518" "020001e518010b02000000000000000000000000f2" ∷ wire 2 "02000101fc" "02000101fc01000200fd" ∷ Taken (Start 2 65535) ∷ []) ≡ 1
unfolding message spelling request_of requests_with form_of reply_in asked asks_of after_echo got got_by
holds_start_put = refl

holds_started : held setup (Put (Epoch 2 65535 0) ∷ wire 2 "020001e11c" "020001e11c01030200000000fa" ∷ wire 2 "020001e518" "020001e518010b02000000000000000000000000f2" ∷ wire 2 "02000101fc" "02000101fc01000200fd" ∷ Taken (Start 2 65535) ∷ []) ≡ 0
unfolding message spelling request_of requests_with form_of reply_in asked asks_of after_echo got got_by
holds_started = refl

holds_stop : held setup (Taken (Stop 2) ∷ posted) ≡ 2
holds_stop = refl

holds_stop_quiet : held setup (wire 2 "020001e11c" "020001e11c01030200010000f9" ∷ wire 2 "020001e617" "020001e61701020200fffffd" ∷ wire 2 "020001e518" "020001e518010b02000105010000000000000000eb" ∷ wire 2 "020001e11c" "020001e11c01030200010000f9" ∷ wire 2 "020101e40018" "020101e4001801000200fd" ∷ Taken (Stop 2) ∷ posted) ≡ 1
unfolding message spelling request_of requests_with form_of reply_in asked asks_of after_echo got got_by distance judge accepted_between
holds_stop_quiet = refl

holds_stop_reading : held setup (wire 2 "020001e11c" "020001e11c01030200010000f9" ∷ wire 2 "020001e617" "020001e61701020200fffffd" ∷ wire 2 "020001e518" "020001e518010b02000105010000000000000000eb" ∷ wire 2 "020001e11c" "020001e11c01030200010000f9" ∷ wire 2 "020101e40018" "020101e4001801000200fd" ∷ Taken (Stop 2) ∷ Put (Epoch 2 65535 0) ∷ []) ≡ 2
unfolding message spelling request_of requests_with form_of reply_in asked asks_of after_echo got got_by distance judge accepted_between
holds_stop_reading = refl

holds_stop_read : held setup (Put (Reading 2 1 0 1 (coin 5 1 ∷ [])) ∷ wire 2 "020001e11c" "020001e11c01030200010000f9" ∷ wire 2 "020001e617" "020001e61701020200fffffd" ∷ wire 2 "020001e518" "020001e518010b02000105010000000000000000eb" ∷ wire 2 "020001e11c" "020001e11c01030200010000f9" ∷ wire 2 "020101e40018" "020101e4001801000200fd" ∷ Taken (Stop 2) ∷ Put (Epoch 2 65535 0) ∷ []) ≡ 1
unfolding message spelling request_of requests_with form_of reply_in asked asks_of after_echo got got_by distance judge accepted_between
holds_stop_read = refl
