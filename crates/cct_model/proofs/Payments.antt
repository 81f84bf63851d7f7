-- Payments and a sale, row by row: the bytes that are sent and heard, the records put, and how each job ends.
use Rattle.std.proofs.Common.{[], ◌∷◌, ◌++◌, List}
use Rattle.cct_model.specs.Message.{message, spelling}
use Rattle.cct_model.specs.Request.{data_of, request_of, requests_with, form_of}
use Rattle.cct_model.specs.Reply.{reply_data, reply_in}
use Rattle.cct_model.specs.Setting.{has_place}
use Rattle.cct_model.specs.Acceptor.{acceptor_reply}
use Rattle.cct_model.specs.Hopper.{hopper_reply}
use Rattle.cct_model.specs.Device.{common_reply, reply_of}
use Rattle.cct_model.specs.Exchange.{ask, asked, asks_of, asker, after_echo, got}
use Rattle.cct_model.specs.Transcript.{heard_after, got_by}
use Rattle.cct_model.specs.Reading.{distance, judge, accepted_between}
use Rattle.cct_model.specs.Order.{life_between, close}
use Rattle.cct_model.specs.lines.command.Step.TheVariants as step
use Rattle.cct_model.specs.lines.command.Command.TheVariants as command
use Rattle.cct_model.specs.lines.command.CommandNo.TheVariants as command_no
use Rattle.cct_model.specs.lines.command.WireFault.TheVariants as fault
use Rattle.cct_model.specs.lines.record.Record.TheVariants as record_of
use Rattle.cct_model.specs.lines.entry.Entry.TheVariants as entry
use Rattle.cct_model.specs.lines.entry.End.TheVariants as end_of
use Rattle.cct_model.proofs.Machine.{Row, Plays, AllPlay, setup, funding, funded, ordered, dispensed, paid_out, one, both, wire}

funding_plays : Plays 65535 setup [] funding
unfolding message spelling data_of request_of requests_with form_of reply_data reply_in has_place acceptor_reply
    hopper_reply common_reply reply_of ask asked asks_of asker after_echo got heard_after got_by distance judge accepted_between
    life_between close
funding_plays = search

-- a payment of two coins, up to its dispense
abbrev dispensed_two : List Row
dispensed_two =
    one (step.Command (command.Pay 3 41 2)) (entry.Taken (command.Pay 3 41 2))
    ∷ one (step.Next 3) (wire 3 "030101a4a5b2" "030101a4a5b201000300fc")
    ∷ one (step.Next 3) (wire 3 "030001a854" "030001a85401030300fefffffd")
    ∷ one (step.Next 3) (entry.Put (record_of.Opened 41 3 2 16777214))
    ∷ one (step.Next 3) (wire 3 "030401a70102030249" "030401a7010203024901000300fc")
    ∷ []

-- with two lost looks at the payout
abbrev looked_twice : List Row
looked_twice =
    dispensed_two
    ++ one (step.Fault (fault.HostHears [])) (entry.Fault (fault.HostHears []))
    ∷ one (step.Next 3) (wire 3 "030001a656" "030001a656")
    ∷ one (step.Fault (fault.HostHears [])) (entry.Fault (fault.HostHears []))
    ∷ one (step.Next 3) (wire 3 "030001a656" "030001a656")
    ∷ []

-- a halt, and two lost stops
abbrev stopped_twice : List Row
stopped_twice =
    looked_twice
    ++ one (step.Command (command.Halt 3)) (entry.Taken (command.Halt 3))
    ∷ one (step.Fault (fault.HostHears [])) (entry.Fault (fault.HostHears []))
    ∷ one (step.Next 3) (wire 3 "030001ac50" "030001ac50")
    ∷ one (step.Fault (fault.HostHears [])) (entry.Fault (fault.HostHears []))
    ∷ one (step.Next 3) (wire 3 "030001ac50" "030001ac50")
    ∷ []

-- every coin falls; the life count goes from 2 ^ 24 - 1 to 0 meanwhile
abbrev pub paid : List Row
paid =
    paid_out
    ++ both (step.Next 3) (entry.Put (record_of.Closed 41 4 0)) (entry.Ended 3 end_of.Closed)
    ∷ []

-- the reply to the dispense is lost and the hopper is reset: the life count still says what fell
abbrev pub lost_ack : List Row
lost_ack =
    ordered
    ++ one (step.Fault (fault.HostHears [])) (entry.Fault (fault.HostHears []))
    ∷ one (step.Next 3) (wire 3 "030401a70102030447" "030401a70102030447")
    ∷ one (step.Fall 3) (entry.Fell 3)
    ∷ one (step.Fall 3) (entry.Fell 3)
    ∷ one (step.Reset 3) (entry.Reset 3)
    ∷ one (step.Next 3) (wire 3 "030001a656" "030001a6560104030000000000f8")
    ∷ one (step.Next 3) (wire 3 "030001a854" "030001a85401030300000000f9")
    ∷ both (step.Next 3) (entry.Put (record_of.Closed 41 2 2)) (entry.Ended 3 end_of.Closed)
    ∷ []

-- the dispense itself is lost: no coin falls, and it is not sent again
abbrev lost_dispense : List Row
lost_dispense =
    ordered
    ++ one (step.Fault (fault.DevicesHear [])) (entry.Fault (fault.DevicesHear []))
    ∷ one (step.Next 3) (wire 3 "030401a70102030447" "030401a70102030447")
    ∷ one (step.Fall 3) (entry.NoFall 3)
    ∷ one (step.Fall 3) (entry.NoFall 3)
    ∷ one (step.Next 3) (wire 3 "030001a656" "030001a6560104030000000000f8")
    ∷ one (step.Next 3) (wire 3 "030001a854" "030001a85401030300fefffffd")
    ∷ both (step.Next 3) (entry.Put (record_of.Closed 41 0 4)) (entry.Ended 3 end_of.Closed)
    ∷ []

-- three lost replies end a payment; its order stays open, and is settled later
abbrev given_up : List Row
given_up =
    dispensed_two
    ++ one (step.Fall 3) (entry.Fell 3)
    ∷ one (step.Fall 3) (entry.Fell 3)
    ∷ one (step.Fault (fault.HostHears [])) (entry.Fault (fault.HostHears []))
    ∷ one (step.Next 3) (wire 3 "030001a656" "030001a656")
    ∷ one (step.Fault (fault.HostHears [])) (entry.Fault (fault.HostHears []))
    ∷ one (step.Next 3) (wire 3 "030001a656" "030001a656")
    ∷ one (step.Fault (fault.HostHears [])) (entry.Fault (fault.HostHears []))
    ∷ both (step.Next 3) (wire 3 "030001a656" "030001a656") (entry.Ended 3 end_of.NoAnswer)
    ∷ one (step.Command (command.Pay 3 42 1)) (entry.No (command.Pay 3 42 1) (command_no.OrderOpen 41))
    ∷ one (step.Command (command.Settle 3)) (entry.Taken (command.Settle 3))
    ∷ one (step.Next 3) (wire 3 "030001a656" "030001a6560104030001000200f5")
    ∷ one (step.Next 3) (wire 3 "030001a854" "030001a85401030300000000f9")
    ∷ both (step.Next 3) (entry.Put (record_of.Closed 41 2 0)) (entry.Ended 3 end_of.Closed)
    ∷ one (step.Command (command.Settle 3)) (entry.No (command.Settle 3) command_no.NoOrder)
    ∷ []

-- a halt stops the payout half way; the rest is unpaid and is available again
abbrev pub halted : List Row
halted =
    one (step.Command (command.Pay 3 42 6)) (entry.Taken (command.Pay 3 42 6))
    ∷ one (step.Next 3) (wire 3 "030101a4a5b2" "030101a4a5b201000300fc")
    ∷ one (step.Next 3) (wire 3 "030001a854" "030001a85401030300fefffffd")
    ∷ one (step.Next 3) (entry.Put (record_of.Opened 42 3 6 16777214))
    ∷ one (step.Next 3) (wire 3 "030401a70102030645" "030401a7010203064501000300fc")
    ∷ one (step.Fall 3) (entry.Fell 3)
    ∷ one (step.Fall 3) (entry.Fell 3)
    ∷ one (step.Command (command.Halt 3)) (entry.Taken (command.Halt 3))
    ∷ one (step.Next 3) (wire 3 "030001ac50" "030001ac500101030004f7")
    ∷ one (step.Next 3) (wire 3 "030001a656" "030001a6560104030001000204f1")
    ∷ one (step.Next 3) (wire 3 "030001a854" "030001a85401030300000000f9")
    ∷ both (step.Next 3) (entry.Put (record_of.Closed 42 2 4)) (entry.Ended 3 end_of.Closed)
    ∷ one (step.Command (command.Pay 3 42 1)) (entry.No (command.Pay 3 42 1) (command_no.OldId 42))
    ∷ one (step.Command (command.Pay 3 43 255)) (entry.No (command.Pay 3 43 255) (command_no.Short 80))
    ∷ one (step.Command (command.Halt 3)) (entry.No (command.Halt 3) command_no.NoPayout)
    ∷ []

-- a second halt after the first stop sends a second one, which stops nothing
abbrev halted_twice : List Row
halted_twice =
    dispensed
    ++ one (step.Fall 3) (entry.Fell 3)
    ∷ one (step.Command (command.Halt 3)) (entry.Taken (command.Halt 3))
    ∷ one (step.Next 3) (wire 3 "030001ac50" "030001ac500101030003f8")
    ∷ one (step.Command (command.Halt 3)) (entry.Taken (command.Halt 3))
    ∷ one (step.Next 3) (wire 3 "030001ac50" "030001ac500101030000fb")
    ∷ one (step.Next 3) (wire 3 "030001a656" "030001a6560104030001000103f3")
    ∷ one (step.Next 3) (wire 3 "030001a854" "030001a85401030300fffffffc")
    ∷ both (step.Next 3) (entry.Put (record_of.Closed 41 1 3)) (entry.Ended 3 end_of.Closed)
    ∷ []

-- a second halt before the stop changes nothing
abbrev halted_at_once : List Row
halted_at_once =
    dispensed
    ++ one (step.Command (command.Halt 3)) (entry.Taken (command.Halt 3))
    ∷ one (step.Command (command.Halt 3)) (entry.Taken (command.Halt 3))
    ∷ one (step.Next 3) (wire 3 "030001ac50" "030001ac500101030004f7")
    ∷ one (step.Next 3) (wire 3 "030001a656" "030001a6560104030001000004f3")
    ∷ one (step.Next 3) (wire 3 "030001a854" "030001a85401030300fefffffd")
    ∷ both (step.Next 3) (entry.Put (record_of.Closed 41 0 4)) (entry.Ended 3 end_of.Closed)
    ∷ []

-- a halt at the first row: the stop comes before the first look at the payout
abbrev halted_early : List Row
halted_early =
    one (step.Command (command.Pay 3 41 4)) (entry.Taken (command.Pay 3 41 4))
    ∷ one (step.Command (command.Halt 3)) (entry.Taken (command.Halt 3))
    ∷ one (step.Next 3) (wire 3 "030101a4a5b2" "030101a4a5b201000300fc")
    ∷ one (step.Next 3) (wire 3 "030001a854" "030001a85401030300fefffffd")
    ∷ one (step.Next 3) (entry.Put (record_of.Opened 41 3 4 16777214))
    ∷ one (step.Next 3) (wire 3 "030401a70102030447" "030401a7010203044701000300fc")
    ∷ one (step.Next 3) (wire 3 "030001ac50" "030001ac500101030004f7")
    ∷ one (step.Next 3) (wire 3 "030001a656" "030001a6560104030001000004f3")
    ∷ one (step.Next 3) (wire 3 "030001a854" "030001a85401030300fefffffd")
    ∷ both (step.Next 3) (entry.Put (record_of.Closed 41 0 4)) (entry.Ended 3 end_of.Closed)
    ∷ []

-- a stop is a row of its own: two tries of the look, two of the stop and two of the next look end nothing
abbrev tries_anew : List Row
tries_anew =
    stopped_twice
    ++ one (step.Next 3) (wire 3 "030001ac50" "030001ac500101030000fb")
    ∷ one (step.Fault (fault.HostHears [])) (entry.Fault (fault.HostHears []))
    ∷ one (step.Next 3) (wire 3 "030001a656" "030001a656")
    ∷ one (step.Fault (fault.HostHears [])) (entry.Fault (fault.HostHears []))
    ∷ one (step.Next 3) (wire 3 "030001a656" "030001a656")
    ∷ one (step.Next 3) (wire 3 "030001a656" "030001a6560104030001000002f5")
    ∷ one (step.Next 3) (wire 3 "030001a854" "030001a85401030300fefffffd")
    ∷ both (step.Next 3) (entry.Put (record_of.Closed 41 0 2)) (entry.Ended 3 end_of.Closed)
    ∷ []

-- three lost replies to a stop end a payment, and a settlement may be halted until its look shows 0
abbrev stop_given_up : List Row
stop_given_up =
    stopped_twice
    ++ one (step.Fault (fault.HostHears [])) (entry.Fault (fault.HostHears []))
    ∷ both (step.Next 3) (wire 3 "030001ac50" "030001ac50") (entry.Ended 3 end_of.NoAnswer)
    ∷ one (step.Command (command.Halt 3)) (entry.No (command.Halt 3) command_no.NoPayout)
    ∷ one (step.Command (command.Settle 3)) (entry.Taken (command.Settle 3))
    ∷ one (step.Command (command.Halt 3)) (entry.Taken (command.Halt 3))
    ∷ one (step.Next 3) (wire 3 "030001ac50" "030001ac500101030000fb")
    ∷ one (step.Next 3) (wire 3 "030001a656" "030001a6560104030001000002f5")
    ∷ one (step.Command (command.Halt 3)) (entry.No (command.Halt 3) command_no.NoPayout)
    ∷ one (step.Next 3) (wire 3 "030001a854" "030001a85401030300fefffffd")
    ∷ both (step.Next 3) (entry.Put (record_of.Closed 41 0 2)) (entry.Ended 3 end_of.Closed)
    ∷ []

-- a look that shows coins left to pay is answered: it ends the tries before it
abbrev tries_go_on : List Row
tries_go_on =
    looked_twice
    ++ one (step.Next 3) (wire 3 "030001a656" "030001a6560104030001020000f5")
    ∷ one (step.Fault (fault.HostHears [])) (entry.Fault (fault.HostHears []))
    ∷ one (step.Next 3) (wire 3 "030001a656" "030001a656")
    ∷ one (step.Fault (fault.HostHears [])) (entry.Fault (fault.HostHears []))
    ∷ one (step.Next 3) (wire 3 "030001a656" "030001a656")
    ∷ one (step.Fall 3) (entry.Fell 3)
    ∷ one (step.Next 3) (wire 3 "030001a656" "030001a6560104030001010100f5")
    ∷ one (step.Fall 3) (entry.Fell 3)
    ∷ one (step.Next 3) (wire 3 "030001a656" "030001a6560104030001000200f5")
    ∷ one (step.Next 3) (wire 3 "030001a854" "030001a85401030300000000f9")
    ∷ both (step.Next 3) (entry.Put (record_of.Closed 41 2 0)) (entry.Ended 3 end_of.Closed)
    ∷ []

-- a jam ends the payout, and what falls or jams afterwards is nothing
abbrev jammed : List Row
jammed =
    dispensed
    ++ one (step.Fall 3) (entry.Fell 3)
    ∷ one (step.Jam 3) (entry.Jammed 3)
    ∷ one (step.Fall 3) (entry.NoFall 3)
    ∷ one (step.Jam 3) (entry.NoJam 3)
    ∷ one (step.Next 3) (wire 3 "030001a656" "030001a6560104030001000103f3")
    ∷ one (step.Next 3) (wire 3 "030001a854" "030001a85401030300fffffffc")
    ∷ both (step.Next 3) (entry.Put (record_of.Closed 41 1 3)) (entry.Ended 3 end_of.Closed)
    ∷ []

-- a hopper that was reset before its dispense refuses it, and pays nothing
abbrev refused_dispense : List Row
refused_dispense =
    ordered
    ++ one (step.Reset 3) (entry.Reset 3)
    ∷ one (step.Next 3) (wire 3 "030401a70102030447" "030401a7010203044701000305f7")
    ∷ one (step.Fall 3) (entry.NoFall 3)
    ∷ one (step.Next 3) (wire 3 "030001a656" "030001a6560104030000000000f8")
    ∷ one (step.Next 3) (wire 3 "030001a854" "030001a85401030300fefffffd")
    ∷ both (step.Next 3) (entry.Put (record_of.Closed 41 0 4)) (entry.Ended 3 end_of.Closed)
    ∷ []

-- a second order begins at the life count of the first
abbrev pub one_after_another : List Row
one_after_another =
    one (step.Command (command.Pay 3 41 1)) (entry.Taken (command.Pay 3 41 1))
    ∷ one (step.Next 3) (wire 3 "030101a4a5b2" "030101a4a5b201000300fc")
    ∷ one (step.Next 3) (wire 3 "030001a854" "030001a85401030300fefffffd")
    ∷ one (step.Next 3) (entry.Put (record_of.Opened 41 3 1 16777214))
    ∷ one (step.Next 3) (wire 3 "030401a7010203014a" "030401a7010203014a01000300fc")
    ∷ one (step.Fall 3) (entry.Fell 3)
    ∷ one (step.Next 3) (wire 3 "030001a656" "030001a6560104030001000100f6")
    ∷ one (step.Next 3) (wire 3 "030001a854" "030001a85401030300fffffffc")
    ∷ both (step.Next 3) (entry.Put (record_of.Closed 41 1 0)) (entry.Ended 3 end_of.Closed)
    ∷ one (step.Command (command.Pay 3 42 2)) (entry.Taken (command.Pay 3 42 2))
    ∷ one (step.Next 3) (wire 3 "030101a4a5b2" "030101a4a5b201000300fc")
    ∷ one (step.Next 3) (wire 3 "030001a854" "030001a85401030300fffffffc")
    ∷ one (step.Next 3) (entry.Put (record_of.Opened 42 3 2 16777215))
    ∷ one (step.Next 3) (wire 3 "030401a70102030249" "030401a7010203024901000300fc")
    ∷ one (step.Fall 3) (entry.Fell 3)
    ∷ one (step.Fall 3) (entry.Fell 3)
    ∷ one (step.Next 3) (wire 3 "030001a656" "030001a6560104030002000200f4")
    ∷ one (step.Next 3) (wire 3 "030001a854" "030001a85401030300010000f8")
    ∷ both (step.Next 3) (entry.Put (record_of.Closed 42 2 0)) (entry.Ended 3 end_of.Closed)
    ∷ []

-- a sale takes its price from what is available; a second one with its id, and one beyond what is left, are refused
abbrev sold : List Row
sold =
    one (step.Command (command.Vend 5 30)) (entry.Taken (command.Vend 5 30))
    ∷ both (step.Next 1) (entry.Put (record_of.Sold 5 30)) (entry.Ended 1 end_of.Sold)
    ∷ one (step.Command (command.Vend 5 10)) (entry.No (command.Vend 5 10) (command_no.OldId 5))
    ∷ one (step.Command (command.Vend 6 100)) (entry.No (command.Vend 6 100) (command_no.Short 70))
    ∷ one step.Balance (entry.Balance (record { available = 70; reserved = 0; paid = 0; sold = 30 }))
    ∷ []

-- each of these runs is played
payments_play : AllPlay setup funded (paid ∷ lost_ack ∷ lost_dispense ∷ given_up ∷ halted ∷ halted_twice ∷ halted_at_once ∷ halted_early ∷ tries_anew ∷ stop_given_up ∷ tries_go_on ∷ jammed ∷ refused_dispense ∷ one_after_another ∷ sold ∷ [])
unfolding message spelling data_of request_of requests_with form_of reply_data reply_in has_place acceptor_reply
    hopper_reply common_reply reply_of ask asked asks_of asker after_echo got heard_after got_by distance judge accepted_between
    life_between close
payments_play = (search, (search, (search, (search, (search, (search, (search, (search, (search, (search, (search, (search, (search, (search, (search, tt)))))))))))))))
