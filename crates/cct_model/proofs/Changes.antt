-- Runs of sessions of change: one that is served by two hoppers, and one that falls short after a jam.
use Rattle.std.proofs.Common.{◌≡◌, inl, inr, false, arith, ℕ, List, [], ◌∷◌, ◌++◌, refl, Some, None}
use Rattle.std.specs.Prelude.{⊤}
use Rattle.cct_model.specs.terms.wire.CheckKind.TheVariants.{Simple}
use Rattle.cct_model.specs.terms.device.DeviceBody.TheVariants.{Hopper}
use Rattle.cct_model.specs.terms.device.Setup.{Setup}
use Rattle.cct_model.specs.lines.command.Command.TheVariants as command
use Rattle.cct_model.specs.lines.command.Step.TheVariants as step
use Rattle.cct_model.specs.lines.record.Record.TheVariants as record_of
use Rattle.cct_model.specs.lines.entry.Entry.{Entry}
use Rattle.cct_model.specs.lines.entry.Entry.TheVariants as entry
use Rattle.cct_model.specs.lines.entry.End.TheVariants as end_of
use Rattle.cct_model.specs.declared.change.Tray.{Tray}
use Rattle.cct_model.specs.AtDesk.{EntriesAtDesk}
use Rattle.cct_model.specs.Change.{Desk, clear_desk, desk_after}
use Rattle.cct_model.specs.Message.{message, spelling}
use Rattle.cct_model.specs.Request.{data_of, request_of, requests_with, form_of}
use Rattle.cct_model.specs.Reply.{reply_data, reply_in}
use Rattle.cct_model.specs.Setting.{has_place}
use Rattle.cct_model.specs.Acceptor.{acceptor_reply}
use Rattle.cct_model.specs.Hopper.{hopper_reply}
use Rattle.cct_model.specs.Device.{common_reply, reply_of}
use Rattle.cct_model.specs.Exchange.{ask, asked, asks_of, asker, after_echo, got}
use Rattle.cct_model.specs.Plan.{IsChosen, HasNoPlan}
use Rattle.cct_model.specs.Order.{life_between, close}
use Rattle.cct_model.specs.Transcript.{heard_after, got_by}
use Rattle.cct_model.specs.Reading.{distance, accepted_between, judge}
use Rattle.cct_model.proofs.Machine.{acceptor, hopper, texts, wire, funded, Row, one, both, after}

-- an acceptor, a hopper with coins of value 10, and one with coins of value 50
abbrev till : Setup
till = record {
  devices =
      acceptor ∷ hopper
      ∷ record { addr = 5; kind = Simple; serial = 5; texts = texts; named = false; body = Hopper 0 50 } ∷ [];
}

-- each of these rows has the entries of its step at the operator's desk, after the rows before it
abbrev PlaysAtDesk : List Entry → Desk → List Row → Type 0
PlaysAtDesk past desk [] = ⊤
PlaysAtDesk past desk (row ∷ rows) =
    EntriesAtDesk 65535 till past desk row.play row.news
    × PlaysAtDesk (row.news ++ past) (desk_after row.play row.news desk) rows

-- the desk after these rows
abbrev desk_past : Desk → List Row → Desk
desk_past desk [] = desk
desk_past desk (row ∷ rows) = desk_past (desk_after row.play row.news desk) rows

-- what is in the two hoppers
abbrev trays : ℕ → ℕ → List Tray
trays tens fifties = record { addr = 3; value = 10; stock = tens } ∷ record { addr = 5; value = 50; stock = fifties } ∷ []

-- a session of 70 begins
abbrev begins : List Row
begins =
    one step.Serve entry.ServeIdle
    ∷ one (step.Stock 3 10) (entry.Stock 3 10)
    ∷ one (step.Stock 5 2) (entry.Stock 5 2)
    ∷ one (step.Change 60 70) (entry.ChangeOk 60 70)
    ∷ one (step.Change 61 70) entry.ChangeNo
    ∷ []

-- it pays two coins of the first hopper, up to the dispense
abbrev pays_two : List Row
pays_two =
    one step.Serve (entry.Taken (command.Pay 3 60 2))
    ∷ one step.Serve (entry.ServeWait 3)
    ∷ one (step.Next 3) (wire 3 "030101a4a5b2" "030101a4a5b201000300fc")
    ∷ one (step.Next 3) (wire 3 "030001a854" "030001a85401030300fefffffd")
    ∷ one (step.Next 3) (entry.Put (record_of.Opened 60 3 2 16777214))
    ∷ one step.Serve (entry.ServeWait 3)
    ∷ one (step.Next 3) (wire 3 "030401a70102030249" "030401a7010203024901000300fc")
    ∷ []

-- both coins fall
abbrev fall_two : List Row
fall_two =
    one (step.Fall 3) (entry.Fell 3)
    ∷ one (step.Fall 3) (entry.Fell 3)
    ∷ one (step.Next 3) (wire 3 "030001a656" "030001a6560104030001000200f5")
    ∷ one (step.Next 3) (wire 3 "030001a854" "030001a85401030300000000f9")
    ∷ both (step.Next 3) (entry.Put (record_of.Closed 60 2 0)) (entry.Ended 3 end_of.Closed)
    ∷ []

-- then one of the other hopper
abbrev pays_fifty : List Row
pays_fifty =
    one step.Serve (entry.Taken (command.Pay 5 61 1))
    ∷ one (step.Next 5) (wire 5 "050101a4a5b0" "050101a4a5b001000500fa")
    ∷ one (step.Next 5) (wire 5 "050001a852" "050001a85201030500000000f7")
    ∷ one (step.Next 5) (entry.Put (record_of.Opened 61 5 1 0))
    ∷ one (step.Next 5) (wire 5 "050401a70500000149" "050401a7050000014901000500fa")
    ∷ one (step.Fall 5) (entry.Fell 5)
    ∷ one (step.Next 5) (wire 5 "050001a654" "050001a6540104050001000100f4")
    ∷ one (step.Next 5) (wire 5 "050001a852" "050001a85201030500010000f6")
    ∷ both (step.Next 5) (entry.Put (record_of.Closed 61 1 0)) (entry.Ended 5 end_of.Closed)
    ∷ one step.Serve (entry.Served 70)
    ∷ one step.Balance (entry.Balance (record { available = 30; reserved = 0; paid = 70; sold = 0 }))
    ∷ []

-- one falls, and the next jams
abbrev jams_one : List Row
jams_one =
    one (step.Fall 3) (entry.Fell 3)
    ∷ one (step.Jam 3) (entry.Jammed 3)
    ∷ one (step.Next 3) (wire 3 "030001a656" "030001a6560104030001000101f5")
    ∷ one (step.Next 3) (wire 3 "030001a854" "030001a85401030300fffffffc")
    ∷ both (step.Next 3) (entry.Put (record_of.Closed 60 1 1)) (entry.Ended 3 end_of.Closed)
    ∷ one step.Serve (entry.Short 10 60)
    ∷ one step.Serve entry.ServeIdle
    ∷ []

-- what the desk then knows
begun_known : desk_past (clear_desk till) begins
    ≡ record { session = Some (record { amount = 70; rest = 70; next = 60; due = None }); trays = trays 10 2 }
begun_known = refl

paid_known : desk_past (clear_desk till) (begins ++ pays_two ++ fall_two ++ pays_fifty)
    ≡ record { session = None; trays = trays 8 1 }
paid_known = refl

jammed_known : desk_past (clear_desk till) (begins ++ pays_two ++ jams_one)
    ≡ record { session = None; trays = trays 0 2 }
jammed_known = refl

-- the beginning is played at the operator's desk
begins_played : PlaysAtDesk funded (clear_desk till) begins
begins_played = search

-- where this plan is the chosen one, so are the payment, and the end that falls short
pays_played : IsChosen (trays 10 2) 70 (2 ∷ 1 ∷ []) →
    PlaysAtDesk (after funded begins) (desk_past (clear_desk till) begins) pays_two
unfolding message spelling data_of request_of requests_with form_of reply_data reply_in has_place acceptor_reply
    hopper_reply common_reply reply_of ask asked asks_of asker after_echo got heard_after got_by distance judge accepted_between
    life_between close
pays_played chosen = (
  inr (
    record { addr = 3; id = 60; count = 2 },
    record { counts = 2 ∷ 1 ∷ []; chosen = chosen; pays = refl; id = refl; within = omega arith },
    refl,
  ),
  search,
)

fall_played :
    PlaysAtDesk (after (after funded begins) pays_two) (desk_past (clear_desk till) (begins ++ pays_two)) fall_two
unfolding message spelling data_of request_of requests_with form_of reply_data reply_in has_place acceptor_reply
    hopper_reply common_reply reply_of ask asked asks_of asker after_echo got heard_after got_by distance judge accepted_between
    life_between close
fall_played = search

-- where no plan pays 60 from the other hopper alone, the jammed session falls short
jam_played : HasNoPlan (trays 0 2) 60 →
    PlaysAtDesk (after (after funded begins) pays_two) (desk_past (clear_desk till) (begins ++ pays_two)) jams_one
unfolding message spelling data_of request_of requests_with form_of reply_data reply_in has_place acceptor_reply
    hopper_reply common_reply reply_of ask asked asks_of asker after_echo got heard_after got_by distance judge accepted_between
    life_between close
jam_played none = (search, (search, (search, (search, (search, (inl (inl none, refl), search))))))

-- the other hopper's payment is played where its plan is the chosen one, and the session is served
served_played : IsChosen (trays 8 2) 50 (0 ∷ 1 ∷ []) →
    PlaysAtDesk (after (after (after funded begins) pays_two) fall_two)
    (desk_past (clear_desk till) (begins ++ pays_two ++ fall_two)) pays_fifty
unfolding message spelling data_of request_of requests_with form_of reply_data reply_in has_place acceptor_reply
    hopper_reply common_reply reply_of ask asked asks_of asker after_echo got heard_after got_by distance judge accepted_between
    life_between close
served_played chosen = (
  inr (
    record { addr = 5; id = 61; count = 1 },
    record { counts = 0 ∷ 1 ∷ []; chosen = chosen; pays = refl; id = refl; within = omega arith },
    refl,
  ),
  search,
)
