-- Runs of a bill acceptor: a bill is held and read, stacked and posted; the answer to a route is lost; a bill is put in while
-- another is held, given back, and held over a reset.
use Rattle.std.proofs.Common.{false, List, [], ◌∷◌, ◌++◌, replicate}
use Rattle.std.specs.Prelude.{codes}
use Rattle.cct_model.specs.terms.wire.CheckKind.TheVariants.{Simple}
use Rattle.cct_model.specs.terms.device.DeviceBody.TheVariants.{Bill}
use Rattle.cct_model.specs.terms.device.Setup.{Setup}
use Rattle.cct_model.specs.lines.command.Command.TheVariants as command
use Rattle.cct_model.specs.lines.command.CommandNo.TheVariants.{NoEpoch, WrongKind}
use Rattle.cct_model.specs.lines.command.Step.TheVariants as step
use Rattle.cct_model.specs.lines.command.WireFault.TheVariants as fault
use Rattle.cct_model.specs.lines.record.Record.TheVariants as record_of
use Rattle.cct_model.specs.lines.entry.Entry.TheVariants as entry
use Rattle.cct_model.specs.lines.entry.End.TheVariants as end_of
use Rattle.cct_model.specs.Message.{message, spelling}
use Rattle.cct_model.specs.Request.{data_of, request_of, requests_with, form_of}
use Rattle.cct_model.specs.Reply.{reply_data, reply_in}
use Rattle.cct_model.specs.Setting.{has_place}
use Rattle.cct_model.specs.Bill.{bill_reply}
use Rattle.cct_model.specs.Device.{common_reply, reply_of}
use Rattle.cct_model.specs.Exchange.{ask, asked, asks_of, asker, after_echo, got}
use Rattle.cct_model.specs.Transcript.{heard_after, got_by}
use Rattle.cct_model.specs.Reading.{distance, accepted_between, judge}
use Rattle.cct_model.proofs.Machine.{texts, coin, wire, Row, AllPlay, one, both, after}

-- a bill acceptor whose bill of place 1 is worth 500
abbrev bank : Setup
bank = record {
  devices =
      record {
        addr = 4;
        kind = Simple;
        serial = 9;
        texts = texts;
        named = false;
        body = Bill 0 (500 ∷ replicate 15 0) (replicate 16 (codes "XX500A"));
      } ∷ [];
}

-- it is started with that place, and holds a bill, which a round reads and doesn't post
abbrev held : List Row
held =
    one (step.Command (command.Route 4 1)) (entry.No (command.Route 4 1) NoEpoch)
    ∷ one (step.Command (command.Start 4 1)) (entry.Taken (command.Start 4 1))
    ∷ one (step.Next 4) (wire 4 "04000101fa" "04000101fa01000400fb")
    ∷ one (step.Next 4) (wire 4 "0400019f5c" "0400019f5c010b04000000000000000000000000f0")
    ∷ one (step.Next 4) (wire 4 "040001e11a" "040001e11a01030400000000f8")
    ∷ one (step.Next 4) (entry.Put (record_of.Epoch 4 1 0))
    ∷ both (step.Next 4) (wire 4 "040201e7010011" "040201e701001101000400fb") (entry.Ended 4 end_of.Started)
    ∷ one (step.Bill 4 1) (entry.Held 4 1)
    ∷ one (step.Command (command.Round 4)) (entry.Taken (command.Round 4))
    ∷ one (step.Next 4) (wire 4 "040001e11a" "040001e11a01030400000000f8")
    ∷ one (step.Next 4) (wire 4 "0400019f5c" "0400019f5c010b04000101010000000000000000ed")
    ∷ one (step.Next 4) (wire 4 "040001e615" "040001e615010204000100f8")
    ∷ one (step.Next 4) (wire 4 "040001e11a" "040001e11a01030400000000f8")
    ∷ both (step.Next 4) (entry.Put (record_of.Reading 4 1 0 0 [])) (entry.Ended 4 end_of.Posted)
    ∷ one (step.Command (command.Route 4 1)) (entry.Taken (command.Route 4 1))
    ∷ []

-- a round that reads a bill which was stacked, and posts it
abbrev posts : List Row
posts =
    one (step.Command (command.Round 4)) (entry.Taken (command.Round 4))
    ∷ one (step.Next 4) (wire 4 "040001e11a" "040001e11a01030400010000f7")
    ∷ one (step.Next 4) (wire 4 "0400019f5c" "0400019f5c010b04000201000101000000000000eb")
    ∷ one (step.Next 4) (wire 4 "040001e615" "040001e615010204000100f8")
    ∷ one (step.Next 4) (wire 4 "040001e11a" "040001e11a01030400010000f7")
    ∷ both (step.Next 4) (entry.Put (record_of.Reading 4 2 0 1 (coin 1 0 ∷ []))) (entry.Ended 4 end_of.Posted)
    ∷ []

abbrev stacked : List Row
stacked =
    both (step.Next 4) (wire 4 "0401019a015f" "0401019a015f01000400fb") (entry.Ended 4 end_of.Routed)
    ∷ posts
    ++ one step.Balance (entry.Balance (record { available = 500; reserved = 0; paid = 0; sold = 0 }))
    ∷ []

-- the answer is lost, and the bill is posted all the same; then none is held
abbrev unsure : List Row
unsure =
    one (step.Fault (fault.HostHears [])) (entry.Fault (fault.HostHears []))
    ∷ both (step.Next 4) (wire 4 "0401019a015f" "0401019a015f") (entry.Ended 4 end_of.RouteUnsure)
    ∷ posts
    ++ one (step.Command (command.Route 4 1)) (entry.Taken (command.Route 4 1))
    ∷ both (step.Next 4) (wire 4 "0401019a015f" "0401019a015f01000405f6") (entry.Ended 4 end_of.RouteUnsure)
    ∷ []

-- a bill that is put in while one is held, or of a place that is inhibited, is given back; so is a held bill by a reset
abbrev given_back : List Row
given_back =
    one (step.Bill 4 1) (entry.Inhibited 4 1)
    ∷ one (step.Bill 4 2) (entry.Inhibited 4 2)
    ∷ one (step.Reset 4) (entry.Reset 4)
    ∷ both (step.Next 4) (wire 4 "0401019a015f" "0401019a015f01000405f6") (entry.Ended 4 end_of.RouteUnsure)
    ∷ one (step.Bill 4 1) (entry.Inhibited 4 1)
    ∷ one (step.Command (command.Path 4 1 2)) (entry.No (command.Path 4 1 2) WrongKind)
    ∷ []

held_play : AllPlay bank [] (held ∷ [])
unfolding message spelling data_of request_of requests_with form_of reply_data reply_in has_place bill_reply
    common_reply reply_of ask asked asks_of asker after_echo got heard_after got_by distance accepted_between judge
held_play = (search, tt)

bills_play : AllPlay bank (after [] held) (stacked ∷ unsure ∷ given_back ∷ [])
unfolding message spelling data_of request_of requests_with form_of reply_data reply_in has_place bill_reply
    common_reply reply_of ask asked asks_of asker after_echo got heard_after got_by distance accepted_between judge
bills_play = (search, (search, (search, tt)))
