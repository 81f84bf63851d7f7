-- A coin that is accepted while its acceptor is being read: the round ends and puts nothing, and the next one posts it.
use Rattle.std.proofs.Common.{List, [], ◌∷◌}
use Rattle.cct_model.specs.lines.command.Step.TheVariants as step
use Rattle.cct_model.specs.lines.command.Command.TheVariants as command
use Rattle.cct_model.specs.lines.record.Record.TheVariants as record_of
use Rattle.cct_model.specs.lines.entry.Entry.TheVariants as entry
use Rattle.cct_model.specs.lines.entry.End.TheVariants as end_of
use Rattle.cct_model.specs.Message.{message, spelling}
use Rattle.cct_model.specs.Request.{data_of, request_of, requests_with, form_of}
use Rattle.cct_model.specs.Reply.{reply_data, reply_in}
use Rattle.cct_model.specs.Setting.{has_place}
use Rattle.cct_model.specs.Acceptor.{acceptor_reply}
use Rattle.cct_model.specs.Hopper.{hopper_reply}
use Rattle.cct_model.specs.Device.{common_reply, reply_of}
use Rattle.cct_model.specs.Exchange.{ask, asked, asks_of, asker, after_echo, got}
use Rattle.cct_model.specs.Transcript.{heard_after, got_by}
use Rattle.cct_model.specs.Reading.{distance, accepted_between, judge}
use Rattle.cct_model.proofs.Machine.{setup, coin, wire, Row, Plays, one, both, after, starting}

-- one coin before the round, one within it
abbrev coin_between : List Row
coin_between =
    one (step.Coin 2 5) (entry.Accepted 2 (coin 5 1))
    ∷ one (step.Command (command.Round 2)) (entry.Taken (command.Round 2))
    ∷ one (step.Next 2) (wire 2 "020001e11c" "020001e11c01030200010000f9")
    ∷ one (step.Coin 2 5) (entry.Accepted 2 (coin 5 1))
    ∷ one (step.Next 2) (wire 2 "020001e518" "020001e518010b02000205010501000000000000e4")
    ∷ one (step.Next 2) (wire 2 "020001e617" "020001e61701020200fffffd")
    ∷ both (step.Next 2) (wire 2 "020001e11c" "020001e11c01030200020000f8") (entry.Ended 2 end_of.Moved)
    ∷ one (step.Next 2) (entry.Idle 2)
    ∷ one (step.Command (command.Round 2)) (entry.Taken (command.Round 2))
    ∷ one (step.Next 2) (wire 2 "020001e11c" "020001e11c01030200020000f8")
    ∷ one (step.Next 2) (wire 2 "020001e518" "020001e518010b02000205010501000000000000e4")
    ∷ one (step.Next 2) (wire 2 "020001e617" "020001e61701020200fffffd")
    ∷ one (step.Next 2) (wire 2 "020001e11c" "020001e11c01030200020000f8")
    ∷ both (step.Next 2) (entry.Put (record_of.Reading 2 2 0 2 (coin 5 1 ∷ coin 5 1 ∷ []))) (entry.Ended 2 end_of.Posted)
    ∷ []

coin_between_plays : Plays 65535 setup (after [] starting) coin_between
unfolding message spelling data_of request_of requests_with form_of reply_data reply_in has_place acceptor_reply
    hopper_reply common_reply reply_of ask asked asks_of asker after_echo got heard_after got_by distance accepted_between
    judge
coin_between_plays = search
