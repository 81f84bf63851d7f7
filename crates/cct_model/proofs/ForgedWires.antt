-- Runs in which an exchange was forged, and runs with other faults of the wire, which show nothing.
use Rattle.std.proofs.Common.{ℕ, List, [], ◌∷◌}
use Rattle.std.specs.Prelude.{codes}
use Rattle.cct_model.specs.lines.command.Step.TheVariants as step
use Rattle.cct_model.specs.lines.command.Command.TheVariants as command
use Rattle.cct_model.specs.lines.command.WireFault.{WireFault}
use Rattle.cct_model.specs.lines.command.WireFault.TheVariants as fault
use Rattle.cct_model.specs.lines.record.Record.TheVariants as record_of
use Rattle.cct_model.specs.lines.entry.Entry.TheVariants as entry
use Rattle.cct_model.specs.lines.entry.End.TheVariants as end_of
use Rattle.cct_model.specs.Message.{message, spelling, crc}
use Rattle.cct_model.specs.Request.{data_of, request_of, requests_with, form_of}
use Rattle.cct_model.specs.Reply.{reply_data, reply_in}
use Rattle.cct_model.specs.Setting.{has_place}
use Rattle.cct_model.specs.Acceptor.{acceptor_reply}
use Rattle.cct_model.specs.Hopper.{hopper_reply}
use Rattle.cct_model.specs.Device.{common_reply, reply_of}
use Rattle.cct_model.specs.Exchange.{ask, asked, asks_of, asker, after_echo, got}
use Rattle.cct_model.specs.Transcript.{heard_after, got_by, scan_line}
use Rattle.cct_model.specs.DeviceSet.{all_addresses}
use Rattle.cct_model.specs.Scan.{scan_row, next_due, end_of_scan}
use Rattle.cct_model.specs.Reading.{distance, accepted_between, judge}
use Rattle.cct_model.proofs.Machine.{setup, coin, wire, bytes_of, Row, AllPlay, one, both, after, starting}

-- a step that sets a fault
abbrev sets : WireFault → Row
sets f = one (step.Fault f) (entry.Fault f)

-- the bytes of a message: a reply that shows one coin of place 5, and one that refuses
abbrev told_coin : List ℕ
told_coin = bytes_of (codes "010b02000105010000000000000000eb")

abbrev refusal : List ℕ
refusal = bytes_of (codes "01000205f8")

-- the host hears a reply that nobody gave, and posts a coin that never fell
abbrev forged_coin : List Row
forged_coin =
    one (step.Command (command.Round 2)) (entry.Taken (command.Round 2))
    ∷ one (step.Next 2) (wire 2 "020001e11c" "020001e11c01030200000000fa")
    ∷ sets (fault.HostHears told_coin)
    ∷ both (step.Next 2) (wire 2 "020001e518" "020001e518010b02000105010000000000000000eb") (entry.Forged 2)
    ∷ one (step.Next 2) (wire 2 "020001e617" "020001e61701020200fffffd")
    ∷ one (step.Next 2) (wire 2 "020001e11c" "020001e11c01030200000000fa")
    ∷ both (step.Next 2) (entry.Put (record_of.Reading 2 1 0 0 (coin 5 1 ∷ []))) (entry.Ended 2 end_of.Posted)
    ∷ one (step.Next 2) (entry.Idle 2)
    ∷ []

-- three forged refusals end a job; the line that the last of them was forged comes after its end
abbrev forged_refusals : List Row
forged_refusals =
    one (step.Command (command.Round 2)) (entry.Taken (command.Round 2))
    ∷ sets (fault.HostHears refusal)
    ∷ both (step.Next 2) (wire 2 "020001e11c" "020001e11c01000205f8") (entry.Forged 2)
    ∷ sets (fault.WholeHeard (bytes_of (codes "020001e11c01000205f8")))
    ∷ both (step.Next 2) (wire 2 "020001e11c" "020001e11c01000205f8") (entry.Forged 2)
    ∷ sets (fault.WholeHeard refusal)
    ∷ record {
      play = step.Next 2;
      news = entry.Forged 2 ∷ entry.Ended 2 end_of.NoAnswer ∷ wire 2 "020001e11c" "01000205f8" ∷ [];
    }
    ∷ []

-- the devices hear a message that the host didn't send, were it the same one
abbrev forged_request : List Row
forged_request =
    one (step.Command (command.Round 2)) (entry.Taken (command.Round 2))
    ∷ sets (fault.DevicesHear (bytes_of (codes "020001e518")))
    ∷ both (step.Next 2) (wire 2 "020001e11c" "020001e11c010b02000000000000000000000000f2") (entry.Forged 2)
    ∷ []

-- damaged bytes are no message; a fault that another one replaced counts for nothing
abbrev honest_faults : List Row
honest_faults =
    one (step.Command (command.Round 2)) (entry.Taken (command.Round 2))
    ∷ sets (fault.WholeHeard (85 ∷ 85 ∷ 85 ∷ []))
    ∷ one (step.Next 2) (wire 2 "020001e11c" "555555")
    ∷ sets (fault.DevicesHear (85 ∷ []))
    ∷ one (step.Next 2) (wire 2 "020001e11c" "020001e11c")
    ∷ sets (fault.HostHears told_coin)
    ∷ sets (fault.DevicesHear told_coin)
    ∷ sets fault.Clear
    ∷ one (step.Next 2) (wire 2 "020001e11c" "020001e11c01030200000000fa")
    ∷ []

-- what the host hears in an address poll may be any bytes; what the devices hear may not
abbrev polls : List Row
polls =
    one (step.Command command.Scan) (entry.Taken command.Scan)
    ∷ sets (fault.HostHears refusal)
    ∷ one (step.Next 0) (wire 0 "000001fd02" "000001fd0201000205f8")
    ∷ sets (fault.DevicesHear (bytes_of (codes "020001e518")))
    ∷ both (step.Next 0) (wire 0 "0000b2fd3e" "0000b2fd3e010b02000000000000000000000000f2") (entry.Forged 0)
    ∷ []

wires_play : AllPlay setup (after [] starting) (forged_coin ∷ forged_refusals ∷ forged_request ∷ honest_faults ∷ polls ∷ [])
unfolding message spelling crc data_of request_of requests_with form_of reply_data reply_in has_place acceptor_reply
    hopper_reply common_reply reply_of ask asked asks_of asker after_echo got heard_after got_by scan_line scan_row next_due end_of_scan all_addresses distance
    accepted_between judge
wires_play = (search, (search, (search, (search, (search, tt)))))
