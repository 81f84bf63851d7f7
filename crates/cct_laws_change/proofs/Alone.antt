-- A session that is left alone, played at the operator's desk; and what doesn't leave one alone.
use Rattle.std.proofs.Common.{◌≡◌, ℕ, true, false, ◌+◌, ◌-◌, ◌*◌, nat_lt, cond, List, [], ◌∷◌, ◌++◌, map, replicate, length, refl, Some, None, All, arith}
use Prim.Native.String.{String}
use Rattle.std.specs.Prelude.{codes, ⊤}
use Rattle.std.proofs.lemmas.List.Elements.{All-cons, All-nil}
use Rattle.cct_model.specs.terms.device.DeviceBody.TheVariants.{Acceptor, Hopper}
use Rattle.cct_model.specs.terms.device.DeviceSetup.{DeviceSetup}
use Rattle.cct_model.specs.terms.device.Setup.{Setup}
use Rattle.cct_model.specs.terms.device.Texts.{Texts}
use Rattle.cct_model.specs.terms.wire.CheckKind.TheVariants.{Simple}
use Rattle.cct_model.specs.lines.command.Command.{Command}
use Rattle.cct_model.specs.lines.command.Command.TheVariants as command
use Rattle.cct_model.specs.lines.command.CommandNo.TheVariants.{Busy, JournalFull, OldId, Short}
use Rattle.cct_model.specs.lines.command.Step.{Step}
use Rattle.cct_model.specs.lines.command.Step.TheVariants as step
use Rattle.cct_model.specs.lines.entry.Entry.{Entry}
use Rattle.cct_model.specs.lines.entry.Entry.TheVariants as entry
use Rattle.cct_model.specs.lines.entry.End.TheVariants as end_of
use Rattle.cct_model.specs.lines.record.Record.TheVariants as record_of
use Rattle.cct_model.specs.AtDesk.{EntriesAtDesk}
use Rattle.cct_model.specs.Change.{Desk, clear_desk, desk_after}
use Rattle.cct_model.specs.Acceptor.{acceptor_reply}
use Rattle.cct_model.specs.Device.{IsHopper, common_reply, reply_of}
use Rattle.cct_model.specs.Exchange.{after_echo, ask, asked, asker, asks_of, got}
use Rattle.cct_model.specs.Hopper.{hopper_reply}
use Rattle.cct_model.specs.Job.{free, job}
use Rattle.cct_model.specs.Message.{message, spelling}
use Rattle.cct_model.specs.Money.{available}
use Rattle.cct_model.specs.Order.{close, life_between, order}
use Rattle.cct_model.specs.Reading.{accepted_between, distance, judge}
use Rattle.cct_model.specs.Records.{records}
use Rattle.cct_model.specs.Refusal.{held, last_id, refusal}
use Rattle.cct_model.specs.Reply.{reply_data, reply_in}
use Rattle.cct_model.specs.Request.{data_of, form_of, request_of, requests_with}
use Rattle.cct_model.specs.Setting.{has_place}
use Rattle.cct_model.specs.Transcript.{got_by, heard_after, lines_of}
use Rattle.cct_laws.proofs.setups.DeviceAt.{found_in}
use Rattle.cct_laws_change.specs.Along.{AlongFrom}
use Rattle.cct_laws_change.specs.Course.{AreLeftAlone, CanBegin, Course, CoursesTo, IsUnrelated, course_after, needs_in, no_course}
use Rattle.cct_laws_change.specs.Tally.{IsSmooth}

-- the bytes of which these are the digits
abbrev digit : ℕ → ℕ
digit code = cond (nat_lt code 58) (code - 48) (code - 87)

abbrev bytes_of : List ℕ → List ℕ
bytes_of [] = []
bytes_of (high ∷ []) = []
bytes_of (high ∷ low ∷ more) = (16 * digit high + digit low) ∷ bytes_of more

abbrev wire : String → String → Entry
wire sent heard = entry.Wire 2 (bytes_of (codes sent)) (bytes_of (codes heard))

-- an acceptor of coins of value 100, a hopper with coins of value 10, and one with coins of value 50
abbrev texts : Texts
texts = record { maker = codes "BENCH"; product = codes "CCT"; software = codes "1"; build = codes "1" }

abbrev acceptor : DeviceSetup
acceptor = record {
  addr = 2;
  kind = Simple;
  serial = 1;
  texts = texts;
  named = false;
  body = Acceptor 0 (replicate 16 100) (replicate 16 (codes "XX100A"));
}

abbrev tens : DeviceSetup
tens = record { addr = 3; kind = Simple; serial = 3; texts = texts; named = false; body = Hopper 0 10 }

abbrev fifties : DeviceSetup
fifties = record { addr = 5; kind = Simple; serial = 5; texts = texts; named = false; body = Hopper 0 50 }

abbrev till : Setup
till = record { devices = acceptor ∷ tens ∷ fifties ∷ [] }

-- one step of a run with its entries, newest first
record Row : Type 0 where
  play : Step
  news : List Entry

abbrev one : Step → Entry → Row
one play e = record { play = play; news = e ∷ [] }

abbrev both : Step → Entry → Entry → Row
both play e other = record { play = play; news = other ∷ e ∷ [] }

abbrev after : List Entry → List Row → List Entry
after past [] = past
after past (row ∷ rows) = after (row.news ++ past) rows

-- the acceptor is started, takes a coin, and is read
abbrev funding : List Row
funding =
    one (step.Command (command.Start 2 65535)) (entry.Taken (command.Start 2 65535))
    ∷ one (step.Next 2) (wire "02000101fc" "02000101fc01000200fd")
    ∷ one (step.Next 2) (wire "020001e518" "020001e518010b02000000000000000000000000f2")
    ∷ one (step.Next 2) (wire "020001e11c" "020001e11c01030200000000fa")
    ∷ one (step.Next 2) (entry.Put (record_of.Epoch 2 65535 0))
    ∷ both (step.Next 2) (wire "020201e7ffff16" "020201e7ffff1601000200fd") (entry.Ended 2 end_of.Started)
    ∷ one (step.Coin 2 5) (entry.Accepted 2 (record { place = 5; path = 1 }))
    ∷ one (step.Command (command.Round 2)) (entry.Taken (command.Round 2))
    ∷ one (step.Next 2) (wire "020001e11c" "020001e11c01030200010000f9")
    ∷ one (step.Next 2) (wire "020001e518" "020001e518010b02000105010000000000000000eb")
    ∷ one (step.Next 2) (wire "020001e617" "020001e61701020200fffffd")
    ∷ one (step.Next 2) (wire "020001e11c" "020001e11c01030200010000f9")
    ∷ both (step.Next 2) (entry.Put (record_of.Reading 2 1 0 1 (record { place = 5; path = 1 } ∷ [])))
    (entry.Ended 2 end_of.Posted)
    ∷ []

-- rows at the operator's desk go on from a past, and a course goes along
abbrev PlaysAtDesk : ℕ → List Entry → Desk → List Row → Type 0
PlaysAtDesk capacity past desk [] = ⊤
PlaysAtDesk capacity past desk (row ∷ rows) =
    EntriesAtDesk capacity till past desk row.play row.news
    × PlaysAtDesk capacity (row.news ++ past) (desk_after row.play row.news desk) rows

abbrev desk_past : Desk → List Row → Desk
desk_past desk [] = desk
desk_past desk (row ∷ rows) = desk_past (desk_after row.play row.news desk) rows

abbrev course_past : Desk → Course → List Row → Course
course_past desk c [] = c
course_past desk c (row ∷ rows) =
    course_past (desk_after row.play row.news desk) (course_after row.play row.news desk c) rows

along_rows : (capacity : ℕ) (past : List Entry) (desk : Desk) (c : Course) (rows : List Row) →
    PlaysAtDesk capacity past desk rows →
    AlongFrom course_after capacity till past desk c (map (λ row. row.play) rows) (after past rows) (desk_past desk rows)
    (course_past desk c rows)
along_rows capacity past desk c [] plays = (refl, refl, refl)
along_rows capacity past desk c (row ∷ rows) plays = (
  row.news,
  plays.0,
  along_rows capacity (row.news ++ past) (desk_after row.play row.news desk) (course_after row.play row.news desk c) rows
      plays.1,
)

-- after a coin of 100 was read, a session of 70 begins, and the acceptor is asked for one round more
abbrev begins : List Row
begins =
    one (step.Stock 3 10) (entry.Stock 3 10)
    ∷ one (step.Stock 5 2) (entry.Stock 5 2)
    ∷ one (step.Change 60 70) (entry.ChangeOk 60 70)
    ∷ []

abbrev alone : List Row
alone = funding ++ begins ++ one (step.Command (command.Round 2)) (entry.Taken (command.Round 2)) ∷ []

alone_played : PlaysAtDesk 65535 [] (clear_desk till) alone
unfolding message spelling data_of request_of requests_with form_of reply_data reply_in has_place acceptor_reply
    hopper_reply common_reply reply_of ask asked asks_of asker after_echo got heard_after got_by distance judge accepted_between
    life_between close
alone_played = search

abbrev before : List Entry
before = entry.Stock 5 2 ∷ entry.Stock 3 10 ∷ after [] funding

abbrev course : Course
course = course_past (clear_desk till) no_course alone

-- this is its course
course_is : course ≡ record {
  tally = record {
    first = 60;
    amount = 70;
    trays = record { addr = 3; value = 10; stock = 10 } ∷ record { addr = 5; value = 50; stock = 2 } ∷ [];
    refills = 0;
    made = 0;
    smooth = true;
  };
  told = entry.Taken (command.Round 2) ∷ entry.ChangeOk 60 70 ∷ before;
  before = before;
  others = command.Round 2 ∷ [];
}
course_is = refl

comes_to : CoursesTo 65535 till (map (λ row. row.play) alone) (after [] alone) (desk_past (clear_desk till) alone) course
comes_to = along_rows 65535 [] (clear_desk till) no_course alone alone_played

-- it could begin: 100 are available, no id was used, and nothing holds the hoppers
known_before : (available till before ≡ 100) × (last_id till before ≡ 0) × (length (records before) ≡ 2)
    × (held till before ≡ 0) × (needs_in till (command.Round 2 ∷ []) ≡ 1)
unfolding asks_of message
known_before = (refl, refl, refl, refl, refl)

IsClearHopper : DeviceSetup → Type 0
IsClearHopper d =
    IsHopper d.body → (job (lines_of d before) ≡ free) × (order (lines_of d before) ≡ None)

all_clear : All IsClearHopper till.devices
unfolding IsClearHopper asks_of message
all_clear =
    All-cons IsClearHopper acceptor (tens ∷ fifties ∷ []) (λ paying. absurd paying)
    (All-cons IsClearHopper tens (fifties ∷ []) (λ paying. (refl, refl))
    (All-cons IsClearHopper fifties [] (λ paying. (refl, refl)) (All-nil IsClearHopper)))

can_begin : CanBegin till before 60 70
unfolding IsClearHopper
can_begin = record {
  money = let much = known_before.0 in omega (arith, much);
  ids = let last = known_before.1 in omega (arith, last);
  clear = λ d own. (found_in IsClearHopper till.devices d.addr d all_clear own).0;
}

-- so it is left alone for three payments, its plan's coins; and the next `serve` finds it so
left_alone : AreLeftAlone 65535 till course 3
left_alone = record {
  began = can_begin;
  apart = All-cons (IsUnrelated till) (command.Round 2) [] tt (All-nil (IsUnrelated till));
  room =
      let many = known_before.2 in
      let holds = known_before.3 in
      let needs = known_before.4 in
      omega (arith, many, holds, needs);
}

is_smooth : IsSmooth (desk_past (clear_desk till) alone) course.tally
is_smooth = refl

-- with room for the round's record and for two more its payment is taken, and with less it is refused
pays_by_room : (refusal 5 till course.told (command.Pay 3 60 2) ≡ None)
    × (refusal 4 till course.told (command.Pay 3 60 2) ≡ Some (JournalFull 2 1 2))
unfolding asks_of message
pays_by_room = (refl, refl)

no_room : AreLeftAlone 4 till course 1 → ⊥
no_room is =
    let room = is.room in
    let many = known_before.2 in
    let holds = known_before.3 in
    let needs = known_before.4 in
    omega (arith, room, many, holds, needs)

-- where one of its hoppers is identified meanwhile, its payment is refused: that leaves it not alone
busy_meanwhile : refusal 65535 till (entry.Taken (command.Ident 3) ∷ entry.ChangeOk 60 70 ∷ before) (command.Pay 3 60 2)
    ≡ Some Busy
busy_meanwhile = refl

not_unrelated : IsUnrelated till (command.Ident 3) → ⊥
not_unrelated is = cc is

-- and where another payment or a sale is taken, which takes its id or its money
abbrev meanwhile : Command → List Entry
meanwhile c = entry.Taken c ∷ entry.ChangeOk 60 70 ∷ before

taken_ids : (refusal 65535 till (meanwhile (command.Pay 5 61 1)) (command.Pay 3 60 2) ≡ Some (OldId 61))
    × (refusal 65535 till (meanwhile (command.Vend 61 40)) (command.Pay 3 60 2) ≡ Some (OldId 61))
unfolding asks_of message
taken_ids = (refl, refl)

taken_money : (refusal 65535 till (meanwhile (command.Pay 5 1 2)) (command.Pay 3 60 2) ≡ Some (Short 0))
    × (refusal 65535 till (meanwhile (command.Vend 1 90)) (command.Pay 3 60 2) ≡ Some (Short 10))
unfolding asks_of message
taken_money = (refl, refl)
