-- What an entry of a legal transcript shows: bytes and masks in range.
use Rattle.std.proofs.Common.{ℕ, ◌<◌, ◌==◌, nat_le, Bool, true, false, cond, List, [], ◌∷◌, ◌++◌, Option, Some, None, arith, All, rules}
use Rattle.std.specs.Prelude.{⊤, unwrap_or, option_and_then, flat_map}
use Rattle.std.proofs.lemmas.List.Elements.{All-head, All-tail}
use Rattle.cct_model.specs.terms.coin.Coin.{Coin}
use Rattle.cct_model.specs.terms.coin.Credits.{Credits}
use Rattle.cct_model.specs.terms.wire.CheckKind.{CheckKind}
use Rattle.cct_model.specs.terms.device.DeviceBody.{DeviceBody}
use Rattle.cct_model.specs.terms.device.DeviceBody.TheVariants.{Acceptor, Bill, Hopper}
use Rattle.cct_model.specs.terms.device.DeviceSetup.{DeviceSetup}
use Rattle.cct_model.specs.terms.device.Setup.{Setup}
use Rattle.cct_model.specs.terms.request.Request.{Request}
use Rattle.cct_model.specs.terms.request.Request.TheVariants.{SetMask, GetMask}
use Rattle.cct_model.specs.lines.record.Record.{Record}
use Rattle.cct_model.specs.lines.record.Record.TheVariants as record_of
use Rattle.cct_model.specs.declared.judging.Judged.TheVariants.{Nothing, Moved, Reading, Broken}
use Rattle.cct_model.specs.declared.judging.EpochState.{EpochState}
use Rattle.cct_model.specs.declared.judging.EpochState.TheVariants.{Running}
use Rattle.cct_model.specs.declared.judging.OpenOrder.{OpenOrder}
use Rattle.cct_model.specs.lines.command.Command.{Command}
use Rattle.cct_model.specs.lines.command.Command.TheVariants as command
use Rattle.cct_model.specs.lines.command.WireFault.{WireFault}
use Rattle.cct_model.specs.lines.command.WireFault.TheVariants as fault
use Rattle.cct_model.specs.lines.entry.Entry.{Entry}
use Rattle.cct_model.specs.lines.entry.Entry.TheVariants as entry
use Rattle.cct_model.specs.Request.{header_of, data_of, form_of}
use Rattle.cct_model.specs.Reply.{Reply}
use Rattle.cct_model.specs.Reply as reply
use Rattle.cct_model.specs.History.{Met, coin, alien, fall, jam, reset}
use Rattle.cct_model.specs.Device.{IsSound}
use Rattle.cct_model.specs.Exchange.{ask, asked, asks_of, asking, answer, got, put_by_address, by_address}
use Rattle.cct_model.specs.Bill.{bill_held, stacked_by}
use Rattle.cct_model.specs.Hopper.{taken_of}
use Rattle.cct_model.specs.Line.{Line, accepted, inhibited, fell, exchange, scanned, put, taken, ended, restarted}
use Rattle.cct_model.specs.Line as line
use Rattle.cct_model.specs.Reading.{judge}
use Rattle.cct_model.specs.Order.{close}
use Rattle.cct_model.specs.Job.{Job, free, works, job, begun, with_line, credits_read, mask_reply, mask_line, mask_read, accepts_before, accepts_read, judged_by, judged_in, Row, noted_in, credits_request, ident_requests, address_of}
use Rattle.cct_model.specs.Rows.{row, end_of, rows_of, done}
use Rattle.cct_model.specs.Transcript.{pending, heard_by_devices, heard_by_host, met, answers, heard_after, got_by, dispensed_by, doses, doses_of, stacked_line, owner, lines_of}
use Rattle.cct_model.proofs.Requests.{request_short}
use Rattle.cct_model.specs.Script as script
use Rattle.cct_laws.specs.Law.{EachEntry, IsCommandOfBytes}
use Rattle.cct_text.specs.Written.{IsMask, IsCommand, IsRecord, IsFault, IsEnd, IsWritten}
use Rattle.cct_model_wire.proofs.OfBytes.{Bytes, IfThere, bytes_are, are_bytes, bytes_more}
use Rattle.cct_model.proofs.Requests.{Each}
use Rattle.cct_model.proofs.Rows.{Puts, RowHolds, JudgedHolds, EachRow, both_hold, exchange_end, put_end, Asks, each_ask, AnswerEnds, BareEnds, PutEnds, each_due, each_asked, each_told}
use Rattle.cct_laws.proofs.orders.Closes.{closes_so}
use Rattle.cct_laws.proofs.text.Bytes.{spelled_bytes, FitsReply, got_fits}
use Rattle.cct_laws.proofs.text.Answering.{FitsMet, FitsAll, there_or, answer_bytes, asks_fit}

-- a command in its range that says bytes
abbrev pub FitsCommand : Command → Type 0
FitsCommand c = script.IsCommand c × IsCommandOfBytes c

-- an entry shows bytes and masks in range; a load's sums are none of a script's entries
abbrev pub IsTold : Entry → Type 0
IsTold (entry.Accepted addr c) = c.place < 256
IsTold (entry.Held addr place) = place < 256
IsTold (entry.Inhibited addr place) = place < 256
IsTold (entry.Fault f) = IsFault f
IsTold (entry.Taken c) = FitsCommand c
IsTold (entry.No c why) = FitsCommand c
IsTold (entry.Wire addr sent piece) = Bytes sent × Bytes piece
IsTold (entry.Put r) = IsRecord r
IsTold (entry.Kept r) = IsRecord r
IsTold (entry.Ended addr end) = IsEnd addr end
IsTold (entry.Listing index r) = IsRecord r
IsTold (entry.Sum what amount) = ⊥
IsTold e = ⊤

abbrev pub AllTold : List Entry → Type 0
AllTold past = EachEntry (λ older e. IsTold e) past

-- such an entry is written
command_written : (c : Command) → FitsCommand c → IsCommand c
command_written (command.Start addr mask) h = (tt, omega (arith, h.1.1), tt)
command_written c h = (tt, tt, tt)

pub told_written : (e : Entry) → IsTold e → IsWritten e
told_written (entry.Taken c) h = command_written c h
told_written (entry.No c why) h = command_written c h
told_written (entry.Wire addr sent piece) h = (bytes_are sent h.0, bytes_are piece h.1)
told_written (entry.Accepted addr c) h = tt
told_written (entry.Held addr place) h = tt
told_written (entry.Inhibited addr place) h = tt
told_written e h = h

-- what a line shows
abbrev FitsLine : Line → Type 0
FitsLine (exchange asks found) = IfThere FitsReply found
FitsLine (taken c) = FitsCommand c
FitsLine l = ⊤

abbrev FitsLines : List Line → Type 0
FitsLines [] = ⊤
FitsLines (l ∷ lines) = FitsLine l × FitsLines lines

lines_if : (b : Bool) (l : Line) (lines : List Line) → FitsLine l → FitsLines lines → FitsLines (cond b (l ∷ []) [] ++ lines)
lines_if true l lines h k = (h, k)
lines_if false l lines h k = k

got_by_fits : (d : DeviceSetup) (sent piece : List ℕ) → Bytes piece → IfThere FitsReply (got_by d sent piece)
unfolding got_by
got_by_fits d sent piece h = by_form (option_and_then form_of (asked d.kind sent))
  where
    by_form : (form : Option _) → IfThere FitsReply (option_and_then (λ f. got d.kind d.addr f sent piece) form)
    by_form None = tt
    by_form (Some f) = got_fits d.kind d.addr f sent piece h

-- an exchange, and what the device did in it
dosed_fit : (took : Option ℕ) (lines : List Line) → FitsLines lines → FitsLines (dispensed_by took ++ lines)
dosed_fit None lines h = h
dosed_fit (Some count) lines h = (tt, h)

stacked_fit : (place : Option ℕ) (lines : List Line) → FitsLines lines → FitsLines (stacked_line place ++ lines)
stacked_fit None lines h = h
stacked_fit (Some place) lines h = (tt, h)

doses_fit : (body : DeviceBody) (own : ℕ) (past : List Met) (asks : Option Request) (lines : List Line) →
    FitsLines lines → FitsLines (doses body own past asks ++ lines)
doses_fit (Acceptor accepts values ids) own past asks lines h = h
doses_fit (Hopper life value) own past asks lines h = dosed_fit (taken_of own past asks) lines h
doses_fit (Bill accepts values ids) own past asks lines h = stacked_fit (stacked_by asks (bill_held past)) lines h

wire_if : (b : Bool) (l : Line) (dosed lines : List Line) → FitsLine l → FitsLines (dosed ++ lines) →
    FitsLines ((cond b (l ∷ []) [] ++ dosed) ++ lines)
wire_if true l dosed lines h k = (h, k)
wire_if false l dosed lines h k = k

lines_fit : (d : DeviceSetup) (past : List Entry) → AllTold past → FitsLines (lines_of d past)
lines_fit d [] h = tt
lines_fit d (entry.Accepted addr c ∷ past) h = lines_if (addr == d.addr) (accepted c) (lines_of d past) tt (lines_fit d past h.1)
lines_fit d (entry.Inhibited addr place ∷ past) h = lines_if (addr == d.addr) (inhibited place) (lines_of d past) tt (lines_fit d past h.1)
lines_fit d (entry.Alien addr ∷ past) h = lines_if (addr == d.addr) line.alien (lines_of d past) tt (lines_fit d past h.1)
lines_fit d (entry.Fell addr ∷ past) h = lines_if (addr == d.addr) fell (lines_of d past) tt (lines_fit d past h.1)
lines_fit d (entry.Reset addr ∷ past) h = lines_if (addr == d.addr) line.reset (lines_of d past) tt (lines_fit d past h.1)
lines_fit d (entry.Taken c ∷ past) h = lines_if (address_of c == d.addr) (taken c) (lines_of d past) h.0 (lines_fit d past h.1)
lines_fit d (entry.Wire addr sent piece ∷ past) h =
    wire_if (addr == d.addr) (exchange (asked d.kind sent) (got_by d sent piece)) (doses_of d past sent)
    (lines_of d past) (got_by_fits d sent piece h.0.1)
    (doses_fit d.body d.serial (met d past) (asks_of d (heard_by_devices (pending past) sent)) (lines_of d past)
    (lines_fit d past h.1))
lines_fit d (entry.Put r ∷ past) h = lines_if (owner past r == d.addr) (put r) (lines_of d past) tt (lines_fit d past h.1)
lines_fit d (entry.Kept r ∷ past) h =
    lines_if (owner past r == d.addr) (put r) (lines_of d past) tt (lines_fit d past h.1)
lines_fit d (entry.Ended addr end ∷ past) h = lines_if (addr == d.addr) (ended end) (lines_of d past) tt (lines_fit d past h.1)
lines_fit d (entry.Crash records ∷ past) h = (tt, lines_fit d past h.1)
lines_fit d (e ∷ past) h = lines_fit d past h.1

-- the fault that is set, and what is heard under it
pending_fits : (past : List Entry) → AllTold past → IsFault (pending past)
pending_fits [] h = tt
pending_fits (entry.Fault f ∷ past) h = h.0
pending_fits (entry.Wire addr sent piece ∷ past) h = tt
pending_fits (e ∷ past) h = pending_fits past h.1

devices_hear : (f : WireFault) (sent : List ℕ) → IsFault f → Bytes sent → Bytes (heard_by_devices f sent)
devices_hear (fault.DevicesHear piece) sent h k = are_bytes piece h
devices_hear f sent h k = k

host_hears : (f : WireFault) (sent answered : List ℕ) → IsFault f → Bytes sent → Bytes answered → Bytes (heard_by_host f sent answered)
host_hears (fault.HostHears piece) sent answered h k l = bytes_more sent piece k (are_bytes piece h)
host_hears (fault.WholeHeard piece) sent answered h k l = are_bytes piece h
host_hears f sent answered h k l = bytes_more sent answered k l

-- what a device met
met_if : (b : Bool) (m : Met) (ms : List Met) → FitsMet m → FitsAll ms → FitsAll (cond b (m ∷ []) [] ++ ms)
met_if true m ms h k = (h, k)
met_if false m ms h k = k

met_fits : (d : DeviceSetup) (past : List Entry) → AllTold past → FitsAll (met d past)
met_fits d [] h = tt
met_fits d (entry.Accepted addr c ∷ past) h =
    met_if (addr == d.addr) (coin c.place) (met d past) h.0 (met_fits d past h.1)
met_fits d (entry.Held addr place ∷ past) h =
    met_if (addr == d.addr) (coin place) (met d past) h.0 (met_fits d past h.1)
met_fits d (entry.Inhibited addr place ∷ past) h =
    met_if (addr == d.addr) (coin place) (met d past) h.0 (met_fits d past h.1)
met_fits d (entry.Alien addr ∷ past) h = met_if (addr == d.addr) alien (met d past) tt (met_fits d past h.1)
met_fits d (entry.Fell addr ∷ past) h = met_if (addr == d.addr) fall (met d past) tt (met_fits d past h.1)
met_fits d (entry.NoFall addr ∷ past) h = met_if (addr == d.addr) fall (met d past) tt (met_fits d past h.1)
met_fits d (entry.Jammed addr ∷ past) h = met_if (addr == d.addr) jam (met d past) tt (met_fits d past h.1)
met_fits d (entry.NoJam addr ∷ past) h = met_if (addr == d.addr) jam (met d past) tt (met_fits d past h.1)
met_fits d (entry.Reset addr ∷ past) h = met_if (addr == d.addr) reset (met d past) tt (met_fits d past h.1)
met_fits d (entry.Wire addr sent piece ∷ past) h =
    let heard_them = devices_hear (pending past) sent (pending_fits past h.1) h.0.0 in
    (asks_fit d (heard_by_devices (pending past) sent) heard_them, met_fits d past h.1)
met_fits d (e ∷ past) h = met_fits d past h.1

-- what the devices answer
abbrev AreSound : List DeviceSetup → Type 0
AreSound [] = ⊤
AreSound (d ∷ devices) = IsSound d × AreSound devices

are_sound : (devices : List DeviceSetup) → All IsSound devices → AreSound devices
are_sound [] h = tt
are_sound (d ∷ devices) h = (All-head IsSound d devices h, are_sound devices (All-tail IsSound d devices h))

put_by : (b : Bool) (d e : DeviceSetup) (devices later : List DeviceSetup) → IsSound d → IsSound e → AreSound devices → AreSound later → AreSound (cond b (d ∷ e ∷ devices) (e ∷ later))
put_by true d e devices later h k l m = (h, (k, l))
put_by false d e devices later h k l m = (k, m)

put_sound : (d : DeviceSetup) (devices : List DeviceSetup) → IsSound d → AreSound devices → AreSound (put_by_address d devices)
put_sound d [] h k = (h, tt)
put_sound d (e ∷ devices) h k = put_by (nat_le d.addr e.addr) d e devices (put_by_address d devices) h k.0 k.1 (put_sound d devices h k.1)

ordered_sound : (devices : List DeviceSetup) → AreSound devices → AreSound (by_address devices)
ordered_sound [] h = tt
ordered_sound (d ∷ devices) h = put_sound d (by_address devices) h.0 (ordered_sound devices h.1)

there_bytes : (found : Option (List ℕ)) → IfThere Bytes found → Bytes (unwrap_or found [])
there_bytes None h = tt
there_bytes (Some bs) h = h

answered_bytes : (past : List Entry) (piece : List ℕ) (devices : List DeviceSetup) → AllTold past → Bytes piece → AreSound devices → Bytes (flat_map (λ d. unwrap_or (answer d (met d past) piece) []) devices)
answered_bytes past piece [] told h sound = tt
answered_bytes past piece (d ∷ devices) told h sound =
    bytes_more (unwrap_or (answer d (met d past) piece) []) _ (there_bytes (answer d (met d past) piece) (answer_bytes d (met d past) piece sound.0 (met_fits d past told) h))
    (answered_bytes past piece devices told h sound.1)

pub heard_bytes : (setup : Setup) (past : List Entry) (sent : List ℕ) → All IsSound setup.devices → AllTold past → Bytes sent → Bytes (heard_after setup past sent)
unfolding heard_after
heard_bytes setup past sent sound told h =
    let f = pending past in
    let fits = pending_fits past told in
    let piece = heard_by_devices f sent in
    host_hears f sent (answers setup past piece) fits h
    (answered_bytes past piece (by_address setup.devices) told (devices_hear f sent fits h) (ordered_sound setup.devices (are_sound setup.devices sound)))

-- what is asked
header_small : (q : Request) → header_of q < 256
header_small (SetMask mask) = omega arith
header_small q = omega arith

abbrev pub FitsAsk : Request → Type 0
FitsAsk q = Bytes (data_of q)

pub ask_bytes : (kind : CheckKind) (addr : ℕ) (q : Request) → addr < 256 → FitsAsk q → Bytes (ask kind addr q)
unfolding ask
ask_bytes kind addr q small h =
    spelled_bytes kind (asking addr q) (record { to = small; from = omega arith; header = header_small q; short = omega (arith, request_short q); body = h })

pub poll_fits : (b : Bool) (first second : Request) → FitsAsk first → FitsAsk second → FitsAsk (cond b first second)
poll_fits true first second h k = h
poll_fits false first second h k = k

-- what a job holds
abbrev pub FitsJob : Job → Type 0
FitsJob free = ⊤
FitsJob (works c since) = FitsCommand c × FitsLines since

with_line_fits : (l : Line) (j : Job) → FitsLine l → FitsJob j → FitsJob (with_line l j)
with_line_fits l free h k = tt
with_line_fits l (works c since) h k = (k.0, (h, k.1))

begun_fits : (c : Command) (j : Job) → FitsCommand c → FitsJob j → FitsJob (begun c j)
begun_fits (command.Halt addr) j h k = with_line_fits (taken (command.Halt addr)) j h k
begun_fits c j h k = (h, tt)

job_of_lines : (lines : List Line) → FitsLines lines → FitsJob (job lines)
job_of_lines [] h = tt
job_of_lines (taken c ∷ lines) h = begun_fits c (job lines) h.0 (job_of_lines lines h.1)
job_of_lines (ended end ∷ lines) h = tt
job_of_lines (restarted ∷ lines) h = tt
job_of_lines (exchange asks found ∷ lines) h = with_line_fits (exchange asks found) (job lines) h.0 (job_of_lines lines h.1)
job_of_lines (scanned check addr rest ∷ lines) h = with_line_fits (scanned check addr rest) (job lines) tt (job_of_lines lines h.1)
job_of_lines (put r ∷ lines) h = with_line_fits (put r) (job lines) tt (job_of_lines lines h.1)
job_of_lines (l ∷ lines) h = job_of_lines lines h.1

pub job_fits : (d : DeviceSetup) (past : List Entry) → AllTold past → FitsJob (job (lines_of d past))
job_fits d past h = job_of_lines (lines_of d past) (lines_fit d past h)

-- the inhibit mask that was read
reply_mask : (found : Option Reply) → IfThere FitsReply found → IfThere IsMask (mask_reply found)
reply_mask (Some (reply.mask m)) h = h
reply_mask found h = tt

line_mask : (l : Line) → FitsLine l → IfThere IsMask (mask_line l)
line_mask (exchange (Some GetMask) found) h = reply_mask found h
line_mask l h = tt

mask_fits : (lines : List Line) → FitsLines lines → IfThere IsMask (mask_read lines)
mask_fits [] h = tt
mask_fits (l ∷ lines) h = there_or IsMask (mask_line l) (mask_read lines) (line_mask l h.0) (mask_fits lines h.1)

-- what is judged
judged_by_tests : (moves breaks none : Bool) (addr seen counter lost accepts : ℕ) (broken posted : List Coin) →
    IsMask seen → JudgedHolds IsRecord (cond moves Moved
    (cond breaks (Broken (record_of.Broken addr seen counter lost accepts broken))
    (cond none Nothing (Reading (record_of.Reading addr counter lost accepts posted)))))
judged_by_tests true breaks none addr seen counter lost accepts broken posted h = tt
judged_by_tests false true none addr seen counter lost accepts broken posted h = omega (arith, h)
judged_by_tests false false true addr seen counter lost accepts broken posted h = tt
judged_by_tests false false false addr seen counter lost accepts broken posted h = tt

judge_fits : (addr mask counter accepts : ℕ) (c : Credits) (seen before now : ℕ) → IsMask seen →
    JudgedHolds IsRecord (judge addr mask counter accepts c seen before now)
unfolding judge
judge_fits addr mask counter accepts c seen before now h = judged_by_tests _ _ _ addr seen c.counter _ now _ _ h

judged_there : (addr : ℕ) (state : EpochState) (found : Option Credits) (seen before now : Option ℕ) →
    IfThere IsMask seen → JudgedHolds IsRecord (judged_by addr state found seen before now)
judged_there addr (Running mask counter accepts) (Some c) (Some seen) (Some before) (Some now) h =
    judge_fits addr mask counter accepts c seen before now h
judged_there addr state found seen before now h = tt

judged_fits : (c : Command) (since : List Line) (state : EpochState) → FitsLines since →
    JudgedHolds IsRecord (judged_in c since state)
judged_fits c since state h =
    judged_there (address_of c) state (credits_read since) (mask_read since) (accepts_before since) (accepts_read since)
    (mask_fits since h)

-- the row of a job
abbrev pub FitsRow : Row → Type 0
FitsRow r = RowHolds FitsAsk IsRecord r

ident_fits : (body : DeviceBody) → Each FitsAsk (ident_requests body)
unfolding data_of
ident_fits (Acceptor accepts values ids) = search rules
ident_fits (Hopper life value) = search rules
ident_fits (Bill accepts values ids) = search rules

credits_fit : (body : DeviceBody) → FitsAsk (credits_request body)
unfolding data_of
credits_fit (Acceptor accepts values ids) = tt
credits_fit (Hopper life value) = tt
credits_fit (Bill accepts values ids) = tt

close_fits : (o : OpenOrder) (life : ℕ) → IsRecord (close o life)
close_fits o life = closes_so IsRecord o life (λ fits. tt) (λ over. tt)

command_asks : (d : DeviceSetup) (c : Command) (since : List Line) → FitsJob (works c since) →
    EachRow (Asks FitsAsk) (rows_of d c)
unfolding data_of
command_asks d (command.Start addr mask) since h =
    (tt, (credits_fit d.body, (tt, (tt, ((omega arith, (omega (arith, h.0.1.1), tt)), tt)))))
command_asks d (command.Round addr) since h = (tt, (credits_fit d.body, (tt, (tt, (tt, tt)))))
command_asks d (command.Stop addr) since h =
    ((omega arith, tt), (tt, (credits_fit d.body, (tt, (tt, (tt, (tt, tt)))))))
command_asks d (command.Pay addr id count) since h = (
  (omega arith, tt),
  (tt, (tt, ((omega arith, (omega arith, (omega arith, (omega (arith, h.0.0.2), tt)))), ((tt, tt), (tt, (tt, tt)))))),
)
command_asks d (command.Settle addr) since h = ((tt, tt), (tt, (tt, tt)))
command_asks d (command.Ident addr) since h = each_asked FitsAsk (ident_requests d.body) (ident_fits d.body)
command_asks d (command.Path addr place path) since h =
    let of_place : place < 256 = omega (arith, h.0.0.0) in
    let of_path : path < 256 = omega (arith, h.0.0.2) in (
      poll_fits (place == 0) _ _ (of_path, tt) (of_place, (of_path, tt)),
      (poll_fits (place == 0) _ _ tt (of_place, tt), tt),
    )
command_asks d (command.Route addr way) since h = ((omega (arith, h.0.0), tt), tt)
command_asks d c since h = tt

command_puts : (d : DeviceSetup) (c : Command) (since : List Line) (state : EpochState) (owed : Option OpenOrder) →
    FitsJob (works c since) →
    EachRow (Puts IsRecord (address_of c) (judged_in c since state) (noted_in since owed)) (rows_of d c)
command_puts d (command.Start addr mask) since state owed h =
    (tt, (tt, (tt, ((λ accepts read. omega (arith, h.0.1.1)), (tt, tt)))))
command_puts d (command.Round addr) since state owed h =
    (tt, (tt, (tt, (tt, (judged_fits (command.Round addr) since state h.1, tt)))))
command_puts d (command.Stop addr) since state owed h =
    (tt, (tt, (tt, (tt, (tt, (judged_fits (command.Stop addr) since state h.1, (tt, tt)))))))
command_puts d (command.Pay addr id count) since state owed h = (
  tt,
  (tt, ((λ life read. tt), (tt, (tt, (tt, ((λ o life is read. close_fits o life), tt)))))),
)
command_puts d (command.Settle addr) since state owed h = (tt, (tt, ((λ o life is read. close_fits o life), tt)))
command_puts d (command.Ident addr) since state owed h =
    each_told (Puts IsRecord addr (judged_in (command.Ident addr) since state) (noted_in since owed)) (λ q. tt) (λ q. tt)
    (ident_requests d.body)
command_puts d c since state owed h = search rules

pub row_fits : (d : DeviceSetup) (c : Command) (since : List Line) (state : EpochState) (owed : Option OpenOrder) →
    FitsJob (works c since) → FitsRow (row d c since state owed)
row_fits d c since state owed h =
    let judged = judged_in c since state in
    let p = noted_in since owed in
    both_hold FitsAsk IsRecord (row d c since state owed)
    (each_ask FitsAsk d c (done (rows_of d c) since) judged p (command_asks d c since h))
    (each_due IsRecord d c (done (rows_of d c) since) judged p (command_puts d c since state owed h))

-- the end that a line brings
answer_ends_at : (addr : ℕ) (d : DeviceSetup) (c : Command) → EachRow (AnswerEnds (IsEnd addr)) (rows_of d c)
answer_ends_at addr d (command.Ident a) =
    each_told (AnswerEnds (IsEnd addr)) (λ q. tt) (λ q. tt) (ident_requests d.body)
answer_ends_at addr d c = search rules

bare_ends_at : (addr : ℕ) (d : DeviceSetup) (c : Command) → EachRow (BareEnds (IsEnd addr)) (rows_of d c)
bare_ends_at addr d (command.Ident a) =
    each_told (BareEnds (IsEnd addr)) (λ q. tt) (λ q. tt) (ident_requests d.body)
bare_ends_at addr d c = search rules

put_ends_at : (addr : ℕ) (d : DeviceSetup) (c : Command) → EachRow (PutEnds (IsEnd addr)) (rows_of d c)
put_ends_at addr d (command.Ident a) =
    each_told (PutEnds (IsEnd addr)) (λ q. tt) (λ q. tt) (ident_requests d.body)
put_ends_at addr d c = search rules

pub exchange_ends : (d : DeviceSetup) (c : Command) (asks : Option Request) (found : Option Reply) (since : List Line)
    (state : EpochState) → IfThere (IsEnd d.addr) (end_of d c (exchange asks found) since state)
exchange_ends d c asks found since state =
    exchange_end (IsEnd d.addr) d c asks found since state (answer_ends_at d.addr d c) (bare_ends_at d.addr d c) tt

pub put_ends : (d : DeviceSetup) (c : Command) (r : Record) (since : List Line) (state : EpochState) →
    IfThere (IsEnd d.addr) (end_of d c (put r) since state)
put_ends d c r since state = put_end (IsEnd d.addr) d c r since state (put_ends_at d.addr d c)
