-- Every entry of a legal transcript is written, so its text shows it.
use Rattle.std.proofs.Common.{◌≡◌, ℕ, ◌<◌, ◌==◌, List, [], ◌∷◌, ◌++◌, refl, sym, subst, Option, Some, None, All, arith}
use Rattle.std.specs.Prelude.{⊤}
use Rattle.std.proofs.lemmas.List.Elements.{All-head, All-tail, All-nil, All-cons, All-weaker}
use Rattle.cct_model.specs.terms.wire.CheckKind.{CheckKind}
use Rattle.cct_model.specs.terms.device.DeviceSetup.{DeviceSetup}
use Rattle.cct_model.specs.terms.device.Setup.{Setup}
use Rattle.cct_model.specs.terms.request.Request.TheVariants.{AddressPoll, SimplePoll}
use Rattle.cct_model.specs.lines.command.Command.{Command}
use Rattle.cct_model.specs.lines.command.Step.{Step}
use Rattle.cct_model.specs.lines.entry.End.{End}
use Rattle.cct_model.specs.lines.entry.Entry.{Entry}
use Rattle.cct_model.specs.lines.entry.Entry.TheVariants as entry
use Rattle.cct_model.specs.Request.{data_of}
use Rattle.cct_model.specs.Text.{text}
use Rattle.cct_model.specs.History.{Met}
use Rattle.cct_model.specs.Device.{IsSound}
use Rattle.cct_model.specs.Setup.{IsSoundSetup}
use Rattle.cct_model.specs.Exchange.{after_echo, ask, asked}
use Rattle.cct_model.specs.Line.{Line, scanned}
use Rattle.cct_model.specs.Order.{order}
use Rattle.cct_model.specs.Job.{Job, free, works, job, with_line, Row, sends, puts, epoch}
use Rattle.cct_model.specs.Scan.{scan_row, end_of_scan, poll_of}
use Rattle.cct_model.specs.Script.{IsInRange}
use Rattle.cct_model.specs.Legal.{with_end, Legal}
use Rattle.cct_model.specs.Transcript.{met, lines_of, scan_lines, scan_line, heard_after, got_by, onto}
use Rattle.cct_model.proofs.Polls.{poll_line}
use Rattle.cct_text.specs.Written.{IsEnd, IsWritten}
use Rattle.cct_text.proofs.Whole.{text_is_one}
use Rattle.cct_laws.specs.Ids.{Ids}
use Rattle.cct_laws.specs.Law.{IsOf, HasBytes}
use Rattle.cct_laws.proofs.steps.OneMore.{onto_each}
use Rattle.cct_laws.proofs.setups.DeviceAt.{found_in}
use Rattle.cct_laws.proofs.jobs.AtDesk.{desk_apart}
use Rattle.cct_laws.proofs.jobs.StepBrings.{IsOfDesk, tells_stock, begins_change, keeps_change, serves_none, serves_later, serves_odd, serves_all, serves_short, Comes, takes_coin, leaves_coin, takes_bill, leaves_bill, leaves_alien, drops_coin, drops_none, jams, jams_none, is_reset, AtWork, row_after, AtDevice, came, took, halted, idled, made_exchange, made_put, wire_of, wire_end, record_end, poll_wire, poll_end, Brought, of_device, faulted, refused, began_scan, began_sale, nobody, polled, sold, balanced, of_desk, ended_short, lost_power, lost_in_put, lost_in_sale}
use Rattle.cct_laws.proofs.jobs.SeenAtOne.{unscanned, along}
use Rattle.cct_model_wire.proofs.OfBytes.{IfThere}
use Rattle.cct_laws.proofs.setups.ScanLists.{Fine, IsAsked, fine_begun, row_asked, fine_more, scan_ends}
use Rattle.cct_laws.proofs.text.EntriesInRange.{IsTold, AllTold, told_written, heard_bytes, FitsAsk, ask_bytes, poll_fits, FitsJob, job_fits, FitsRow, row_fits, exchange_ends, put_ends}

-- what holds of a past
abbrev pub FineJob : Job → Type 0
FineJob free = ⊤
FineJob (works c since) = Fine since

pub record Good (past : List Entry) : Type 0 where
  pub told : AllTold past
  pub scan : FineJob (job (scan_lines past))

with_end_told : (past : List Entry) (addr : ℕ) (e : Entry) (end : Option End) → IsTold e → IfThere (IsEnd addr) end →
    AllTold past → AllTold (with_end addr e end ++ past)
with_end_told past addr e None is ends told = (is, told)
with_end_told past addr e (Some end) is ends told = (ends, (is, told))

small_at : (setup : Setup) (d : DeviceSetup) → IsSoundSetup setup → IsOf setup d → d.addr < 256
small_at setup d sound own =
    let high = (found_in IsSound setup.devices d.addr d sound.devices own).0.high in
    omega (arith, high)

-- what comes to a device, and what its job does
came_told : (d : DeviceSetup) (history : List Met) (s : Step) (e : Entry) (m : Met) (ls : List Line) → IsInRange s →
    Comes d history s e m ls → IsTold e
came_told d history _ _ _ _ range (takes_coin place accepting test) = omega (arith, range.1)
came_told d history _ _ _ _ range (leaves_coin place accepting test) = omega (arith, range.1)
came_told d history _ _ _ _ range (takes_bill place banking test) = omega (arith, range.1)
came_told d history _ _ _ _ range (leaves_bill place banking test) = omega (arith, range.1)
came_told d history _ _ _ _ range (leaves_alien accepting) = tt
came_told d history _ _ _ _ range (drops_coin paying test) = tt
came_told d history _ _ _ _ range (drops_none paying test) = tt
came_told d history _ _ _ _ range (jams paying test) = tt
came_told d history _ _ _ _ range (jams_none paying test) = tt
came_told d history _ _ _ _ range is_reset = tt

-- what a job at a device holds, and what its row sends or puts
work_fits : (d : DeviceSetup) (past : List Entry) (c : Command) (since : List Line) → AtWork d past c since →
    AllTold past → FitsJob (works c since)
work_fits d past c since at_work told = subst FitsJob at_work.job_is (job_fits d past told)

due_fits : (d : DeviceSetup) (past : List Entry) (c : Command) (since : List Line) (r : Row) → AtWork d past c since →
    row_after d past c since ≡ r → AllTold past → FitsRow r
due_fits d past c since r at_work is_row told =
    subst FitsRow is_row
    (row_fits d c since (epoch (lines_of d past)) (order (lines_of d past)) (work_fits d past c since at_work told))

told_there : (capacity : ℕ) (setup : Setup) (d : DeviceSetup) (past news : List Entry) (s : Step) →
    IsSoundSetup setup → IsOf setup d → IsInRange s → HasBytes s → AtDevice capacity setup d past s news →
    AllTold past →
    AllTold (news ++ past)
told_there capacity setup d past _ _ sound own range bytes (came s e m ls comes) told =
    (came_told d (met d past) s e m ls range comes, told)
told_there capacity setup d past _ _ sound own range bytes (took s c gives suited here is_free is_taken is_owed lets) told =
    ((gives.in_range range, gives.bytes bytes), told)
told_there capacity setup d past _ _ sound own range bytes (halted paying can) told = ((range, bytes), told)
told_there capacity setup d past _ _ sound own range bytes (idled is_free) told = (tt, told)
told_there capacity setup d past _ _ sound own range bytes (made_exchange c since q at_work is_row) told =
    let sent = ask d.kind d.addr q in
    let asks : FitsRow (sends q) = due_fits d past c since (sends q) at_work is_row told in
    let sent_bytes = ask_bytes d.kind d.addr q (small_at setup d sound own) asks in
    with_end_told past d.addr (wire_of setup d past q) (wire_end setup d past c since q)
    (sent_bytes, heard_bytes setup past sent sound.devices told sent_bytes)
    (exchange_ends d c (asked d.kind sent) (got_by d sent (heard_after setup past sent)) since
    (epoch (lines_of d past))) told
told_there capacity setup d past _ _ sound own range bytes (made_put c since r at_work is_row) told =
    let record_fits : FitsRow (puts r) = due_fits d past c since (puts r) at_work is_row told in
    with_end_told past d.addr (entry.Put r) (record_end d past c since r) record_fits
    (put_ends d c r since (epoch (lines_of d past))) told

-- a poll of a scan
poll_asks : (addr : ℕ) → FitsAsk (poll_of addr)
unfolding data_of
poll_asks addr = poll_fits (addr == 0) AddressPoll SimplePoll tt tt

with_end_scanned : (past : List Entry) (c : Command) (since : List Line) (check : CheckKind) (addr : ℕ)
    (rest : Option (List ℕ)) (sent piece : List ℕ) (end : Option End) → scan_line sent piece ≡ scanned check addr rest →
    job (scan_lines past) ≡ works c since → Fine (scanned check addr rest ∷ since) →
    FineJob (job (scan_lines (with_end 0 (entry.Wire 0 sent piece) end ++ past)))
with_end_scanned past c since check addr rest sent piece None line_is is_job fine =
    subst (λ l. FineJob (job (l ∷ scan_lines past))) (sym line_is)
    (subst (λ j. FineJob (with_line (scanned check addr rest) j)) (sym is_job) fine)
with_end_scanned past c since check addr rest sent piece (Some end) line_is is_job fine = tt

poll_good : (setup : Setup) (past : List Entry) (c : Command) (since : List Line) (check : CheckKind) (addr : ℕ) →
    IsSoundSetup setup → job (scan_lines past) ≡ works c since → scan_row since ≡ Some (check, addr) → Good past →
    Good (with_end 0 (poll_wire setup past check addr) (poll_end setup past since check addr) ++ past)
poll_good setup past c since check addr sound is_job is_row good =
    let sent = ask check addr (poll_of addr) in
    let piece = heard_after setup past sent in
    let l = scanned check addr (after_echo sent piece) in
    let fine : Fine since = subst FineJob is_job good.scan in
    let asked : IsAsked since (check, addr) = subst (IfThere (IsAsked since)) is_row (row_asked since fine) in
    let line_is : scan_line sent piece ≡ l = poll_line check addr piece asked.small in
    let sent_bytes = ask_bytes check addr (poll_of addr) asked.small (poll_asks addr) in
    let more : Fine (l ∷ since) = fine_more check addr (after_echo sent piece) since asked fine in
    record {
      told =
          with_end_told past 0 (poll_wire setup past check addr) (poll_end setup past since check addr)
          (sent_bytes, heard_bytes setup past sent sound.devices good.told sent_bytes)
          (subst (λ x. IfThere (IsEnd 0) (end_of_scan (x ∷ since))) (sym line_is) (scan_ends (l ∷ since) more))
          good.told;
      scan = with_end_scanned past c since check addr (after_echo sent piece) sent piece
          (poll_end setup past since check addr) line_is is_job more;
    }

-- what is reported of the desk of the operator
desk_told : (s : Step) (e : Entry) → IsOfDesk s e → IsTold e
desk_told _ _ (tells_stock addr count) = tt
desk_told _ _ (begins_change first amount) = tt
desk_told _ _ (keeps_change first amount) = tt
desk_told _ _ serves_none = tt
desk_told _ _ (serves_later addr) = tt
desk_told _ _ (serves_odd id) = tt
desk_told _ _ (serves_all amount) = tt
desk_told _ _ (serves_short paid rest) = tt

-- what a step says is in range, and of bytes
abbrev pub Says : Step → Type 0
Says s = IsInRange s × HasBytes s

pub all_say : (steps : List Step) → All IsInRange steps → All HasBytes steps → All Says steps
all_say [] range bytes = All-nil Says
all_say (s ∷ steps) range bytes =
    All-cons Says s steps (All-head IsInRange s steps range, All-head HasBytes s steps bytes)
    (all_say steps (All-tail IsInRange s steps range) (All-tail HasBytes s steps bytes))

-- every step
pub good_step : (capacity : ℕ) (setup : Setup) → IsSoundSetup setup → (past news : List Entry) (s : Step) → Says s →
    Ids setup past → Brought capacity setup past s news → Good past → Good (news ++ past)
good_step capacity setup sound past _ _ says ids (of_device d s news own at_it) good = record {
  told = told_there capacity setup d past news s sound own says.0 says.1 at_it good.told;
  scan = subst (λ ls. FineJob (job ls)) (sym (unscanned capacity setup d past news s sound own at_it)) good.scan;
}
good_step capacity setup sound past _ _ says ids (faulted f) good =
    record { told = (says.1, good.told); scan = good.scan }
good_step capacity setup sound past _ _ says ids (refused c why was) good =
    record { told = (says, good.told); scan = good.scan }
good_step capacity setup sound past _ _ says ids (began_scan is_free) good =
    record { told = (says, good.told); scan = fine_begun }
good_step capacity setup sound past _ _ says ids (began_sale id price is_free lets) good =
    record { told = (says, good.told); scan = good.scan }
good_step capacity setup sound past _ _ says ids (nobody addr none) good =
    record { told = (tt, good.told); scan = good.scan }
good_step capacity setup sound past _ _ says ids (polled c since check addr none is_job is_row) good =
    poll_good setup past c since check addr sound is_job is_row good
good_step capacity setup sound past _ _ says ids (sold id price since none selling) good =
    record { told = (refl, (tt, good.told)); scan = good.scan }
good_step capacity setup sound past _ _ says ids balanced good = record { told = (tt, good.told); scan = good.scan }
good_step capacity setup sound past _ _ says ids (of_desk s e is) good = record {
  told = (desk_told s e is, good.told);
  scan = subst (λ ls. FineJob (job (ls ++ scan_lines past))) (sym (desk_apart s e is).no_scan) good.scan;
}
good_step capacity setup sound past _ _ says ids (ended_short addr id count why paid rest small range was) good =
    record { told = (tt, ((range, small), good.told)); scan = good.scan }
good_step capacity setup sound past _ _ says ids (lost_power at choice) good =
    record { told = (tt, good.told); scan = tt }
good_step capacity setup sound past _ _ says ids (lost_in_put at choice d c since r own at_work is_row) good =
    let record_fits : FitsRow (puts r) = due_fits d past c since (puts r) at_work is_row good.told in
    record { told = (record_fits, (tt, good.told)); scan = tt }
good_step capacity setup sound past _ _ says ids (lost_in_sale at choice id price since none selling) good =
    record { told = (tt, (tt, good.told)); scan = tt }

-- every entry of a legal transcript is written
pub legal_written : (capacity : ℕ) (setup : Setup) (steps : List Step) (transcript : List Entry) →
    IsSoundSetup setup → All IsInRange steps → All HasBytes steps → Legal capacity setup steps transcript →
    All IsWritten transcript
legal_written capacity setup steps transcript sound range bytes legal =
    All-weaker IsTold IsWritten told_written transcript (onto_each IsTold [] transcript
    (along capacity setup Says Good sound (good_step capacity setup sound)
    (λ past addr good. record { told = (tt, good.told); scan = good.scan }) steps (onto [] transcript)
    (all_say steps range bytes) legal (record { told = tt; scan = tt })).told).1

-- so a text shows its legal transcript, whatever the journals take
pub legal_text : (capacity room : ℕ) (setup : Setup) (steps others : List Step) (first second : List Entry) →
    IsSoundSetup setup → All IsInRange steps → All HasBytes steps → All IsInRange others → All HasBytes others →
    Legal capacity setup steps first → Legal room setup others second → text first ≡ text second → first ≡ second
legal_text capacity room setup steps others first second sound range bytes others_range others_bytes legal other same =
    text_is_one first second (legal_written capacity setup steps first sound range bytes legal)
    (legal_written room setup others second sound others_range others_bytes other) same
