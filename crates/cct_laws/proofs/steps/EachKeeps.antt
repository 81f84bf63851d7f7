-- How each step keeps a fact of a device of a setup.
use Rattle.std.proofs.Common.{◌≡◌, ◌≢◌, ℕ, true, List, [], ◌∷◌, ◌++◌, ap, sym, ◌∙◌, refl, subst, subst₂, Option, Some, None}
use Rattle.std.specs.Prelude.{⊤}
use Rattle.cct_model.specs.terms.device.DeviceSetup.{DeviceSetup}
use Rattle.cct_model.specs.terms.device.Setup.{Setup}
use Rattle.cct_model.specs.lines.record.Record.{Record}
use Rattle.cct_model.specs.lines.command.Command.{Command}
use Rattle.cct_model.specs.lines.command.Command.TheVariants as command
use Rattle.cct_model.specs.lines.command.Step.{Step}
use Rattle.cct_model.specs.lines.entry.End.{End}
use Rattle.cct_model.specs.lines.entry.Entry.{Entry}
use Rattle.cct_model.specs.lines.entry.Entry.TheVariants as entry
use Rattle.cct_model.specs.History.{Met, heard}
use Rattle.cct_model.specs.Setup.{IsSoundSetup}
use Rattle.cct_model.specs.Exchange.{ask, asked, asks_of}
use Rattle.cct_model.specs.Line.{Line, exchange, put, taken}
use Rattle.cct_model.specs.Job.{Job, free, works, job, with_line, epoch}
use Rattle.cct_model.specs.Rows.{end_of}
use Rattle.cct_model.specs.Legal.{with_end, keeping_restart}
use Rattle.cct_model.specs.Script.{IsCommand, IsInRange}
use Rattle.cct_model.specs.Transcript.{pending, meets, met, owner, lines_of, heard_by_devices, heard_after, got_by, doses_of}
use Rattle.cct_model.specs.Honest.{IsHonestAt, IsHonestFault, HonestPast}
use Rattle.cct_laws.specs.Ids.{Ids}
use Rattle.cct_laws.specs.DeviceJobs.{WorksAt, suits, with_ended}
use Rattle.cct_laws.specs.KeptBoth.{IsKeptBoth}
use Rattle.cct_laws.specs.Law.{IsOf}
use Rattle.cct_laws.specs.SinceEpoch.{since_record, since_epoch}
use Rattle.cct_laws.proofs.jobs.AskedAndAnswered.{asked_at, fate_at}
use Rattle.cct_laws.proofs.jobs.StepBrings.{Comes, takes_coin, leaves_coin, leaves_alien, takes_bill, leaves_bill, drops_coin, drops_none, jams, jams_none, is_reset, AtDevice, came, took, halted, idled, made_exchange, made_put, AtWork, Brought, wire_of, wire_end, record_end, begun_at_work}
use Rattle.cct_model.proofs.Doses.{job_undosed}
use Rattle.cct_laws.proofs.orders.Ids.{put_owned}
use Rattle.cct_laws.proofs.jobs.SeenAtOne.{AreForOthers, Passes, ArePassed, IsLoose, loose, loose_line, loose_met, Lost, bare, kept_here, kept_elsewhere, seen_here, seen_aside, seen_lost, seen_from, since_elsewhere, passed_job, lines_wire, lines_ended, lines_put, lines_taken, lines_kept, lines_kept_elsewhere}

-- the command of a job is in its range, and for the kind of its device
abbrev pub IsRanged : DeviceSetup → Job → Type 0
IsRanged d free = ⊤
IsRanged d (works c since) = IsCommand c × (suits d.body c ≡ true)

ranged_line : (d : DeviceSetup) (l : Line) (j : Job) → IsRanged d j → IsRanged d (with_line l j)
ranged_line d l free ranged = tt
ranged_line d l (works c since) ranged = ranged

ranged_end : (d : DeviceSetup) (past : List Entry) (e : Entry) (end : Option End) →
    IsRanged d (job (lines_of d (e ∷ past))) →
    IsRanged d (job (lines_of d (with_end d.addr e end ++ past)))
ranged_end d past e None ranged = ranged
ranged_end d past e (Some end) ranged = subst (λ ls. IsRanged d (job ls)) (sym (lines_ended d (e ∷ past) end)) tt

ranged_there : (capacity : ℕ) (setup : Setup) (d : DeviceSetup) (past news : List Entry) (s : Step) →
    Ids setup past → IsOf setup d → IsInRange s →
    AtDevice capacity setup d past s news → IsRanged d (job (lines_of d past)) → IsRanged d (job (lines_of d (news ++ past)))
ranged_there capacity setup d past _ _ ids own range (came s e m ls comes) ranged =
    let is = loose d (met d past) s e m ls comes in
    subst (IsRanged d) (sym (ap job (loose_line d past s e m ls is) ∙ is.same_job (lines_of d past))) ranged
ranged_there capacity setup d past _ _ ids own range (took s c gives suited here is_free is_taken is_owed lets) ranged =
    subst (IsRanged d) (sym (ap job (lines_taken d past c here) ∙ begun_at_work d.body c (lines_of d past) suited))
    (gives.in_range range, suited)
ranged_there capacity setup d past _ _ ids own range (halted paying can) ranged =
    subst (IsRanged d) (sym (ap job (lines_taken d past (command.Halt d.addr) refl)))
    (ranged_line d (taken (command.Halt d.addr)) (job (lines_of d past)) ranged)
ranged_there capacity setup d past _ _ ids own range (idled is_free) ranged = ranged
ranged_there capacity setup d past _ _ ids own range (made_exchange c since q at_work is_row) ranged =
    let sent = ask d.kind d.addr q in
    ranged_end d past (wire_of setup d past q) (wire_end setup d past c since q)
    (subst (λ ls. IsRanged d (job ls)) (sym (lines_wire d past sent (heard_after setup past sent)))
    (ranged_line d _ (job (doses_of d past sent ++ lines_of d past))
    (subst (IsRanged d) (sym (job_undosed d.body d.serial (met d past) (asks_of d (heard_by_devices (pending past) sent)) (lines_of d past)))
    ranged)))
ranged_there capacity setup d past _ _ ids own range (made_put c since r at_work is_row) ranged =
    ranged_end d past (entry.Put r) (record_end d past c since r)
    (subst (λ ls. IsRanged d (job ls)) (sym (lines_put d past r (put_owned setup past d c since r own ids at_work is_row)))
    (ranged_line d _ (job (lines_of d past)) ranged))

ranged_lost : (d : DeviceSetup) (past news : List Entry) → Lost d past news → IsRanged d (job (lines_of d (news ++ past)))
ranged_lost d past _ bare = tt
ranged_lost d past _ (kept_here c since r at_work is_row owned) =
    subst (λ ls. IsRanged d (job ls)) (sym (lines_kept d past r owned)) tt
ranged_lost d past _ (kept_elsewhere r away caused) =
    subst (λ ls. IsRanged d (job ls)) (sym (lines_kept_elsewhere d past r away)) tt

pub ranged_step : (capacity : ℕ) (setup : Setup) (d : DeviceSetup) (past news : List Entry) (s : Step) →
    IsSoundSetup setup → IsOf setup d → IsInRange s → Ids setup past → Brought capacity setup past s news →
    IsRanged d (job (lines_of d past)) → IsRanged d (job (lines_of d (news ++ past)))
ranged_step capacity setup d past news s sound own range ids told ranged =
    elim (seen_from capacity setup d past news s sound own ids told) [
      | seen_here at ↦ ranged_there capacity setup d past news s ids own range at ranged
      | seen_aside aside ↦ subst (IsRanged d) (sym (passed_job d past news aside.passes)) ranged
      | seen_lost lost no_next ↦ ranged_lost d past news lost
    ]

pub works_at : (d : DeviceSetup) (past : List Entry) (c : Command) (since : List Line) → AtWork d past c since →
    IsRanged d (job (lines_of d past)) → WorksAt d (lines_of d past) c since
works_at d past c since at_work ranged =
    let both = subst (IsRanged d) at_work.job_is ranged in
    record { job_is = at_work.job_is; is_here = at_work.is_here; in_range = both.0; suited = both.1 }

-- a fact of what a device met since its epoch began, of all that it met, and of its lines
abbrev pub Fact : Type 1
Fact = List Met → List Met → List Line → Type 0

-- such a fact of a device after a past
abbrev pub HoldsAt : DeviceSetup → Fact → List Entry → Type 0
HoldsAt d P past = P (since_epoch d past) (met d past) (lines_of d past)

-- entries that are none of the device
others_kept : (d : DeviceSetup) (P : Fact) (since past : List Met) (lines : List Line) (ms : List Met) →
    IsKeptBoth d P → AreForOthers ms → P since past lines → P (ms ++ since) (ms ++ past) lines
others_kept d P since past lines [] kept others holds = holds
others_kept d P since past lines (heard asked ∷ ms) kept others holds =
    kept.elsewhere (ms ++ since) (ms ++ past) lines asked others.0
    (others_kept d P since past lines ms kept others.1 holds)
others_kept d P since past lines (m ∷ ms) kept others holds = absurd others

passed : (d : DeviceSetup) (P : Fact) (past : List Entry) (e : Entry) → IsKeptBoth d P → Passes d past e →
    IsHonestAt past e → HoldsAt d P past → HoldsAt d P (e ∷ past)
passed d P past e kept passes honest holds =
    let ms = meets d past e in
    subst₂ (λ since lines. P since (ms ++ met d past) lines) (sym passes.goes_on)
    (sym (ap (λ ls. ls ++ lines_of d past) (passes.no_line honest)))
    (others_kept d P (since_epoch d past) (met d past) (lines_of d past) ms kept (passes.others honest) holds)

kept_aside : (d : DeviceSetup) (P : Fact) (past news : List Entry) → IsKeptBoth d P → ArePassed d past news →
    HonestPast (news ++ past) → HoldsAt d P past → HoldsAt d P (news ++ past)
kept_aside d P past [] kept passes honest holds = holds
kept_aside d P past (e ∷ news) kept passes honest holds =
    passed d P (news ++ past) e kept passes.0 honest.0 (kept_aside d P past news kept passes.1 honest.1 holds)

-- what comes to the device
came_as : (d : DeviceSetup) (P : Fact) (past : List Entry) (s : Step) (e : Entry) (m : Met) (ls : List Line) →
    IsLoose d.addr s e m ls → P (m ∷ since_epoch d past) (m ∷ met d past) (ls ++ lines_of d past) → HoldsAt d P (e ∷ past)
came_as d P past s e m ls is holds =
    let met_is = loose_met d past s e m ls is in
    subst (λ since. P since (met d (e ∷ past)) (lines_of d (e ∷ past)))
    (sym (is.goes_on d past ∙ ap (λ ms. ms ++ since_epoch d past) met_is))
    (subst₂ (P (m ∷ since_epoch d past)) (sym (ap (λ ms. ms ++ met d past) met_is)) (sym (loose_line d past s e m ls is))
    holds)

came_kept : (d : DeviceSetup) (P : Fact) (since past : List Met) (lines : List Line) (s : Step) (e : Entry) (m : Met)
    (ls : List Line) →
    IsKeptBoth d P → IsInRange s → Comes d past s e m ls → P since past lines → P (m ∷ since) (m ∷ past) (ls ++ lines)
came_kept d P since past lines _ _ _ _ kept range (takes_coin place accepting test) holds =
    kept.accepts since past lines place accepting range.0 range.1 test holds
came_kept d P since past lines _ _ _ _ kept range (leaves_coin place accepting test) holds =
    kept.inhibits since past lines place accepting test holds
came_kept d P since past lines _ _ _ _ kept range (leaves_alien accepting) holds = kept.aliens since past lines accepting holds
came_kept d P since past lines _ _ _ _ kept range (takes_bill place billing test) holds =
    kept.holds since past lines place billing range.0 range.1 test holds
came_kept d P since past lines _ _ _ _ kept range (leaves_bill place billing test) holds =
    kept.rejects since past lines place billing test holds
came_kept d P since past lines _ _ _ _ kept range (drops_coin paying test) holds = kept.falls since past lines paying test holds
came_kept d P since past lines _ _ _ _ kept range (drops_none paying test) holds = kept.no_falls since past lines paying test holds
came_kept d P since past lines _ _ _ _ kept range (jams paying test) holds = kept.jams since past lines paying holds
came_kept d P since past lines _ _ _ _ kept range (jams_none paying test) holds = kept.jams since past lines paying holds
came_kept d P since past lines _ _ _ _ kept range is_reset holds = kept.resets since past lines holds

-- an entry of its job, and the end after it
honest_first : (addr : ℕ) (e : Entry) (end : Option End) (past : List Entry) →
    HonestPast (with_end addr e end ++ past) →
    IsHonestAt past e
honest_first addr e None past honest = honest.0
honest_first addr e (Some end) past honest = honest.1.0

after_here : (d : DeviceSetup) (P : Fact) (past : List Entry) (e : Entry) (end : Option End) →
    P (since_epoch d (e ∷ past)) (met d (e ∷ past)) (with_ended end (lines_of d (e ∷ past))) →
    HoldsAt d P (with_end d.addr e end ++ past)
after_here d P past e None holds = holds
after_here d P past e (Some end) holds =
    subst (P (since_epoch d (e ∷ past)) (met d (e ∷ past))) (sym (lines_ended d (e ∷ past) end)) holds

kept_there : (capacity : ℕ) (setup : Setup) (d : DeviceSetup) (P : Fact) (past news : List Entry) (s : Step) →
    IsSoundSetup setup → IsOf setup d → Ids setup past → IsKeptBoth d P → IsInRange s → IsRanged d (job (lines_of d past)) →
    AtDevice capacity setup d past s news → HonestPast (news ++ past) → HoldsAt d P past → HoldsAt d P (news ++ past)
kept_there capacity setup d P past _ _ sound own ids kept range ranged (came s e m ls comes) honest holds =
    came_as d P past s e m ls (loose d (met d past) s e m ls comes)
    (came_kept d P (since_epoch d past) (met d past) (lines_of d past) s e m ls kept range comes holds)
kept_there capacity setup d P past _ _ sound own ids kept range ranged (took s c gives suited here is_free is_taken is_owed lets) honest holds =
    subst (P (since_epoch d past) (met d past)) (sym (lines_taken d past c here))
    (kept.takes (since_epoch d past) (met d past) (lines_of d past) c is_free here (gives.in_range range) suited is_taken is_owed holds)
kept_there capacity setup d P past _ _ sound own ids kept range ranged (halted paying can) honest holds =
    subst (P (since_epoch d past) (met d past)) (sym (lines_taken d past (command.Halt d.addr) refl))
    (kept.halts (since_epoch d past) (met d past) (lines_of d past) paying can holds)
kept_there capacity setup d P past _ _ sound own ids kept range ranged (idled is_free) honest holds = holds
kept_there capacity setup d P past _ _ sound own ids kept range ranged (made_exchange c since q at_work is_row)
    honest holds =
    let state = epoch (lines_of d past) in
    let sent = ask d.kind d.addr q in
    let piece = heard_after setup past sent in
    let got = got_by d sent piece in
    let wire = wire_of setup d past q in
    let works = works_at d past c since at_work ranged in
    let asks_it : asked d.kind sent ≡ Some q = asked_at setup past d c since q sound own works is_row in
    let honest_at : IsHonestFault (pending past) sent =
    honest_first d.addr wire (wire_end setup d past c since q) past honest in
    let heard_it = asks_of d (heard_by_devices (pending past) sent) in
    let dosed = doses_of d past sent ++ lines_of d past in
    after_here d P past wire (wire_end setup d past c since q)
    (subst (λ ls. P (heard heard_it ∷ since_epoch d past) (heard heard_it ∷ met d past)
    (with_ended (end_of d c (exchange (asked d.kind sent) got) since state) ls))
    (sym (lines_wire d past sent piece))
    (subst (λ a. P (heard heard_it ∷ since_epoch d past) (heard heard_it ∷ met d past)
    (with_ended (end_of d c (exchange a got) since state) (exchange a got ∷ dosed))) (sym asks_it)
    (kept.asks (since_epoch d past) (met d past) (lines_of d past) c since q heard_it got works is_row
    (fate_at setup past d c since q sound own works is_row honest_at) holds)))
kept_there capacity setup d P past _ _ sound own ids kept range ranged (made_put c since r at_work is_row) honest holds =
    let end = end_of d c (put r) since (epoch (lines_of d past)) in
    after_here d P past (entry.Put r) end
    (subst (λ ls. P (since_record d r (since_epoch d past)) (met d past) (with_ended end ls))
    (sym (lines_put d past r (put_owned setup past d c since r own ids at_work is_row)))
    (kept.puts (since_epoch d past) (met d past) (lines_of d past) c since r (works_at d past c since at_work ranged)
    is_row holds))

-- a power cut
since_kept : (d : DeviceSetup) (past : List Entry) (r : Record) → owner past r ≢ d.addr →
    since_epoch d (keeping_restart past r ++ past) ≡ since_epoch d past
since_kept d past r away = since_elsewhere d past r (since_epoch d past) away

kept_lost : (d : DeviceSetup) (P : Fact) (past news : List Entry) → IsKeptBoth d P → IsRanged d (job (lines_of d past)) →
    Lost d past news → HoldsAt d P past → HoldsAt d P (news ++ past)
kept_lost d P past _ kept ranged bare holds = kept.restarts (since_epoch d past) (met d past) (lines_of d past) holds
kept_lost d P past _ kept ranged (kept_here c since r at_work is_row owned) holds =
    subst (P (since_record d r (since_epoch d past)) (met d past)) (sym (lines_kept d past r owned))
    (kept.keeps (since_epoch d past) (met d past) (lines_of d past) c since r (works_at d past c since at_work ranged)
    is_row holds)
kept_lost d P past _ kept ranged (kept_elsewhere r away caused) holds =
    subst₂ (λ since lines. P since (met d past) lines) (sym (since_kept d past r away))
    (sym (lines_kept_elsewhere d past r away))
    (kept.restarts (since_epoch d past) (met d past) (lines_of d past) holds)

pub kept_step : (capacity : ℕ) (setup : Setup) (d : DeviceSetup) (P : Fact) (past news : List Entry) (s : Step) →
    IsSoundSetup setup → IsOf setup d → IsKeptBoth d P → IsInRange s → IsRanged d (job (lines_of d past)) →
    Ids setup past → Brought capacity setup past s news → HonestPast (news ++ past) → HoldsAt d P past →
    HoldsAt d P (news ++ past)
kept_step capacity setup d P past news s sound own kept range ranged ids told honest holds =
    elim (seen_from capacity setup d past news s sound own ids told) [
      | seen_here at ↦ kept_there capacity setup d P past news s sound own ids kept range ranged at honest holds
      | seen_aside aside ↦ kept_aside d P past news kept aside.passes honest holds
      | seen_lost lost no_next ↦ kept_lost d P past news kept ranged lost holds
    ]
