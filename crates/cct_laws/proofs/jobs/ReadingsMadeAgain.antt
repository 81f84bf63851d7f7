-- A job whose exchanges no fault disturbs ends because its reading has to be made again only if a coin was accepted between
-- its two readings of the accept counter, whatever the wire does to others.
use Rattle.std.proofs.Common.{◌≡◌, ℕ, suc, cond, true, List, [], ◌∷◌, ◌++◌, length, refl, ap, sym, ◌∙◌, subst, Option, Some, None, inl, inr, append_assoc}
use Rattle.std.specs.Prelude.{⊤}
use Rattle.std.proofs.lemmas.List.{append_cancel_right}
use Rattle.cct_model.specs.terms.device.DeviceBody.{DeviceBody}
use Rattle.cct_model.specs.terms.device.DeviceBody.TheVariants.{Acceptor, Bill, Hopper}
use Rattle.cct_model.specs.terms.device.DeviceSetup.{DeviceSetup}
use Rattle.cct_model.specs.terms.device.Setup.{Setup}
use Rattle.cct_model.specs.terms.request.Request.{Request}
use Rattle.cct_model.specs.lines.record.Record.{Record}
use Rattle.cct_model.specs.lines.command.Command.{Command}
use Rattle.cct_model.specs.lines.command.Command.TheVariants as command
use Rattle.cct_model.specs.lines.command.Step.{Step}
use Rattle.cct_model.specs.lines.command.WireFault.TheVariants as fault
use Rattle.cct_model.specs.lines.entry.End.{End}
use Rattle.cct_model.specs.lines.entry.Entry.{Entry}
use Rattle.cct_model.specs.lines.entry.Entry.TheVariants as entry
use Rattle.cct_model.specs.Acceptor.{accepted_coins, accepts}
use Rattle.cct_model.specs.Bill.{stacked_bills}
use Rattle.cct_model.specs.Claims.{coins}
use Rattle.cct_model.specs.Device.{IsAcceptor, IsBill, IsTaker}
use Rattle.cct_model.specs.Exchange.{ask, asked, asks_of}
use Rattle.cct_model.specs.History.{Met, coin, alien, fall, jam, reset}
use Rattle.cct_model.specs.Job.{works, job, with_line, epoch, sends, puts, judged_in, noted_in, accepts_line, address_of}
use Rattle.cct_model.specs.Legal.{with_end, LegalFrom}
use Rattle.cct_model.specs.Line.{Line, exchange, put, taken, ended}
use Rattle.cct_model.specs.Order.{order}
use Rattle.cct_model.specs.Reply.{Reply}
use Rattle.cct_model.specs.Rows.{done, rows_of, end_of}
use Rattle.cct_model.specs.Script.{IsCommand}
use Rattle.cct_model.specs.Setup.{IsSoundSetup}
use Rattle.cct_model.specs.Transcript.{pending, met, meets, lines_of, heard_after, heard_by_devices, doses, doses_of, got_by}
use Rattle.cct_model.proofs.Doses.{IsAside, doses_are, job_undosed, same_over}
use Rattle.cct_laws.specs.DeviceJobs.{suits}
use Rattle.cct_laws.specs.Ending.{HasNoEnd, EachWhileRunning, LeavesAlone, IsUndisturbed, IsMovedByCoin, IsOnlyMovedByCoins}
use Rattle.cct_laws.specs.Ids.{Ids}
use Rattle.cct_laws.specs.Law.{IsOf}
use Rattle.cct_laws.specs.Moving.{MovedAt}
use Rattle.cct_laws.specs.Takers.{accepted_of}
use Rattle.cct_msg.proofs.Exchanges.{asked_back}
use Rattle.cct_laws.proofs.wire.Exchanges.{fits_of, heard_back, undisturbed_got, undisturbed_refused}
use Rattle.cct_laws.proofs.steps.OneMore.{grown}
use Rattle.cct_laws.proofs.wire.Replies.{start_of}
use Rattle.cct_laws.proofs.jobs.AskedAndAnswered.{answers_at}
use Rattle.cct_laws.proofs.jobs.StepBrings.{Comes, takes_coin, leaves_coin, takes_bill, leaves_bill, leaves_alien, drops_coin, drops_none, jams, jams_none, is_reset, AtDevice, came, took, halted, idled, made_exchange, made_put, AtWork, row_after, wire_of, wire_end, record_end, Brought}
use Rattle.cct_laws.proofs.jobs.CountersRead.{counted_now, counted_before, Counted, CountsAs, counted_none, counted_same, counted_line, read_counts, none_read, answer_tells, failed_tells, put_tells}
use Rattle.cct_laws.proofs.jobs.Ending.{IsPlayed, works_same, no_free, first_clear, none_lost, work_first, work_later, told_first, round_suits}
use Rattle.cct_laws.proofs.jobs.SeenAtOne.{ArePassed, doses_told, loose, loose_line, loose_met, Lost, bare, kept_here, kept_elsewhere, seen_here, seen_aside, seen_lost, seen_from, passed_same, passed_job, lines_wire, lines_put, lines_taken, lines_ended, lines_kept, lines_kept_elsewhere, along_from, ids_told}
use Rattle.cct_laws.proofs.jobs.EntriesOfStep.{tells, GoesOverForged, over_telling, any_steps}
use Rattle.cct_laws.proofs.orders.Ids.{ids_start, put_owned}

-- a device has accepted as many coins as its lines show, whatever the wire does
abbrev IsTold : DeviceSetup → List Entry → Type 0
IsTold d past = accepted_of d.body (met d past) ≡ length (coins (lines_of d past))

-- the lines of an entry that is no coin
told_lines : (d : DeviceSetup) (past : List Entry) (e : Entry) (ls : List Line) → meets d past e ≡ [] →
    lines_of d (e ∷ past) ≡ ls → coins ls ≡ coins (lines_of d past) → IsTold d past → IsTold d (e ∷ past)
told_lines d past e ls not_met lines_are same told =
    ap (λ ms. accepted_of d.body (ms ++ met d past)) not_met ∙ told ∙ sym (ap length (ap coins lines_are ∙ same))

-- something that a device meets is no coin that it accepts, unless it says so
met_none : (body : DeviceBody) (m : Met) (past : List Met) →
    (IsAcceptor body → accepted_coins (m ∷ past) ≡ accepted_coins past) →
    (IsBill body → stacked_bills (m ∷ past) ≡ stacked_bills past) → accepted_of body (m ∷ past) ≡ accepted_of body past
met_none (Acceptor accepts values ids) m past of_coins of_bills = of_coins tt
met_none (Hopper life value) m past of_coins of_bills = refl
met_none (Bill accepts values ids) m past of_coins of_bills = of_bills tt

met_one : (body : DeviceBody) (place : ℕ) (past : List Met) → IsAcceptor body → accepts past place ≡ true →
    accepted_of body (coin place ∷ past) ≡ suc (accepted_of body past)
met_one (Acceptor start values ids) place past accepting test =
    ap (λ b. cond b (suc (accepted_coins past)) (accepted_coins past)) test
met_one (Hopper life value) place past accepting test = absurd accepting
met_one (Bill start values ids) place past accepting test = absurd accepting

pub no_bill : (body : DeviceBody) → IsAcceptor body → IsBill body → ⊥
no_bill (Acceptor accepts values ids) accepting banking = banking
no_bill (Hopper life value) accepting banking = accepting
no_bill (Bill accepts values ids) accepting banking = accepting

came_told : (d : DeviceSetup) (past : List Met) (lines : List Line) (s : Step) (e : Entry) (m : Met) (ls : List Line) →
    Comes d past s e m ls → accepted_of d.body past ≡ length (coins lines) →
    accepted_of d.body (m ∷ past) ≡ length (coins (ls ++ lines))
came_told d past lines _ _ _ _ (takes_coin place accepting test) told =
    met_one d.body place past accepting test ∙ ap suc told
came_told d past lines _ _ _ _ (leaves_coin place accepting test) told =
    met_none d.body (coin place) past
    (λ is. ap (λ b. cond b (suc (accepted_coins past)) (accepted_coins past)) test)
    (λ banking. absurd (no_bill d.body accepting banking)) ∙ told
came_told d past lines _ _ _ _ (takes_bill place banking test) told =
    met_none d.body (coin place) past (λ accepting. absurd (no_bill d.body accepting banking)) (λ is. refl) ∙ told
came_told d past lines _ _ _ _ (leaves_bill place banking test) told =
    met_none d.body (coin place) past (λ accepting. absurd (no_bill d.body accepting banking)) (λ is. refl) ∙ told
came_told d past lines _ _ _ _ (leaves_alien accepting) told =
    met_none d.body alien past (λ is. refl) (λ is. refl) ∙ told
came_told d past lines _ _ _ _ (drops_coin paying test) told =
    met_none d.body fall past (λ is. refl) (λ is. refl) ∙ told
came_told d past lines _ _ _ _ (drops_none paying test) told =
    met_none d.body fall past (λ is. refl) (λ is. refl) ∙ told
came_told d past lines _ _ _ _ (jams paying test) told =
    met_none d.body jam past (λ is. refl) (λ is. refl) ∙ told
came_told d past lines _ _ _ _ (jams_none paying test) told =
    met_none d.body jam past (λ is. refl) (λ is. refl) ∙ told
came_told d past lines _ _ _ _ is_reset told =
    met_none d.body reset past (λ is. refl) (λ is. refl) ∙ told

told_end : (d : DeviceSetup) (past : List Entry) (e : Entry) (end : Option End) → IsTold d (e ∷ past) →
    IsTold d (with_end d.addr e end ++ past)
told_end d past e None told = told
told_end d past e (Some end) told =
    told_lines d (e ∷ past) (entry.Ended d.addr end) (ended end ∷ lines_of d (e ∷ past)) refl
    (lines_ended d (e ∷ past) end) refl told

told_there : (capacity : ℕ) (setup : Setup) (d : DeviceSetup) (past news : List Entry) (s : Step) → IsOf setup d →
    Ids setup past → AtDevice capacity setup d past s news → IsTold d past → IsTold d (news ++ past)
told_there capacity setup d past _ _ own ids (came s e m ls comes) told =
    let is = loose d (met d past) s e m ls comes in
    ap (λ ms. accepted_of d.body (ms ++ met d past)) (loose_met d past s e m ls is)
    ∙ came_told d (met d past) (lines_of d past) s e m ls comes told
    ∙ sym (ap (λ lines. length (coins lines)) (loose_line d past s e m ls is))
told_there capacity setup d past _ _ own ids (took s c gives suited here is_free is_taken is_owed lets) told =
    told_lines d past (entry.Taken c) (taken c ∷ lines_of d past) refl (lines_taken d past c here) refl told
told_there capacity setup d past _ _ own ids (halted paying can) told =
    told_lines d past (entry.Taken (command.Halt d.addr)) (taken (command.Halt d.addr) ∷ lines_of d past) refl
    (lines_taken d past (command.Halt d.addr) refl) refl told
told_there capacity setup d past _ _ own ids (idled is_free) told = told
told_there capacity setup d past _ _ own ids (made_exchange c since q at_work is_row) told =
    let sent = ask d.kind d.addr q in
    told_end d past (wire_of setup d past q) (wire_end setup d past c since q)
    (doses_told d.body d.serial (met d past) (asks_of d (heard_by_devices (pending past) sent)) (lines_of d past) told
    ∙ sym (ap (λ lines. length (coins lines)) (lines_wire d past sent (heard_after setup past sent))))
told_there capacity setup d past _ _ own ids (made_put c since r at_work is_row) told =
    told_end d past (entry.Put r) (record_end d past c since r)
    (told_lines d past (entry.Put r) (put r ∷ lines_of d past) refl
    (lines_put d past r (put_owned setup past d c since r own ids at_work is_row)) refl told)

told_passed : (d : DeviceSetup) (past news : List Entry) → ArePassed d past news → IsTold d past →
    IsTold d (news ++ past)
told_passed d past [] passes told = told
told_passed d past (e ∷ news) passes told =
    passes.0.told (lines_of d (news ++ past)) (told_passed d past news passes.1 told)

told_lost : (d : DeviceSetup) (past news : List Entry) → Lost d past news → IsTold d past → IsTold d (news ++ past)
told_lost d past _ bare told = told
told_lost d past _ (kept_here c since r at_work is_row owned) told =
    told ∙ sym (ap (λ lines. length (coins lines)) (lines_kept d past r owned))
told_lost d past _ (kept_elsewhere r away caused) told =
    told ∙ sym (ap (λ lines. length (coins lines)) (lines_kept_elsewhere d past r away))

told_start : (body : DeviceBody) → accepted_of body [] ≡ 0
told_start (Acceptor accepts values ids) = refl
told_start (Hopper life value) = refl
told_start (Bill accepts values ids) = refl

told_step : (capacity : ℕ) (setup : Setup) (d : DeviceSetup) (past news : List Entry) (s : Step) → IsSoundSetup setup →
    IsOf setup d → Ids setup past → Brought capacity setup past s news → IsTold d past → IsTold d (news ++ past)
told_step capacity setup d past news s sound own ids brings told =
    elim (seen_from capacity setup d past news s sound own ids brings) [
      | seen_here at ↦ told_there capacity setup d past news s own ids at told
      | seen_aside aside ↦ told_passed d past news aside.passes told
      | seen_lost lost no_next ↦ told_lost d past news lost told
    ]

-- the job that is running, and what its accept counters count
record CountsAt (d : DeviceSetup) (c : Command) (past : List Entry) : Type 0 where
  since : List Line
  job_is : job (lines_of d past) ≡ works c since
  told : IsTold d past
  counted : Counted (start_of d.body) (lines_of d past) since

-- what a step makes of it: no end but for a coin, and where none came, it goes on
Counts : DeviceSetup → Command → List Entry → List Entry → Type 0
Counts d c past news =
    EachWhileRunning (IsMovedByCoin d) d.addr past news × (HasNoEnd d.addr news → CountsAt d c (news ++ past))

-- an entry that ends no job of the device
not_moved : (d : DeviceSetup) (past : List Entry) (e : Entry) → HasNoEnd d.addr (e ∷ []) → IsMovedByCoin d past e
not_moved d past (entry.Ended addr end) no_end = λ same. absurd (no_end.0 same)
not_moved d past e no_end = tt

none_moved : (d : DeviceSetup) (past news : List Entry) → ArePassed d past news →
    EachWhileRunning (IsMovedByCoin d) d.addr past news
none_moved d past [] passes = tt
none_moved d past (e ∷ news) passes =
    ((λ none. not_moved d (news ++ past) e passes.0.no_end), none_moved d past news passes.1)

-- no dose is a reading
now_aside : IsAside counted_now
now_aside = record { dosed = λ count lines. refl; stacked = λ coin lines. refl }

before_aside : IsAside counted_before
before_aside = record { dosed = λ count lines. refl; stacked = λ coin lines. refl }

-- lines of others, and none of the job
counts_aside : (d : DeviceSetup) (c : Command) (past news : List Entry) → ArePassed d past news → CountsAt d c past →
    Counts d c past news
unfolding Counts
counts_aside d c past news passes at =
    let after : CountsAt d c (news ++ past) = record {
      since = at.since;
      job_is = passed_job d past news passes ∙ at.job_is;
      told = told_passed d past news passes at.told;
      counted = counted_same (start_of d.body) (lines_of d past) (lines_of d (news ++ past)) at.since
          (passed_same counted_now now_aside d past news passes)
          (passed_same counted_before before_aside d past news passes) at.counted;
    } in
    (none_moved d past news passes, λ none. after)

came_counted : (d : DeviceSetup) (past : List Met) (lines since : List Line) (s : Step) (e : Entry) (m : Met)
    (ls : List Line) → Comes d past s e m ls → Counted (start_of d.body) lines since →
    Counted (start_of d.body) (ls ++ lines) since
came_counted d past lines since _ _ _ _ (takes_coin place accepting test) counted =
    counted_same (start_of d.body) lines _ since refl refl counted
came_counted d past lines since _ _ _ _ (leaves_coin place accepting test) counted =
    counted_same (start_of d.body) lines _ since refl refl counted
came_counted d past lines since _ _ _ _ (takes_bill place banking test) counted = counted
came_counted d past lines since _ _ _ _ (leaves_bill place banking test) counted =
    counted_same (start_of d.body) lines _ since refl refl counted
came_counted d past lines since _ _ _ _ (leaves_alien accepting) counted =
    counted_same (start_of d.body) lines _ since refl refl counted
came_counted d past lines since _ _ _ _ (drops_coin paying test) counted =
    counted_same (start_of d.body) lines _ since refl refl counted
came_counted d past lines since _ _ _ _ (drops_none paying test) counted = counted
came_counted d past lines since _ _ _ _ (jams paying test) counted = counted
came_counted d past lines since _ _ _ _ (jams_none paying test) counted = counted
came_counted d past lines since _ _ _ _ is_reset counted =
    counted_same (start_of d.body) lines _ since refl refl counted

-- a line of the job that reads no accept counter
counts_line : (d : DeviceSetup) (c : Command) (past : List Entry) (e : Entry) (l : Line) (at : CountsAt d c past) →
    lines_of d (e ∷ past) ≡ l ∷ lines_of d past → job (l ∷ lines_of d past) ≡ with_line l (job (lines_of d past)) →
    IsTold d (e ∷ past) → Counted (start_of d.body) (l ∷ lines_of d past) (l ∷ at.since) → CountsAt d c (e ∷ past)
counts_line d c past e l at lines_are line_is told counted = record {
  since = l ∷ at.since;
  job_is = ap job lines_are ∙ line_is ∙ ap (with_line l) at.job_is;
  told = told;
  counted = subst (λ lines. Counted (start_of d.body) lines (l ∷ at.since)) (sym lines_are) counted;
}

-- an entry of the job, with its end or without
counts_end : (d : DeviceSetup) (c : Command) (past : List Entry) (e : Entry) (found : Option End) →
    IsMovedByCoin d past e →
    ((end : End) → found ≡ Some end → MovedAt (lines_of d (e ∷ past)) (ended end)) → CountsAt d c (e ∷ past) →
    Counts d c past (with_end d.addr e found)
unfolding Counts
counts_end d c past e None moved ends at = (((λ none. moved), tt), λ none. at)
counts_end d c past e (Some end) moved ends at =
    (((λ none same. ends end refl), ((λ none. moved), tt)), λ none. absurd (none.0 refl))

-- the lines before that of an exchange
abbrev dosed_lines : DeviceSetup → List Entry → Request → List Line
dosed_lines d past q = doses_of d past (ask d.kind d.addr q) ++ lines_of d past

-- an exchange, what it got being reported
exchanged : (setup : Setup) (d : DeviceSetup) (c : Command) (past : List Entry) (q : Request) (found : Option Reply)
    (at : CountsAt d c past) → asked d.kind (ask d.kind d.addr q) ≡ Some q →
    got_by d (ask d.kind d.addr q) (heard_after setup past (ask d.kind d.addr q)) ≡ found →
    CountsAs (start_of d.body) (accepts_line (exchange (Some q) found)) (dosed_lines d past q) →
    ((lines : List Line) (end : End) → Counted (start_of d.body) lines (exchange (Some q) found ∷ at.since) →
    end_of d c (exchange (Some q) found) at.since (epoch (lines_of d past)) ≡ Some end → MovedAt lines (ended end)) →
    Counts d c past (with_end d.addr (wire_of setup d past q) (wire_end setup d past c at.since q))
exchanged setup d c past q found at asks_it got_is reads ends =
    let sent = ask d.kind d.addr q in
    let got = got_by d sent (heard_after setup past sent) in
    let l = exchange (Some q) found in
    let heard_it = asks_of d (heard_by_devices (pending past) sent) in
    let dosed = dosed_lines d past q in
    let line_is : exchange (asked d.kind sent) got ≡ l =
    ap (λ a. exchange a got) asks_it ∙ ap (exchange (Some q)) got_is in
    let lines_are : lines_of d (wire_of setup d past q ∷ past) ≡ l ∷ dosed =
    lines_wire d past sent (heard_after setup past sent) ∙ ap (λ x. x ∷ dosed) line_is in
    let doses_only = doses_are d.body d.serial (met d past) heard_it in
    let counted : Counted (start_of d.body) (l ∷ dosed) (l ∷ at.since) =
    counted_line (start_of d.body) l dosed at.since reads
    (counted_same (start_of d.body) (lines_of d past) dosed at.since
    (same_over counted_now now_aside (doses_of d past sent) (lines_of d past) doses_only)
    (same_over counted_before before_aside (doses_of d past sent) (lines_of d past) doses_only) at.counted) in
    let after : CountsAt d c (wire_of setup d past q ∷ past) = record {
      since = l ∷ at.since;
      job_is = ap job lines_are ∙ ap (with_line l) (job_undosed d.body d.serial (met d past) heard_it (lines_of d past)
          ∙ at.job_is);
      told = doses_told d.body d.serial (met d past) heard_it (lines_of d past) at.told
          ∙ sym (ap (λ ls. length (coins ls)) lines_are);
      counted = subst (λ ls. Counted (start_of d.body) ls (l ∷ at.since)) (sym lines_are) counted;
    } in
    subst (λ x. Counts d c past (with_end d.addr (wire_of setup d past q)
    (end_of d c x at.since (epoch (lines_of d past))))) (sym line_is)
    (counts_end d c past (wire_of setup d past q) (end_of d c l at.since (epoch (lines_of d past))) tt
    (λ end is. subst (λ ls. MovedAt ls (ended end)) (sym lines_are) (ends (l ∷ dosed) end counted is)) after)

asked_there : (setup : Setup) (d : DeviceSetup) (c : Command) (past : List Entry) (q : Request) →
    IsPlayed setup d c → IsTaker d.body → (at : CountsAt d c past) → row_after d past c at.since ≡ sends q →
    pending past ≡ fault.Clear →
    Counts d c past (with_end d.addr (wire_of setup d past q) (wire_end setup d past c at.since q))
asked_there setup d c past q played taking at is_row clear =
    let state = epoch (lines_of d past) in
    let answers =
    answers_at setup past d c (done (rows_of d c) at.since) (judged_in c at.since state)
    (noted_in at.since (order (lines_of d past))) q played.sound played.own played.suited played.known is_row in
    let asks_it = asked_back d.kind d.addr q (fits_of d (met d past) q answers) in
    let heard_is : asks_of d (heard_by_devices (pending past) (ask d.kind d.addr q)) ≡ Some q =
    ap (λ f. asks_of d (heard_by_devices f (ask d.kind d.addr q))) clear ∙ heard_back d (met d past) q answers in
    elim answers [
      | inl is ↦ exchanged setup d c past q (Some is.y) at asks_it
          (undisturbed_got setup d past q is played.sound played.own clear)
          (subst (λ heard. CountsAs (start_of d.body) (accepts_line (exchange (Some q) (Some is.y)))
          (doses d.body d.serial (met d past) heard ++ lines_of d past)) (sym heard_is)
          (read_counts d (met d past) (lines_of d past) q is.y taking at.told is.replied))
          (λ lines end counted. answer_tells (start_of d.body) d c (Some q) is.y lines at.since state end counted)
      | inr is ↦ exchanged setup d c past q None at asks_it
          (undisturbed_refused setup d past q is played.sound played.own clear)
          (none_read (start_of d.body) q (dosed_lines d past q))
          (λ lines end counted. failed_tells d c q lines at.since state end)
    ]

-- a put
put_there : (setup : Setup) (d : DeviceSetup) (c : Command) (past : List Entry) (r : Record) → IsOf setup d →
    Ids setup past → (at : CountsAt d c past) → AtWork d past c at.since → row_after d past c at.since ≡ puts r →
    Counts d c past (with_end d.addr (entry.Put r) (record_end d past c at.since r))
put_there setup d c past r own ids at at_work is_row =
    let lines_are = lines_put d past r (put_owned setup past d c at.since r own ids at_work is_row) in
    counts_end d c past (entry.Put r) (record_end d past c at.since r) tt
    (λ end is. put_tells d c r (lines_of d (entry.Put r ∷ past)) at.since (epoch (lines_of d past)) end is)
    (counts_line d c past (entry.Put r) (put r) at lines_are refl
    (at.told ∙ sym (ap (λ ls. length (coins ls)) lines_are))
    (counted_line (start_of d.body) (put r) (lines_of d past) at.since (λ n is. cc) at.counted))

-- what each step brings at the device
counts_there : (capacity : ℕ) (setup : Setup) (d : DeviceSetup) (c : Command) (past news : List Entry) (s : Step) →
    IsPlayed setup d c → IsTaker d.body → Ids setup past → CountsAt d c past →
    EachWhileRunning (LeavesAlone d.addr) d.addr past news → AtDevice capacity setup d past s news →
    Counts d c past news
unfolding Counts
counts_there capacity setup d c past _ _ played taking ids at alone (came s e m ls comes) =
    let is = loose d (met d past) s e m ls comes in
    let lines_are = loose_line d past s e m ls is in
    let after : CountsAt d c (e ∷ past) = record {
      since = at.since;
      job_is = ap job lines_are ∙ is.same_job (lines_of d past) ∙ at.job_is;
      told = told_there capacity setup d past (e ∷ []) s played.own ids (came s e m ls comes) at.told;
      counted = subst (λ lines. Counted (start_of d.body) lines at.since) (sym lines_are)
          (came_counted d (met d past) (lines_of d past) at.since s e m ls comes at.counted);
    } in
    (((λ none. not_moved d past e (is.no_end d.addr)), tt), λ none. after)
counts_there capacity setup d c past _ _ played taking ids at alone
    (took s x gives suited here is_free is_taken is_owed lets) = absurd (no_free c at.since (sym at.job_is ∙ is_free))
counts_there capacity setup d c past _ _ played taking ids at alone (halted paying can) =
    let l = taken (command.Halt d.addr) in
    let lines_are = lines_taken d past (command.Halt d.addr) refl in (
      ((λ none. tt), tt),
      λ none. counts_line d c past (entry.Taken (command.Halt d.addr)) l at lines_are refl
          (at.told ∙ sym (ap (λ ls. length (coins ls)) lines_are))
          (counted_line (start_of d.body) l (lines_of d past) at.since (λ n is. cc) at.counted),
    )
counts_there capacity setup d c past _ _ played taking ids at alone (idled is_free) =
    absurd (no_free c at.since (sym at.job_is ∙ is_free))
counts_there capacity setup d c past _ _ played taking ids at alone (made_exchange x others q at_work is_row) =
    let same = works_same c x at.since others (sym at.job_is ∙ at_work.job_is) in
    let sent = ask d.kind d.addr q in
    let clear =
    first_clear d.addr past sent (heard_after setup past sent) (wire_end setup d past x others q) alone in
    let same_row : row_after d past c at.since ≡ sends q =
    subst (λ y. row_after d past y at.since ≡ sends q) same.0
    (subst (λ y. row_after d past x y ≡ sends q) same.1 is_row) in
    subst (λ y. Counts d c past (with_end d.addr (wire_of setup d past q) (wire_end setup d past y others q)))
    (sym same.0)
    (subst (λ y. Counts d c past (with_end d.addr (wire_of setup d past q) (wire_end setup d past c y q))) (sym same.1)
    (asked_there setup d c past q played taking at same_row clear))
counts_there capacity setup d c past _ _ played taking ids at alone (made_put x others r at_work is_row) =
    let same = works_same c x at.since others (sym at.job_is ∙ at_work.job_is) in
    let is_work : AtWork d past c at.since =
    record { job_is = at.job_is; is_here = subst (λ y. address_of y ≡ d.addr) same.0 at_work.is_here } in
    let same_row : row_after d past c at.since ≡ puts r =
    subst (λ y. row_after d past y at.since ≡ puts r) same.0
    (subst (λ y. row_after d past x y ≡ puts r) same.1 is_row) in
    subst (λ y. Counts d c past (with_end d.addr (entry.Put r) (record_end d past y others r))) (sym same.0)
    (subst (λ y. Counts d c past (with_end d.addr (entry.Put r) (record_end d past c y r))) (sym same.1)
    (put_there setup d c past r played.own ids at is_work same_row))

counts_step : (capacity : ℕ) (setup : Setup) (d : DeviceSetup) (c : Command) (past news : List Entry) (s : Step) →
    IsPlayed setup d c → IsTaker d.body → Ids setup past → CountsAt d c past →
    EachWhileRunning (LeavesAlone d.addr) d.addr past news → Brought capacity setup past s news → Counts d c past news
counts_step capacity setup d c past news s played taking ids at alone brings =
    elim (seen_from capacity setup d past news s played.sound played.own ids brings) [
      | seen_here here ↦ counts_there capacity setup d c past news s played taking ids at alone here
      | seen_aside aside ↦ counts_aside d c past news aside.passes at
      | seen_lost lost no_next ↦ absurd (none_lost d past news lost alone)
    ]

-- an entry that reports a forged exchange is no end, and no line of the job
counts_forged : (d : DeviceSetup) (c : Command) (past : List Entry) → GoesOverForged (Counts d c past)
unfolding Counts
counts_forged d c past news addr counts = (((λ none. tt), counts.0), λ none. after (counts.1 none))
  where
    after : CountsAt d c (news ++ past) → CountsAt d c (entry.Forged addr ∷ news ++ past)
    after at = record { since = at.since; job_is = at.job_is; told = at.told; counted = at.counted }

-- what holds while a job is running of some entries and of those after them
work_both : (P : List Entry → Entry → Type 0) (addr : ℕ) (past news later : List Entry) →
    EachWhileRunning P addr past news → (HasNoEnd addr news → EachWhileRunning P addr (news ++ past) later) →
    EachWhileRunning P addr past (later ++ news)
work_both P addr past news [] first others = first
work_both P addr past news (e ∷ later) first others = (
  λ none. let parts = no_end_parts addr news later none in
      subst (λ es. P es e) (sym (append_assoc later news past)) ((others parts.1).0 parts.0),
  work_both P addr past news later first (λ none. (others none).1),
)
  where
    no_end_parts : (addr : ℕ) (news later : List Entry) → HasNoEnd addr (later ++ news) →
        HasNoEnd addr later × HasNoEnd addr news
    no_end_parts addr news [] none = (tt, none)
    no_end_parts addr news (entry.Ended other end ∷ later) none =
        let parts = no_end_parts addr news later none.1 in ((none.0, parts.0), parts.1)
    no_end_parts addr news (e ∷ later) none = no_end_parts addr news later none

-- one step after the other
moves_along : (capacity : ℕ) (setup : Setup) (d : DeviceSetup) (c : Command) (past : List Entry) (steps : List Step)
    (end : List Entry) → IsPlayed setup d c → IsTaker d.body → Ids setup past → CountsAt d c past →
    LegalFrom capacity setup past steps end → IsUndisturbed d.addr past end → IsOnlyMovedByCoins d past end
unfolding Counts
moves_along capacity setup d c past [] end played taking ids at legal undisturbed = λ news is.
    subst (EachWhileRunning (IsMovedByCoin d) d.addr past)
    (append_cancel_right [] news past (sym legal ∙ is)) tt
moves_along capacity setup d c past (s ∷ steps) end played taking ids at legal undisturbed = λ all is.
    let news = legal.0 in
    let told = tells capacity setup past news s legal.1 in
    let later = grown capacity setup (news ++ past) steps end legal.2 in
    let whole : end ≡ (later.0 ++ news) ++ past = later.1 ∙ sym (append_assoc later.0 news past) in
    let alone = work_first (LeavesAlone d.addr) d.addr past news later.0 (undisturbed (later.0 ++ news) whole) in
    let counts =
    over_telling capacity setup past news s (Counts d c past) (counts_forged d c past) told
    (counts_step capacity setup d c past told.told s played taking ids at
    (told_first (LeavesAlone d.addr) d.addr capacity setup past news s told alone) told.brings) in
    subst (EachWhileRunning (IsMovedByCoin d) d.addr past)
    (append_cancel_right (later.0 ++ news) all past (sym whole ∙ is))
    (work_both (IsMovedByCoin d) d.addr past news later.0 counts.0 (λ none.
    moves_along capacity setup d c (news ++ past) steps end played taking
    (ids_told capacity setup past news s played.sound told ids) (counts.1 none) legal.2
    (λ more goes. work_later (LeavesAlone d.addr) d.addr past news more none
    (undisturbed (more ++ news) (goes ∙ sym (append_assoc more news past))))
    later.0 later.1))

-- so it is with a job that was just taken
pub job_moves : (capacity : ℕ) (setup : Setup) (before : List Step) (past : List Entry) (d : DeviceSetup) (c : Command)
    (steps : List Step) (end : List Entry) → IsSoundSetup setup → IsOf setup d → IsTaker d.body → IsCommand c →
    suits d.body c ≡ true → LegalFrom capacity setup [] before past → job (lines_of d past) ≡ works c [] →
    LegalFrom capacity setup past steps end → IsUndisturbed d.addr past end → IsOnlyMovedByCoins d past end
job_moves capacity setup before past d c steps end sound own taking known suited was is_job legal undisturbed =
    let both = along_from capacity setup (λ s. ⊤) (IsTold d) sound
    (λ es news s any ids brings told. told_step capacity setup d es news s sound own ids brings told)
    (λ es addr told. told) [] before past (any_steps before) (ids_start setup) was (told_start d.body) in
    let at : CountsAt d c past = record {
      since = [];
      job_is = is_job;
      told = both.1;
      counted = counted_none (start_of d.body) (lines_of d past);
    } in
    moves_along capacity setup d c past steps end (record { sound = sound; own = own; known = known; suited = suited })
    taking both.0 at legal undisturbed

pub round_moves : (capacity : ℕ) (setup : Setup) (before : List Step) (past : List Entry) (d : DeviceSetup)
    (steps : List Step) (end : List Entry) → IsSoundSetup setup → IsOf setup d → IsTaker d.body →
    LegalFrom capacity setup [] before past → job (lines_of d past) ≡ works (command.Round d.addr) [] →
    LegalFrom capacity setup past steps end → IsUndisturbed d.addr past end → IsOnlyMovedByCoins d past end
round_moves capacity setup before past d steps end sound own taking =
    job_moves capacity setup before past d (command.Round d.addr) steps end sound own taking tt
    (round_suits d.body d.addr taking)
