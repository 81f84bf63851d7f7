-- A bill is routed only in the job of a `route`, by its way, and once, whatever the wire does: it is the one row of that job,
-- which is sent once, and no other job asks for it. Nothing else that is sent asks a device to route a bill.
use Rattle.std.proofs.Common.{◌≡◌, ◌≢◌, ℕ, suc, ◌≤◌, ◌==◌, cond, true, false, Bool, List, [], ◌∷◌, ◌++◌, map, slice_index, refl, ap, sym, ◌∙◌, subst, Option, Some, None, ◌⊎◌, inl, inr, arith, rules, eq-eqb}
use Rattle.std.specs.Prelude.{⊤, option_and_then}
use Rattle.std.proofs.lemmas.Bool.{ne_eqb}
use Rattle.cct_model.specs.terms.device.DeviceSetup.{DeviceSetup}
use Rattle.cct_model.specs.terms.device.Setup.{Setup}
use Rattle.cct_model.specs.terms.request.Request.{Request}
use Rattle.cct_model.specs.terms.request.Request.TheVariants.{AddressPoll, SimplePoll, RouteBill}
use Rattle.cct_model.specs.terms.wire.CheckKind.{CheckKind}
use Rattle.cct_model.specs.lines.record.Record.{Record}
use Rattle.cct_model.specs.declared.judging.EpochState.{EpochState}
use Rattle.cct_model.specs.declared.judging.OpenOrder.{OpenOrder}
use Rattle.cct_model.specs.lines.command.Command.{Command}
use Rattle.cct_model.specs.lines.command.Command.TheVariants as command
use Rattle.cct_model.specs.lines.command.Step.{Step}
use Rattle.cct_model.specs.lines.command.WireFault.TheVariants as fault
use Rattle.cct_model.specs.lines.entry.End.{End}
use Rattle.cct_model.specs.lines.entry.Entry.{Entry}
use Rattle.cct_model.specs.lines.entry.Entry.TheVariants as entry
use Rattle.cct_model.specs.Exchange.{ask, asked, asks_of, asked_of, to_all, to_one}
use Rattle.cct_model.specs.Job.{Job, free, works, job, with_line, epoch, judged_in, sends, noted_in, address_of, ident_requests}
use Rattle.cct_model.specs.Legal.{Legal, with_end}
use Rattle.cct_model.specs.Line.{Line, exchange, put, taken}
use Rattle.cct_model.specs.Message.{Message, message}
use Rattle.cct_model.specs.Order.{order}
use Rattle.cct_model.specs.Reply.{Reply}
use Rattle.cct_model.specs.Request.{request_of}
use Rattle.cct_model.specs.Rows.{TableRow, telling, rows_of, after, rest, row, done, ends_first}
use Rattle.cct_model.specs.Scan.{poll_of}
use Rattle.cct_model.specs.Setup.{IsSoundSetup}
use Rattle.cct_model.specs.Transcript.{pending, met, lines_of, heard_by_devices, heard_after, got_by, doses_of, onto}
use Rattle.cct_model.proofs.Doses.{job_undosed}
use Rattle.cct_model.proofs.Rows.{but_first, after_none, after_next, EachBefore, EachRow, before_on, each_after, each_told, fact_after, told_fact}
use Rattle.cct_model.proofs.RowEnds.{IfOnce, once_sent, row_once, stays_again, rest_asks}
use Rattle.cct_laws.specs.DeviceJobs.{IsForOthers, with_ended}
use Rattle.cct_laws.specs.Ids.{Ids}
use Rattle.cct_laws.specs.Law.{IsOf, EachEntry}
use Rattle.cct_laws.proofs.wire.HeardBytes.{ask_to, asks_nothing, poll_others}
use Rattle.cct_laws.proofs.setups.DeviceAt.{same_or_other}
use Rattle.cct_laws.proofs.jobs.StepBrings.{AtDevice, came, took, halted, idled, made_exchange, made_put, Brought, of_device, faulted, refused, began_scan, began_sale, nobody, polled, sold, balanced, of_desk, ended_short, lost_power, lost_in_put, lost_in_sale, wire_of, wire_end, record_end, row_after, poll_wire, poll_end, begun_at_work, IsOfNoJob, came_of_no_job, desk_of_no_job}
use Rattle.cct_laws.proofs.jobs.SeenAtOne.{Lost, Seen, bare, each_with_end, kept_here, kept_elsewhere, loose, loose_line, seen_here, seen_aside, seen_lost, seen_from, passed_job, along, lines_wire, lines_with_end, lines_put, lines_taken, lines_kept, lines_kept_elsewhere, not_zero}
use Rattle.cct_laws.proofs.jobs.EntriesOfStep.{any_steps}
use Rattle.cct_laws.proofs.orders.Ids.{put_owned}
use Rattle.cct_laws_live.specs.Routes.{anew_taken, one_routed, routed_in, RoutedAt, RoutedBy, way_at_work}
use Rattle.cct_laws_live.specs.Life.{EachLife}
use Rattle.cct_laws_live.specs.Live.{EachLive, shown, started}
use Rattle.cct_laws_live.proofs.Carrying.{by_law, each_shown}
use Rattle.cct_laws_live.proofs.Followed.{alike_shown}
use Rattle.cct_laws_live.proofs.LifeLaws.{life_along}
use Rattle.cct_laws_live.proofs.Sends.{IfFirst, asks_it, first_again, first_sent, first_weaker}

-- a request routes no bill, or routes one only where none was routed, or only by a way
abbrev RoutesNone : Request → Type 0
RoutesNone (RouteBill way) = ⊥
RoutesNone q = ⊤

abbrev pub RoutesFirst : ℕ → Request → Type 0
RoutesFirst sent (RouteBill way) = sent ≡ 0
RoutesFirst sent q = ⊤

abbrev RoutesBy : Option ℕ → Request → Type 0
RoutesBy given (RouteBill way) = given ≡ Some way
RoutesBy given q = ⊤

-- no row after another one routes a bill
abbrev IsUnrouted : TableRow → List TableRow → Type 0
IsUnrouted r rows = IfFirst RoutesNone rows

told_unrouted : (qs : List Request) → IfFirst RoutesNone (telling qs) × EachBefore IsUnrouted (telling qs)
told_unrouted =
    told_fact (λ rows. IfFirst RoutesNone rows × EachBefore IsUnrouted rows) (tt, tt)
    (λ q behind rows both. (tt, (both.0, both.1)))

rows_unrouted : (d : DeviceSetup) (c : Command) → EachBefore IsUnrouted (rows_of d c)
rows_unrouted d (command.Ident addr) = (told_unrouted (ident_requests d.body)).1
rows_unrouted d c = search rules

later_unrouted : (rows : List TableRow) → EachBefore IsUnrouted rows → IfFirst RoutesNone (but_first rows)
later_unrouted [] each = tt
later_unrouted (r ∷ rows) each = each.0

none_first : (sent : ℕ) (q : Request) → RoutesNone q → RoutesFirst sent q
none_first sent (RouteBill way) none = absurd none
none_first sent q none = tt

rest_unrouted : (d : DeviceSetup) (c : Command) (since : List Line) (sent : ℕ) →
    IfFirst (RoutesFirst sent) (but_first (rest d c since))
rest_unrouted d c since sent =
    first_weaker RoutesNone (RoutesFirst sent) (none_first sent) (but_first (rest d c since))
    (later_unrouted (rest d c since)
    (fact_after (EachBefore IsUnrouted) (before_on IsUnrouted) (rows_of d c) (done (rows_of d c) since) (rows_unrouted d c)))

-- and only the row of a `route` does, by its way
abbrev way_given : Command → Option ℕ
way_given (command.Route addr way) = Some way
way_given c = None

rows_given : (d : DeviceSetup) (c : Command) → EachRow (IfOnce (RoutesBy (way_given c))) (rows_of d c)
rows_given d (command.Ident addr) =
    each_told (IfOnce (RoutesBy None)) (λ q. tt) (λ q. tt) (ident_requests d.body)
rows_given d c = search rules

given_at_work : (c : Command) (since : List Line) → way_at_work (works c since) ≡ way_given c
given_at_work (command.Route addr way) since = refl
given_at_work c since = refl

-- so what a job sends that routes a bill is ready, and is by its way
route_sent : (d : DeviceSetup) (c : Command) (since : List Line) (state : EpochState) (owed : Option OpenOrder)
    (way sent : ℕ) → row d c since state owed ≡ sends (RouteBill way) → IfFirst (RoutesFirst sent) (rest d c since) →
    (sent ≡ 0) × (way_given c ≡ Some way)
route_sent d c since state owed way sent is ready =
    let once = row_once d c since state owed (RouteBill way) is refl in
    let asks = rest_asks d c since state owed (RouteBill way) is in (
      first_sent (RoutesFirst sent) (address_of c) (judged_in c since state) (noted_in since owed) (rest d c since)
          (RouteBill way) asks once ready,
      once_sent (RoutesBy (way_given c)) (address_of c) (judged_in c since state) (noted_in since owed) (rest d c since)
          (RouteBill way) asks once
          (each_after (IfOnce (RoutesBy (way_given c))) (rows_of d c) (done (rows_of d c) since) (rows_given d c)),
    )

-- after any exchange and any record the row is ready, and so it is where a command was taken
exchange_ready : (d : DeviceSetup) (c : Command) (since : List Line) (q : Option Request) (got : Option Reply) (sent : ℕ) →
    IfFirst (RoutesFirst sent) (rest d c (exchange q got ∷ since))
exchange_ready d c since q got sent = by_end (ends_first (rest d c since) got) refl
  where
    by_end : (ends : Bool) → ends_first (rest d c since) got ≡ ends →
        IfFirst (RoutesFirst sent) (after (rows_of d c) (cond ends (suc (done (rows_of d c) since)) (done (rows_of d c) since)))
    by_end true test =
        subst (IfFirst (RoutesFirst sent)) (sym (after_next (rows_of d c) (done (rows_of d c) since)))
        (rest_unrouted d c since sent)
    by_end false test = first_again (RoutesFirst sent) (rest d c since) (stays_again (rest d c since) got test)

put_ready : (d : DeviceSetup) (c : Command) (since : List Line) (r : Record) (sent : ℕ) →
    IfFirst (RoutesFirst sent) (rest d c (put r ∷ since))
put_ready d c since r sent =
    subst (IfFirst (RoutesFirst sent)) (sym (after_next (rows_of d c) (done (rows_of d c) since)))
    (rest_unrouted d c since sent)

none_of_route : (addr a n : ℕ) → a ≡ addr → cond (a == addr) 0 n ≡ 0
none_of_route addr a n here = rw (eq-eqb a addr here) refl

begins_ready : (d : DeviceSetup) (c : Command) (sent : ℕ) → address_of c ≡ d.addr →
    IfFirst (RoutesFirst (anew_taken d.addr c sent)) (rest d c [])
begins_ready d (command.Ident addr) sent here =
    subst (IfFirst (RoutesFirst sent)) (sym (after_none (telling (ident_requests d.body))))
    (first_weaker RoutesNone (RoutesFirst sent) (none_first sent) (telling (ident_requests d.body))
    (told_unrouted (ident_requests d.body)).0)
begins_ready d (command.Route addr way) sent here = none_of_route d.addr addr sent here
begins_ready d c sent here = search rules

-- the row of a job is ready
abbrev pub ReadyJob : DeviceSetup → ℕ → Job → Type 0
ReadyJob d sent free = ⊤
ReadyJob d sent (works c since) = IfFirst (RoutesFirst sent) (rest d c since)

-- what holds at a device after every step: at most one bill was routed, and the row of its job is ready
abbrev pub Goes : DeviceSetup → ℕ → Job → Type 0
Goes d sent at_work = (sent ≤ 1) × ReadyJob d sent at_work

abbrev pub Ready : DeviceSetup → List Entry → Type 0
Ready d past = Goes d (routed_in d past) (job (lines_of d past))

goes_same : (d : DeviceSetup) (sent later : ℕ) (at_work next : Job) → later ≡ sent → next ≡ at_work →
    Goes d sent at_work → Goes d later next
goes_same d sent later at_work next counts does goes = rw (counts, does) goes

goes_free : (d : DeviceSetup) (sent later : ℕ) (next : Job) → later ≡ sent → next ≡ free → sent ≤ 1 → Goes d later next
goes_free d sent later next counts does few = rw (counts, does) (few, tt)

goes_ended : (d : DeviceSetup) (sent : ℕ) (end : Option End) (lines : List Line) → Goes d sent (job lines) →
    Goes d sent (job (with_ended end lines))
goes_ended d sent None lines goes = goes
goes_ended d sent (Some end) lines goes = (goes.0, tt)

-- what an exchange asks
few_routed : (asked : Option Request) (sent : ℕ) → sent ≤ 1 →
    ((way : ℕ) → asked ≡ Some (RouteBill way) → sent ≡ 0) → one_routed asked sent ≤ 1
few_routed (Some (RouteBill way)) sent few none = let is = none way refl in omega (arith, is)
few_routed asked sent few none = few

abbrev IsItsRoute : DeviceSetup → ℕ → ℕ → Job → ℕ → Type 0
IsItsRoute d addr sent at_work way = (addr ≡ d.addr) × (sent ≡ 0) × (way_at_work at_work ≡ Some way)

by_asked : (d : DeviceSetup) (addr sent : ℕ) (at_work : Job) (asked : Option Request) →
    ((way : ℕ) → asked ≡ Some (RouteBill way) → IsItsRoute d addr sent at_work way) → RoutedBy d addr sent at_work asked
by_asked d addr sent at_work (Some (RouteBill way)) its = its way refl
by_asked d addr sent at_work asked its = tt

-- what bytes ask of a device they spell
asked_so : (own all : Bool) (q : Option Request) (way : ℕ) →
    cond own (to_one q) (cond all (to_all q) None) ≡ Some (RouteBill way) → q ≡ Some (RouteBill way)
asked_so true all None way is = absurd cc
asked_so true all (Some AddressPoll) way is = absurd cc
asked_so true all (Some q) way is = is
asked_so false true None way is = absurd cc
asked_so false true (Some AddressPoll) way is = absurd cc
asked_so false true (Some q) way is = absurd cc
asked_so false false q way is = absurd cc

found_so : (addr : ℕ) (found : Option Message) (way : ℕ) →
    option_and_then (asked_of addr) found ≡ Some (RouteBill way) →
    option_and_then (λ m. request_of m.header m.body) found ≡ Some (RouteBill way)
found_so addr None way is = absurd cc
found_so addr (Some m) way is = asked_so (m.to == addr) (m.to == 0) (request_of m.header m.body) way is

spelled : (d : DeviceSetup) (piece : List ℕ) (way : ℕ) → asks_of d piece ≡ Some (RouteBill way) →
    asked d.kind piece ≡ Some (RouteBill way)
unfolding asks_of asked
spelled d piece way is = found_so d.addr (message d.kind piece) way is

same_asked : (q other : Request) → Some q ≡ Some other → q ≡ other
same_asked q other is = cc

-- so an exchange of its job routes a bill only as that job does
its_route : (setup : Setup) (d : DeviceSetup) (past : List Entry) (c : Command) (since : List Line) (q : Request) →
    IsSoundSetup setup → IsOf setup d → job (lines_of d past) ≡ works c since → row_after d past c since ≡ sends q →
    Ready d past → (way : ℕ) → asks_of d (ask d.kind d.addr q) ≡ Some (RouteBill way) →
    IsItsRoute d d.addr (routed_in d past) (job (lines_of d past)) way
its_route setup d past c since q sound own is_job is_row ready way asks =
    let is : q ≡ RouteBill way =
    same_asked q (RouteBill way)
    (sym (asks_it setup d past c since q sound own is_row) ∙ spelled d (ask d.kind d.addr q) way asks) in
    let at_row : ReadyJob d (routed_in d past) (works c since) = subst (ReadyJob d (routed_in d past)) is_job ready.1 in
    let sent =
    route_sent d c since (epoch (lines_of d past)) (order (lines_of d past)) way (routed_in d past)
    (is_row ∙ ap (λ x. sends x) is) at_row in
    (refl, sent.0, ap way_at_work is_job ∙ given_at_work c since ∙ sent.1)

-- the end of a job changes no count
routed_end : (d : DeviceSetup) (past : List Entry) (addr : ℕ) (e : Entry) (end : Option End) →
    routed_in d (with_end addr e end ++ past) ≡ routed_in d (e ∷ past)
routed_end d past addr e None = refl
routed_end d past addr e (Some end) = refl

-- nor does what comes to the device
counts_of_no_job : (d : DeviceSetup) (past : List Entry) (e : Entry) → IsOfNoJob e →
    (routed_in d (e ∷ past) ≡ routed_in d past) × RoutedAt d past e
counts_of_no_job d past (entry.Taken c) is = absurd is
counts_of_no_job d past (entry.Wire addr sent piece) is = absurd is
counts_of_no_job d past e is = (refl, tt)

few_anew : (addr : ℕ) (c : Command) (sent : ℕ) → sent ≤ 1 → anew_taken addr c sent ≤ 1
few_anew addr (command.Route a way) sent few = by_test (a == addr)
  where
    by_test : (here : Bool) → cond here 0 sent ≤ 1
    by_test true = omega arith
    by_test false = few
few_anew addr c sent few = few

-- a halt changes no row
halted_ready : (d : DeviceSetup) (addr sent : ℕ) (at_work : Job) → ReadyJob d sent at_work →
    ReadyJob d sent (with_line (taken (command.Halt addr)) at_work)
halted_ready d addr sent free ready = tt
halted_ready d addr sent (works c since) ready = ready

-- what each step brings at the device
ready_there : (capacity : ℕ) (setup : Setup) (d : DeviceSetup) (past news : List Entry) (s : Step) →
    IsSoundSetup setup → IsOf setup d → Ids setup past → AtDevice capacity setup d past s news → Ready d past →
    Ready d (news ++ past)
ready_there capacity setup d past _ _ sound own ids (came s e m ls comes) ready =
    let by_itself = loose d (met d past) s e m ls comes in
    goes_same d (routed_in d past) (routed_in d (e ∷ past)) (job (lines_of d past)) (job (lines_of d (e ∷ past)))
    (counts_of_no_job d past e (came_of_no_job d (met d past) s e m ls comes)).0
    (ap job (loose_line d past s e m ls by_itself) ∙ by_itself.same_job (lines_of d past)) ready
ready_there capacity setup d past _ _ sound own ids (took s c gives suited here is_free is_taken is_owed lets) ready =
    let begun : job (lines_of d (entry.Taken c ∷ past)) ≡ works c [] =
    ap job (lines_taken d past c here) ∙ begun_at_work d.body c (lines_of d past) suited in (
      few_anew d.addr c (routed_in d past) ready.0,
      subst (ReadyJob d (anew_taken d.addr c (routed_in d past))) (sym begun)
          (begins_ready d c (routed_in d past) here),
    )
ready_there capacity setup d past _ _ sound own ids (halted paying can) ready = (
  ready.0,
  subst (λ ls. ReadyJob d (routed_in d past) (job ls)) (sym (lines_taken d past (command.Halt d.addr) refl))
      (halted_ready d d.addr (routed_in d past) (job (lines_of d past)) ready.1),
)
ready_there capacity setup d past _ _ sound own ids (idled is_free) ready = ready
ready_there capacity setup d past _ _ sound own ids (made_exchange c since q at_work is_row) ready =
    let sent = ask d.kind d.addr q in
    let piece = heard_after setup past sent in
    let end = wire_end setup d past c since q in
    let line = exchange (asked d.kind sent) (got_by d sent piece) in
    let dosed = doses_of d past sent ++ lines_of d past in
    let many = one_routed (asks_of d sent) (routed_in d past) in
    let job_is : job dosed ≡ works c since =
    job_undosed d.body d.serial (met d past) (asks_of d (heard_by_devices (pending past) sent)) (lines_of d past)
    ∙ at_work.job_is in
    let few : many ≤ 1 =
    few_routed (asks_of d sent) (routed_in d past) ready.0
    (λ way asks. (its_route setup d past c since q sound own at_work.job_is is_row ready way asks).1) in
    let after_it : Goes d many (job (line ∷ dosed)) = (
      few,
      subst (λ j. ReadyJob d many (with_line line j)) (sym job_is)
          (exchange_ready d c since (asked d.kind sent) (got_by d sent piece) many),
    ) in
    goes_same d many _ (job (with_ended end (line ∷ dosed))) _
    (routed_end d past d.addr (wire_of setup d past q) end)
    (ap job (lines_with_end d past (wire_of setup d past q) end (line ∷ dosed) (lines_wire d past sent piece)))
    (goes_ended d many end (line ∷ dosed) after_it)
ready_there capacity setup d past _ _ sound own ids (made_put c since r at_work is_row) ready =
    let end = record_end d past c since r in
    let many = routed_in d past in
    let after_it : Goes d many (job (put r ∷ lines_of d past)) =
    (ready.0, subst (λ j. ReadyJob d many (with_line (put r) j)) (sym at_work.job_is) (put_ready d c since r many)) in
    goes_same d many _ (job (with_ended end (put r ∷ lines_of d past))) _ (routed_end d past d.addr (entry.Put r) end)
    (ap job (lines_with_end d past (entry.Put r) end (put r ∷ lines_of d past)
    (lines_put d past r (put_owned setup past d c since r own ids at_work is_row))))
    (goes_ended d many end (put r ∷ lines_of d past) after_it)

routed_there : (capacity : ℕ) (setup : Setup) (d : DeviceSetup) (past news : List Entry) (s : Step) →
    IsSoundSetup setup → IsOf setup d → AtDevice capacity setup d past s news → Ready d past →
    EachEntry (RoutedAt d) past → EachEntry (RoutedAt d) (news ++ past)
routed_there capacity setup d past _ _ sound own (came s e m ls comes) ready before =
    ((counts_of_no_job d past e (came_of_no_job d (met d past) s e m ls comes)).1, before)
routed_there capacity setup d past _ _ sound own (took s c gives suited here is_free is_taken is_owed lets) ready before =
    (tt, before)
routed_there capacity setup d past _ _ sound own (halted paying can) ready before = (tt, before)
routed_there capacity setup d past _ _ sound own (idled is_free) ready before = (tt, before)
routed_there capacity setup d past _ _ sound own (made_exchange c since q at_work is_row) ready before =
    each_with_end (RoutedAt d) past d.addr (wire_of setup d past q) (wire_end setup d past c since q)
    (by_asked d d.addr (routed_in d past) (job (lines_of d past)) (asks_of d (ask d.kind d.addr q))
    (its_route setup d past c since q sound own at_work.job_is is_row ready)) (λ older found. tt) before
routed_there capacity setup d past _ _ sound own (made_put c since r at_work is_row) ready before =
    each_with_end (RoutedAt d) past d.addr (entry.Put r) (record_end d past c since r) tt (λ older found. tt) before

-- an entry is none of a device: no `route` is taken for it, and nothing is sent that routes a bill of it
abbrev IsApart : DeviceSetup → Entry → Type 0
IsApart d (entry.Taken c) = (sent : ℕ) → anew_taken d.addr c sent ≡ sent
IsApart d (entry.Wire addr sent piece) = IsForOthers (asks_of d sent)
IsApart d e = ⊤

abbrev AreApart : DeviceSetup → List Entry → Type 0
AreApart d [] = ⊤
AreApart d (e ∷ news) = IsApart d e × AreApart d news

others_count : (asked : Option Request) (sent : ℕ) → IsForOthers asked → one_routed asked sent ≡ sent
others_count None sent others = refl
others_count (Some AddressPoll) sent others = refl
others_count (Some SimplePoll) sent others = refl
others_count (Some q) sent others = absurd others

others_routed : (d : DeviceSetup) (addr sent : ℕ) (at_work : Job) (asked : Option Request) → IsForOthers asked →
    RoutedBy d addr sent at_work asked
others_routed d addr sent at_work None others = tt
others_routed d addr sent at_work (Some AddressPoll) others = tt
others_routed d addr sent at_work (Some SimplePoll) others = tt
others_routed d addr sent at_work (Some q) others = absurd others

apart_counts : (d : DeviceSetup) (past news : List Entry) → AreApart d news →
    routed_in d (news ++ past) ≡ routed_in d past
apart_counts d past [] apart = refl
apart_counts d past (entry.Taken c ∷ news) apart = apart.0 (routed_in d (news ++ past)) ∙ apart_counts d past news apart.1
apart_counts d past (entry.Wire addr sent piece ∷ news) apart =
    others_count (asks_of d sent) (routed_in d (news ++ past)) apart.0 ∙ apart_counts d past news apart.1
apart_counts d past (e ∷ news) apart = apart_counts d past news apart.1

apart_at : (d : DeviceSetup) (past : List Entry) (e : Entry) → IsApart d e → RoutedAt d past e
apart_at d past (entry.Wire addr sent piece) apart =
    others_routed d addr (routed_in d past) (job (lines_of d past)) (asks_of d sent) apart
apart_at d past e apart = tt

apart_routed : (d : DeviceSetup) (past news : List Entry) → AreApart d news → EachEntry (RoutedAt d) past →
    EachEntry (RoutedAt d) (news ++ past)
apart_routed d past [] apart before = before
apart_routed d past (e ∷ news) apart before =
    (apart_at d (news ++ past) e apart.0, apart_routed d past news apart.1 before)

apart_end : (d : DeviceSetup) (addr : ℕ) (e : Entry) (end : Option End) → IsApart d e → AreApart d (with_end addr e end)
apart_end d addr e None apart = (apart, tt)
apart_end d addr e (Some end) apart = (tt, (apart, tt))

-- what is of no job is none of it, nor is what a step brought at another device
apart_of_no_job : (d : DeviceSetup) (e : Entry) → IsOfNoJob e → IsApart d e
apart_of_no_job d (entry.Taken c) is = absurd is
apart_of_no_job d (entry.Wire addr sent piece) is = absurd is
apart_of_no_job d e is = tt

taken_apart : (d : DeviceSetup) (c : Command) → address_of c ≢ d.addr → (sent : ℕ) → anew_taken d.addr c sent ≡ sent
taken_apart d (command.Route addr way) other sent = rw (ne_eqb addr d.addr other) refl
taken_apart d c other sent = refl

elsewhere : (capacity : ℕ) (setup : Setup) (d e : DeviceSetup) (past news : List Entry) (s : Step) →
    e.addr ≢ d.addr → e.addr ≢ 0 → AtDevice capacity setup e past s news → AreApart d news
elsewhere capacity setup d e past _ _ other some (came s n m ls comes) =
    (apart_of_no_job d n (came_of_no_job e (met e past) s n m ls comes), tt)
elsewhere capacity setup d e past _ _ other some (took s c gives suited here is_free is_taken is_owed lets) =
    (taken_apart d c (λ same. other (sym here ∙ same)), tt)
elsewhere capacity setup d e past _ _ other some (halted paying can) = ((λ sent. refl), tt)
elsewhere capacity setup d e past _ _ other some (idled is_free) = (tt, tt)
elsewhere capacity setup d e past _ _ other some (made_exchange c since q at_work is_row) =
    let to_it : slice_index (ask e.kind e.addr q) 0 ≡ e.addr = ask_to e.kind e.addr q in
    apart_end d e.addr (wire_of setup e past q) (wire_end setup e past c since q)
    (subst IsForOthers
    (sym (asks_nothing d (ask e.kind e.addr q) (λ same. other (sym to_it ∙ same)) (λ zero. some (sym to_it ∙ zero)))) tt)
elsewhere capacity setup d e past _ _ other some (made_put c since r at_work is_row) =
    apart_end d e.addr (entry.Put r) (record_end e past c since r) tt

poll_apart : (d : DeviceSetup) (kind : CheckKind) (addr : ℕ) → IsForOthers (asks_of d (ask kind addr (poll_of addr)))
poll_apart d kind addr = poll_others d fault.Clear kind addr refl

-- each step brought something at the device, or entries that are none of it
here_or_apart : (capacity : ℕ) (setup : Setup) (d : DeviceSetup) (past news : List Entry) (s : Step) →
    IsSoundSetup setup → IsOf setup d → Brought capacity setup past s news →
    AtDevice capacity setup d past s news ⊎ AreApart d news
here_or_apart capacity setup d past _ _ sound is_of (of_device e s news own told) =
    elim (same_or_other setup d e e.addr is_of own) [
      | inl same ↦ inl (subst (λ x. AtDevice capacity setup x past s news) same told)
      | inr other ↦ inr (elsewhere capacity setup d e past news s other (not_zero setup e sound own) told)
    ]
here_or_apart capacity setup d past _ _ sound is_of (faulted f) = inr (tt, tt)
here_or_apart capacity setup d past _ _ sound is_of (refused c why was) = inr (tt, tt)
here_or_apart capacity setup d past _ _ sound is_of (began_scan is_free) = inr ((λ sent. refl), tt)
here_or_apart capacity setup d past _ _ sound is_of (began_sale id price is_free lets) = inr ((λ sent. refl), tt)
here_or_apart capacity setup d past _ _ sound is_of (nobody addr none) = inr (tt, tt)
here_or_apart capacity setup d past _ _ sound is_of (polled c since check addr none is_job is_row) =
    inr (apart_end d 0 (poll_wire setup past check addr) (poll_end setup past since check addr) (poll_apart d check addr))
here_or_apart capacity setup d past _ _ sound is_of (sold id price since none selling) = inr (tt, (tt, tt))
here_or_apart capacity setup d past _ _ sound is_of balanced = inr (tt, tt)
here_or_apart capacity setup d past _ _ sound is_of (of_desk s e is) = inr (apart_of_no_job d e (desk_of_no_job s e is), tt)
here_or_apart capacity setup d past _ _ sound is_of (ended_short addr id count why paid rest small range was) =
    inr (tt, (tt, tt))
here_or_apart capacity setup d past _ _ sound is_of (lost_power at choice) = inr (tt, tt)
here_or_apart capacity setup d past _ _ sound is_of (lost_in_put at choice e c since r own at_work is_row) =
    inr (tt, (tt, tt))
here_or_apart capacity setup d past _ _ sound is_of (lost_in_sale at choice id price since none selling) =
    inr (tt, (tt, tt))

-- a power cut ends the job
lost_ready : (d : DeviceSetup) (past news : List Entry) → Lost d past news → Ready d past → Ready d (news ++ past)
lost_ready d past _ bare ready = (ready.0, tt)
lost_ready d past _ (kept_here c since r at_work is_row owned) ready =
    goes_free d (routed_in d past) (routed_in d past) _ refl (ap job (lines_kept d past r owned)) ready.0
lost_ready d past _ (kept_elsewhere r away caused) ready =
    goes_free d (routed_in d past) (routed_in d past) _ refl (ap job (lines_kept_elsewhere d past r away)) ready.0

-- so each step keeps both
abbrev pub RoutesWell : DeviceSetup → List Entry → Type 0
RoutesWell d past = Ready d past × EachEntry (RoutedAt d) past

well_there : (capacity : ℕ) (setup : Setup) (d : DeviceSetup) (past news : List Entry) (s : Step) →
    IsSoundSetup setup → IsOf setup d → Ids setup past → AtDevice capacity setup d past s news → RoutesWell d past →
    RoutesWell d (news ++ past)
well_there capacity setup d past news s sound own ids at both = (
  ready_there capacity setup d past news s sound own ids at both.0,
  routed_there capacity setup d past news s sound own at both.0 both.1,
)

well_apart : (capacity : ℕ) (setup : Setup) (d : DeviceSetup) (past news : List Entry) (s : Step) →
    IsSoundSetup setup → IsOf setup d → Ids setup past → Seen capacity setup d past s news → AreApart d news →
    RoutesWell d past → RoutesWell d (news ++ past)
well_apart capacity setup d past news s sound own ids (seen_here at) apart both =
    well_there capacity setup d past news s sound own ids at both
well_apart capacity setup d past news s sound own ids (seen_aside aside) apart both = (
  goes_same d (routed_in d past) (routed_in d (news ++ past)) (job (lines_of d past)) (job (lines_of d (news ++ past)))
      (apart_counts d past news apart) (passed_job d past news aside.passes) both.0,
  apart_routed d past news apart both.1,
)
well_apart capacity setup d past news s sound own ids (seen_lost lost no_next) apart both =
    (lost_ready d past news lost both.0, apart_routed d past news apart both.1)

pub routes_step : (capacity : ℕ) (setup : Setup) (d : DeviceSetup) → IsSoundSetup setup → IsOf setup d →
    (past news : List Entry) (s : Step) → ⊤ → Ids setup past → Brought capacity setup past s news →
    RoutesWell d past → RoutesWell d (news ++ past)
routes_step capacity setup d sound own past news s any ids told both =
    elim (here_or_apart capacity setup d past news s sound own told) [
      | inl at ↦ well_there capacity setup d past news s sound own ids at both
      | inr apart ↦ well_apart capacity setup d past news s sound own ids
          (seen_from capacity setup d past news s sound own ids told) apart both
    ]

legal_routes : (capacity : ℕ) (setup : Setup) (steps : List Step) (transcript : List Entry) (d : DeviceSetup) →
    IsSoundSetup setup → IsOf setup d → Legal capacity setup steps transcript → RoutesWell d (onto [] transcript)
legal_routes capacity setup steps transcript d sound own legal =
    along capacity setup (λ s. ⊤) (RoutesWell d) sound (routes_step capacity setup d sound own)
    (λ past addr both. (both.0, (tt, both.1))) steps (onto [] transcript) (any_steps steps) legal ((omega arith, tt), tt)

-- each request that routes a bill is sent in the job of a `route` that sent none
pub legal_routed : (capacity : ℕ) (setup : Setup) (steps : List Step) (transcript : List Entry) (d : DeviceSetup) →
    IsSoundSetup setup → IsOf setup d → Legal capacity setup steps transcript →
    EachEntry (RoutedAt d) (onto [] transcript)
legal_routed capacity setup steps transcript d sound own legal =
    (legal_routes capacity setup steps transcript d sound own legal).1

-- and at most one is sent for each
pub legal_few_routed : (capacity : ℕ) (setup : Setup) (steps : List Step) (transcript : List Entry) (d : DeviceSetup) →
    IsSoundSetup setup → IsOf setup d → Legal capacity setup steps transcript → routed_in d (onto [] transcript) ≤ 1
legal_few_routed capacity setup steps transcript d sound own legal =
    (legal_routes capacity setup steps transcript d sound own legal).0.0

-- so it is after what a past shows
routed_shown : (d : DeviceSetup) (past : List Entry) → routed_in d past ≡ routed_in d (shown past)
routed_shown d [] = refl
routed_shown d (entry.Fault f ∷ past) = routed_shown d past
routed_shown d (entry.Forged addr ∷ past) = routed_shown d past
routed_shown d (entry.Taken c ∷ past) = ap (anew_taken d.addr c) (routed_shown d past)
routed_shown d (entry.Wire addr sent piece ∷ past) = ap (one_routed (asks_of d sent)) (routed_shown d past)
routed_shown d (e ∷ past) = routed_shown d past

routes_shown : (d : DeviceSetup) (past : List Entry) (e : Entry) → RoutedAt d past e → RoutedAt d (shown past) e
routes_shown d past (entry.Wire addr sent piece) at =
    subst (λ j. RoutedBy d addr (routed_in d (shown past)) j (asks_of d sent)) ((alike_shown past).devices d)
    (subst (λ n. RoutedBy d addr n (job (lines_of d past)) (asks_of d sent)) (routed_shown d past) at)
routes_shown d past e at = tt

pub live_routed : EachLive (λ capacity setup transcript. (d : DeviceSetup) → IsOf setup d →
    EachEntry (RoutedAt d) (onto [] transcript))
live_routed =
    by_law (λ capacity setup past. (d : DeviceSetup) → IsOf setup d → EachEntry (RoutedAt d) past)
    (λ capacity setup steps transcript sound range legal d own. legal_routed capacity setup steps transcript d sound own legal)
    (λ capacity setup past each d own. each_shown (RoutedAt d) (routes_shown d) past (each d own))

pub live_few_routed : EachLive (λ capacity setup transcript. (d : DeviceSetup) → IsOf setup d →
    routed_in d (onto [] transcript) ≤ 1)
live_few_routed =
    by_law (λ capacity setup past. (d : DeviceSetup) → IsOf setup d → routed_in d past ≤ 1)
    (λ capacity setup steps transcript sound range legal d own.
    legal_few_routed capacity setup steps transcript d sound own legal)
    (λ capacity setup past few d own. subst (λ many. many ≤ 1) (routed_shown d past) (few d own))

-- and in one life: nothing is routed by records that are found
none_routed : (d : DeviceSetup) (found : List Record) → routed_in d (map (λ r. entry.Put r) found) ≡ 0
none_routed d [] = refl
none_routed d (r ∷ found) = none_routed d found

none_at : (d : DeviceSetup) (found : List Record) → EachEntry (RoutedAt d) (map (λ r. entry.Put r) found)
none_at d [] = tt
none_at d (r ∷ found) = (tt, none_at d found)

routes_start : (d : DeviceSetup) (found : List Record) → RoutesWell d (started found)
routes_start d found = let none = none_routed d found in ((omega (arith, none), tt), (tt, none_at d found))

pub life_routed : EachLife (λ capacity setup found past. (d : DeviceSetup) → IsOf setup d → EachEntry (RoutedAt d) past)
life_routed capacity setup found steps past sound life d own =
    life_along (RoutesWell d) (EachEntry (RoutedAt d)) capacity setup found steps past sound life
    (λ before news s ids told both. routes_step capacity setup d sound own before news s tt ids told both)
    (λ before addr both. (both.0, (tt, both.1)))
    (λ before both. each_shown (RoutedAt d) (routes_shown d) before both.1) (routes_start d found)

pub life_few_routed : EachLife (λ capacity setup found past. (d : DeviceSetup) → IsOf setup d → routed_in d past ≤ 1)
life_few_routed capacity setup found steps past sound life d own =
    life_along (RoutesWell d) (λ es. routed_in d es ≤ 1) capacity setup found steps past sound life
    (λ before news s ids told both. routes_step capacity setup d sound own before news s tt ids told both)
    (λ before addr both. (both.0, (tt, both.1)))
    (λ before both. subst (λ many. many ≤ 1) (routed_shown d before) both.0.0) (routes_start d found)
