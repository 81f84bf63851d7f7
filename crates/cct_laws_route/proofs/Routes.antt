-- The end of a `route` says what was held: it is the end of its one row, whose request is answered exactly if a bill is held.
use Rattle.std.proofs.Common.{◌≡◌, ◌⊎◌, inl, inr, ℕ, zero, suc, ◌≤◌, ◌==◌, cond, true, false, Bool, List, [], ◌∷◌, ◌++◌, refl, ap, sym, ◌∙◌, subst, Option, Some, None, All, arith, rules}
use Rattle.std.specs.Prelude.{⊤, ◌&&◌, is_some}
use Rattle.std.proofs.lemmas.Bool.{and_parts}
use Rattle.cct_model.specs.terms.device.DeviceBody.{DeviceBody}
use Rattle.cct_model.specs.terms.device.DeviceBody.TheVariants.{Acceptor, Bill, Hopper}
use Rattle.cct_model.specs.terms.device.DeviceSetup.{DeviceSetup}
use Rattle.cct_model.specs.terms.device.Setup.{Setup}
use Rattle.cct_model.specs.terms.device.Texts.{Texts}
use Rattle.cct_model.specs.terms.request.Request.{Request}
use Rattle.cct_model.specs.terms.request.Request.TheVariants.{RouteBill}
use Rattle.cct_model.specs.terms.wire.CheckKind.{CheckKind}
use Rattle.cct_model.specs.declared.judging.EpochState.{EpochState}
use Rattle.cct_model.specs.declared.judging.Judged.{Judged}
use Rattle.cct_model.specs.declared.judging.OpenOrder.{OpenOrder}
use Rattle.cct_model.specs.lines.command.Command.{Command}
use Rattle.cct_model.specs.lines.command.Command.TheVariants as command
use Rattle.cct_model.specs.lines.command.Step.{Step}
use Rattle.cct_model.specs.lines.command.Step.TheVariants as step
use Rattle.cct_model.specs.lines.command.WireFault.TheVariants as fault
use Rattle.cct_model.specs.lines.entry.End.{End}
use Rattle.cct_model.specs.lines.entry.End.TheVariants.{Routed, RouteUnsure}
use Rattle.cct_model.specs.lines.entry.Entry.{Entry}
use Rattle.cct_model.specs.lines.entry.Entry.TheVariants as entry
use Rattle.cct_model.specs.lines.record.Record.{Record}
use Rattle.cct_model.specs.Bill.{bill_held, bill_reply, held_after, is_way, stacked_by}
use Rattle.cct_model.specs.Device.{IsBill, common_reply, reply_of}
use Rattle.cct_model.specs.Exchange.{ask, asked, asks_of}
use Rattle.cct_model.specs.History.{Met}
use Rattle.cct_model.specs.Honest.{IsHonestFault, forged_after, is_honest, without_forged}
use Rattle.cct_model.specs.Job.{address_of, works, job, epoch, judged_in, noted_in, Noted, sends, ident_requests}
use Rattle.cct_model.specs.Legal.{BareNext, Entries, Legal, NextEntries, OfNext, RowEntries, with_end}
use Rattle.cct_model.specs.Line.{Line, accepted, exchange}
use Rattle.cct_model.specs.Order.{order}
use Rattle.cct_model.specs.Reply.{Reply}
use Rattle.cct_model.specs.Reply as reply
use Rattle.cct_model.specs.Request.{form_of}
use Rattle.cct_model.specs.Rows.{done, end_of, row, row_at, rows_of}
use Rattle.cct_model.specs.Script.{IsCommand, IsInRange}
use Rattle.cct_model.specs.Setup.{IsSoundSetup}
use Rattle.cct_model.specs.Transcript.{doses, got_by, heard_after, heard_by_devices, lines_of, met, onto, pending, stacked_line}
use Rattle.cct_model.proofs.Rows.{AnswerEnds, BareEnds, EachRow, IfEnd, PutEnds, each_told, exchange_end, put_end}
use Rattle.cct_msg.specs.Forms.{form_shown}
use Rattle.cct_laws.specs.DeviceJobs.{Fate, IsRefused, WorksAt, answered, silenced, suits, unheard}
use Rattle.cct_laws.specs.Ids.{Ids}
use Rattle.cct_laws.specs.Law.{EachEntry, IsAnswered, IsOf, IsUnanswered}
use Rattle.cct_laws.specs.Scope.{IsCommandFor}
use Rattle.cct_laws.proofs.jobs.AskedAndAnswered.{asked_at, fate_at, undisturbed_answered}
use Rattle.cct_laws.proofs.jobs.StepBrings.{AtDevice, Brought, came, halted, idled, made_exchange, made_put, record_end, row_after, took, wire_end, wire_of, IsOfNoJob, came_of_no_job}
use Rattle.cct_laws.proofs.jobs.SeenAtOne.{Lost, Passes, along, bare, each_aside, kept_elsewhere, kept_here, seen_aside, seen_from, seen_here, seen_lost}
use Rattle.cct_laws.proofs.steps.EachKeeps.{IsRanged, ranged_step, works_at}
use Rattle.cct_laws_live.proofs.InTurn.{FitsForm, fits_by}
use Rattle.cct_laws_route.specs.Routes.{IsOfRoute, IsToldAfter, RouteEndsAt, RoutesBill, end_of_route, lines_by}

-- an end reports a `route`
abbrev IsRouteEnd : End → Type 0
IsRouteEnd Routed = ⊤
IsRouteEnd RouteUnsure = ⊤
IsRouteEnd end = ⊥

abbrev IsOtherEnd : End → Type 0
IsOtherEnd end = IsRouteEnd end → ⊥

-- no other job has such an end
abbrev IsNoRoute : Command → Type 0
IsNoRoute (command.Route addr way) = ⊥
IsNoRoute c = ⊤

answered_otherwise : (d : DeviceSetup) (c : Command) → IsNoRoute c → EachRow (AnswerEnds IsOtherEnd) (rows_of d c)
answered_otherwise d (command.Ident addr) other =
    each_told (AnswerEnds IsOtherEnd) (λ q. tt) (λ q is. is) (ident_requests d.body)
answered_otherwise d (command.Route addr way) other = absurd other
answered_otherwise d c other = search rules

bare_otherwise : (d : DeviceSetup) (c : Command) → IsNoRoute c → EachRow (BareEnds IsOtherEnd) (rows_of d c)
bare_otherwise d (command.Ident addr) other =
    each_told (BareEnds IsOtherEnd) (λ q. tt) (λ q. tt) (ident_requests d.body)
bare_otherwise d (command.Route addr way) other = absurd other
bare_otherwise d c other = search rules

put_otherwise : (d : DeviceSetup) (c : Command) → EachRow (PutEnds IsOtherEnd) (rows_of d c)
put_otherwise d (command.Ident addr) = each_told (PutEnds IsOtherEnd) (λ q. tt) (λ q. tt) (ident_requests d.body)
put_otherwise d c = search rules

-- the one row of a `route`, and its end by what was got
abbrev told_by : Option Reply → End
told_by None = RouteUnsure
told_by (Some y) = Routed

route_row : (d : DeviceSetup) (addr way n : ℕ) (means : Judged) (p : Noted) (q : Request) →
    row_at d (command.Route addr way) n means p ≡ sends q → (n ≡ 0) × (q ≡ RouteBill way)
route_row d addr way zero means p q is = (refl, cc)
route_row d addr way (suc n) means p q is = absurd cc

route_end : (d : DeviceSetup) (addr way : ℕ) (since : List Line) (state : EpochState) (q : Request) (got : Option Reply) →
    done (rows_of d (command.Route addr way)) since ≡ 0 →
    end_of d (command.Route addr way) (exchange (Some q) got) since state ≡ Some (told_by got)
route_end d addr way since state q None none = rw none refl
route_end d addr way since state q (Some y) none = rw none refl

-- so an exchange that such an end follows is the one of a `route`
record AsRoute (c : Command) (q : Request) (got : Option Reply) (end : End) : Type 0 where
  addr : ℕ
  way : ℕ
  is_route : c ≡ command.Route addr way
  asks : q ≡ RouteBill way
  told : end ≡ told_by got

same_end : (end other : End) → Some end ≡ Some other → end ≡ other
same_end end other is = cc

as_route : (d : DeviceSetup) (c : Command) (since : List Line) (state : EpochState) (owed : Option OpenOrder) (q : Request)
    (got : Option Reply) (end : End) → row d c since state owed ≡ sends q →
    end_of d c (exchange (Some q) got) since state ≡ Some end → IsRouteEnd end → AsRoute c q got end
as_route d (command.Route addr way) since state owed q got end is ends route =
    let at =
    route_row d addr way (done (rows_of d (command.Route addr way)) since) (judged_in (command.Route addr way) since state)
    (noted_in since owed) q is in
    record {
      addr = addr;
      way = way;
      is_route = refl;
      asks = at.1;
      told = same_end end (told_by got) (sym ends ∙ route_end d addr way since state q got at.0);
    }
as_route d c since state owed q got end is ends route =
    let other : IfEnd IsOtherEnd (Some end) =
    subst (IfEnd IsOtherEnd) ends
    (exchange_end IsOtherEnd d c (Some q) got since state (answered_otherwise d c tt) (bare_otherwise d c tt) (λ is. is)) in
    absurd (other route)

-- only a bill acceptor is given one
for_bills : (body : DeviceBody) (addr way : ℕ) → suits body (command.Route addr way) ≡ true → IsBill body
for_bills (Acceptor accepts values ids) addr way suited = absurd cc
for_bills (Hopper life value) addr way suited = absurd cc
for_bills (Bill accepts values ids) addr way suited = tt

-- and it replies by what it holds
replies_so : (addr : ℕ) (kind : CheckKind) (serial : ℕ) (texts : Texts) (named : Bool) (body : DeviceBody) (past : List Met)
    (way : ℕ) → IsBill body →
    reply_of (record { addr = addr; kind = kind; serial = serial; texts = texts; named = named; body = body }) past
    (RouteBill way) ≡ Some (cond (is_some (bill_held past) && is_way way) reply.ack reply.nak)
unfolding reply_of common_reply bill_reply
replies_so addr kind serial texts named (Acceptor accepts values ids) past way banking = absurd banking
replies_so addr kind serial texts named (Hopper life value) past way banking = absurd banking
replies_so addr kind serial texts named (Bill accepts values ids) past way banking = refl

same_reply : (y other : Reply) → Some y ≡ Some other → y ≡ other
same_reply y other is = cc

acked : (d : DeviceSetup) (past : List Met) (way : ℕ) (y : Reply) → IsBill d.body →
    reply_of d past (RouteBill way) ≡ Some y → form_shown y ≡ form_of (RouteBill way) →
    (is_some (bill_held past) && is_way way) ≡ true
unfolding form_of
acked d past way y banking replied fits = by_test (is_some (bill_held past) && is_way way) refl
  where
    y_is : y ≡ cond (is_some (bill_held past) && is_way way) reply.ack reply.nak
    y_is =
        same_reply y _
        (sym replied ∙ replies_so d.addr d.kind d.serial d.texts d.named d.body past way banking)

    by_test : (routes : Bool) → (is_some (bill_held past) && is_way way) ≡ routes → routes ≡ true
    by_test true test = refl
    by_test false test =
        let nak_is : y ≡ reply.nak = y_is ∙ ap (λ b. cond b reply.ack reply.nak) test in
        let clash = ap form_shown (sym nak_is) ∙ fits in
        absurd (cc clash)

held_there : (held : Option ℕ) → is_some held ≡ true → (place : ℕ) × (held ≡ Some place)
held_there None some = absurd cc
held_there (Some place) some = (place, refl)

-- each way that can be given is known
known : (way : ℕ) → way ≤ 1 → is_way way ≡ true
known zero few = refl
known (suc zero) few = refl
known (suc (suc n)) few = absurd (omega (arith, few))

unheld : (held : Option ℕ) (known_way : Bool) → known_way ≡ true → (is_some held && known_way) ≡ false → held ≡ None
unheld None known_way is none = refl
unheld (Some place) true is none = absurd cc
unheld (Some place) false is none = absurd cc

-- what becomes of the bill
does_so : (body : DeviceBody) (serial : ℕ) (past : List Met) (way place : ℕ) → IsBill body → bill_held past ≡ Some place →
    doses body serial past (Some (RouteBill way)) ≡ lines_by way place
does_so (Acceptor accepts values ids) serial past way place banking held = absurd banking
does_so (Hopper life value) serial past way place banking held = absurd banking
does_so (Bill accepts values ids) serial past way place banking held =
    ap (λ h. stacked_line (stacked_by (Some (RouteBill way)) h)) held ∙ by_way (way == 1)
  where
    by_way : (stacks : Bool) → stacked_line (cond stacks (Some place) None) ≡
        cond stacks (accepted (record { place = place; path = 0 }) ∷ []) []
    by_way true = refl
    by_way false = refl

empties_so : (way : ℕ) (held : Option ℕ) → is_way way ≡ true → held_after (Some (RouteBill way)) held ≡ None
empties_so way held is = ap (λ b. cond b None held) is

routes_so : (d : DeviceSetup) (past : List Entry) (sent piece : List ℕ) (way : ℕ) → IsBill d.body → way ≤ 1 →
    asks_of d (heard_by_devices (pending past) sent) ≡ Some (RouteBill way) →
    (is_some (bill_held (met d past)) && is_way way) ≡ true → RoutesBill d past d.addr sent piece way
routes_so d past sent piece way banking few heard_it test =
    let both = and_parts (is_some (bill_held (met d past))) (is_way way) test in
    let there = held_there (bill_held (met d past)) both.0 in
    record {
      place = there.0;
      held = there.1;
      does = ap (doses d.body d.serial (met d past)) heard_it ∙ does_so d.body d.serial (met d past) way there.0 banking there.1;
      empties =
          ap (λ a. held_after a (bill_held (met d past))) heard_it
          ∙ empties_so way (bill_held (met d past)) (known way few);
    }

-- what was got of it
got_some : (got : Option Reply) → Routed ≡ told_by got → (y : Reply) × (got ≡ Some y)
got_some None told = absurd cc
got_some (Some y) told = (y, refl)

got_none : (got : Option Reply) → RouteUnsure ≡ told_by got → got ≡ None
got_none None told = refl
got_none (Some y) told = absurd cc

none_some : (y : Reply) → None ≡ Some y → ⊥
none_some y is = cc is

fate_heard : (d : DeviceSetup) (past : List Met) (q : Request) (heard_it : Option Request) (got : Option Reply) (y : Reply) →
    Fate d past q heard_it got → got ≡ Some y → (heard_it ≡ Some q) × (reply_of d past q ≡ Some y)
fate_heard d past q _ _ y unheard is = absurd (none_some y is)
fate_heard d past q _ _ y silenced is = absurd (none_some y is)
fate_heard d past q _ _ y (answered other replied) is = (refl, replied ∙ is)

fits_got : (q : Request) (got : Option Reply) (y : Reply) → FitsForm (Some q) got → got ≡ Some y → form_shown y ≡ form_of q
fits_got q got y fits is =
    let fit : FitsForm (Some q) (Some y) = subst (FitsForm (Some q)) is fits in fit

-- the exchange of a job after which such an end stands
module _ (setup : Setup) (d : DeviceSetup) (past : List Entry) (c : Command) (since : List Line) (q : Request)
    (sound : IsSoundSetup setup) (own : IsOf setup d) (at : WorksAt d (lines_of d past) c since)
    (is_row : row_after d past c since ≡ sends q) where
  abbrev sent : List ℕ
  sent = ask d.kind d.addr q

  abbrev piece : List ℕ
  piece = heard_after setup past sent

  abbrev got : Option Reply
  got = got_by d sent piece

  asks_it : asked d.kind sent ≡ Some q
  asks_it = asked_at setup past d c since q sound own at is_row

  is_of_route : (end : End) → wire_end setup d past c since q ≡ Some end → IsRouteEnd end →
      AsRoute c q got end
  is_of_route end ends route =
      as_route d c since (epoch (lines_of d past)) (order (lines_of d past)) q
      got end is_row
      (subst (λ a. end_of d c (exchange a got) since (epoch (lines_of d past)) ≡ Some end)
      asks_it ends) route

  module _ (addr way : ℕ) (is_route : c ≡ command.Route addr way) (asks : q ≡ RouteBill way) where
    is_known : way ≤ 1
    is_known = subst IsCommand is_route at.in_range

    takes_bills : IsBill d.body
    takes_bills = for_bills d.body addr way (subst (λ x. suits d.body x ≡ true) is_route at.suited)

    of_route : IsOfRoute d past d.addr sent
    of_route = record {
      way = way;
      since = since;
      is_here = refl;
      job_is =
          at.job_is
          ∙ ap (λ x. works x since)
          (is_route ∙ ap (λ a. command.Route a way) (ap address_of (sym is_route) ∙ at.is_here));
      asks = asks_it ∙ ap Some asks;
      is_known = is_known;
    }

    -- it was answered
    fits : (y : Reply) → got ≡ Some y →
        form_shown y ≡ form_of (RouteBill way)
    fits y is =
        fits_got q _ y
        (fits_by d sent piece q _ asks_it refl) is
        ∙ ap form_of asks

    routes : (y : Reply) → got ≡ Some y →
        IsHonestFault (pending past) sent →
        RoutesBill d past d.addr sent piece way
    routes y is honest =
        let heard_it =
        fate_heard d (met d past) q _ _ y (fate_at setup past d c since q sound own at is_row honest) is in
        let replied : reply_of d (met d past) (RouteBill way) ≡ Some y =
        subst (λ x. reply_of d (met d past) x ≡ Some y) asks heard_it.1 in
        routes_so d past sent piece way takes_bills is_known
        (heard_it.0 ∙ ap Some asks) (acked d (met d past) way y takes_bills replied (fits y is))

    -- or not
    answers_or_none : (pending past ≡ fault.Clear) →
        IsAnswered setup d past q ⊎ (IsRefused d (met d past) q × IsUnanswered setup d past q)
    answers_or_none clear =
        undisturbed_answered setup past d c (done (rows_of d c) since) (judged_in c since (epoch (lines_of d past)))
        (noted_in since (order (lines_of d past))) q sound own at.suited at.in_range clear is_row

    refused_none : IsRefused d (met d past) q → bill_held (met d past) ≡ None
    refused_none refuses =
        let by : IsRefused d (met d past) (RouteBill way) = subst (IsRefused d (met d past)) asks refuses in
        unheld (bill_held (met d past)) (is_way way) (known way is_known) by.1

    unsure : got ≡ None →
        pending past ≡ fault.Clear → bill_held (met d past) ≡ None
    unsure none clear =
        elim (answers_or_none clear) [
          | inl answer ↦ absurd (none_some answer.0 (sym none ∙ answer.2))
          | inr refuses ↦ refused_none refuses.0
        ]

    ends_so : pending past ≡ fault.Clear →
        told_by got
        ≡ end_of_route (bill_held (met d past))
    ends_so clear =
        elim (answers_or_none clear) [
          | inl answer ↦
              let replied : reply_of d (met d past) (RouteBill way) ≡ Some answer.0 =
              subst (λ x. reply_of d (met d past) x ≡ Some answer.0) asks answer.1 in
              let test = acked d (met d past) way answer.0 takes_bills replied (fits answer.0 answer.2) in
              let there =
              held_there (bill_held (met d past)) (and_parts (is_some (bill_held (met d past))) (is_way way) test).0 in
              ap told_by answer.2 ∙ sym (ap end_of_route there.1)
          | inr refuses ↦ ap told_by refuses.1 ∙ sym (ap end_of_route (refused_none refuses.0))
        ]

  pub told_after : (end : End) → wire_end setup d past c since q ≡ Some end →
      IsToldAfter d (wire_of setup d past q ∷ past) end
  unfolding of_route
  told_after Routed ends =
      let r = is_of_route Routed ends tt in
      let some = got_some _ r.told in
      (of_route r.addr r.way r.is_route r.asks, λ honest. routes r.addr r.way r.is_route r.asks some.0 some.1 honest)
  told_after RouteUnsure ends =
      let r = is_of_route RouteUnsure ends tt in
      let none = got_none _ r.told in
      (of_route r.addr r.way r.is_route r.asks, λ clear. unsure r.addr r.way r.is_route r.asks none clear)
  told_after end ends = tt

-- no put has such an end
other_told : (d : DeviceSetup) (past : List Entry) (end : End) → IsOtherEnd end → IsToldAfter d past end
other_told d past Routed other = absurd (other tt)
other_told d past RouteUnsure other = absurd (other tt)
other_told d past end other = tt

put_told : (d : DeviceSetup) (past : List Entry) (c : Command) (since : List Line) (r : Record) (end : End) →
    record_end d past c since r ≡ Some end → IsToldAfter d (entry.Put r ∷ past) end
put_told d past c since r end is =
    let other : IfEnd IsOtherEnd (Some end) =
    subst (IfEnd IsOtherEnd) is (put_end IsOtherEnd d c r since (epoch (lines_of d past)) (put_otherwise d c)) in
    other_told d (entry.Put r ∷ past) end other

-- an entry of a job, and its end
ends_with : (d : DeviceSetup) (past : List Entry) (e : Entry) (end : Option End) → RouteEndsAt d past e →
    ((found : End) → end ≡ Some found → IsToldAfter d (e ∷ past) found) → EachEntry (RouteEndsAt d) past →
    EachEntry (RouteEndsAt d) (with_end d.addr e end ++ past)
ends_with d past e None at told before = (at, before)
ends_with d past e (Some end) at told before = (λ here. told end refl, (at, before))

-- what is of no job, or is none of the device, has none
ends_of_no_job : (d : DeviceSetup) (past : List Entry) (e : Entry) → IsOfNoJob e → RouteEndsAt d past e
ends_of_no_job d past (entry.Ended addr end) is = absurd is
ends_of_no_job d past e is = tt

away_ends : (d : DeviceSetup) (past : List Entry) (e : Entry) → Passes d past e → RouteEndsAt d past e
away_ends d past (entry.Ended addr end) passes = λ here. absurd (passes.no_end.0 here)
away_ends d past e passes = tt

-- so each step keeps that
ends_there : (capacity : ℕ) (setup : Setup) (d : DeviceSetup) (past news : List Entry) (s : Step) → IsSoundSetup setup →
    IsOf setup d → IsRanged d (job (lines_of d past)) → AtDevice capacity setup d past s news →
    EachEntry (RouteEndsAt d) past → EachEntry (RouteEndsAt d) (news ++ past)
ends_there capacity setup d past _ _ sound own ranged (came s e m ls comes) before =
    (ends_of_no_job d past e (came_of_no_job d (met d past) s e m ls comes), before)
ends_there capacity setup d past _ _ sound own ranged (took s c gives suited here is_free is_taken is_owed lets) before =
    (tt, before)
ends_there capacity setup d past _ _ sound own ranged (halted paying can) before = (tt, before)
ends_there capacity setup d past _ _ sound own ranged (idled is_free) before = (tt, before)
ends_there capacity setup d past _ _ sound own ranged (made_exchange c since q at_work is_row) before =
    ends_with d past (wire_of setup d past q) (wire_end setup d past c since q) tt
    (λ end is. told_after setup d past c since q sound own (works_at d past c since at_work ranged) is_row end is) before
ends_there capacity setup d past _ _ sound own ranged (made_put c since r at_work is_row) before =
    ends_with d past (entry.Put r) (record_end d past c since r) tt (λ end is. put_told d past c since r end is) before

ends_lost : (d : DeviceSetup) (past news : List Entry) → Lost d past news → EachEntry (RouteEndsAt d) past →
    EachEntry (RouteEndsAt d) (news ++ past)
ends_lost d past _ bare before = (tt, before)
ends_lost d past _ (kept_here c since r at_work is_row owned) before = (tt, (tt, before))
ends_lost d past _ (kept_elsewhere r away caused) before = (tt, (tt, before))

record EndsWell (d : DeviceSetup) (past : List Entry) : Type 0 where
  ranged : IsRanged d (job (lines_of d past))
  each : EachEntry (RouteEndsAt d) past

ends_step : (capacity : ℕ) (setup : Setup) (d : DeviceSetup) → IsSoundSetup setup → IsOf setup d →
    (past news : List Entry) (s : Step) → IsInRange s → Ids setup past → Brought capacity setup past s news →
    EndsWell d past → EndsWell d (news ++ past)
ends_step capacity setup d sound own past news s range ids told before = record {
  ranged = ranged_step capacity setup d past news s sound own range ids told before.ranged;
  each =
      elim (seen_from capacity setup d past news s sound own ids told) [
        | seen_here at ↦ ends_there capacity setup d past news s sound own before.ranged at before.each
        | seen_aside aside ↦ each_aside (RouteEndsAt d) d past news (away_ends d) aside.passes before.each
        | seen_lost lost no_next ↦ ends_lost d past news lost before.each
      ];
}

pub legal_ends : (capacity : ℕ) (setup : Setup) (steps : List Step) (transcript : List Entry) (d : DeviceSetup) →
    IsSoundSetup setup → IsOf setup d → All IsInRange steps → Legal capacity setup steps transcript →
    EachEntry (RouteEndsAt d) (onto [] transcript)
legal_ends capacity setup steps transcript d sound own range legal =
    (along capacity setup IsInRange (EndsWell d) sound (ends_step capacity setup d sound own)
    (λ past addr before. record { ranged = before.ranged; each = (tt, before.each) }) steps (onto [] transcript) range legal
    (record { ranged = tt; each = tt })).each

-- the entries of a `next` of a `route` that was just taken
clear_told : (past : List Entry) (addr : ℕ) (sent piece : List ℕ) (end : End) (told : List Entry) →
    pending past ≡ fault.Clear → told ≡ entry.Ended addr end ∷ entry.Wire addr sent piece ∷ [] →
    forged_after past told ++ told ≡ entry.Ended addr end ∷ entry.Wire addr sent piece ∷ []
clear_told past addr sent piece end told clear is =
    ap (λ es. forged_after past es ++ es) is
    ∙ ap (λ f. cond (is_honest f sent) [] (entry.Forged addr ∷ []) ++ (entry.Ended addr end ∷ entry.Wire addr sent piece ∷ [])) clear

row_told : (setup : Setup) (d : DeviceSetup) (past : List Entry) (way : ℕ) (told : List Entry) → IsSoundSetup setup →
    IsOf setup d → WorksAt d (lines_of d past) (command.Route d.addr way) [] → pending past ≡ fault.Clear →
    RowEntries (heard_after setup past) d past (command.Route d.addr way) [] (sends (RouteBill way)) told →
    told ≡ entry.Ended d.addr (end_of_route (bill_held (met d past)))
    ∷ entry.Wire d.addr (ask d.kind d.addr (RouteBill way)) (heard_after setup past (ask d.kind d.addr (RouteBill way))) ∷ []
row_told setup d past way told sound own at clear is =
    let q = RouteBill way in
    let c = command.Route d.addr way in
    let sent = ask d.kind d.addr q in
    let piece = heard_after setup past sent in
    let got = got_by d sent piece in
    let asks : asked d.kind sent ≡ Some q = asked_at setup past d c [] q sound own at refl in
    let ends : end_of d c (exchange (asked d.kind sent) got) [] (epoch (lines_of d past)) ≡
    Some (end_of_route (bill_held (met d past))) =
    ap (λ a. end_of d c (exchange a got) [] (epoch (lines_of d past))) asks
    ∙ route_end d d.addr way [] (epoch (lines_of d past)) q got refl
    ∙ ap Some (ends_so setup d past c [] q sound own at refl d.addr way refl refl clear) in
    is ∙ ap (with_end d.addr (entry.Wire d.addr sent piece)) ends

pub clear_ends : (capacity : ℕ) (setup : Setup) (past news : List Entry) (d : DeviceSetup) (way : ℕ) →
    IsCommandFor setup d (command.Route d.addr way) → job (lines_of d past) ≡ works (command.Route d.addr way) [] →
    pending past ≡ fault.Clear → Entries capacity setup past (step.Next d.addr) news →
    news ≡ entry.Ended d.addr (end_of_route (bill_held (met d past)))
    ∷ entry.Wire d.addr (ask d.kind d.addr (RouteBill way)) (heard_after setup past (ask d.kind d.addr (RouteBill way))) ∷ []
clear_ends capacity setup past news d way given job_is clear entries =
    let told = without_forged news in
    let at : WorksAt d (lines_of d past) (command.Route d.addr way) [] =
    record { job_is = job_is; is_here = refl; in_range = given.in_range; suited = given.suited } in
    let found : OfNext (Some d) (λ e. NextEntries (heard_after setup past) e past (job (lines_of e past)) told) (BareNext (heard_after setup past) past d.addr told) =
    subst (λ f. OfNext f (λ e. NextEntries (heard_after setup past) e past (job (lines_of e past)) told) (BareNext (heard_after setup past) past d.addr told)) given.own entries.0 in
    let row_is : NextEntries (heard_after setup past) d past (works (command.Route d.addr way) []) told =
    subst (λ j. NextEntries (heard_after setup past) d past j told) job_is found in
    entries.1
    ∙ clear_told past d.addr _ _ _ told clear (row_told setup d past way told given.sound given.own at clear row_is)
