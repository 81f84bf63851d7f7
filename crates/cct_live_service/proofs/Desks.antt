-- What is reported goes by the desk, one part of a service after another.
use Rattle.std.proofs.Common.{◌≡◌, ◌==◌, ◌||◌, ℕ, Bool, true, false, if◌then◌else◌, List, [], ◌∷◌, ◌++◌, reverse, Option, Some, None, Result, Ok, Err, inl, inr, refl, sym, ap, ◌∙◌, subst}
use Rattle.std.specs.Prelude.{MatchBool, is_some}
use Rattle.std.specs.List.{list_any}
use Rattle.std.specs.Option.{option_map}
use Rattle.std.proofs.lemmas.Bool.{both_ways}
use Rattle.std.proofs.lemmas.List.{reverse-reverse}
use Rattle.cct_model.specs.terms.device.Setup.{Setup}
use Rattle.cct_model.specs.lines.command.Command.{Command}
use Rattle.cct_model.specs.lines.command.CommandNo.{CommandNo}
use Rattle.cct_model.specs.lines.command.Step.TheVariants as step
use Rattle.cct_model.specs.lines.record.Record.{Record}
use Rattle.cct_model.specs.lines.record.Record.TheVariants as record_of
use Rattle.cct_model.specs.lines.entry.End.{End}
use Rattle.cct_model.specs.lines.entry.Entry.{Entry}
use Rattle.cct_model.specs.lines.entry.Entry.TheVariants as entry_of
use Rattle.cct_model.specs.declared.change.Due.{Due}
use Rattle.cct_model.specs.declared.change.Payment.{Payment}
use Rattle.cct_model.specs.declared.change.Phase.{Phase}
use Rattle.cct_model.specs.declared.change.Phase.TheVariants.{Begun, Opened, Closed, Odd, Lost}
use Rattle.cct_model.specs.declared.change.Session.{Session}
use Rattle.cct_model.specs.declared.change.Tray.{Tray}
use Rattle.cct_model.specs.lines.entry.Totals.{Totals}
use Rattle.cct_model.specs.Change.{Desk, GoesOn, PaysOn, Serves, ServesDue, Settles, change_entry, closed_in, desk_after, due_after, gone_on, is_end_at, is_opening, pay_entries, phase_after, served_by, served_due, session_after, settled, settled_trays, short_entry}
use Rattle.cct_model.specs.Change as change
use Rattle.cct_model.specs.Records.{records}
use Rattle.cct_model.specs.Refusal.{refusal}
use Rattle.cct_host.specs.Attempt.{Attempt, asked, idle, put}
use Rattle.cct_host.specs.Attempt as attempt
use Rattle.cct_host.specs.Standing.{command_at}
use Rattle.cct_host_change.specs.declared.desk.Serving.{Serving}
use Rattle.cct_host_change.specs.declared.desk.Serving.TheVariants as serving_of
use Rattle.cct_host_change.specs.Serving.{Asks, Ends, ServesBy, change_told, entries_by}
use Rattle.cct_live_survey.specs.declared.finding.Finding.{Finding}
use Rattle.cct_live_survey.specs.declared.withholding.Withheld.{Withheld}
use Rattle.cct_live_service.specs.declared.notice.Notice.{Notice}
use Rattle.cct_live_service.specs.declared.served.Served.{Served}
use Rattle.cct_live_service.specs.declared.served.Served.TheVariants as served
use Rattle.cct_live_service.specs.AtDesk.{AtDesk, FollowsDesk, FollowsTo, GivesAt, IsApart, answered, ended, seen_at}
use Rattle.cct_live_service.specs.Known.{Rests, rests, waits_for, waits_in, works_at}
use Rattle.cct_live_service.specs.Told.{Told, as_told, attempt_told, entry, falls_short, found_told, notices_told, operates, pay_of, pays, refused_for, taken, withheld_for}

-- one part, and then another
pub desk_then : (old between new : Desk) (t1 t2 : List Told) → AtDesk old between t1 → AtDesk between new t2 →
    AtDesk old new (t1 ++ t2)
desk_then old between new [] t2 h k = subst (λ desk. AtDesk desk new t2) h k
desk_then old between new (entry e ∷ t1) t2 h k = desk_then (seen_at e old) between new t1 t2 h k
desk_then old between new (operates s e ∷ t1) t2 h k =
    (h.0, desk_then (desk_after s (e ∷ []) old) between new t1 t2 h.1 k)
desk_then old between new (pays p answer ∷ t1) t2 h k =
    (h.0, h.1, desk_then (answered p answer h.0 h.1.session) between new t1 t2 h.2 k)
desk_then old between new (falls_short p paid rest ∷ t1) t2 h k = (h.0, desk_then (ended old) between new t1 t2 h.1 k)
desk_then old between new (what ∷ t1) t2 h k = desk_then old between new t1 t2 h k

pub follows_then : (result : Result (Unit {0}) Served) (old between new : Desk) (t1 t2 : List Told) → AtDesk old between t1 →
    FollowsDesk result between new t2 → FollowsDesk result old new (t1 ++ t2)
follows_then (Ok done) old between new t1 t2 h k = desk_then old between new t1 t2 h k
follows_then (Err how) old between new t1 t2 h k = (k.0, desk_then old between k.0 t1 t2 h k.1)

-- whatever the answer is
pub follows : (result : Result (Unit {0}) Served) (old new : Desk) (told : List Told) → AtDesk old new told →
    FollowsDesk result old new told
follows (Ok done) old new told h = h
follows (Err how) old new told h = (new, h)

-- up to the end of a service
pub follows_to : (how : Served) (old new : Desk) (told : List Told) → AtDesk old new told → FollowsTo how old new told
follows_to served.Unwritten old new told h = (new, h)
follows_to served.Disk old new told h = (new, h)
follows_to served.Done old new told h = h
follows_to (served.Refused number kind) old new told h = h
follows_to served.Unread old new told h = h
follows_to (served.OtherSize len) old new told h = h
follows_to served.Alien old new told h = h
follows_to (served.BadRecord index) old new told h = h

pub follows_to_then : (how : Served) (old between new : Desk) (t1 t2 : List Told) → AtDesk old between t1 →
    FollowsTo how between new t2 → FollowsTo how old new (t1 ++ t2)
follows_to_then served.Unwritten old between new t1 t2 h k = (k.0, desk_then old between k.0 t1 t2 h k.1)
follows_to_then served.Disk old between new t1 t2 h k = (k.0, desk_then old between k.0 t1 t2 h k.1)
follows_to_then served.Done old between new t1 t2 h k = desk_then old between new t1 t2 h k
follows_to_then (served.Refused number kind) old between new t1 t2 h k = desk_then old between new t1 t2 h k
follows_to_then served.Unread old between new t1 t2 h k = desk_then old between new t1 t2 h k
follows_to_then (served.OtherSize len) old between new t1 t2 h k = desk_then old between new t1 t2 h k
follows_to_then served.Alien old between new t1 t2 h k = desk_then old between new t1 t2 h k
follows_to_then (served.BadRecord index) old between new t1 t2 h k = desk_then old between new t1 t2 h k

-- what has nothing to do with the desk
pub apart_follows : (result : Result (Unit {0}) Served) (desk : Desk) (told : List Told) → IsApart told →
    FollowsDesk result desk desk told
apart_follows result desk told h = follows result desk desk told (h desk)

pub apart_then : (t1 t2 : List Told) → IsApart t1 → IsApart t2 → IsApart (t1 ++ t2)
apart_then t1 t2 h k desk = desk_then desk desk desk t1 t2 (h desk) (k desk)

pub apart_notices : (notices : List Notice) → IsApart (notices_told notices)
apart_notices [] desk = refl
apart_notices (n ∷ notices) desk = apart_notices notices desk

pub apart_found : (findings : List Finding) → IsApart (found_told findings)
apart_found [] desk = refl
apart_found (f ∷ findings) desk = apart_found findings desk

-- an entry that no payment is seen by leaves a desk as it is
due_same : (e : Entry) → ((p : Payment) (phase : Phase) → phase_after p (e ∷ []) phase ≡ phase) → (due : Option Due) →
    option_map (due_after (e ∷ [])) due ≡ due
due_same e same None = refl
due_same e same (Some due) =
    ap (λ phase. Some (record { payment = due.payment; phase = phase })) (same due.payment due.phase)

seen_same : (e : Entry) → ((p : Payment) (phase : Phase) → phase_after p (e ∷ []) phase ≡ phase) → (desk : Desk) →
    seen_at e desk ≡ desk
seen_same e same desk = ap (λ session. record { session = session; trays = desk.trays }) (by_session desk.session)
  where
    by_session : (session : Option Session) → option_map (session_after (e ∷ [])) session ≡ session
    by_session None = refl
    by_session (Some s) =
        ap (λ due. Some (record { amount = s.amount; rest = s.rest; next = s.next; due = due })) (due_same e same s.due)

seen_apart : (e : Entry) → ((p : Payment) (phase : Phase) → phase_after p (e ∷ []) phase ≡ phase) →
    IsApart (entry e ∷ [])
seen_apart e same desk = sym (seen_same e same desk)

-- one that shows no record, and no end
plain_phase : (e : Entry) → records (e ∷ []) ≡ [] → ((addr : ℕ) → is_end_at addr e ≡ false) → (p : Payment) (phase : Phase) →
    phase_after p (e ∷ []) phase ≡ phase
plain_phase e none goes_on p Begun =
    ap (λ rs. if list_any (is_opening p) rs then Opened else if list_any (is_end_at p.addr) (e ∷ []) then Lost else Begun) none
    ∙ ap (λ b. if b || false then Lost else Begun) (goes_on p.addr)
plain_phase e none goes_on p Opened = ap (closed_in p.id) none
plain_phase e none goes_on p (Closed paid unpaid) = refl
plain_phase e none goes_on p Odd = refl
plain_phase e none goes_on p Lost = refl

pub apart_taken : (c : Command) → IsApart (entry (entry_of.Taken c) ∷ [])
apart_taken c = seen_apart (entry_of.Taken c) (plain_phase (entry_of.Taken c) refl (λ addr. refl))

pub apart_no : (c : Command) (why : CommandNo) → IsApart (entry (entry_of.No c why) ∷ [])
apart_no c why = seen_apart (entry_of.No c why) (plain_phase (entry_of.No c why) refl (λ addr. refl))

pub apart_balance : (told : Totals) → IsApart (entry (entry_of.Balance told) ∷ [])
apart_balance told = seen_apart (entry_of.Balance told) (plain_phase (entry_of.Balance told) refl (λ addr. refl))

-- an exchange, and then the job ends
asked_phase : (addr : ℕ) (end : End) (at : ℕ) (sent heard : List ℕ) (p : Payment) (phase : Phase) →
    phase_after p (entry_of.Ended addr end ∷ entry_of.Wire at sent heard ∷ []) phase
    ≡ phase_after p (entry_of.Ended addr end ∷ []) (phase_after p (entry_of.Wire at sent heard ∷ []) phase)
asked_phase addr end at sent heard p Begun = refl
asked_phase addr end at sent heard p Opened = refl
asked_phase addr end at sent heard p (Closed paid unpaid) = refl
asked_phase addr end at sent heard p Odd = refl
asked_phase addr end at sent heard p Lost = refl

-- a record that opens an order or not, and then the job ends
opened_ends : (opens : Bool) (p : Payment) (addr : ℕ) (end : End) →
    (if opens then Opened else if list_any (is_end_at p.addr) (entry_of.Ended addr end ∷ []) then Lost else Begun)
    ≡ phase_after p (entry_of.Ended addr end ∷ []) (if opens then Opened else Begun)
opened_ends true p addr end = refl
opened_ends false p addr end = refl

-- one that closes it or not
closed_ends : (closes : Bool) (p : Payment) (addr : ℕ) (end : End) (paid unpaid : ℕ) →
    (if closes then Closed paid unpaid else Opened)
    ≡ phase_after p (entry_of.Ended addr end ∷ []) (if closes then Closed paid unpaid else Opened)
closed_ends true p addr end paid unpaid = refl
closed_ends false p addr end paid unpaid = refl

odd_ends : (closes : Bool) (p : Payment) (addr : ℕ) (end : End) →
    (if closes then Odd else Opened) ≡ phase_after p (entry_of.Ended addr end ∷ []) (if closes then Odd else Opened)
odd_ends true p addr end = refl
odd_ends false p addr end = refl

close_ends : (p : Payment) (addr : ℕ) (end : End) (r : Record) →
    closed_in p.id (r ∷ []) ≡ phase_after p (entry_of.Ended addr end ∷ []) (closed_in p.id (r ∷ []))
close_ends p addr end (record_of.Closed closed paid unpaid) = closed_ends (closed == p.id) p addr end paid unpaid
close_ends p addr end (record_of.Odd closed before after) = odd_ends (closed == p.id) p addr end
close_ends p addr end r = refl

put_phase : (addr : ℕ) (end : End) (r : Record) (p : Payment) (phase : Phase) →
    phase_after p (entry_of.Ended addr end ∷ entry_of.Put r ∷ []) phase
    ≡ phase_after p (entry_of.Ended addr end ∷ []) (phase_after p (entry_of.Put r ∷ []) phase)
put_phase addr end r p Begun = opened_ends (is_opening p r || false) p addr end
put_phase addr end r p Opened = close_ends p addr end r
put_phase addr end r p (Closed paid unpaid) = refl
put_phase addr end r p Odd = refl
put_phase addr end r p Lost = refl

-- so they are seen one by one as both at once
two_due : (b a : Entry) →
    ((p : Payment) (phase : Phase) → phase_after p (b ∷ a ∷ []) phase ≡ phase_after p (b ∷ []) (phase_after p (a ∷ []) phase)) →
    (due : Option Due) →
    option_map (due_after (b ∷ a ∷ [])) due ≡ option_map (due_after (b ∷ [])) (option_map (due_after (a ∷ [])) due)
two_due b a same None = refl
two_due b a same (Some due) =
    ap (λ phase. Some (record { payment = due.payment; phase = phase })) (same due.payment due.phase)

two_seen : (b a : Entry) →
    ((p : Payment) (phase : Phase) → phase_after p (b ∷ a ∷ []) phase ≡ phase_after p (b ∷ []) (phase_after p (a ∷ []) phase)) →
    (desk : Desk) → record { session = option_map (session_after (b ∷ a ∷ [])) desk.session; trays = desk.trays }
    ≡ seen_at b (seen_at a desk)
two_seen b a same desk = ap (λ session. record { session = session; trays = desk.trays }) (by_session desk.session)
  where
    by_session : (session : Option Session) → option_map (session_after (b ∷ a ∷ [])) session
        ≡ option_map (session_after (b ∷ [])) (option_map (session_after (a ∷ [])) session)
    by_session None = refl
    by_session (Some s) =
        ap (λ due. Some (record { amount = s.amount; rest = s.rest; next = s.next; due = due })) (two_due b a same s.due)

-- the desk that saw an attempt
abbrev seen_all : List Entry → Desk → Desk
seen_all news desk = record { session = option_map (session_after news) desk.session; trays = desk.trays }

-- an exchange, as it is reported
asked_desk : (is_sent : Bool) (desk last : Desk) (addr : ℕ) (message heard : List ℕ) (more : List Entry) →
    AtDesk (seen_at (entry_of.Wire addr message heard) desk) last (as_told more) →
    AtDesk desk last (attempt_told is_sent (entry_of.Wire addr message heard ∷ more))
asked_desk true desk last addr message heard more h = h
asked_desk false desk last addr message [] more h =
    let wire = entry_of.Wire addr message [] in
    subst (λ d. AtDesk d last (as_told more)) (seen_same wire (plain_phase wire refl (λ at. refl)) desk) h
asked_desk false desk last addr message (byte ∷ heard) more h = h

attempt_seen : (desk : Desk) (addr : ℕ) (what : Attempt) (is_sent : Bool) →
    AtDesk desk (seen_all (attempt.news_of addr what) desk) (attempt_told is_sent (reverse (attempt.news_of addr what)))
attempt_seen desk addr idle true = refl
attempt_seen desk addr idle false = refl
attempt_seen desk addr (asked message heard None) is_sent =
    asked_desk is_sent desk (seen_all (entry_of.Wire addr message heard ∷ []) desk) addr message heard [] refl
attempt_seen desk addr (asked message heard (Some end)) is_sent =
    asked_desk is_sent desk (seen_all (entry_of.Ended addr end ∷ entry_of.Wire addr message heard ∷ []) desk) addr message heard
    (entry_of.Ended addr end ∷ [])
    (two_seen (entry_of.Ended addr end) (entry_of.Wire addr message heard) (asked_phase addr end addr message heard) desk)
attempt_seen desk addr (put r None) true = refl
attempt_seen desk addr (put r None) false = refl
attempt_seen desk addr (put r (Some end)) true = two_seen (entry_of.Ended addr end) (entry_of.Put r) (put_phase addr end r) desk
attempt_seen desk addr (put r (Some end)) false = two_seen (entry_of.Ended addr end) (entry_of.Put r) (put_phase addr end r) desk

pub attempt_at_desk : (old new : Desk) (addr : ℕ) (what : Attempt) (reported : List Entry) (is_sent : Bool)
    (notices : List Notice) → reported ≡ reverse (attempt.news_of addr what) →
    new ≡ record { session = option_map (session_after (reverse reported)) old.session; trays = old.trays } →
    AtDesk old new (attempt_told is_sent reported ++ notices_told notices)
attempt_at_desk old new addr what reported is_sent notices is sees =
    let news = attempt.news_of addr what in
    let back : reverse reported ≡ news = ap reverse is ∙ reverse-reverse news in
    let saw : new ≡ seen_all news old = sees ∙ ap (λ es. seen_all es old) back in
    desk_then old new new (attempt_told is_sent reported) (notices_told notices)
    (subst (λ d. AtDesk old d (attempt_told is_sent reported)) (sym saw)
    (subst (λ es. AtDesk old (seen_all news old) (attempt_told is_sent es)) (sym is) (attempt_seen old addr what is_sent)))
    (apart_notices notices new)

-- a `serve` that shows an entry
pub ends_at_desk : (old new : Desk) (e : Entry) → Ends old new e → AtDesk old new (operates step.Serve e ∷ [])
ends_at_desk old new e h = ((tt, h.entries), h.desk)

-- a `change`
pub change_gives : (first amount : ℕ) (old : Desk) (began : Bool) →
    change_entry first amount old.session ≡ change_told first amount began →
    GivesAt old (step.Change first amount) (change_told first amount began)
change_gives first amount old began told = (tt, λ capacity setup past. ap (λ e. e ∷ []) (sym told))

-- where a session doesn't run, or waits, a `serve` leaves the desk as it is
is_still : Entry → Bool
is_still entry_of.ServeIdle = true
is_still (entry_of.ServeWait addr) = true
is_still e = false

first_still : List Entry → Bool
first_still [] = false
first_still (e ∷ es) = is_still e

not_paid : (s : Session) (p : Payment) (why : Option CommandNo) → first_still (pay_entries s p why) ≡ false
unfolding is_still first_still
not_paid s p None = refl
not_paid s p (Some why) = refl

not_on : (setup : Setup) (trays : List Tray) (s : Session) (e : Entry) → is_still e ≡ true →
    PaysOn 0 setup [] trays s (e ∷ []) → ⊥
unfolding is_still first_still
not_on setup trays s e still (inl stuck) = both_ways (is_still e) (ap first_still stuck.1) still
not_on setup trays s e still (inr paid) =
    both_ways (is_still e) (ap first_still paid.2 ∙ not_paid s paid.0 (refusal 0 setup [] (pay_of paid.0))) still

not_gone : (setup : Setup) (trays : List Tray) (s : Session) (e : Entry) → is_still e ≡ true →
    GoesOn 0 setup [] trays s (e ∷ []) → ⊥
unfolding is_still first_still
not_gone setup trays s e still goes = by_rest (s.rest == 0) goes
  where
    by_rest : (all : Bool) → MatchBool all (e ∷ [] ≡ entry_of.Served s.amount ∷ []) (PaysOn 0 setup [] trays s (e ∷ [])) → ⊥
    by_rest true told = both_ways (is_still e) (ap first_still told) still
    by_rest false on = not_on setup trays s e still on

still_due : (setup : Setup) (trays : List Tray) (s : Session) (e : Entry) → is_still e ≡ true → (due : Due) (phase : Phase) →
    Settles 0 setup [] trays s due phase (e ∷ []) → served_due (e ∷ []) trays s due phase ≡ record { session = Some s; trays = trays }
unfolding is_still first_still
still_due setup trays s e still due Begun told = refl
still_due setup trays s e still due Opened told = refl
still_due setup trays s e still due Odd told = absurd (both_ways (is_still e) (ap first_still told) still)
still_due setup trays s e still due (Closed paid unpaid) told =
    absurd (not_gone setup (settled_trays due trays) (settled trays due s) e still told)
still_due setup trays s e still due Lost told =
    absurd (not_gone setup (settled_trays due trays) (settled trays due s) e still told)

still_by : (setup : Setup) (trays : List Tray) (s : Session) (e : Entry) → is_still e ≡ true → (due : Option Due) →
    ServesDue 0 setup [] trays s due (e ∷ []) → served_by (e ∷ []) trays s due ≡ record { session = Some s; trays = trays }
still_by setup trays s e still None told = absurd (not_gone setup trays s e still told)
still_by setup trays s e still (Some due) told = still_due setup trays s e still due due.phase told

still_same : (setup : Setup) (old new : Desk) (e : Entry) → is_still e ≡ true → Ends old new e → new ≡ old
still_same setup old new e still h = h.desk ∙ by_session old.session (h.entries 0 setup [])
  where
    by_session : (session : Option Session) → Serves 0 setup [] old.trays session (e ∷ []) →
        change.served (e ∷ []) old.trays session ≡ record { session = session; trays = old.trays }
    by_session None told = refl
    by_session (Some s) told = still_by setup old.trays s e still s.due told

pub idle_same : (setup : Setup) (old new : Desk) → Ends old new entry_of.ServeIdle → new ≡ old
unfolding is_still
idle_same setup old new h = still_same setup old new entry_of.ServeIdle refl h

pub wait_same : (setup : Setup) (addr : ℕ) (old new : Desk) → Ends old new (entry_of.ServeWait addr) → new ≡ old
unfolding is_still
wait_same setup addr old new h = still_same setup old new (entry_of.ServeWait addr) refl h

wait_addr : (a b : ℕ) → entry_of.ServeWait a ∷ [] ≡ entry_of.ServeWait b ∷ [] → a ≡ b
wait_addr a b e = cc e

-- whether a session has nothing to do, by what a `serve` comes to
pub idle_rests : (setup : Setup) (past : List Entry) (old new : Desk) → Ends old new entry_of.ServeIdle → Rests setup true old past
unfolding is_still first_still
idle_rests setup past old new h = by_session old.session (h.entries 0 setup [])
  where
    by_phase : (s : Session) (due : Due) (phase : Phase) →
        Settles 0 setup [] old.trays s due phase (entry_of.ServeIdle ∷ []) → works_at setup past (waits_in due phase) ≡ true
    by_phase s due Begun told = cc told
    by_phase s due Opened told = cc told
    by_phase s due Odd told = cc told
    by_phase s due (Closed paid unpaid) told =
        absurd (not_gone setup (settled_trays due old.trays) (settled old.trays due s) entry_of.ServeIdle refl told)
    by_phase s due Lost told =
        absurd (not_gone setup (settled_trays due old.trays) (settled old.trays due s) entry_of.ServeIdle refl told)

    by_due : (s : Session) (due : Option Due) → ServesDue 0 setup [] old.trays s due (entry_of.ServeIdle ∷ []) →
        works_at setup past (waits_for due) ≡ true
    by_due s None told = absurd (not_gone setup old.trays s entry_of.ServeIdle refl told)
    by_due s (Some due) told = by_phase s due due.phase told

    by_session : (session : Option Session) → Serves 0 setup [] old.trays session (entry_of.ServeIdle ∷ []) →
        rests setup past session ≡ true
    by_session None told = refl
    by_session (Some s) told = by_due s s.due told

pub wait_rests : (setup : Setup) (past : List Entry) (addr : ℕ) (rest : Bool) (old new : Desk) →
    Ends old new (entry_of.ServeWait addr) → is_some (command_at setup past addr) ≡ rest → Rests setup rest old past
unfolding is_still first_still
wait_rests setup past addr rest old new h is = by_session old.session (h.entries 0 setup [])
  where
    by_phase : (s : Session) (due : Due) (phase : Phase) →
        Settles 0 setup [] old.trays s due phase (entry_of.ServeWait addr ∷ []) →
        works_at setup past (waits_in due phase) ≡ rest
    by_phase s due Begun told =
        subst (λ a. is_some (command_at setup past a) ≡ rest) (wait_addr addr due.payment.addr told) is
    by_phase s due Opened told =
        subst (λ a. is_some (command_at setup past a) ≡ rest) (wait_addr addr due.payment.addr told) is
    by_phase s due Odd told = cc told
    by_phase s due (Closed paid unpaid) told =
        absurd (not_gone setup (settled_trays due old.trays) (settled old.trays due s) (entry_of.ServeWait addr) refl told)
    by_phase s due Lost told =
        absurd (not_gone setup (settled_trays due old.trays) (settled old.trays due s) (entry_of.ServeWait addr) refl told)

    by_due : (s : Session) (due : Option Due) → ServesDue 0 setup [] old.trays s due (entry_of.ServeWait addr ∷ []) →
        works_at setup past (waits_for due) ≡ rest
    by_due s None told = absurd (not_gone setup old.trays s (entry_of.ServeWait addr) refl told)
    by_due s (Some due) told = by_phase s due due.phase told

    by_session : (session : Option Session) → Serves 0 setup [] old.trays session (entry_of.ServeWait addr ∷ []) →
        rests setup past session ≡ rest
    by_session None told = cc told
    by_session (Some s) told = by_due s s.due told

goes_unrested : (setup : Setup) (past : List Entry) (old : Desk) (news : List Entry) → first_still news ≡ false →
    Serves 0 setup [] old.trays old.session news → Rests setup false old past
unfolding is_still first_still
goes_unrested setup past old news goes told = by_session old.session told
  where
    by_phase : (s : Session) (due : Due) (phase : Phase) → Settles 0 setup [] old.trays s due phase news →
        works_at setup past (waits_in due phase) ≡ false
    by_phase s due Begun told = absurd (both_ways (first_still news) goes (ap first_still told))
    by_phase s due Opened told = absurd (both_ways (first_still news) goes (ap first_still told))
    by_phase s due Odd told = refl
    by_phase s due (Closed paid unpaid) told = refl
    by_phase s due Lost told = refl

    by_due : (s : Session) (due : Option Due) → ServesDue 0 setup [] old.trays s due news →
        works_at setup past (waits_for due) ≡ false
    by_due s None told = refl
    by_due s (Some due) told = by_phase s due due.phase told

    by_session : (session : Option Session) → Serves 0 setup [] old.trays session news → rests setup past session ≡ false
    by_session None told = absurd (both_ways (first_still news) goes (ap first_still told))
    by_session (Some s) told = by_due s s.due told

pub serves_unrested : (setup : Setup) (past : List Entry) (serving : Serving) (old new : Desk) →
    (serving ≡ serving_of.Idle → ⊥) → ((addr : ℕ) → serving ≡ serving_of.Wait addr → ⊥) → ServesBy serving old new →
    Rests setup false old past
unfolding is_still first_still
serves_unrested setup past serving_of.Idle old new no_idle no_wait h = absurd (no_idle refl)
serves_unrested setup past (serving_of.Wait addr) old new no_idle no_wait h = absurd (no_wait addr refl)
serves_unrested setup past (serving_of.Odd id) old new no_idle no_wait h =
    goes_unrested setup past old (entry_of.ServeOdd id ∷ []) refl (h.entries 0 setup [])
serves_unrested setup past (serving_of.Served amount) old new no_idle no_wait h =
    goes_unrested setup past old (entry_of.Served amount ∷ []) refl (h.entries 0 setup [])
serves_unrested setup past (serving_of.Short shortfall) old new no_idle no_wait h =
    goes_unrested setup past old (entry_of.Short shortfall.paid shortfall.rest ∷ []) refl (h.entries 0 setup [])
serves_unrested setup past (serving_of.Pay p) old new no_idle no_wait h =
    goes_unrested setup past old (entries_by 0 setup [] h.session p)
    (not_paid h.session p (refusal 0 setup [] (pay_of p))) (h.entries 0 setup [])

-- a payment that is taken
pub taken_at_desk : (old asking new : Desk) (p : Payment) → Asks old asking p →
    ((s : Session) → asking.session ≡ Some s → new ≡ gone_on (entry_of.Taken (pay_of p) ∷ []) asking.trays s) →
    AtDesk old new (pays p taken ∷ [])
taken_at_desk old asking new p asks takes = (asking, asks, takes asks.session asks.runs)

-- one that isn't, and ends the session short
pub refused_at_desk : (old asking new : Desk) (p : Payment) (why : CommandNo) (paid rest : ℕ) → Asks old asking p →
    ((s : Session) → asking.session ≡ Some s → entry_of.Short paid rest ≡ short_entry s) →
    new ≡ record { session = None; trays = asking.trays } →
    AtDesk old new (pays p (refused_for why) ∷ falls_short p paid rest ∷ [])
refused_at_desk old asking new p why paid rest asks told is =
    (asking, asks, ((refl, told asks.session asks.runs), is))

pub withheld_at_desk : (old asking new : Desk) (p : Payment) (why : Withheld) (paid rest : ℕ) → Asks old asking p →
    ((s : Session) → asking.session ≡ Some s → entry_of.Short paid rest ≡ short_entry s) →
    new ≡ record { session = None; trays = asking.trays } →
    AtDesk old new (pays p (withheld_for why) ∷ falls_short p paid rest ∷ [])
withheld_at_desk old asking new p why paid rest asks told is =
    (asking, asks, ((refl, told asks.session asks.runs), is))
