-- One part of a life after another.
use Rattle.std.proofs.Common.{◌≡◌, ◌≢◌, ◌≤◌, ◌⊎◌, ℕ, List, [], ◌∷◌, ◌++◌, Bool, false, length, reverse, Option, Some, Result, OnOk, IsErr}
use Rattle.std.specs.Prelude.{⊤}
use Rattle.std.proofs.Common.{Ok, Err, refl, ap, sym, ◌∙◌, subst, append_assoc, arith, inl, inr, ⊎_elim}
use Rattle.std.specs.List.{All}
use Rattle.std.proofs.lemmas.List.{append-nil, map-append}
use Rattle.cct_edge.specs.Bytes.{Serves}
use Rattle.cct_edge.proofs.Chains.{Rose-earlier, Rose-later}
use Rattle.cct_edge.specs.declared.fault.Failed.{Failed}
use Rattle.cct_model.specs.terms.wire.TheConstants.{MOST_HEARD}
use Rattle.cct_model.specs.terms.device.Setup.{Setup}
use Rattle.cct_model.specs.lines.command.Command.{Command}
use Rattle.cct_model.specs.lines.command.CommandNo.{CommandNo}
use Rattle.cct_model.specs.lines.entry.Entry.{Entry}
use Rattle.cct_model.specs.lines.entry.Entry.TheVariants as entry_of
use Rattle.cct_model.specs.lines.entry.Totals.{Totals}
use Rattle.cct_model.specs.lines.record.Record.{Record}
use Rattle.cct_model.specs.Legal.{command_entry}
use Rattle.cct_model.specs.Records.{records}
use Rattle.cct_model.specs.Money.{totals}
use Rattle.cct_model.specs.Script.{IsCommand}
use Rattle.cct_disk.specs.declared.disk.Disk.{Ghosts}
use Rattle.cct_disk.specs.Disk.{GoesOn, IsTrusted, LeavesOnly}
use Rattle.cct_journal.specs.Journal as journals
use Rattle.cct_journal.specs.declared.format.TheConstants.{MOST_RECORDS}
use Rattle.cct_host.specs.declared.host.Host.{Host}
use Rattle.cct_host.specs.Attempt.{Attempt, HeardBy, Links, asked, idle, put}
use Rattle.cct_host.specs.Attempt as attempt
use Rattle.cct_host.specs.Desk.{no_of}
use Rattle.cct_host.specs.OnDisk.{StandsUpTo}
use Rattle.cct_host.specs.Host.{Answers, Fails, FailsBetween, FillsOn, Keeps, Nexts, disk_of, has_failed, journal_of, setup_of}
use Rattle.cct_host.proofs.Quiet.{balance_quiet, host_quiet}
use Rattle.cct_laws_live.specs.Life.{IsLife}
use Rattle.cct_laws_live.specs.LiveStep.{LiveStep}
use Rattle.cct_laws_live.specs.LiveStep as live
use Rattle.cct_laws_live.proofs.Life.{life_balance, life_command, life_next}
use Rattle.cct_laws_live.proofs.LifeBooks.{life_follow}
use Rattle.cct_live_service.specs.declared.notice.Notice.{Notice}
use Rattle.cct_live_service.specs.declared.notice.Notice.TheVariants as notice_of
use Rattle.cct_live_service.specs.declared.served.Served.{Served}
use Rattle.cct_live_service.specs.declared.served.Served.TheVariants as served
use Rattle.cct_live_service.specs.Causes.{DiskServes, EndsBy, IsDiskFault, IsUnwritten}
use Rattle.cct_live_service.specs.Doing.{FrontOf, IsOrder, IsStating, Tells}
use Rattle.cct_live_service.specs.Ending.{by_writing}
use Rattle.cct_live_service.specs.Parts.{Acts, FailedSince, LifeGoes, LivesOn, LivesTo, Part}
use Rattle.cct_live_service.specs.Watch.{IsOfWatch}
use Rattle.cct_live_service.specs.Reported.{IsJust, IsOrderOf, IsTold, open_in, order_told}
use Rattle.cct_live_service.specs.Known.{MissedFrom}
use Rattle.cct_live_service.specs.Stated.{IsStateFor, IsStateOf, MissedFor, TellsKnown, kept_in}
use Rattle.cct_live_service.specs.Since.{Given, StandsSince, since_turn}
use Rattle.cct_live_order.specs.declared.told.OrderTold.{OrderTold}
use Rattle.cct_live_order.specs.declared.told.OrderTold.TheVariants as order_of
use Rattle.cct_live_service.specs.Said.{IsOfInput}
use Rattle.cct_live_service.specs.Told.{Told, WritesTold, as_told, attempt_told, knows_each, news_of, notice, notices_told, told_line}
use Rattle.cct_text.specs.Writing.{PutsLine}
use Rattle.cct_live_service.proofs.Knows.{news_known, so_known}
use Rattle.cct_live_service.proofs.Reporting.{AreSo, so_attempt, so_then, so_where}
use Rattle.cct_live_service.proofs.Since.{attempt_records, command_records, since_kept, since_left, since_put, since_same}
use Rattle.cct_live_service.proofs.Suiting.{life_suits}
use Rattle.cct_live_service.proofs.Telling.{news_next, news_notices, news_then, told_none, told_one, told_then}

-- a life goes on by one part, and then by another
pub goes_then : {D : Type 0} (g : Ghosts D) (setup : Setup) (A B C : Given D → List Record → List Entry → Type 0) (first then : List LiveStep) (told later : List Told) →
    LifeGoes g setup A first told B → LifeGoes g setup B then later C → LifeGoes g setup A (first ++ then) (told ++ later) C
goes_then g setup A B C first then told later h k given found before past life is =
    let one = h given found before past life is in
    let two = k given found (before ++ first) (news_of told ++ past) one.0 one.1 in
    let all = append_assoc (news_of later) (news_of told) past in
    let same : news_of later ++ (news_of told ++ past) ≡ news_of (told ++ later) ++ past =
    sym all ∙ ap (λ news. news ++ past) (sym (news_then told later)) in (
      subst (λ steps. IsLife MOST_RECORDS setup found steps (news_of (told ++ later) ++ past))
          (append_assoc before first then)
          (subst (IsLife MOST_RECORDS setup found ((before ++ first) ++ then)) same two.0),
      subst (C given found) same two.1,
      so_then (IsTrusted g.honest g.seen given.disk) (since_turn (g.size given.disk) given.base found) setup past told later one.2 two.2,
    )

-- nothing is done
pub goes_none : {D : Type 0} (g : Ghosts D) (setup : Setup) (A B : Given D → List Record → List Entry → Type 0) (told : List Told) → news_of told ≡ [] →
    ((given : Given D) (found : List Record) (past : List Entry) → A given found past → B given found past) →
    ((given : Given D) (found : List Record) (past : List Entry) → A given found past → AreSo setup past told) →
    LifeGoes g setup A [] told B
goes_none g setup A B told none keeps so given found before past life is = (
  subst (λ steps. IsLife MOST_RECORDS setup found steps (news_of told ++ past)) (sym (append-nil before))
      (subst (λ news. IsLife MOST_RECORDS setup found before (news ++ past)) (sym none) life),
  subst (λ news. B given found (news ++ past)) (sym none) (keeps given found past is),
  so_where (IsTrusted g.honest g.seen given.disk) (since_turn (g.size given.disk) given.base found) setup past told (so given found past is),
)

module _ {K : Type 0} (written : K → Option (List ℕ)) (puts : K → List ℕ → Result (Unit {0}) Failed → K → Type 0) where
  -- the same part is also this
  pub part_weaker : {D : Type 0} {g : Ghosts D} (S : List Told → Type 0) (a b : K) (answer : Result (Unit {0}) Failed) (setup : Setup)
      (A B : Given D → List Record → List Entry → Type 0) (P Q : List LiveStep → List Told → Type 0) →
      ((steps : List LiveStep) (told : List Told) → P steps told → Q steps told) →
      Part written puts g a b answer setup A B S P → Part written puts g a b answer setup A B S Q
  part_weaker S a b answer setup A B P Q to h = record {
    steps = h.steps;
    told = h.told;
    wrote = h.wrote;
    goes = h.goes;
    does = to h.steps h.told h.does;
    linked = h.linked;
  }

  -- the same part is so linked, too
  pub part_linked : {D : Type 0} {g : Ghosts D} (S T : List Told → Type 0) → ((told : List Told) → S told → T told) → (a b : K)
      (answer : Result (Unit {0}) Failed) (setup : Setup) (A B : Given D → List Record → List Entry → Type 0)
      (P : List LiveStep → List Told → Type 0) → Part written puts g a b answer setup A B S P →
      Part written puts g a b answer setup A B T P
  part_linked S T links a b answer setup A B P h = record {
    steps = h.steps;
    told = h.told;
    wrote = h.wrote;
    goes = h.goes;
    does = h.does;
    linked = links h.told h.linked;
  }

  -- nothing is done, and one line is reported that isn't an entry
  pub part_line : {D : Type 0} {g : Ghosts D} (S : List Told → Type 0) (a b : K) (answer : Result (Unit {0}) Failed) (setup : Setup)
      (A : Given D → List Record → List Entry → Type 0) (what : Told) (P : List LiveStep → List Told → Type 0) → news_of (what ∷ []) ≡ [] →
      ((past : List Entry) → AreSo setup past (what ∷ [])) →
      PutsLine written puts a (told_line what) answer b → P [] (what ∷ []) → S (what ∷ []) →
      Part written puts g a b answer setup A A S P
  part_line {D} {g} S a b answer setup A what P none so line is linked = record {
    steps = [];
    told = what ∷ [];
    wrote = told_one written puts a b what answer line;
    goes = goes_none g setup A A (what ∷ []) none (λ given found past is. is) (λ given found past is. so past);
    does = is;
    linked = linked;
  }

  pub part_then : {D : Type 0} {g : Ghosts D} (S T U : List Told → Type 0) → ((t1 t2 : List Told) → S t1 → T t2 → U (t1 ++ t2)) → (a b c : K)
      (answer : Result (Unit {0}) Failed) (setup : Setup) (A B C : Given D → List Record → List Entry → Type 0)
      (P Q R : List LiveStep → List Told → Type 0) →
      ((s1 s2 : List LiveStep) (t1 t2 : List Told) → P s1 t1 → Q s2 t2 → R (s1 ++ s2) (t1 ++ t2)) →
      Part written puts g a b (Ok tt) setup A B S P → Part written puts g b c answer setup B C T Q →
      Part written puts g a c answer setup A C U R
  part_then {D} {g} S T U links a b c answer setup A B C P Q R to h k = record {
    steps = h.steps ++ k.steps;
    told = h.told ++ k.told;
    wrote = told_then written puts a b c h.told k.told answer h.wrote k.wrote;
    goes = goes_then g setup A B C h.steps k.steps h.told k.told h.goes k.goes;
    does = to h.steps k.steps h.told k.told h.does k.does;
    linked = links h.told k.told h.linked k.linked;
  }

-- what an attempt heard
heard_of : Attempt → List ℕ
heard_of idle = []
heard_of (asked sent heard end) = heard
heard_of (put r end) = []

heard_by : (what : Attempt) → HeardBy (λ sent. heard_of what) what
unfolding heard_of
heard_by idle = tt
heard_by (asked sent heard end) = refl
heard_by (put r end) = tt

few_heard : {L : Type 0} (gives : L → List ℕ → List ℕ → L → Type 0) →
    ((old : L) (sent heard : List ℕ) (new : L) → gives old sent heard new → length heard ≤ MOST_HEARD) →
    (old new : L) (what : Attempt) → Links gives old new what → length (heard_of what) ≤ MOST_HEARD
unfolding heard_of
few_heard gives few old new idle links = omega arith
few_heard gives few old new (asked sent heard end) links = few old sent heard new links
few_heard gives few old new (put r end) links = omega arith

module _ {D : Type 0} {g : Ghosts D} where
  -- an attempt of a job, and its entries
  pub next_goes : {L : Type 0} (gives : L → List ℕ → List ℕ → L → Type 0) →
      ((old : L) (sent heard : List ℕ) (new : L) → gives old sent heard new → length heard ≤ MOST_HEARD) →
      (old new : L) (addr : ℕ) (before after : Host D g) (reported : List Entry) (is_sent : Bool) (notices : List Notice) →
      All IsOfWatch notices → setup_of after ≡ setup_of before →
      GoesOn g.size g.honest g.seen g.cuts (disk_of before) (disk_of after) →
      Nexts gives old new addr before after [] reported → FillsOn (journal_of before) (journal_of after) →
      LifeGoes g (setup_of before) (StandsSince before) (live.next addr ∷ [])
      (attempt_told is_sent reported ++ notices_told notices) (StandsSince after)
  next_goes gives few old new addr before after reported is_sent notices bears kept on nexts fills given found steps past life since =
      let what = nexts.what in
      let news = attempt.news_of addr what in
      let setup = setup_of before in
      let suits = life_suits MOST_RECORDS setup found steps past addr since.stands.keeps.desks.sound life in
      let went = nexts.goes (λ sent. heard_of what) past (heard_by what) since.stands suits in
      let same : news_of (attempt_told is_sent reported ++ notices_told notices) ≡ news =
      ap (λ es. news_of (attempt_told is_sent es ++ notices_told notices)) nexts.reported_is
      ∙ news_next news is_sent notices in (
        subst (λ es. IsLife MOST_RECORDS setup found (steps ++ live.next addr ∷ []) (es ++ past)) (sym same)
            (life_next MOST_RECORDS setup found steps past addr (heard_of what) news life
            (few_heard gives few old new what nexts.link) went.0),
        subst (λ es. StandsSince after given found (es ++ past)) (sym same)
            (since_put before after given found past (news ++ past) (attempt.put_of what) since kept on
            (attempt_records addr what past) (nexts.moments past since.stands) (λ none. ap journals.disk_of (nexts.quiet none)) fills
            went.1),
        so_where (IsTrusted g.honest g.seen given.disk) (since_turn (g.size given.disk) given.base found) setup past (attempt_told is_sent reported ++ notices_told notices)
            (so_attempt setup past is_sent reported notices bears),
      )

  -- a command that is answered
  pub command_goes : (before after : Host D g) (c : Command) (result : Result (Unit {0}) CommandNo) → IsCommand c →
      setup_of after ≡ setup_of before → journal_of after ≡ journal_of before → Answers before after c result →
      LifeGoes g (setup_of before) (StandsSince before) (live.command c ∷ []) (as_told (command_entry c (no_of result) ∷ []))
      (StandsSince after)
  command_goes before after c result is kept journal answers given found steps past life since =
      let setup = setup_of before in
      let answered = answers past since.stands in
      let why = answered.0 in (
        subst (λ no. IsLife MOST_RECORDS setup found (steps ++ live.command c ∷ []) (command_entry c no ∷ past)) (sym why)
            (life_command MOST_RECORDS setup found steps past c life is),
        since_same before after given found past (command_entry c (no_of result) ∷ past) since kept journal
            (command_records c (no_of result) past) answered.1,
        tt,
      )

  -- a balance that is reported
  pub balance_goes : (host : Host D g) (told : Totals) →
      ((past : List Entry) → Keeps host past → told ≡ totals (setup_of host) past) →
      LifeGoes g (setup_of host) (StandsSince host) (live.balance ∷ []) (as_told (entry_of.Balance told ∷ []))
      (StandsSince host)
  balance_goes host told tells given found steps past life since =
      let setup = setup_of host in (
        subst (λ t. IsLife MOST_RECORDS setup found (steps ++ live.balance ∷ []) (entry_of.Balance t ∷ past))
            (sym (tells past since.stands.keeps)) (life_balance MOST_RECORDS setup found steps past life),
        since_same host host given found past (entry_of.Balance told ∷ past) since refl refl refl
            (host_quiet host past (entry_of.Balance told) (balance_quiet past told) since.stands),
        tt,
      )

  -- what the journal knows is reported
  pub known_goes : (host : Host D g) (lines : List (List ℕ)) → IsStateFor host lines →
      LifeGoes g (setup_of host) (StandsSince host) [] (knows_each lines lines) (StandsSince host)
  known_goes host lines is given found steps past life since =
      let setup = setup_of host in
      let none = news_known lines lines in (
        subst (λ steps. IsLife MOST_RECORDS setup found steps (news_of (knows_each lines lines) ++ past))
            (sym (append-nil steps))
            (subst (λ news. IsLife MOST_RECORDS setup found steps (news ++ past)) (sym none) life),
        subst (λ news. StandsSince host given found (news ++ past)) (sym none) since,
        so_known (IsTrusted g.honest g.seen given.disk) (since_turn (g.size given.disk) given.base found) setup past lines lines
            (λ trusted. subst (λ rs. IsStateOf setup (records past) rs lines) (since_kept host given found past since)
            (is past since.stands (since.trusted trusted))),
      )

  -- what is known of an order is reported
  pub order_goes : (host : Host D g) (id : ℕ) (known : OrderTold) (Missed : Type 0) →
      ((past : List Entry) → Keeps host past → IsJust (open_in (setup_of host) past id) known) →
      IsOrderOf host id Missed known →
      LifeGoes g (setup_of host) (StandsSince host) [] (notice (notice_of.Order id known) ∷ []) (StandsSince host)
  order_goes host id known Missed just is given found steps past life since =
      let setup = setup_of host in (
        subst (λ steps. IsLife MOST_RECORDS setup found steps past) (sym (append-nil steps)) life,
        since,
        (
          (
            just past since.stands.keeps,
            λ trusted. subst (λ rs. IsTold setup past rs id known) (since_kept host given found past since)
                (by_case (is past since.stands (since.trusted trusted))),
          ),
          tt,
        ),
      )
    where
      by_case : {X : Type 0} → (((known ≡ order_told (setup_of host) past (kept_in host past) id) × X)
          ⊎ ((known ≡ order_of.Unread) × Missed)) → IsTold (setup_of host) past (kept_in host past) id known
      by_case (inl told) = inl told.0
      by_case (inr unread) = inr unread.0

  -- and it was missed where it couldn't be read
  order_missed : (host : Host D g) (id : ℕ) (known : OrderTold) (Missed : Type 0) → IsOrderOf host id Missed known →
      known ≡ order_of.Unread → MissedFrom host Missed
  order_missed host id known Missed is unread given found before past life since trusted =
      by_case (is past since.stands (since.trusted trusted))
    where
      by_case : {X : Type 0} → ((X × (known ≢ order_of.Unread)) ⊎ ((known ≡ order_of.Unread) × Missed)) → Missed
      by_case (inl told) = absurd (told.1 unread)
      by_case (inr missed) = missed.1

  -- what was missed of a host is so whatever was given and found
  missed_from : (host : Host D g) (Missed : Type 0) → MissedFor host Missed → MissedFrom host Missed
  missed_from host Missed missed given found before past life since trusted =
      missed past since.stands
      (life_follow MOST_RECORDS (setup_of host) found before past since.stands.keeps.desks.sound life)
      (since.trusted trusted)

  -- a put that failed
  pub put_failed : (before after : Host D g) (addr : ℕ) → setup_of after ≡ setup_of before → Fails before after addr →
      FailsBetween before after addr → GoesOn g.size g.honest g.seen g.cuts (disk_of before) (disk_of after) →
      (given : Given D) (found : List Record) (past : List Entry) → StandsSince before given found past →
      FailedSince after given found past
  put_failed before after addr same fails between on given found past since =
      let failed = fails past since.stands in
      record {
        failed = record {
          keeps = failed.0;
          addr = addr;
          r = failed.1.0;
          due = rw same failed.1.1;
          left = λ trusted. rw same (failed.1.2 (sym on.same_honest ∙ trusted.0, sym on.same_telling ∙ trusted.1));
        };
        left = since_left before after given found past (failed.1.0 ∷ records past) (Some failed.1.0) since same refl
            (λ trusted. subst
            (λ d. LeavesOnly g.moment g.left_since (disk_of before) (disk_of after)
            (StandsUpTo (setup_of before) d (reverse (records past)))) failed.1.1 (between past since.stands trusted));
      }

later_later : (a b c : ℕ) → a ≤ b → b ≤ c → a ≤ c
later_later a b c h k = omega arith

-- one front is all of it
pub front_whole : (P : List LiveStep → List Told → Type 0) (steps : List LiveStep) (told : List Told) → P steps told →
    FrontOf P steps told
front_whole P steps told h = record {
  undone = [];
  untold = [];
  whole = subst (λ s. P s (told ++ [])) (sym (append-nil steps)) (subst (P steps) (sym (append-nil told)) h);
}

pub front_weaker : (P Q : List LiveStep → List Told → Type 0) →
    ((steps : List LiveStep) (told : List Told) → P steps told → Q steps told) → (steps : List LiveStep) (told : List Told) →
    FrontOf P steps told → FrontOf Q steps told
front_weaker P Q to steps told h = record {
  undone = h.undone;
  untold = h.untold;
  whole = to (steps ++ h.undone) (told ++ h.untold) h.whole;
}

-- a front of what is a front of another thing
pub front_front : (P Q : List LiveStep → List Told → Type 0) →
    ((steps : List LiveStep) (told : List Told) → P steps told → FrontOf Q steps told) → (steps : List LiveStep)
    (told : List Told) → FrontOf P steps told → FrontOf Q steps told
front_front P Q to steps told h =
    let k = to (steps ++ h.undone) (told ++ h.untold) h.whole in
    record {
      undone = h.undone ++ k.undone;
      untold = h.untold ++ k.untold;
      whole = subst (λ s. Q s (told ++ (h.untold ++ k.untold))) (append_assoc steps h.undone k.undone)
          (subst (Q ((steps ++ h.undone) ++ k.undone)) (append_assoc told h.untold k.untold) k.whole);
    }

-- a whole, and then a front
pub front_then : (P Q R : List LiveStep → List Told → Type 0) →
    ((s1 s2 : List LiveStep) (t1 t2 : List Told) → P s1 t1 → Q s2 t2 → R (s1 ++ s2) (t1 ++ t2)) →
    (s1 s2 : List LiveStep) (t1 t2 : List Told) → P s1 t1 → FrontOf Q s2 t2 → FrontOf R (s1 ++ s2) (t1 ++ t2)
front_then P Q R to s1 s2 t1 t2 h k = record {
  undone = k.undone;
  untold = k.untold;
  whole = subst (λ s. R s ((t1 ++ t2) ++ k.untold)) (sym (append_assoc s1 s2 k.undone))
      (subst (R (s1 ++ (s2 ++ k.undone))) (sym (append_assoc t1 t2 k.untold))
      (to s1 (s2 ++ k.undone) t1 (t2 ++ k.untold) h k.whole));
}

-- one call of a sink after another
pub serves_then : {T : Type 0} (told : T → Option (List ℕ)) (faults : T → ℕ) (a b c : T) (E F : Type 0) →
    Serves told faults a b E → Serves told faults b c F → (G : Type 0) → (G → E ⊎ F) → Serves told faults a c G
serves_then told faults a b c E F h k G by = record {
  tells = k.tells ∙ h.tells;
  later = later_later (faults a) (faults b) (faults c) h.later k.later;
  rose = λ fails. ⊎_elim (λ e. Rose-later (faults a) (faults b) (faults c) (h.rose e) k.later)
      (λ f. Rose-earlier (faults a) (faults b) (faults c) h.later (k.rose f)) (by fails);
}

-- a call that failed by nothing, and one more
pub serves_on : {T : Type 0} (told : T → Option (List ℕ)) (faults : T → ℕ) (a b c : T) {E : Type 0} →
    Serves told faults a b ⊥ → Serves told faults b c E → Serves told faults a c ⊥
serves_on told faults a b c {E} h k = serves_then told faults a b c ⊥ E h k ⊥ (λ fails. absurd fails)

pub serves_weaker : {T : Type 0} (told : T → Option (List ℕ)) (faults : T → ℕ) (a b : T) (E F : Type 0) → (F → E) →
    Serves told faults a b E → Serves told faults a b F
serves_weaker told faults a b E F by h = record { tells = h.tells; later = h.later; rose = λ f. h.rose (by f) }

pub serves_none : {T : Type 0} (told : T → Option (List ℕ)) (faults : T → ℕ) (a : T) (E : Type 0) → (E → ⊥) →
    Serves told faults a a E
serves_none told faults a E never = record { tells = refl; later = omega arith; rose = λ e. absurd (never e) }

-- the same of a disk
module _ {D : Type 0} (size : D → ℕ) (honest : D → Bool) (seen : D → Option (List ℕ)) (cuts faults : D → ℕ) where
  pub disk_then : (a b c : D) (E F : Type 0) → DiskServes size honest seen cuts faults a b E →
      DiskServes size honest seen cuts faults b c F → (G : Type 0) → (G → E ⊎ F) →
      DiskServes size honest seen cuts faults a c G
  disk_then a b c E F h k G by = record {
    goes_on = record {
      same_size = k.goes_on.same_size ∙ h.goes_on.same_size;
      same_honest = k.goes_on.same_honest ∙ h.goes_on.same_honest;
      same_telling = k.goes_on.same_telling ∙ h.goes_on.same_telling;
      same_cuts = k.goes_on.same_cuts ∙ h.goes_on.same_cuts;
    };
    cause = record {
      later = later_later (faults a) (faults b) (faults c) h.cause.later k.cause.later;
      rose = λ fails. ⊎_elim (λ e. Rose-later (faults a) (faults b) (faults c) (h.cause.rose e) k.cause.later)
          (λ f. Rose-earlier (faults a) (faults b) (faults c) h.cause.later (k.cause.rose f)) (by fails);
    };
  }

  pub disk_weaker : (a b : D) (E F : Type 0) → (F → E) → DiskServes size honest seen cuts faults a b E →
      DiskServes size honest seen cuts faults a b F
  disk_weaker a b E F by h = record {
    goes_on = h.goes_on;
    cause = record { later = h.cause.later; rose = λ f. h.cause.rose (by f) };
  }

  pub disk_none : (a : D) (E : Type 0) → (E → ⊥) → DiskServes size honest seen cuts faults a a E
  disk_none a E never = record {
    goes_on = record { same_size = refl; same_honest = refl; same_telling = refl; same_cuts = refl };
    cause = record { later = omega arith; rose = λ e. absurd (never e) };
  }

  pub disk_same : (a b : D) → b ≡ a → DiskServes size honest seen cuts faults a b ⊥
  disk_same a b same =
      subst (λ d. DiskServes size honest seen cuts faults a d ⊥) (sym same) (disk_none a ⊥ (λ fails. fails))

module _ {K : Type 0} (written : K → Option (List ℕ)) (puts : K → List ℕ → Result (Unit {0}) Failed → K → Type 0)
    {D : Type 0} {g : Ghosts D} where
  -- the same life is also this
  pub lives_weaker : (S : List Told → Type 0) (result : Result (Unit {0}) Served) (a b : K) (old new : Host D g)
      (P Q : List LiveStep → List Told → Type 0) → ((steps : List LiveStep) (told : List Told) → P steps told → Q steps told) →
      LivesOn written puts S P result a b old new → LivesOn written puts S Q result a b old new
  lives_weaker S (Ok done) a b old new P Q to h =
      part_weaker written puts S a b (Ok tt) (setup_of old) (StandsSince old) (StandsSince new) P Q to h
  lives_weaker S (Err served.Unwritten) a b old new P Q to h = (
    h.0,
    part_weaker written puts S a b (Err h.0) (setup_of old) (StandsSince old) (StandsSince new) (FrontOf P) (FrontOf Q)
        (front_weaker P Q to) h.1,
  )
  lives_weaker S (Err served.Disk) a b old new P Q to h =
      part_weaker written puts S a b (Ok tt) (setup_of old) (StandsSince old) (FailedSince new) (FrontOf P) (FrontOf Q)
      (front_weaker P Q to) h
  lives_weaker S (Err served.Done) a b old new P Q to h = absurd h
  lives_weaker S (Err (served.Refused number kind)) a b old new P Q to h = absurd h
  lives_weaker S (Err served.Unread) a b old new P Q to h = absurd h
  lives_weaker S (Err (served.OtherSize len)) a b old new P Q to h = absurd h
  lives_weaker S (Err served.Alien) a b old new P Q to h = absurd h
  lives_weaker S (Err (served.BadRecord index)) a b old new P Q to h = absurd h

  -- an end within one thing is one within another
  pub lives_front : (S : List Told → Type 0) (how : Served) (a b : K) (old new : Host D g)
      (P Q : List LiveStep → List Told → Type 0) →
      ((steps : List LiveStep) (told : List Told) → P steps told → FrontOf Q steps told) →
      LivesOn written puts S P (Err how) a b old new → LivesOn written puts S Q (Err how) a b old new
  lives_front S served.Unwritten a b old new P Q to h = (
    h.0,
    part_weaker written puts S a b (Err h.0) (setup_of old) (StandsSince old) (StandsSince new) (FrontOf P) (FrontOf Q)
        (front_front P Q to) h.1,
  )
  lives_front S served.Disk a b old new P Q to h =
      part_weaker written puts S a b (Ok tt) (setup_of old) (StandsSince old) (FailedSince new) (FrontOf P) (FrontOf Q)
      (front_front P Q to) h
  lives_front S served.Done a b old new P Q to h = absurd h
  lives_front S (served.Refused number kind) a b old new P Q to h = absurd h
  lives_front S served.Unread a b old new P Q to h = absurd h
  lives_front S (served.OtherSize len) a b old new P Q to h = absurd h
  lives_front S served.Alien a b old new P Q to h = absurd h
  lives_front S (served.BadRecord index) a b old new P Q to h = absurd h

  -- the same life is so linked, too
  pub lives_linked : (S T : List Told → Type 0) → ((told : List Told) → S told → T told) →
      (result : Result (Unit {0}) Served) (a b : K) (old new : Host D g) (P : List LiveStep → List Told → Type 0) →
      LivesOn written puts S P result a b old new → LivesOn written puts T P result a b old new
  lives_linked S T links (Ok done) a b old new P h =
      part_linked written puts S T links a b (Ok tt) (setup_of old) (StandsSince old) (StandsSince new) P h
  lives_linked S T links (Err served.Unwritten) a b old new P h = (
    h.0,
    part_linked written puts S T links a b (Err h.0) (setup_of old) (StandsSince old) (StandsSince new) (FrontOf P) h.1,
  )
  lives_linked S T links (Err served.Disk) a b old new P h =
      part_linked written puts S T links a b (Ok tt) (setup_of old) (StandsSince old) (FailedSince new) (FrontOf P) h
  lives_linked S T links (Err served.Done) a b old new P h = absurd h
  lives_linked S T links (Err (served.Refused number kind)) a b old new P h = absurd h
  lives_linked S T links (Err served.Unread) a b old new P h = absurd h
  lives_linked S T links (Err (served.OtherSize len)) a b old new P h = absurd h
  lives_linked S T links (Err served.Alien) a b old new P h = absurd h
  lives_linked S T links (Err (served.BadRecord index)) a b old new P h = absurd h

  -- one part, and then more
  pub lives_then : (S T U : List Told → Type 0) → ((t1 t2 : List Told) → S t1 → T t2 → U (t1 ++ t2)) →
      (result : Result (Unit {0}) Served) (a b c : K) (first between last : Host D g)
      (P Q R : List LiveStep → List Told → Type 0) →
      ((s1 s2 : List LiveStep) (t1 t2 : List Told) → P s1 t1 → Q s2 t2 → R (s1 ++ s2) (t1 ++ t2)) →
      setup_of between ≡ setup_of first →
      Part written puts g a b (Ok tt) (setup_of first) (StandsSince first) (StandsSince between) S P →
      LivesOn written puts T Q result b c between last → LivesOn written puts U R result a c first last
  lives_then S T U links (Ok done) a b c first between last P Q R to same h k =
      part_then written puts S T U links a b c (Ok tt) (setup_of first) (StandsSince first) (StandsSince between) (StandsSince last) P Q R to h
      (subst (λ setup. Part written puts g b c (Ok tt) setup (StandsSince between) (StandsSince last) T Q) same k)
  lives_then S T U links (Err served.Unwritten) a b c first between last P Q R to same h k = (
    k.0,
    part_then written puts S T U links a b c (Err k.0) (setup_of first) (StandsSince first) (StandsSince between) (StandsSince last) P
        (FrontOf Q) (FrontOf R) (front_then P Q R to) h
        (subst (λ setup. Part written puts g b c (Err k.0) setup (StandsSince between) (StandsSince last) T (FrontOf Q)) same k.1),
  )
  lives_then S T U links (Err served.Disk) a b c first between last P Q R to same h k =
      part_then written puts S T U links a b c (Ok tt) (setup_of first) (StandsSince first) (StandsSince between) (FailedSince last) P
      (FrontOf Q) (FrontOf R) (front_then P Q R to) h
      (subst (λ setup. Part written puts g b c (Ok tt) setup (StandsSince between) (FailedSince last) T (FrontOf Q)) same k)
  lives_then S T U links (Err served.Done) a b c first between last P Q R to same h k = absurd k
  lives_then S T U links (Err (served.Refused number kind)) a b c first between last P Q R to same h k = absurd k
  lives_then S T U links (Err served.Unread) a b c first between last P Q R to same h k = absurd k
  lives_then S T U links (Err (served.OtherSize len)) a b c first between last P Q R to same h k = absurd k
  lives_then S T U links (Err served.Alien) a b c first between last P Q R to same h k = absurd k
  lives_then S T U links (Err (served.BadRecord index)) a b c first between last P Q R to same h k = absurd k

  -- a life to an end is one by the answer of that
  pub lives_to : (S T U : List Told → Type 0) → ((t1 t2 : List Told) → S t1 → T t2 → U (t1 ++ t2)) → (how : Served)
      (a b c : K) (first between last : Host D g) (P Q R : List LiveStep → List Told → Type 0) →
      ((s1 s2 : List LiveStep) (t1 t2 : List Told) → P s1 t1 → Q s2 t2 → R (s1 ++ s2) (t1 ++ t2)) →
      setup_of between ≡ setup_of first →
      Part written puts g a b (Ok tt) (setup_of first) (StandsSince first) (StandsSince between) S P →
      LivesTo written puts T Q how b c between last → LivesTo written puts U R how a c first last
  lives_to S T U links served.Done = lives_then S T U links (Ok tt)
  lives_to S T U links (served.Refused number kind) = lives_then S T U links (Ok tt)
  lives_to S T U links served.Unread = lives_then S T U links (Ok tt)
  lives_to S T U links served.Unwritten = lives_then S T U links (Err served.Unwritten)
  lives_to S T U links served.Disk = lives_then S T U links (Err served.Disk)
  lives_to S T U links (served.OtherSize len) = lives_then S T U links (Err (served.OtherSize len))
  lives_to S T U links served.Alien = lives_then S T U links (Err served.Alien)
  lives_to S T U links (served.BadRecord index) = lives_then S T U links (Err (served.BadRecord index))

  -- the same life to an end is also this
  pub lives_to_weaker : (S : List Told → Type 0) (how : Served) (a b : K) (old new : Host D g)
      (P Q : List LiveStep → List Told → Type 0) → ((steps : List LiveStep) (told : List Told) → P steps told → Q steps told) →
      LivesTo written puts S P how a b old new → LivesTo written puts S Q how a b old new
  lives_to_weaker S served.Done = lives_weaker S (Ok tt)
  lives_to_weaker S (served.Refused number kind) = lives_weaker S (Ok tt)
  lives_to_weaker S served.Unread = lives_weaker S (Ok tt)
  lives_to_weaker S served.Unwritten = lives_weaker S (Err served.Unwritten)
  lives_to_weaker S served.Disk = lives_weaker S (Err served.Disk)
  lives_to_weaker S (served.OtherSize len) = lives_weaker S (Err (served.OtherSize len))
  lives_to_weaker S served.Alien = lives_weaker S (Err served.Alien)
  lives_to_weaker S (served.BadRecord index) = lives_weaker S (Err (served.BadRecord index))

  -- an end that a step brings
  pub ends_to : (S : List Told → Type 0) (how : Served) (P : List LiveStep → List Told → Type 0) (a b : K) (old new : Host D g) →
      LivesOn written puts S P (Err how) a b old new → LivesTo written puts S P how a b old new
  ends_to S served.Unwritten P a b old new h = h
  ends_to S served.Disk P a b old new h = h
  ends_to S served.Done P a b old new h = absurd h
  ends_to S (served.Refused number kind) P a b old new h = absurd h
  ends_to S served.Unread P a b old new h = absurd h
  ends_to S (served.OtherSize len) P a b old new h = absurd h
  ends_to S served.Alien P a b old new h = absurd h
  ends_to S (served.BadRecord index) P a b old new h = absurd h

  -- no end that the input brings
  pub breaks : (S : List Told → Type 0) (how : Served) (P : List LiveStep → List Told → Type 0) (a b : K) (old new : Host D g) →
      LivesOn written puts S P (Err how) a b old new → IsOfInput how → ⊥
  breaks S served.Done P a b old new h is = h
  breaks S (served.Refused number kind) P a b old new h is = h
  breaks S served.Unread P a b old new h is = h
  breaks S served.Unwritten P a b old new h is = is
  breaks S served.Disk P a b old new h is = is
  breaks S (served.OtherSize len) P a b old new h is = is
  breaks S served.Alien P a b old new h is = is
  breaks S (served.BadRecord index) P a b old new h is = is

  -- an end that the input brings
  pub stops_to : (S : List Told → Type 0) (how : Served) (P : List LiveStep → List Told → Type 0) (a b : K) (old new : Host D g) → IsOfInput how →
      LivesOn written puts S P (Ok tt) a b old new → LivesTo written puts S P how a b old new
  stops_to S served.Done P a b old new is h = h
  stops_to S (served.Refused number kind) P a b old new is h = h
  stops_to S served.Unread P a b old new is h = h
  stops_to S served.Unwritten P a b old new is h = absurd is
  stops_to S served.Disk P a b old new is h = absurd is
  stops_to S (served.OtherSize len) P a b old new is h = absurd is
  stops_to S served.Alien P a b old new is h = absurd is
  stops_to S (served.BadRecord index) P a b old new is h = absurd is

-- no error
pub no_error : (done : Unit {0}) → IsErr {T = Unit {0}} {E = Failed} (Ok done) → ⊥
no_error done e = cc e

-- what is known by how lines were written
whole_written : (answer : Result (Unit {0}) Failed) (P : Type 0) → P → OnOk (by_writing answer) P
whole_written (Ok done) P is = is
whole_written (Err failed) P is = tt

unwritten : (answer : Result (Unit {0}) Failed) → EndsBy IsUnwritten (by_writing answer) → IsErr answer
unwritten (Ok done) ends = absurd ends
unwritten (Err failed) ends = refl

no_disk_fault : (answer : Result (Unit {0}) Failed) → EndsBy IsDiskFault (by_writing answer) → ⊥
no_disk_fault (Ok done) ends = ends
no_disk_fault (Err failed) ends = ends

-- of a sink with a count of faults
module _ {K : Type 0} (written : K → Option (List ℕ)) (puts : K → List ℕ → Result (Unit {0}) Failed → K → Type 0)
    (faults : K → ℕ) {D : Type 0} {g : Ghosts D} where
  pub acts_weaker : {S : List Told → Type 0} (result : Result (Unit {0}) Served) (a b : K) (old new : Host D g)
      (P Q : List LiveStep → List Told → Type 0) → ((steps : List LiveStep) (told : List Told) → P steps told → Q steps told) →
      Acts written puts faults S P result a b old new → Acts written puts faults S Q result a b old new
  acts_weaker {S} result a b old new P Q to h = record {
    whole = h.whole;
    setup = h.setup;
    lives = lives_weaker written puts S result a b old new P Q to h.lives;
    sink = h.sink;
    disk = h.disk;
  }

  pub acts_front : {S : List Told → Type 0} (how : Served) (a b : K) (old new : Host D g)
      (P Q : List LiveStep → List Told → Type 0) →
      ((steps : List LiveStep) (told : List Told) → P steps told → FrontOf Q steps told) →
      Acts written puts faults S P (Err how) a b old new → Acts written puts faults S Q (Err how) a b old new
  acts_front {S} how a b old new P Q to h = record {
    whole = h.whole;
    setup = h.setup;
    lives = lives_front written puts S how a b old new P Q to h.lives;
    sink = h.sink;
    disk = h.disk;
  }

  -- it is so linked, too
  pub acts_linked : (S T : List Told → Type 0) → ((told : List Told) → S told → T told) →
      (result : Result (Unit {0}) Served) (a b : K) (old new : Host D g) (P : List LiveStep → List Told → Type 0) →
      Acts written puts faults S P result a b old new → Acts written puts faults T P result a b old new
  acts_linked S T links result a b old new P h = record {
    whole = h.whole;
    setup = h.setup;
    lives = lives_linked written puts S T links result a b old new P h.lives;
    sink = h.sink;
    disk = h.disk;
  }

  pub acts_then : (S T U : List Told → Type 0) → ((t1 t2 : List Told) → S t1 → T t2 → U (t1 ++ t2)) →
      (result : Result (Unit {0}) Served) (a b c : K) (first between last : Host D g)
      (P Q R : List LiveStep → List Told → Type 0) →
      ((s1 s2 : List LiveStep) (t1 t2 : List Told) → P s1 t1 → Q s2 t2 → R (s1 ++ s2) (t1 ++ t2)) →
      Acts written puts faults S P (Ok tt) a b first between → Acts written puts faults T Q result b c between last →
      Acts written puts faults U R result a c first last
  acts_then S T U links result a b c first between last P Q R to h k = record {
    whole = k.whole;
    setup = k.setup ∙ h.setup;
    lives = lives_then written puts S T U links result a b c first between last P Q R to h.setup h.lives k.lives;
    sink = serves_then written faults a b c ⊥ (EndsBy IsUnwritten result) h.sink k.sink
        (EndsBy IsUnwritten result) (λ fails. inr fails);
    disk = disk_then g.size g.honest g.seen g.cuts g.faults (disk_of first) (disk_of between) (disk_of last)
        ⊥ (EndsBy IsDiskFault result) h.disk k.disk (EndsBy IsDiskFault result)
        (λ fails. inr fails);
  }

  -- nothing is done and reported
  pub acts_none : (S : List Told → Type 0) → S [] → (a : K) (host : Host D g) (P : List LiveStep → List Told → Type 0) →
      has_failed host ≡ false → P [] [] → Acts written puts faults S P (Ok tt) a a host host
  acts_none S linked a host P whole is = record {
    whole = whole;
    setup = refl;
    lives = record {
      steps = [];
      told = [];
      wrote = told_none written puts a;
      goes = goes_none g (setup_of host) (StandsSince host) (StandsSince host) [] refl (λ given found past is. is)
          (λ given found past is. tt);
      does = is;
      linked = linked;
    };
    sink = serves_none written faults a ⊥ (λ fails. fails);
    disk = disk_none g.size g.honest g.seen g.cuts g.faults (disk_of host) ⊥ (λ fails. fails);
  }

  lives_written : (S : List Told → Type 0) (answer : Result (Unit {0}) Failed) (a b : K) (old new : Host D g)
      (P : List LiveStep → List Told → Type 0) →
      Part written puts g a b answer (setup_of old) (StandsSince old) (StandsSince new) S P →
      LivesOn written puts S P (by_writing answer) a b old new
  lives_written S (Ok done) a b old new P h = h
  lives_written S (Err failed) a b old new P h = (
    failed,
    part_weaker written puts S a b (Err failed) (setup_of old) (StandsSince old) (StandsSince new) P (FrontOf P)
        (front_whole P) h,
  )

  -- a part of a life, by how it was written
  acts_written : (S : List Told → Type 0) (answer : Result (Unit {0}) Failed) (a b : K) (old new : Host D g)
      (P : List LiveStep → List Told → Type 0) →
      Part written puts g a b answer (setup_of old) (StandsSince old) (StandsSince new) S P → has_failed new ≡ false →
      setup_of new ≡ setup_of old → Serves written faults a b (IsErr answer) →
      DiskServes g.size g.honest g.seen g.cuts g.faults (disk_of old) (disk_of new) ⊥ →
      Acts written puts faults S P (by_writing answer) a b old new
  acts_written S answer a b old new P part whole same sink disk = record {
    whole = whole_written answer (has_failed new ≡ false) whole;
    setup = same;
    lives = lives_written S answer a b old new P part;
    sink = serves_weaker written faults a b (IsErr answer) (EndsBy IsUnwritten (by_writing answer)) (unwritten answer) sink;
    disk = disk_weaker g.size g.honest g.seen g.cuts g.faults (disk_of old) (disk_of new) ⊥
        (EndsBy IsDiskFault (by_writing answer)) (no_disk_fault answer) disk;
  }

  -- lines that report no entry
  pub acts_told : (S : List Told → Type 0) (answer : Result (Unit {0}) Failed) (a b : K) (host : Host D g)
      (told : List Told) → S told → (P : List LiveStep → List Told → Type 0) → news_of told ≡ [] →
      ((past : List Entry) → Keeps host past → AreSo (setup_of host) past told) →
      WritesTold written puts a told answer b → has_failed host ≡ false → Serves written faults a b (IsErr answer) →
      P [] told → Acts written puts faults S P (by_writing answer) a b host host
  acts_told S answer a b host told linked P none so wrote whole sink is =
      acts_written S answer a b host host P
      (record {
        steps = [];
        told = told;
        wrote = wrote;
        goes = goes_none g (setup_of host) (StandsSince host) (StandsSince host) told none (λ given found past is. is)
            (λ given found past since. so past since.stands.keeps);
        does = is;
        linked = linked;
      })
      whole refl sink
      (disk_none g.size g.honest g.seen g.cuts g.faults (disk_of host) ⊥ (λ fails. fails))

  -- notices, and others that are left where one couldn't be written
  pub acts_notices : (S : List Told → Type 0) (answer : Result (Unit {0}) Failed) (a b : K) (host : Host D g)
      (notices others : List Notice) → S (notices_told notices) → (P : List LiveStep → List Told → Type 0) →
      ((past : List Entry) → Keeps host past → AreSo (setup_of host) past (notices_told notices)) →
      WritesTold written puts a (notices_told notices) answer b → has_failed host ≡ false →
      Serves written faults a b (IsErr answer) → OnOk answer (others ≡ []) → P [] (notices_told (notices ++ others)) →
      Acts written puts faults S P (by_writing answer) a b host host
  acts_notices S (Ok done) a b host notices others linked P so wrote whole sink none is =
      acts_told S (Ok done) a b host (notices_told notices) linked P (news_notices notices) so wrote whole sink
      (subst (λ all. P [] (notices_told all)) (ap (λ more. notices ++ more) none ∙ append-nil notices) is)
  acts_notices S (Err failed) a b host notices others linked P so wrote whole sink left is =
      acts_front served.Unwritten a b host host (FrontOf P) P (λ steps told h. h)
      (acts_told S (Err failed) a b host (notices_told notices) linked (FrontOf P) (news_notices notices) so wrote whole sink
      (record {
        undone = [];
        untold = notices_told others;
        whole = subst (P []) (map-append (λ n. notice n) notices others) is;
      }))

  -- what the journal knows
  pub acts_known : (S : List Told → Type 0) (Missed : Type 0) (answer : Result (Unit {0}) Failed) (a b : K) (host : Host D g) →
      ((lines : List (List ℕ)) → S (knows_each lines lines)) → S (notice notice_of.StateUnread ∷ []) →
      TellsKnown written puts host Missed a answer b → has_failed host ≡ false → Serves written faults a b (IsErr answer) →
      Acts written puts faults S (IsStating (MissedFrom host Missed)) (by_writing answer) a b host host
  acts_known S Missed answer a b host linked unread (inl known) whole sink =
      let lines = known.0 in
      acts_written S answer a b host host (IsStating (MissedFrom host Missed))
      (record {
        steps = [];
        told = knows_each lines lines;
        wrote = known.2;
        goes = known_goes host lines known.1;
        does = (refl, inl (lines, refl));
        linked = linked lines;
      })
      whole refl sink
      (disk_none g.size g.honest g.seen g.cuts g.faults (disk_of host) ⊥ (λ fails. fails))
  acts_known S Missed answer a b host linked unread (inr none) whole sink =
      acts_told S answer a b host (notice notice_of.StateUnread ∷ []) unread (IsStating (MissedFrom host Missed)) refl
      (λ past keeps. (tt, tt)) none.0 whole sink (refl, inr (refl, missed_from host Missed none.1))

  -- what is known of an order
  pub acts_order : (S : List Told → Type 0) (Missed : Type 0) (answer : Result (Unit {0}) Failed) (a b : K) (host : Host D g)
      (id : ℕ) (known : OrderTold) → S (notice (notice_of.Order id known) ∷ []) →
      ((past : List Entry) → Keeps host past → IsJust (open_in (setup_of host) past id) known) →
      IsOrderOf host id Missed known → WritesTold written puts a (notice (notice_of.Order id known) ∷ []) answer b →
      has_failed host ≡ false → Serves written faults a b (IsErr answer) →
      Acts written puts faults S (IsOrder (MissedFrom host Missed) id) (by_writing answer) a b host host
  acts_order S Missed answer a b host id known linked just is wrote whole sink =
      acts_written S answer a b host host (IsOrder (MissedFrom host Missed) id)
      (record {
        steps = [];
        told = notice (notice_of.Order id known) ∷ [];
        wrote = wrote;
        goes = order_goes host id known Missed just is;
        does = (refl, (known, refl, order_missed host id known Missed is));
        linked = linked;
      })
      whole refl sink
      (disk_none g.size g.honest g.seen g.cuts g.faults (disk_of host) ⊥ (λ fails. fails))

  -- one line that shows no entry
  pub acts_line : (S : List Told → Type 0) (answer : Result (Unit {0}) Failed) (a b : K) (host : Host D g) (what : Told) →
      S (what ∷ []) → news_of (what ∷ []) ≡ [] → ((past : List Entry) → AreSo (setup_of host) past (what ∷ [])) →
      PutsLine written puts a (told_line what) answer b → has_failed host ≡ false → Serves written faults a b (IsErr answer) →
      Acts written puts faults S (Tells what) (by_writing answer) a b host host
  acts_line S answer a b host what linked none so line whole sink =
      acts_told S answer a b host (what ∷ []) linked (Tells what) none (λ past keeps. so past) (told_one written puts a b what answer line) whole sink
      (refl, refl)

  -- a step, and its entries
  pub acts_step : (S : List Told → Type 0) (answer : Result (Unit {0}) Failed) (a b : K) (old new : Host D g)
      (s : LiveStep) (told : List Told) → S told → (P : List LiveStep → List Told → Type 0) →
      WritesTold written puts a told answer b →
      LifeGoes g (setup_of old) (StandsSince old) (s ∷ []) told (StandsSince new) → P (s ∷ []) told → has_failed new ≡ false →
      setup_of new ≡ setup_of old → Serves written faults a b (IsErr answer) →
      DiskServes g.size g.honest g.seen g.cuts g.faults (disk_of old) (disk_of new) ⊥ →
      Acts written puts faults S P (by_writing answer) a b old new
  acts_step S answer a b old new s told linked P wrote goes is whole same sink disk =
      acts_written S answer a b old new P
      (record { steps = s ∷ []; told = told; wrote = wrote; goes = goes; does = is; linked = linked }) whole same sink disk

  -- a put that failed
  pub acts_broke : (S : List Told → Type 0) → S [] → (a : K) (before after : Host D g) (addr : ℕ)
      (P : List LiveStep → List Told → Type 0) →
      setup_of after ≡ setup_of before → Fails before after addr → FailsBetween before after addr →
      DiskServes g.size g.honest g.seen g.cuts g.faults (disk_of before) (disk_of after) ⊤ → FrontOf P [] [] →
      Acts written puts faults S P (Err served.Disk) a a before after
  acts_broke S linked a before after addr P same fails between disk is = record {
    whole = tt;
    setup = same;
    lives = record {
      steps = [];
      told = [];
      wrote = told_none written puts a;
      goes = goes_none g (setup_of before) (StandsSince before) (FailedSince after) [] refl
          (put_failed before after addr same fails between disk.goes_on) (λ given found past is. tt);
      does = is;
      linked = linked;
    };
    sink = serves_none written faults a ⊥ (λ fails. fails);
    disk = disk;
  }
