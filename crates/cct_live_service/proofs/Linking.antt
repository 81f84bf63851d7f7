-- What goes over a link, one part of a service after another.
use Rattle.std.proofs.Common.{◌≡◌, ◌&&◌, ℕ, List, [], ◌∷◌, ◌++◌, reverse, Bool, true, false, Option, Some, None, Result, Ok, Err, refl, sym, ap, ◌∙◌, subst, append_assoc}
use Rattle.cct_edge.specs.declared.fault.Failed.{Failed}
use Rattle.cct_model.specs.lines.command.Command.{Command}
use Rattle.cct_model.specs.lines.command.CommandNo.{CommandNo}
use Rattle.cct_model.specs.lines.entry.End.{End}
use Rattle.cct_model.specs.lines.entry.Entry.{Entry}
use Rattle.cct_model.specs.lines.entry.Entry.TheVariants as entry_of
use Rattle.cct_model.specs.terms.device.DeviceSetup.{DeviceSetup}
use Rattle.cct_model.specs.terms.device.Setup.{Setup}
use Rattle.cct_disk.specs.declared.disk.Disk.{Ghosts}
use Rattle.cct_host.specs.Attempt.{Attempt, Links, asked, idle, put}
use Rattle.cct_host.specs.Attempt as attempt
use Rattle.cct_host.specs.declared.host.Host.{Host}
use Rattle.cct_host.specs.Host.{has_failed, setup_of}
use Rattle.cct_laws_live.specs.LiveStep.{LiveStep}
use Rattle.cct_live_survey.specs.declared.finding.Finding.{Finding}
use Rattle.cct_live_survey.specs.declared.roll.Answered.{Answered}
use Rattle.cct_live_survey.specs.declared.withholding.Withheld.{Withheld}
use Rattle.cct_live_survey.specs.Roll.{AsksRoll, Rolled}
use Rattle.cct_live_service.specs.declared.notice.Notice.{Notice}
use Rattle.cct_live_service.specs.declared.notice.Notice.TheVariants as notice_of
use Rattle.cct_live_service.specs.declared.page.Page.{Page}
use Rattle.cct_live_service.specs.declared.served.Served.{Served}
use Rattle.cct_live_service.specs.declared.served.Served.TheVariants as served
use Rattle.cct_live_service.specs.declared.watch.Watch.{Watch}
use Rattle.cct_model.specs.Change.{Desk}
use Rattle.cct_live_service.specs.Asked.{AsksAt, IsNobody, asked_before, is_nobody, most_asked}
use Rattle.cct_live_service.specs.AtDesk.{Both, FollowsDesk, FollowsTo, IsApart}
use Rattle.cct_live_service.specs.Doing.{Finds, IsAsking}
use Rattle.cct_live_service.specs.Linked.{AreQuiet, AreStanding, Exchanges, ExchangesSince, IsDecision, UsesLink, Watched, are_quiet, asks, decides, decides_at, due_next, goes_on, has_counted, is_quiet, tells, watch_next, watched}
use Rattle.cct_live_service.specs.Parts.{Acts, LivesOn, LivesTo}
use Rattle.cct_live_service.specs.Said.{IsOfInput}
use Rattle.cct_live_service.specs.Found.{Begun, found_there, made_new}
use Rattle.cct_live_service.specs.Opening.{opening_of}
use Rattle.cct_live_service.specs.Told.{Told, as_told, attempt_told, entry, found_told, notice, notices_told, pays, unsent}
use Rattle.cct_live_service.specs.Watch.{due_after, due_of, ended_at, notices_in, watch_after, watch_of}
use Rattle.cct_live_service.proofs.Desks.{apart_follows, follows_then, follows_to}
use Rattle.cct_live_service.proofs.Parts.{acts_linked, acts_none, acts_then, lives_linked, stops_to}

-- quiet lines, and then more
all_quiet : (b c : Bool) → b ≡ true → c ≡ true → (b && c) ≡ true
all_quiet true c h k = k
all_quiet false c h k = cc h

pub quiet_then : (t1 t2 : List Told) → AreQuiet t1 → AreQuiet t2 → AreQuiet (t1 ++ t2)
quiet_then [] t2 h k = k
quiet_then (what ∷ t1) t2 h k =
    let parts = quiet_parts (is_quiet what) (are_quiet t1) h in
    all_quiet (is_quiet what) (are_quiet (t1 ++ t2)) parts.0 (quiet_then t1 t2 parts.1 k)
  where
    quiet_parts : (b c : Bool) → (b && c) ≡ true → (b ≡ true) × (c ≡ true)
    quiet_parts true c h = (refl, h)
    quiet_parts false c h = cc h

-- about nobody, and then quiet lines
nobody : (whom : Option ℕ) (b : Bool) → (is_nobody whom && b) ≡ true → IsNobody whom × (b ≡ true)
nobody None b h = (tt, h)
nobody (Some addr) b h = cc h

-- a decision alone
decision_alone : (what : Told) (whom : Option ℕ) → decides_at what ≡ whom → is_quiet what ≡ is_nobody whom →
    IsDecision whom (what ∷ [])
decision_alone what None at quiet = all_quiet (is_quiet what) true quiet refl
decision_alone what (Some addr) at quiet = (what, [], refl, at, refl)

pub taken_decides : (c : Command) → IsDecision (asked_before c) (entry (entry_of.Taken c) ∷ [])
taken_decides c = decision_alone (entry (entry_of.Taken c)) (asked_before c) refl refl

pub refused_decides : (c : Command) (why : CommandNo) → IsDecision (asked_before c) (entry (entry_of.No c why) ∷ [])
refused_decides c why = decision_alone (entry (entry_of.No c why)) (asked_before c) refl refl

pub withheld_decides : (c : Command) (why : Withheld) →
    IsDecision (asked_before c) (notice (notice_of.Withheld c why) ∷ [])
withheld_decides c why = decision_alone (notice (notice_of.Withheld c why)) (asked_before c) refl refl

-- what devices said of themselves, and then quiet lines
quiet_found : (found : List Finding) (told : List Told) → AreQuiet told → AreQuiet (found_told found ++ told)
quiet_found [] told h = h
quiet_found (f ∷ found) told h = quiet_found found told h

-- what is reported first is quiet
pub opening_quiet : (setup : Setup) (begun : Begun) → AreQuiet (notice (opening_of setup begun) ∷ [])
opening_quiet setup made_new = refl
opening_quiet setup (found_there base c rest) = refl

-- of a link with devices on it
module _ {L : Type 0} (gives : L → List ℕ → List ℕ → L → Type 0) (sent : L → Bool) (failures : L → ℕ)
    (devices : List DeviceSetup) where
  -- nothing goes over a link
  since_quiet : (line : Watched L) (told : List Told) → AreQuiet told →
      Exchanges gives sent failures devices line line told
  since_quiet line [] h = (refl, refl)
  since_quiet line (entry (entry_of.Wire addr message heard) ∷ told) h = cc h
  since_quiet line (entry (entry_of.Ended addr end) ∷ told) h = cc h
  since_quiet line (unsent addr message ∷ told) h = cc h
  since_quiet line (notice notice_of.LineFault ∷ told) h = cc h
  since_quiet line (notice notice_of.LineBack ∷ told) h = cc h
  since_quiet line (notice (notice_of.Held addr place) ∷ told) h = cc h
  since_quiet line (notice (notice_of.Device addr job epoch order) ∷ told) h = cc h
  since_quiet line (entry (entry_of.Taken c) ∷ told) h =
      let parts = nobody (asked_before c) (are_quiet told) h in (parts.0, since_quiet line told parts.1)
  since_quiet line (entry (entry_of.No c why) ∷ told) h =
      let parts = nobody (asked_before c) (are_quiet told) h in (parts.0, since_quiet line told parts.1)
  since_quiet line (notice (notice_of.Withheld c why) ∷ told) h =
      let parts = nobody (asked_before c) (are_quiet told) h in (parts.0, since_quiet line told parts.1)
  since_quiet line (pays p answer ∷ told) h = cc h
  since_quiet line (what ∷ told) h = (tt, since_quiet line told h)

  -- nor where devices are reported as they stand
  since_standing : (line : Watched L) (due : List Notice) (told : List Told) → AreStanding line.watch due told →
      ExchangesSince gives sent failures devices due line line told
  since_standing line due [] h = (h, refl)
  since_standing line due (notice n ∷ told) h =
      (h.0, since_standing line (due_next line.watch due (notice n)) told h.1)
  since_standing line due (what ∷ told) h = absurd h

  -- exchanges, and then more
  since_then : (due : List Notice) (old line new : Watched L) (t1 t2 : List Told) →
      ExchangesSince gives sent failures devices due old line t1 → Exchanges gives sent failures devices line new t2 →
      ExchangesSince gives sent failures devices due old new (t1 ++ t2)
  since_then due old line new [] t2 h k =
      subst (λ d. ExchangesSince gives sent failures devices d old new t2) (sym h.0)
      (subst (λ l. Exchanges gives sent failures devices l new t2) h.1 k)
  since_then due old line new (entry (entry_of.Wire addr message heard) ∷ t1) t2 h k = (
    h.0,
    h.1,
    h.2,
    h.3,
    since_then (notices_in (due_of devices old.watch (has_counted failures old.link h.1) addr message heard))
        (record { link = h.1; watch = watch_of devices old.watch (has_counted failures old.link h.1) addr message heard })
        line new t1 t2 h.4 k,
  )
  since_then due old line new (unsent addr message ∷ t1) t2 h k = (
    h.0,
    h.1,
    h.2,
    h.3,
    since_then (notices_in (due_of devices old.watch (has_counted failures old.link h.1) addr message []))
        (record { link = h.1; watch = watch_of devices old.watch (has_counted failures old.link h.1) addr message [] })
        line new t1 t2 h.4 k,
  )
  since_then due old line new (what ∷ t1) t2 h k = (
    h.0,
    since_then (due_next old.watch due what) (record { link = old.link; watch = watch_next old.watch what }) line new t1 t2
        h.1 k,
  )

  -- the notices that come next
  due_told : (due : List Notice) (line : Watched L) →
      ExchangesSince gives sent failures devices due line line (notices_told due)
  due_told [] line = (refl, refl)
  due_told (n ∷ due) line = (refl, due_told due line)

  -- after the end of a job
  ended_told : (due : List Notice) (line : L) (w : Watch) (addr : ℕ) (end : End) →
      ExchangesSince gives sent failures devices due (record { link = line; watch = w })
      (record { link = line; watch = ended_at w addr end }) (entry (entry_of.Ended addr end) ∷ notices_told due)
  ended_told [] line w addr end = (tt, due_told [] (record { link = line; watch = ended_at w addr end }))
  ended_told (n ∷ due) line w addr end = (tt, due_told (n ∷ due) (record { link = line; watch = ended_at w addr end }))

  -- the same link, with what is remembered of it
  abbrev at_link : Watch → L → Watched L
  at_link w line = record { link = line; watch = w }

  linked_as : (w : Watch) {a b : L} → a ≡ b → at_link w a ≡ at_link w b
  linked_as w same = ap (at_link w) same

  -- the entries of an attempt, and notices after them
  module _ (nothing : (old : L) (message heard : List ℕ) (new : L) → gives old message heard new → sent new ≡ false
      → heard ≡ []) where
    -- an exchange, as it is reported
    exchange_told : (is_sent : Bool) (old : Watched L) (line : L) (new : Watched L) (addr : ℕ) (message heard : List ℕ)
        (more : List Entry) (told : List Told) → is_sent ≡ sent line → gives old.link message heard line →
        ExchangesSince gives sent failures devices
        (notices_in (due_of devices old.watch (has_counted failures old.link line) addr message heard))
        (record { link = line; watch = watch_of devices old.watch (has_counted failures old.link line) addr message heard }) new
        (as_told more ++ told) →
        Exchanges gives sent failures devices old new (attempt_told is_sent (entry_of.Wire addr message heard ∷ more) ++ told)
    exchange_told true old line new addr message heard more told is given k = (refl, line, given, sym is, k)
    exchange_told false old line new addr message [] more told is given k = (refl, line, given, sym is, k)
    exchange_told false old line new addr message (byte ∷ heard) more told is given k =
        cc (nothing old.link message (byte ∷ heard) line given (sym is))

    attempt_goes : (old new : L) (w : Watch) (addr : ℕ) (what : Attempt) (is_sent : Bool) → Links gives old new what →
        is_sent ≡ sent new →
        Exchanges gives sent failures devices (record { link = old; watch = w })
        (record {
          link = new;
          watch = watch_after devices w (has_counted failures old new) (reverse (attempt.news_of addr what));
        })
        (attempt_told is_sent (reverse (attempt.news_of addr what))
        ++ notices_told (notices_in (due_after devices w (has_counted failures old new) (reverse (attempt.news_of addr what)))))
    attempt_goes old new w addr idle true links is = (tt, (refl, linked_as w links))
    attempt_goes old new w addr idle false links is = (tt, (refl, linked_as w links))
    attempt_goes old new w addr (asked message heard None) is_sent links is =
        let failed = has_counted failures old new in
        let line : Watched L = record { link = new; watch = watch_of devices w failed addr message heard } in
        let due = notices_in (due_of devices w failed addr message heard) in
        exchange_told is_sent (record { link = old; watch = w }) new line addr message heard [] (notices_told due) is links
        (due_told due line)
    attempt_goes old new w addr (asked message heard (Some end)) is_sent links is =
        let failed = has_counted failures old new in
        let between = watch_of devices w failed addr message heard in
        let due = notices_in (due_of devices w failed addr message heard) in
        exchange_told is_sent (record { link = old; watch = w }) new (record { link = new; watch = ended_at between addr end })
        addr message heard (entry_of.Ended addr end ∷ []) (notices_told due) is links (ended_told due new between addr end)
    attempt_goes old new w addr (put r None) true links is = (tt, (refl, linked_as w links))
    attempt_goes old new w addr (put r None) false links is = (tt, (refl, linked_as w links))
    attempt_goes old new w addr (put r (Some end)) true links is =
        (tt, (tt, (refl, linked_as (ended_at w addr end) links)))
    attempt_goes old new w addr (put r (Some end)) false links is =
        (tt, (tt, (refl, linked_as (ended_at w addr end) links)))

    -- an attempt goes over its link as it is reported
    pub attempt_linked : (old new : L) (w : Watch) (addr : ℕ) (what : Attempt) (reported : List Entry)
        (is_sent failed : Bool) → Links gives old new what → reported ≡ reverse (attempt.news_of addr what) →
        is_sent ≡ sent new → failed ≡ has_counted failures old new →
        Exchanges gives sent failures devices (record { link = old; watch = w })
        (record { link = new; watch = watch_after devices w failed reported })
        (attempt_told is_sent reported ++ notices_told (notices_in (due_after devices w failed reported)))
    attempt_linked old new w addr what reported is_sent failed links entries is counted =
        subst (λ es. Exchanges gives sent failures devices (record { link = old; watch = w })
        (record { link = new; watch = watch_after devices w failed es })
        (attempt_told is_sent es ++ notices_told (notices_in (due_after devices w failed es)))) (sym entries)
        (subst (λ b. Exchanges gives sent failures devices (record { link = old; watch = w })
        (record { link = new; watch = watch_after devices w b (reverse (attempt.news_of addr what)) })
        (attempt_told is_sent (reverse (attempt.news_of addr what))
        ++ notices_told (notices_in (due_after devices w b (reverse (attempt.news_of addr what)))))) (sym counted)
        (attempt_goes old new w addr what is_sent links is))

  pub exchanges_quiet : (line : L) (before after : Page) → after.watch ≡ before.watch → (told : List Told) →
      AreQuiet told → Exchanges gives sent failures devices (watched line before) (watched line after) told
  exchanges_quiet line before after same told h =
      subst (λ w. Exchanges gives sent failures devices (watched line before) (record { link = line; watch = w }) told) (sym same)
      (since_quiet (watched line before) told h)

  exchanges_standing : (line : L) (before after : Page) → after.watch ≡ before.watch → (told : List Told) →
      AreStanding before.watch [] told → Exchanges gives sent failures devices (watched line before) (watched line after) told
  exchanges_standing line before after same told h =
      subst (λ w. Exchanges gives sent failures devices (watched line before) (record { link = line; watch = w }) told) (sym same)
      (since_standing (watched line before) [] told h)

  -- nothing went over it
  pub exchanges_none : (old new : L) (before after : Page) → new ≡ old → after.watch ≡ before.watch →
      Exchanges gives sent failures devices (watched old before) (watched new after) []
  exchanges_none old new before after same kept = (
    refl,
    linked_as after.watch same ∙ ap {B = Watched L} (λ w. record { link = old; watch = w }) kept,
  )

  -- the use of a link of which some exchanges are reported, and which asks nothing
  pub uses_told : (roll : Rolled) (old new : Watched L) (told : List Told) →
      Exchanges gives sent failures devices old new told → UsesLink gives sent failures devices roll roll old new told
  uses_told roll old new told h = tells roll old new told h

  pub uses_quiet : (roll : Rolled) (line : L) (before after : Page) → after.watch ≡ before.watch → (told : List Told) →
      AreQuiet told → UsesLink gives sent failures devices roll roll (watched line before) (watched line after) told
  uses_quiet roll line before after same told h =
      tells roll (watched line before) (watched line after) told (exchanges_quiet line before after same told h)

  uses_standing : (roll : Rolled) (line : L) (before after : Page) → after.watch ≡ before.watch → (told : List Told) →
      AreStanding before.watch [] told →
      UsesLink gives sent failures devices roll roll (watched line before) (watched line after) told
  uses_standing roll line before after same told h =
      tells roll (watched line before) (watched line after) told (exchanges_standing line before after same told h)

  pub uses_none : (roll : Rolled) (line : Watched L) → UsesLink gives sent failures devices roll roll line line []
  uses_none roll line = tells roll line line [] (refl, refl)

  -- questions, and then quiet lines
  pub uses_asked : (whom : Option ℕ) (answered : Answered) (roll now : Rolled) (old new : L) (before after : Page) →
      after.watch ≡ before.watch → AsksRoll gives devices whom (most_asked whom) roll old answered now new →
      (told : List Told) → AreQuiet told →
      UsesLink gives sent failures devices roll now (watched old before) (watched new after) told
  uses_asked whom answered roll now old new before after same questions told h =
      goes_on roll now now (watched old before) (watched new before) (watched new after) [] told
      (asks whom answered roll now old new before.watch questions) (uses_quiet now new before after same told h)

  -- a decision after what was asked first
  pub uses_decided : (whom : Option ℕ) (roll now : Rolled) (old new : L) (before after : Page) → after.watch ≡ before.watch →
      AsksAt gives devices whom roll old now new → (found : List Finding) (told : List Told) → IsDecision whom told →
      UsesLink gives sent failures devices roll now (watched old before) (watched new after) (found_told found ++ told)
  uses_decided None roll now old new before after same first found told quiet =
      subst (λ r. UsesLink gives sent failures devices roll r (watched old before) (watched new after) (found_told found ++ told))
      (sym first.0)
      (subst (λ l. UsesLink gives sent failures devices roll roll (watched old before) (watched l after) (found_told found ++ told))
      (sym first.1)
      (uses_quiet roll old before after same (found_told found ++ told) (quiet_found found told quiet)))
  uses_decided (Some addr) roll now old new before after same first found told is =
      subst (λ t. UsesLink gives sent failures devices roll now (watched old before) (watched new after) (found_told found ++ t))
      (sym is.2)
      (subst (UsesLink gives sent failures devices roll now (watched old before) (watched new after))
      (append_assoc (found_told found) (is.0 ∷ []) is.1)
      (goes_on roll now now (watched old before) (watched new before) (watched new after) (found_told found ++ is.0 ∷ []) is.1
      (decides addr first.0 roll now old new before.watch found is.0 first.1 is.3)
      (uses_quiet now new before after same is.1 is.4)))

module _ {L : Type 0} (gives : L → List ℕ → List ℕ → L → Type 0) (sent : L → Bool) (failures : L → ℕ) where
  -- exchanges of one part, and then of another
  pub exchanges_then : (first between : Setup) → between ≡ first → (old line new : Watched L) (t1 t2 : List Told) →
      Exchanges gives sent failures first.devices old line t1 → Exchanges gives sent failures between.devices line new t2 →
      Exchanges gives sent failures first.devices old new (t1 ++ t2)
  exchanges_then first between same old line new t1 t2 h k =
      since_then gives sent failures first.devices [] old line new t1 t2 h
      (subst (λ s. Exchanges gives sent failures s.devices line new t2) same k)

  -- one use, and then another
  pub uses_then : (first between : Setup) → between ≡ first → (a b c : Rolled) (old line new : Watched L) (t1 t2 : List Told) →
      UsesLink gives sent failures first.devices a b old line t1 →
      UsesLink gives sent failures between.devices b c line new t2 →
      UsesLink gives sent failures first.devices a c old new (t1 ++ t2)
  uses_then first between same a b c old line new t1 t2 h k =
      goes_on a b c old line new t1 t2 h (subst (λ s. UsesLink gives sent failures s.devices b c line new t2) same k)

-- two things of what is reported
pub both_then : (S T U V W X : List Told → Type 0) → ((t1 t2 : List Told) → S t1 → T t2 → U (t1 ++ t2)) →
    ((t1 t2 : List Told) → V t1 → W t2 → X (t1 ++ t2)) → (t1 t2 : List Told) → Both S V t1 → Both T W t2 →
    Both U X (t1 ++ t2)
both_then S T U V W X one other t1 t2 h k = (one t1 t2 h.0 k.0, other t1 t2 h.1 k.1)

-- what was found is reported, and nothing else
abbrev TellsFound : (List Told → Type 0) → List Told → Type 0
TellsFound V told = ((found : List Finding) × (told ≡ found_told found)) × V told

-- of a sink with a count of faults
module _ {K : Type 0} (written : K → Option (List ℕ)) (puts : K → List ℕ → Result (Unit {0}) Failed → K → Type 0)
    (faults : K → ℕ) {D : Type 0} {g : Ghosts D} where
  -- quiet lines that have nothing to do with the desk, at a desk
  pub quiet_at_desk : (desk : Desk) (result : Result (Unit {0}) Served) (a b : K) (old new : Host D g)
      (P : List LiveStep → List Told → Type 0) → Acts written puts faults (Both AreQuiet IsApart) P result a b old new →
      Acts written puts faults (Both AreQuiet (FollowsDesk result desk desk)) P result a b old new
  quiet_at_desk desk result =
      acts_linked written puts faults (Both AreQuiet IsApart) (Both AreQuiet (FollowsDesk result desk desk))
      (λ told h. (h.0, apart_follows result desk told h.1)) result

-- of a sink
module _ {K : Type 0} (written : K → Option (List ℕ)) (puts : K → List ℕ → Result (Unit {0}) Failed → K → Type 0)
    {D : Type 0} {g : Ghosts D} where
  -- a life at a desk to an end that the input brings
  pub lives_stop : (S : List Told → Type 0) (how : Served) (was now : Desk) (P : List LiveStep → List Told → Type 0) (a b : K)
      (old new : Host D g) → IsOfInput how → LivesOn written puts (Both S (FollowsDesk (Ok tt) was now)) P (Ok tt) a b old new →
      LivesTo written puts (Both S (FollowsTo how was now)) P how a b old new
  lives_stop S how was now P a b old new is h =
      stops_to written puts (Both S (FollowsTo how was now)) how P a b old new is
      (lives_linked written puts (Both S (FollowsDesk (Ok tt) was now)) (Both S (FollowsTo how was now))
      (λ told k. (k.0, follows_to how was now told k.1)) (Ok tt) a b old new P h)

  -- and to one that a step brings
  pub lives_end : (S : List Told → Type 0) (how : Served) (was now : Desk) (P : List LiveStep → List Told → Type 0) (a b : K)
      (old new : Host D g) → LivesOn written puts (Both S (FollowsDesk (Err how) was now)) P (Err how) a b old new →
      LivesTo written puts (Both S (FollowsTo how was now)) P how a b old new
  lives_end S served.Unwritten was now P a b old new h = h
  lives_end S served.Disk was now P a b old new h = h
  lives_end S served.Done was now P a b old new h = absurd h
  lives_end S (served.Refused number kind) was now P a b old new h = absurd h
  lives_end S served.Unread was now P a b old new h = absurd h
  lives_end S (served.OtherSize len) was now P a b old new h = absurd h
  lives_end S served.Alien was now P a b old new h = absurd h
  lives_end S (served.BadRecord index) was now P a b old new h = absurd h

-- of such a link, too
module _ {K : Type 0} (written : K → Option (List ℕ)) (puts : K → List ℕ → Result (Unit {0}) Failed → K → Type 0)
    (faults : K → ℕ) {L : Type 0} (gives : L → List ℕ → List ℕ → L → Type 0) (sent : L → Bool) (failures : L → ℕ)
    {D : Type 0} {g : Ghosts D} where
  -- one part over a link and at a desk, and then another
  pub link_then : (old line new : Watched L) (was then now : Desk) (result : Result (Unit {0}) Served) (a b c : K)
      (first between last : Host D g) (P Q R : List LiveStep → List Told → Type 0) →
      ((s1 s2 : List LiveStep) (t1 t2 : List Told) → P s1 t1 → Q s2 t2 → R (s1 ++ s2) (t1 ++ t2)) →
      Acts written puts faults (Both (Exchanges gives sent failures (setup_of first).devices old line)
      (FollowsDesk (Ok tt) was then)) P (Ok tt) a b first between →
      Acts written puts faults (Both (Exchanges gives sent failures (setup_of between).devices line new)
      (FollowsDesk result then now)) Q result b c between last →
      Acts written puts faults (Both (Exchanges gives sent failures (setup_of first).devices old new)
      (FollowsDesk result was now)) R result a c first last
  link_then old line new was then now result a b c first between last P Q R to h k =
      let one = Exchanges gives sent failures (setup_of first).devices old line in
      let other = Exchanges gives sent failures (setup_of between).devices line new in
      let all = Exchanges gives sent failures (setup_of first).devices old new in
      acts_then written puts faults (Both one (FollowsDesk (Ok tt) was then)) (Both other (FollowsDesk result then now))
      (Both all (FollowsDesk result was now))
      (both_then one other all (FollowsDesk (Ok tt) was then) (FollowsDesk result then now) (FollowsDesk result was now)
      (exchanges_then gives sent failures (setup_of first) (setup_of between) h.setup old line new)
      (follows_then result was then now)) result a b c first between last P Q R to h k

  -- nothing is done
  pub link_none : (line : Watched L) (desk : Desk) (a : K) (host : Host D g) (P : List LiveStep → List Told → Type 0) →
      has_failed host ≡ false → P [] [] →
      Acts written puts faults (Both (Exchanges gives sent failures (setup_of host).devices line line)
      (FollowsDesk (Ok tt) desk desk)) P (Ok tt) a a host host
  link_none line desk a host =
      acts_none written puts faults
      (Both (Exchanges gives sent failures (setup_of host).devices line line) (FollowsDesk (Ok tt) desk desk))
      ((refl, refl), refl) a host

  -- quiet lines
  pub link_quiet : (line : L) (before after : Page) → after.watch ≡ before.watch → (desk : Desk)
      (result : Result (Unit {0}) Served) (a b : K) (old new : Host D g) (P : List LiveStep → List Told → Type 0) →
      Acts written puts faults (Both AreQuiet IsApart) P result a b old new →
      Acts written puts faults
      (Both (Exchanges gives sent failures (setup_of old).devices (watched line before) (watched line after))
      (FollowsDesk result desk desk)) P result a b old new
  link_quiet line before after same desk result a b old =
      acts_linked written puts faults (Both AreQuiet IsApart)
      (Both (Exchanges gives sent failures (setup_of old).devices (watched line before) (watched line after))
      (FollowsDesk result desk desk))
      (λ told h. (
        exchanges_quiet gives sent failures (setup_of old).devices line before after same told h.0,
        apart_follows result desk told h.1,
      )) result a b old

  -- one part by the roll, and then another
  pub roll_then : (roll between_roll now : Rolled) (old line new : Watched L) (V W X : List Told → Type 0) →
      ((t1 t2 : List Told) → V t1 → W t2 → X (t1 ++ t2)) → (result : Result (Unit {0}) Served) (a b c : K)
      (first between last : Host D g) (P Q R : List LiveStep → List Told → Type 0) →
      ((s1 s2 : List LiveStep) (t1 t2 : List Told) → P s1 t1 → Q s2 t2 → R (s1 ++ s2) (t1 ++ t2)) →
      Acts written puts faults (Both (UsesLink gives sent failures (setup_of first).devices roll between_roll old line) V) P
      (Ok tt) a b first between →
      Acts written puts faults (Both (UsesLink gives sent failures (setup_of between).devices between_roll now line new) W) Q
      result b c between last →
      Acts written puts faults (Both (UsesLink gives sent failures (setup_of first).devices roll now old new) X) R result a c
      first last
  roll_then roll between_roll now old line new V W X joins result a b c first between last P Q R to h k =
      let one = UsesLink gives sent failures (setup_of first).devices roll between_roll old line in
      let other = UsesLink gives sent failures (setup_of between).devices between_roll now line new in
      let all = UsesLink gives sent failures (setup_of first).devices roll now old new in
      acts_then written puts faults (Both one V) (Both other W) (Both all X)
      (both_then one other all V W X
      (uses_then gives sent failures (setup_of first) (setup_of between) h.setup roll between_roll now old line new) joins)
      result a b c first between last P Q R to h k

  -- at a desk
  pub roll_desk : (roll between_roll now : Rolled) (old line new : Watched L) (was then last_desk : Desk)
      (result : Result (Unit {0}) Served) (a b c : K) (first between last : Host D g)
      (P Q R : List LiveStep → List Told → Type 0) →
      ((s1 s2 : List LiveStep) (t1 t2 : List Told) → P s1 t1 → Q s2 t2 → R (s1 ++ s2) (t1 ++ t2)) →
      Acts written puts faults (Both (UsesLink gives sent failures (setup_of first).devices roll between_roll old line)
      (FollowsDesk (Ok tt) was then)) P (Ok tt) a b first between →
      Acts written puts faults (Both (UsesLink gives sent failures (setup_of between).devices between_roll now line new)
      (FollowsDesk result then last_desk)) Q result b c between last →
      Acts written puts faults (Both (UsesLink gives sent failures (setup_of first).devices roll now old new)
      (FollowsDesk result was last_desk)) R result a c first last
  roll_desk roll between_roll now old line new was then last_desk result =
      roll_then roll between_roll now old line new (FollowsDesk (Ok tt) was then) (FollowsDesk result then last_desk)
      (FollowsDesk result was last_desk) (follows_then result was then last_desk) result

  -- nothing is done
  pub roll_none : (devices : List DeviceSetup) (roll : Rolled) (line : Watched L) (V : List Told → Type 0) → V [] → (a : K)
      (host : Host D g) (P : List LiveStep → List Told → Type 0) → has_failed host ≡ false → P [] [] →
      Acts written puts faults (Both (UsesLink gives sent failures devices roll roll line line) V) P (Ok tt) a a host host
  roll_none devices roll line V is =
      acts_none written puts faults (Both (UsesLink gives sent failures devices roll roll line line) V)
      (uses_none gives sent failures devices roll line, is)

  -- quiet lines
  pub roll_quiet : (devices : List DeviceSetup) (roll : Rolled) (line : L) (before after : Page) →
      after.watch ≡ before.watch → (V : List Told → Type 0) (result : Result (Unit {0}) Served) (a b : K) (old new : Host D g)
      (P : List LiveStep → List Told → Type 0) → Acts written puts faults (Both AreQuiet V) P result a b old new →
      Acts written puts faults
      (Both (UsesLink gives sent failures devices roll roll (watched line before) (watched line after)) V) P result a b old new
  roll_quiet devices roll line before after same V =
      acts_linked written puts faults (Both AreQuiet V)
      (Both (UsesLink gives sent failures devices roll roll (watched line before) (watched line after)) V)
      (λ told h. (uses_quiet gives sent failures devices roll line before after same told h.0, h.1))

  -- devices as they stand
  pub roll_standing : (devices : List DeviceSetup) (roll : Rolled) (line : L) (before after : Page) →
      after.watch ≡ before.watch → (V : List Told → Type 0) (result : Result (Unit {0}) Served) (a b : K) (old new : Host D g)
      (P : List LiveStep → List Told → Type 0) →
      Acts written puts faults (Both (AreStanding before.watch []) V) P result a b old new →
      Acts written puts faults
      (Both (UsesLink gives sent failures devices roll roll (watched line before) (watched line after)) V) P result a b old new
  roll_standing devices roll line before after same V =
      acts_linked written puts faults (Both (AreStanding before.watch []) V)
      (Both (UsesLink gives sent failures devices roll roll (watched line before) (watched line after)) V)
      (λ told h. (uses_standing gives sent failures devices roll line before after same told h.0, h.1))

  -- what has nothing to do with the desk, at a desk
  pub roll_apart : (devices : List DeviceSetup) (roll now : Rolled) (old new : Watched L) (desk : Desk)
      (result : Result (Unit {0}) Served) (a b : K) (before after : Host D g) (P : List LiveStep → List Told → Type 0) →
      Acts written puts faults (Both (UsesLink gives sent failures devices roll now old new) IsApart) P result a b before after →
      Acts written puts faults (Both (UsesLink gives sent failures devices roll now old new) (FollowsDesk result desk desk)) P
      result a b before after
  roll_apart devices roll now old new desk result =
      acts_linked written puts faults (Both (UsesLink gives sent failures devices roll now old new) IsApart)
      (Both (UsesLink gives sent failures devices roll now old new) (FollowsDesk result desk desk))
      (λ told h. (h.0, apart_follows result desk told h.1)) result

  -- exchanges, and no question
  pub roll_told : (devices : List DeviceSetup) (roll : Rolled) (old new : Watched L) (was now : Desk)
      (result : Result (Unit {0}) Served) (a b : K) (before after : Host D g) (P : List LiveStep → List Told → Type 0) →
      Acts written puts faults (Both (Exchanges gives sent failures devices old new) (FollowsDesk result was now)) P result a b before
      after →
      Acts written puts faults (Both (UsesLink gives sent failures devices roll roll old new) (FollowsDesk result was now)) P
      result a b before after
  roll_told devices roll old new was now result =
      acts_linked written puts faults (Both (Exchanges gives sent failures devices old new) (FollowsDesk result was now))
      (Both (UsesLink gives sent failures devices roll roll old new) (FollowsDesk result was now))
      (λ told h. (uses_told gives sent failures devices roll old new told h.0, h.1)) result

  -- questions, and then quiet lines
  pub roll_asked : (devices : List DeviceSetup) (whom : Option ℕ) (answered : Answered) (roll now : Rolled) (old new : L)
      (before after : Page) → after.watch ≡ before.watch →
      AsksRoll gives devices whom (most_asked whom) roll old answered now new → (result : Result (Unit {0}) Served) (a b : K)
      (first last : Host D g) (P : List LiveStep → List Told → Type 0) →
      Acts written puts faults (Both AreQuiet IsApart) P result a b first last →
      Acts written puts faults
      (Both (UsesLink gives sent failures devices roll now (watched old before) (watched new after)) IsApart) P result a b first
      last
  roll_asked devices whom answered roll now old new before after same questions =
      acts_linked written puts faults (Both AreQuiet IsApart)
      (Both (UsesLink gives sent failures devices roll now (watched old before) (watched new after)) IsApart)
      (λ told h. (
        uses_asked gives sent failures devices whom answered roll now old new before after same questions told h.0,
        h.1,
      ))

  -- what was found is reported
  found_alone : (S V : List Told → Type 0) (x y : List Finding) (a b : K) (old new : Host D g) →
      Acts written puts faults (Both S V) (Finds x y IsAsking) (Ok tt) a b old new →
      Acts written puts faults (TellsFound V) (Finds x y IsAsking) (Ok tt) a b old new
  found_alone S V x y a b old new h = record {
    whole = h.whole;
    setup = h.setup;
    lives = record {
      steps = h.lives.steps;
      told = h.lives.told;
      wrote = h.lives.wrote;
      goes = h.lives.goes;
      does = h.lives.does;
      linked = ((h.lives.does.0.0, h.lives.does.0.1.1), h.lives.linked.1);
    };
    sink = h.sink;
    disk = h.disk;
  }

  -- a device is asked first, and then it is decided
  pub roll_decided : (whom : Option ℕ) (roll now : Rolled) (old new : L) (before between after : Page) →
      between.watch ≡ before.watch → after.watch ≡ between.watch → (S V W X : List Told → Type 0) →
      ((t1 t2 : List Told) → V t1 → W t2 → X (t1 ++ t2)) → (result : Result (Unit {0}) Served) (a b c : K)
      (first mid last : Host D g) (x y : List Finding) (Q R : List LiveStep → List Told → Type 0) →
      ((s1 s2 : List LiveStep) (t1 t2 : List Told) → Finds x y IsAsking s1 t1 → Q s2 t2 → R (s1 ++ s2) (t1 ++ t2)) →
      AsksAt gives (setup_of first).devices whom roll old now new →
      Acts written puts faults (Both S V) (Finds x y IsAsking) (Ok tt) a b first mid →
      Acts written puts faults (Both (IsDecision whom) W) Q result b c mid last →
      Acts written puts faults
      (Both (UsesLink gives sent failures (setup_of first).devices roll now (watched old before) (watched new after)) X) R result
      a c first last
  roll_decided whom roll now old new before between after kept same S V W X joins result a b c first mid last x y Q R to first_asked h k =
      acts_then written puts faults (TellsFound V) (Both (IsDecision whom) W)
      (Both (UsesLink gives sent failures (setup_of first).devices roll now (watched old before) (watched new after)) X)
      (λ t1 t2 found decided. (
        subst (λ t. UsesLink gives sent failures (setup_of first).devices roll now (watched old before) (watched new after) (t ++ t2))
            (sym found.0.1)
            (uses_decided gives sent failures (setup_of first).devices whom roll now old new before after (same ∙ kept) first_asked
            found.0.0 t2 decided.0),
        joins t1 t2 found.1 decided.1,
      ))
      result a b c first mid last (Finds x y IsAsking) Q R to (found_alone S V x y a b first mid h) k
