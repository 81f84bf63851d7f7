-- What goes over the link of a service, against what is reported of it.
use Rattle.std.specs.Prelude.{◌≡◌, ℕ, ◌==◌, ◌&&◌, not, Bool, true, false, List, [], ◌∷◌, ◌++◌}
use Rattle.std.specs.Prelude.{Option, Some, None}
use Rattle.cct_model.specs.terms.device.DeviceSetup.{DeviceSetup}
use Rattle.cct_model.specs.lines.entry.Entry.TheVariants as entry_of
use Rattle.cct_live_survey.specs.declared.finding.Finding.{Finding}
use Rattle.cct_live_survey.specs.declared.roll.Answered.{Answered}
use Rattle.cct_live_survey.specs.declared.roll.TheConstants.{MOST_FINDINGS}
use Rattle.cct_live_survey.specs.Roll.{AsksRoll, Rolled}
use Rattle.cct_live_service.specs.declared.notice.Notice.{Notice}
use Rattle.cct_live_service.specs.declared.notice.Notice.TheVariants as notice_of
use Rattle.cct_live_service.specs.declared.page.Page.{Page}
use Rattle.cct_live_service.specs.declared.page.Went.{Went}
use Rattle.cct_live_service.specs.declared.watch.Watch.{Watch}
use Rattle.cct_live_service.specs.Asked.{IsNobody, asked_before, is_nobody, most_asked}
use Rattle.cct_live_service.specs.Status.{held_notices}
use Rattle.cct_live_service.specs.Told.{Told, entry, found_told, notice, pays, unsent}
use Rattle.cct_live_service.specs.Watch.{due_of, notices_in, place_at, seen_at, watch_of}

-- Whom a decision is about that is reported, if its device is asked first: that on a payment or a
-- start.
abbrev pub decides_at : Told → Option ℕ
decides_at (entry (entry_of.Taken c)) = asked_before c
decides_at (entry (entry_of.No c why)) = asked_before c
decides_at (notice (notice_of.Withheld c why)) = asked_before c
decides_at (pays p answer) = Some p.addr
decides_at what = None

-- What is reported is no exchange, no end of a job, no such decision, and not how the line or a
-- device is.
abbrev pub is_quiet : Told → Bool
is_quiet (entry (entry_of.Wire addr message heard)) = false
is_quiet (entry (entry_of.Ended addr end)) = false
is_quiet (unsent addr message) = false
is_quiet (notice notice_of.LineFault) = false
is_quiet (notice notice_of.LineBack) = false
is_quiet (notice (notice_of.Held addr place)) = false
is_quiet (notice (notice_of.Device addr job epoch order)) = false
is_quiet what = is_nobody (decides_at what)

-- All of it is so.
abbrev pub are_quiet : List Told → Bool
are_quiet [] = true
are_quiet (what ∷ told) = is_quiet what && are_quiet told

-- These lines report no exchange, no such decision, and not how the line or a device is.
abbrev pub AreQuiet : List Told → Type 0
AreQuiet told = are_quiet told ≡ true

-- They report what is decided, about the device that is asked first or nobody.
abbrev pub IsDecision : Option ℕ → List Told → Type 0
IsDecision None = AreQuiet
IsDecision (Some addr) =
    λ told. (what : Told) × (more : List Told) × (told ≡ what ∷ more)
    × (decides_at what ≡ Some addr) × AreQuiet more

-- Of a link that counts its failures: by an exchange that count changed.
abbrev pub has_counted : {L : Type 0} → (L → ℕ) → L → L → Bool
has_counted failures before after = not (failures after == failures before)

-- How an exchange of such a link went: whether its message was written, and whether it failed.
abbrev pub HasGone : {L : Type 0} → (L → Bool) → (L → ℕ) → L → L → Went → Type 0
HasGone sent failures before after went =
    (went.is_sent ≡ sent after) × (went.has_failed ≡ has_counted failures before after)

-- What comes next by what was reported: these notices; after a device that is reported, the bill
-- that it holds.
abbrev pub due_next : Watch → List Notice → Told → List Notice
due_next w [] (notice (notice_of.Device addr job epoch order)) = held_notices addr (place_at w addr)
due_next w [] what = []
due_next w (n ∷ due) (notice m) = due
due_next w (n ∷ due) what = n ∷ due

-- This may be reported where these notices come next: the first of them, or an entry of the same
-- step. How the line is, and a bill that is held, is reported only where it comes next, and what is
-- decided about a device that is asked first isn't.
abbrev pub ComesAmong : List Notice → Told → Type 0
ComesAmong [] (notice notice_of.LineFault) = ⊥
ComesAmong [] (notice notice_of.LineBack) = ⊥
ComesAmong [] (notice (notice_of.Held addr place)) = ⊥
ComesAmong [] what = IsNobody (decides_at what)
ComesAmong (n ∷ due) (notice m) = m ≡ n
ComesAmong (n ∷ due) (entry e) = IsNobody (decides_at (entry e))
ComesAmong (n ∷ due) what = ⊥

-- What is remembered after this was reported, which is no exchange.
abbrev pub watch_next : Watch → Told → Watch
watch_next w (entry e) = seen_at w e
watch_next w what = w

-- Some lines say how devices stand, with the bills that are held, while nothing happens.
abbrev pub AreStanding : Watch → List Notice → List Told → Type 0
AreStanding w due [] = due ≡ []
AreStanding w due (notice n ∷ told) =
    ComesAmong due (notice n) × AreStanding w (due_next w due (notice n)) told
AreStanding w due (what ∷ told) = ⊥

-- A link, and what is remembered of what went over it.
pub record Watched (L : Type 0) : Type 0 where
  pub link : L
  pub watch : Watch

-- Those that a service has.
abbrev pub watched : {L : Type 0} → L → Page → Watched L
watched link page = record { link = link; watch = page.watch }

-- of a link of which is known what an exchange gives, whether the last message was written, and how
-- many exchanges failed, with devices on it
module _ {L : Type 0} (gives : L → List ℕ → List ℕ → L → Type 0) (sent : L → Bool)
    (failures : L → ℕ)
    (devices : List DeviceSetup) where
  -- The link gave the exchanges that are reported, in their order, each once, and no other one. An
  -- exchange is reported as an entry where its message was written, and else as unsent. After it
  -- and the other entries of its attempt comes a `linefault`, where the link counted it as failed
  -- and not the one before; a `lineback`, where it counted that one and not this; and a bill that
  -- the exchange shows as held, where the last reading there reported another one, or none. Else
  -- none of these comes.
  abbrev pub ExchangesSince : List Notice → Watched L → Watched L → List Told → Type 0
  ExchangesSince due old new [] = (due ≡ []) × (new ≡ old)
  ExchangesSince due old new (entry (entry_of.Wire addr message heard) ∷ told) =
      (due ≡ []) × (line : L) × gives old.link message heard line × (sent line ≡ true)
      × ExchangesSince (notices_in (due_of devices old.watch (has_counted failures old.link line)
      addr message heard))
      (record {
        link = line;
        watch = watch_of devices old.watch (has_counted failures old.link line) addr message heard;
      })
      new told
  ExchangesSince due old new (unsent addr message ∷ told) =
      (due ≡ []) × (line : L) × gives old.link message [] line × (sent line ≡ false)
      × ExchangesSince (notices_in (due_of devices old.watch (has_counted failures old.link line)
      addr message []))
      (record {
        link = line;
        watch = watch_of devices old.watch (has_counted failures old.link line) addr message [];
      })
      new told
  ExchangesSince due old new (what ∷ told) =
      ComesAmong due what
      × ExchangesSince (due_next old.watch due what)
      (record { link = old.link; watch = watch_next old.watch what }) new told

  -- So it is from here on.
  abbrev pub Exchanges : Watched L → Watched L → List Told → Type 0
  Exchanges = ExchangesSince []

  -- All that went over a link, for the devices and their roll: exchanges that are reported, and
  -- questions of the roll, of which no exchange is reported, one after another. What is decided of a
  -- payment or a start is reported only after the device there was asked what is left, up to a
  -- silence, and what it said.
  pub data UsesLink : Rolled → Rolled → Watched L → Watched L → List Told → Type 0 where
    tells : (roll : Rolled) (old new : Watched L) (told : List Told) → Exchanges old new told
        → UsesLink roll roll old new told
    asks : (whom : Option ℕ) (answered : Answered) (roll now : Rolled) (old new : L) (watch : Watch)
        → AsksRoll gives devices whom (most_asked whom) roll old answered now new
        → UsesLink roll now (record { link = old; watch = watch })
        (record { link = new; watch = watch }) []
    decides : (addr : ℕ) (answered : Answered) (roll now : Rolled) (old new : L) (watch : Watch)
        (found : List Finding) (what : Told)
        → AsksRoll gives devices (Some addr) MOST_FINDINGS roll old answered now new
        → decides_at what ≡ Some addr
        → UsesLink roll now (record { link = old; watch = watch })
        (record { link = new; watch = watch }) (found_told found ++ what ∷ [])
    goes_on : (roll between now : Rolled) (old line new : Watched L) (told more : List Told)
        → UsesLink roll between old line told → UsesLink between now line new more
        → UsesLink roll now old new (told ++ more)
