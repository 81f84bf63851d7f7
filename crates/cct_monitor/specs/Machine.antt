-- What a monitor keeps of a watched device: of fixed size, however many taps came.
use Rattle.std.specs.Prelude.{ℕ, suc, ◌==◌, ◌&&◌, not, Bool, true, false, List, [], ◌∷◌, ◌++◌}
use Rattle.std.specs.Prelude.{length, if◌then◌else◌, Option, Some, None}
use Rattle.cct_model.specs.terms.coin.Credits.{Credits}
use Rattle.cct_model.specs.terms.wire.CheckKind.{CheckKind}
use Rattle.cct_model.specs.Reading.{distance, posted_of}
use Rattle.cct_audit_taps.specs.declared.shown.Shown.{Shown}
use Rattle.cct_audit_taps.specs.declared.shown.Shown.TheVariants.{Read, Masked, Set, Nothing}
use Rattle.cct_audit_taps.specs.declared.said.Said.{Said}
use Rattle.cct_audit_taps.specs.declared.said.Said.TheVariants.{Sure, Quiet, Doubt}
use Rattle.cct_monitor.specs.declared.acceptor.LastReading.{LastReading}
use Rattle.cct_monitor.specs.declared.acceptor.WaitingSpan.{WaitingSpan}
use Rattle.cct_monitor.specs.declared.acceptor.AcceptorWatch.{AcceptorWatch}
use Rattle.cct_monitor.specs.declared.hopper.LastLife.{LastLife}
use Rattle.cct_monitor.specs.declared.watched.Kept.{Kept}
use Rattle.cct_monitor.specs.declared.watched.Kept.TheVariants.{Acceptor, QuietAcceptor, Premises}
use Rattle.cct_monitor.specs.declared.watched.Kept.TheVariants.{Hopper, HopperPremises}
use Rattle.cct_monitor.specs.declared.watched.Watched.{Watched}
use Rattle.cct_monitor.specs.declared.watched.Family.{Family}
use Rattle.cct_monitor.specs.declared.watched.Heard.{Heard}
use Rattle.cct_monitor.specs.declared.watched.Family.TheVariants as family
use Rattle.cct_audit_taps.specs.Signs.{broken_by, known_on, sign}
use Rattle.cct_audit_taps.specs.Deeds.{deed, hopper_broken_by, hopper_on, no_hopper}
use Rattle.cct_audit_taps.specs.Taps.{Tap, shown, quiet_shown, life_shown}
use Rattle.cct_monitor.specs.Tallies.{no_tally, tally_by}
use Rattle.cct_monitor.specs.Spans.{are_near}
use Rattle.cct_monitor.specs.Lives.{fell_by}

-- A new reading makes a whole span with the last one.
abbrev pub fits : LastReading → ℕ → Bool
fits r counter = not r.was_set && are_near r.counter counter

-- The last reading after a setting.
abbrev pub after_setting : Option LastReading → Option LastReading
after_setting None = None
after_setting (Some r) = Some (record { number = r.number; counter = r.counter; was_set = true })

-- The last reading after a tap of a number.
abbrev pub last_on : Shown → ℕ → Option LastReading → Option LastReading
last_on (Read c) number found =
    Some (record { number = number; counter = c.counter; was_set = false })
last_on (Masked mask) number found = found
last_on Set number found = after_setting found
last_on Nothing number found = found

-- The span of a new reading, where it waits.
abbrev pub waiting_new : ℕ → Credits → Option LastReading → Option WaitingSpan
waiting_new number c None = None
waiting_new number c (Some r) =
    if fits r c.counter
    then Some (record {
      first = r.number;
      last = number;
      new_events = distance r.counter c.counter;
      credits = c;
    })
    else None

-- The span that waits after a tap of a number.
abbrev pub waiting_on : Shown → ℕ → AcceptorWatch → Option WaitingSpan
waiting_on (Read c) number kept = waiting_new number c kept.last
waiting_on (Masked mask) number kept = if mask == 0 then kept.waiting else None
waiting_on Set number kept = None
waiting_on Nothing number kept = kept.waiting

-- What is kept of an acceptor after a tap of a number.
abbrev pub acceptor_on : Shown → ℕ → AcceptorWatch → AcceptorWatch
acceptor_on s number kept =
    record { last = last_on s number kept.last; waiting = waiting_on s number kept }

-- What is said where the span that waits is in doubt.
abbrev pub doubt_waiting : ℕ → Option WaitingSpan → List Said
doubt_waiting addr None = []
doubt_waiting addr (Some span) = Doubt addr span.first span.last ∷ []

-- What is said where it is sure.
abbrev pub sure_waiting : ℕ → Option WaitingSpan → List Said
sure_waiting addr None = []
sure_waiting addr (Some span) =
    Sure addr span.first span.last (posted_of span.new_events span.credits.pairs) ∷ []

-- What is said where the span of a new reading doesn't wait.
abbrev pub doubt_new : ℕ → ℕ → Credits → Option LastReading → List Said
doubt_new addr number c None = []
doubt_new addr number c (Some r) = if fits r c.counter then [] else Doubt addr r.number number ∷ []

-- What a tap of a number makes said of the acceptor at an address.
abbrev pub acceptor_says : ℕ → Shown → ℕ → AcceptorWatch → List Said
acceptor_says addr (Read c) number kept =
    doubt_waiting addr kept.waiting ++ doubt_new addr number c kept.last
acceptor_says addr (Masked mask) number kept =
    if mask == 0 then [] else sure_waiting addr kept.waiting
acceptor_says addr Set number kept = doubt_waiting addr kept.waiting
acceptor_says addr Nothing number kept = []

-- What is kept of an acceptor before any tap.
abbrev pub no_tap : AcceptorWatch
no_tap = record { last = None; waiting = None }

-- What is kept of an acceptor after taps that showed this, newest first.
abbrev pub acceptor_after : List Shown → AcceptorWatch
acceptor_after [] = no_tap
acceptor_after (s ∷ past) = acceptor_on s (suc (length past)) (acceptor_after past)

-- What is said of a new reading of an acceptor that is watched for resets alone, after the last
-- one.
abbrev pub quiet_new : ℕ → ℕ → Credits → LastReading → Said
quiet_new addr number c r =
    if fits r c.counter then Quiet addr r.number number
    (posted_of (distance r.counter c.counter) c.pairs)
    else Doubt addr r.number number

-- What a tap of a number makes said of it.
abbrev pub quiet_says : ℕ → Shown → ℕ → Option LastReading → List Said
quiet_says addr (Read c) number (Some r) = quiet_new addr number c r ∷ []
quiet_says addr s number found = []

-- What is kept of it after taps that showed this, newest first: the last reading.
abbrev pub quiet_after : List Shown → Option LastReading
quiet_after [] = None
quiet_after (s ∷ past) = last_on s (suc (length past)) (quiet_after past)

-- The last life count after a tap of a number.
abbrev pub life_on : Option ℕ → ℕ → Option LastLife → Option LastLife
life_on (Some count) number found = Some (record { number = number; count = count })
life_on None number found = found

-- What is kept of a watched device after a tap of a number.
abbrev pub kept_on : CheckKind → ℕ → Tap → ℕ → Kept → Kept
kept_on kind addr tap number (Acceptor kept) =
    Acceptor (acceptor_on (shown kind addr tap) number kept)
kept_on kind addr tap number (QuietAcceptor money last) =
    QuietAcceptor money (last_on (quiet_shown money kind addr tap) number last)
kept_on kind addr tap number (Premises money known) =
    Premises money (known_on number (sign money kind addr tap) known)
kept_on kind addr tap number (Hopper life) = Hopper (life_on (life_shown kind addr tap) number life)
kept_on kind addr tap number (HopperPremises known) =
    HopperPremises (hopper_on number (deed kind addr tap) known)

-- What the tap makes said of it.
abbrev pub says_by : CheckKind → ℕ → Tap → ℕ → Kept → List Said
says_by kind addr tap number (Acceptor kept) = acceptor_says addr (shown kind addr tap) number kept
says_by kind addr tap number (QuietAcceptor money last) =
    quiet_says addr (quiet_shown money kind addr tap) number last
says_by kind addr tap number (Premises money known) =
    broken_by addr number (sign money kind addr tap) known
says_by kind addr tap number (Hopper life) = fell_by addr number (life_shown kind addr tap) life
says_by kind addr tap number (HopperPremises known) =
    hopper_broken_by addr number (deed kind addr tap) known

-- What is kept of a device of a family before any tap.
abbrev pub kept_first : Family → Kept
kept_first family.Acceptor = Acceptor no_tap
kept_first (family.QuietAcceptor money) = QuietAcceptor money None
kept_first (family.Premises money) = Premises money None
kept_first family.Hopper = Hopper None
kept_first family.HopperPremises = HopperPremises no_hopper

-- The family of a device of which this is kept.
abbrev pub family_of : Kept → Family
family_of (Acceptor kept) = family.Acceptor
family_of (QuietAcceptor money last) = family.QuietAcceptor money
family_of (Premises money known) = family.Premises money
family_of (Hopper life) = family.Hopper
family_of (HopperPremises known) = family.HopperPremises

-- What is reported of a watched device.
abbrev pub heard_as : Watched → Heard
heard_as w = record { addr = w.addr; kind = w.kind; family = family_of w.kept; tally = w.tally }

-- A watched device before any tap.
abbrev pub new_watched : ℕ → CheckKind → Family → Watched
new_watched addr kind fam =
    record { addr = addr; kind = kind; tally = no_tally; kept = kept_first fam }

-- A watched device after a tap of a number.
abbrev pub watched_on : Tap → ℕ → Watched → Watched
watched_on tap number w = record {
  addr = w.addr;
  kind = w.kind;
  tally = tally_by (family_of w.kept) w.kind w.addr tap w.tally;
  kept = kept_on w.kind w.addr tap number w.kept;
}

-- What the tap makes said of a watched device.
abbrev pub says_on : Tap → ℕ → Watched → List Said
says_on tap number w = says_by w.kind w.addr tap number w.kept

-- What is said of what is kept, at the end of the taps.
abbrev pub ends_by : ℕ → Kept → List Said
ends_by addr (Acceptor kept) = doubt_waiting addr kept.waiting
ends_by addr (QuietAcceptor money last) = []
ends_by addr (Premises money known) = []
ends_by addr (Hopper life) = []
ends_by addr (HopperPremises known) = []

-- What is said of a watched device at the end of the taps.
abbrev pub ends_on : Watched → List Said
ends_on w = ends_by w.addr w.kept
