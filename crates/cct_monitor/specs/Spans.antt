-- What is said of an acceptor: the spans between its readings, and which of them are sure.
use Rattle.std.specs.Prelude.{ℕ, suc, ◌==◌, ◌&&◌, ◌||◌, not, nat_le, Bool, true, false, List, []}
use Rattle.std.specs.Prelude.{◌∷◌, ◌++◌, map, length, reverse, if◌then◌else◌, Option, Some, None}
use Rattle.std.specs.List.{filter, flat_map, list_any}
use Rattle.cct_model.specs.terms.coin.TheConstants.{EVENTS}
use Rattle.cct_model.specs.terms.coin.Coin.{Coin}
use Rattle.cct_model.specs.terms.coin.Credits.{Credits}
use Rattle.cct_model.specs.Reading.{distance, posted_of}
use Rattle.cct_audit_taps.specs.declared.shown.Shown.{Shown}
use Rattle.cct_audit_taps.specs.declared.shown.Shown.TheVariants.{Read, Masked, Set, Nothing}
use Rattle.cct_audit_taps.specs.declared.said.Said.{Said}
use Rattle.cct_audit_taps.specs.declared.said.Said.TheVariants.{Sure, Quiet, Doubt}

-- A reading: its number among the taps, the credits that it shows, and what the taps after it
-- showed, newest first.
pub record Reading : Type 0 where
  pub number : ℕ
  pub credits : Credits
  pub after : List Shown

-- A reading after which a tap showed something more.
abbrev pub with_after : Shown → Reading → Reading
with_after s r = record { number = r.number; credits = r.credits; after = s ∷ r.after }

-- The same, where there is a reading.
abbrev pub after_it : Shown → Option Reading → Option Reading
after_it s None = None
after_it s (Some r) = Some (with_after s r)

-- A reading of a number with these credits, after which nothing came yet.
abbrev pub new_reading : ℕ → Credits → Reading
new_reading number c = record { number = number; credits = c; after = [] }

-- The last reading that taps showed, newest first, or none. Taps are numbered from 1.
abbrev pub last_reading : List Shown → Option Reading
last_reading [] = None
last_reading (Read c ∷ past) = Some (new_reading (suc (length past)) c)
last_reading (s ∷ past) = after_it s (last_reading past)

-- A span is two readings with none between them. After the first stands what the taps between them
-- showed.
pub record Span : Type 0 where
  pub first : Reading
  pub last : Reading

-- The span that a tap ends, where it is a reading and one came before it.
abbrev pub spans_by : Shown → Option Reading → ℕ → List Span
spans_by (Read c) (Some r) number = record { first = r; last = new_reading number c } ∷ []
spans_by s found number = []

-- A span after whose last reading a tap showed something more.
abbrev pub goes_on : Shown → Span → Span
goes_on s span = record { first = span.first; last = with_after s span.last }

-- All spans that taps showed, newest first.
abbrev pub spans : List Shown → List Span
spans [] = []
spans (s ∷ past) =
    spans_by s (last_reading past) (suc (length past)) ++ map (goes_on s) (spans past)

-- A tap shows a setting.
abbrev pub is_set : Shown → Bool
is_set Set = true
is_set s = false

-- Event counters show a whole: the last isn't 0 unless the first is, and they show no more events
-- than the credit buffer keeps.
abbrev pub are_near : ℕ → ℕ → Bool
are_near first last = (not (last == 0) || (first == 0)) && nat_le (distance first last) EVENTS

-- No setting came between the readings of a span, and their event counters show a whole.
abbrev pub is_whole : Span → Bool
is_whole span =
    not (list_any is_set span.first.after)
    && are_near span.first.credits.counter span.last.credits.counter

-- A tap leaves the window of a span open, and confirms nothing: it is no reading, no setting, and
-- shows no mask but 0.
abbrev pub leaves_open : Shown → Bool
leaves_open (Read c) = false
leaves_open (Masked mask) = mask == 0
leaves_open Set = false
leaves_open Nothing = true

-- A span waits to be said: it is whole, its window is open, and no tap of that showed a mask other
-- than 0.
abbrev pub waits : Span → Bool
waits span = is_whole span && not (list_any (λ s. not (leaves_open s)) span.last.after)

-- What is in doubt of a span.
abbrev pub doubted : ℕ → Span → Said
doubted addr span = Doubt addr span.first.number span.last.number

-- The coins of a span: those among the newest events of its last reading, as many as the event
-- counters show, oldest first.
abbrev pub coins_of : Span → List Coin
coins_of span = posted_of (distance span.first.credits.counter span.last.credits.counter)
    span.last.credits.pairs

-- What is sure of a span.
abbrev pub surely : ℕ → Span → Said
surely addr span = Sure addr span.first.number span.last.number (coins_of span)

-- What is said at once of a span of an acceptor that is watched for resets alone.
abbrev pub quietly : ℕ → Span → Said
quietly addr span =
    if is_whole span then Quiet addr span.first.number span.last.number (coins_of span) else doubted
    addr span

-- What a tap makes said of such an acceptor at an address after the taps before it, newest first.
abbrev pub quiet_at : ℕ → Shown → List Shown → List Said
quiet_at addr s past = map (quietly addr) (spans_by s (last_reading past) (suc (length past)))

-- What a tap makes said of a span that waits: it is sure where the tap shows a mask other than 0,
-- and in doubt where the tap ends its window.
abbrev pub turned : ℕ → Shown → Span → List Said
turned addr (Read c) span = doubted addr span ∷ []
turned addr (Masked mask) span = if mask == 0 then [] else surely addr span ∷ []
turned addr Set span = doubted addr span ∷ []
turned addr Nothing span = []

-- A new span is in doubt at once where it isn't whole.
abbrev pub refused : ℕ → Span → List Said
refused addr span = if is_whole span then [] else doubted addr span ∷ []

-- What a tap makes said of the acceptor at an address after the taps before it, newest first; the
-- older span first.
abbrev pub said_at : ℕ → Shown → List Shown → List Said
said_at addr s past =
    flat_map (turned addr s) (reverse (filter waits (spans past)))
    ++ flat_map (refused addr) (spans_by s (last_reading past) (suc (length past)))

-- What is said of it at the end of the taps: a span that still waits is in doubt.
abbrev pub said_last : ℕ → List Shown → List Said
said_last addr past = map (doubted addr) (reverse (filter waits (spans past)))
