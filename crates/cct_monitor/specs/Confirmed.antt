-- Which spans are confirmed.
use Rattle.std.specs.Prelude.{◌==◌, ◌&&◌, not, Bool, true, false, List, [], ◌∷◌, if◌then◌else◌}
use Rattle.std.specs.List.{list_any}
use Rattle.cct_audit_taps.specs.declared.shown.Shown.{Shown}
use Rattle.cct_audit_taps.specs.declared.shown.Shown.TheVariants.{Read, Masked, Set, Nothing}
use Rattle.cct_audit_taps.specs.declared.said.Said.{Said}
use Rattle.cct_audit_taps.specs.declared.said.Said.TheVariants.{Sure, Quiet, Doubt, Fell, Broken}
use Rattle.cct_monitor.specs.Spans.{Span, goes_on, is_whole}

-- A tap ends the window of a span: it is the next reading, or a setting.
abbrev pub ends_window : Shown → Bool
ends_window (Read c) = true
ends_window (Masked mask) = false
ends_window Set = true
ends_window Nothing = false

-- The window of a span among the taps after its last reading, newest first: those before the next
-- reading or setting.
abbrev pub window : List Shown → List Shown
window [] = []
window (s ∷ after) = if list_any ends_window (s ∷ after) then window after else s ∷ after

-- A tap shows a mask other than 0.
abbrev pub has_mask : Shown → Bool
has_mask (Read c) = false
has_mask (Masked mask) = not (mask == 0)
has_mask Set = false
has_mask Nothing = false

-- A span is confirmed: no setting is between its readings, their event counters show a whole, and a
-- tap of its window shows a mask other than 0.
abbrev pub is_confirmed : Span → Bool
is_confirmed span = is_whole span && list_any has_mask (window span.last.after)

-- A tap confirms a span: with it the span is confirmed, and before it wasn't.
abbrev pub confirms : Shown → Span → Bool
confirms s span = is_confirmed (goes_on s span) && not (is_confirmed span)

-- It is said that a span is sure.
abbrev pub is_sure : Said → Bool
is_sure (Sure addr first last coins) = true
is_sure (Quiet addr first last coins) = false
is_sure (Doubt addr first last) = false
is_sure (Fell addr first last count) = false
is_sure (Broken addr premise first last) = false
