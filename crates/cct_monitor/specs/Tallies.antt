-- How many taps were for a watched device, and what they showed.
use Rattle.std.specs.Prelude.{ℕ, ◌+◌, min, Bool, true, false, List, [], ◌∷◌, if◌then◌else◌, Option}
use Rattle.std.specs.Prelude.{Some, None}
use Rattle.cct_model.specs.terms.wire.CheckKind.{CheckKind}
use Rattle.cct_audit_taps.specs.declared.shown.Shown.{Shown}
use Rattle.cct_audit_taps.specs.declared.shown.Shown.TheVariants.{Read, Masked, Set, Nothing}
use Rattle.cct_monitor.specs.declared.tally.Tally.{Tally}
use Rattle.cct_monitor.specs.declared.watched.Family.{Family}
use Rattle.cct_monitor.specs.declared.watched.Family.TheVariants as family
use Rattle.cct_audit_taps.specs.declared.signs.Sign.{Sign}
use Rattle.cct_audit_taps.specs.declared.signs.Sign.TheVariants.{Events, Mask}
use Rattle.cct_audit_taps.specs.Signs.{sign}
use Rattle.cct_audit_taps.specs.declared.deeds.Deed.{Deed}
use Rattle.cct_audit_taps.specs.declared.deeds.Deed.TheVariants.{Life}
use Rattle.cct_audit_taps.specs.Deeds.{deed}
use Rattle.cct_audit_taps.specs.Taps.{Tap, is_message, life_shown, quiet_shown, shown}

-- A tap shows a reading.
abbrev pub is_reading : Shown → Bool
is_reading (Read c) = true
is_reading (Masked mask) = false
is_reading Set = false
is_reading Nothing = false

-- A tap shows an inhibit mask.
abbrev pub is_masked : Shown → Bool
is_masked (Read c) = false
is_masked (Masked mask) = true
is_masked Set = false
is_masked Nothing = false

-- A tap shows events of an acceptor of which premises are tried.
abbrev pub is_events : Sign → Bool
is_events (Events c) = true
is_events s = false

-- A tap shows the inhibit mask of an acceptor of which premises are tried.
abbrev pub is_mask : Sign → Bool
is_mask (Mask mask) = true
is_mask s = false

-- A tap shows a life count.
abbrev pub is_life : Option ℕ → Bool
is_life None = false
is_life (Some count) = true

-- A tap shows the life count of a hopper of which premises are tried.
abbrev pub is_counted : Deed → Bool
is_counted (Life count) = true
is_counted s = false

-- A count with one more, where there is one. At its greatest it stands still.
abbrev pub one_more : Bool → ℕ → ℕ
one_more more count = if more then min (count + 1) 4294967295 else count

-- A tally with one tap more: whether it was a message to the device, and whether it showed a
-- reading or an inhibit mask.
abbrev pub tally_more : Bool → Bool → Bool → Tally → Tally
tally_more to_it reading mask t = record {
  messages = one_more to_it t.messages;
  readings = one_more reading t.readings;
  masks = one_more mask t.masks;
}

-- The tally of a device of a family after a tap.
abbrev pub tally_by : Family → CheckKind → ℕ → Tap → Tally → Tally
tally_by family.Acceptor kind addr tap t =
    tally_more (is_message kind addr tap.sent) (is_reading (shown kind addr tap))
    (is_masked (shown kind addr tap)) t
tally_by (family.QuietAcceptor money) kind addr tap t =
    tally_more (is_message kind addr tap.sent) (is_reading (quiet_shown money kind addr tap))
    (is_masked (quiet_shown money kind addr tap)) t
tally_by (family.Premises money) kind addr tap t =
    tally_more (is_message kind addr tap.sent) (is_events (sign money kind addr tap))
    (is_mask (sign money kind addr tap)) t
tally_by family.Hopper kind addr tap t =
    tally_more (is_message kind addr tap.sent) (is_life (life_shown kind addr tap)) false t
tally_by family.HopperPremises kind addr tap t =
    tally_more (is_message kind addr tap.sent) (is_counted (deed kind addr tap)) false t

-- The tally before any tap.
abbrev pub no_tally : Tally
no_tally = record { messages = 0; readings = 0; masks = 0 }

-- The tally of a device of a family after taps, newest first.
abbrev pub tally_of : Family → CheckKind → ℕ → List Tap → Tally
tally_of fam kind addr [] = no_tally
tally_of fam kind addr (t ∷ taps) = tally_by fam kind addr t (tally_of fam kind addr taps)
