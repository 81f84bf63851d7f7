-- What the lines of a capture do to the monitor.
use Rattle.std.specs.Prelude.{◌≡◌, ℕ, ◌==◌, List, ◌∷◌, length}
use Rattle.std.specs.List.{list_any}
use Rattle.cct_audit_taps.specs.declared.said.Said.{Said}
use Rattle.cct_monitor.specs.declared.monitor.Monitor.{Monitor}
use Rattle.cct_monitor.specs.Monitor.{StandsFor, is_watched, watch_count}
use Rattle.cct_audit_taps.specs.Taps.{Tap}
use Rattle.cct_monitor.specs.Watches.{Came, Watch, made_tap, made_watch, said_of_all}
use Rattle.cct_audit.specs.declared.reading.Opened.{Opened}
use Rattle.cct_audit.specs.declared.reading.Opened.TheVariants as opened
use Rattle.cct_audit.specs.declared.reading.Tapped.{Tapped}
use Rattle.cct_audit.specs.declared.reading.Tapped.TheVariants as tapped
use Rattle.cct_audit.specs.Capture.{Read, addresses_in, comes, opens, over, tapping, watching}

-- A monitor watches what came, newest first: it represents it, and the addresses are those of the
-- devices that came.
pub record Watches (monitor : Monitor) (past : List Came) : Type 0 where
  pub stands : StandsFor monitor past
  pub addresses : (addr : ℕ) → is_watched monitor addr
      ≡ list_any (λ a. a == addr) (addresses_in past)
  pub many : watch_count monitor ≡ length (addresses_in past)

-- A line before `begin` is this to a capture, after what came, and the monitor goes on by it.
abbrev pub TakesWatch : List Came → Opened → Monitor → (Read → Type 0) → Type 0
TakesWatch past opened.Watched monitor Is =
    (w : Watch) × Is (comes (made_watch w) (watching (made_watch w ∷ past)))
    × Watches monitor (made_watch w ∷ past)
TakesWatch past opened.Begun monitor Is = Is (opens tapping) × Watches monitor past

-- A line after `begin` is this to a capture, after what came, and the monitor goes on by it, and
-- says this.
abbrev pub TakesTap : List Came → Tapped → Monitor → List Said → (Read → Type 0) → Type 0
TakesTap past tapped.Tapped monitor report Is =
    (t : Tap) × Is (comes (made_tap t) tapping) × StandsFor monitor (made_tap t ∷ past)
    × (report ≡ said_of_all t past)
TakesTap past tapped.Ended monitor report Is = Is (opens over) × StandsFor monitor past
