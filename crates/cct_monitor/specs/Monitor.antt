-- A monitor that represents all that came to it.
use Rattle.std.specs.Prelude.{◌≡◌, ℕ, Bool, List, map, length}
use Rattle.std.specs.List.{list_any}
use Rattle.cct_monitor.specs.declared.watched.Kept.{Kept}
use Rattle.cct_monitor.specs.declared.watched.Kept.TheVariants.{Acceptor, QuietAcceptor, Premises}
use Rattle.cct_monitor.specs.declared.watched.Kept.TheVariants.{Hopper, HopperPremises}
use Rattle.cct_monitor.specs.declared.watched.Family.{Family}
use Rattle.cct_monitor.specs.declared.watched.Heard.{Heard}
use Rattle.cct_monitor.specs.declared.watched.Family.TheVariants as family
use Rattle.cct_monitor.specs.declared.watched.Watched.{Watched}
use Rattle.cct_monitor.specs.declared.monitor.Monitor.{Monitor}
use Rattle.cct_audit_taps.specs.Signs.{known_after}
use Rattle.cct_audit_taps.specs.Deeds.{hopper_after}
use Rattle.cct_monitor.specs.Lives.{last_life}
use Rattle.cct_monitor.specs.Machine.{acceptor_after, quiet_after}
use Rattle.cct_monitor.specs.Tallies.{tally_of}
use Rattle.cct_monitor.specs.Places.{has_addr}
use Rattle.cct_monitor.specs.Watches.{Account, Came, accounts, deeds_of, lives_of, looks_of}
use Rattle.cct_monitor.specs.Watches.{quiet_looks_of, signs_of, taps_in}

-- How many taps came to a monitor.
abbrev pub tap_count : Monitor → ℕ
tap_count monitor = monitor.taps

-- How many devices it watches.
abbrev pub watch_count : Monitor → ℕ
watch_count monitor = length monitor.devices.items

-- Whether it watches a device at an address.
abbrev pub is_watched : Monitor → ℕ → Bool
is_watched monitor addr = list_any (has_addr addr) monitor.devices.items

-- What is kept of a watched device, by its family.
abbrev pub kept_by : Family → Account → Kept
kept_by family.Acceptor a = Acceptor (acceptor_after (looks_of a))
kept_by (family.QuietAcceptor money) a = QuietAcceptor money (quiet_after (quiet_looks_of money a))
kept_by (family.Premises money) a = Premises money (known_after (signs_of money a))
kept_by family.Hopper a = Hopper (last_life (lives_of a))
kept_by family.HopperPremises a = HopperPremises (hopper_after (deeds_of a))

-- A watched device with what is kept of it.
abbrev pub watched_as : Account → Watched
watched_as a = record {
  addr = a.watch.addr;
  kind = a.watch.kind;
  tally = tally_of a.watch.family a.watch.kind a.watch.addr a.taps;
  kept = kept_by a.watch.family a;
}

-- What is reported of a watched device: how many taps were for it.
abbrev pub heard_of : Account → Heard
heard_of a = record {
  addr = a.watch.addr;
  kind = a.watch.kind;
  family = a.watch.family;
  tally = tally_of a.watch.family a.watch.kind a.watch.addr a.taps;
}

-- A monitor represents all that came to it, newest first: it counted the taps, and keeps what it
-- has to of each watched device, in rising order of address.
pub record StandsFor (monitor : Monitor) (past : List Came) : Type 0 where
  pub counted : tap_count monitor ≡ taps_in past
  pub devices : monitor.devices.items ≡ map watched_as (accounts past)
