-- The watched devices of a monitor, and what is said of them.
use Rattle.std.specs.Prelude.{ℕ, suc, nat_le, List, [], ◌∷◌, ◌++◌, map, replicate, if◌then◌else◌}
use Rattle.std.specs.Prelude.{Option, None}
use Rattle.std.specs.List.{flat_map}
use Rattle.cct_model.specs.terms.wire.CheckKind.{CheckKind}
use Rattle.cct_audit_taps.specs.declared.shown.Shown.{Shown}
use Rattle.cct_audit_taps.specs.declared.shown.Shown.TheVariants.{Nothing}
use Rattle.cct_audit_taps.specs.declared.said.Said.{Said}
use Rattle.cct_audit_taps.specs.declared.money.Money.{Money}
use Rattle.cct_monitor.specs.declared.watched.Family.{Family}
use Rattle.cct_monitor.specs.declared.watched.Family.TheVariants.{Acceptor, QuietAcceptor, Premises}
use Rattle.cct_monitor.specs.declared.watched.Family.TheVariants.{Hopper, HopperPremises}
use Rattle.cct_audit_taps.specs.declared.signs.Sign.{Sign}
use Rattle.cct_audit_taps.specs.declared.signs.Sign.TheVariants as signs
use Rattle.cct_audit_taps.specs.Signs.{broken_at, sign}
use Rattle.cct_audit_taps.specs.declared.deeds.Deed.{Deed}
use Rattle.cct_audit_taps.specs.declared.deeds.Deed.TheVariants as deeds
use Rattle.cct_audit_taps.specs.Deeds.{deed, hopper_broken_at}
use Rattle.cct_audit_taps.specs.Taps.{Tap, shown, quiet_shown, life_shown}
use Rattle.cct_monitor.specs.Spans.{said_at, said_last, quiet_at}
use Rattle.cct_monitor.specs.Lives.{fell_at}

-- A device that is watched: its address, its check and its family.
pub record Watch : Type 0 where
  pub addr : ℕ
  pub kind : CheckKind
  pub family : Family

-- What comes to a monitor: a device that is watched from then on, and a tap.
pub data Came : Type 0 where
  made_watch : (w : Watch) → Came
  made_tap : (t : Tap) → Came

-- How many taps came.
abbrev pub taps_in : List Came → ℕ
taps_in [] = 0
taps_in (made_watch w ∷ past) = taps_in past
taps_in (made_tap t ∷ past) = suc (taps_in past)

-- A watched device with how many taps came before it was watched, and those that came since, newest
-- first.
pub record Account : Type 0 where
  pub watch : Watch
  pub before : ℕ
  pub taps : List Tap

-- A watched device after one more tap.
abbrev pub with_tap : Tap → Account → Account
with_tap t a = record { watch = a.watch; before = a.before; taps = t ∷ a.taps }

-- What all taps show of a watched acceptor, newest first: those before it was watched, nothing.
abbrev pub looks_of : Account → List Shown
looks_of a = map (shown a.watch.kind a.watch.addr) a.taps ++ replicate a.before Nothing

-- The same of one of this money that is watched for resets alone.
abbrev pub quiet_looks_of : Money → Account → List Shown
quiet_looks_of money a =
    map (quiet_shown money a.watch.kind a.watch.addr) a.taps ++ replicate a.before Nothing

-- What all taps show of a watched acceptor of this money of which premises are tried, newest first.
abbrev pub signs_of : Money → Account → List Sign
signs_of money a =
    map (sign money a.watch.kind a.watch.addr) a.taps ++ replicate a.before signs.Nothing

-- The life counts that all taps show of a watched hopper, newest first: those before it was
-- watched, none.
abbrev pub lives_of : Account → List (Option ℕ)
lives_of a = map (life_shown a.watch.kind a.watch.addr) a.taps ++ replicate a.before None

-- What all taps show of a watched hopper of which premises are tried, newest first.
abbrev pub deeds_of : Account → List Deed
deeds_of a = map (deed a.watch.kind a.watch.addr) a.taps ++ replicate a.before deeds.Nothing

-- A watched device put among others in rising order of address.
abbrev pub put_by_address : Account → List Account → List Account
put_by_address a [] = a ∷ []
put_by_address a (b ∷ bs) =
    if nat_le a.watch.addr b.watch.addr then a ∷ b ∷ bs else b ∷ put_by_address a bs

-- The watched devices after all that came, newest first.
abbrev pub accounts : List Came → List Account
accounts [] = []
accounts (made_watch w ∷ past) =
    put_by_address (record { watch = w; before = taps_in past; taps = [] }) (accounts past)
accounts (made_tap t ∷ past) = map (with_tap t) (accounts past)

-- What a tap makes said of a watched device of a family.
abbrev pub said_by : Family → Tap → Account → List Said
said_by Acceptor t a = said_at a.watch.addr (shown a.watch.kind a.watch.addr t) (looks_of a)
said_by (QuietAcceptor money) t a =
    quiet_at a.watch.addr (quiet_shown money a.watch.kind a.watch.addr t) (quiet_looks_of money a)
said_by (Premises money) t a =
    broken_at a.watch.addr (sign money a.watch.kind a.watch.addr t) (signs_of money a)
said_by Hopper t a = fell_at a.watch.addr (life_shown a.watch.kind a.watch.addr t) (lives_of a)
said_by HopperPremises t a =
    hopper_broken_at a.watch.addr (deed a.watch.kind a.watch.addr t) (deeds_of a)

-- What a tap makes said of a watched device.
abbrev pub said_of : Tap → Account → List Said
said_of t a = said_by a.watch.family t a

-- What a tap makes said of all watched devices.
abbrev pub said_of_all : Tap → List Came → List Said
said_of_all t past = flat_map (said_of t) (accounts past)

-- All that a monitor says at the taps of all that came, newest first; what is said first stands
-- first.
abbrev pub all_told : List Came → List Said
all_told [] = []
all_told (made_watch w ∷ past) = all_told past
all_told (made_tap t ∷ past) = all_told past ++ said_of_all t past

-- What is said of a watched device of a family at the end.
abbrev pub finally_by : Family → Account → List Said
finally_by Acceptor a = said_last a.watch.addr (looks_of a)
finally_by (QuietAcceptor money) a = []
finally_by (Premises money) a = []
finally_by Hopper a = []
finally_by HopperPremises a = []

-- What is said of a watched device at the end.
abbrev pub finally_of : Account → List Said
finally_of a = finally_by a.watch.family a

-- What is said of all at the end, in rising order of address.
abbrev pub finally_of_all : List Came → List Said
finally_of_all past = flat_map finally_of (accounts past)

-- A device that was watched before the first tap, after these taps.
abbrev pub from_begin : List Tap → Watch → Account
from_begin taps w = record { watch = w; before = 0; taps = taps }

-- A device to be watched put among others in rising order of address.
abbrev pub put_watch : Watch → List Watch → List Watch
put_watch w [] = w ∷ []
put_watch w (v ∷ vs) = if nat_le w.addr v.addr then w ∷ v ∷ vs else v ∷ put_watch w vs

-- Devices to be watched in rising order of address.
abbrev pub by_address : List Watch → List Watch
by_address [] = []
by_address (w ∷ ws) = put_watch w (by_address ws)
