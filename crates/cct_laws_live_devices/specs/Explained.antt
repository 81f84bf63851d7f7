-- A world that explains what live hosts reported, by what happened to the devices and what bytes
-- they heard.
use Rattle.std.specs.Prelude.{◌≡◌, Bool, true, false, cond, List, [], ◌∷◌, ◌++◌, ⊤}
use Rattle.cct_model.specs.terms.device.DeviceSetup.{DeviceSetup}
use Rattle.cct_model.specs.terms.device.Setup.{Setup}
use Rattle.cct_model.specs.lines.command.WireFault.TheVariants as fault
use Rattle.cct_model.specs.lines.entry.Entry.{Entry}
use Rattle.cct_model.specs.lines.entry.Entry.TheVariants as entry
use Rattle.cct_model.specs.Transcript.{met, pending}
use Rattle.cct_laws_live_devices.specs.Asked.{Moment, entries, met_in}
use Rattle.cct_laws_live_devices.specs.Same.{Same}
use Rattle.cct_laws_live_devices.specs.World.{Befalls, IsJustTold, OverDevices}

-- All this happened to devices, newest first, after a past.
abbrev pub AllBefell : Setup → List Entry → List Entry → Type 0
AllBefell setup past [] = ⊤
AllBefell setup past (e ∷ late) = Befalls setup (late ++ past) e × AllBefell setup past late

-- An entry says that something happened to a device.
abbrev pub is_befalling : Entry → Bool
is_befalling (entry.Accepted addr c) = true
is_befalling (entry.Held addr place) = true
is_befalling (entry.Inhibited addr place) = true
is_befalling (entry.Alien addr) = true
is_befalling (entry.Fell addr) = true
is_befalling (entry.NoFall addr) = true
is_befalling (entry.Jammed addr) = true
is_befalling (entry.NoJam addr) = true
is_befalling (entry.Reset addr) = true
is_befalling e = false

-- All that happened to devices in a world, newest first.
abbrev pub befallen : List Entry → List Entry
befallen [] = []
befallen (e ∷ world) = cond (is_befalling e) (e ∷ befallen world) (befallen world)

-- Live hosts reported this past of a world in which the devices on their line answered as the
-- model's do. The world goes up to the newest entry reported, and what happened to the devices
-- since is after it. What happened to them in it is what happened to them in the history of the
-- line, in its order, and each device is as after that.
pub record IsExplained (setup : Setup) (history : List Moment) (past : List Entry) : Type 0 where
  pub world : List Entry
  pub since : List Entry
  pub over : OverDevices setup world past
  pub newest : IsJustTold world
  pub befell : AllBefell setup world since
  pub clear : pending world ≡ fault.Clear
  pub same : (d : DeviceSetup) → Same (met_in d history) (met d (since ++ world))
  pub all : befallen (since ++ world) ≡ entries history
