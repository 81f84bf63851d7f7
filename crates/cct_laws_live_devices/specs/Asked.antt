-- A world in which devices are also asked who they are, by questions that no host reports: as
-- `cct_live` does before its host starts.
use Rattle.std.specs.Prelude.{◌≡◌, ℕ, ◌==◌, true, List, [], ◌∷◌, ◌++◌, flat_map, if◌then◌else◌}
use Rattle.std.specs.Prelude.{MatchBool, unwrap_or, ⊤}
use Rattle.cct_model.specs.terms.device.DeviceSetup.{DeviceSetup}
use Rattle.cct_model.specs.terms.device.Setup.{Setup}
use Rattle.cct_model.specs.terms.family.Happening.{Happening}
use Rattle.cct_model.specs.terms.family.Happening.TheVariants as happening
use Rattle.cct_model.specs.lines.command.WireFault.{WireFault}
use Rattle.cct_model.specs.lines.entry.Entry.{Entry}
use Rattle.cct_model.specs.lines.entry.Entry.TheVariants as entry
use Rattle.cct_model.specs.Acceptor.{accepts, path_of}
use Rattle.cct_model.specs.Bill.{holds}
use Rattle.cct_model.specs.Exchange.{answer, asks_of, by_address, device_at}
use Rattle.cct_model.specs.Family.{IsPlaced}
use Rattle.cct_model.specs.History.{Met, heard}
use Rattle.cct_model.specs.Honest.{HonestPast}
use Rattle.cct_model.specs.Hopper.{remaining}
use Rattle.cct_model.specs.Legal.{OfKnowing}
use Rattle.cct_model.specs.Script.{IsFault}
use Rattle.cct_model.specs.Transcript.{heard_by_devices, heard_by_host, meets, pending}
use Rattle.cct_laws_live_devices.specs.Questions.{is_question}
use Rattle.cct_laws_live_devices.specs.World.{HeardAs, IsJustTold, is_told, told}

-- An entry of a world; or bytes that the devices heard in an exchange that no host reports.
pub data Moment : Type 0 where
  did : (e : Entry) → Moment
  asks : (piece : List ℕ) → Moment

-- The entries, newest first.
abbrev pub entries : List Moment → List Entry
entries [] = []
entries (did e ∷ past) = e ∷ entries past
entries (asks piece ∷ past) = entries past

-- All that a device met.
abbrev pub met_in : DeviceSetup → List Moment → List Met
met_in d [] = []
met_in d (did e ∷ past) = meets d (entries past) e ++ met_in d past
met_in d (asks piece ∷ past) = heard (asks_of d piece) ∷ met_in d past

-- What the host hears after it sent bytes, by what each device met.
unfoldable pub heard_by : Setup → (DeviceSetup → List Met) → WireFault → List ℕ → List ℕ
heard_by setup mets f sent =
    heard_by_host f sent
    (flat_map (λ d. unwrap_or (answer d (mets d) (heard_by_devices f sent)) [])
    (by_address setup.devices))

-- The entry of what happens to the device at an address that met all this.
abbrev pub befalling : ℕ → DeviceSetup → List Met → Happening → Entry
befalling addr d past (happening.Coin place) =
    if accepts past place
    then entry.Accepted d.addr (record { place = place; path = path_of past place })
    else entry.Inhibited d.addr place
befalling addr d past happening.Alien = entry.Alien addr
befalling addr d past (happening.Bill place) =
    if holds past place then entry.Held d.addr place else entry.Inhibited d.addr place
befalling addr d past happening.Fall =
    if remaining d.serial past == 0 then entry.NoFall d.addr else entry.Fell d.addr
befalling addr d past happening.Jam =
    if remaining d.serial past == 0 then entry.NoJam d.addr else entry.Jammed d.addr
befalling addr d past happening.Reset = entry.Reset addr

-- An entry is what an event makes of the device that knows of it, after what that met.
abbrev pub BefallsIn : Setup → List Moment → Entry → Type 0
BefallsIn setup past e =
    (addr : ℕ) × (what : Happening) × IsPlaced what
    × OfKnowing what (device_at setup.devices addr)
    (λ d. (e ∷ []) ≡ (befalling addr d (met_in d past) what ∷ []))

-- What the devices and the wire have to do with an entry, as `AnswersAt`. Bytes that no host
-- reports ask nothing of any device but who it is and which coins it knows.
abbrev pub AnswersIn : Setup → List Moment → Moment → Type 0
AnswersIn setup past (did (entry.Wire addr sent piece)) =
    HeardAs addr sent piece (heard_by setup (λ d. met_in d past) (pending (entries past)) sent)
AnswersIn setup past (did (entry.Fault f)) = IsFault f
AnswersIn setup past (did (entry.Ended addr end)) = IsJustTold (entries past)
AnswersIn setup past (did (entry.Kept r)) = IsJustTold (entries past)
AnswersIn setup past (did e) = MatchBool (is_told e) ⊤ (BefallsIn setup past e)
AnswersIn setup past (asks piece) = (d : DeviceSetup) → is_question (asks_of d piece) ≡ true

-- So at each moment.
abbrev pub AnswersAll : Setup → List Moment → Type 0
AnswersAll setup [] = ⊤
AnswersAll setup (m ∷ past) = AnswersIn setup past m × AnswersAll setup past

-- Live hosts reported this past of such a world, over an honest wire.
pub record OverAskedDevices (setup : Setup) (world : List Moment) (past : List Entry) : Type 0 where
  pub answered : AnswersAll setup world
  pub honest : HonestPast (entries world)
  pub tells : told (entries world) ≡ past
