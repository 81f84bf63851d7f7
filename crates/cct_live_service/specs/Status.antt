-- What a `status` reports: each device of the setup, in its order, then the last id, and then the
-- room of the journal.
use Rattle.std.specs.Prelude.{◌≡◌, ℕ, List, [], ◌∷◌, ◌++◌, flat_map, map, Option, Some, None}
use Rattle.cct_model.specs.lines.command.Command.{Command}
use Rattle.cct_model.specs.terms.device.DeviceSetup.{DeviceSetup}
use Rattle.cct_model.specs.declared.judging.EpochState.{EpochState}
use Rattle.cct_model.specs.declared.judging.OpenOrder.{OpenOrder}
use Rattle.cct_live_service.specs.declared.notice.Notice.{Notice}
use Rattle.cct_live_service.specs.declared.notice.Notice.TheVariants as notice_of
use Rattle.cct_live_service.specs.declared.watch.Watch.{Watch}
use Rattle.cct_live_service.specs.Told.{Told, notices_told}
use Rattle.cct_live_service.specs.Watch.{place_at}

-- What is reported of a device: the job at its address, its epoch, its open order, and the place of
-- the bill that it holds, if it holds one.
pub record Stand : Type 0 where
  pub addr : ℕ
  pub job : Option Command
  pub epoch : EpochState
  pub order : Option OpenOrder
  pub held : Option ℕ

-- The bill that it holds is the one that is remembered.
abbrev pub HoldsAs : Watch → Stand → Type 0
HoldsAs w s = s.held ≡ place_at w s.addr

-- The bill that is held at an address is reported, if one is.
abbrev pub held_notices : ℕ → Option ℕ → List Notice
held_notices addr None = []
held_notices addr (Some place) = notice_of.Held addr place ∷ []

-- A device is reported, and then its bill.
abbrev pub stand_notices : Stand → List Notice
stand_notices s = notice_of.Device s.addr s.job s.epoch s.order ∷ held_notices s.addr s.held

-- All devices are reported.
abbrev pub stands_notices : List Stand → List Notice
stands_notices stands = flat_map stand_notices stands

-- The last id and the room are reported.
abbrev pub end_notices : ℕ → ℕ → List Notice
end_notices id records = notice_of.Last id ∷ notice_of.Room records ∷ []

-- The addresses at which devices are reported.
abbrev pub addresses_told : List Stand → List ℕ
addresses_told stands = map (λ (s : Stand). s.addr) stands

-- The addresses of the devices of a setup.
abbrev pub addresses_in : List DeviceSetup → List ℕ
addresses_in devices = map (λ (d : DeviceSetup). d.addr) devices

-- These notices are a status: a line for each of the devices, in their order, the last id, and the
-- room.
abbrev pub AreStatus : List DeviceSetup → List Notice → Type 0
AreStatus devices notices =
    (stands : List Stand) × (id : ℕ) × (records : ℕ)
    × (addresses_told stands ≡ addresses_in devices)
    × (notices ≡ stands_notices stands ++ end_notices id records)

-- They are reported.
abbrev pub AreOfStatus : List DeviceSetup → List Told → Type 0
AreOfStatus devices told =
    (notices : List Notice) × AreStatus devices notices × (told ≡ notices_told notices)
