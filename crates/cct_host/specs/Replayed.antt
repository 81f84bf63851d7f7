-- Desks of a host that starts over a carry or over records, newest first: they have what these
-- show, and no job.
use Rattle.std.specs.Prelude.{◌≡◌, ℕ, List, [], ◌∷◌, None, ⊤}
use Rattle.std.specs.List.{All}
use Rattle.cct_model.specs.terms.device.DeviceSetup.{DeviceSetup}
use Rattle.cct_model.specs.lines.carry.Carry.{Carry}
use Rattle.cct_model.specs.lines.record.Record.{Record}
use Rattle.cct_model.specs.Carry.{known_by}
use Rattle.cct_model.specs.Following.{Known, known_in}
use Rattle.cct_model.specs.Records.{greatest_id}
use Rattle.cct_model.specs.Setup.{IsSoundSetup}
use Rattle.cct_jobs.specs.Jobs.{order_of}
use Rattle.cct_host.specs.declared.desk.JobDesk.{JobDesk}
use Rattle.cct_host.specs.declared.desks.Desks.{Desks}
use Rattle.cct_host.specs.Desk.{IsFree}
use Rattle.cct_host.specs.Desks.{setup_of}

-- No job is at a desk.
abbrev pub IsUnused : JobDesk → Type 0
IsUnused desk = desk.job ≡ None

-- No job is at any address.
pub record AreUnused (desks : Desks) : Type 0 where
  pub devices : All IsUnused desks.devices.items
  pub scan : IsFree desks.scan
  pub sale : IsFree desks.sale

-- The desk of a device has the epoch and the open order that are known of its address, and no job
-- is running.
pub record ReplaysAt (d : DeviceSetup) (desk : JobDesk) (k : Known) : Type 0 where
  pub epoch_is : desk.epoch ≡ k.epoch_at d.addr
  pub order_is : order_of desk.orders.order ≡ k.order_at d.addr
  pub id_is : desk.orders.id ≡ 0
  pub begun_is : desk.orders.begun ≡ None

-- Each desk is so of the device at its index.
abbrev pub AllReplay : List DeviceSetup → List JobDesk → Known → Type 0
AllReplay [] [] k = ⊤
AllReplay (d ∷ ds) (desk ∷ desks) k = ReplaysAt d desk k × AllReplay ds desks k
AllReplay [] (desk ∷ desks) k = ⊥
AllReplay (d ∷ ds) [] k = ⊥

-- Desks begin with what is known and with this greatest id: the setup is sound, no job is at any
-- address, and each desk of a device has what is known of it.
pub record BeginsWith (desks : Desks) (k : Known) (last : ℕ) : Type 0 where
  pub sound : IsSoundSetup (setup_of desks)
  pub unused : AreUnused desks
  pub devices : AllReplay (setup_of desks).devices desks.devices.items k
  pub last_is : desks.last ≡ last

-- Desks begin with what records, newest first, show.
abbrev pub Replays : Desks → List Record → Type 0
Replays desks before = BeginsWith desks (known_in (setup_of desks) before) (greatest_id before)

-- Desks begin with what a carry shows.
abbrev pub Resumes : Desks → Carry → Type 0
Resumes desks c = BeginsWith desks (known_by (setup_of desks) c) c.last_id
