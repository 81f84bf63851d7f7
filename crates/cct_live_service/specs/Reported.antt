-- What is reported of how a host stands, against all that was reported before it.
use Rattle.std.specs.Prelude.{◌≡◌, ◌≢◌, ◌⊎◌, ◌==◌, ℕ, List, [], ◌∷◌, ◌++◌, if◌then◌else◌}
use Rattle.std.specs.Prelude.{Option, Some, None, OnOk, Result, Ok, ⊤}
use Rattle.std.specs.List.{All}
use Rattle.cct_edge.specs.declared.fault.Failed.{Failed}
use Rattle.cct_disk.specs.declared.disk.Disk.{Ghosts}
use Rattle.cct_model.specs.terms.device.DeviceSetup.{DeviceSetup}
use Rattle.cct_model.specs.terms.device.Setup.{Setup}
use Rattle.cct_model.specs.declared.judging.OpenOrder.{OpenOrder}
use Rattle.cct_model.specs.lines.record.Record.{Record}
use Rattle.cct_model.specs.lines.entry.Entry.{Entry}
use Rattle.cct_model.specs.lines.entry.Entry.TheVariants as entry_of
use Rattle.cct_model.specs.Records.{records}
use Rattle.cct_model.specs.Refusal.{last_id}
use Rattle.cct_journal.specs.Opening.{RefusesOpen}
use Rattle.cct_journal.specs.declared.format.TheConstants.{MOST_RECORDS}
use Rattle.cct_journal.specs.declared.refusal.OpenNo.{OpenNo}
use Rattle.cct_journal.specs.declared.refusal.OpenNo.TheVariants as opening
use Rattle.cct_host.specs.declared.host.Host.{Host}
use Rattle.cct_disk.specs.Disk.{IsTrusted}
use Rattle.cct_host.specs.Host.{Keeps, StandsFor, disk_of, setup_of}
use Rattle.cct_host.specs.Standing.{command_at, epoch_at, order_at, room_after}
use Rattle.cct_live_service.specs.declared.notice.Notice.{Notice}
use Rattle.cct_live_service.specs.declared.notice.Notice.TheVariants as notice_of
use Rattle.cct_live_order.specs.Looking.{Looks}
use Rattle.cct_live_order.specs.Told.{order_in}
use Rattle.cct_live_order.specs.declared.told.OrderTold.{OrderTold}
use Rattle.cct_live_order.specs.declared.told.OrderTold.TheVariants as order_of
use Rattle.cct_live_service.specs.Stated.{IsStateOf, kept_in}
use Rattle.cct_live_service.specs.declared.watch.Watch.{Watch}
use Rattle.cct_live_service.specs.Linked.{AreStanding}
use Rattle.cct_live_service.specs.Status.{AreStatus, HoldsAs, Stand, addresses_in, addresses_told}
use Rattle.cct_live_service.specs.Status.{stand_notices, stands_notices}
use Rattle.cct_live_service.specs.Told.{IsOfStatus, Told, WritesTold, answer_news, entry, knows}
use Rattle.cct_live_service.specs.Told.{notice, notices_told, pays, unsent}

-- What is reported of the order of an id, where this is an open order at an address.
abbrev pub open_by : ℕ → ℕ → Option OpenOrder → Option OrderTold
open_by id addr None = None
open_by id addr (Some owed) = if owed.id == id then Some (order_of.Open addr owed.count) else None

-- This is reported, or else the other.
abbrev pub first_of : Option OrderTold → Option OrderTold → Option OrderTold
first_of None other = other
first_of (Some told) other = Some told

-- What is reported of the first of some devices of which something is.
abbrev pub first_in : (DeviceSetup → Option OrderTold) → List DeviceSetup → Option OrderTold
first_in tells [] = None
first_in tells (d ∷ devices) = first_of (tells d) (first_in tells devices)

-- What is reported of an order that is open at one of the devices, after a past.
abbrev pub open_in : Setup → List Entry → ℕ → Option OrderTold
open_in setup past id = first_in (λ d. open_by id d.addr (order_at setup past d.addr)) setup.devices

-- Just this is reported, where it is known.
abbrev pub IsJust : Option OrderTold → OrderTold → Type 0
IsJust None told = ⊤
IsJust (Some known) told = told ≡ known

-- This is reported, or else the other.
abbrev pub told_or : Option OrderTold → OrderTold → OrderTold
told_or None other = other
told_or (Some told) other = told

-- What is reported of the order of an id after a past, with these records, newest first, since the
-- journal last turned: where it is open, if it is, and else what these show.
abbrev pub order_told : Setup → List Entry → List Record → ℕ → OrderTold
order_told setup past since id = told_or (open_in setup past id) (order_in id since)

-- What an image shows of the order of an id is reported: what the records do that it has after
-- those of its carry; or that it can't be read, since this was missed where the disk failed.
abbrev pub LooksUp : List ℕ → ℕ → Type 0 → OrderTold → Type 0
LooksUp image id Missed told =
    Looks image id (Ok told)
    ⊎ ((told ≡ order_of.Unread)
    × ((why : OpenNo) × RefusesOpen why image × (why ≡ opening.Disk → Missed)))

-- That is reported, or that it couldn't be read.
abbrev pub IsTold : Setup → List Entry → List Record → ℕ → OrderTold → Type 0
IsTold setup past since id told =
    (told ≡ order_told setup past since id) ⊎ (told ≡ order_of.Unread)

-- A notice says how a host is after a past: the job, the running epoch and the open order at an
-- address, the last id, and the room of the journal.
abbrev pub IsSo : Setup → List Entry → Notice → Type 0
IsSo setup past (notice_of.Device addr job epoch order) =
    (job ≡ command_at setup past addr) × (epoch ≡ epoch_at setup past addr)
    × (order ≡ order_at setup past addr)
IsSo setup past (notice_of.Last id) = id ≡ last_id setup past
IsSo setup past (notice_of.Room records) = records ≡ room_after MOST_RECORDS setup past
IsSo setup past n = ⊤

-- And it says where an order is open; and where this holds, as that the disk is trusted, what the
-- records since the journal last turned, those of all that this makes of them, show of another one.
abbrev pub IsSoWhere : Type 0 → (List Record → List Record) → Setup → List Entry → Notice → Type 0
IsSoWhere trusted since setup past (notice_of.Order id told) =
    IsJust (open_in setup past id) told
    × (trusted → IsTold setup past (since (records past)) id told)
IsSoWhere trusted since setup past n = IsSo setup past n

-- Each does among what is reported, after the past and the entries that are reported before it; and
-- what the journal knows is reported as the state of the records of that past, where the same
-- holds.
abbrev pub AreSoWhere : Type 0 → (List Record → List Record) → Setup → List Entry → List Told →
    Type 0
AreSoWhere trusted since setup past [] = ⊤
AreSoWhere trusted since setup past (entry e ∷ told) =
    AreSoWhere trusted since setup (e ∷ past) told
AreSoWhere trusted since setup past (unsent addr sent ∷ told) =
    AreSoWhere trusted since setup (entry_of.Wire addr sent [] ∷ past) told
AreSoWhere trusted since setup past (pays p answer ∷ told) =
    AreSoWhere trusted since setup (answer_news p answer ++ past) told
AreSoWhere trusted since setup past (notice n ∷ told) =
    IsSoWhere trusted since setup past n × AreSoWhere trusted since setup past told
AreSoWhere trusted since setup past (knows all line ∷ told) =
    (trusted → IsStateOf setup (records past) (since (records past)) all)
    × AreSoWhere trusted since setup past told
AreSoWhere trusted since setup past (what ∷ told) = AreSoWhere trusted since setup past told

module _ {D : Type 0} {g : Ghosts D} where
  -- This is reported of the order of an id by the records since the journal of a host last turned,
  -- where its disk is trusted; or that it couldn't be read, since this was missed.
  abbrev pub IsRecorded : Host D g → ℕ → Type 0 → OrderTold → Type 0
  IsRecorded host id Missed told =
      (past : List Entry) → StandsFor host past → IsTrusted g.honest g.seen (disk_of host)
      → ((told ≡ order_in id (kept_in host past)) × (told ≢ order_of.Unread))
      ⊎ ((told ≡ order_of.Unread) × Missed)

  -- This is reported of the order of an id, where a host represents a past and its disk is trusted;
  -- or that it couldn't be read, since this was missed.
  abbrev pub IsOrderOf : Host D g → ℕ → Type 0 → OrderTold → Type 0
  IsOrderOf host id Missed told =
      (past : List Entry) → StandsFor host past → IsTrusted g.honest g.seen (disk_of host)
      → ((told ≡ order_told (setup_of host) past (kept_in host past) id)
      × (told ≢ order_of.Unread)) ⊎ ((told ≡ order_of.Unread) × Missed)

  -- A notice of how this host stands.
  abbrev pub IsStatusOf : Host D g → Notice → Type 0
  IsStatusOf host n =
      IsOfStatus n × ((past : List Entry) → Keeps host past → IsSo (setup_of host) past n)

  -- These notices of it were written.
  abbrev pub WritesStatus : {K : Type 0} → (K → Option (List ℕ)) →
      (K → List ℕ → Result (Unit {0}) Failed → K → Type 0)
      → Host D g → K → List Notice → Result (Unit {0}) Failed → K → Type 0
  WritesStatus written puts host before notices result now =
      All (IsStatusOf host) notices × WritesTold written puts before (notices_told notices) result
      now

  -- It was written how the device at an address stands, and the bill that is remembered there.
  abbrev pub TellsDevice : {K : Type 0} → (K → Option (List ℕ)) →
      (K → List ℕ → Result (Unit {0}) Failed → K → Type 0)
      → Host D g → Watch → ℕ → K → Result (Unit {0}) Failed → K → Type 0
  TellsDevice written puts host w addr before result now =
      (s : Stand) × (s.addr ≡ addr) × HoldsAs w s
      × WritesStatus written puts host before (stand_notices s) result now

  -- It was written how these devices stand.
  abbrev pub TellsDevices : {K : Type 0} → (K → Option (List ℕ)) →
      (K → List ℕ → Result (Unit {0}) Failed → K → Type 0)
      → Host D g → Watch → List DeviceSetup → K → Result (Unit {0}) Failed → K → Type 0
  TellsDevices written puts host w devices before result now =
      (stands : List Stand) × (addresses_told stands ≡ addresses_in devices)
      × All (HoldsAs w) stands
      × WritesStatus written puts host before (stands_notices stands) result now

  -- Its status was written, or the first notices of one, up to one that couldn't be.
  abbrev pub TellsStatus : {K : Type 0} → (K → Option (List ℕ)) →
      (K → List ℕ → Result (Unit {0}) Failed → K → Type 0)
      → Host D g → Watch → K → Result (Unit {0}) Failed → K → Type 0
  TellsStatus written puts host w before result now =
      (notices : List Notice) × (others : List Notice) × OnOk result (others ≡ [])
      × AreStatus (setup_of host).devices (notices ++ others)
      × AreStanding w [] (notices_told notices)
      × WritesStatus written puts host before notices result now
