-- What a service begins with: what its disk had, and what it reports of it.
use Rattle.std.specs.Prelude.{◌≡◌, ℕ, ◌+◌, Bool, true, false, List, [], length, Option, Some}
use Rattle.std.specs.Prelude.{Result, is_some, count_by}
use Rattle.cct_edge.specs.declared.fault.Failed.{Failed}
use Rattle.cct_model.specs.terms.device.DeviceSetup.{DeviceSetup}
use Rattle.cct_model.specs.terms.device.Setup.{Setup}
use Rattle.cct_model.specs.lines.carry.Carry.{Carry}
use Rattle.cct_model.specs.lines.record.Record.{Record}
use Rattle.cct_model.specs.declared.judging.EpochState.{EpochState}
use Rattle.cct_model.specs.declared.judging.EpochState.TheVariants.{Idle, Running}
use Rattle.cct_model.specs.Carried.{empty_carry}
use Rattle.cct_model.specs.Carry.{Fits, all_follow_carry, carry_over, known_by}
use Rattle.cct_model.specs.Following.{Known, known_in}
use Rattle.cct_disk.specs.declared.disk.Disk.{Ghosts}
use Rattle.cct_journal.specs.Image.{HasFrom, IsBlank}
use Rattle.cct_host.specs.declared.host.Host.{Host}
use Rattle.cct_host.specs.Host.{setup_of}
use Rattle.cct_host.specs.Starting.{HasReplayed, HasResumed}
use Rattle.cct_laws_live.specs.Live.{started}
use Rattle.cct_text.specs.Writing.{PutsLine}
use Rattle.cct_live_service.specs.declared.notice.Notice.{Notice}
use Rattle.cct_live_service.specs.declared.notice.Notice.TheVariants as notice_of
use Rattle.cct_live_service.specs.Notice.{notice_line}
use Rattle.cct_live_service.specs.Found.{Begun, FoundOn, base_found, found_there, made_new}
use Rattle.cct_live_service.specs.Found.{was_found}
use Rattle.cct_live_service.specs.Since.{Given, StandsSince}

-- An epoch runs.
abbrev pub is_running : EpochState → Bool
is_running Idle = false
is_running (Running mask counter accepts) = true

-- At how many devices an order is open, by what is known.
abbrev pub orders_known : Known → List DeviceSetup → ℕ
orders_known k devices = count_by (λ d. is_some (k.order_at d.addr)) devices

-- At how many devices an epoch runs, by what is known.
abbrev pub epochs_known : Known → List DeviceSetup → ℕ
epochs_known k devices = count_by (λ d. is_running (k.epoch_at d.addr)) devices

-- What is reported of a journal that was there, with so many records, by what is known of its
-- devices.
abbrev pub found_notice : Setup → ℕ → Known → Notice
found_notice setup many k =
    notice_of.Found many (orders_known k setup.devices) (epochs_known k setup.devices)

-- What a service reports of what it began with: how many records there are, at how many devices an
-- order is open by them, and at how many an epoch runs.
abbrev pub opening_of : Setup → Begun → Notice
opening_of setup made_new = notice_of.Made
opening_of setup (found_there base c rest) =
    found_notice setup (base + length rest) (known_by setup (carry_over setup c rest))

-- The same by the records that were found, newest first.
abbrev pub opening_over : Setup → Begun → List Record → Notice
opening_over setup made_new records = notice_of.Made
opening_over setup (found_there base c rest) records =
    found_notice setup (length records) (known_in setup records)

-- A journal was found on a disk: its carry fits the setup, and each of the rest follows; and if the
-- disk shows its bytes, these are what they spell. Where there are no records before the rest, the
-- carry is the empty one.
pub record IsFound {D : Type 0} (seen : D → Option (List ℕ)) (disk : D) (setup : Setup) (base : ℕ)
    (c : Carry)
    (rest : List Record) : Type 0 where
  pub fits : Fits setup c
  pub follow : all_follow_carry setup c rest ≡ true
  pub read : (image : List ℕ) → seen disk ≡ Some image → HasFrom image base c rest
  pub first : base ≡ 0 → c ≡ empty_carry

-- What the disk was that a service began with: one on which a journal was made had no byte but 0.
abbrev pub BegunOn : {D : Type 0} → (D → Option (List ℕ)) → D → Setup → Begun → Type 0
BegunOn seen disk setup made_new = (image : List ℕ) → seen disk ≡ Some image → IsBlank image
BegunOn seen disk setup (found_there base c rest) = IsFound seen disk setup base c rest

-- The disk that was given, and an image that it may have held, by what a service begins with.
abbrev pub given_as : {D : Type 0} → D → List ℕ → Begun → Given D
given_as disk image begun = record {
  disk = disk;
  image = image;
  there = was_found begun;
  base = base_found begun;
}

module _ {D : Type 0} {g : Ghosts D} where
  -- A host is as one that has just started over what a service began with.
  abbrev pub HasBegun : Host D g → Begun → Type 0
  HasBegun host made_new = HasReplayed host []
  HasBegun host (found_there base c rest) = HasResumed host base c rest

  -- A host was started over a disk.
  pub record Opened (disk : D) (setup : Setup) (host : Host D g) (there : Bool) : Type 0 where
    pub begun : Begun
    pub there_is : there ≡ was_found begun
    pub on : BegunOn g.seen disk setup begun
    pub has : HasBegun host begun
    pub since : (records : List Record) →
        FoundOn g.honest g.seen g.may_leave disk setup begun records
        → (image : List ℕ) → StandsSince host (given_as disk image begun) records (started records)
    pub numbers : (records : List Record) →
        FoundOn g.honest g.seen g.may_leave disk setup begun records
        → opening_of setup begun ≡ opening_over setup begun records

  -- A notice says what a host has just begun with, where the journal was there or was made.
  abbrev pub IsOpening : Host D g → Bool → Notice → Type 0
  IsOpening host there n =
      (begun : Begun) → HasBegun host begun → there ≡ was_found begun → n
      ≡ opening_of (setup_of host) begun

  -- What a host has just begun with was written, or wasn't.
  pub record TellsOpening {K : Type 0} (written : K → Option (List ℕ))
      (puts : K → List ℕ → Result (Unit {0}) Failed → K → Type 0) (host : Host D g) (there : Bool)
      (before : K)
      (result : Result (Unit {0}) Failed) (now : K) : Type 0 where
    pub n : Notice
    pub is : IsOpening host there n
    pub put : PutsLine written puts before (notice_line n) result now
