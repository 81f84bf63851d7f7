-- What a host begins with over what a part holds, and why none is started there.
use Rattle.std.specs.Prelude.{◌≡◌, ◌⊎◌, ℕ, ◌<◌, ◌≤◌, true, List, [], length, reverse}
use Rattle.cct_model.specs.terms.device.Setup.{Setup}
use Rattle.cct_model.specs.lines.carry.Carry.{Carry}
use Rattle.cct_model.specs.lines.record.Record.{Record}
use Rattle.cct_model.specs.lines.entry.Entry.{Entry}
use Rattle.cct_model.specs.Carry.{carry_of}
use Rattle.cct_model.specs.Following.{all_follow}
use Rattle.cct_model.specs.Records.{records}
use Rattle.cct_laws.specs.Recorded.{HasNoJob}
use Rattle.cct_disk.specs.Disk.{Holds, LeavesOnly, OnlyReads}
use Rattle.cct_disk.specs.declared.disk.Disk.{Ghosts}
use Rattle.cct_disk_queue.specs.Queue.{Queue}
use Rattle.cct_journal.specs.Creating.{Creates, IsCreated}
use Rattle.cct_journal.specs.Image as images
use Rattle.cct_journal.specs.Image.{HasFrom, IsAlien, IsBadAt, IsBlank, IsFirstByteFrom, least_size}
use Rattle.cct_journal.specs.Journal as journals
use Rattle.cct_journal.specs.Opening.{Finds}
use Rattle.cct_journal.specs.Stands.{Settled}
use Rattle.cct_journal.specs.declared.journal.Journal.{Journal}
use Rattle.cct_host.specs.declared.host.Host.{Host}
use Rattle.cct_host.specs.Host.{StandsFor, disk_of}
use Rattle.cct_host.specs.OnDisk.{FindsBad}
use Rattle.cct_host.specs.Starting.{HasReplayed, HasResumed}
use Rattle.cct_poll.specs.declared.refusal.PollNo.{PollNo}
use Rattle.cct_poll.specs.declared.refusal.PollNo.TheVariants as no

-- A journal is made on a part, or it was found there: a carry of so many records, and the rest
-- after them, oldest first.
pub data Begun : Type 0 where
  made : Begun
  found : (base : ℕ) (c : Carry) (rest : List Record) → Begun

-- What the part held: one on which a journal is made has room for it, and no byte but 0; and one on
-- which it was found has just these records, and isn't blank.
abbrev pub Held : List ℕ → Begun → Type 0
Held part made = (least_size ≤ length part) × IsBlank part
Held part (found base c rest) = HasFrom part base c rest × (IsBlank part → ⊥)

-- What the part may hold while the calls are made that are noted at first: what it held; and where
-- a journal is made, none, or one without a record.
abbrev pub MayHold : List ℕ → Begun → List ℕ → Type 0
MayHold part made image = IsCreated part image
MayHold part (found base c rest) image = image ≡ part

-- The records that the part held, newest first: none, where a journal is made; else those for which
-- its bytes stand, each of which follows those before it.
abbrev pub HeldRecords : Setup → List ℕ → Begun → List Record → Type 0
HeldRecords setup part made before = before ≡ []
HeldRecords setup part (found base c rest) before =
    images.StandsFor (carry_of setup) part (reverse before) × (all_follow setup before ≡ true)

-- Why no host is started over a part: it is too short; it has a byte that isn't 0, and no journal;
-- a record of its journal can't be read, or its carry or a record doesn't follow under this setup.
abbrev pub RefusesStart : Setup → List ℕ → PollNo → Type 0
RefusesStart setup part no.Small = length part < least_size
RefusesStart setup part no.Alien =
    (least_size ≤ length part) × ((at : ℕ) × IsFirstByteFrom 0 part at) × IsAlien part
RefusesStart setup part (no.BadRecord index) =
    IsBadAt part index ⊎ ((many : ℕ) × FindsBad setup part many index)

-- The disk over a part, with no call noted.
abbrev pub untouched : List ℕ → Queue
untouched part = record { base = part; calls = []; faults = 0 }

module _ {D : Type 0} {g : Ghosts D} where
  -- A journal was found on a disk, which was only read.
  pub record WasFound (journal : Journal D g) (disk : D) : Type 0 where
    pub finds : Finds g.seen disk (journals.disk_of journal) (journals.place_of journal)
    pub settles : (of : List Record → Carry) (before : List Record) →
        Settled of g.honest g.seen g.may_leave disk before
        → journals.JournalStands of journal before
    pub reads : OnlyReads g.size g.honest g.seen g.may_leave g.moment g.left_since g.cuts disk
        (journals.disk_of journal)

  -- A journal was made on a disk, once it was read.
  pub record WasMade (journal : Journal D g) (disk : D) : Type 0 where
    pub read : D
    pub reads : OnlyReads g.size g.honest g.seen g.may_leave g.moment g.left_since g.cuts disk read
    pub creates : Creates g.size g.honest g.seen g.may_leave read (journals.disk_of journal)
        (journals.place_of journal)
    pub moments : (image : List ℕ) → Holds g.honest g.seen g.may_leave read image
        → LeavesOnly g.moment g.left_since read (journals.disk_of journal) (IsCreated image)

  -- A host is as one that has just started over what it begins with.
  abbrev pub HasBegun : Host D g → Begun → Type 0
  HasBegun host made = HasReplayed host []
  HasBegun host (found base c rest) = HasResumed host base c rest

  -- A host was started over a part that held these bytes, on a disk whose clock stood at 0.
  pub record Starts (setup : Setup) (part : List ℕ) (host : Host D g) : Type 0 where
    pub begun : Begun
    pub held : Held part begun
    pub has : HasBegun host begun
    pub moments : (image : List ℕ) → g.left_since (disk_of host) 0 image → MayHold part begun image
    -- It represents each past without a job that has just the records that the part held.
    pub stands : (before : List Record) → HeldRecords setup part begun before
        → (past : List Entry) → HasNoJob past → records past ≡ before → StandsFor host past
