-- A host that starts over the records of its journal.
use Rattle.std.specs.Prelude.{◌≡◌, ◌+◌, ℕ, true, false, List, ◌∷◌, ◌++◌, length, reverse, Option, ⊤}
use Rattle.cct_model.specs.terms.device.Setup.{Setup}
use Rattle.cct_model.specs.lines.record.Record.{Record}
use Rattle.cct_model.specs.lines.carry.Carry.{Carry}
use Rattle.cct_model.specs.Carry.{Fits, all_follow_carry, carry, carry_over}
use Rattle.cct_model.specs.Carried.{empty_carry}
use Rattle.cct_model.specs.Following.{Known, all_follow, follows}
use Rattle.cct_journal.specs.declared.place.Place.{Place}
use Rattle.cct_edge.specs.Faults.{Caused}
use Rattle.cct_disk.specs.declared.disk.Disk.{Ghosts}
use Rattle.cct_disk.specs.Disk.{IsReady, OnlyReads}
use Rattle.cct_journal.specs.declared.journal.Journal.{Journal}
use Rattle.cct_journal.specs.Journal as journals
use Rattle.cct_journal_carry.specs.Tally as tallies
use Rattle.cct_host.specs.declared.desks.Desks.{Desks}
use Rattle.cct_host.specs.declared.host.Host.{Host}
use Rattle.cct_journal.specs.declared.refusal.ReadNo.{ReadNo}
use Rattle.cct_journal.specs.declared.refusal.ReadNo.TheVariants.{Disk, BadRecord}
use Rattle.cct_host.specs.Desks as all_desks
use Rattle.cct_host.specs.OnDisk.{ReadsRecords, StopsAt}
use Rattle.cct_host.specs.Replayed.{BeginsWith, Replays, Resumes}

-- A tally went over a carry that fits its setup, and over records after it, oldest first, each of
-- which follows.
pub record TalliesOver (setup : Setup) (c : Carry) (rest : List Record) (now : Carry) : Type 0 where
  pub fits : Fits setup c
  pub follow : all_follow_carry setup c rest ≡ true
  pub carry_is : now ≡ carry_over setup c rest

-- A tally went over a carry of so many records, and over the first of those after it, oldest first,
-- up to an index.
pub record TalliesFirst (setup : Setup) (base : ℕ) (c : Carry) (rest : List Record) (index : ℕ)
    (now : Carry) : Type 0
  where
    pub first : List Record
    pub later : List Record
    pub all : rest ≡ first ++ later
    pub many : index ≡ base + length first
    pub over : TalliesOver setup c first now

-- A tally went over a carry of so many records that fits its setup, and over some records after it,
-- oldest first, each of which follows: so many are these in all.
pub record TalliesSome (setup : Setup) (base : ℕ) (c : Carry) (many : ℕ) (now : Carry) : Type 0
  where
    pub rest : List Record
    pub count : many ≡ base + length rest
    pub over : TalliesOver setup c rest now

-- Desks went over records, newest first: they have what these show, and each record follows those
-- before it.
pub record WentOver (desks : Desks) (before : List Record) : Type 0 where
  pub replays : Replays desks before
  pub follow : all_follow (all_desks.setup_of desks) before ≡ true

-- Desks begin with a carry.
pub record BeginFrom (desks : Desks) (c : Carry) : Type 0 where
  pub resumes : Resumes desks c

-- The record of this index is the first of records, oldest first, that doesn't follow those before
-- it.
pub record IsFirstUnfollowing (setup : Setup) (records : List Record) (index : ℕ) : Type 0 where
  pub before : List Record
  pub bad : Record
  pub later : List Record
  pub all : records ≡ reverse before ++ bad ∷ later
  pub many : index ≡ length before
  pub follow : all_follow setup before ≡ true
  pub refused : follows setup before bad ≡ false

-- Why a host isn't started over records, oldest first.
abbrev pub RefusesStart : ReadNo → Setup → List Record → Type 0
RefusesStart Disk setup records = ⊤
RefusesStart (BadRecord index) setup records = IsFirstUnfollowing setup records index

-- Why a host isn't started over a carry of so many records and the rest after them.
abbrev pub RefusesResume : ReadNo → Setup → ℕ → Carry → List Record → Type 0
RefusesResume Disk setup base carry rest = ⊤
RefusesResume (BadRecord index) setup base carry rest = StopsAt setup base carry rest index

-- The first ones of records, those before the current half of a journal, follow one another.
abbrev pub FirstFollow : {D : Type 0} {seen : D → Option (List ℕ)} {disk : D} {place : Place}
    {records : List Record}
    → (setup : Setup) → ReadsRecords setup seen disk place records → Type 0
FirstFollow setup reads = all_follow setup (reverse reads.continues.first) ≡ true

-- A journal stays as it is, and its disk was only read; a call of it failed, where one so failed.
pub record OnlyReadIn {D : Type 0} {g : Ghosts D} (old new : Journal D g) (Fails : Type 0) : Type 0
  where
    pub place : journals.place_of new ≡ journals.place_of old
    pub whole : journals.has_failed new ≡ journals.has_failed old
    pub disk : OnlyReads g.size g.honest g.seen g.may_leave g.moment g.left_since g.cuts
        (journals.disk_of old)
        (journals.disk_of new)
    pub ready : IsReady g.spent (journals.disk_of old) → IsReady g.spent (journals.disk_of new)
    pub cause : Caused (g.faults (journals.disk_of old)) (g.faults (journals.disk_of new)) Fails

-- A host is over records, newest first, as one that has just started: its desks have what they
-- show, each follows those before it, its carry is theirs, and so many does its journal count.
pub record HasReplayed {D : Type 0} {g : Ghosts D} (host : Host D g) (before : List Record) : Type 0
  where
    pub over : WentOver host.desks before
    pub used : journals.used_of host.journal ≡ length before
    pub carry_is : tallies.carry_in host.tally ≡ carry (all_desks.setup_of host.desks) before

-- A host is over a carry of so many records and the rest after them, oldest first, as one that has
-- just started: the carry fits its setup, each of the rest follows, and its desks and its own carry
-- begin with what these show; so many does its journal count.
pub record HasResumed {D : Type 0} {g : Ghosts D} (host : Host D g) (base : ℕ) (c : Carry)
    (rest : List Record) : Type 0
  where
    pub fits : Fits (all_desks.setup_of host.desks) c
    pub follow : all_follow_carry (all_desks.setup_of host.desks) c rest ≡ true
    pub carry_is : tallies.carry_in host.tally ≡ carry_over (all_desks.setup_of host.desks) c rest
    pub from_carry : BeginFrom host.desks (tallies.carry_in host.tally)
    pub used : journals.used_of host.journal ≡ base + length rest

-- A host is over a carry of so many records and some records after them, as one that has just
-- started. The carry of no record is the empty one.
pub record HasResumedSome {D : Type 0} {g : Ghosts D} (host : Host D g) (base : ℕ) (c : Carry)
    : Type 0 where
  pub rest : List Record
  pub resumed : HasResumed host base c rest
  pub empty : base ≡ 0 → c ≡ empty_carry

-- A host begins with what is known of its devices, and with this greatest id: no job has begun.
abbrev pub BeginsAs : {D : Type 0} {g : Ghosts D} → Host D g → Known → ℕ → Type 0
BeginsAs host k last = BeginsWith host.desks k last
