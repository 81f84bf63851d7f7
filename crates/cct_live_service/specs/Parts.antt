-- The parts of a life: what a host does, and what is reported of it.
use Rattle.std.specs.Prelude.{◌≡◌, ℕ, List, ◌∷◌, ◌++◌, Option, Some, Result, Ok, Err, OnOk, reverse}
use Rattle.std.specs.Prelude.{false}
use Rattle.cct_edge.specs.Bytes.{Serves}
use Rattle.cct_edge.specs.declared.fault.Failed.{Failed}
use Rattle.cct_model.specs.terms.device.Setup.{Setup}
use Rattle.cct_model.specs.lines.record.Record.{Record}
use Rattle.cct_model.specs.lines.entry.Entry.{Entry}
use Rattle.cct_model.specs.Legal.{due_at}
use Rattle.cct_model.specs.Records.{records}
use Rattle.cct_disk.specs.declared.disk.Disk.{Ghosts}
use Rattle.cct_disk.specs.Disk.{Holds, IsTrusted, LeavesOnly}
use Rattle.cct_journal.specs.declared.format.TheConstants.{MOST_RECORDS}
use Rattle.cct_host.specs.declared.host.Host.{Host}
use Rattle.cct_host.specs.Host.{Keeps, disk_of, has_failed, setup_of}
use Rattle.cct_host.specs.OnDisk.{LeavesRecords}
use Rattle.cct_laws_live.specs.Life.{IsLife}
use Rattle.cct_laws_live.specs.LiveStep.{LiveStep}
use Rattle.cct_live_service.specs.declared.served.Served.{Served}
use Rattle.cct_live_service.specs.declared.served.Served.TheVariants as served
use Rattle.cct_live_service.specs.Causes.{DiskServes, EndsBy, IsDiskFault, IsUnwritten}
use Rattle.cct_live_service.specs.Doing.{FrontOf}
use Rattle.cct_live_service.specs.Reported.{AreSoWhere}
use Rattle.cct_live_service.specs.Since.{Given, MayStand, StandsSince, since_turn}
use Rattle.cct_live_service.specs.Said.{Said, Says}
use Rattle.cct_live_service.specs.Told.{Told, WritesTold, news_of}

-- By these steps a life goes on, whatever was given and found, from a past of which one thing holds
-- to a past of which the other does, the entries among what is reported are those of the steps, and
-- how the host stands and what its journal knows is reported as it is; the latter where the disk
-- that was given is trusted.
abbrev pub LifeGoes : {D : Type 0} → Ghosts D → Setup →
    (Given D → List Record → List Entry → Type 0) → List LiveStep
    → List Told → (Given D → List Record → List Entry → Type 0) → Type 0
LifeGoes {D} g setup Before steps told After =
    (given : Given D) (found : List Record) (before : List LiveStep) (past : List Entry) →
    IsLife MOST_RECORDS setup found before past
    → Before given found past
    → IsLife MOST_RECORDS setup found (before ++ steps) (news_of told ++ past)
    × After given found (news_of told ++ past)
    × AreSoWhere (IsTrusted g.honest g.seen given.disk)
    (since_turn (g.size given.disk) given.base found) setup past told

-- of a sink, before and after
module _ {K : Type 0} (written : K → Option (List ℕ))
    (puts : K → List ℕ → Result (Unit {0}) Failed → K → Type 0) where
  -- A life went on by some steps, they were reported so, this is what they are, and so did what is
  -- reported go over a link.
  pub record Part {D : Type 0} (g : Ghosts D) (old new : K) (answer : Result (Unit {0}) Failed)
      (setup : Setup)
      (Before After : Given D → List Record → List Entry → Type 0) (Linked : List Told → Type 0)
      (Doing : List LiveStep → List Told → Type 0) : Type 0 where
    pub steps : List LiveStep
    pub told : List Told
    pub wrote : WritesTold written puts old told answer new
    pub goes : LifeGoes g setup Before steps told After
    pub does : Doing steps told
    pub linked : Linked told

-- A life of a host goes on so, which represents the past before and after.
abbrev pub HostGoes : {D : Type 0} → {g : Ghosts D} → Host D g → List LiveStep → List Told →
    Host D g → Type 0
HostGoes {D} {g} old steps told new =
    LifeGoes g (setup_of old) (StandsSince old) steps told (StandsSince new)

-- A put failed: the host has all of the past, a record was due at an address, and whatever a power
-- cut leaves on a trusted disk stands for the records of the past, or for these and that one.
pub record FailedToPut {D : Type 0} {g : Ghosts D} (host : Host D g) (past : List Entry) : Type 0
  where
    pub keeps : Keeps host past
    pub addr : ℕ
    pub r : Record
    pub due : due_at (setup_of host) past addr ≡ Some r
    pub left : IsTrusted g.honest g.seen (disk_of host)
        → LeavesRecords (setup_of host) g.honest g.seen g.may_leave (disk_of host) (Some r)
        (reverse (records past))

-- A put failed since a disk was given: each power cut might have left only the first ones of the
-- records of the past and that one.
pub record FailedSince {D : Type 0} {g : Ghosts D} (host : Host D g) (given : Given D)
    (found : List Record)
    (past : List Entry) : Type 0 where
  pub failed : FailedToPut host past
  pub left : Holds g.honest g.seen g.may_leave given.disk given.image
      → LeavesOnly g.moment g.left_since given.disk (disk_of host)
      (MayStand (setup_of host) given.there given.image found (failed.r ∷ records past))

module _ {K : Type 0} (written : K → Option (List ℕ))
    (puts : K → List ℕ → Result (Unit {0}) Failed → K → Type 0)
    {D : Type 0} {g : Ghosts D} where
  -- A host did this and keeps running; or it lived up to an end: where a line couldn't be written,
  -- its lines are reported up to that, and where a put failed, up to before it.
  abbrev pub LivesOn : (List Told → Type 0) → (List LiveStep → List Told → Type 0) →
      Result (Unit {0}) Served → K → K
      → Host D g → Host D g → Type 0
  LivesOn Linked Doing (Ok done) out out1 old new =
      Part written puts g out out1 (Ok tt) (setup_of old) (StandsSince old) (StandsSince new) Linked
      Doing
  LivesOn Linked Doing (Err served.Unwritten) out out1 old new =
      (failed : Failed)
      × Part written puts g out out1 (Err failed) (setup_of old) (StandsSince old) (StandsSince new)
      Linked (FrontOf Doing)
  LivesOn Linked Doing (Err served.Disk) out out1 old new =
      Part written puts g out out1 (Ok tt) (setup_of old) (StandsSince old) (FailedSince new) Linked
      (FrontOf Doing)
  LivesOn Linked Doing (Err how) out out1 old new = ⊥

  -- The answer of a host that lived to this end. The disk brings no other one.
  abbrev pub LivesTo : (List Told → Type 0) → (List LiveStep → List Told → Type 0) → Served → K →
      K → Host D g → Host D g
      → Type 0
  LivesTo Linked Doing served.Done = LivesOn Linked Doing (Ok tt)
  LivesTo Linked Doing (served.Refused number why) = LivesOn Linked Doing (Ok tt)
  LivesTo Linked Doing served.Unread = LivesOn Linked Doing (Ok tt)
  LivesTo Linked Doing how = LivesOn Linked Doing (Err how)

  -- A host lived to this end for what its input said, and the program around it heard of it.
  pub record Plays (Linked : List Told → Type 0)
      (Doing : List Said → List LiveStep → List Told → Type 0) (Heard : List Said → Type 0)
      (left : Option (List ℕ)) (how : Served) (out out1 : K) (old new : Host D g) : Type 0 where
    pub lines : List Said
    pub lives : LivesTo Linked (Doing lines) how out out1 old new
    pub says : Says left lines how
    pub heard : Heard lines

-- of a sink with a count of faults
module _ {K : Type 0} (written : K → Option (List ℕ))
    (puts : K → List ℕ → Result (Unit {0}) Failed → K → Type 0)
    (faults : K → ℕ) {D : Type 0} {g : Ghosts D} where
  -- A host does this, and no put of its journal failed where it keeps running. Sink and disk go on,
  -- and it ends only by their faults.
  pub record Acts (Linked : List Told → Type 0) (Doing : List LiveStep → List Told → Type 0)
      (result : Result (Unit {0}) Served) (out out1 : K) (old new : Host D g) : Type 0 where
    pub whole : OnOk result (has_failed new ≡ false)
    pub setup : setup_of new ≡ setup_of old
    pub lives : LivesOn written puts Linked Doing result out out1 old new
    pub sink : Serves written faults out out1 (EndsBy IsUnwritten result)
    pub disk : DiskServes g.size g.honest g.seen g.cuts g.faults (disk_of old) (disk_of new)
        (EndsBy IsDiskFault result)
