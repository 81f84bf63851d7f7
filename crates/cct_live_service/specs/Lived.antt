-- What a service of a host leaves: what it reported of its life, what is on its disk, and how it
-- ended.
use Rattle.std.specs.Prelude.{◌≡◌, ◌⊎◌, Bool, true, ℕ, List, [], ◌∷◌, ◌++◌, Option, Some, None, Result}
use Rattle.std.specs.Prelude.{Ok, Err, reverse}
use Rattle.cct_edge.specs.Faults.{Rose}
use Rattle.cct_edge.specs.declared.fault.Failed.{Failed}
use Rattle.cct_live_survey.specs.Roll.{Rolled}
use Rattle.cct_live_service.specs.declared.stopping.AtEnd.{AtEnd}
use Rattle.cct_model.specs.terms.device.Setup.{Setup}
use Rattle.cct_model.specs.lines.record.Record.{Record}
use Rattle.cct_model.specs.lines.entry.Entry.{Entry}
use Rattle.cct_model.specs.Change.{Desk}
use Rattle.cct_model.specs.Legal.{due_at}
use Rattle.cct_model.specs.Records.{records}
use Rattle.cct_disk.specs.Disk.{Holds, IsTrusted, LeavesOnly, OnlyReads}
use Rattle.cct_journal.specs.declared.format.TheConstants.{MOST_RECORDS}
use Rattle.cct_host.specs.OnDisk.{LeavesRecords}
use Rattle.cct_laws_live.specs.Life.{IsLife}
use Rattle.cct_laws_live.specs.Live.{started}
use Rattle.cct_laws_live.specs.LiveStep.{LiveStep}
use Rattle.cct_live_service.specs.declared.served.Served.{Served}
use Rattle.cct_live_service.specs.declared.served.Served.TheVariants as served
use Rattle.cct_live_service.specs.AtDesk.{AtDesk, FollowsTo}
use Rattle.cct_live_service.specs.Causes.{IsDiskFault}
use Rattle.cct_live_service.specs.Doing.{FrontOf, IsDone, ServesLines, ends_by}
use Rattle.cct_live_service.specs.Ending.{IsOfDisk, closed_by, last_told}
use Rattle.cct_live_service.specs.Found.{Begun, FoundOn, base_found, was_found}
use Rattle.cct_live_service.specs.Hears.{Refusal}
use Rattle.cct_live_service.specs.Known.{Knows}
use Rattle.cct_live_service.specs.Laws.{IsLawful}
use Rattle.cct_live_service.specs.Linked.{UsesLink, Watched}
use Rattle.cct_live_service.specs.Opening.{BegunOn, opening_of, opening_over}
use Rattle.cct_live_service.specs.Refused.{refusals}
use Rattle.cct_live_service.specs.Reported.{AreSoWhere}
use Rattle.cct_live_service.specs.Since.{MayStand, since_turn}
use Rattle.cct_live_service.specs.Said.{Said, Says}
use Rattle.cct_live_service.specs.Told.{Told, WritesTold, news_of}

-- How the lines were written up to the end of a service: all of them, or up to the one that
-- couldn't be.
abbrev pub TellsTo : {K : Type 0} → (K → Option (List ℕ)) →
    (K → List ℕ → Result (Unit {0}) Failed → K → Type 0) → Served
    → K → List Told → K → Type 0
TellsTo written puts served.Unwritten old told new =
    (failed : Failed) × WritesTold written puts old told (Err failed) new
TellsTo written puts how old told new = WritesTold written puts old told (Ok tt) new

-- What was done up to the end of a service: all of this, or up to where it broke off. The disk ends
-- no service that has begun but by a put that failed.
abbrev pub DoesTo : (List LiveStep → List Told → Type 0) → Served → List LiveStep → List Told →
    Type 0
DoesTo Doing served.Done = Doing
DoesTo Doing (served.Refused number why) = Doing
DoesTo Doing served.Unread = Doing
DoesTo Doing served.Unwritten = FrontOf Doing
DoesTo Doing served.Disk = FrontOf Doing
DoesTo Doing how = λ steps told. ⊥

-- of a kind of disk, of which this is the one that came back
module _ {D : Type 0} (honest : D → Bool) (seen : D → Option (List ℕ))
    (may_leave : D → List ℕ → Type 0) (back : D) where
  -- What a power cut may leave on a trusted disk after a past: the records of the past; or, where a
  -- put failed, these or these and the record that was due at an address.
  abbrev pub LeftBy : Setup → Served → List Entry → Type 0
  LeftBy setup served.Disk past =
      (addr : ℕ) × (r : Record) × (due_at setup past addr ≡ Some r)
      × (IsTrusted honest seen back → LeavesRecords setup honest seen may_leave back (Some r)
      (reverse (records past)))
  LeftBy setup how past =
      IsTrusted honest seen back → LeavesRecords setup honest seen may_leave back None
      (reverse (records past))

-- of a kind of disk with a clock, and of one as it was given and as it came back
module _ {D : Type 0} (moment : D → ℕ) (left_since : D → ℕ → List ℕ → Type 0) (given back : D) where
  -- What a power cut at a moment of a service might have left, after a past: the first ones of its
  -- records, the found ones at least; and where a put failed, also of these and the record that was
  -- due at an address.
  abbrev pub LeftSince : Setup → Served → Bool → List ℕ → List Record → List Entry → Type 0
  LeftSince setup served.Disk there image found past =
      (addr : ℕ) × (r : Record) × (due_at setup past addr ≡ Some r)
      × LeavesOnly moment left_since given back
      (MayStand setup there image found (r ∷ records past))
  LeftSince setup how there image found past =
      LeavesOnly moment left_since given back (MayStand setup there image found (records past))

-- What holds of the desk and of all that happened, after what was reported since a service began
-- with this, whichever records were found.
abbrev pub KnownOn : {D : Type 0} → (D → Bool) → (D → Option (List ℕ)) → (D → List ℕ → Type 0) → D →
    Setup → Begun → Desk
    → Knows
KnownOn honest seen may_leave given setup begun desk told Fact =
    (now : Desk) × AtDesk desk now told
    × ((found : List Record) → FoundOn honest seen may_leave given setup begun found →
    Fact now (news_of told ++ started found))

-- A count of what was missed rose, or is at its last value, if the disk that was given is trusted,
-- whichever records were found.
abbrev pub MissedOn : {D : Type 0} → (D → Bool) → (D → Option (List ℕ)) → (D → List ℕ → Type 0) →
    D → Setup → Begun → ℕ → ℕ
    → Type 0
MissedOn honest seen may_leave given setup begun missed missed_then =
    (found : List Record) → FoundOn honest seen may_leave given setup begun found →
    IsTrusted honest seen given
    → Rose missed missed_then

-- of a sink, of a link, and of a disk as it was given and as it came back
module _ {K : Type 0} (written : K → Option (List ℕ))
    (puts : K → List ℕ → Result (Unit {0}) Failed → K → Type 0)
    {L : Type 0} (gives : L → List ℕ → List ℕ → L → Type 0) (sent : L → Bool) (failures : L → ℕ)
    {D : Type 0} (size : D → ℕ) (honest : D → Bool) (seen : D → Option (List ℕ))
    (may_leave : D → List ℕ → Type 0)
    (moment : D → ℕ) (left_since : D → ℕ → List ℕ → Type 0) (cuts : D → ℕ) (given back : D) where
  -- A host lived. Its steps and what it reported are those of the lines that its input said, in
  -- their order. What it reported was written: first what it began with, by the disk that was
  -- given; and the entries among it are those of the steps of one life over the records that were
  -- found on the disk, whichever these are; and the disk has the records of that life. What went
  -- over the link are the exchanges that were reported, and questions of the roll.
  pub record Lived (setup : Setup) (roll now : Rolled) (desk left_desk : Desk)
      (missed missed_then : ℕ) (Heard : List Refusal → Type 0) (ends : AtEnd)
      (left : Option (List ℕ)) (how : Served) (old new : K) (line last : Watched L) : Type 0 where
    pub begun : Begun
    pub lines : List Said
    pub steps : List LiveStep
    pub told : List Told
    pub says : Says left lines how
    -- The program around it heard of those lines that are refused.
    pub heard : Heard (refusals setup.devices lines)
    pub does : DoesTo (ServesLines (IsDone how)
        (KnownOn honest seen may_leave given setup begun desk)
        (MissedOn honest seen may_leave given setup begun missed missed_then) setup
        (opening_of setup begun)
        roll.findings (ends_by how ends) lines) how steps told
    pub wrote : TellsTo written puts how old told new
    pub lived : (found : List Record) → FoundOn honest seen may_leave given setup begun found
        → IsLife MOST_RECORDS setup found steps (news_of told ++ started found)
        × IsLawful setup found (news_of told ++ started found)
        × LeftBy honest seen may_leave back setup how (news_of told ++ started found)
    -- How the host stood was reported as it was after all that was reported before; and so was what
    -- its journal knew, where the disk is trusted: of orders by the records since its last turn.
    pub standing : (found : List Record) → FoundOn honest seen may_leave given setup begun found
        → AreSoWhere (IsTrusted honest seen given)
        (since_turn (size given) (base_found begun) found) setup (started found) told
    -- Of sessions of change is reported what the desk says.
    pub at_desk : FollowsTo how desk left_desk told
    pub linked : UsesLink gives sent failures setup.devices roll now line last told
    pub on : BegunOn seen given setup begun
    pub numbers : (found : List Record) → FoundOn honest seen may_leave given setup begun found
        → opening_of setup begun ≡ opening_over setup begun found
    -- At each moment a power cut might have left only the first ones of the records, if the disk
    -- held one image alone.
    pub moments : (found : List Record) → FoundOn honest seen may_leave given setup begun found →
        (image : List ℕ)
        → Holds honest seen may_leave given image
        → LeftSince moment left_since given back setup how (was_found begun) image found
        (news_of told ++ started found)
    -- Where a journal was found and no record was put, the disk was only read.
    pub read : (found : List Record) → FoundOn honest seen may_leave given setup begun found →
        was_found begun ≡ true
        → (IsDiskFault how → ⊥) → records (news_of told ++ started found) ≡ found
        → OnlyReads size honest seen may_leave moment left_since cuts given back

  -- A host lived; or none was started, by what the disk had, nothing was reported or heard of, and
  -- the link wasn't used.
  abbrev pub LivedOrNot : Setup → Rolled → Rolled → Desk → Desk → ℕ → ℕ →
      (List Refusal → Type 0) → AtEnd → Option (List ℕ) → Served → K → K → Watched L → Watched L → Type 0
  LivedOrNot setup roll now desk left_desk missed missed_then Heard ends left how old new line last =
      Lived setup roll now desk left_desk missed missed_then Heard ends left how old new line last
      ⊎ (IsOfDisk how × (new ≡ old) × (now ≡ roll) × (left_desk ≡ desk) × (last ≡ line) × Heard [])

  -- And then the last line was reported, where there is one.
  pub record Closed (setup : Setup) (roll now : Rolled) (desk left_desk : Desk)
      (missed missed_then : ℕ) (Heard : List Refusal → Type 0) (ends : AtEnd)
      (left : Option (List ℕ)) (result : Served)
      (old new : K) (line last : Watched L) : Type 0 where
    pub how : Served
    pub between : K
    pub answer : Result (Unit {0}) Failed
    pub lived : LivedOrNot setup roll now desk left_desk missed missed_then Heard ends left how old
        between line last
    pub wrote : WritesTold written puts between (last_told how) answer new
    pub result_is : result ≡ closed_by answer how
