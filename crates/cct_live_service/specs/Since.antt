-- What a service leaves of the disk that it was given, at each moment since.
use Rattle.std.specs.Prelude.{◌≡◌, ◌⊎◌, ℕ, ◌-◌, Bool, true, false, List, [], ◌++◌, length, reverse}
use Rattle.std.specs.Prelude.{take}
use Rattle.cct_model.specs.terms.device.Setup.{Setup}
use Rattle.cct_model.specs.lines.record.Record.{Record}
use Rattle.cct_model.specs.lines.entry.Entry.{Entry}
use Rattle.cct_model.specs.Carry.{carry_of}
use Rattle.cct_model.specs.Records.{records}
use Rattle.cct_disk.specs.declared.disk.Disk.{Ghosts}
use Rattle.cct_disk.specs.Disk.{Holds, IsTrusted, LeavesOnly, OnlyReads}
use Rattle.cct_journal.specs.Creating.{IsCreated}
use Rattle.cct_journal.specs.Image.{StandsFor, half_room, kept_after}
use Rattle.cct_journal.specs.Journal as journals
use Rattle.cct_host.specs.declared.host.Host.{Host}
use Rattle.cct_host.specs.Host.{disk_of, journal_of, setup_of}
use Rattle.cct_host.specs.Host as hosts

-- The disk that a service was given, an image, whether a journal was there, and how many records
-- stood before the current half of that.
pub record Given (D : Type 0) : Type 0 where
  pub disk : D
  pub image : List ℕ
  pub there : Bool
  pub base : ℕ

-- How many records the current half of a journal has on a disk of this size, where it has so many
-- in all: so many were found, of which so many stood before the half that was the current one then.
abbrev pub kept_since : ℕ → ℕ → ℕ → ℕ → ℕ
kept_since size base many all = kept_after (half_room size) (many - base) (all - many)

-- The records since the journal last turned, of all of them, newest first.
abbrev pub since_turn : ℕ → ℕ → List Record → List Record → List Record
since_turn size base found all = take (kept_since size base (length found) (length all)) all

-- An image stands for the first ones of records, newest first: for those that were found, and for
-- those that were put up to some moment.
pub record StandsForFirst (setup : Setup) (found all : List Record) (image : List ℕ) : Type 0 where
  pub later : List Record
  pub put : List Record
  pub all_are : all ≡ later ++ (put ++ found)
  pub stands : StandsFor (carry_of setup) image (reverse (put ++ found))

-- While a journal is made on a disk, what is there is what stood there, no journal, or one without
-- a record.
abbrev pub IsMaking : Bool → List ℕ → List ℕ → Type 0
IsMaking true old image = ⊥
IsMaking false old image = IsCreated old image

-- What a power cut may leave while a service runs: an image on which the journal is being made, if
-- it was made, or one that represents the first ones of these records.
abbrev pub MayStand : Setup → Bool → List ℕ → List Record → List Record → List ℕ → Type 0
MayStand setup there old found all image =
    IsMaking there old image ⊎ StandsForFirst setup found all image

module _ {D : Type 0} {g : Ghosts D} where
  -- A host represents a past since a disk was given, whose records are those that were found, and
  -- then those that were put.
  pub record StandsSince (host : Host D g) (given : Given D) (found : List Record)
      (past : List Entry) : Type 0 where
    pub stands : hosts.StandsFor host past
    pub trusted : IsTrusted g.honest g.seen given.disk → IsTrusted g.honest g.seen (disk_of host)
    pub put : List Record
    pub put_are : records past ≡ put ++ found
    -- So many of them does the current half of its journal have.
    pub sized : g.size (disk_of host) ≡ g.size given.disk
    pub kept : journals.kept_of (journal_of host)
        ≡ kept_since (g.size given.disk) given.base (length found)
        (journals.used_of (journal_of host))
    -- Each power cut since might have left only the first ones of them, if the disk held the image
    -- alone.
    pub left : Holds g.honest g.seen g.may_leave given.disk given.image
        → LeavesOnly g.moment g.left_since given.disk (disk_of host)
        (MayStand (setup_of host) given.there given.image found (records past))
    -- A disk with a journal was only read, where nothing was put.
    pub read : given.there ≡ true → put ≡ []
        → OnlyReads g.size g.honest g.seen g.may_leave g.moment g.left_since g.cuts given.disk
        (disk_of host)
