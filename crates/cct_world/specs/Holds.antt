-- What is so of a machine after a past, where a run was given a disk.
use Rattle.std.specs.Prelude.{◌≡◌, ℕ, Bool, List, Option, length}
use Rattle.cct_model.specs.terms.device.Setup.{Setup}
use Rattle.cct_model.specs.lines.command.Step.{Step}
use Rattle.cct_model.specs.lines.entry.Entry.{Entry}
use Rattle.cct_model.specs.Records.{records}
use Rattle.cct_disk.specs.declared.disk.Disk.{Ghosts}
use Rattle.cct_disk.specs.Disk.{IsTrusted}
use Rattle.cct_world.specs.declared.world.World.{World}
use Rattle.cct_world.specs.Restarts.{CutAt, Survived}
use Rattle.cct_world.specs.Step.{count_after, crashes}
use Rattle.cct_world.specs.Relying.{IsReliable}
use Rattle.cct_world.specs.World.{StandsFor, disk_of, setup_of, used_of}

-- What is so after these steps and their past, where one disk was given and became another: what
-- represents the past does so where that may be relied on; so many records are counted as the past
-- has; after each power cut among the steps a host started again; and the power of the disk was cut
-- just as often as the past shows.
pub record Holds {D : Type 0} (size : D → ℕ) (honest : D → Bool) (seen : D → Option (List ℕ))
    (cuts : D → ℕ)
    (cut_to : D → ℕ → D → Type 0) (Stands : List Entry → Type 0) (setup : Setup) (given now : D)
    (used : ℕ)
    (played : List Step) (past : List Entry) : Type 0 where
  pub stands : IsReliable (IsTrusted honest seen given) past → Stands past
  pub counts : used ≡ length (records past)
  pub survived : Survived (IsReliable (IsTrusted honest seen given))
      (CutAt size honest seen cuts cut_to given now) setup played
      past
  pub cut : cuts now ≡ count_after (crashes past) (cuts given)

module _ {D : Type 0} {g : Ghosts D} where
  -- That is so of a world, which represents the past.
  abbrev pub WorldHolds : D → World D g → List Step → List Entry → Type 0
  WorldHolds given world =
      Holds g.size g.honest g.seen g.cuts g.cut_to (StandsFor world) (setup_of world) given
      (disk_of world)
      (used_of world)
