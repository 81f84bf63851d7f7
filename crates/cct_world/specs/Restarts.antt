-- What a disk has after a power cut: a journal over which the host starts again, or why it doesn't.
use Rattle.std.specs.Prelude.{◌≡◌, ◌⊎◌, ℕ, suc, Bool, List, [], ◌∷◌, ◌++◌, length, Option, Some}
use Rattle.std.specs.Prelude.{None}
use Rattle.cct_model.specs.terms.device.Setup.{Setup}
use Rattle.cct_model.specs.lines.command.CrashAt.{CrashAt}
use Rattle.cct_model.specs.lines.command.Step.{Step}
use Rattle.cct_model.specs.lines.command.Step.TheVariants as step
use Rattle.cct_model.specs.lines.record.Record.{Record}
use Rattle.cct_model.specs.lines.entry.Entry.{Entry}
use Rattle.cct_model.specs.lines.entry.Entry.TheVariants as entry
use Rattle.cct_model.specs.Records.{records}
use Rattle.cct_journal.specs.Image.{IsAlien, IsBadAt}
use Rattle.cct_disk.specs.Disk.{Outlasts}
use Rattle.cct_laws.specs.Restart.{due_in}
use Rattle.cct_host.specs.OnDisk.{FindsBad, FindsMany, FindsWhole}
use Rattle.cct_host.specs.Restarting.{HasAll, IsLost, told_by}
use Rattle.cct_host.specs.declared.refusal.CrashNo.{CrashNo}
use Rattle.cct_host.specs.declared.refusal.CrashNo.TheVariants as crash_no
use Rattle.cct_world.specs.Step.{count_after, crashes}

-- An image has so many records of which none is missing, and a host that starts over them stops at
-- this index.
abbrev pub HasBad : Setup → ℕ → Option Record → List ℕ → ℕ → Type 0
HasBad setup put due image index =
    (many : ℕ) × HasAll due many put × FindsBad setup image many index

-- Why no host starts again after a power cut, where so many records were put and this one was due,
-- if one was, by what a read of the disk then gives, where that is reported: it has no journal; a
-- record can't be read, or none is missing and this one doesn't follow; or it has so many, which
-- are others than were put.
abbrev pub Loses : Setup → ℕ → Option Record → Option (List ℕ) → CrashNo → Type 0
Loses setup put due seen crash_no.Disk = ⊥
Loses setup put due seen crash_no.Alien = (image : List ℕ) → seen ≡ Some image → IsAlien image
Loses setup put due seen (crash_no.BadRecord index) =
    (image : List ℕ) → seen ≡ Some image → IsBadAt image index ⊎ HasBad setup put due image index
Loses setup put due seen (crash_no.Lost found many) =
    (many ≡ put) × IsLost due found put × ((image : List ℕ) → seen ≡ Some image →
    FindsMany setup image found)

-- What a read gives, where that is reported, has so many records: the carry of those before its
-- half fits the setup, and each of the others follows.
abbrev pub IsWhole : Setup → Option (List ℕ) → ℕ → Type 0
IsWhole setup seen many = (image : List ℕ) → seen ≡ Some image → FindsWhole setup image many

-- A host starts again after a power cut, where so many records were put and this one was due, if
-- one was: these are its entries, newest first; none of the records is missing; so many does its
-- journal then count; and a read of the disk gives exactly so many, over which a host starts.
pub record Restarts (setup : Setup) (due : Option Record) (put many : ℕ) (seen : Option (List ℕ))
    (news : List Entry)
    : Type 0 where
  pub all : HasAll due many put
  pub news_are : news ≡ told_by many all.kept
  pub whole : IsWhole setup seen many

-- The records that entries report as kept.
abbrev pub kept_in : List Entry → List Record
kept_in [] = []
kept_in (entry.Kept r ∷ past) = r ∷ kept_in past
kept_in (e ∷ past) = kept_in past

-- After a step that is a power cut a host starts again so, where this record, or none, was due:
-- none where the step names no put, and what any past shows for which this stood before. Any other
-- step shows no record as kept.
abbrev pub RestartsIn : (List Entry → Type 0) → Setup → Step → ℕ → ℕ → Option (List ℕ) →
    List Entry → Type 0
RestartsIn Before setup (step.Crash at choice) put many seen news =
    (due : Option Record) × (at ≡ None → due ≡ None)
    × ((past : List Entry) → Before past → due ≡ due_in setup past at)
    × Restarts setup due put many seen news
RestartsIn Before setup s put many seen news = kept_in news ≡ []

-- While a disk became another its power was cut for this time, and this holds of the choice of the
-- cut and of what a read gave right after it.
pub record CutAt {D : Type 0} (size : D → ℕ) (honest : D → Bool) (seen : D → Option (List ℕ))
    (cuts : D → ℕ)
    (cut_to : D → ℕ → D → Type 0) (given now : D) (times : ℕ) (P : ℕ → Option (List ℕ) → Type 0)
    : Type 0 where
  pub before : D
  pub choice : ℕ
  pub after : D
  pub lasted : Outlasts size honest seen cuts given before
  pub is_cut : cut_to before choice after
  pub lasts : Outlasts size honest seen cuts after now
  pub count : cuts after ≡ count_after times (cuts given)
  pub holds : P choice (seen after)

-- This record, or none, was due where a power cut comes after a past: none where that names no put;
-- and the one that the past shows, where it may be relied on.
pub record WasDue (sure : Type 0) (setup : Setup) (past : List Entry) (at : Option CrashAt)
    (due : Option Record)
    : Type 0 where
  pub none : at ≡ None → due ≡ None
  pub told : sure → due ≡ due_in setup past at

-- The step after a past is a power cut, and this is why no host starts again after it, by what a
-- read gave right after the cut, as it then still does; the cut was by the choice of the step.
abbrev pub LosesAt : Type 0 → (ℕ → (ℕ → Option (List ℕ) → Type 0) → Type 0) → Setup → List Entry →
    Option (List ℕ) → CrashNo
    → Step → Type 0
LosesAt sure Cut setup past seen why (step.Crash at choice) =
    (due : Option Record) × WasDue sure setup past at due
    × Cut (suc (crashes past))
    (λ chosen after. (chosen ≡ choice) × (seen ≡ after)
    × Loses setup (length (records past)) due after why)
LosesAt sure Cut setup past seen why s = ⊥

-- These are the entries, newest first, of a step that was played after a past: where it is a power
-- cut, of one after which a host started again, by what a read gave right after the cut, which was
-- by its choice; and any other step shows none, and no record as kept.
abbrev pub RestartsAt : Type 0 → (ℕ → (ℕ → Option (List ℕ) → Type 0) → Type 0) → Setup →
    List Entry → Step → List Entry → Type 0
RestartsAt sure Cut setup past (step.Crash at choice) news =
    (due : Option Record) × (many : ℕ) × WasDue sure setup past at due
    × (all : HasAll due many (length (records past))) × (news ≡ told_by many all.kept)
    × Cut (suc (crashes past)) (λ chosen after. (chosen ≡ choice) × IsWhole setup after many)
RestartsAt sure Cut setup past s news = (crashes news ≡ 0) × (kept_in news ≡ [])

-- A past, newest entry first, is that of these steps, oldest first; and this holds of each, with
-- the past before it and its entries, newest first.
pub data EachStep (P : List Entry → Step → List Entry → Type 0) : List Step → List Entry →
    Type 0 where
  no_step : EachStep P [] []
  one_step_more : (before steps : List Step) (past told news : List Entry) (s : Step) →
      EachStep P before past
      → P past s news → steps ≡ before ++ s ∷ [] → told ≡ news ++ past → EachStep P steps told

-- After each power cut among these steps a host started again.
abbrev pub Survived : (List Entry → Type 0) → (ℕ → (ℕ → Option (List ℕ) → Type 0) → Type 0) →
    Setup → List Step → List Entry
    → Type 0
Survived Relies Cut setup steps past =
    EachStep (λ before s news. RestartsAt (Relies before) Cut setup before s news) steps past
