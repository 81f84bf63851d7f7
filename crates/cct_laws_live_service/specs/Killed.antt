-- A service that is killed between two of its steps.
use Rattle.std.specs.Prelude.{◌≡◌, ◌⊎◌, ℕ, List, [], ◌∷◌, ◌++◌, Some, reverse}
use Rattle.cct_journal.specs.declared.format.TheConstants.{MOST_RECORDS}
use Rattle.cct_journal.specs.Image.{StandsFor}
use Rattle.cct_model.specs.Carry.{carry_of}
use Rattle.cct_model.specs.Legal.{due_at}
use Rattle.cct_model.specs.Records.{records}
use Rattle.cct_model.specs.terms.device.Setup.{Setup}
use Rattle.cct_model.specs.lines.entry.Entry.{Entry}
use Rattle.cct_model.specs.lines.record.Record.{Record}
use Rattle.cct_laws_live.specs.Life.{IsLife}
use Rattle.cct_laws_live.specs.Live.{started}
use Rattle.cct_laws_live.specs.LiveStep.{LiveStep}
use Rattle.cct_laws_live_devices.specs.Chain.{Chain}

-- A point of a life over a link, which reported these entries, newest first: the steps up to it are
-- a life, the link had given the exchanges that were reported up to it, and gave the others later.
pub record Point {L : Type 0} (gives : L → List ℕ → List ℕ → L → Type 0) (setup : Setup)
    (found : List Record) (first last : L)
    (told : List Entry) : Type 0 where
  pub steps : List LiveStep
  pub news : List Entry
  pub more : List Entry
  pub told_are : told ≡ more ++ news
  pub life : IsLife MOST_RECORDS setup found steps (news ++ started found)
  pub line : L
  pub before : Chain gives first news line
  pub after : Chain gives line more last

-- An image of a disk stands for the records of a past, or for these and the one that is due at an
-- address.
abbrev pub IsLeftAt : Setup → List Entry → List ℕ → Type 0
IsLeftAt setup past image =
    StandsFor (carry_of setup) image (reverse (records past))
    ⊎ ((addr : ℕ) × (r : Record) × (due_at setup past addr ≡ Some r)
    × StandsFor (carry_of setup) image (reverse (records past) ++ r ∷ []))
