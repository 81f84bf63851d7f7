-- Where the next life starts after a service.
use Rattle.std.specs.Prelude.{◌≡◌, ℕ, true, List, ◌++◌, reverse}
use Rattle.cct_journal.specs.Image.{StandsFor}
use Rattle.cct_model.specs.Carry.{carry_of}
use Rattle.cct_model.specs.Following.{all_follow}
use Rattle.cct_model.specs.terms.device.Setup.{Setup}
use Rattle.cct_model.specs.lines.entry.Entry.{Entry}
use Rattle.cct_model.specs.lines.record.Record.{Record}

-- An image of a disk represents the records that a host finds that starts after all this was
-- reported; and so it has lived.
pub record StartsOver (setup : Setup) (HasLived : List Record → List Entry → Type 0)
    (whole : List Entry) (image : List ℕ)
    : Type 0 where
  pub left : List Record
  pub news : List Entry
  pub lived : HasLived left (news ++ whole)
  pub stands : StandsFor (carry_of setup) image (reverse left)
  pub follow : all_follow setup left ≡ true
