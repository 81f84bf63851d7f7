-- Of which records the laws of the carry speak.
use Rattle.std.specs.Prelude.{◌≡◌, true, List}
use Rattle.cct_model.specs.terms.device.Setup.{Setup}
use Rattle.cct_model.specs.lines.record.Record.{Record}
use Rattle.cct_model.specs.Following.{all_follow}
use Rattle.cct_model.specs.Setup.{IsSoundSetup}

-- A fact of all records, newest first, that follow one another in a sound setup.
abbrev pub EachFollowing : (Setup → List Record → Type 0) → Type 0
EachFollowing P =
    (setup : Setup) (before : List Record) → IsSoundSetup setup → all_follow setup before ≡ true →
    P setup before
