-- A live transcript in bytes, and what one life reports: their texts show them.
use Rattle.std.specs.Prelude.{ℕ, ◌<◌, List, ⊤}
use Rattle.std.specs.List.{All}
use Rattle.hex.specs.Hex.{IsBytes}
use Rattle.cct_model.specs.terms.device.Setup.{Setup}
use Rattle.cct_model.specs.lines.record.Record.{Record}
use Rattle.cct_model.specs.lines.entry.Entry.{Entry}
use Rattle.cct_model.specs.lines.entry.Entry.TheVariants as entry
use Rattle.cct_model.specs.Transcript.{onto}
use Rattle.cct_text.specs.Written.{IsRecord}
use Rattle.cct_laws.specs.Law.{IsCommandOfBytes}
use Rattle.cct_laws_live.specs.Life.{IsLife}
use Rattle.cct_laws_live.specs.LiveStep.{LiveStep}
use Rattle.cct_laws_live.specs.LiveStep as live
use Rattle.cct_laws_live.specs.Live.{IsTellable, Live, started}

-- What a step says is bytes: the address of a `next`, and the address and the mask of a command.
abbrev pub SaysBytes : LiveStep → Type 0
SaysBytes (live.command c) = IsCommandOfBytes c
SaysBytes (live.next addr) = addr < 256
SaysBytes s = ⊤

-- What is heard in an exchange is bytes.
abbrev pub HearsBytes : Entry → Type 0
HearsBytes (entry.Wire addr sent heard) = IsBytes heard
HearsBytes e = ⊤

-- A live transcript in bytes, by these steps.
pub record IsInBytes (capacity : ℕ) (setup : Setup) (steps : List LiveStep)
    (transcript : List Entry) : Type 0 where
  pub steps_are : All IsTellable steps
  pub said : All SaysBytes steps
  pub heard : All HearsBytes transcript
  pub live : Live capacity setup steps transcript

-- What one life reports in bytes, oldest entry first, by these steps. The masks of the records that
-- it found have 16 bits.
pub record IsLifeInBytes (capacity : ℕ) (setup : Setup) (found : List Record)
    (steps : List LiveStep)
    (transcript : List Entry) : Type 0 where
  pub masks : All IsRecord found
  pub life : IsLife capacity setup found steps (onto (started found) transcript)
  pub said : All SaysBytes steps
  pub heard : All HearsBytes transcript
