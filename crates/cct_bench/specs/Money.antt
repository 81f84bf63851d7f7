-- What is promised of the money of a run.
use Rattle.std.specs.Prelude.{List}
use Rattle.cct_model.specs.terms.device.Setup.{Setup}
use Rattle.cct_model.specs.lines.command.Step.{Step}
use Rattle.cct_model.specs.lines.entry.Entry.{Entry}
use Rattle.cct_model.specs.AtDesk.{LegalAtDesk}
use Rattle.cct_model.specs.Honest.{Honest}
use Rattle.cct_laws_change.specs.Change.{ChangeIsPaid}
use Rattle.cct_laws.specs.Right.{IsRight}
use Rattle.cct_world.specs.Early.{BeforeLoss}
use Rattle.cct_bench.specs.Disks.{most_records}

-- The entries of the steps before the first power cut are legal, and their money is right; and over
-- an honest wire the sessions of change among them pay what they report.
abbrev pub RightBeforeLoss : Setup → List Step → List Entry → Type 0
RightBeforeLoss setup played transcript =
    BeforeLoss played transcript (λ first told. LegalAtDesk most_records setup first told
    × IsRight setup told
    × (Honest told → ChangeIsPaid most_records setup first told))
