-- Each step suits every legal past.
use Rattle.std.proofs.Common.{ℕ, List, [], All}
use Rattle.cct_model.specs.terms.device.Setup.{Setup}
use Rattle.cct_model.specs.lines.command.Step.{Step}
use Rattle.cct_model.specs.lines.command.Step.TheVariants as step
use Rattle.cct_model.specs.lines.entry.Entry.{Entry}
use Rattle.cct_model.specs.Legal.{Legal}
use Rattle.cct_model.specs.Script.{IsInRange}
use Rattle.cct_model.specs.Setup.{IsSoundSetup}
use Rattle.cct_model.specs.Transcript.{onto}
use Rattle.cct_host.proofs.Suiting.{legal_put_suits, legal_restart_suits}
use Rattle.cct_world.specs.Machine.{StepSuits}

pub legal_suits : (capacity : ℕ) (setup : Setup) (played : List Step) (transcript : List Entry) (s : Step)
    → IsSoundSetup setup → All IsInRange played → Legal capacity setup played transcript
    → StepSuits setup (onto [] transcript) s
legal_suits capacity setup played transcript (step.Next addr) sound in_range legal =
    legal_put_suits capacity setup played transcript sound in_range legal addr
legal_suits capacity setup played transcript (step.Crash at choice) sound in_range legal =
    legal_restart_suits capacity setup played transcript sound in_range legal at
legal_suits capacity setup played transcript s sound in_range legal = tt
