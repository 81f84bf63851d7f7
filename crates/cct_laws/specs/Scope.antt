-- The scope of a law: each legal transcript, each device of a kind over an honest wire, each
-- command for a device.
use Rattle.std.specs.Prelude.{◌≡◌, ℕ, true, List}
use Rattle.std.specs.List.{All}
use Rattle.cct_model.specs.terms.device.DeviceSetup.{DeviceSetup}
use Rattle.cct_model.specs.terms.device.Setup.{Setup}
use Rattle.cct_model.specs.lines.command.Command.{Command}
use Rattle.cct_model.specs.lines.command.Step.{Step}
use Rattle.cct_model.specs.lines.entry.Entry.{Entry}
use Rattle.cct_model.specs.Device.{IsHopper, IsTaker}
use Rattle.cct_model.specs.Honest.{Honest}
use Rattle.cct_model.specs.Legal.{Legal}
use Rattle.cct_model.specs.Script.{IsCommand, IsInRange}
use Rattle.cct_model.specs.Setup.{IsSoundSetup}
use Rattle.cct_laws.specs.DeviceJobs.{suits}
use Rattle.cct_laws.specs.Law.{IsOf}

-- A fact of each legal transcript of a sound setup, over a journal that takes so many records. The
-- steps are in range.
abbrev pub EachTranscript : (ℕ → Setup → List Entry → Type 0) → Type 0
EachTranscript P =
    (capacity : ℕ) (setup : Setup) (steps : List Step) (transcript : List Entry) →
    IsSoundSetup setup →
    All IsInRange steps → Legal capacity setup steps transcript → P capacity setup transcript

-- A fact of each device of one kind, in each such transcript over an honest wire.
abbrev pub EachDevice : (DeviceSetup → Type 0) → (DeviceSetup → List Entry → Type 0) → Type 0
EachDevice IsOfKind P =
    (capacity : ℕ) (setup : Setup) (steps : List Step) (transcript : List Entry) (d : DeviceSetup) →
    IsSoundSetup setup →
    IsOf setup d → IsOfKind d → All IsInRange steps → Legal capacity setup steps transcript →
    Honest transcript →
    P d transcript

-- A fact of each device that takes money, in each such transcript over an honest wire.
abbrev pub EachTaker : (DeviceSetup → List Entry → Type 0) → Type 0
EachTaker P = EachDevice (λ d. IsTaker d.body) P

-- A fact of each hopper, in each such transcript over an honest wire.
abbrev pub EachHopper : (DeviceSetup → List Entry → Type 0) → Type 0
EachHopper P = EachDevice (λ d. IsHopper d.body) P

-- A command is in range and begins a job at a device of a sound setup.
pub record IsCommandFor (setup : Setup) (d : DeviceSetup) (c : Command) : Type 0 where
  pub sound : IsSoundSetup setup
  pub own : IsOf setup d
  pub suited : suits d.body c ≡ true
  pub in_range : IsCommand c
