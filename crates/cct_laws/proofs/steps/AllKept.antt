-- What each thing that can come keeps holds after every legal and honest transcript.
use Rattle.std.proofs.Common.{ℕ, List, [], ◌∷◌, ◌++◌, All}
use Rattle.std.specs.Prelude.{⊤}
use Rattle.cct_model.specs.terms.device.DeviceSetup.{DeviceSetup}
use Rattle.cct_model.specs.terms.device.Setup.{Setup}
use Rattle.cct_model.specs.lines.command.Step.{Step}
use Rattle.cct_model.specs.lines.entry.Entry.{Entry}
use Rattle.cct_model.specs.lines.entry.Entry.TheVariants as entry
use Rattle.cct_model.specs.History.{Met}
use Rattle.cct_model.specs.Device.{IsHopper, IsTaker}
use Rattle.cct_model.specs.Job.{job}
use Rattle.cct_model.specs.Line.{Line}
use Rattle.cct_model.specs.Setup.{IsSoundSetup}
use Rattle.cct_model.specs.Legal.{Legal}
use Rattle.cct_model.specs.Script.{IsInRange}
use Rattle.cct_model.specs.Transcript.{met, lines_of, onto}
use Rattle.cct_model.specs.Honest.{Honest, HonestPast}
use Rattle.cct_laws.specs.Ids.{Ids}
use Rattle.cct_laws.specs.KeptBoth.{IsKeptBoth}
use Rattle.cct_laws.specs.KeptHopper.{IsKeptHopper}
use Rattle.cct_laws.specs.Law.{IsOf, lines_in}
use Rattle.cct_laws.specs.SinceEpoch.{since_epoch_in, IsKeptSince, IsKept}
use Rattle.cct_laws.proofs.jobs.StepBrings.{Brought}
use Rattle.cct_laws.proofs.steps.EachKeeps.{Fact, HoldsAt, IsRanged, ranged_step, kept_step}
use Rattle.cct_laws.proofs.steps.EitherKind.{both_taker, both_hopper}
use Rattle.cct_laws.proofs.jobs.SeenAtOne.{along}
use Rattle.cct_laws.proofs.jobs.EntriesOfStep.{GoesOverForged}

-- what came before an honest past is honest
pub honest_before : (news past : List Entry) → HonestPast (news ++ past) → HonestPast past
honest_before [] past honest = honest
honest_before (e ∷ news) past honest = honest_before news past honest.1

-- a fact of all entries goes on over each step, where another fact is kept
abbrev pub GoesAlong : ℕ → Setup → DeviceSetup → Fact → (List Entry → Type 0) → Type 0
GoesAlong capacity setup d P Q =
    (past news : List Entry) (s : Step) → IsRanged d (job (lines_of d past)) → Ids setup past →
    Brought capacity setup past s news → HoldsAt d P past → Q past → Q (news ++ past)

-- both hold of an honest past, and its job is in its range
record Along (d : DeviceSetup) (P : Fact) (Q : List Entry → Type 0) (past : List Entry) : Type 0 where
  ranged : IsRanged d (job (lines_of d past))
  holds : HonestPast past → HoldsAt d P past × Q past

along_step : (capacity : ℕ) (setup : Setup) (d : DeviceSetup) (P : Fact) (Q : List Entry → Type 0) →
    IsSoundSetup setup → IsOf setup d → IsKeptBoth d P → GoesAlong capacity setup d P Q →
    (past news : List Entry) (s : Step) → IsInRange s → Ids setup past → Brought capacity setup past s news →
    Along d P Q past → Along d P Q (news ++ past)
along_step capacity setup d P Q sound own kept goes_on past news s range ids told before = record {
  ranged = ranged_step capacity setup d past news s sound own range ids told before.ranged;
  holds =
      λ honest. let both = before.holds (honest_before news past honest) in (
        kept_step capacity setup d P past news s sound own kept range before.ranged ids told honest both.0,
        goes_on past news s before.ranged ids told both.0 both.1,
      );
}

along_forged : (d : DeviceSetup) (P : Fact) (Q : List Entry → Type 0) → GoesOverForged Q → (past : List Entry) (addr : ℕ) →
    Along d P Q past → Along d P Q (entry.Forged addr ∷ past)
along_forged d P Q over past addr before = record {
  ranged = before.ranged;
  holds = λ honest. let both = before.holds honest.1 in (both.0, over past addr both.1);
}

-- a fact that is kept, of what was met since the epoch began too, and what goes on beside it hold in every legal
-- transcript over an honest wire
pub both_legal : (capacity : ℕ) (setup : Setup) (steps : List Step) (transcript : List Entry) (d : DeviceSetup)
    (P : List Met → List Met → List Line → Type 0) (Q : List Entry → Type 0) → IsSoundSetup setup → IsOf setup d →
    All IsInRange steps → Legal capacity setup steps transcript → Honest transcript → IsKeptBoth d P →
    GoesAlong capacity setup d P Q → GoesOverForged Q → Q [] → HoldsAt d P (onto [] transcript) × Q (onto [] transcript)
both_legal capacity setup steps transcript d P Q sound own in_range legal honest kept goes_on over start =
    (along capacity setup IsInRange (Along d P Q) sound (along_step capacity setup d P Q sound own kept goes_on)
    (along_forged d P Q over) steps (onto [] transcript) in_range legal (record { ranged = tt; holds = λ none. (kept.starts, start) })).holds honest

-- a job at a device is one for its kind, in its range, whatever the wire does
pub ranged_legal : (capacity : ℕ) (setup : Setup) (steps : List Step) (transcript : List Entry) (d : DeviceSetup) →
    IsSoundSetup setup → IsOf setup d → All IsInRange steps → Legal capacity setup steps transcript →
    IsRanged d (job (lines_in d transcript))
ranged_legal capacity setup steps transcript d sound own in_range legal =
    along capacity setup IsInRange (λ past. IsRanged d (job (lines_of d past))) sound
    (λ past news s range ids told before. ranged_step capacity setup d past news s sound own range ids told before)
    (λ past addr ranged. ranged) steps (onto [] transcript) in_range legal tt

pub kept_since_legal : (capacity : ℕ) (setup : Setup) (steps : List Step) (transcript : List Entry)
    (d : DeviceSetup) (P : List Met → List Met → List Line → Type 0) → IsSoundSetup setup → IsOf setup d →
    IsTaker d.body → All IsInRange steps → Legal capacity setup steps transcript → Honest transcript →
    IsKeptSince d P → P (since_epoch_in d transcript) (met d (onto [] transcript)) (lines_in d transcript)
kept_since_legal capacity setup steps transcript d P sound own taking in_range legal honest kept =
    (both_legal capacity setup steps transcript d P (λ past. ⊤) sound own in_range legal honest
    (both_taker d P taking kept) (λ past news s ranged ids told holds before. tt) (λ past addr before. tt) tt).0

pub goes_on_legal : (capacity : ℕ) (setup : Setup) (steps : List Step) (transcript : List Entry) (d : DeviceSetup)
    (P : List Met → List Met → List Line → Type 0) (Q : List Entry → Type 0) → IsSoundSetup setup → IsOf setup d →
    IsTaker d.body → All IsInRange steps → Legal capacity setup steps transcript → Honest transcript →
    IsKeptSince d P → GoesAlong capacity setup d P Q → GoesOverForged Q → Q [] → Q (onto [] transcript)
goes_on_legal capacity setup steps transcript d P Q sound own taking in_range legal honest kept goes_on over start =
    (both_legal capacity setup steps transcript d P Q sound own in_range legal honest (both_taker d P taking kept)
    goes_on over start).1

-- and so does what is kept without regard to the epoch, of a device that takes money and of a hopper
pub kept_legal : (capacity : ℕ) (setup : Setup) (steps : List Step) (transcript : List Entry) (d : DeviceSetup)
    (P : List Met → List Line → Type 0) → IsSoundSetup setup → IsOf setup d → IsTaker d.body →
    All IsInRange steps → Legal capacity setup steps transcript → Honest transcript → IsKept d P →
    P (met d (onto [] transcript)) (lines_in d transcript)
kept_legal capacity setup steps transcript d P sound own taking in_range legal honest kept =
    kept_since_legal capacity setup steps transcript d (λ since past lines. P past lines) sound own taking in_range
    legal honest kept

pub kept_hopper_legal : (capacity : ℕ) (setup : Setup) (steps : List Step) (transcript : List Entry)
    (d : DeviceSetup) (P : List Met → List Line → Type 0) → IsSoundSetup setup → IsOf setup d → IsHopper d.body →
    All IsInRange steps → Legal capacity setup steps transcript → Honest transcript → IsKeptHopper d P →
    P (met d (onto [] transcript)) (lines_in d transcript)
kept_hopper_legal capacity setup steps transcript d P sound own paying in_range legal honest kept =
    (both_legal capacity setup steps transcript d (λ since past lines. P past lines) (λ past. ⊤) sound own in_range legal
    honest (both_hopper d P paying kept) (λ past news s ranged ids told holds before. tt) (λ past addr before. tt) tt).0
