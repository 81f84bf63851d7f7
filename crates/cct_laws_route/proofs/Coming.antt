-- A fact of each entry of a legal transcript, where it is one of what comes to a device, and holds of all else that is reported.
use Rattle.std.proofs.Common.{ℕ, List, [], All}
use Rattle.std.specs.Prelude.{⊤}
use Rattle.cct_model.specs.terms.device.DeviceSetup.{DeviceSetup}
use Rattle.cct_model.specs.terms.device.Setup.{Setup}
use Rattle.cct_model.specs.lines.command.Step.{Step}
use Rattle.cct_model.specs.lines.entry.Entry.{Entry}
use Rattle.cct_model.specs.lines.entry.Entry.TheVariants as entry
use Rattle.cct_model.specs.History.{Met}
use Rattle.cct_model.specs.Legal.{Legal}
use Rattle.cct_model.specs.Line.{Line}
use Rattle.cct_model.specs.Transcript.{met, onto}
use Rattle.cct_laws.specs.Law.{EachEntry, IsOf}
use Rattle.cct_laws.proofs.jobs.EachBrought.{IsBeside, step_so}
use Rattle.cct_laws.proofs.jobs.StepBrings.{Comes}
use Rattle.cct_laws.proofs.jobs.EntriesOfStep.{each_brought}

-- an entry shows no coin and no bill
abbrev pub TellsNoCoin : Entry → Type 0
TellsNoCoin (entry.Accepted addr c) = ⊥
TellsNoCoin (entry.Held addr place) = ⊥
TellsNoCoin (entry.Inhibited addr place) = ⊥
TellsNoCoin e = ⊤

no_coin_beside : (e : Entry) → IsBeside e → TellsNoCoin e
no_coin_beside (entry.Accepted addr c) beside = beside
no_coin_beside (entry.Held addr place) beside = beside
no_coin_beside (entry.Inhibited addr place) beside = beside
no_coin_beside e beside = tt

module _ (capacity : ℕ) (setup : Setup) (S : Step → Type 0) (P : List Entry → Entry → Type 0)
    (others : (past : List Entry) (e : Entry) → TellsNoCoin e → P past e)
    (comes_so : (d : DeviceSetup) (past : List Entry) (s : Step) (e : Entry) (m : Met) (ls : List Line) → IsOf setup d →
    S s → Comes d (met d past) s e m ls → P past e) where
  pub legal_each : (steps : List Step) (transcript : List Entry) → All S steps → Legal capacity setup steps transcript →
      EachEntry P (onto [] transcript)
  legal_each steps transcript all legal =
      each_brought capacity setup S (EachEntry P)
      (λ past news s is told before.
      step_so capacity setup P (λ older e beside. others older e (no_coin_beside e beside))
      (λ older addr sent. others older _ tt) past news s (λ d e m ls own comes. comes_so d past s e m ls own is comes)
      (others past _ tt) told before)
      (λ past addr before. (others past (entry.Forged addr) tt, before)) [] steps (onto [] transcript) all legal tt
