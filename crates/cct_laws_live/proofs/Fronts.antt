-- A fact of each entry that a past goes on by.
use Rattle.std.proofs.Common.{ℕ, List, [], ◌∷◌, ◌++◌, Option, Some, None}
use Rattle.std.specs.Prelude.{⊤}
use Rattle.cct_model.specs.terms.device.DeviceSetup.{DeviceSetup}
use Rattle.cct_model.specs.lines.entry.End.{End}
use Rattle.cct_model.specs.lines.entry.Entry.{Entry}
use Rattle.cct_model.specs.lines.entry.Entry.TheVariants as entry
use Rattle.cct_model.specs.Legal.{with_end}
use Rattle.cct_laws.specs.Law.{EachEntry}
use Rattle.cct_laws.proofs.jobs.SeenAtOne.{Passes, ArePassed}
use Rattle.cct_laws_live.specs.Life.{EachSinceStart}
use Rattle.cct_laws_live.specs.Live.{shown}

abbrev pub EachFront : (List Entry → Entry → Type 0) → List Entry → List Entry → Type 0
EachFront P [] past = ⊤
EachFront P (e ∷ news) past = P (news ++ past) e × EachFront P news past

module _ (P : List Entry → Entry → Type 0) where
  -- so it holds of all entries, and of all since a start
  pub front_each : (news past : List Entry) → EachFront P news past → EachEntry P past → EachEntry P (news ++ past)
  front_each [] past front before = before
  front_each (e ∷ news) past front before = (front.0, front_each news past front.1 before)

  pub front_since : (news past : List Entry) → EachFront P news past → EachSinceStart P past →
      EachSinceStart P (news ++ past)
  front_since [] past front before = before
  front_since (entry.Crash n ∷ news) past front before = tt
  front_since (e ∷ news) past front before = (front.0, front_since news past front.1 before)

  -- an entry of a job, and its end
  pub front_with_end : (past : List Entry) (addr : ℕ) (e : Entry) (end : Option End) → P past e →
      ((older : List Entry) (found : End) → P older (entry.Ended addr found)) → EachFront P (with_end addr e end) past
  front_with_end past addr e None holds ends = (holds, tt)
  front_with_end past addr e (Some end) holds ends = (ends (e ∷ past) end, (holds, tt))

  -- entries that pass a device by
  pub front_aside : (d : DeviceSetup) (past news : List Entry) →
      ((older : List Entry) (e : Entry) → Passes d older e → P older e) → ArePassed d past news → EachFront P news past
  front_aside d past [] holds passes = tt
  front_aside d past (e ∷ news) holds passes = (holds (news ++ past) e passes.0, front_aside d past news holds passes.1)

  -- since a start, of what a past shows
  pub since_shown : ((past : List Entry) (e : Entry) → P past e → P (shown past) e) → (past : List Entry) →
      EachSinceStart P past → EachSinceStart P (shown past)
  since_shown over [] each = tt
  since_shown over (entry.Fault f ∷ past) each = since_shown over past each.1
  since_shown over (entry.Forged addr ∷ past) each = since_shown over past each.1
  since_shown over (entry.Crash n ∷ past) each = tt
  since_shown over (e ∷ past) each = (over past e each.0, since_shown over past each.1)
