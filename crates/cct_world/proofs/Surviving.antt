-- What is so at each of the steps of a past, and at the power cuts among them.
use Rattle.std.proofs.Common.{◌≡◌, ◌++◌, ℕ, suc, List, [], ◌∷◌, Option, length, refl}
use Rattle.cct_model.specs.terms.device.Setup.{Setup}
use Rattle.cct_model.specs.lines.command.CrashAt.{CrashAt}
use Rattle.cct_model.specs.lines.command.Step.{Step}
use Rattle.cct_model.specs.lines.command.Step.TheVariants as step
use Rattle.cct_model.specs.lines.record.Record.{Record}
use Rattle.cct_model.specs.lines.entry.Entry.{Entry}
use Rattle.cct_model.specs.Records.{records}
use Rattle.cct_host.specs.declared.refusal.CrashNo.{CrashNo}
use Rattle.cct_world.specs.Restarts.{EachStep, IsWhole, Loses, LosesAt, RestartsAt, Survived, WasDue}
use Rattle.cct_world.specs.Restarts.{no_step, one_step_more}
use Rattle.cct_world.specs.Step.{crashes}

-- what is so at each step
pub each_on : (P : List Entry → Step → List Entry → Type 0) (steps : List Step) (news past : List Entry) (s : Step)
    → EachStep P steps past → P past s news → EachStep P (steps ++ s ∷ []) (news ++ past)
each_on P steps news past s before here =
    one_step_more steps (steps ++ s ∷ []) past (news ++ past) news s before here refl refl

pub each_by : (P Q : List Entry → Step → List Entry → Type 0)
    → ((past : List Entry) (s : Step) (news : List Entry) → P past s news → Q past s news) → (steps : List Step)
    (past : List Entry) → EachStep P steps past → EachStep Q steps past
each_by P Q goes _ _ no_step = no_step
each_by P Q goes steps told (one_step_more before _ past _ news s earlier here steps_are told_is) =
    one_step_more before steps past told news s (each_by P Q goes before past earlier) (goes past s news here) steps_are
    told_is

-- no more may be relied on, and as much is known of each cut
module _ (sure sure1 : Type 0) (Cut Cut1 : ℕ → (ℕ → Option (List ℕ) → Type 0) → Type 0) (more : sure1 → sure)
    (goes : (times : ℕ) (P : ℕ → Option (List ℕ) → Type 0) → Cut times P → Cut1 times P)
    (setup : Setup) (past : List Entry) where
  due_by : (at : Option CrashAt) (due : Option Record) → WasDue sure setup past at due → WasDue sure1 setup past at due
  due_by at due was = record { none = was.none; told = λ is. was.told (more is) }

  pub loses_by : (seen : Option (List ℕ)) (why : CrashNo) (s : Step) → LosesAt sure Cut setup past seen why s
      → LosesAt sure1 Cut1 setup past seen why s
  loses_by seen why (step.Crash at choice) (due, was, cut) = (
    due,
    due_by at due was,
    goes (suc (crashes past))
        (λ chosen after. (chosen ≡ choice) × (seen ≡ after) × Loses setup (length (records past)) due after why) cut,
  )
  loses_by seen why s loses = absurd loses

  pub restarts_by : (s : Step) (news : List Entry) → RestartsAt sure Cut setup past s news
      → RestartsAt sure1 Cut1 setup past s news
  restarts_by (step.Crash at choice) news (due, many, was, all, told, cut) = (
    due,
    many,
    due_by at due was,
    all,
    told,
    goes (suc (crashes past))
        (λ chosen after. (chosen ≡ choice) × IsWhole setup after many) cut,
  )
  restarts_by s news told = told

pub survived_by : (Relies Relies1 : List Entry → Type 0) (Cut Cut1 : ℕ → (ℕ → Option (List ℕ) → Type 0) → Type 0)
    → ((past : List Entry) → Relies1 past → Relies past)
    → ((times : ℕ) (P : ℕ → Option (List ℕ) → Type 0) → Cut times P → Cut1 times P) → (setup : Setup) (steps : List Step)
    (past : List Entry) → Survived Relies Cut setup steps past → Survived Relies1 Cut1 setup steps past
survived_by Relies Relies1 Cut Cut1 more goes setup steps past survives =
    each_by (λ before s news. RestartsAt (Relies before) Cut setup before s news)
    (λ before s news. RestartsAt (Relies1 before) Cut1 setup before s news)
    (λ before s news. restarts_by (Relies before) (Relies1 before) Cut Cut1 (more before) goes setup before s
    news) steps past survives
