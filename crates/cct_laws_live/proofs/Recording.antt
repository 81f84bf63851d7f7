-- What each step records of a device is what its job puts; so a fact of what jobs put is one of each record.
use Rattle.std.proofs.Common.{◌≡◌, ◌==◌, ℕ, cond, List, [], ◌∷◌, ap, ◌∙◌, subst, eq-eqb}
use Rattle.cct_model.specs.terms.device.DeviceSetup.{DeviceSetup}
use Rattle.cct_model.specs.terms.device.Setup.{Setup}
use Rattle.cct_model.specs.lines.command.Command.{Command}
use Rattle.cct_model.specs.lines.command.Step.{Step}
use Rattle.cct_model.specs.lines.record.Record.{Record}
use Rattle.cct_model.specs.lines.entry.Entry.{Entry}
use Rattle.cct_model.specs.lines.entry.Entry.TheVariants as entry
use Rattle.cct_model.specs.Job.{puts}
use Rattle.cct_model.specs.Line.{Line, put}
use Rattle.cct_model.specs.Records.{owner_in}
use Rattle.cct_model.specs.Setup.{IsSoundSetup}
use Rattle.cct_model.specs.Transcript.{lines_of, met, owner}
use Rattle.cct_model.proofs.Doses.{AreDoses}
use Rattle.cct_laws.specs.Ids.{Ids}
use Rattle.cct_laws.specs.Law.{IsOf}
use Rattle.cct_laws.proofs.jobs.StepBrings.{AtDevice, AtWork, Brought, came, halted, idled, made_exchange, made_put, record_end, row_after, took, wire_end, wire_of, IsOfNoJob, came_of_no_job}
use Rattle.cct_laws.proofs.jobs.SeenAtOne.{Lost, Passes, bare, kept_elsewhere, kept_here, seen_aside, seen_from, seen_here, seen_lost}
use Rattle.cct_laws_live.specs.Live.{shown}
use Rattle.cct_laws_live.specs.Recording.{IsKeptBy, IsPutBy, IsRecordedBy}
use Rattle.cct_laws_live.proofs.Followed.{alike_shown}
use Rattle.cct_laws_live.proofs.Fronts.{EachFront, front_aside, front_with_end}

-- what is none of the device is no record of it
no_record : (d : DeviceSetup) (addr : ℕ) (r : Record) → AreDoses (cond (addr == d.addr) (put r ∷ []) []) → addr ≡ d.addr → ⊥
no_record d addr r are here = subst (λ b. AreDoses (cond b (put r ∷ []) [])) (eq-eqb addr d.addr here) are

module _ (P : List Line → Record → Type 0) (d : DeviceSetup) where
  away_kept : (past : List Entry) (r : Record) → (owner past r ≡ d.addr → ⊥) → IsKeptBy P d past r
  away_kept (entry.Crash n ∷ past) r away = λ here. absurd (away here)
  away_kept past r away = λ here. away here

  away_recorded : (past : List Entry) (e : Entry) → Passes d past e → IsRecordedBy P d past e
  away_recorded past (entry.Put r) passes = λ here. absurd (no_record d (owner past r) r passes.dosed here)
  away_recorded past (entry.Kept r) passes = away_kept past r (no_record d (owner past r) r passes.dosed)
  away_recorded past e passes = tt

  recorded_of_no_job : (past : List Entry) (e : Entry) → IsOfNoJob e → IsRecordedBy P d past e
  recorded_of_no_job past (entry.Put r) is = absurd is
  recorded_of_no_job past (entry.Kept r) is = absurd is
  recorded_of_no_job past e is = tt

  -- a fact of what the job of the device puts
  abbrev pub JobPuts : List Entry → Type 0
  JobPuts past =
      (c : Command) (since : List Line) (r : Record) → AtWork d past c since → row_after d past c since ≡ puts r →
      P (lines_of d past) r

  there_recorded : (capacity : ℕ) (setup : Setup) (past news : List Entry) (s : Step) →
      AtDevice capacity setup d past s news → JobPuts past → EachFront (IsRecordedBy P d) news past
  there_recorded capacity setup past _ _ (came s e m ls comes) so =
      (recorded_of_no_job past e (came_of_no_job d (met d past) s e m ls comes), tt)
  there_recorded capacity setup past _ _ (took s c gives suited here is_free is_taken is_owed lets) so = (tt, tt)
  there_recorded capacity setup past _ _ (halted paying can) so = (tt, tt)
  there_recorded capacity setup past _ _ (idled is_free) so = (tt, tt)
  there_recorded capacity setup past _ _ (made_exchange c since q at_work is_row) so =
      front_with_end (IsRecordedBy P d) past d.addr (wire_of setup d past q) (wire_end setup d past c since q) tt
      (λ older found. tt)
  there_recorded capacity setup past _ _ (made_put c since r at_work is_row) so =
      front_with_end (IsRecordedBy P d) past d.addr (entry.Put r) (record_end d past c since r)
      (λ here. so c since r at_work is_row) (λ older found. tt)

  lost_recorded : (past news : List Entry) → Lost d past news → JobPuts past → EachFront (IsRecordedBy P d) news past
  lost_recorded past _ bare so = (tt, tt)
  lost_recorded past _ (kept_here c since r at_work is_row owned) so = (λ here. so c since r at_work is_row, (tt, tt))
  lost_recorded past _ (kept_elsewhere r away caused) so = (λ here. absurd (away here), (tt, tt))

  -- is one of each record that a step brings
  pub step_recorded : (capacity : ℕ) (setup : Setup) (past news : List Entry) (s : Step) → IsSoundSetup setup →
      IsOf setup d → Ids setup past → Brought capacity setup past s news → JobPuts past →
      EachFront (IsRecordedBy P d) news past
  step_recorded capacity setup past news s sound own ids told so =
      elim (seen_from capacity setup d past news s sound own ids told) [
        | seen_here at ↦ there_recorded capacity setup past news s at so
        | seen_aside aside ↦ front_aside (IsRecordedBy P d) d past news away_recorded aside.passes
        | seen_lost lost no_next ↦ lost_recorded past news lost so
      ]

-- and of each record of what a past shows
module _ (P Q : List Line → Record → Type 0) (d : DeviceSetup)
    (over : (past : List Entry) (r : Record) → P (lines_of d past) r → Q (lines_of d (shown past)) r) where
  put_shown : (past : List Entry) (r : Record) → IsPutBy P d past r → IsPutBy Q d (shown past) r
  put_shown past r of here = over past r (of (ap (λ rs. owner_in rs r) (alike_shown past).recorded ∙ here))

  kept_shown : (past : List Entry) (r : Record) → IsKeptBy P d past r → IsKeptBy Q d (shown past) r
  kept_shown (entry.Crash n ∷ past) r kept = put_shown past r kept
  kept_shown [] r kept = kept
  kept_shown (e ∷ past) r kept =
      away_kept Q d (shown (e ∷ past)) r (λ here. kept (ap (λ rs. owner_in rs r) (alike_shown (e ∷ past)).recorded ∙ here))

  pub recorded_shown : (past : List Entry) (e : Entry) → IsRecordedBy P d past e → IsRecordedBy Q d (shown past) e
  recorded_shown past (entry.Put r) of = put_shown past r of
  recorded_shown past (entry.Kept r) of = kept_shown past r of
  recorded_shown past e of = tt
