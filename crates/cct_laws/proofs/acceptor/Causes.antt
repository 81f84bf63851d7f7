-- Each break of a device that is put had a cause.
use Rattle.std.proofs.Common.{◌≡◌, ℕ, suc, List, ◌∷◌, ◌++◌, length, subst}
use Rattle.cct_model.specs.terms.device.DeviceSetup.{DeviceSetup}
use Rattle.cct_model.specs.terms.device.Setup.{Setup}
use Rattle.cct_model.specs.lines.record.Record.{Record}
use Rattle.cct_model.specs.lines.record.Record.TheVariants as record_of
use Rattle.cct_model.specs.lines.command.Command.{Command}
use Rattle.cct_model.specs.lines.command.Step.{Step}
use Rattle.cct_model.specs.lines.entry.Entry.{Entry}
use Rattle.cct_model.specs.lines.entry.Entry.TheVariants as entry
use Rattle.cct_model.specs.Device.{IsTaker}
use Rattle.cct_model.specs.Setup.{IsSoundSetup}
use Rattle.cct_model.specs.Line.{Line}
use Rattle.cct_model.specs.Job.{job, puts}
use Rattle.cct_model.specs.Records.{records}
use Rattle.cct_model.specs.Transcript.{met, lines_of}
use Rattle.cct_laws.specs.Ids.{Ids}
use Rattle.cct_laws.specs.Law.{IsOf}
use Rattle.cct_laws.specs.SinceEpoch.{since_epoch, HasCause, HasCauseAt, HaveCauses}
use Rattle.cct_laws.proofs.jobs.StepBrings.{AtDevice, came, took, halted, idled, made_exchange, made_put, AtWork, Brought, row_after, wire_of, wire_end, record_end}
use Rattle.cct_laws.proofs.steps.EitherKind.{for_taker}
use Rattle.cct_laws.proofs.steps.EachKeeps.{HoldsAt, IsRanged}
use Rattle.cct_laws.proofs.acceptor.Masks.{Masks, masks_break}
use Rattle.cct_laws.proofs.jobs.SeenAtOne.{each_aside, each_with_end, loose, Lost, bare, kept_here, kept_elsewhere, seen_here, seen_aside, seen_lost, seen_from}

-- a record that the device's job puts
put_caused : (d : DeviceSetup) (past : List Entry) (c : Command) (since : List Line) (r : Record) → IsTaker d.body →
    IsRanged d (job (lines_of d past)) → AtWork d past c since → row_after d past c since ≡ puts r → HoldsAt d (Masks d) past →
    HasCause d past r
put_caused d past c since (record_of.Broken addr seen counter lost accepts posted) taking ranged at_work is_row masks =
    λ here.
    let in_range = subst (IsRanged d) at_work.job_is ranged in
    masks_break d (since_epoch d past) (met d past) (lines_of d past) c since addr seen counter lost accepts posted
    (for_taker d.body c taking in_range.1) in_range.0 at_work.job_is at_work.is_here is_row masks
put_caused d past c since r taking ranged at_work is_row masks = tt

causes_there : (capacity : ℕ) (setup : Setup) (d : DeviceSetup) (past news : List Entry) (s : Step) →
    IsTaker d.body → IsRanged d (job (lines_of d past)) → AtDevice capacity setup d past s news → HoldsAt d (Masks d) past →
    HaveCauses d past → HaveCauses d (news ++ past)
causes_there capacity setup d past _ _ taking ranged (came s e m ls comes) masks before =
    ((loose d (met d past) s e m ls comes).no_break d past, before)
causes_there capacity setup d past _ _ taking ranged (took s c gives suited here is_free is_taken is_owed lets) masks before =
    (tt, before)
causes_there capacity setup d past _ _ taking ranged (halted paying can) masks before = (tt, before)
causes_there capacity setup d past _ _ taking ranged (idled is_free) masks before = (tt, before)
causes_there capacity setup d past _ _ taking ranged (made_exchange c since q at_work is_row) masks before =
    each_with_end (HasCauseAt d) past d.addr (wire_of setup d past q) (wire_end setup d past c since q) tt
    (λ older end. tt)
    before
causes_there capacity setup d past _ _ taking ranged (made_put c since r at_work is_row) masks before =
    each_with_end (HasCauseAt d) past d.addr (entry.Put r) (record_end d past c since r)
    (put_caused d past c since r taking ranged at_work is_row masks) (λ older end. tt) before

-- what is after a power cut is as before it
cause_behind : (d : DeviceSetup) (past : List Entry) (records : ℕ) (r : Record) → HasCause d past r →
    HasCause d (entry.Crash records ∷ past) r
cause_behind d past records (record_of.Broken addr seen counter lost accepts posted) caused = caused
cause_behind d past records r caused = tt

causes_lost : (d : DeviceSetup) (past news : List Entry) → IsTaker d.body → IsRanged d (job (lines_of d past)) →
    Lost d past news → HoldsAt d (Masks d) past → HaveCauses d past → HaveCauses d (news ++ past)
causes_lost d past _ taking ranged bare masks before = (tt, before)
causes_lost d past _ taking ranged (kept_here c since r at_work is_row owned) masks before =
    (cause_behind d past (suc (length (records past))) r (put_caused d past c since r taking ranged at_work is_row masks), (tt, before))
causes_lost d past _ taking ranged (kept_elsewhere r away caused) masks before =
    (cause_behind d past (suc (length (records past))) r caused, (tt, before))

pub causes_go_on : (capacity : ℕ) (setup : Setup) (d : DeviceSetup) (past news : List Entry) (s : Step) →
    IsSoundSetup setup → IsOf setup d → IsTaker d.body → IsRanged d (job (lines_of d past)) → Ids setup past →
    Brought capacity setup past s news → HoldsAt d (Masks d) past → HaveCauses d past → HaveCauses d (news ++ past)
causes_go_on capacity setup d past news s sound own taking ranged ids told masks before =
    elim (seen_from capacity setup d past news s sound own ids told) [
      | seen_here at ↦ causes_there capacity setup d past news s taking ranged at masks before
      | seen_aside aside ↦ each_aside (HasCauseAt d) d past news (λ older e passes. passes.no_break) aside.passes before
      | seen_lost lost no_next ↦ causes_lost d past news taking ranged lost masks before
    ]
