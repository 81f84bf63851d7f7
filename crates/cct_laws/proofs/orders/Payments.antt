-- What holds of each hopper in every legal transcript over an honest wire, and of ids whatever the wire does.
use Rattle.std.proofs.Common.{◌≡◌, ℕ, List, [], ◌++◌, None}
use Rattle.std.specs.Prelude.{⊤}
use Rattle.cct_model.specs.terms.device.Setup.{Setup}
use Rattle.cct_model.specs.terms.request.Request.TheVariants.{Dispense}
use Rattle.cct_model.specs.lines.command.Command.{Command}
use Rattle.cct_model.specs.lines.command.Step.{Step}
use Rattle.cct_model.specs.lines.entry.Entry.{Entry}
use Rattle.cct_model.specs.Hopper.{remaining}
use Rattle.cct_model.specs.Setup.{IsSoundSetup}
use Rattle.cct_model.specs.Line.{Line}
use Rattle.cct_model.specs.Order.{order}
use Rattle.cct_model.specs.Job.{works, job, epoch, sends}
use Rattle.cct_model.specs.Rows.{row}
use Rattle.cct_model.specs.Legal.{Legal}
use Rattle.cct_model.specs.Paid.{Paid, OfOrder, dispenses, AreFresh}
use Rattle.cct_model.specs.Records.{records}
use Rattle.cct_model.specs.Transcript.{met, onto}
use Rattle.cct_laws.specs.Law.{lines_in}
use Rattle.cct_laws.specs.Scope.{EachHopper}
use Rattle.cct_laws.proofs.orders.Paying.{pays_kept, pays_paid, rests_unowed, dispense_fresh}
use Rattle.cct_laws.proofs.orders.Payouts.{Pays}
use Rattle.cct_laws.proofs.jobs.SeenAtOne.{along}
use Rattle.cct_laws.proofs.jobs.EntriesOfStep.{any_steps}
use Rattle.cct_laws.proofs.orders.OneMoreRecord.{step_grows}
use Rattle.cct_laws.proofs.orders.UsedIds.{grows_fresh}
use Rattle.cct_laws.proofs.steps.AllKept.{kept_hopper_legal}

-- no id is used twice, whatever the wire does
pub legal_fresh : (capacity : ℕ) (setup : Setup) (steps : List Step) (transcript : List Entry) →
    IsSoundSetup setup → Legal capacity setup steps transcript → AreFresh (records (onto [] transcript))
legal_fresh capacity setup steps transcript sound legal =
    along capacity setup (λ s. ⊤) (λ past. AreFresh (records past)) sound
    (λ past news s any ids told fresh.
    grows_fresh (records past) (records (news ++ past)) (step_grows capacity setup past news s ids told) fresh)
    (λ past addr fresh. fresh) steps (onto [] transcript) (any_steps steps) legal tt

-- a hopper, over an honest wire
legal_pays : EachHopper (λ d transcript. Pays d (met d (onto [] transcript)) (lines_in d transcript))
legal_pays capacity setup steps transcript d sound own paying in_range legal honest =
    kept_hopper_legal capacity setup steps transcript d (Pays d) sound own paying in_range legal honest
    (pays_kept d paying)

pub legal_paid : EachHopper (λ d transcript. Paid (lines_in d transcript))
legal_paid capacity setup steps transcript d sound own paying in_range legal honest =
    pays_paid d (met d (onto [] transcript)) (lines_in d transcript)
    (legal_pays capacity setup steps transcript d sound own paying in_range legal honest)

pub legal_rests : EachHopper (λ d transcript. order (lines_in d transcript) ≡ None → remaining d.serial (met d (onto
    [] transcript)) ≡ 0)
legal_rests capacity setup steps transcript d sound own paying in_range legal honest none =
    rests_unowed d (met d (onto [] transcript)) (lines_in d transcript)
    (legal_pays capacity setup steps transcript d sound own paying in_range legal honest) none

pub legal_dispense : EachHopper (λ d transcript. (c : Command) (since : List Line) (serial count : ℕ) → job (lines_in
    d transcript) ≡ works c since → row d c since (epoch (lines_in d transcript)) (order (lines_in d transcript)) ≡
    sends (Dispense serial count) → (serial ≡ d.serial) × OfOrder (order (lines_in d transcript)) (λ o. (dispenses
    (lines_in d transcript) ≡ 0) × (count ≡ o.count)))
legal_dispense capacity setup steps transcript d sound own paying in_range legal honest c since serial count is_job is_row =
    dispense_fresh d (met d (onto [] transcript)) (lines_in d transcript) c since serial count
    (legal_pays capacity setup steps transcript d sound own paying in_range legal honest) is_job is_row
