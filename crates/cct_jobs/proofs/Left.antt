-- The rows of a job's command that are left are those that it has ahead.
use Rattle.std.proofs.Common.{◌≡◌, ℕ, ◌+◌, List, ◌∷◌, refl, sym, ap, ◌∙◌, Option, None, arith}
use Rattle.cct_model.specs.terms.device.DeviceSetup.{DeviceSetup}
use Rattle.cct_model.specs.terms.device.Setup.{Setup}
use Rattle.cct_model.specs.declared.judging.EpochState.{EpochState}
use Rattle.cct_model.specs.declared.judging.Judged.{Judged}
use Rattle.cct_model.specs.declared.judging.OpenOrder.{OpenOrder}
use Rattle.cct_model.specs.lines.command.Command.{Command}
use Rattle.cct_model.specs.Line.{Line}
use Rattle.cct_model.specs.Job.{address_of, judged_in}
use Rattle.cct_model.specs.Rows.{Then, TableRow, puts_due, reading, from, has_closes, has_waits, left, rest}
use Rattle.cct_model.specs.Money.{reserved_for}
use Rattle.cct_jobs.specs.declared.job.Job.{Job}
use Rattle.cct_jobs.specs.declared.job.Job.TheVariants.{Asks, StartPuts, RoundPuts, StopPuts, StopEnds, OrderOpens, OrderCloses, Done}
use Rattle.cct_jobs.specs.Ahead.{ahead}
use Rattle.cct_jobs.specs.Jobs.{Stands, newest_end}
use Rattle.cct_jobs.proofs.StageFacts.{of_stage}
use Rattle.cct_model.proofs.Rows.{fact_from}

-- a job that runs is at its command's device, and has the rows ahead that are left
pub left_known : (d : DeviceSetup) (job : Job) (c : Command) (since : List Line) (state : EpochState)
    (owed : Option OpenOrder) → Stands d job c since state owed → newest_end d c since state ≡ None
    → (ahead job ≡ left d c since state) × (address_of c ≡ d.addr)
left_known d (Asks device stage failed) c since state owed at on = (
  sym (ap (λ rows. from rows (judged_in c since state)) at.ahead_is ∙ (of_stage stage device).stays (judged_in c since state)),
  at.is_here,
)
left_known d (StartPuts device mask counted) c since state owed (device_is, rest_is, at) on = (sym at.ahead_is, at.is_here)
left_known d (RoundPuts entry end) c since state owed at on = (sym at.ahead_is, at.is_here)
left_known d (StopPuts device entry end) c since state owed (device_is, rest_is, at) on = (sym at.ahead_is, at.is_here)
left_known d (StopEnds device) c since state owed (device_is, at) on = (sym at.ahead_is, at.is_here)
left_known d (OrderOpens device own halted) c since state owed at on = (sym at.at.ahead_is, at.at.is_here)
left_known d (OrderCloses entry end) c since state owed at on = (sym at.at.ahead_is, at.at.is_here)
left_known d (Done end) c since state owed at on = absurd cc
left_known d job c since state owed at on = absurd at

-- what is read off rows that doesn't look at one that puts what was judged is the same without it
from_same : {A : Type 0} (f : List TableRow → A)
    → ((behind : Then) (rows : List TableRow) → f (puts_due reading behind ∷ rows) ≡ f rows) → (rows : List TableRow)
    (means : Judged) → f (from rows means) ≡ f rows
from_same f passed rows means =
    fact_from (λ left. f left ≡ f rows) (λ behind left same. sym (passed behind left) ∙ same) rows means refl

none_and : (n : ℕ) → 0 + n ≡ n
none_and n = omega arith

module _ (d : DeviceSetup) (job : Job) (c : Command) (since : List Line) (state : EpochState) (owed : Option OpenOrder)
    (at : Stands d job c since state owed) (on : newest_end d c since state ≡ None) where
  off_rest : {A : Type 0} (f : List TableRow → A)
      → ((behind : Then) (rows : List TableRow) → f (puts_due reading behind ∷ rows) ≡ f rows)
      → f (ahead job) ≡ f (rest d c since)
  off_rest f passed = ap f (left_known d job c since state owed at on).0 ∙ from_same f passed (rest d c since) (judged_in c since state)

  pub waits_known : has_waits (ahead job) ≡ has_waits (rest d c since)
  waits_known = off_rest has_waits (λ behind rows. refl)

  pub closes_known : has_closes (ahead job) ≡ has_closes (rest d c since)
  closes_known = off_rest has_closes (λ behind rows. refl)

  pub here_known : address_of c ≡ d.addr
  here_known = (left_known d job c since state owed at on).1

  pub reserves_known : (setup : Setup) (addr : ℕ) → reserved_for setup addr (ahead job) ≡ reserved_for setup addr (rest d c since)
  reserves_known setup addr = off_rest (reserved_for setup addr) (λ behind rows. none_and (reserved_for setup addr rows))
