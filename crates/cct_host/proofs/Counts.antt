-- That the accept counter of an epoch, as a desk has it, fits three bytes.
use Rattle.std.proofs.Common.{◌≡◌, ℕ, ◌^◌, ◌<◌, ◌==◌, Bool, true, false, cond, List, [], ◌∷◌, Option, Some, None, sym, subst, ◌∙◌, arith}
use Rattle.std.specs.List.{All}
use Rattle.std.proofs.lemmas.List.Elements.{All-head, All-tail}
use Rattle.cct_model.specs.lines.carry.Carry.{Carry}
use Rattle.cct_model.specs.lines.carry.CarryEpoch.{CarryEpoch}
use Rattle.cct_model.specs.lines.record.Record.{Record}
use Rattle.cct_model.specs.lines.record.Record.TheVariants as record_of
use Rattle.cct_model.specs.declared.judging.EpochState.{EpochState}
use Rattle.cct_model.specs.declared.judging.EpochState.TheVariants.{Idle, Running}
use Rattle.cct_model.specs.Carried.{EpochFits, IsRightly, addr_of_epoch, first_with}
use Rattle.cct_model.specs.Carry.{epoch_from, epoch_held}
use Rattle.cct_model.specs.Job.{epoch_by}
use Rattle.cct_record.specs.Body.{Encodable}
use Rattle.cct_jobs.specs.declared.job.Job.{Job}
use Rattle.cct_jobs.specs.Jobs.{accepts_of}
use Rattle.cct_jobs.proofs.Fits.{due_fits}
use Rattle.cct_host.specs.Held.{FitsIn, due_by}

-- after a record that can be spelt in a journal
counted_after : (r : Record) (state : EpochState) → Encodable r → accepts_of state < 2 ^ 24
    → accepts_of (epoch_by r state) < 2 ^ 24
counted_after (record_of.Epoch addr mask accepts) state fits few = fits
counted_after (record_of.Reading addr counter lost accepts posted) Idle fits few = few
counted_after (record_of.Reading addr counter lost accepts posted) (Running mask before earlier) fits few = fits.1
counted_after r state fits few = omega (arith, few)

-- after the record that a job was about to put
pub counted_by : (job : Option Job) (due : Option Record) (r : Record) (state after : EpochState) → due ≡ due_by job
    → due ≡ Some r → FitsIn job → after ≡ epoch_by r state → accepts_of state < 2 ^ 24 → accepts_of after < 2 ^ 24
counted_by None due r state after is some fits goes few = absurd cc
counted_by (Some job) due r state after is some fits goes few =
    subst (λ n. accepts_of n < 2 ^ 24) (sym goes)
    (counted_after r state (due_fits job (Some r) (sym some ∙ is) fits) few)

-- of a carry
pub counted_in : (addr : ℕ) (c : Carry) (state : EpochState) → (many : ℕ) × IsRightly many c
    → state ≡ epoch_held addr c → accepts_of state < 2 ^ 24
counted_in addr c state (many, rightly) held =
    subst (λ n. accepts_of n < 2 ^ 24) (sym held) (first_counted c.epochs rightly.epochs_fit)
  where
    first_counted : (epochs : List CarryEpoch) → All EpochFits epochs
        → accepts_of (epoch_from (first_with addr_of_epoch addr epochs)) < 2 ^ 24
    first_counted [] fit = omega arith
    first_counted (e ∷ epochs) fit =
        by_key (e.addr == addr) (first_counted epochs (All-tail EpochFits e epochs fit))
      where
        by_key : (here : Bool) → accepts_of (epoch_from (first_with addr_of_epoch addr epochs)) < 2 ^ 24
            → accepts_of (epoch_from (cond here (Some e) (first_with addr_of_epoch addr epochs))) < 2 ^ 24
        by_key true later = (All-head EpochFits e epochs fit).accepts
        by_key false later = later
