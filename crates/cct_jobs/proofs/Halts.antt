-- Which jobs can be halted, and what a halt leaves.
use Rattle.std.proofs.Common.{◌≡◌, ℕ, Bool, true, false, List, ◌∷◌, refl, sym, ap, ap₂, subst, ◌∙◌, Option, None, arith}
use Rattle.cct_model.specs.lines.command.Command.{Command}
use Rattle.cct_model.specs.terms.device.DeviceSetup.{DeviceSetup}
use Rattle.cct_model.specs.declared.judging.EpochState.{EpochState}
use Rattle.cct_model.specs.declared.judging.OpenOrder.{OpenOrder}
use Rattle.cct_model.specs.Line.{Line, taken}
use Rattle.cct_model.specs.Job.{works}
use Rattle.cct_model.specs.Rows.{can_halt, has_waits}
use Rattle.cct_jobs.specs.declared.job.Job.{Job}
use Rattle.cct_jobs.specs.declared.job.Job.TheVariants.{Asks, OrderOpens, ScanCallsSimple, ScanCallsCrc, ScanPollsSimple, ScanPollsCrc, Done}
use Rattle.cct_jobs.specs.declared.owed.Owed.{Owed}
use Rattle.cct_jobs.specs.declared.payout.Payout.{Payout}
use Rattle.cct_jobs.specs.declared.payout.Payout.TheVariants.{Enables, Counts, Dispenses, Waits, Stops, Recounts}
use Rattle.cct_jobs.specs.declared.stage.Stage.TheVariants.{Pays}
use Rattle.cct_jobs.specs.declared.target.Target.{Target}
use Rattle.cct_jobs.specs.Ahead.{ahead, payout_ahead}
use Rattle.cct_jobs.specs.Jobs.{Asking, KnowsPayout, Opening, Stands, SuitsPayout, Trying, after_halt, end_of_job, halted_row, halted_tries, newest_end, payout_request}
use Rattle.cct_jobs.specs.Scans.{StandsScan}
use Rattle.cct_jobs.proofs.Left.{waits_known}
use Rattle.cct_jobs.proofs.Puts.{open_row_is}
use Rattle.cct_jobs.proofs.StageFacts.{of_stage}

-- which can

pub halts_known : (d : DeviceSetup) (job : Job) (c : Command) (since : List Line) (state : EpochState)
    (owed : Option OpenOrder) (b : Bool) → b ≡ has_waits (ahead job) → Stands d job c since state owed
    → newest_end d c since state ≡ None → b ≡ can_halt d (works c since)
halts_known d job c since state owed b is at on = is ∙ waits_known d job c since state owed at on

scan_stays : (job : Job) (since : List Line) → StandsScan job since → has_waits (ahead job) ≡ false
scan_stays (ScanCallsSimple failed) since at = refl
scan_stays (ScanCallsCrc failed due) since at = refl
scan_stays (ScanPollsSimple addr due listed) since at = refl
scan_stays (ScanPollsCrc addr due listed) since at = refl
scan_stays (Done end) since at = refl
scan_stays job since at = absurd at

pub scan_never_halts : (job : Job) (since : List Line) (b : Bool) → b ≡ has_waits (ahead job) → StandsScan job since
    → b ≡ false
scan_never_halts job since b is at = is ∙ scan_stays job since at

-- what it leaves

same_ahead : (row : Payout) (device : Target) → payout_ahead device (halted_row row) ≡ payout_ahead device row
same_ahead (Waits closing own) device = refl
same_ahead row device = refl

still_suits : (row : Payout) (device : Target) → SuitsPayout row device → SuitsPayout (halted_row row) device
still_suits (Waits closing own) device suits = tt
still_suits row device suits = suits

knows_halt : (row : Payout) (k : Command) (since : List Line) (owed : Option OpenOrder) → KnowsPayout row since owed
    → KnowsPayout (halted_row row) (taken k ∷ since) owed
knows_halt (Enables id count halted) k since owed knows = refl
knows_halt (Counts id count halted) k since owed knows = refl
knows_halt (Dispenses serial own halted) k since owed knows = (refl, knows.1)
knows_halt (Waits closing own) k since owed knows = (refl, knows.1)
knows_halt (Stops closing own) k since owed knows = (refl, knows.1)
knows_halt (Recounts closing own) k since owed knows = knows

tries_halt : (row : Payout) (failed : ℕ) (k : Command) (since : List Line) (owed : Option OpenOrder)
    → KnowsPayout row since owed → Trying (payout_request row) failed since
    → Trying (payout_request (halted_row row)) (halted_tries row failed) (taken k ∷ since)
tries_halt (Enables id count halted) failed k since owed knows at = record { counted = at.counted; few = at.few }
tries_halt (Counts id count halted) failed k since owed knows at = record { counted = at.counted; few = at.few }
tries_halt (Dispenses serial own halted) failed k since owed knows at =
    record { counted = at.counted; few = at.few }
tries_halt (Waits closing own) failed k since owed knows at = record { counted = sym knows.2; few = omega arith }
tries_halt (Stops closing own) failed k since owed knows at = record { counted = at.counted; few = at.few }
tries_halt (Recounts closing own) failed k since owed knows at = record { counted = at.counted; few = at.few }

row_halts : (d : DeviceSetup) (device : Target) (row : Payout) (failed : ℕ) (c k : Command) (since : List Line)
    (state : EpochState) (owed : Option OpenOrder) → Asking d device (Pays row) failed c since state owed
    → Asking d device (Pays (halted_row row)) (halted_tries row failed) c (taken k ∷ since) state owed
row_halts d device row failed c k since state owed at = record {
  device_is = at.device_is;
  is_here = at.is_here;
  ahead_is = at.ahead_is ∙ sym (same_ahead row device);
  suits = still_suits row device at.suits;
  knows = knows_halt row k since owed at.knows;
  trying = tries_halt row failed k since owed at.knows at.trying;
  goes_on = refl;
}

opening_halts : (d : DeviceSetup) (device : Target) (own : Owed) (halted : Bool) (c k : Command) (since : List Line)
    (state : EpochState) (owed : Option OpenOrder) → Opening d device own halted c since state owed
    → Opening d device own true c (taken k ∷ since) state owed
opening_halts d device own halted c k since state owed at = record {
  device_is = at.device_is;
  serial = at.serial;
  rest_is = at.rest_is;
  marked = refl;
  read = at.read;
  is_here = at.is_here;
  at = record {
    is_here = at.at.is_here;
    ahead_is = at.at.ahead_is;
    row_is = open_row_is d device own true c (taken k ∷ since) state owed at.at.is_here at.is_here at.read at.at.ahead_is;
    ends = at.at.ends;
    goes_on = refl;
  };
}

halt_by : (d : DeviceSetup) (job : Job) (c k : Command) (since : List Line) (state : EpochState)
    (owed : Option OpenOrder) → has_waits (ahead job) ≡ true → Stands d job c since state owed
    → Stands d (after_halt job) c (taken k ∷ since) state owed
halt_by d (Asks device (Pays row) failed) c k since state owed can at =
    row_halts d device row failed c k since state owed at
halt_by d (Asks device stage failed) c k since state owed can at = absurd ((of_stage stage device).waits can)
halt_by d (OrderOpens device own halted) c k since state owed can at =
    opening_halts d device own halted c k since state owed at
halt_by d job c k since state owed can at = absurd cc

pub halt_leaves : (d : DeviceSetup) (job after : Job) (c k : Command) (since : List Line) (state : EpochState)
    (owed : Option OpenOrder) → after ≡ after_halt job → has_waits (ahead job) ≡ true → Stands d job c since state owed
    → Stands d after c (taken k ∷ since) state owed
halt_leaves d job after c k since state owed is can at =
    subst (λ j. Stands d j c (taken k ∷ since) state owed) (sym is) (halt_by d job c k since state owed can at)

same_row : (row : Payout) → halted_row (halted_row row) ≡ halted_row row
same_row (Enables id count halted) = refl
same_row (Counts id count halted) = refl
same_row (Dispenses serial own halted) = refl
same_row (Waits closing own) = refl
same_row (Stops closing own) = refl
same_row (Recounts closing own) = refl

same_tries : (row : Payout) (failed : ℕ) → halted_tries (halted_row row) (halted_tries row failed) ≡ halted_tries row failed
same_tries (Enables id count halted) failed = refl
same_tries (Counts id count halted) failed = refl
same_tries (Dispenses serial own halted) failed = refl
same_tries (Waits closing own) failed = refl
same_tries (Stops closing own) failed = refl
same_tries (Recounts closing own) failed = refl

again_by : (job : Job) → has_waits (ahead job) ≡ true → after_halt (after_halt job) ≡ after_halt job
again_by (Asks device (Pays row) failed) can =
    ap₂ (λ r n. Asks device (Pays r) n) (same_row row) (same_tries row failed)
again_by (Asks device stage failed) can = absurd ((of_stage stage device).waits can)
again_by (OrderOpens device own halted) can = refl
again_by job can = absurd cc

pub halt_again : (job after : Job) → after ≡ after_halt job → has_waits (ahead job) ≡ true → after_halt after ≡ after
halt_again job after is can = ap after_halt is ∙ again_by job can ∙ sym is

runs_by : (job : Job) → has_waits (ahead job) ≡ true → end_of_job (after_halt job) ≡ None
runs_by (Asks device (Pays row) failed) can = refl
runs_by (Asks device stage failed) can = absurd ((of_stage stage device).waits can)
runs_by (OrderOpens device own halted) can = refl
runs_by job can = absurd cc

pub halt_runs : (job after : Job) → after ≡ after_halt job → has_waits (ahead job) ≡ true → end_of_job after ≡ None
halt_runs job after is can = ap end_of_job is ∙ runs_by job can

-- and the rows ahead are the same

ahead_by : (job : Job) → ahead (after_halt job) ≡ ahead job
ahead_by (Asks device (Pays row) failed) = same_ahead row device
ahead_by (Asks device stage failed) = refl
ahead_by (OrderOpens device own halted) = refl
ahead_by job = refl

pub halt_ahead : (job after : Job) → after ≡ after_halt job → ahead after ≡ ahead job
halt_ahead job after is = ap ahead is ∙ ahead_by job
