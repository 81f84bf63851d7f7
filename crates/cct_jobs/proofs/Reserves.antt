-- What a payment or a settlement is running to close, and how many coins a payment reserves.
use Rattle.std.proofs.Common.{◌≡◌, ℕ, Bool, List, refl, sym, ap, ◌∙◌, Option, None}
use Rattle.cct_model.specs.lines.command.Command.{Command}
use Rattle.cct_model.specs.lines.record.Record.{Record}
use Rattle.cct_model.specs.terms.device.DeviceSetup.{DeviceSetup}
use Rattle.cct_model.specs.terms.device.Setup.{Setup}
use Rattle.cct_model.specs.declared.judging.EpochState.{EpochState}
use Rattle.cct_model.specs.declared.judging.OpenOrder.{OpenOrder}
use Rattle.cct_model.specs.Job.{accepts_before, accepts_read, address_of, works, credits_read, mask_read}
use Rattle.cct_model.specs.Rows.{closes_order, has_closes}
use Rattle.cct_model.specs.Line.{Line}
use Rattle.cct_model.specs.Money.{coins_of, freed_by, reserved_by, reserved_for}
use Rattle.cct_jobs.specs.declared.job.Job.{Job}
use Rattle.cct_jobs.specs.declared.job.Job.TheVariants.{Asks, StartPuts, RoundPuts, StopPuts, StopEnds, OrderOpens, OrderCloses, SalePuts}
use Rattle.cct_jobs.specs.declared.job.Need.TheVariants as need
use Rattle.cct_jobs.specs.Ahead.{ahead, coins_in}
use Rattle.cct_jobs.specs.Jobs.{Stands, need_of, newest_end, opened_by}
use Rattle.cct_jobs.proofs.Left as left
use Rattle.cct_jobs.proofs.Owners.{close_frees, reading_frees}
use Rattle.cct_jobs.proofs.Puts.{round_row, stop_row}
use Rattle.cct_jobs.proofs.StageFacts.{of_stage, and_none, nothing}

-- which jobs are running to close an order
pub closes_known : (d : DeviceSetup) (job : Job) (c : Command) (since : List Line) (state : EpochState)
    (owed : Option OpenOrder) (b : Bool) → b ≡ has_closes (ahead job) → Stands d job c since state owed
    → newest_end d c since state ≡ None → b ≡ closes_order d (works c since)
closes_known d job c since state owed b is at on = is ∙ left.closes_known d job c since state owed at on

-- what they reserve

ahead_reserves : (setup : Setup) (addr : ℕ) (d : DeviceSetup) (job : Job) (c : Command) (since : List Line)
    (state : EpochState) (owed : Option OpenOrder) → Stands d job c since state owed
    → coins_of setup addr (coins_in (ahead job)) ≡ reserved_for setup addr (ahead job)
ahead_reserves setup addr d (Asks device stage failed) c since state owed at =
    (of_stage stage device).reserves setup addr
ahead_reserves setup addr d (OrderOpens device own halted) c since state owed at =
    and_none (coins_of setup addr own.order.count)
ahead_reserves setup addr d (SalePuts id price) c since state owed at = absurd at
ahead_reserves setup addr d job c since state owed at = nothing setup addr

pub reserves_known : (setup : Setup) (d : DeviceSetup) (job : Job) (c : Command) (since : List Line)
    (state : EpochState) (owed : Option OpenOrder) (n : ℕ) → n ≡ coins_in (ahead job) → Stands d job c since state owed
    → newest_end d c since state ≡ None → coins_of setup d.addr n ≡ reserved_by setup d (works c since)
reserves_known setup d job c since state owed n is at on =
    ap (coins_of setup d.addr) is
    ∙ ap (λ addr. coins_of setup addr (coins_in (ahead job))) (sym (left.here_known d job c since state owed at on))
    ∙ ahead_reserves setup (address_of c) d job c since state owed at
    ∙ left.reserves_known d job c since state owed at on setup (address_of c)

-- the record that a job is about to put frees just what it reserves

freed_put : (setup : Setup) (entry r : Record) (n : ℕ) → need.Put entry ≡ need.Put r → n ≡ freed_by setup entry
    → n ≡ freed_by setup r
freed_put setup entry r n is freed =
    let same : entry ≡ r = cc in
    freed ∙ ap (freed_by setup) same

pub frees_by : (setup : Setup) (d : DeviceSetup) (job : Job) (c : Command) (since : List Line) (state : EpochState)
    (owed : Option OpenOrder) (r : Record) → need_of job ≡ need.Put r → Stands d job c since state owed
    → coins_of setup d.addr (coins_in (ahead job)) ≡ freed_by setup r
frees_by setup d (StartPuts device mask counted) c since state owed r is at = nothing setup d.addr ∙ freed_put setup _ r _ is refl
frees_by setup d (RoundPuts entry end) c since state owed r is at =
    nothing setup d.addr ∙ freed_put setup entry r _ is
    (reading_frees setup (address_of c) state (credits_read since) (mask_read since) (accepts_before since) (accepts_read since) entry
    (round_row d entry end c since state owed at))
frees_by setup d (StopPuts device entry end) c since state owed r is (device_is, rest_is, at) =
    nothing setup d.addr ∙ freed_put setup entry r _ is
    (reading_frees setup (address_of c) state (credits_read since) (mask_read since) (accepts_before since) (accepts_read since) entry
    (stop_row d device entry end c since state owed at))
frees_by setup d (StopEnds device) c since state owed r is at = nothing setup d.addr ∙ freed_put setup _ r _ is refl
frees_by setup d (OrderOpens device own halted) c since state owed r is at =
    ap (λ a. coins_of setup a own.order.count) (sym at.is_here) ∙ freed_put setup (opened_by own.order) r _ is refl
frees_by setup d (OrderCloses entry end) c since state owed r is at =
    nothing setup d.addr ∙ freed_put setup entry r _ is
    (close_frees setup at.order at.life ∙ ap (freed_by setup) (sym at.closes))
frees_by setup d (SalePuts id price) c since state owed r is at = absurd at
frees_by setup d job c since state owed r is at = absurd cc
