-- What running jobs reserve no more once a record that is due is put: until then they reserve it, so it is available
-- beside the records, and beside what the other jobs reserve.
use Rattle.std.proofs.Common.{◌≡◌, ℕ, ◌+◌, ◌-◌, ◌≤◌, true, List, ◌∷◌, refl, ap, ◌∙◌, arith, le-leb}
use Rattle.cct_model.specs.terms.wire.TheConstants.{HOST}
use Rattle.std.proofs.lemmas.Bool.{and_from}
use Rattle.cct_model.specs.terms.device.DeviceSetup.{DeviceSetup}
use Rattle.cct_model.specs.terms.device.Setup.{Setup}
use Rattle.cct_model.specs.lines.record.Record.{Record}
use Rattle.cct_model.specs.lines.record.Record.TheVariants as record_of
use Rattle.cct_model.specs.lines.command.Command.{Command}
use Rattle.cct_model.specs.lines.entry.Entry.{Entry}
use Rattle.cct_model.specs.Line.{Line, put}
use Rattle.cct_model.specs.Job.{works, job, address_of}
use Rattle.cct_model.specs.Rows.{rest}
use Rattle.cct_model.specs.Records.{records}
use Rattle.cct_model.specs.Money.{sum_over, coins_of, posted_in, reserved_in, paid_in, sold_in, reserved_for, reserved_by, reserved_by_sale, reserved_at_work, freed_by, spoken_for}
use Rattle.cct_model.specs.Following.{is_allowed}
use Rattle.cct_model.specs.Transcript.{lines_of, sale_lines}
use Rattle.cct_laws.specs.Law.{IsOf}
use Rattle.cct_laws.proofs.money.Reserved.{spoken_both, work_put}
use Rattle.cct_laws.proofs.jobs.StepBrings.{Selling, Due, from_job, from_sale}
use Rattle.cct_laws.proofs.money.Covered.{spoken_in}
use Rattle.cct_laws.proofs.money.PutsFollow.{Follows, IsAffordable}
use Rattle.cct_laws.proofs.orders.Opening.{UsesOwn}
use Rattle.cct_laws.proofs.money.Sums.{sum_holds}
use Rattle.cct_laws.proofs.jobs.LeftAlone.{row_uses}

-- what the job at a device is about to put: the order that it opens frees its coins
put_frees : (setup : Setup) (d : DeviceSetup) (past : List Entry) (c : Command) (since : List Line) (r : Record) →
    IsOf setup d → job (lines_of d past) ≡ works c since → UsesOwn r (address_of c) (rest d c since) →
    freed_by setup r ≤ reserved_at_work setup past
put_frees setup d past c since r own is uses_own =
    within (freed_by setup r) (reserved_by setup d (works c (put r ∷ since))) (reserved_by setup d (works c since))
    (reserved_by setup d (job (lines_of d past)))
    (sum_over (λ e. reserved_by setup e (job (lines_of e past))) setup.devices)
    (reserved_by_sale setup (job (sale_lines past))) (work_put setup d c since r uses_own) (ap (reserved_by setup d) is)
    (sum_holds (λ e. reserved_by setup e (job (lines_of e past))) setup.devices d d.addr own)
  where
    within : (freed later now here devices sale : ℕ) → freed + later ≤ now → here ≡ now → here ≤ devices →
        freed ≤ devices + sale
    within freed later now here devices sale frees same le = omega (arith, frees, same, le)

-- and a sale its price
pub sale_reserves : (setup : Setup) (past : List Entry) (id price : ℕ) (since : List Line) →
    Selling past id price since → reserved_by_sale setup (job (sale_lines past)) ≡ price
sale_reserves setup past id price since selling =
    just _ (ap (reserved_by_sale setup) selling.job_is ∙ ap (reserved_for setup HOST) selling.first)
  where
    just : (much : ℕ) → much ≡ price + 0 → much ≡ price
    just much is = omega (arith, is)

sale_frees : (setup : Setup) (past : List Entry) (id price : ℕ) (since : List Line) → Selling past id price since →
    price ≤ reserved_at_work setup past
sale_frees setup past id price since selling =
    within (sum_over (λ e. reserved_by setup e (job (lines_of e past))) setup.devices)
    (reserved_by_sale setup (job (sale_lines past))) (sale_reserves setup past id price since selling)
  where
    within : (devices here : ℕ) → here ≡ price → price ≤ devices + here
    within devices here same = omega (arith, same)

pub due_frees : (setup : Setup) (past : List Entry) (r : Record) → Due setup past r →
    freed_by setup r ≤ reserved_at_work setup past
due_frees setup past _ (from_job d c since r own at_work is_row) =
    put_frees setup d past c since r own at_work.job_is (row_uses d past c since r is_row)
due_frees setup past _ (from_sale id price since none selling) = sale_frees setup past id price since selling

-- over plain numbers
beside_records : (part all spoken spoken_all posted : ℕ) → part ≤ all → spoken_all ≡ spoken + all →
    spoken_all ≤ posted → part ≤ posted - spoken
beside_records part all spoken spoken_all posted le both covered = omega (arith, le, both, covered)

beside_others : (part all in_records paid sold posted : ℕ) → part ≤ all → in_records + all + paid + sold ≤ posted →
    part ≤ posted - (in_records + (all - part) + paid + sold)
beside_others part all in_records paid sold posted le covered = omega (arith, le, covered)

-- so its money is available
pub affords : (setup : Setup) (past : List Entry) (r : Record) → freed_by setup r ≤ reserved_at_work setup past →
    spoken_for setup past ≤ posted_in setup (records past) → IsAffordable setup (records past) r
affords setup past (record_of.Opened id addr count life) frees covered =
    beside_records (coins_of setup addr count) (reserved_at_work setup past) (spoken_in setup (records past))
    (spoken_for setup past) (posted_in setup (records past)) frees (spoken_both setup past) covered
affords setup past (record_of.Sold id price) frees covered =
    beside_records price (reserved_at_work setup past) (spoken_in setup (records past)) (spoken_for setup past)
    (posted_in setup (records past)) frees (spoken_both setup past) covered
affords setup past r frees covered = tt

-- and a ledger takes it beside what the other jobs reserve
pub allows : (setup : Setup) (past : List Entry) (r : Record) → Follows setup (records past) r →
    freed_by setup r ≤ reserved_at_work setup past → spoken_for setup past ≤ posted_in setup (records past) →
    is_allowed setup (records past) (reserved_at_work setup past - freed_by setup r) r ≡ true
allows setup past (record_of.Opened id addr count life) follow frees covered =
    let wanted = coins_of setup addr count in
    and_from _ _ follow
    (le-leb wanted _
    (beside_others wanted (reserved_at_work setup past) (reserved_in setup (records past))
    (paid_in setup (records past)) (sold_in (records past)) (posted_in setup (records past)) frees covered))
allows setup past (record_of.Sold id price) follow frees covered =
    and_from _ _ follow
    (le-leb price _
    (beside_others price (reserved_at_work setup past) (reserved_in setup (records past)) (paid_in setup (records past))
    (sold_in (records past)) (posted_in setup (records past)) frees covered))
allows setup past (record_of.Closed id paid unpaid) follow frees covered = follow
allows setup past (record_of.Odd id life_before life_after) follow frees covered = follow
allows setup past r follow frees covered = refl
