-- That the id of a payment or of a sale that is not refused is a new one.
use Rattle.std.specs.Prelude.{unwrap_or}
use Rattle.std.proofs.Common.{◌≡◌, ◌≢◌, ℕ, ◌<◌, nat_le, cond, Bool, true, false, List, refl, ap, Some, None, arith}
use Rattle.std.proofs.lemmas.Bool.Decides.{nat_tests}
use Rattle.cct_model.specs.terms.device.DeviceSetup.{DeviceSetup}
use Rattle.cct_model.specs.terms.device.Setup.{Setup}
use Rattle.cct_model.specs.lines.command.Command.TheVariants as command
use Rattle.cct_model.specs.lines.command.CommandNo.TheVariants.{OldId}
use Rattle.cct_model.specs.lines.entry.Entry.{Entry}
use Rattle.cct_model.specs.Job.{Job, free, works, job}
use Rattle.cct_model.specs.Rows.{id_ahead, TableRow, rows_of, rows_of_sale, after, done}
use Rattle.cct_model.specs.Records.{records}
use Rattle.cct_model.specs.Refusal.{id_refusal, running_id, sale_id, last_id, refusal}
use Rattle.cct_model.specs.Transcript.{lines_of, sale_lines}
use Rattle.cct_laws.specs.Ids.{waiting, waiting_at, waiting_sale}
use Rattle.cct_laws.specs.Law.{IsOf}
use Rattle.cct_laws.proofs.money.Sums.{greatest_holds}
use Rattle.cct_laws.proofs.jobs.Tests.{tests_pass}
use Rattle.cct_laws.proofs.orders.Orders.{unused_above}
use Rattle.cct_laws.proofs.orders.UsedIds.{Unused}
use Rattle.cct_laws.proofs.jobs.AwaitedRecords.{OneId, one_id, one_id_of_sale, after_waits}

-- no record uses an id, and no job waits with it
pub record IsNew (setup : Setup) (past : List Entry) (id : ℕ) : Type 0 where
  pub unused : Unused id (records past)
  pub devices : (e : DeviceSetup) (other : ℕ) → IsOf setup e → waiting_at past e ≡ Some other → id ≢ other
  pub sale : (other : ℕ) → waiting_sale past ≡ Some other → id ≢ other

-- the id that rows wait to record is theirs
left_own : (rows : List TableRow) (n id : ℕ) → OneId rows → id_ahead (after rows n) ≡ Some id →
    unwrap_or (id_ahead rows) 0 ≡ id
left_own rows n id one is = ap (λ found. unwrap_or found 0) (after_waits rows n id one is)

waits_run : (d : DeviceSetup) (j : Job) (id : ℕ) → waiting (rows_of d) j ≡ Some id → running_id d j ≡ id
waits_run d free id is = absurd cc
waits_run d (works c since) id is = left_own (rows_of d c) (done (rows_of d c) since) id (one_id d c) is

sale_run : (j : Job) (id : ℕ) → waiting rows_of_sale j ≡ Some id → sale_id j ≡ id
sale_run free id is = absurd cc
sale_run (works c since) id is = left_own (rows_of_sale c) (done (rows_of_sale c) since) id (one_id_of_sale c) is

new_by : (setup : Setup) (past : List Entry) (id : ℕ) → id_refusal id (last_id setup past) ≡ None → IsNew setup past id
new_by setup past id none = record {
  unused = unused_above id (records past) (omega (arith, above));
  devices = λ e other own is same.
      let runs = waits_run e (job (lines_of e past)) other is in
      let below = greatest_holds past setup.devices e e.addr own in
      omega (arith, above);
  sale = λ other is same.
      let runs = sale_run (job (sale_lines past)) other is in
      omega (arith, above);
}
  where
    above_by : (last : ℕ) (b : Bool) → nat_le id last ≡ b → cond b (Some (OldId last)) None ≡ None → last < id
    above_by last true test passes = absurd cc
    above_by last false test passes = grind (arith, nat_tests)

    above : last_id setup past < id
    above = above_by (last_id setup past) (nat_le id (last_id setup past)) refl none

-- the test of the id passes where a payment or a sale is not refused
pub payment_new : (capacity : ℕ) (setup : Setup) (past : List Entry) (addr id count : ℕ) →
    refusal capacity setup past (command.Pay addr id count) ≡ None → IsNew setup past id
payment_new capacity setup past addr id count lets =
    new_by setup past id (tests_pass capacity setup past (command.Pay addr id count) lets).state.1.1.1.1.0

pub sale_new : (capacity : ℕ) (setup : Setup) (past : List Entry) (id price : ℕ) →
    refusal capacity setup past (command.Vend id price) ≡ None → IsNew setup past id
sale_new capacity setup past id price lets =
    new_by setup past id (tests_pass capacity setup past (command.Vend id price) lets).state.1.0
