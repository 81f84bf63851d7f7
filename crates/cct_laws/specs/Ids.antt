-- Which ids are used, and by whom: what the jobs wait to record, and which orders are whose.
use Rattle.std.specs.Prelude.{◌≡◌, ℕ, false, List, Option, Some, None}
use Rattle.std.specs.List.{list_any}
use Rattle.cct_model.specs.terms.device.DeviceSetup.{DeviceSetup}
use Rattle.cct_model.specs.terms.device.Setup.{Setup}
use Rattle.cct_model.specs.lines.command.Command.{Command}
use Rattle.cct_model.specs.lines.entry.Entry.{Entry}
use Rattle.cct_model.specs.declared.judging.OpenOrder.{OpenOrder}
use Rattle.cct_model.specs.Order.{order}
use Rattle.cct_model.specs.Job.{Job, free, works, job}
use Rattle.cct_model.specs.Rows.{TableRow, rows_of, rows_of_sale, after, done, id_ahead}
use Rattle.cct_model.specs.Records.{records, order_named}
use Rattle.cct_model.specs.Transcript.{lines_of, sale_lines}
use Rattle.cct_model.specs.Paid.{uses}
use Rattle.cct_laws.specs.Law.{IsOf}

-- The id that a job is yet to record, by the rows of its command.
abbrev pub waiting : (Command → List TableRow) → Job → Option ℕ
waiting table free = None
waiting table (works c since) = id_ahead (after (table c) (done (table c) since))

-- The id that the job at a device is yet to record.
abbrev pub waiting_at : List Entry → DeviceSetup → Option ℕ
waiting_at past d = waiting (rows_of d) (job (lines_of d past))

-- The id that a sale is yet to record.
abbrev pub waiting_sale : List Entry → Option ℕ
waiting_sale past = waiting rows_of_sale (job (sale_lines past))

-- An id that a job is yet to record is in no record, and no other job waits with it; and each open
-- order is the one that was opened last with its id, at its own hopper.
pub record Ids (setup : Setup) (past : List Entry) : Type 0 where
  pub waits : (e : DeviceSetup) (id : ℕ) → IsOf setup e → waiting_at past e ≡ Some id →
      list_any (uses id) (records past) ≡ false
  pub sale_waits : (id : ℕ) → waiting_sale past ≡ Some id → list_any (uses id) (records past)
      ≡ false
  pub apart : (d e : DeviceSetup) (id : ℕ) → IsOf setup d → IsOf setup e → waiting_at past d
      ≡ Some id →
      waiting_at past e ≡ Some id → d.addr ≡ e.addr
  pub sale_apart : (e : DeviceSetup) (id : ℕ) → IsOf setup e → waiting_at past e ≡ Some id →
      waiting_sale past ≡ Some id → ⊥
  pub owned : (e : DeviceSetup) (o : OpenOrder) → IsOf setup e → order (lines_of e past) ≡ Some o →
      (order_named o.id (records past) ≡ Some o) × (o.addr ≡ e.addr)
