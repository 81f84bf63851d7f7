-- What records alone show: those among the lines of an address, what the operator has, and how many
-- are held where no job runs.
use Rattle.std.specs.Prelude.{◌≡◌, ℕ, List, [], ◌∷◌, Option, Some, None, ⊤}
use Rattle.cct_model.specs.terms.device.DeviceSetup.{DeviceSetup}
use Rattle.cct_model.specs.terms.device.Setup.{Setup}
use Rattle.cct_model.specs.lines.record.Record.{Record}
use Rattle.cct_model.specs.lines.entry.Entry.{Entry}
use Rattle.cct_model.specs.lines.entry.Entry.TheVariants as entry
use Rattle.cct_model.specs.lines.entry.Totals.{Totals}
use Rattle.cct_model.specs.declared.judging.OpenOrder.{OpenOrder}
use Rattle.cct_model.specs.Line.{Line, put}
use Rattle.cct_model.specs.Job.{free, job}
use Rattle.cct_model.specs.Records.{order_in}
use Rattle.cct_model.specs.Money.{sum_over, available_in, reserved_in, paid_in, sold_in}
use Rattle.cct_model.specs.Transcript.{lines_of, scan_lines, sale_lines}

-- The records among lines.
abbrev pub put_in : List Line → List Record
put_in [] = []
put_in (put r ∷ past) = r ∷ put_in past
put_in (line ∷ past) = put_in past

-- The power was just cut: that is the newest entry, or it is a record that was kept then.
abbrev pub IsRestart : List Entry → Type 0
IsRestart (entry.Crash n ∷ past) = ⊤
IsRestart (entry.Kept r ∷ entry.Crash n ∷ past) = ⊤
IsRestart past = ⊥

-- No job is at any address.
pub record HasNoJob (past : List Entry) : Type 0 where
  pub devices : (d : DeviceSetup) → job (lines_of d past) ≡ free
  pub scan : job (scan_lines past) ≡ free
  pub sale : job (sale_lines past) ≡ free

-- One for an open order, 0 for none.
abbrev pub many_open : Option OpenOrder → ℕ
many_open None = 0
many_open (Some o) = 1

-- How many orders are open.
abbrev pub open_orders : Setup → List Record → ℕ
open_orders setup before = sum_over (λ d. many_open (order_in d.addr before)) setup.devices

-- What the operator has by the records alone.
abbrev pub totals_in : Setup → List Record → Totals
totals_in setup before = record {
  available = available_in setup before;
  reserved = reserved_in setup before;
  paid = paid_in setup before;
  sold = sold_in before;
}
