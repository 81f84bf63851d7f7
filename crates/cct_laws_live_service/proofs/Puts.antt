-- A step of a live host puts one record at most.
use Rattle.std.proofs.Common.{◌≡◌, ◌≤◌, ℕ, suc, ◌==◌, Bool, true, false, List, [], ◌∷◌, ◌++◌, length, refl, sym, ap, ◌∙◌, subst, Option, Some, None, arith}
use Rattle.std.specs.Prelude.{MatchBool}
use Rattle.cct_model.specs.terms.wire.CheckKind.{CheckKind}
use Rattle.cct_model.specs.terms.wire.TheConstants.{BROADCAST, HOST}
use Rattle.cct_model.specs.terms.device.DeviceSetup.{DeviceSetup}
use Rattle.cct_model.specs.terms.device.Setup.{Setup}
use Rattle.cct_model.specs.lines.command.Command.{Command}
use Rattle.cct_model.specs.lines.command.CommandNo.{CommandNo}
use Rattle.cct_model.specs.lines.record.Record.{Record}
use Rattle.cct_model.specs.lines.entry.End.{End}
use Rattle.cct_model.specs.lines.entry.Entry.{Entry}
use Rattle.cct_model.specs.lines.entry.Entry.TheVariants as entry
use Rattle.cct_model.specs.Exchange.{device_at}
use Rattle.cct_model.specs.Job.{Job, Row, epoch, free, job, no_row, puts, sends, works}
use Rattle.cct_model.specs.Legal.{BareNext, NextEntries, OfNext, PollEntries, RowEntries, SaleEntries, SaleRowEntries, ScanEntries, command_entry, with_end}
use Rattle.cct_model.specs.Line.{Line}
use Rattle.cct_model.specs.Order.{order}
use Rattle.cct_model.specs.Records.{records}
use Rattle.cct_model.specs.Refusal.{refusal}
use Rattle.cct_model.specs.Rows.{row, row_of_sale}
use Rattle.cct_model.specs.Scan.{scan_row}
use Rattle.cct_model.specs.Transcript.{lines_of, sale_lines, scan_lines}
use Rattle.cct_laws_live.specs.Life.{IsLifeStep}
use Rattle.cct_laws_live.specs.Live.{LiveEntries}
use Rattle.cct_laws_live.specs.LiveStep.{LiveStep}
use Rattle.cct_laws_live.specs.LiveStep as live

-- by these entries a past has one record more at most
abbrev pub PutsOne : List Entry → List Entry → Type 0
PutsOne past news = length (records (news ++ past)) ≤ suc (length (records past))

no_more : (n : ℕ) → n ≤ suc n
no_more n = omega arith

one_more : (n : ℕ) → suc n ≤ suc n
one_more n = omega arith

wire_puts : (past : List Entry) (at addr : ℕ) (sent piece : List ℕ) (end : Option End) →
    PutsOne past (with_end at (entry.Wire addr sent piece) end)
wire_puts past at addr sent piece None = no_more (length (records past))
wire_puts past at addr sent piece (Some end) = no_more (length (records past))

put_puts : (past : List Entry) (at : ℕ) (r : Record) (end : Option End) → PutsOne past (with_end at (entry.Put r) end)
put_puts past at r None = one_more (length (records past))
put_puts past at r (Some end) = one_more (length (records past))

idle_puts : (past : List Entry) (addr : ℕ) (news : List Entry) → news ≡ entry.Idle addr ∷ [] → PutsOne past news
idle_puts past addr news is = subst (PutsOne past) (sym is) (no_more (length (records past)))

module _ (hears : List ℕ → List ℕ) (past news : List Entry) where
  row_puts : (d : DeviceSetup) (c : Command) (since : List Line) (r : Row) → RowEntries hears d past c since r news →
      PutsOne past news
  row_puts d c since (sends q) is = subst (PutsOne past) (sym is) (wire_puts past _ _ _ _ _)
  row_puts d c since (puts r) is = subst (PutsOne past) (sym is) (put_puts past _ _ _)
  row_puts d c since no_row is = absurd is

  next_puts : (d : DeviceSetup) (at_work : Job) → NextEntries hears d past at_work news → PutsOne past news
  next_puts d free is = idle_puts past d.addr news is
  next_puts d (works c since) is =
      row_puts d c since (row d c since (epoch (lines_of d past)) (order (lines_of d past))) is

  poll_puts : (since : List Line) (poll : Option (CheckKind × ℕ)) → PollEntries hears since poll news → PutsOne past news
  poll_puts since None is = absurd is
  poll_puts since (Some (check, addr)) is = subst (PutsOne past) (sym is) (wire_puts past _ _ _ _ _)

  scan_puts : (at_work : Job) → ScanEntries hears at_work news → PutsOne past news
  scan_puts free is = idle_puts past BROADCAST news is
  scan_puts (works c since) is = poll_puts since (scan_row since) is

  sale_row_puts : (c : Command) (since : List Line) (r : Row) → SaleRowEntries c since r news → PutsOne past news
  sale_row_puts c since (puts r) is = subst (PutsOne past) (sym is) (put_puts past _ _ _)
  sale_row_puts c since (sends q) is = absurd is
  sale_row_puts c since no_row is = absurd is

  sale_puts : (at_work : Job) → SaleEntries at_work news → PutsOne past news
  sale_puts free is = idle_puts past HOST news is
  sale_puts (works c since) is = sale_row_puts c since (row_of_sale c since) is

  by_address : (b : Bool) (P Q : Type 0) → (P → PutsOne past news) → (Q → PutsOne past news) → MatchBool b P Q →
      PutsOne past news
  by_address true P Q first second is = first is
  by_address false P Q first second is = second is

  bare_puts : (addr : ℕ) → BareNext hears past addr news → PutsOne past news
  bare_puts addr is =
      by_address (addr == BROADCAST) (ScanEntries hears (job (scan_lines past)) news)
      (MatchBool (addr == HOST) (SaleEntries (job (sale_lines past)) news) (news ≡ entry.Idle addr ∷ []))
      (scan_puts (job (scan_lines past)))
      (by_address (addr == HOST) (SaleEntries (job (sale_lines past)) news) (news ≡ entry.Idle addr ∷ [])
      (sale_puts (job (sale_lines past))) (idle_puts past addr news))
      is

  at_puts : (addr : ℕ) (found : Option DeviceSetup) →
      OfNext found (λ d. NextEntries hears d past (job (lines_of d past)) news) (BareNext hears past addr news) →
      PutsOne past news
  at_puts addr None is = bare_puts addr is
  at_puts addr (Some d) is = next_puts d (job (lines_of d past)) is

command_puts : (past : List Entry) (c : Command) (no : Option CommandNo) → PutsOne past (command_entry c no ∷ [])
command_puts past c None = no_more (length (records past))
command_puts past c (Some why) = no_more (length (records past))

pub step_puts : (capacity : ℕ) (setup : Setup) (past news : List Entry) (s : LiveStep) → IsLifeStep s →
    LiveEntries capacity setup past s news → PutsOne past news
step_puts capacity setup past news (live.command c) of is =
    subst (PutsOne past) (sym is) (command_puts past c (refusal capacity setup past c))
step_puts capacity setup past news (live.next addr) of is =
    at_puts (λ sent. is.0) past news addr (device_at setup.devices addr) is.2
step_puts capacity setup past news live.balance of is =
    subst (PutsOne past) (sym is) (no_more (length (records past)))
step_puts capacity setup past news (live.start at) of is = absurd of

-- what is reported takes no record away
pub records_grow : (news past : List Entry) → (put : List Record) × (records (news ++ past) ≡ put ++ records past)
records_grow [] past = ([], refl)
records_grow (entry.Put r ∷ news) past =
    let rest = records_grow news past in
    (r ∷ rest.0, ap (λ rs. r ∷ rs) rest.1)
records_grow (entry.Kept r ∷ news) past =
    let rest = records_grow news past in
    (r ∷ rest.0, ap (λ rs. r ∷ rs) rest.1)
records_grow (e ∷ news) past = records_grow news past
