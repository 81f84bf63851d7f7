-- The entries of a `next` begin with none that reports a forged exchange; with that one before them
-- they are those of a `next` on the wire of a machine.
use Rattle.std.proofs.Common.{◌≡◌, inl, inr, ℕ, ◌==◌, Bool, true, false, List, [], ◌∷◌, ◌++◌, refl, sym, ap, ◌∙◌, subst, Option, Some, None}
use Rattle.std.specs.Prelude.{MatchBool}
use Rattle.cct_model.specs.terms.wire.TheConstants.{BROADCAST, HOST}
use Rattle.cct_model.specs.terms.wire.CheckKind.{CheckKind}
use Rattle.cct_model.specs.terms.device.DeviceSetup.{DeviceSetup}
use Rattle.cct_model.specs.terms.device.Setup.{Setup}
use Rattle.cct_model.specs.lines.command.Command.{Command}
use Rattle.cct_model.specs.lines.entry.End.{End}
use Rattle.cct_model.specs.lines.entry.Entry.{Entry}
use Rattle.cct_model.specs.lines.entry.Entry.TheVariants as entry
use Rattle.cct_model.specs.Exchange.{device_at}
use Rattle.cct_model.specs.Honest.{forged_after, without_forged}
use Rattle.cct_model.specs.Line.{Line}
use Rattle.cct_model.specs.Order.{order}
use Rattle.cct_model.specs.Job.{Job, free, works, job, Row, sends, puts, no_row, epoch}
use Rattle.cct_model.specs.Rows.{row, row_of_sale}
use Rattle.cct_model.specs.Scan.{scan_row}
use Rattle.cct_model.specs.Legal.{with_end, RowEntries, NextEntries, PollEntries, ScanEntries, SaleRowEntries, SaleEntries, BareNext, OfNext, EntriesOfNext, EntriesOnWire}
use Rattle.cct_model.specs.Transcript.{heard_after, lines_of, sale_lines, scan_lines}
use Rattle.cct_laws.proofs.jobs.EntriesOfStep.{forged_or_not}

-- entries begin with none that reports a forged exchange
abbrev BeginsOtherwise : List Entry → Type 0
BeginsOtherwise news = without_forged news ≡ news

by_end : (addr : ℕ) (e : Entry) (end : Option End) → BeginsOtherwise (e ∷ []) → BeginsOtherwise (with_end addr e end)
by_end addr e None is = is
by_end addr e (Some end) is = refl

by_either : (test : Bool) (P Q : Type 0) (news : List Entry) → (P → BeginsOtherwise news) → (Q → BeginsOtherwise news) →
    MatchBool test P Q → BeginsOtherwise news
by_either true P Q news first second is = first is
by_either false P Q news first second is = second is

by_row : (hears : List ℕ → List ℕ) (d : DeviceSetup) (past : List Entry) (c : Command) (since : List Line) (r : Row)
    (news : List Entry) → RowEntries hears d past c since r news → BeginsOtherwise news
by_row hears d past c since (sends q) news is = subst BeginsOtherwise (sym is) (by_end d.addr _ _ refl)
by_row hears d past c since (puts r) news is = subst BeginsOtherwise (sym is) (by_end d.addr _ _ refl)
by_row hears d past c since no_row news is = absurd is

by_job : (hears : List ℕ → List ℕ) (d : DeviceSetup) (past : List Entry) (at_work : Job) (news : List Entry) →
    NextEntries hears d past at_work news → BeginsOtherwise news
by_job hears d past free news is = subst BeginsOtherwise (sym is) refl
by_job hears d past (works c since) news is =
    by_row hears d past c since (row d c since (epoch (lines_of d past)) (order (lines_of d past))) news is

by_poll : (hears : List ℕ → List ℕ) (since : List Line) (due : Option (CheckKind × ℕ)) (news : List Entry) →
    PollEntries hears since due news → BeginsOtherwise news
by_poll hears since None news is = absurd is
by_poll hears since (Some (check, addr)) news is = subst BeginsOtherwise (sym is) (by_end BROADCAST _ _ refl)

by_scan : (hears : List ℕ → List ℕ) (at_work : Job) (news : List Entry) → ScanEntries hears at_work news →
    BeginsOtherwise news
by_scan hears free news is = subst BeginsOtherwise (sym is) refl
by_scan hears (works c since) news is = by_poll hears since (scan_row since) news is

by_sale_row : (c : Command) (since : List Line) (r : Row) (news : List Entry) → SaleRowEntries c since r news →
    BeginsOtherwise news
by_sale_row c since (puts r) news is = subst BeginsOtherwise (sym is) (by_end HOST _ _ refl)
by_sale_row c since r news is = absurd is

by_sale : (at_work : Job) (news : List Entry) → SaleEntries at_work news → BeginsOtherwise news
by_sale free news is = subst BeginsOtherwise (sym is) refl
by_sale (works c since) news is = by_sale_row c since (row_of_sale c since) news is

by_bare : (hears : List ℕ → List ℕ) (past : List Entry) (addr : ℕ) (news : List Entry) → BareNext hears past addr news →
    BeginsOtherwise news
by_bare hears past addr news =
    by_either (addr == BROADCAST) (ScanEntries hears (job (scan_lines past)) news)
    (MatchBool (addr == HOST) (SaleEntries (job (sale_lines past)) news) (news ≡ entry.Idle addr ∷ [])) news
    (by_scan hears (job (scan_lines past)) news)
    (by_either (addr == HOST) (SaleEntries (job (sale_lines past)) news) (news ≡ entry.Idle addr ∷ []) news
    (by_sale (job (sale_lines past)) news) (λ is. subst BeginsOtherwise (sym is) refl))

by_device : (hears : List ℕ → List ℕ) (past : List Entry) (addr : ℕ) (found : Option DeviceSetup) (news : List Entry) →
    OfNext found (λ d. NextEntries hears d past (job (lines_of d past)) news) (BareNext hears past addr news) →
    BeginsOtherwise news
by_device hears past addr None news is = by_bare hears past addr news is
by_device hears past addr (Some d) news is = by_job hears d past (job (lines_of d past)) news is

-- the entries of a `next` at any address
pub next_unforged : (hears : List ℕ → List ℕ) (setup : Setup) (past : List Entry) (addr : ℕ) (told : List Entry) →
    EntriesOfNext hears setup past addr told → without_forged told ≡ told
next_unforged hears setup past addr told is = by_device hears past addr (device_at setup.devices addr) told is

-- so what is reported after them is all that is taken off
pub forged_off : (past told : List Entry) → without_forged told ≡ told →
    without_forged (forged_after past told ++ told) ≡ told
forged_off past told same = elim (forged_or_not past told) [
  | inl none ↦ ap (λ front. without_forged (front ++ told)) none ∙ same
  | inr one ↦ ap (λ front. without_forged (front ++ told)) one.1
]

-- and with it they are those of a `next` on the wire
pub on_wire : (setup : Setup) (past : List Entry) (addr : ℕ) (told : List Entry) →
    EntriesOfNext (heard_after setup past) setup past addr told →
    EntriesOnWire setup past addr (forged_after past told ++ told)
on_wire setup past addr told is =
    let off = forged_off past told (next_unforged (heard_after setup past) setup past addr told is) in (
      subst (EntriesOfNext (heard_after setup past) setup past addr) (sym off) is,
      ap (λ es. forged_after past es ++ es) (sym off),
    )
