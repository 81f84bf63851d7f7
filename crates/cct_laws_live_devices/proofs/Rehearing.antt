-- The entries of a `next` in which some bytes were heard are those of one in which the devices answer, where these bytes are
-- what they answer. They are one entry, or a further one that is reported at once.
use Rattle.std.proofs.Common.{◌≡◌, inl, inr, ℕ, ◌==◌, Bool, true, false, List, [], ◌∷◌, refl, sym, ap, ◌∙◌, subst, Option, Some, None, true≢false}
use Rattle.std.specs.Prelude.{MatchBool, ⊤}
use Rattle.cct_model.specs.terms.wire.CheckKind.{CheckKind}
use Rattle.cct_model.specs.terms.wire.TheConstants.{BROADCAST, HOST}
use Rattle.cct_model.specs.terms.device.DeviceSetup.{DeviceSetup}
use Rattle.cct_model.specs.terms.device.Setup.{Setup}
use Rattle.cct_model.specs.lines.command.Command.{Command}
use Rattle.cct_model.specs.lines.entry.End.{End}
use Rattle.cct_model.specs.lines.entry.Entry.{Entry}
use Rattle.cct_model.specs.lines.entry.Entry.TheVariants as entry
use Rattle.cct_model.specs.Exchange.{ask, asked, device_at}
use Rattle.cct_model.specs.lines.record.Record.{Record}
use Rattle.cct_model.specs.Reply.{Reply}
use Rattle.cct_laws_live_devices.specs.World.{HeardAs}
use Rattle.cct_laws_live_devices.proofs.Mending.{got_same}
use Rattle.cct_model.specs.Line.{Line, exchange}
use Rattle.cct_model.specs.Order.{order}
use Rattle.cct_model.specs.Job.{Job, free, works, job, epoch, Row, sends, puts, no_row}
use Rattle.cct_model.specs.Legal.{with_end, RowEntries, NextEntries, PollEntries, ScanEntries, SaleEntries, SaleRowEntries, BareNext, OfNext, EntriesOfNext}
use Rattle.cct_model.specs.Rows.{row, row_of_sale, end_of}
use Rattle.cct_model.specs.Scan.{scan_row, end_of_scan}
use Rattle.cct_model.specs.Transcript.{got_by, lines_of, sale_lines, scan_line, scan_lines}

-- what comes at once after another entry
abbrev pub IsLate : Entry → Type 0
IsLate (entry.Ended addr end) = ⊤
IsLate (entry.Kept r) = ⊤
IsLate e = ⊥

pub data IsNews : List Entry → Type 0 where
  one : (e : Entry) → IsNews (e ∷ [])
  two : (late first : Entry) → IsLate late → IsNews (late ∷ first ∷ [])

pub news_with_end : (addr : ℕ) (e : Entry) (end : Option End) → IsNews (with_end addr e end)
news_with_end addr e None = one e
news_with_end addr e (Some end) = two (entry.Ended addr end) e tt

-- the entries in which each exchange hears something else
abbrev pub reheard : (List ℕ → List ℕ) → List Entry → List Entry
reheard hears [] = []
reheard hears (entry.Wire addr sent piece ∷ news) = entry.Wire addr sent (hears sent) ∷ reheard hears news
reheard hears (e ∷ news) = e ∷ reheard hears news

-- in each exchange a host makes the same of it
abbrev pub AreAnswered : (List ℕ → List ℕ) → List Entry → Type 0
AreAnswered hears [] = ⊤
AreAnswered hears (entry.Wire addr sent piece ∷ news) = HeardAs addr sent piece (hears sent) × AreAnswered hears news
AreAnswered hears (e ∷ news) = AreAnswered hears news

answered_end : (hears : List ℕ → List ℕ) (addr to : ℕ) (sent piece : List ℕ) (end : Option End) →
    AreAnswered hears (with_end addr (entry.Wire to sent piece) end) → HeardAs to sent piece (hears sent)
answered_end hears addr to sent piece None are = are.0
answered_end hears addr to sent piece (Some end) are = are.0

wire_reheard : (hears : List ℕ → List ℕ) (addr to : ℕ) (sent piece : List ℕ) (end : Option End) →
    reheard hears (with_end addr (entry.Wire to sent piece) end) ≡ with_end addr (entry.Wire to sent (hears sent)) end
wire_reheard hears addr to sent piece None = refl
wire_reheard hears addr to sent piece (Some end) = refl

put_reheard : (hears : List ℕ → List ℕ) (addr : ℕ) (r : Record) (end : Option End) →
    reheard hears (with_end addr (entry.Put r) end) ≡ with_end addr (entry.Put r) end
put_reheard hears addr r None = refl
put_reheard hears addr r (Some end) = refl

pub record Rehears (hears : List ℕ → List ℕ) (Of : (List ℕ → List ℕ) → List Entry → Type 0) (news : List Entry) : Type 0 where
  pub shape : IsNews news
  pub again : AreAnswered hears news → Of hears (reheard hears news)

module _ (heard : List ℕ) (hears : List ℕ → List ℕ) (news : List Entry) where
  row_heard : (d : DeviceSetup) (past : List Entry) (c : Command) (since : List Line) (r : Row) →
      RowEntries (λ sent. heard) d past c since r news → Rehears hears (λ h es. RowEntries h d past c since r es) news
  row_heard d past c since (sends q) is =
      let sent = ask d.kind d.addr q in
      let ends : Option Reply → Option End =
      (λ y. end_of d c (exchange (asked d.kind sent) y) since (epoch (lines_of d past))) in
      record {
        shape = subst IsNews (sym is) (news_with_end d.addr (entry.Wire d.addr sent heard) (ends (got_by d sent heard)));
        again = λ are.
            ap (reheard hears) is ∙ wire_reheard hears d.addr d.addr sent heard (ends (got_by d sent heard))
            ∙ ap (λ y. with_end d.addr (entry.Wire d.addr sent (hears sent)) (ends y))
            (got_same d d.addr sent heard (hears sent)
            (answered_end hears d.addr d.addr sent heard (ends (got_by d sent heard)) (subst (AreAnswered hears) is are)));
      }
  row_heard d past c since (puts r) is =
      record {
        shape = subst IsNews (sym is) (news_with_end d.addr (entry.Put r) _);
        again = λ are. ap (reheard hears) is ∙ put_reheard hears d.addr r _;
      }
  row_heard d past c since no_row is = absurd is

  job_heard : (d : DeviceSetup) (past : List Entry) (at_work : Job) → NextEntries (λ sent. heard) d past at_work news →
      Rehears hears (λ h es. NextEntries h d past at_work es) news
  job_heard d past free is =
      record { shape = subst IsNews (sym is) (one (entry.Idle d.addr)); again = λ are. ap (reheard hears) is }
  job_heard d past (works c since) is =
      row_heard d past c since (row d c since (epoch (lines_of d past)) (order (lines_of d past))) is

  same_heard : (sent piece model : List ℕ) → HeardAs BROADCAST sent piece model → piece ≡ model
  same_heard sent piece model (inl same) = same
  same_heard sent piece model (inr (other, none, nor)) = absurd (true≢false other)

  poll_heard : (since : List Line) (poll : Option (CheckKind × ℕ)) → PollEntries (λ sent. heard) since poll news →
      Rehears hears (λ h es. PollEntries h since poll es) news
  poll_heard since None is = absurd is
  poll_heard since (Some (check, addr)) is = by_poll _ is
    where
      by_poll : (sent : List ℕ) →
          news ≡ with_end BROADCAST (entry.Wire BROADCAST sent heard) (end_of_scan (scan_line sent heard ∷ since)) →
          Rehears hears
          (λ h es. es ≡ with_end BROADCAST (entry.Wire BROADCAST sent (h sent)) (end_of_scan (scan_line sent (h sent) ∷ since)))
          news
      by_poll sent is = record {
        shape = subst IsNews (sym is) (news_with_end BROADCAST (entry.Wire BROADCAST sent heard) _);
        again = λ are.
            ap (reheard hears) is
            ∙ wire_reheard hears BROADCAST BROADCAST sent heard (end_of_scan (scan_line sent heard ∷ since))
            ∙ ap (λ p. with_end BROADCAST (entry.Wire BROADCAST sent (hears sent)) (end_of_scan (scan_line sent p ∷ since)))
            (same_heard sent heard (hears sent)
            (answered_end hears BROADCAST BROADCAST sent heard _ (subst (AreAnswered hears) is are)));
      }

  scan_heard : (scanning : Job) → ScanEntries (λ sent. heard) scanning news →
      Rehears hears (λ h es. ScanEntries h scanning es) news
  scan_heard free is =
      record { shape = subst IsNews (sym is) (one (entry.Idle BROADCAST)); again = λ are. ap (reheard hears) is }
  scan_heard (works c since) is = poll_heard since (scan_row since) is

  sale_heard : (selling : Job) → SaleEntries selling news → Rehears hears (λ h es. SaleEntries selling es) news
  sale_heard free is =
      record { shape = subst IsNews (sym is) (one (entry.Idle HOST)); again = λ are. ap (reheard hears) is }
  sale_heard (works c since) is = by_row (row_of_sale c since) is
    where
      by_row : (r : Row) → SaleRowEntries c since r news → Rehears hears (λ h es. SaleRowEntries c since r es) news
      by_row (puts r) is =
          record {
            shape = subst IsNews (sym is) (news_with_end HOST (entry.Put r) _);
            again = λ are. ap (reheard hears) is ∙ put_reheard hears HOST r _;
          }
      by_row (sends q) is = absurd is
      by_row no_row is = absurd is

  host_heard : (past : List Entry) (addr : ℕ) (host : Bool) →
      MatchBool host (SaleEntries (job (sale_lines past)) news) (news ≡ entry.Idle addr ∷ []) →
      Rehears hears (λ h es. MatchBool host (SaleEntries (job (sale_lines past)) es) (es ≡ entry.Idle addr ∷ [])) news
  host_heard past addr true is = sale_heard (job (sale_lines past)) is
  host_heard past addr false is =
      record { shape = subst IsNews (sym is) (one (entry.Idle addr)); again = λ are. ap (reheard hears) is }

  by_place : (past : List Entry) (addr : ℕ) (all : Bool) →
      MatchBool all (ScanEntries (λ sent. heard) (job (scan_lines past)) news)
      (MatchBool (addr == HOST) (SaleEntries (job (sale_lines past)) news) (news ≡ entry.Idle addr ∷ [])) →
      Rehears hears (λ h es. MatchBool all (ScanEntries h (job (scan_lines past)) es)
      (MatchBool (addr == HOST) (SaleEntries (job (sale_lines past)) es) (es ≡ entry.Idle addr ∷ []))) news
  by_place past addr true is = scan_heard (job (scan_lines past)) is
  by_place past addr false is = host_heard past addr (addr == HOST) is

  found_heard : (past : List Entry) (addr : ℕ) (found : Option DeviceSetup) →
      OfNext found (λ d. NextEntries (λ sent. heard) d past (job (lines_of d past)) news) (BareNext (λ sent. heard) past addr news) →
      Rehears hears (λ h es. OfNext found (λ d. NextEntries h d past (job (lines_of d past)) es) (BareNext h past addr es)) news
  found_heard past addr None is = by_place past addr (addr == BROADCAST) is
  found_heard past addr (Some d) is = job_heard d past (job (lines_of d past)) is

  pub next_again : (setup : Setup) (past : List Entry) (addr : ℕ) → EntriesOfNext (λ sent. heard) setup past addr news →
      Rehears hears (λ h es. EntriesOfNext h setup past addr es) news
  next_again setup past addr is = found_heard past addr (device_at setup.devices addr) is
