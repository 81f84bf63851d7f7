-- What a `next` heard is in its entry; where it made no exchange, it heard nothing.
use Rattle.std.proofs.Common.{◌≡◌, ◌⊎◌, inl, inr, ℕ, ◌==◌, Bool, true, false, List, [], ◌∷◌, refl, sym, ap, ◌∙◌, subst, Option, Some, None}
use Rattle.std.specs.Prelude.{MatchBool}
use Rattle.cct_model.specs.terms.wire.CheckKind.{CheckKind}
use Rattle.cct_model.specs.terms.wire.TheConstants.{BROADCAST, HOST}
use Rattle.cct_model.specs.terms.device.DeviceSetup.{DeviceSetup}
use Rattle.cct_model.specs.terms.device.Setup.{Setup}
use Rattle.cct_model.specs.lines.command.Command.{Command}
use Rattle.cct_model.specs.lines.entry.End.{End}
use Rattle.cct_model.specs.lines.entry.Entry.{Entry}
use Rattle.cct_model.specs.lines.entry.Entry.TheVariants as entry
use Rattle.cct_model.specs.Exchange.{ask, device_at}
use Rattle.cct_model.specs.Line.{Line}
use Rattle.cct_model.specs.Order.{order}
use Rattle.cct_model.specs.Job.{Job, free, works, job, epoch, Row, sends, puts, no_row}
use Rattle.cct_model.specs.Legal.{with_end, RowEntries, NextEntries, PollEntries, ScanEntries, SaleEntries, SaleRowEntries, BareNext, OfNext, EntriesOfNext}
use Rattle.cct_model.specs.Rows.{row, row_of_sale}
use Rattle.cct_model.specs.Scan.{scan_row}
use Rattle.cct_model.specs.Transcript.{lines_of, sale_lines, scan_lines}

-- the piece that entries show
abbrev pub piece_in : List Entry → List ℕ
piece_in [] = []
piece_in (entry.Wire addr sent piece ∷ news) = piece
piece_in (e ∷ news) = piece_in news

piece_with_end : (addr : ℕ) (e : Entry) (end : Option End) → piece_in (with_end addr e end) ≡ piece_in (e ∷ [])
piece_with_end addr e None = refl
piece_with_end addr e (Some end) = refl

-- entries say what was heard, by the fact that they are
pub record Rehears (heard : List ℕ) (Of : (List ℕ → List ℕ) → Type 0) (news : List Entry) : Type 0 where
  pub told : Of (λ sent. piece_in news)
  pub piece : (piece_in news ≡ heard) ⊎ (piece_in news ≡ [])

module _ (heard : List ℕ) (news : List Entry) where
  wired : (Of : (List ℕ → List ℕ) → Type 0) (addr : ℕ) (sent : List ℕ) (end : Option End) →
      news ≡ with_end addr (entry.Wire addr sent heard) end → Of (λ sent. heard) → Rehears heard Of news
  wired Of addr sent end told of =
      let same : piece_in news ≡ heard = ap piece_in told ∙ piece_with_end addr (entry.Wire addr sent heard) end in
      record { told = subst (λ piece. Of (λ sent. piece)) (sym same) of; piece = inl same }

  unwired : (Of : (List ℕ → List ℕ) → Type 0) (addr : ℕ) (e : Entry) (end : Option End) → piece_in (e ∷ []) ≡ [] →
      news ≡ with_end addr e end → Of (λ sent. piece_in news) → Rehears heard Of news
  unwired Of addr e end none told of =
      record { told = of; piece = inr (ap piece_in told ∙ piece_with_end addr e end ∙ none) }

  row_heard : (d : DeviceSetup) (past : List Entry) (c : Command) (since : List Line) (r : Row) →
      RowEntries (λ sent. heard) d past c since r news → Rehears heard (λ hears. RowEntries hears d past c since r news) news
  row_heard d past c since (sends q) told =
      wired (λ hears. RowEntries hears d past c since (sends q) news) d.addr (ask d.kind d.addr q) _ told told
  row_heard d past c since (puts r) told =
      unwired (λ hears. RowEntries hears d past c since (puts r) news) d.addr (entry.Put r) _ refl told told
  row_heard d past c since no_row told = absurd told

  job_heard : (d : DeviceSetup) (past : List Entry) (at_work : Job) → NextEntries (λ sent. heard) d past at_work news →
      Rehears heard (λ hears. NextEntries hears d past at_work news) news
  job_heard d past free told =
      unwired (λ hears. NextEntries hears d past free news) d.addr (entry.Idle d.addr) None refl told told
  job_heard d past (works c since) told =
      row_heard d past c since (row d c since (epoch (lines_of d past)) (order (lines_of d past))) told

  poll_heard : (since : List Line) (poll : Option (CheckKind × ℕ)) → PollEntries (λ sent. heard) since poll news →
      Rehears heard (λ hears. PollEntries hears since poll news) news
  poll_heard since None told = absurd told
  poll_heard since (Some (check, addr)) told =
      wired (λ hears. PollEntries hears since (Some (check, addr)) news) BROADCAST _ _ told told

  scan_heard : (scanning : Job) → ScanEntries (λ sent. heard) scanning news →
      Rehears heard (λ hears. ScanEntries hears scanning news) news
  scan_heard free told = unwired (λ hears. ScanEntries hears free news) BROADCAST (entry.Idle BROADCAST) None refl told told
  scan_heard (works c since) told = poll_heard since (scan_row since) told

  sale_piece : (selling : Job) → SaleEntries selling news → piece_in news ≡ []
  sale_piece free told = ap piece_in told
  sale_piece (works c since) told = by_row (row_of_sale c since) told
    where
      by_row : (r : Row) → SaleRowEntries c since r news → piece_in news ≡ []
      by_row (puts r) told = ap piece_in told ∙ piece_with_end HOST (entry.Put r) _
      by_row (sends q) told = absurd told
      by_row no_row told = absurd told

  host_heard : (past : List Entry) (addr : ℕ) (host : Bool) →
      MatchBool host (SaleEntries (job (sale_lines past)) news) (news ≡ entry.Idle addr ∷ []) → piece_in news ≡ []
  host_heard past addr true told = sale_piece (job (sale_lines past)) told
  host_heard past addr false told = ap piece_in told

  bare_heard : (past : List Entry) (addr : ℕ) (all : Bool) → (addr == BROADCAST) ≡ all →
      BareNext (λ sent. heard) past addr news → Rehears heard (λ hears. BareNext hears past addr news) news
  bare_heard past addr all is told = by_all all is (subst (λ b. Bare (λ sent. heard) b) is told)
    where
      Bare : (List ℕ → List ℕ) → Bool → Type 0
      Bare hears b = MatchBool b (ScanEntries hears (job (scan_lines past)) news)
          (MatchBool (addr == HOST) (SaleEntries (job (sale_lines past)) news) (news ≡ entry.Idle addr ∷ []))

      by_all : (b : Bool) → (addr == BROADCAST) ≡ b → Bare (λ sent. heard) b →
          Rehears heard (λ hears. BareNext hears past addr news) news
      by_all true same is =
          let heard_there = scan_heard (job (scan_lines past)) is in
          record { told = subst (λ b. Bare (λ sent. piece_in news) b) (sym same) heard_there.told; piece = heard_there.piece }
      by_all false same is =
          record {
            told = subst (λ b. Bare (λ sent. piece_in news) b) (sym same) is;
            piece = inr (host_heard past addr (addr == HOST) is);
          }

  found_heard : (past : List Entry) (addr : ℕ) (found : Option DeviceSetup) →
      OfNext found (λ d. NextEntries (λ sent. heard) d past (job (lines_of d past)) news) (BareNext (λ sent. heard) past addr news) →
      Rehears heard (λ hears. OfNext found (λ d. NextEntries hears d past (job (lines_of d past)) news) (BareNext hears past addr news)) news
  found_heard past addr None told = bare_heard past addr (addr == BROADCAST) refl told
  found_heard past addr (Some d) told = job_heard d past (job (lines_of d past)) told

  pub next_heard : (setup : Setup) (past : List Entry) (addr : ℕ) → EntriesOfNext (λ sent. heard) setup past addr news →
      Rehears heard (λ hears. EntriesOfNext hears setup past addr news) news
  next_heard setup past addr told = found_heard past addr (device_at setup.devices addr) told
