-- What one exchange of a job does, given by what its calls make.
use Rattle.std.proofs.Common.{Option, ◌≡◌, ℕ, List, [], ◌∷◌, ◌++◌, ◌-◌, ◌≤◌, length, set, refl, ap, subst, ◌∙◌}
use Rattle.cct_model.specs.terms.wire.CheckKind.{CheckKind}
use Rattle.cct_model.specs.terms.request.Request.{Request}
use Rattle.cct_model.specs.lines.command.Command.{Command}
use Rattle.cct_model.specs.lines.entry.Entry.{Entry}
use Rattle.cct_model.specs.declared.judging.EpochState.{EpochState}
use Rattle.cct_model.specs.declared.judging.OpenOrder.{OpenOrder}
use Rattle.cct_model.specs.Exchange.{ask}
use Rattle.cct_model.specs.Line.{Line}
use Rattle.cct_model.specs.Scan.{poll_of}
use Rattle.cct_jobs.specs.declared.job.Job.{Job}
use Rattle.cct_jobs.specs.declared.job.Sending.{Sending}
use Rattle.cct_jobs.specs.Jobs.{end_of_job}
use Rattle.cct_jobs.specs.Onward.{HearsDevice, HearsPolled, SendsPoll, SendsToDevice}
use Rattle.cct_jobs.proofs.Needs.{end_known, scan_end_known}
use Rattle.cct_jobs.proofs.Sales.{sale_end_known}
use Rattle.cct_host.specs.Exchange.{Converses, Ends, Fills, Talks}
use Rattle.cct_host.specs.Report.{kept}
use Rattle.cct_host.proofs.Reports.{told_over}
use Rattle.cct_host.specs.Place.{Place, StandsAt, device, line_at, sales, scans}

-- what was spelled
spelled : (s : Sending) (sent : List ℕ) (kind : CheckKind) (addr : ℕ) (q : Request) → sent ≡ ask s.kind s.to s.request
    → s ≡ record { to = addr; kind = kind; request = q } → sent ≡ ask kind addr q
spelled s sent kind addr q is_ask is = is_ask ∙ ap (λ (x : Sending). ask x.kind x.to x.request) is

-- what was lent of the pieces
as_lent : (place : Place) (new : Job) (c : Command) (since : List Line) (state : EpochState)
    (owed : Option OpenOrder) (sent heard piece rest : List ℕ) → piece ≡ sent → rest ≡ heard
    → StandsAt place new c (line_at place piece rest ∷ since) state owed
    → StandsAt place new c (line_at place sent heard ∷ since) state owed
as_lent place new c since state owed sent heard piece rest piece_is rest_is after =
    subst (λ p. StandsAt place new c (line_at place p heard ∷ since) state owed) piece_is
    (subst (λ r. StandsAt place new c (line_at place piece r ∷ since) state owed) rest_is after)

-- a job sends what its row asks, and hears what follows
pub talks : (old new : Job) (s : Sending) (sent heard piece rest : List ℕ) → SendsToDevice old s → SendsPoll old s
    → sent ≡ ask s.kind s.to s.request → piece ≡ sent → rest ≡ heard → HearsDevice old piece rest new
    → HearsPolled old piece rest new → Talks old sent heard new
talks old new s sent heard piece rest asks polls is_ask piece_is rest_is hears scanned (device d) c since state owed stands
    needs =
    let q = needs.request in
    let sent_is : sent ≡ ask d.kind d.addr q = spelled s sent d.kind d.addr q is_ask
    (asks d c since state owed q stands needs.row_is) in (
      (q, needs.row_is, sent_is),
      as_lent (device d) new c since state owed sent heard piece rest piece_is rest_is
          (hears d c since state owed q stands needs.row_is (piece_is ∙ sent_is)),
    )
talks old new s sent heard piece rest asks polls is_ask piece_is rest_is hears scanned scans c since state owed stands needs =
    let sent_is : sent ≡ ask needs.check needs.addr (poll_of needs.addr) =
    spelled s sent needs.check needs.addr (poll_of needs.addr) is_ask
    (polls since needs.check needs.addr stands needs.row_is) in (
      ((needs.check, needs.addr), needs.row_is, sent_is),
      as_lent scans new c since state owed sent heard piece rest piece_is rest_is
          (scanned since needs.check needs.addr stands needs.row_is (piece_is ∙ sent_is)),
    )
talks old new s sent heard piece rest asks polls is_ask piece_is rest_is hears scanned sales c since state owed stands needs =
    absurd needs

-- an exchange whose entry was filled where it is in the report, in the place of the last one
pub converses : {L : Type 0} (gives : L → List ℕ → List ℕ → L → Type 0) (before after : L) (addr : ℕ) (old new : Job)
    (report : List Entry) (said : Entry) (index : ℕ)
    → 1 ≤ length report → index ≡ length report - 1 → Fills gives before after addr old new said
    → Converses gives before after addr old new (kept report) (set report index said)
converses gives before after addr old new report said index some index_is fills = record {
  sent = fills.sent;
  heard = fills.heard;
  reported_is = told_over report said index some index_is ∙ ap (λ x. kept report ++ x ∷ []) fills.said_is;
  asks = fills.asks;
  goes = fills.goes;
  talks = fills.talks;
}

-- the end that a job brings is that of its newest line
pub ends_known : (job : Job) → Ends job (end_of_job job)
ends_known job (device d) c line since state owed stands =
    end_known d job c (line ∷ since) state owed (end_of_job job) refl stands
ends_known job scans c line since state owed stands = scan_end_known job (line ∷ since) (end_of_job job) refl stands
ends_known job sales c line since state owed stands = sale_end_known job c (line ∷ since) (end_of_job job) refl stands
