-- One exchange that a job makes over a link.
use Rattle.std.specs.Prelude.{◌≡◌, ℕ, List, [], ◌∷◌, ◌++◌, Option, Some, None}
use Rattle.cct_model.specs.lines.command.Command.{Command}
use Rattle.cct_model.specs.lines.record.Record.{Record}
use Rattle.cct_model.specs.lines.entry.End.{End}
use Rattle.cct_model.specs.lines.entry.Entry.{Entry}
use Rattle.cct_model.specs.lines.entry.Entry.TheVariants as entry
use Rattle.cct_model.specs.declared.judging.EpochState.{EpochState}
use Rattle.cct_model.specs.declared.judging.OpenOrder.{OpenOrder}
use Rattle.cct_model.specs.Line.{Line}
use Rattle.cct_jobs.specs.declared.job.Job.{Job}
use Rattle.cct_jobs.specs.Ahead.{ahead}
use Rattle.cct_jobs.specs.Jobs.{after_put, end_of_job, sending_of}
use Rattle.cct_jobs.specs.Onward.{KeepsTo}
use Rattle.cct_host.specs.Held.{piece_of}
use Rattle.cct_host.specs.Running.{Settles}
use Rattle.cct_host.specs.Place.{Asks, AsksNext, Place, StandsAt, end_at, line_at}

-- Wherever a job is, and its row sends something next, it sends that, and goes on by the line of
-- what it heard.
abbrev pub Talks : Job → List ℕ → List ℕ → Job → Type 0
Talks old sent heard new =
    (place : Place) (c : Command) (since : List Line) (state : EpochState) (owed : Option OpenOrder)
    → StandsAt place old c since state owed → AsksNext place c since state owed
    → Asks place c since state owed sent × StandsAt place new c (line_at place sent heard ∷ since)
    state owed

-- Wherever a job is, this is the end that its newest line brought it, if it brought one.
abbrev pub Ends : Job → Option End → Type 0
Ends job end =
    (place : Place) (c : Command) (line : Line) (since : List Line) (state : EpochState)
    (owed : Option OpenOrder)
    → StandsAt place job c (line ∷ since) state owed → end ≡ end_at place c line since state

-- A job made an exchange at an address over a link, and this is its entry.
pub record Fills {L : Type 0} (gives : L → List ℕ → List ℕ → L → Type 0) (before after : L)
    (addr : ℕ) (old new : Job)
    (said : Entry) : Type 0 where
  pub sent : List ℕ
  pub heard : List ℕ
  pub said_is : said ≡ entry.Wire addr sent heard
  pub asks : piece_of (sending_of old) ≡ Some sent
  pub goes : gives before sent heard after
  pub talks : Talks old sent heard new

-- A job made an exchange at an address over a link, and added its entry to a report.
pub record Converses {L : Type 0} (gives : L → List ℕ → List ℕ → L → Type 0) (before after : L)
    (addr : ℕ)
    (old new : Job) (report reported : List Entry) : Type 0 where
  pub sent : List ℕ
  pub heard : List ℕ
  pub reported_is : reported ≡ report ++ entry.Wire addr sent heard ∷ []
  pub asks : piece_of (sending_of old) ≡ Some sent
  pub goes : gives before sent heard after
  pub talks : Talks old sent heard new

-- A job with this end shows it at an address, and one that runs shows nothing.
abbrev pub TellsEnd : Option End → ℕ → List Entry → List Entry → Type 0
TellsEnd (Some end) addr told reported = reported ≡ told ++ entry.Ended addr end ∷ []
TellsEnd None addr told reported = reported ≡ told

-- A job made an exchange at an address over a link, and this stays of it.
pub record Exchanges {L : Type 0} (gives : L → List ℕ → List ℕ → L → Type 0) (before after : L)
    (addr : ℕ) (old : Job)
    (kept : Option Job) (report reported : List Entry) : Type 0 where
  pub new : Job
  pub told : List Entry
  pub converses : Converses gives before after addr old new report told
  pub keeps : KeepsTo (ahead old) new
  pub ends : Ends new (end_of_job new)
  pub settles : Settles (end_of_job new) new addr kept told reported

-- A record of a job was put at an address, and this stays of the job.
pub record Puts (addr : ℕ) (old : Job) (r : Record) (kept : Option Job)
    (report reported : List Entry) : Type 0 where
  pub ends : Ends (after_put old) (end_of_job (after_put old))
  pub settles : Settles (end_of_job (after_put old)) (after_put old) addr kept
      (report ++ entry.Put r ∷ []) reported
