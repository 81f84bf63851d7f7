-- The lines of a sale, newest first, that a job represents.
use Rattle.std.specs.Prelude.{◌≡◌, ℕ, List, [], ◌∷◌, Option, Some, None}
use Rattle.cct_model.specs.lines.record.Record.TheVariants as record_of
use Rattle.cct_model.specs.lines.command.Command.{Command}
use Rattle.cct_model.specs.lines.command.Command.TheVariants as command
use Rattle.cct_model.specs.lines.entry.End.{End}
use Rattle.cct_model.specs.lines.entry.End.TheVariants.{Sold}
use Rattle.cct_model.specs.Job.{puts}
use Rattle.cct_model.specs.Rows.{row_of_sale, end_of_sale}
use Rattle.cct_model.specs.Line.{Line, put}
use Rattle.cct_jobs.specs.declared.job.Need.{Need}
use Rattle.cct_jobs.specs.declared.job.Need.TheVariants as need
use Rattle.cct_jobs.specs.declared.job.Job.{Job}
use Rattle.cct_jobs.specs.declared.job.Job.TheVariants.{SalePuts, Done}

-- A sale is still to be put: it has no line yet.
pub record Sells (id price : ℕ) (c : Command) (since : List Line) : Type 0 where
  pub command_is : c ≡ command.Vend id price
  pub unsold : since ≡ []

-- A sale was put, which is its one line, and ended by it.
pub record HasSold (end : End) (c : Command) (since : List Line) : Type 0 where
  pub id : ℕ
  pub price : ℕ
  pub command_is : c ≡ command.Vend id price
  pub sold : since ≡ put (record_of.Sold id price) ∷ []
  pub end_is : end ≡ Sold

-- A job represents the lines of a sale since its command was taken.
abbrev pub StandsSale : Job → Command → List Line → Type 0
StandsSale (SalePuts id price) c since = Sells id price c since
StandsSale (Done end) c since = HasSold end c since
StandsSale job c since = ⊥

-- The end that the newest line brought to a sale, and none before its first line.
abbrev pub newest_sale_end : Command → List Line → Option End
newest_sale_end c [] = None
newest_sale_end c (put entry ∷ since) = end_of_sale c entry since
newest_sale_end c (line ∷ since) = None

-- What a sale needs, by its lines: its row puts this record, or its newest line ended it so.
abbrev pub NeedsSale : Need → Command → List Line → Type 0
NeedsSale need.Exchange c since = ⊥
NeedsSale (need.Put entry) c since = row_of_sale c since ≡ puts entry
NeedsSale (need.Done end) c since = newest_sale_end c since ≡ Some end
