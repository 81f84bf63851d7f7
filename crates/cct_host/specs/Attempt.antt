-- What one attempt of a job makes: nothing without a job, else one exchange or one put, and the end
-- where it brings one.
use Rattle.std.specs.Prelude.{◌≡◌, ℕ, List, [], ◌∷◌, Option, Some, None, ⊤}
use Rattle.cct_model.specs.lines.record.Record.{Record}
use Rattle.cct_model.specs.lines.entry.End.{End}
use Rattle.cct_model.specs.lines.entry.Entry.{Entry}
use Rattle.cct_model.specs.lines.entry.Entry.TheVariants as entry
use Rattle.cct_model.specs.Legal.{with_end}
use Rattle.cct_model.specs.Records.{id_of}

-- No job; a piece was sent, and this was heard; a record was put.
pub data Attempt : Type 0 where
  idle : Attempt
  asked : (sent heard : List ℕ) (end : Option End) → Attempt
  put : (entry : Record) (end : Option End) → Attempt

-- The entries of an attempt at an address, newest first.
abbrev pub news_of : ℕ → Attempt → List Entry
news_of addr idle = entry.Idle addr ∷ []
news_of addr (asked sent heard end) = with_end addr (entry.Wire addr sent heard) end
news_of addr (put r end) = with_end addr (entry.Put r) end

-- What an attempt does with its link: its exchange is in what the link gives, and without one the
-- link stays.
abbrev pub Links : {L : Type 0} → (L → List ℕ → List ℕ → L → Type 0) → L → L → Attempt → Type 0
Links gives old new idle = new ≡ old
Links gives old new (asked sent heard end) = gives old sent heard new
Links gives old new (put r end) = new ≡ old

-- What an attempt heard, if it sent a piece, is what follows that piece.
abbrev pub HeardBy : (List ℕ → List ℕ) → Attempt → Type 0
HeardBy hears idle = ⊤
HeardBy hears (asked sent heard end) = heard ≡ hears sent
HeardBy hears (put r end) = ⊤

-- The piece that an attempt sent, if it sent one.
abbrev pub sent_of : Attempt → Option (List ℕ)
sent_of (asked sent heard end) = Some sent
sent_of what = None

-- The record that an attempt put, if it put one.
abbrev pub put_of : Attempt → Option Record
put_of (put r end) = Some r
put_of what = None

-- The id that an attempt used by its put, 0 where it used none.
abbrev pub used_by : Attempt → ℕ
used_by (put r end) = id_of r
used_by what = 0
