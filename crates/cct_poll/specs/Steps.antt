-- What a step of a host does whose caller has the wire.
use Rattle.std.specs.Prelude.{◌≡◌, ℕ, List, [], ◌∷◌, ◌++◌, reverse, ⊤}
use Rattle.cct_model.specs.lines.command.Command.{Command}
use Rattle.cct_model.specs.lines.entry.Entry.{Entry}
use Rattle.cct_model.specs.Legal.{EntriesOfNext, command_entry}
use Rattle.cct_model.specs.Records.{records}
use Rattle.cct_model.specs.Refusal.{refusal}
use Rattle.cct_disk.specs.Disk.{IsTrusted, LeavesOnly}
use Rattle.cct_disk.specs.declared.disk.Disk.{Ghosts}
use Rattle.cct_host.specs.declared.host.Host.{Host}
use Rattle.cct_host.specs.Attempt.{Attempt, asked, idle, news_of, put, put_of}
use Rattle.cct_host.specs.Host.{PutSuits, StandsFor, capacity_in, disk_of, setup_of}
use Rattle.cct_host.specs.OnDisk.{StandsUpTo}
use Rattle.cct_poll.specs.declared.poll.Ask.{Ask}
use Rattle.cct_poll.specs.declared.poll.Ask.TheVariants as ask

-- Something is reported, or sent, or put.
abbrev pub Tells : Ask → Type 0
Tells ask.Take = ⊤
Tells ask.Send = ⊤
Tells ask.Put = ⊤
Tells what = ⊥

-- An attempt sent this piece, and nothing where there is none.
abbrev pub Sends : List ℕ → Attempt → Type 0
Sends piece idle = piece ≡ []
Sends piece (asked sent heard end) = sent ≡ piece
Sends piece (put r end) = piece ≡ []

module _ {D : Type 0} {g : Ghosts D} where
  -- The host made one attempt at an address, which sent this piece and heard these bytes: it shows
  -- its entries, oldest first, whatever happened before, and goes on by them.
  pub record Steps (piece heard : List ℕ) (addr : ℕ) (before after : Host D g) (told : List Entry)
      : Type 0 where
    pub what : Attempt
    pub told_is : told ≡ reverse (news_of addr what)
    pub sent_is : Sends piece what
    pub goes : (past : List Entry) → StandsFor before past → PutSuits (setup_of before) past addr
        → EntriesOfNext (λ sent. heard) (setup_of before) past addr (news_of addr what)
        × StandsFor after (news_of addr what ++ past)
    -- What the part held before the calls that are noted is what it was.
    pub part : g.below (disk_of after) ≡ g.below (disk_of before)
    -- Each image that a power cut might have left on a trusted disk while its calls were noted
    -- stands for the records of the past, or for these and the one that is put.
    pub moments : (past : List Entry) → StandsFor before past →
        IsTrusted g.honest g.seen (disk_of before)
        → LeavesOnly g.moment g.left_since (disk_of before) (disk_of after)
        (StandsUpTo (setup_of before) (put_of what) (reverse (records past)))

  -- A command is taken or refused for the first reason that holds after a past: its entry is
  -- reported, and the host goes on by it.
  pub record Says (c : Command) (past : List Entry) (before after : Host D g) (told : List Entry)
      : Type 0 where
    pub told_is : told ≡ command_entry c (refusal (capacity_in before) (setup_of before) past c)
        ∷ []
    pub stands : StandsFor after (command_entry c
        (refusal (capacity_in before) (setup_of before) past c) ∷ past)
