-- What a program does with a host that calls nothing, one deed after the other.
use Rattle.std.specs.Prelude.{◌≡◌, ◌≤◌, ℕ, List, [], ◌∷◌, ◌++◌, length}
use Rattle.cct_model.specs.terms.wire.TheConstants.{MOST_HEARD}
use Rattle.cct_model.specs.terms.device.Setup.{Setup}
use Rattle.cct_model.specs.lines.command.Command.{Command}
use Rattle.cct_model.specs.lines.record.Record.{Record}
use Rattle.cct_model.specs.lines.entry.Entry.{Entry}
use Rattle.cct_model.specs.Script.{IsCommand}
use Rattle.cct_model.specs.Transcript.{onto}
use Rattle.cct_disk.specs.declared.disk.Disk.{Ghosts}
use Rattle.cct_journal.specs.declared.format.TheConstants.{MOST_RECORDS}
use Rattle.cct_host.specs.declared.host.Host.{Host}
use Rattle.cct_host.specs.Host.{StandsFor, setup_of}
use Rattle.cct_laws_live.specs.LiveStep.{LiveStep}
use Rattle.cct_laws_live.specs.Life.{IsLife}
use Rattle.cct_poll.specs.Steps.{Says, Steps}

-- It gives a command. Or at an address it sent a piece, if there is one, and says what it heard
-- then. Or it made a call on its part.
pub data Deed : Type 0 where
  commanded : (c : Command) → Deed
  advanced : (addr : ℕ) (piece heard : List ℕ) → Deed
  made : Deed

module _ {D : Type 0} {g : Ghosts D} where
  -- what the clauses of a poll's calls say of its host before and after a deed, and of the entries
  -- that are reported, oldest first
  abbrev pub Does : Deed → Host D g → Host D g → List Entry → Type 0
  Does (commanded c) before after told =
      IsCommand c × ((past : List Entry) → StandsFor before past → Says c past before after told)
  Does (advanced addr piece heard) before after told =
      (length heard ≤ MOST_HEARD) × Steps piece heard addr before after told
  Does made before after told =
      (told ≡ []) × ((past : List Entry) → StandsFor before past → StandsFor after past)

  -- A host goes on by these deeds, and so shows these entries, oldest first.
  abbrev pub Runs : List Deed → Host D g → Host D g → List Entry → Type 0
  Runs [] before after told = (after ≡ before) × (told ≡ [])
  Runs (deed ∷ deeds) before after told =
      (between : Host D g) × (first : List Entry) × (rest : List Entry)
      × (setup_of between ≡ setup_of before)
      × Does deed before between first × Runs deeds between after rest × (told ≡ first ++ rest)

  -- A life of these steps and this past goes on: the entries that are reported, oldest first, are
  -- those of further steps of a live host, and the host represents all of them.
  pub record LivesOn (setup : Setup) (found : List Record) (steps : List LiveStep)
      (past : List Entry) (after : Host D g)
      (told : List Entry) : Type 0 where
    pub more : List LiveStep
    pub life : IsLife MOST_RECORDS setup found (steps ++ more) (onto past told)
    pub stands : StandsFor after (onto past told)
