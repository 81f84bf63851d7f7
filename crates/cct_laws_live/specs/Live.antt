-- A live transcript: what hosts send, record and report, whatever is heard in their exchanges, over
-- any number of lives of the process over one journal.
use Rattle.std.specs.Prelude.{◌≡◌, ◌≤◌, ℕ, List, [], ◌∷◌, ◌++◌, length, map, Option, ⊤}
use Rattle.std.specs.List.{All}
use Rattle.cct_model.specs.terms.wire.TheConstants.{MOST_HEARD}
use Rattle.cct_model.specs.terms.device.Setup.{Setup}
use Rattle.cct_model.specs.lines.record.Record.{Record}
use Rattle.cct_model.specs.lines.command.CrashAt.{CrashAt}
use Rattle.cct_model.specs.lines.command.Step.{Step}
use Rattle.cct_model.specs.lines.entry.Entry.{Entry}
use Rattle.cct_model.specs.lines.entry.Entry.TheVariants as entry
use Rattle.cct_model.specs.Legal.{command_entry, EntriesOfNext, EntriesOfRestart, LegalFrom}
use Rattle.cct_model.specs.Money.{totals}
use Rattle.cct_model.specs.Records.{records}
use Rattle.cct_model.specs.Refusal.{refusal}
use Rattle.cct_model.specs.Script.{IsCommand, IsCrash, IsInRange}
use Rattle.cct_model.specs.Setup.{IsSoundSetup}
use Rattle.cct_model.specs.Transcript.{onto}
use Rattle.cct_laws_live.specs.LiveStep.{LiveStep}
use Rattle.cct_laws_live.specs.LiveStep as live

-- The entries of a step of a live host, newest first. Any bytes are heard in an exchange, as many
-- as a message has room for. A start finds the records that were put, or these and the one that was
-- due. Nothing is said of coins and resets, nor whether an exchange was forged, and no fault is
-- set.
abbrev pub LiveEntries : ℕ → Setup → List Entry → LiveStep → List Entry → Type 0
LiveEntries capacity setup past (live.command c) news =
    news ≡ command_entry c (refusal capacity setup past c) ∷ []
LiveEntries capacity setup past (live.next addr) news =
    (heard : List ℕ) × (length heard ≤ MOST_HEARD)
    × EntriesOfNext (λ sent. heard) setup past addr news
LiveEntries capacity setup past live.balance news = news ≡ entry.Balance (totals setup past) ∷ []
LiveEntries capacity setup past (live.start at) news = EntriesOfRestart setup past at news

-- A past goes on by the entries of these steps, and ends as this one.
abbrev pub LiveFrom : ℕ → Setup → List Entry → List LiveStep → List Entry → Type 0
LiveFrom capacity setup past [] end = end ≡ past
LiveFrom capacity setup past (s ∷ steps) end =
    (news : List Entry) × LiveEntries capacity setup past s news
    × LiveFrom capacity setup (news ++ past) steps end

-- A transcript, oldest entry first, is the entries of these steps of live hosts over one journal,
-- which takes so many records.
abbrev pub Live : ℕ → Setup → List LiveStep → List Entry → Type 0
Live capacity setup steps transcript = LiveFrom capacity setup [] steps (onto [] transcript)

-- A past without what a live host doesn't report: the faults that were set in it, and that an
-- exchange was forged.
abbrev pub shown : List Entry → List Entry
shown [] = []
shown (entry.Fault f ∷ past) = shown past
shown (entry.Forged addr ∷ past) = shown past
shown (e ∷ past) = e ∷ shown past

-- The past of a host that starts over records, newest first: these, and then its start.
abbrev pub started : List Record → List Entry
started before = entry.Crash (length before) ∷ map (λ r. entry.Put r) before

-- A past that goes on by steps to an end: the entries that it reports then, by which another past
-- goes on in the same steps.
pub record GoesOnAs (capacity : ℕ) (setup : Setup) (past : List Entry) (steps : List LiveStep)
    (end : List Entry)
    (other : List Entry) : Type 0 where
  pub told : List Entry
  pub ends : end ≡ told ++ past
  pub goes : LiveFrom capacity setup other steps (told ++ other)

-- What a life reported after a start over the records that earlier lives left, in these steps, is
-- together with all that they reported what live hosts report in the steps of all.
pub record IsOneWith (capacity : ℕ) (setup : Setup) (lived : List LiveStep) (past news : List Entry)
    (at : Option CrashAt)
    (steps : List LiveStep) (end : List Entry) : Type 0 where
  pub told : List Entry
  pub ends : end ≡ told ++ started (records (news ++ past))
  pub live : LiveFrom capacity setup [] (lived ++ live.start at ∷ steps) (told ++ (news ++ past))

-- A past is what a legal one shows, which went on from this one by steps in range.
pub record IsShown (capacity : ℕ) (setup : Setup) (before end : List Entry) : Type 0 where
  pub steps : List Step
  pub past : List Entry
  pub in_range : All IsInRange steps
  pub legal : LegalFrom capacity setup before steps past
  pub shows : shown past ≡ end

-- A step can be reported: the numbers of a command are in their ranges, and a put has four disk
-- calls.
abbrev pub IsTellable : LiveStep → Type 0
IsTellable (live.command c) = IsCommand c
IsTellable (live.start at) = IsCrash at
IsTellable s = ⊤

-- A fact of each live transcript of a sound setup, over a journal that takes so many records. The
-- steps can be reported.
abbrev pub EachLive : (ℕ → Setup → List Entry → Type 0) → Type 0
EachLive P =
    (capacity : ℕ) (setup : Setup) (steps : List LiveStep) (transcript : List Entry) →
    IsSoundSetup setup →
    All IsTellable steps → Live capacity setup steps transcript → P capacity setup transcript
