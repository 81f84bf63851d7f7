-- One life of a host over the records that it found: what it sends, records and reports, whatever
-- is heard.
use Rattle.std.specs.Prelude.{◌≡◌, ℕ, ◌+◌, max, true, List, [], ◌∷◌, length, ⊤}
use Rattle.std.specs.List.{All}
use Rattle.cct_model.specs.terms.device.Setup.{Setup}
use Rattle.cct_model.specs.lines.record.Record.{Record}
use Rattle.cct_model.specs.lines.entry.Entry.{Entry}
use Rattle.cct_model.specs.lines.entry.Entry.TheVariants as entry
use Rattle.cct_model.specs.Following.{all_follow}
use Rattle.cct_model.specs.Setup.{IsSoundSetup}
use Rattle.cct_laws.specs.Recorded.{open_orders}
use Rattle.cct_laws_live.specs.LiveStep.{LiveStep}
use Rattle.cct_laws_live.specs.LiveStep as live
use Rattle.cct_laws_live.specs.Live.{IsTellable, LiveFrom, started}

-- A step of one life: it can be reported, and no new host starts.
abbrev pub IsLifeStep : LiveStep → Type 0
IsLifeStep (live.start at) = ⊥
IsLifeStep s = IsTellable s

-- One life of a host over records that it found, newest first, in any journal: each of them follows
-- those before it, and from its start over them its past goes on by these steps.
pub record IsLife (capacity : ℕ) (setup : Setup) (found : List Record) (steps : List LiveStep)
    (past : List Entry) : Type 0 where
  pub follow : all_follow setup found ≡ true
  pub steps_are : All IsLifeStep steps
  pub live : LiveFrom capacity setup (started found) steps past

-- A fact of each life of a host with a sound setup, over the records that it found in a journal
-- that takes so many.
abbrev pub EachLife : (ℕ → Setup → List Record → List Entry → Type 0) → Type 0
EachLife P =
    (capacity : ℕ) (setup : Setup) (found : List Record) (steps : List LiveStep) (past : List Entry)
    →
    IsSoundSetup setup → IsLife capacity setup found steps past → P capacity setup found past

-- The room that a life needs at most: that of its journal, or that of the records that it found and
-- one for each order that they leave open, if that is more.
abbrev pub room_over : ℕ → Setup → List Record → ℕ
room_over capacity setup found = max capacity (length found + open_orders setup found)

-- A fact of each entry that was reported since the newest start, and of all that came before it.
abbrev pub EachSinceStart : (List Entry → Entry → Type 0) → List Entry → Type 0
EachSinceStart P [] = ⊤
EachSinceStart P (entry.Crash n ∷ past) = ⊤
EachSinceStart P (e ∷ past) = P past e × EachSinceStart P past
