-- Hosts that live one after another over one journal and one line.
use Rattle.std.specs.Prelude.{◌≡◌, ◌≤◌, ℕ, Bool, List, [], ◌∷◌, ◌++◌, Option, Result}
use Rattle.cct_edge.specs.declared.fault.Failed.{Failed}
use Rattle.cct_model.specs.terms.device.Setup.{Setup}
use Rattle.cct_model.specs.lines.command.CrashAt.{CrashAt}
use Rattle.cct_model.specs.lines.record.Record.{Record}
use Rattle.cct_model.specs.lines.entry.End.{End}
use Rattle.cct_model.specs.lines.entry.Entry.{Entry}
use Rattle.cct_model.specs.lines.entry.Entry.TheVariants as entry
use Rattle.cct_model.specs.Legal.{EntriesOfRestart, with_end}
use Rattle.cct_model.specs.Records.{records}
use Rattle.cct_model.specs.Script.{IsCrash}
use Rattle.cct_live_port.specs.declared.port.Port.{Port}
use Rattle.cct_live_port.specs.Port.{Gives, line_of, options_of}
use Rattle.cct_laws_live.specs.Life.{IsLife}
use Rattle.cct_laws_live.specs.Live.{started}
use Rattle.cct_laws_live.specs.LiveStep.{LiveStep}
use Rattle.cct_laws_live_devices.specs.Asked.{Moment, asks}
use Rattle.cct_laws_live_devices.specs.Real.{IsRightIn, accepted_at, fell_at}
use Rattle.cct_laws_live_devices.specs.World.{OverDevices}
use Rattle.cct_laws_live_devices.specs.Chain.{Chain, IsAsking}
use Rattle.cct_laws_live_devices.specs.Prompt.{IsPrompt, IsQuiet}
use Rattle.cct_laws_live_devices.specs.Devices.{Befell, IsModelled, MayReach}
use Rattle.cct_laws_live_devices.specs.Explained.{befallen}

-- The money of what live hosts reported is right over what happened to the devices on their line,
-- which are these entries, newest first: there is a world with just these and with just what the
-- hosts reported, in which the devices answered as the model's do. So the coins that were accepted
-- and that fell in it are those on the line.
pub record IsRightOver (setup : Setup) (fallen : List Entry) (past : List Entry) : Type 0 where
  pub world : List Entry
  pub befell : befallen world ≡ fallen
  pub over : OverDevices setup world past
  pub right : IsRightIn setup world past
  pub accepted : (addr : ℕ) → accepted_at addr world ≡ accepted_at addr fallen
  pub fell : (addr : ℕ) → fell_at addr world ≡ fell_at addr fallen

module _ {L : Type 0} (reads : L → Option (List ℕ) → L → Type 0)
    (writes : L → List ℕ → Result (Unit {0}) Failed → L → Type 0)
    (echoes : Bool) (longest : ℕ) (coming : L → List ℕ) (silent : L → ℕ) where
  -- A line, which gives the echo or not. Its devices do what the model's do, and each answers
  -- within the longest time or never; and the wire does no other damage than an honest one. This is
  -- what is under way on the line, for how long it was silent, and what happened to the devices and
  -- what bytes they heard.
  pub record IsHonestLine (setup : Setup) (history : L → List Moment) : Type 0 where
    pub answer : L → List ℕ → List ℕ
    pub prompt : IsPrompt reads writes longest coming silent answer
    pub modelled : IsModelled reads writes setup echoes answer history

  -- A port of such a line: it is set for the echo, waits for the longest time where it wasn't
  -- answered, and hasn't forgotten a late reply.
  pub record IsPortOf (port : Port L) : Type 0 where
    pub echo : (options_of port).echoes ≡ echoes
    pub waits : longest ≤ (options_of port).longest
    pub quiet : IsQuiet reads writes coming silent port

  -- Hosts lived one after another, each over what the one before it left in the journal and with a
  -- port over the same line, and one has just started. This is what happened to the devices so far
  -- and what bytes they heard, the records that this host found, and all that was reported, newest
  -- first, from a journal without records and devices that hadn't met anything on.
  pub data HaveLived (capacity : ℕ) (setup : Setup) (history : L → List Moment) : List Moment →
      List Record → List Entry → Type 0
    where
      first_start : HaveLived capacity setup history [] [] (entry.Crash 0 ∷ [])
      -- Meanwhile something happens to the devices.
      meanwhile : (before after : List Moment) (found : List Record) (whole : List Entry)
          → HaveLived capacity setup history before found whole → Befell setup before after
          → HaveLived capacity setup history after found whole
      -- A port asks devices who they are, and reports nothing of it.
      asked_who : (first last : Port L) (found : List Record) (whole : List Entry)
          → HaveLived capacity setup history (history (line_of first)) found whole → IsPortOf first
          → Chain (Gives reads writes) first [] last →
          HaveLived capacity setup history (history (line_of last)) found whole
      -- So does somebody else.
      was_asked : (before : List Moment) (piece : List ℕ) (found : List Record) (whole : List Entry)
          → HaveLived capacity setup history before found whole → IsAsking piece
          → HaveLived capacity setup history (asks piece ∷ before) found whole
      -- The host lives over a port and shows this, and the next one starts over what it left: the
      -- records that were put, or these and the one that was due.
      lived : (first last : Port L) (found left : List Record) (steps : List LiveStep)
          (told news whole : List Entry)
          (at : Option CrashAt) → HaveLived capacity setup history (history (line_of first)) found
          whole → IsPortOf first
          → IsLife capacity setup found steps (told ++ started found) →
          Chain (Gives reads writes) first told last → IsCrash at
          → EntriesOfRestart setup (told ++ whole) at news → records (news ++ (told ++ whole))
          ≡ left
          → HaveLived capacity setup history (history (line_of last)) left (news ++ (told ++ whole))
      -- Or it is killed in an exchange, of which the devices heard what was sent, or something that
      -- is no message, or nothing. In the steps of its life it is one in which nothing was heard,
      -- which it didn't report.
      was_killed : (first last : Port L) (found left : List Record) (steps : List LiveStep)
          (told all news whole : List Entry)
          (at : Option CrashAt) (addr : ℕ) (sent : List ℕ) (end : Option End) (after : List Moment)
          → HaveLived capacity setup history (history (line_of first)) found whole → IsPortOf first
          → all ≡ with_end addr (entry.Wire addr sent []) end ++ told →
          IsLife capacity setup found steps (all ++ started found)
          → Chain (Gives reads writes) first told last →
          MayReach setup (history (line_of last)) sent after → IsCrash at
          → EntriesOfRestart setup (all ++ whole) at news → records (news ++ (all ++ whole)) ≡ left
          → HaveLived capacity setup history after left (news ++ (all ++ whole))
