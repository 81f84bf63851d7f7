-- A fact of what a hopper met and of the lines of its address that every step over an honest wire
-- keeps.
use Rattle.std.specs.Prelude.{◌≡◌, ◌==◌, true, false, List, [], ◌∷◌, ◌++◌, Option, Some, None, ⊤}
use Rattle.cct_model.specs.terms.device.DeviceSetup.{DeviceSetup}
use Rattle.cct_model.specs.terms.request.Request.{Request}
use Rattle.cct_model.specs.lines.record.Record.{Record}
use Rattle.cct_model.specs.lines.command.Command.{Command}
use Rattle.cct_model.specs.lines.command.Command.TheVariants as command
use Rattle.cct_model.specs.declared.judging.OpenOrder.{OpenOrder}
use Rattle.cct_model.specs.Reply.{Reply}
use Rattle.cct_model.specs.History.{Met, fall, jam, reset, heard}
use Rattle.cct_model.specs.Hopper.{remaining}
use Rattle.cct_model.specs.Line as line
use Rattle.cct_model.specs.Line.{Line, fell, exchange, put, taken, restarted}
use Rattle.cct_model.specs.Order.{order}
use Rattle.cct_model.specs.Job.{free, job, sends, puts, address_of, epoch}
use Rattle.cct_model.specs.Rows.{row, end_of, can_halt}
use Rattle.cct_model.specs.Refusal.{settle_refusal}
use Rattle.cct_model.specs.Script.{IsCommand}
use Rattle.cct_model.specs.Transcript.{doses}
use Rattle.cct_laws.specs.DeviceJobs.{Fate, IsForOthers, is_for_hopper, WorksAt, with_ended}

-- A command to a hopper is not refused because of its open order.
abbrev pub IsOwed : Command → Option OpenOrder → Type 0
IsOwed (command.Pay addr id count) owed = owed ≡ None
IsOwed (command.Settle addr) owed = settle_refusal owed ≡ None
IsOwed c owed = ⊤

-- A fact of all that a hopper met and of its lines, both newest first, holds before anything came,
-- and is kept by each thing that can come over an honest wire.
pub record IsKeptHopper (d : DeviceSetup) (P : List Met → List Line → Type 0) : Type 0 where
  pub starts : P [] []
  pub falls : (past : List Met) (lines : List Line) → (remaining d.serial past == 0) ≡ false →
      P past lines → P (fall ∷ past) (fell ∷ lines)
  pub no_falls : (past : List Met) (lines : List Line) → (remaining d.serial past == 0) ≡ true →
      P past lines → P (fall ∷ past) lines
  pub jams : (past : List Met) (lines : List Line) → P past lines → P (jam ∷ past) lines
  pub resets : (past : List Met) (lines : List Line) → P past lines →
      P (reset ∷ past) (line.reset ∷ lines)
  pub elsewhere : (past : List Met) (lines : List Line) (asked : Option Request) →
      IsForOthers asked →
      P past lines → P (heard asked ∷ past) lines
  pub takes : (past : List Met) (lines : List Line) (c : Command) → job lines ≡ free → address_of c
      ≡ d.addr →
      IsCommand c → is_for_hopper c ≡ true → IsOwed c (order lines) → P past lines →
      P past (taken c ∷ lines)
  pub halts : (past : List Met) (lines : List Line) → can_halt d (job lines) ≡ true →
      P past lines → P past (taken (command.Halt d.addr) ∷ lines)
  pub restarts : (past : List Met) (lines : List Line) → P past lines → P past (restarted ∷ lines)
  pub asks : (past : List Met) (lines : List Line) (c : Command) (work : List Line) (q : Request)
      (asked : Option Request) (got : Option Reply) →
      WorksAt d lines c work → row d c work (epoch lines) (order lines) ≡ sends q →
      Fate d past q asked got →
      P past lines → P (heard asked ∷ past)
      (with_ended (end_of d c (exchange (Some q) got) work (epoch lines))
      (exchange (Some q) got ∷ doses d.body d.serial past asked ++ lines))
  pub keeps : (past : List Met) (lines : List Line) (c : Command) (work : List Line) (r : Record) →
      WorksAt d lines c work → row d c work (epoch lines) (order lines) ≡ puts r →
      P past lines → P past (put r ∷ restarted ∷ lines)
  pub puts : (past : List Met) (lines : List Line) (c : Command) (work : List Line) (r : Record) →
      WorksAt d lines c work → row d c work (epoch lines) (order lines) ≡ puts r →
      P past lines → P past (with_ended (end_of d c (put r) work (epoch lines)) (put r ∷ lines))
