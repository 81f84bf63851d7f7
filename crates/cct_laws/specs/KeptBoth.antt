-- A fact of what a device of any kind met and of the lines of its address that every step over an
-- honest wire keeps.
use Rattle.std.specs.Prelude.{◌≡◌, ◌≤◌, ℕ, ◌==◌, true, false, List, [], ◌∷◌, ◌++◌, Option, Some}
use Rattle.cct_model.specs.terms.coin.TheConstants.{COIN_PLACES}
use Rattle.cct_model.specs.terms.device.DeviceSetup.{DeviceSetup}
use Rattle.cct_model.specs.terms.request.Request.{Request}
use Rattle.cct_model.specs.lines.record.Record.{Record}
use Rattle.cct_model.specs.lines.command.Command.{Command}
use Rattle.cct_model.specs.lines.command.Command.TheVariants as command
use Rattle.cct_model.specs.Reply.{Reply}
use Rattle.cct_model.specs.History.{Met, coin, alien, fall, jam, reset, heard}
use Rattle.cct_model.specs.Acceptor.{path_of}
use Rattle.cct_model.specs.Acceptor as acceptor
use Rattle.cct_model.specs.Bill as bill
use Rattle.cct_model.specs.Device.{IsAcceptor, IsBill, IsHopper}
use Rattle.cct_model.specs.Hopper.{remaining}
use Rattle.cct_model.specs.Line.{Line, accepted, inhibited, fell, exchange, put, taken, restarted}
use Rattle.cct_model.specs.Line as line
use Rattle.cct_model.specs.Order.{order}
use Rattle.cct_model.specs.Job.{free, job, epoch, sends, puts, address_of}
use Rattle.cct_model.specs.Rows.{row, end_of, can_halt}
use Rattle.cct_model.specs.Script.{IsCommand}
use Rattle.cct_model.specs.Transcript.{doses}
use Rattle.cct_laws.specs.DeviceJobs.{Fate, IsForOthers, suits, with_ended, IsTaken, WorksAt}
use Rattle.cct_laws.specs.KeptHopper.{IsOwed}
use Rattle.cct_laws.specs.SinceEpoch.{since_record}

-- A fact of what a device met since its epoch began, of all that it met, and of its lines, each
-- newest first. It holds before anything came, and is kept by each thing that can come to it over
-- an honest wire.
pub record IsKeptBoth (d : DeviceSetup) (P : List Met → List Met → List Line → Type 0) : Type 0
  where
    pub starts : P [] [] []
    pub accepts : (since past : List Met) (lines : List Line) (place : ℕ) → IsAcceptor d.body → 1
        ≤ place →
        place ≤ COIN_PLACES → acceptor.accepts past place ≡ true → P since past lines →
        P (coin place ∷ since) (coin place ∷ past)
        (accepted (record { place = place; path = path_of past place }) ∷ lines)
    pub inhibits : (since past : List Met) (lines : List Line) (place : ℕ) → IsAcceptor d.body →
        acceptor.accepts past place ≡ false → P since past lines →
        P (coin place ∷ since) (coin place ∷ past) (inhibited place ∷ lines)
    pub aliens : (since past : List Met) (lines : List Line) → IsAcceptor d.body →
        P since past lines →
        P (alien ∷ since) (alien ∷ past) (line.alien ∷ lines)
    pub holds : (since past : List Met) (lines : List Line) (place : ℕ) → IsBill d.body → 1 ≤ place →
        place ≤ COIN_PLACES →
        bill.holds past place ≡ true → P since past lines →
        P (coin place ∷ since) (coin place ∷ past) lines
    pub rejects : (since past : List Met) (lines : List Line) (place : ℕ) → IsBill d.body →
        bill.holds past place ≡ false → P since past lines →
        P (coin place ∷ since) (coin place ∷ past) (inhibited place ∷ lines)
    pub falls : (since past : List Met) (lines : List Line) → IsHopper d.body →
        (remaining d.serial past == 0) ≡ false →
        P since past lines → P (fall ∷ since) (fall ∷ past) (fell ∷ lines)
    pub no_falls : (since past : List Met) (lines : List Line) → IsHopper d.body →
        (remaining d.serial past == 0) ≡ true → P since past lines →
        P (fall ∷ since) (fall ∷ past) lines
    pub jams : (since past : List Met) (lines : List Line) → IsHopper d.body → P since past lines →
        P (jam ∷ since) (jam ∷ past) lines
    pub resets : (since past : List Met) (lines : List Line) → P since past lines →
        P (reset ∷ since) (reset ∷ past) (line.reset ∷ lines)
    pub elsewhere : (since past : List Met) (lines : List Line) (asked : Option Request) →
        IsForOthers asked →
        P since past lines → P (heard asked ∷ since) (heard asked ∷ past) lines
    pub takes : (since past : List Met) (lines : List Line) (c : Command) → job lines ≡ free →
        address_of c ≡ d.addr →
        IsCommand c → suits d.body c ≡ true → IsTaken d c (epoch lines) → IsOwed c (order lines) →
        P since past lines →
        P since past (taken c ∷ lines)
    pub halts : (since past : List Met) (lines : List Line) → IsHopper d.body → can_halt d (job lines)
        ≡ true →
        P since past lines → P since past (taken (command.Halt d.addr) ∷ lines)
    pub asks : (since past : List Met) (lines : List Line) (c : Command) (work : List Line)
        (q : Request)
        (asked : Option Request) (got : Option Reply) →
        WorksAt d lines c work → row d c work (epoch lines) (order lines) ≡ sends q →
        Fate d past q asked got →
        P since past lines → P (heard asked ∷ since) (heard asked ∷ past)
        (with_ended (end_of d c (exchange (Some q) got) work (epoch lines))
        (exchange (Some q) got ∷ doses d.body d.serial past asked ++ lines))
    pub restarts : (since past : List Met) (lines : List Line) → P since past lines →
        P since past (restarted ∷ lines)
    pub keeps : (since past : List Met) (lines : List Line) (c : Command) (work : List Line)
        (r : Record) →
        WorksAt d lines c work → row d c work (epoch lines) (order lines) ≡ puts r →
        P since past lines → P (since_record d r since) past (put r ∷ restarted ∷ lines)
    pub puts : (since past : List Met) (lines : List Line) (c : Command) (work : List Line)
        (r : Record) →
        WorksAt d lines c work → row d c work (epoch lines) (order lines) ≡ puts r →
        P since past lines → P (since_record d r since) past
        (with_ended (end_of d c (put r) work (epoch lines))
        (put r ∷ lines))
