-- A host that was started over a part begins a life.
use Rattle.std.proofs.Common.{◌≡◌, ℕ, true, List, [], refl, ap}
use Rattle.std.proofs.lemmas.List.Elements.{All-nil}
use Rattle.cct_model.specs.terms.device.Setup.{Setup}
use Rattle.cct_model.specs.lines.record.Record.{Record}
use Rattle.cct_model.specs.Following.{all_follow}
use Rattle.cct_laws.proofs.money.FromRecordsAlone.{restart_frees}
use Rattle.cct_disk.specs.declared.disk.Disk.{Ghosts}
use Rattle.cct_journal.specs.declared.format.TheConstants.{MOST_RECORDS}
use Rattle.cct_host.specs.declared.host.Host.{Host}
use Rattle.cct_host.specs.Host.{StandsFor}
use Rattle.cct_laws_live.specs.Life.{IsLife, IsLifeStep}
use Rattle.cct_laws_live.specs.Live.{started}
use Rattle.cct_laws_live.proofs.Joining.{put_again}
use Rattle.cct_poll.specs.Starts.{Begun, HeldRecords, Starts}
use Rattle.cct_poll.specs.Starts as starts_of

-- the records that a part held follow one another
held_follow : (setup : Setup) (part : List ℕ) (begun : Begun) (before : List Record) → HeldRecords setup part begun before
    → all_follow setup before ≡ true
held_follow setup part starts_of.made before none = ap (all_follow setup) none
held_follow setup part (starts_of.found base c rest) before held = held.1

pub begins_life : {D : Type 0} {g : Ghosts D} (setup : Setup) (part : List ℕ) (host : Host D g) (starts : Starts setup part host)
    (before : List Record) → HeldRecords setup part starts.begun before
    → IsLife MOST_RECORDS setup before [] (started before) × StandsFor host (started before)
begins_life setup part host starts before held = (
  record {
    follow = held_follow setup part starts.begun before held;
    steps_are = All-nil IsLifeStep;
    live = refl;
  },
  starts.stands before held (started before) (restart_frees (started before) tt) (put_again before),
)
