-- What holds of a life of a host, whatever is heard.
use Rattle.std.specs.Prelude.{◌≡◌, ◌+◌, ◌≤◌, true, List, length}
use Rattle.cct_model.specs.terms.device.DeviceSetup.{DeviceSetup}
use Rattle.cct_model.specs.terms.device.Setup.{Setup}
use Rattle.cct_model.specs.lines.record.Record.{Record}
use Rattle.cct_model.specs.lines.entry.Entry.{Entry}
use Rattle.cct_model.specs.Following.{all_follow}
use Rattle.cct_model.specs.Money.{totals}
use Rattle.cct_model.specs.Paid.{AreFresh}
use Rattle.cct_model.specs.Records.{records}
use Rattle.cct_model.specs.Refusal.{held}
use Rattle.cct_model.specs.Transcript.{lines_of}
use Rattle.cct_laws.specs.Balanced.{IsConserved}
use Rattle.cct_laws.specs.Law.{EachEntry, IsOf}
use Rattle.cct_journal.specs.declared.format.TheConstants.{MOST_RECORDS}
use Rattle.cct_laws_live.specs.Life.{EachSinceStart, room_over}
use Rattle.cct_laws_live.specs.Posts.{PostAt}
use Rattle.cct_laws_live.specs.Routes.{RoutedAt, routed_in}
use Rattle.cct_laws_live.specs.Sends.{SentAt, sent_in}
use Rattle.cct_laws_live_devices.specs.Real.{IsRightIn}
use Rattle.cct_laws_live_devices.specs.Whole.{IsWhole}
use Rattle.cct_laws_live_devices.specs.World.{OverDevices}

-- The laws of a life over the records that were found.
pub record IsLawful (setup : Setup) (found : List Record) (past : List Entry) : Type 0 where
  -- A dispense is sent under the serial number of the setup, for an open order that none was sent
  -- for, and just its coins.
  pub sent : (d : DeviceSetup) → IsOf setup d → EachEntry (SentAt d) past
  pub once : (d : DeviceSetup) → IsOf setup d → sent_in (lines_of d past) ≤ 1
  -- A bill is routed only in the job of a `route`, by its way, and once.
  pub routed : (d : DeviceSetup) → IsOf setup d → EachEntry (RoutedAt d) past
  pub routed_once : (d : DeviceSetup) → IsOf setup d → routed_in d past ≤ 1
  -- No id is used twice, if none of those found was.
  pub fresh : AreFresh found → AreFresh (records past)
  -- Each record follows those before it.
  pub follow : all_follow setup (records past) ≡ true
  -- Money is conserved.
  pub conserved : IsConserved setup past (totals setup past)
  -- The records and those that are held have room.
  pub room : length (records past) + held setup past ≤ room_over MOST_RECORDS setup found
  -- What was posted since the start was heard, in its turn.
  pub posts : (d : DeviceSetup) → IsOf setup d → EachSinceStart (PostAt d) past
  -- Over devices that answer as the model's do, and with all that earlier hosts reported over the
  -- journal, the money is right: no coin is posted twice or lost in silence, and no order is paid
  -- twice.
  pub real : (whole world : List Entry) → IsWhole MOST_RECORDS setup found past whole →
      OverDevices setup world whole
      → IsRightIn setup world whole
