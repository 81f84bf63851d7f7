-- What is promised of the money of a transcript.
use Rattle.std.specs.Prelude.{◌↔◌, List, []}
use Rattle.cct_model.specs.terms.device.DeviceSetup.{DeviceSetup}
use Rattle.cct_model.specs.terms.device.Setup.{Setup}
use Rattle.cct_model.specs.lines.entry.Entry.{Entry}
use Rattle.cct_model.specs.Claims.{Covers, InOrder, Pace}
use Rattle.cct_model.specs.Device.{IsHopper}
use Rattle.cct_model.specs.Honest.{Honest, IsAllUnforged}
use Rattle.cct_model.specs.Paid.{AreFresh, Paid}
use Rattle.cct_model.specs.Records.{records}
use Rattle.cct_model.specs.Transcript.{onto}
use Rattle.cct_laws.specs.Law.{IsOf, lines_in}
use Rattle.cct_laws.specs.Tallying.{AlwaysTallies}

-- The money of a transcript is right. No two records use one id, for an order that is opened or for
-- a sale. Where the wire was honest, the posts of each device are its accepted coins in order, none
-- twice. At each device that kept the pace, none is lost in silence, and after each line the coins
-- up to the mark are as many as its records post and report as lost. At each hopper, each order is
-- paid at most once, and closed with exactly the coins that fell. And the transcript shows by
-- itself whether the wire was honest: exactly if no entry reports a forged exchange.
pub record IsRight (setup : Setup) (transcript : List Entry) : Type 0 where
  pub fresh : AreFresh (records (onto [] transcript))
  pub in_order : (d : DeviceSetup) → IsOf setup d → Honest transcript →
      InOrder (lines_in d transcript)
  pub covers : (d : DeviceSetup) → IsOf setup d → Honest transcript → Pace (lines_in d transcript)
      → Covers (lines_in d transcript)
  pub tallies : (d : DeviceSetup) → IsOf setup d → Honest transcript → Pace (lines_in d transcript)
      → AlwaysTallies (lines_in d transcript)
  pub paid : (d : DeviceSetup) → IsOf setup d → IsHopper d.body → Honest transcript →
      Paid (lines_in d transcript)
  pub as_told : Honest transcript ↔ IsAllUnforged transcript
