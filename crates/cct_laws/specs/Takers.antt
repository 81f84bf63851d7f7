-- The events of a device that takes money, as it shows them and as its readings are judged; what it
-- accepted, and what it holds.
use Rattle.std.specs.Prelude.{ℕ, List, [], map, Option, None}
use Rattle.cct_model.specs.terms.coin.Pair.{Pair}
use Rattle.cct_model.specs.terms.device.DeviceBody.{DeviceBody}
use Rattle.cct_model.specs.terms.device.DeviceBody.TheVariants.{Acceptor, Bill, Hopper}
use Rattle.cct_model.specs.Acceptor.{accepted_coins, events}
use Rattle.cct_model.specs.Bill.{bill_events, bill_held, stacked_bills}
use Rattle.cct_model.specs.History.{Met}
use Rattle.cct_model.specs.Job.{settled}

-- The events since the last reset, newest first: of a bill acceptor a bill that is held counts as
-- one that is given back.
abbrev pub events_of : DeviceBody → List Met → List Pair
events_of (Acceptor accepts values ids) past = events past
events_of (Hopper life value) past = []
events_of (Bill accepts values ids) past = map settled (bill_events past)

-- The events since the last reset, newest first, as the device shows them.
abbrev pub told_events : DeviceBody → List Met → List Pair
told_events (Acceptor accepts values ids) past = events past
told_events (Hopper life value) past = []
told_events (Bill accepts values ids) past = bill_events past

-- How many coins a device ever accepted, or bills it ever stacked.
abbrev pub accepted_of : DeviceBody → List Met → ℕ
accepted_of (Acceptor accepts values ids) past = accepted_coins past
accepted_of (Hopper life value) past = 0
accepted_of (Bill accepts values ids) past = stacked_bills past

-- The place of the bill that a device holds, or none.
abbrev pub held_of : DeviceBody → List Met → Option ℕ
held_of (Acceptor accepts values ids) past = None
held_of (Hopper life value) past = None
held_of (Bill accepts values ids) past = bill_held past
