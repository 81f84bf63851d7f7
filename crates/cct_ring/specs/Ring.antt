-- The credit buffer of a coin acceptor, as one into which all these events were put (ccTalk Generic
-- Specification 4, part 2, header 229).
use Rattle.std.specs.Prelude.{◌≡◌, List, length, take}
use Rattle.cct_model_wire.specs.declared.coin.Pair.{Pair}
use Rattle.cct_model_wire.specs.declared.coin.TheConstants.{EVENTS}
use Rattle.cct_model_wire.specs.Acceptor.{counter}
use Rattle.cct_ring.specs.declared.ring.CreditRing.{CreditRing}

-- A credit buffer holds the newest five of all events put into it since it was made or cleared,
-- newest first, and the event counter of so many events.
pub record Holds (ring : CreditRing) (pushed : List Pair) : Type 0 where
  pub counter : ring.counter ≡ counter (length pushed)
  pub newest : ring.newest.items ≡ take EVENTS pushed
