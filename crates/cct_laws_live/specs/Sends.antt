-- What a host sends to a hopper, whatever the wire does: a dispense only for an open order that
-- none was sent for.
use Rattle.std.specs.Prelude.{◌≡◌, ℕ, suc, max, List, [], ◌∷◌, Option, Some, ⊤}
use Rattle.cct_model.specs.terms.device.DeviceSetup.{DeviceSetup}
use Rattle.cct_model.specs.terms.request.Request.{Request}
use Rattle.cct_model.specs.terms.request.Request.TheVariants.{Dispense}
use Rattle.cct_model.specs.declared.judging.OpenOrder.{OpenOrder}
use Rattle.cct_model.specs.lines.entry.Entry.{Entry}
use Rattle.cct_model.specs.lines.entry.Entry.TheVariants as entry
use Rattle.cct_model.specs.Exchange.{asked}
use Rattle.cct_model.specs.Line.{Line, exchange, put, restarted}
use Rattle.cct_model.specs.Order.{order}
use Rattle.cct_model.specs.Paid.{OfOrder, anew_by}
use Rattle.cct_model.specs.Transcript.{lines_of}

-- One more, where a request dispenses.
abbrev pub one_by : Option Request → ℕ → ℕ
one_by (Some (Dispense serial count)) before = suc before
one_by asked before = before

-- How many dispenses were sent since an order was last opened or closed, whether or not the hopper
-- heard them. A start counts as one: a host doesn't know what was sent before it for an order that
-- it finds open.
abbrev pub sent_in : List Line → ℕ
sent_in [] = 0
sent_in (restarted ∷ past) = max 1 (sent_in past)
sent_in (exchange asked got ∷ past) = one_by asked (sent_in past)
sent_in (put r ∷ past) = anew_by r (sent_in past)
sent_in (line ∷ past) = sent_in past

-- A request dispenses only under the serial number that the setup has, and only where an order is
-- open that none was sent for, just its coins.
abbrev pub SentBy : DeviceSetup → ℕ → Option OpenOrder → Option Request → Type 0
SentBy d sent owed (Some (Dispense serial count)) =
    (serial ≡ d.serial) × OfOrder owed (λ o. (sent ≡ 0) × (count ≡ o.count))
SentBy d sent owed asked = ⊤

-- An exchange of a device's address sends no other dispense.
abbrev pub SentAt : DeviceSetup → List Entry → Entry → Type 0
SentAt d past (entry.Wire addr sent piece) =
    addr ≡ d.addr → SentBy d (sent_in (lines_of d past)) (order (lines_of d past))
    (asked d.kind sent)
SentAt d past e = ⊤
