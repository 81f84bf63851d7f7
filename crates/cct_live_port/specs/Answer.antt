-- Whether what was heard is the whole reply to what was sent.
use Rattle.std.specs.Prelude.{ℕ, ◌-◌, ◌==◌, ◌&&◌, ◌||◌, not, nat_le, Bool, false, List, [], ◌∷◌}
use Rattle.std.specs.Prelude.{Option, Some, None, length, drop, slice_index}
use Rattle.cct_model_wire.specs.declared.wire.CheckKind.{CheckKind}
use Rattle.cct_model_wire.specs.declared.wire.CheckKind.TheVariants.{Simple, Crc}
use Rattle.cct_model_wire.specs.declared.wire.TheConstants.{BROADCAST, MOST_HEARD}
use Rattle.cct_model_wire.specs.Message.{Message, message}
use Rattle.cct_model_wire.specs.Exchange.{is_for_host}
use Rattle.cct_wire.specs.Heard.{message_after}

-- A message is a reply to another one: that was for one device, and this one is for the host, and
-- comes from that device or from nobody named.
abbrev pub is_reply : Message → Message → Bool
is_reply asked reply = not (asked.to == BROADCAST) && is_for_host asked.to reply

-- There are both, and the second is a reply to the first.
abbrev pub replies : Option Message → Option Message → Bool
replies (Some asked) (Some reply) = is_reply asked reply
replies (Some asked) None = false
replies None heard = false

-- Under a check, what was sent is a message, and what follows its whole echo is a reply to it.
abbrev pub answered_under : CheckKind → List ℕ → List ℕ → Bool
answered_under kind sent heard = replies (message kind sent) (message_after kind sent heard)

-- Under either check.
abbrev pub answered : List ℕ → List ℕ → Bool
answered sent heard = answered_under Simple sent heard || answered_under Crc sent heard

-- Under the check that is known, or under either where none is.
abbrev pub answered_by : Option CheckKind → List ℕ → List ℕ → Bool
answered_by (Some kind) sent heard = answered_under kind sent heard
answered_by None sent heard = answered sent heard

-- Bytes are for all devices.
abbrev pub is_to_all : List ℕ → Bool
is_to_all [] = false
is_to_all (byte ∷ bytes) = byte == BROADCAST

-- Bytes are at least as many as the message that they begin has, by the length that it gives.
abbrev pub is_complete : List ℕ → Bool
is_complete bytes = nat_le 5 (length bytes) && nat_le (slice_index bytes 1) (length bytes - 5)

-- No more is wanted of what was heard: there is no room, or the reply to what was sent is whole by
-- its length. What all devices answer has none.
abbrev pub is_over : List ℕ → List ℕ → Bool
is_over sent heard = nat_le MOST_HEARD (length heard)
    || (not (is_to_all sent) && is_complete (drop (length sent) heard))
