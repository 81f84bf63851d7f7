-- A bill acceptor with an escrow, read off all that it met, newest first (ccTalk Generic
-- Specification 4, part 3). Its settings, its event counter and its buffer are those of a coin
-- acceptor; which pair represents which event, and what header 154 does, is this project's own.
use Rattle.std.specs.Prelude.{ℕ, suc, ◌==◌, ◌&&◌, ◌||◌, Bool, true, List, [], ◌∷◌, if◌then◌else◌}
use Rattle.std.specs.Prelude.{Option, Some, None, is_none, is_some}
use Rattle.cct_model_wire.specs.declared.coin.Pair.{Pair}
use Rattle.cct_model_wire.specs.declared.coin.Credits.{Credits}
use Rattle.cct_model_wire.specs.declared.request.TheConstants.{RETURN_CODE, STACK_CODE}
use Rattle.cct_model_wire.specs.declared.request.Request.{Request}
use Rattle.cct_model_wire.specs.declared.request.Request.TheVariants.{ReadBills, RouteBill}
use Rattle.cct_model_wire.specs.Reply.{Reply}
use Rattle.cct_model_wire.specs.Reply as reply
use Rattle.cct_model_wire.specs.History.{Met, coin, alien, fall, jam, reset, heard, unless_reset}
use Rattle.cct_model_wire.specs.Acceptor.{accepts, counted, credits_in, inhibit_reply}

-- A byte of header 154 says where a held bill goes.
abbrev pub is_way : ℕ → Bool
is_way way = (way == STACK_CODE) || (way == RETURN_CODE)

-- The bill in the escrow after one of a place was put in, which the inhibits let in or not: it is
-- held if none was before.
abbrev pub held_with : ℕ → Bool → Option ℕ → Option ℕ
held_with place true None = Some place
held_with place lets_in before = before

-- The bill in the escrow after bytes were heard: none after it was routed or after a reset.
abbrev pub held_after : Option Request → Option ℕ → Option ℕ
held_after (Some (RouteBill way)) before = if is_way way then None else before
held_after asked before = unless_reset asked None before

-- The place of the bill that is held in the escrow, or none.
abbrev pub bill_held : List Met → Option ℕ
bill_held [] = None
bill_held (coin place ∷ past) = held_with place (accepts past place) (bill_held past)
bill_held (alien ∷ past) = bill_held past
bill_held (fall ∷ past) = bill_held past
bill_held (jam ∷ past) = bill_held past
bill_held (reset ∷ past) = None
bill_held (heard asked ∷ past) = held_after asked (bill_held past)

-- Whether a bill of a place is held when it is put in: the inhibits let it in, and none is held
-- before.
abbrev pub holds : List Met → ℕ → Bool
holds past place = accepts past place && is_none (bill_held past)

-- The place of the bill that bytes stack, which are heard beside what is held; none where they
-- stack none.
abbrev pub stacked_by : Option Request → Option ℕ → Option ℕ
stacked_by (Some (RouteBill way)) held = if way == STACK_CODE then held else None
stacked_by asked held = None

-- The event of a bill that is put in: its place and 1 where it is held, else error 2.
abbrev pub bill_event : List Met → ℕ → Pair
bill_event past place =
    if holds past place then record { a = place; b = 1 } else record { a = 0; b = 2 }

-- The events with that of a held bill which is routed by a byte: its place and 0 where it is
-- stacked, and error 1 where it is given back. Another byte, or no bill, brings none.
abbrev pub routed : ℕ → Option ℕ → List Pair → List Pair
routed way None before = before
routed way (Some place) before =
    if way == STACK_CODE then record { a = place; b = 0 } ∷ before
    else if way == RETURN_CODE then record { a = 0; b = 1 } ∷ before
    else before

-- The events after bytes were heard, beside the bill that was held.
abbrev pub events_after : Option Request → Option ℕ → List Pair → List Pair
events_after (Some (RouteBill way)) held before = routed way held before
events_after asked held before = unless_reset asked [] before

-- The events of a bill acceptor since its last reset, newest first: one for each bill that was put
-- in, and one for each that was stacked or given back by a request.
abbrev pub bill_events : List Met → List Pair
bill_events [] = []
bill_events (coin place ∷ past) = bill_event past place ∷ bill_events past
bill_events (alien ∷ past) = bill_events past
bill_events (fall ∷ past) = bill_events past
bill_events (jam ∷ past) = bill_events past
bill_events (reset ∷ past) = []
bill_events (heard asked ∷ past) = events_after asked (bill_held past) (bill_events past)

-- What header 159 reads: the event counter and the buffer of the last five events.
abbrev pub bills_of : List Met → Credits
bills_of past = credits_in (bill_events past)

-- How many bills were ever stacked, before resets too.
abbrev pub stacked_bills : List Met → ℕ
stacked_bills [] = 0
stacked_bills (heard asked ∷ past) =
    if is_some (stacked_by asked (bill_held past)) then suc (stacked_bills past) else stacked_bills
    past
stacked_bills (what ∷ past) = stacked_bills past

-- The accept counter: the number at which it started, and one for each bill ever stacked, modulo 2
-- ^ 24.
abbrev pub stack_count : ℕ → List Met → ℕ
stack_count start past = counted start (stacked_bills past)

-- The reply of a bill acceptor that met all this to a request of those that only such devices
-- answer, or none. Its accept counter started at a number. A held bill can be routed, and nothing
-- else.
unfoldable pub bill_reply : ℕ → List Met → Request → Option Reply
bill_reply start past ReadBills = Some (reply.credits (bills_of past))
bill_reply start past (RouteBill way) =
    Some (if is_some (bill_held past) && is_way way then reply.ack else reply.nak)
bill_reply start past q = inhibit_reply (stack_count start past) past q
