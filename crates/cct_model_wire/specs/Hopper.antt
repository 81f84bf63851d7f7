-- A hopper, read off all that it met, newest first (ccTalk Generic Specification 4, part 3).
use Rattle.std.specs.Prelude.{ℕ, suc, ◌+◌, ◌-◌, ◌%◌, ◌^◌, ◌==◌, ◌&&◌, ◌||◌, not, Bool, true, false}
use Rattle.std.specs.Prelude.{List, [], ◌∷◌, if◌then◌else◌, Option, Some, None}
use Rattle.cct_model_wire.specs.declared.request.TheConstants.{ENABLE_CODE}
use Rattle.cct_model_wire.specs.declared.request.Request.{Request}
use Rattle.cct_model_wire.specs.declared.request.Request.TheVariants.{Enable, Dispense}
use Rattle.cct_model_wire.specs.declared.request.Request.TheVariants.{CipherDispense, GetStatus}
use Rattle.cct_model_wire.specs.declared.request.Request.TheVariants.{GetLife, StopNow, TestHopper}
use Rattle.cct_model_wire.specs.declared.request.Request.TheVariants.{PumpRng, CipherKey}
use Rattle.cct_model_wire.specs.Reply.{Reply}
use Rattle.cct_model_wire.specs.Reply as reply
use Rattle.cct_model_wire.specs.History.{Met, coin, alien, fall, jam, reset, heard, unless_reset}
use Rattle.cct_model_wire.specs.Acceptor.{counter}

-- Whether a hopper may pay after bytes were heard: as they say where they enable or disable, and
-- not after a reset.
abbrev pub enabled_by : Option Request → Bool → Bool
enabled_by (Some (Enable code)) before = code == ENABLE_CODE
enabled_by asked before = unless_reset asked false before

-- Whether a hopper may pay: the last request to enable it since the last reset had the code for
-- that.
abbrev pub enabled : List Met → Bool
enabled [] = false
enabled (coin place ∷ past) = enabled past
enabled (alien ∷ past) = enabled past
enabled (fall ∷ past) = enabled past
enabled (jam ∷ past) = enabled past
enabled (reset ∷ past) = false
enabled (heard asked ∷ past) = enabled_by asked (enabled past)

-- A payout is how many coins a dispense request asked for that the hopper took, and what the hopper
-- met since, newest first.
pub record Payout : Type 0 where
  pub count : ℕ
  pub since : List Met

-- Whether what was asked ends a payout: a stop does, and an enable request with another code than
-- that which enables.
abbrev pub stops : Option Request → Bool
stops (Some StopNow) = true
stops (Some (Enable code)) = not (code == ENABLE_CODE)
stops asked = false

-- Whether something ends a payout: a jam does, and what stops it.
abbrev pub is_breaker : Met → Bool
is_breaker jam = true
is_breaker (heard asked) = stops asked
is_breaker m = false

-- Whether a payout was ended by something that it met.
abbrev pub is_broken : List Met → Bool
is_broken [] = false
is_broken (m ∷ since) = is_breaker m || is_broken since

-- How many coins fell.
abbrev pub falls : List Met → ℕ
falls [] = 0
falls (fall ∷ since) = suc (falls since)
falls (m ∷ since) = falls since

-- How many coins of a payout are left to fall: none after it was ended, else its count less the
-- falls since.
abbrev pub left_of : ℕ → List Met → ℕ
left_of count since = if is_broken since then 0 else count - falls since

-- How many coins of a payout fell, which are those that came while some were left.
abbrev pub paid_of : ℕ → List Met → ℕ
paid_of count [] = 0
paid_of count (fall ∷ since) =
    if left_of count since == 0 then paid_of count since else suc (paid_of count since)
paid_of count (m ∷ since) = paid_of count since

-- How many coins of a payout were left when it was ended, and 0 where it wasn't ended while some
-- were left.
abbrev pub unpaid_of : ℕ → List Met → ℕ
unpaid_of count [] = 0
unpaid_of count (m ∷ since) =
    if is_breaker m && not (left_of count since == 0) then left_of count since else unpaid_of count
    since

-- Whether a jam ended a payout while coins of it were left.
abbrev pub jammed_in : ℕ → List Met → Bool
jammed_in count [] = false
jammed_in count (jam ∷ since) = not (left_of count since == 0) || jammed_in count since
jammed_in count (m ∷ since) = jammed_in count since

-- How many coins the last payout has left, 0 where there was none.
abbrev pub left : Option Payout → ℕ
left None = 0
left (Some last) = left_of last.count last.since

-- How many coins were paid of the last payout, 0 where there was none.
abbrev pub paid : Option Payout → ℕ
paid None = 0
paid (Some last) = paid_of last.count last.since

-- How many coins of the last payout stayed unpaid, 0 where there was none.
abbrev pub unpaid : Option Payout → ℕ
unpaid None = 0
unpaid (Some last) = unpaid_of last.count last.since

-- Whether a jam ended the last payout.
abbrev pub jammed : Option Payout → Bool
jammed None = false
jammed (Some last) = jammed_in last.count last.since

-- The number of coins for which a hopper takes what it is asked, or none. It takes a dispense
-- request with its own serial number and a count that isn't 0, where it may pay and no coin is left
-- to fall.
abbrev pub taken_count : ℕ → Bool → ℕ → Option Request → Option ℕ
taken_count own on remains (Some (Dispense serial count)) =
    if on && (remains == 0) && (serial == own) && not (count == 0) then Some count else None
taken_count own on remains asked = None

-- The last payout meets something more.
abbrev pub with_met : Met → Option Payout → Option Payout
with_met m None = None
with_met m (Some last) = Some (record { count = last.count; since = m ∷ last.since })

-- The last payout after bytes were heard: a new one where the hopper took a dispense request, and
-- none after a reset.
abbrev pub payout_by : Option ℕ → Option Request → Option Payout → Option Payout
payout_by (Some count) asked before = Some (record { count = count; since = [] })
payout_by None asked before = unless_reset asked None (with_met (heard asked) before)

-- The last payout since the last reset, or none, of a hopper with its own serial number.
abbrev pub payout : ℕ → List Met → Option Payout
payout own [] = None
payout own (coin place ∷ past) = with_met (coin place) (payout own past)
payout own (alien ∷ past) = with_met alien (payout own past)
payout own (fall ∷ past) = with_met fall (payout own past)
payout own (jam ∷ past) = with_met jam (payout own past)
payout own (reset ∷ past) = None
payout own (heard asked ∷ past) =
    payout_by (taken_count own (enabled past) (left (payout own past)) asked) asked
    (payout own past)

-- How many coins a hopper has left to pay. It is paying exactly where this isn't 0.
abbrev pub remaining : ℕ → List Met → ℕ
remaining own past = left (payout own past)

-- The number of coins for which a hopper that met all this takes what it is asked, or none.
abbrev pub taken_of : ℕ → List Met → Option Request → Option ℕ
taken_of own past asked = taken_count own (enabled past) (remaining own past) asked

-- How many coins were paid since the last dispense request that was taken, 0 before any since the
-- last reset.
abbrev pub last_paid : ℕ → List Met → ℕ
last_paid own past = paid (payout own past)

-- How many coins stayed unpaid when the last payout was ended, 0 where it wasn't.
abbrev pub last_unpaid : ℕ → List Met → ℕ
last_unpaid own past = unpaid (payout own past)

-- Whether a jam ended the last payout, which the timeout bit of the test register shows.
abbrev pub has_timeout : ℕ → List Met → Bool
has_timeout own past = jammed (payout own past)

-- The number of dispense requests taken after bytes were heard: one more where the hopper took one,
-- and none after a reset.
abbrev pub payouts_by : Option ℕ → Option Request → ℕ → ℕ
payouts_by (Some count) asked before = suc before
payouts_by None asked before = unless_reset asked 0 before

-- How many dispense requests a hopper took since its last reset.
abbrev pub payouts : ℕ → List Met → ℕ
payouts own [] = 0
payouts own (coin place ∷ past) = payouts own past
payouts own (alien ∷ past) = payouts own past
payouts own (fall ∷ past) = payouts own past
payouts own (jam ∷ past) = payouts own past
payouts own (reset ∷ past) = 0
payouts own (heard asked ∷ past) = payouts_by (taken_of own past asked) asked (payouts own past)

-- Whether the test register was read, after bytes were heard: it is where they ask for it, and
-- isn't after a reset.
abbrev pub tested_by : Option Request → Bool → Bool
tested_by (Some TestHopper) before = true
tested_by asked before = unless_reset asked false before

-- Whether the test register was read since the last reset.
abbrev pub is_tested : List Met → Bool
is_tested [] = false
is_tested (coin place ∷ past) = is_tested past
is_tested (alien ∷ past) = is_tested past
is_tested (fall ∷ past) = is_tested past
is_tested (jam ∷ past) = is_tested past
is_tested (reset ∷ past) = false
is_tested (heard asked ∷ past) = tested_by asked (is_tested past)

-- How many coins a hopper ever paid, before resets too: a fall drops a coin exactly where some are
-- left to fall.
abbrev pub dropped : ℕ → List Met → ℕ
dropped own [] = 0
dropped own (coin place ∷ past) = dropped own past
dropped own (alien ∷ past) = dropped own past
dropped own (fall ∷ past) =
    if remaining own past == 0 then dropped own past else suc (dropped own past)
dropped own (jam ∷ past) = dropped own past
dropped own (reset ∷ past) = dropped own past
dropped own (heard asked ∷ past) = dropped own past

-- The life count: the number at which it started, and one for each coin ever paid, modulo 2 ^ 24.
abbrev pub life_count : ℕ → ℕ → List Met → ℕ
life_count own start past = (start + dropped own past) % 2 ^ 24

-- What header 166 reads: the event counter, and the coins remaining, last paid and last unpaid.
abbrev pub status_of : ℕ → List Met → Reply
status_of own past =
    reply.status (counter (payouts own past)) (remaining own past) (last_paid own past)
    (last_unpaid own past)

-- The test register, which header 163 reads: bit 1 is the timeout, bit 6 that it wasn't read since
-- power-up, and bit 7 that the hopper may not pay.
abbrev pub register_of : ℕ → List Met → ℕ
register_of own past =
    (if has_timeout own past then 2 ^ 1 else 0) + (if is_tested past then 0 else 2 ^ 6)
    + (if enabled past then 0 else 2 ^ 7)

-- The reply to a dispense request, by whether it is taken.
abbrev pub dispense_reply : Option ℕ → Reply
dispense_reply (Some count) = reply.ack
dispense_reply None = reply.nak

-- The reply of a hopper that met all this to a request of those that only hoppers answer, or none.
-- It has its own serial number, and its life count started at a number. What is under a cipher is
-- refused.
unfoldable pub hopper_reply : ℕ → ℕ → List Met → Request → Option Reply
hopper_reply own start past (Enable code) = Some reply.ack
hopper_reply own start past (Dispense serial count) =
    Some (dispense_reply (taken_of own past (Some (Dispense serial count))))
hopper_reply own start past CipherDispense = Some reply.nak
hopper_reply own start past GetStatus = Some (status_of own past)
hopper_reply own start past GetLife = Some (reply.life (life_count own start past))
hopper_reply own start past StopNow = Some (reply.remaining (remaining own past))
hopper_reply own start past TestHopper = Some (reply.register (register_of own past))
hopper_reply own start past PumpRng = Some reply.nak
hopper_reply own start past CipherKey = Some reply.nak
hopper_reply own start past q = None
