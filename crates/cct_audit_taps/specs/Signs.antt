-- Whether an acceptor of coins or of bills does what is taken for granted of it, as far as taps
-- show that.
use Rattle.std.specs.Prelude.{ℕ, suc, ◌==◌, ◌&&◌, ◌||◌, not, Bool, true, false, List, [], ◌∷◌, ◌++◌}
use Rattle.std.specs.Prelude.{length, if◌then◌else◌, Option, Some, None}
use Rattle.std.specs.List.{list_any}
use Rattle.cct_model.specs.terms.coin.Credits.{Credits}
use Rattle.cct_model.specs.terms.coin.Pair.{Pair}
use Rattle.cct_model.specs.terms.wire.CheckKind.{CheckKind}
use Rattle.cct_model.specs.terms.request.Request.{Request}
use Rattle.cct_model.specs.terms.request.Request.TheVariants.{ReadBills, ReadCredits, GetMask}
use Rattle.cct_model.specs.terms.request.Request.TheVariants.{SetMask, ResetDevice}
use Rattle.cct_model.specs.terms.request.ReplyForm.{ReplyForm}
use Rattle.cct_model.specs.terms.request.ReplyForm.TheVariants as form
use Rattle.cct_model.specs.Reply.{Reply}
use Rattle.cct_model.specs.Reply as reply
use Rattle.cct_model.specs.Exchange.{got}
use Rattle.cct_audit_taps.specs.declared.money.Money.{Money}
use Rattle.cct_audit_taps.specs.declared.money.Money.TheVariants.{Coins, Bills}
use Rattle.cct_audit_taps.specs.declared.said.Said.{Said}
use Rattle.cct_audit_taps.specs.declared.said.Said.TheVariants.{Broken}
use Rattle.cct_audit_taps.specs.declared.said.Premise.TheVariants as premise
use Rattle.cct_audit_taps.specs.declared.signs.KnownMask.{KnownMask}
use Rattle.cct_audit_taps.specs.declared.signs.Sign.{Sign}
use Rattle.cct_audit_taps.specs.declared.signs.Sign.TheVariants.{Events, Mask, MaskTaken, MaskLost}
use Rattle.cct_audit_taps.specs.declared.signs.Sign.TheVariants.{ResetTaken, OtherAnswers, Nothing}
use Rattle.cct_audit_taps.specs.Taps.{Tap, asks_at, other_answers}

-- The events that a reply gives.
abbrev pub events_sign : Option Reply → Sign
events_sign (Some (reply.credits c)) = Events c
events_sign y = Nothing

-- The inhibit mask that a reply gives.
abbrev pub mask_sign : Option Reply → Sign
mask_sign (Some (reply.mask mask)) = Mask mask
mask_sign y = Nothing

-- Whether a reply acknowledges what was asked; then this, or else that.
abbrev pub if_acked : Option Reply → Sign → Sign → Sign
if_acked (Some reply.ack) taken lost = taken
if_acked y taken lost = lost

-- What an acceptor of this money shows by a reply that only an acceptor of coins gives.
abbrev pub of_coins : Money → Sign → Sign
of_coins Coins s = s
of_coins Bills s = Nothing

-- What it shows by a reply that only an acceptor of bills gives.
abbrev pub of_bills : Money → Sign → Sign
of_bills Coins s = Nothing
of_bills Bills s = s

-- What an exchange shows of an acceptor of this money that was asked something, by what was replied
-- in a form.
abbrev pub sign_by : Money → Option Request → (ReplyForm → Option Reply) → Sign
sign_by money (Some ReadCredits) replied = of_coins money (events_sign (replied form.Credits))
sign_by money (Some ReadBills) replied = of_bills money (events_sign (replied form.Credits))
sign_by money (Some GetMask) replied = mask_sign (replied form.Mask)
sign_by money (Some (SetMask mask)) replied = if_acked (replied form.Ack) (MaskTaken mask) MaskLost
sign_by money (Some ResetDevice) replied = if_acked (replied form.Ack) ResetTaken Nothing
sign_by money asked replied = Nothing

-- What a tap shows of the acceptor of this money at an address under a check.
abbrev pub sign : Money → CheckKind → ℕ → Tap → Sign
sign money kind addr tap =
    if other_answers kind addr tap then OtherAnswers
    else sign_by money (asks_at kind addr tap.sent) (λ form. got kind addr form tap.sent tap.heard)

-- A mask that was known at a tap of a number.
abbrev pub known_mask : ℕ → ℕ → KnownMask
known_mask number mask = record { number = number; mask = mask; is_fresh = false }

-- The known mask after one was shown: that of before where it is the same.
abbrev pub seen_mask : ℕ → ℕ → Option KnownMask → Option KnownMask
seen_mask number mask None = Some (known_mask number mask)
seen_mask number mask (Some k) = if mask == k.mask then Some k else Some (known_mask number mask)

-- The known mask after a tap of a number: no mask was asked for since, so it is this one, or 0
-- after a reset.
abbrev pub known_on : ℕ → Sign → Option KnownMask → Option KnownMask
known_on number (Events c) found = found
known_on number (Mask mask) found = seen_mask number mask found
known_on number (MaskTaken mask) found = Some (known_mask number mask)
known_on number MaskLost found = None
known_on number ResetTaken found = Some (record { number = number; mask = 0; is_fresh = true })
known_on number OtherAnswers found = None
known_on number Nothing found = found

-- The known mask after taps that showed this, newest first. Taps are numbered from 1.
abbrev pub known_after : List Sign → Option KnownMask
known_after [] = None
known_after (s ∷ past) = known_on (suc (length past)) s (known_after past)

-- A pair of the buffer is an event.
abbrev pub is_event : Pair → Bool
is_event pair = not ((pair.a == 0) && (pair.b == 0))

-- A pair of the buffer is a coin or a bill that came in.
abbrev pub is_credit : Pair → Bool
is_credit pair = not (pair.a == 0)

-- With event counter 0 the buffer is empty.
abbrev pub broken_buffer : ℕ → ℕ → Credits → List Said
broken_buffer addr number c =
    if (c.counter == 0) && list_any is_event c.pairs then Broken addr premise.Buffer number number
    ∷ [] else []

-- After a reset, and before a mask is asked for, the buffer shows no credit.
abbrev pub broken_reset : ℕ → ℕ → Credits → Option KnownMask → List Said
broken_reset addr number c None = []
broken_reset addr number c (Some k) =
    if k.is_fresh && list_any is_credit c.pairs then Broken addr premise.Reset k.number number
    ∷ [] else []

-- A mask stays until another one is asked for, or until a reset, after which it is 0.
abbrev pub broken_mask : ℕ → ℕ → ℕ → Option KnownMask → List Said
broken_mask addr number mask None = []
broken_mask addr number mask (Some k) =
    if (mask == 0) || (mask == k.mask) then [] else Broken addr premise.Mask k.number number ∷ []

-- Which premises a tap of a number shows broken, of the acceptor at an address.
abbrev pub broken_by : ℕ → ℕ → Sign → Option KnownMask → List Said
broken_by addr number (Events c) found =
    broken_buffer addr number c ++ broken_reset addr number c found
broken_by addr number (Mask mask) found = broken_mask addr number mask found
broken_by addr number OtherAnswers found = Broken addr premise.Alone number number ∷ []
broken_by addr number s found = []

-- The same after the taps before it, newest first.
abbrev pub broken_at : ℕ → Sign → List Sign → List Said
broken_at addr s past = broken_by addr (suc (length past)) s (known_after past)
