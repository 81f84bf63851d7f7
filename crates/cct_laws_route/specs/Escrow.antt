-- What became of each bill that a bill acceptor held, read off all that it met, newest first.
use Rattle.std.specs.Prelude.{ℕ, ◌==◌, Bool, true, false, List, [], ◌∷◌, ◌++◌, if◌then◌else◌}
use Rattle.std.specs.Prelude.{Option, Some, None}
use Rattle.cct_model.specs.terms.coin.Coin.{Coin}
use Rattle.cct_model.specs.terms.request.TheConstants.{RETURN_CODE, STACK_CODE}
use Rattle.cct_model.specs.terms.request.Request.{Request}
use Rattle.cct_model.specs.terms.request.Request.TheVariants.{ResetDevice, RouteBill}
use Rattle.cct_model.specs.Bill.{bill_held, holds, stacked_by}
use Rattle.cct_model.specs.History.{Met, coin, reset, heard, unless_reset}

-- The places of all bills that were ever held, newest first.
abbrev pub held_bills : List Met → List ℕ
held_bills [] = []
held_bills (coin place ∷ past) =
    if holds past place then place ∷ held_bills past else held_bills past
held_bills (what ∷ past) = held_bills past

-- How a bill left the escrow: it was stacked, or given back by a request to route it, or by a
-- reset.
pub data Left : Type 0 where
  stacked : (place : ℕ) → Left
  returned : (place : ℕ) → Left
  dropped : (place : ℕ) → Left

-- The place of a bill that left it.
abbrev pub place_of : Left → ℕ
place_of (stacked place) = place
place_of (returned place) = place
place_of (dropped place) = place

-- Whether it was stacked.
abbrev pub is_stacked : Left → Bool
is_stacked (stacked place) = true
is_stacked way = false

-- Whether a request gave it back.
abbrev pub is_returned : Left → Bool
is_returned (returned place) = true
is_returned way = false

-- Whether a reset did.
abbrev pub is_dropped : Left → Bool
is_dropped (dropped place) = true
is_dropped way = false

-- What becomes of the bill of a place, if one is held.
abbrev pub if_held : {A : Type 0} → (ℕ → List A) → Option ℕ → List A
if_held what None = []
if_held what (Some place) = what place

-- The place of the bill that is held, if one is.
abbrev pub in_escrow : List Met → List ℕ
in_escrow past = if_held (λ place. place ∷ []) (bill_held past)

-- How a held bill leaves the escrow where bytes are heard, if they make it leave.
abbrev pub left_by : Option Request → ℕ → List Left
left_by (Some (RouteBill way)) place =
    if way == STACK_CODE then stacked place ∷ [] else if way == RETURN_CODE then returned place
    ∷ [] else []
left_by (Some ResetDevice) place = dropped place ∷ []
left_by asked place = []

-- How each bill that left the escrow did, newest first.
abbrev pub left_bills : List Met → List Left
left_bills [] = []
left_bills (reset ∷ past) =
    if_held (λ place. dropped place ∷ []) (bill_held past) ++ left_bills past
left_bills (heard asked ∷ past) = if_held (left_by asked) (bill_held past) ++ left_bills past
left_bills (what ∷ past) = left_bills past

-- The bills that were stacked since the last reset, newest first: each is a coin of its place, by
-- path 0.
abbrev pub stacked_since : List Met → List Coin
stacked_since [] = []
stacked_since (reset ∷ past) = []
stacked_since (heard asked ∷ past) =
    if_held (λ place. record { place = place; path = 0 } ∷ []) (stacked_by asked (bill_held past))
    ++ unless_reset asked [] (stacked_since past)
stacked_since (what ∷ past) = stacked_since past
