-- Each bill that is held leaves the escrow once, or is held still; and the coins among the events are those that were stacked.
use Rattle.std.proofs.Common.{◌≡◌, ℕ, suc, ◌+◌, ◌≤◌, ◌==◌, cond, true, false, Bool, List, [], ◌∷◌, ◌++◌, map, length, refl, ap, ◌∙◌, Option, Some, None, arith}
use Rattle.std.specs.Prelude.{⊤, ◌&&◌, ◌||◌, is_none, is_some}
use Rattle.std.specs.List.{filter}
use Rattle.std.proofs.lemmas.Bool.Decides.{nat_tests}
use Rattle.cct_model.specs.terms.coin.Coin.{Coin}
use Rattle.cct_model.specs.terms.coin.Pair.{Pair}
use Rattle.cct_model.specs.terms.request.Request.{Request}
use Rattle.cct_model.specs.terms.request.Request.TheVariants.{ResetDevice, RouteBill}
use Rattle.cct_model.specs.Acceptor.{accepts}
use Rattle.cct_model.specs.Bill.{bill_event, bill_events, bill_held, events_after, held_after, held_with, holds, is_way, stacked_bills, stacked_by}
use Rattle.cct_model.specs.History.{Met, coin, alien, fall, jam, reset, heard, unless_reset}
use Rattle.cct_model.specs.Job.{settled}
use Rattle.cct_model.specs.Reading.{coins_among}
use Rattle.cct_laws_route.specs.Escrow.{Left, dropped, held_bills, if_held, in_escrow, is_dropped, is_returned, is_stacked, left_bills, left_by, place_of, returned, stacked, stacked_since}
use Rattle.cct_laws_route.specs.Places.{ArePlaced}

-- the bill that is held, if one is
abbrev one : Option ℕ → List ℕ
one held = if_held (λ place. place ∷ []) held

-- all that were held, in their order
coin_order : (place : ℕ) (lets_in : Bool) (held : Option ℕ) (bills left : List ℕ) → bills ≡ one held ++ left →
    cond (lets_in && is_none held) (place ∷ bills) bills ≡ one (held_with place lets_in held) ++ left
coin_order place true None bills left is = ap (λ bs. place ∷ bs) is
coin_order place true (Some p) bills left is = is
coin_order place false None bills left is = is
coin_order place false (Some p) bills left is = is

drop_order : (held : Option ℕ) (bills : List ℕ) (left : List Left) → bills ≡ one held ++ map place_of left →
    bills ≡ map place_of (if_held (λ place. dropped place ∷ []) held ++ left)
drop_order None bills left is = is
drop_order (Some p) bills left is = is

route_order : (stacks returns : Bool) (p : ℕ) (bills : List ℕ) (left : List Left) → bills ≡ p ∷ map place_of left →
    bills ≡ one (cond (stacks || returns) None (Some p))
    ++ map place_of (cond stacks (stacked p ∷ []) (cond returns (returned p ∷ []) []) ++ left)
route_order true returns p bills left is = is
route_order false true p bills left is = is
route_order false false p bills left is = is

none_order : (known : Bool) (bills : List ℕ) (left : List Left) → bills ≡ map place_of left →
    bills ≡ one (cond known None None) ++ map place_of left
none_order true bills left is = is
none_order false bills left is = is

heard_order : (asked : Option Request) (held : Option ℕ) (bills : List ℕ) (left : List Left) →
    bills ≡ one held ++ map place_of left →
    bills ≡ one (held_after asked held) ++ map place_of (if_held (left_by asked) held ++ left)
heard_order None None bills left is = is
heard_order None (Some p) bills left is = is
heard_order (Some (RouteBill way)) None bills left is = none_order (is_way way) bills left is
heard_order (Some (RouteBill way)) (Some p) bills left is = route_order (way == 1) (way == 0) p bills left is
heard_order (Some ResetDevice) None bills left is = is
heard_order (Some ResetDevice) (Some p) bills left is = is
heard_order (Some q) None bills left is = is
heard_order (Some q) (Some p) bills left is = is

pub in_order : (past : List Met) → held_bills past ≡ in_escrow past ++ map place_of (left_bills past)
in_order [] = refl
in_order (coin place ∷ past) =
    coin_order place (accepts past place) (bill_held past) (held_bills past) (map place_of (left_bills past)) (in_order past)
in_order (alien ∷ past) = in_order past
in_order (fall ∷ past) = in_order past
in_order (jam ∷ past) = in_order past
in_order (reset ∷ past) = drop_order (bill_held past) (held_bills past) (left_bills past) (in_order past)
in_order (heard asked ∷ past) = heard_order asked (bill_held past) (held_bills past) (left_bills past) (in_order past)

-- those that were stacked
route_stacked : (stacks returns : Bool) (p n : ℕ) (left : List Left) → length (filter is_stacked left) ≡ n →
    length (filter is_stacked (cond stacks (stacked p ∷ []) (cond returns (returned p ∷ []) []) ++ left))
    ≡ cond (is_some (cond stacks (Some p) None)) (suc n) n
route_stacked true returns p n left is = ap suc is
route_stacked false true p n left is = is
route_stacked false false p n left is = is

none_stacked : (stacks : Bool) (n : ℕ) (left : List Left) → length (filter is_stacked left) ≡ n →
    length (filter is_stacked left) ≡ cond (is_some {T = ℕ} (cond stacks None None)) (suc n) n
none_stacked true n left is = is
none_stacked false n left is = is

heard_stacked : (asked : Option Request) (held : Option ℕ) (n : ℕ) (left : List Left) → length (filter is_stacked left) ≡ n →
    length (filter is_stacked (if_held (left_by asked) held ++ left)) ≡ cond (is_some (stacked_by asked held)) (suc n) n
heard_stacked None None n left is = is
heard_stacked None (Some p) n left is = is
heard_stacked (Some (RouteBill way)) None n left is = none_stacked (way == 1) n left is
heard_stacked (Some (RouteBill way)) (Some p) n left is = route_stacked (way == 1) (way == 0) p n left is
heard_stacked (Some ResetDevice) None n left is = is
heard_stacked (Some ResetDevice) (Some p) n left is = is
heard_stacked (Some q) None n left is = is
heard_stacked (Some q) (Some p) n left is = is

drop_stacked : (held : Option ℕ) (left : List Left) →
    length (filter is_stacked (if_held (λ place. dropped place ∷ []) held ++ left)) ≡ length (filter is_stacked left)
drop_stacked None left = refl
drop_stacked (Some p) left = refl

pub all_stacked : (past : List Met) → length (filter is_stacked (left_bills past)) ≡ stacked_bills past
all_stacked [] = refl
all_stacked (coin place ∷ past) = all_stacked past
all_stacked (alien ∷ past) = all_stacked past
all_stacked (fall ∷ past) = all_stacked past
all_stacked (jam ∷ past) = all_stacked past
all_stacked (reset ∷ past) = drop_stacked (bill_held past) (left_bills past) ∙ all_stacked past
all_stacked (heard asked ∷ past) =
    heard_stacked asked (bill_held past) (stacked_bills past) (left_bills past) (all_stacked past)

-- so they are as many
left_count : (left : List Left) →
    length (map place_of left)
    ≡ length (filter is_stacked left) + length (filter is_returned left) + length (filter is_dropped left)
left_count [] = refl
left_count (stacked place ∷ left) = let before = left_count left in omega (arith, before)
left_count (returned place ∷ left) = let before = left_count left in omega (arith, before)
left_count (dropped place ∷ left) = let before = left_count left in omega (arith, before)

both_count : (held : Option ℕ) (bills : List ℕ) → length (one held ++ bills) ≡ length bills + length (one held)
both_count None bills = omega arith
both_count (Some p) bills = omega arith

pub counted : (past : List Met) →
    length (held_bills past)
    ≡ stacked_bills past + length (filter is_returned (left_bills past)) + length (filter is_dropped (left_bills past))
    + length (in_escrow past)
counted past =
    let order = ap length (in_order past) ∙ both_count (bill_held past) (map place_of (left_bills past)) in
    let kinds = left_count (left_bills past) in
    let stacks = all_stacked past in
    omega (arith, order, kinds, stacks)

-- an event that is judged as no coin
coin_event : (held : Bool) (place : ℕ) →
    (settled (cond held (record { a = place; b = 1 }) (record { a = 0; b = 2 }))).a ≡ 0
coin_event true place = refl
coin_event false place = refl

no_coin : (pair : Pair) (pairs : List Pair) → pair.a ≡ 0 → coins_among (pair ∷ pairs) ≡ coins_among pairs
no_coin pair pairs is =
    ap (λ n. cond (n == 0) (coins_among pairs) (record { place = pair.a; path = pair.b } ∷ coins_among pairs)) is

one_coin : (place : ℕ) (pairs : List Pair) → 1 ≤ place →
    coins_among (record { a = place; b = 0 } ∷ pairs) ≡ record { place = place; path = 0 } ∷ coins_among pairs
one_coin place pairs placed =
    ap (λ b. cond b (coins_among pairs) (record { place = place; path = 0 } ∷ coins_among pairs)) (not_zero place placed)
  where
    not_zero : (n : ℕ) → 1 ≤ n → (n == 0) ≡ false
    not_zero n some = grind (arith, nat_tests)

-- the bill that is held is of such a place too
abbrev IsPlaced : Option ℕ → Type 0
IsPlaced None = ⊤
IsPlaced (Some place) = 1 ≤ place

coin_placed : (place : ℕ) (lets_in : Bool) (held : Option ℕ) → 1 ≤ place → IsPlaced held →
    IsPlaced (held_with place lets_in held)
coin_placed place true None here before = here
coin_placed place true (Some p) here before = before
coin_placed place false None here before = before
coin_placed place false (Some p) here before = before

cond_placed : (known : Bool) (held : Option ℕ) → IsPlaced held → IsPlaced (cond known None held)
cond_placed true held before = tt
cond_placed false held before = before

heard_placed : (asked : Option Request) (held : Option ℕ) → IsPlaced held → IsPlaced (held_after asked held)
heard_placed None held before = before
heard_placed (Some (RouteBill way)) held before = cond_placed (is_way way) held before
heard_placed (Some ResetDevice) held before = tt
heard_placed (Some q) held before = before

held_placed : (past : List Met) → ArePlaced past → IsPlaced (bill_held past)
held_placed [] are = tt
held_placed (coin place ∷ past) are =
    coin_placed place (accepts past place) (bill_held past) are.0 (held_placed past are.1)
held_placed (alien ∷ past) are = held_placed past are
held_placed (fall ∷ past) are = held_placed past are
held_placed (jam ∷ past) are = held_placed past are
held_placed (reset ∷ past) are = tt
held_placed (heard asked ∷ past) are = heard_placed asked (bill_held past) (held_placed past are)

-- what is credited was stacked
abbrev credits : List Pair → List Coin
credits events = coins_among (map settled events)

route_credits : (stacks returns : Bool) (p : ℕ) (events : List Pair) (since : List Coin) → 1 ≤ p → credits events ≡ since →
    credits (cond stacks (record { a = p; b = 0 } ∷ events) (cond returns (record { a = 0; b = 1 } ∷ events) events))
    ≡ if_held (λ place. record { place = place; path = 0 } ∷ []) (cond stacks (Some p) None) ++ since
route_credits true returns p events since placed is =
    one_coin p (map settled events) placed ∙ ap (λ cs. record { place = p; path = 0 } ∷ cs) is
route_credits false true p events since placed is = is
route_credits false false p events since placed is = is

unrouted_credits : (stacks : Bool) (events : List Pair) (since : List Coin) → credits events ≡ since →
    credits events ≡ if_held (λ place. record { place = place; path = 0 } ∷ []) (cond stacks None None) ++ since
unrouted_credits true events since is = is
unrouted_credits false events since is = is

heard_credits : (asked : Option Request) (held : Option ℕ) (events : List Pair) (since : List Coin) → IsPlaced held →
    credits events ≡ since →
    credits (events_after asked held events)
    ≡ if_held (λ place. record { place = place; path = 0 } ∷ []) (stacked_by asked held) ++ unless_reset asked [] since
heard_credits None held events since placed is = is
heard_credits (Some (RouteBill way)) None events since placed is = unrouted_credits (way == 1) events since is
heard_credits (Some (RouteBill way)) (Some p) events since placed is =
    route_credits (way == 1) (way == 0) p events since placed is
heard_credits (Some ResetDevice) held events since placed is = refl
heard_credits (Some q) held events since placed is = is

pub credited : (past : List Met) → ArePlaced past → coins_among (map settled (bill_events past)) ≡ stacked_since past
credited [] are = refl
credited (coin place ∷ past) are =
    no_coin (settled (bill_event past place)) (map settled (bill_events past)) (coin_event (holds past place) place)
    ∙ credited past are.1
credited (alien ∷ past) are = credited past are
credited (fall ∷ past) are = credited past are
credited (jam ∷ past) are = credited past are
credited (reset ∷ past) are = refl
credited (heard asked ∷ past) are =
    heard_credits asked (bill_held past) (bill_events past) (stacked_since past) (held_placed past are) (credited past are)
