-- Bills that are held, stacked, given back, and held over a reset; `route` with each of its ends; and what no bill acceptor and
-- no host does.
use Rattle.std.proofs.Common.{◌≡◌, ℕ, List, [], ◌∷◌, ◌++◌, map, refl, Some, arith}
use Rattle.cct_model.specs.terms.coin.Coin.{Coin}
use Rattle.cct_model.specs.terms.request.Request.TheVariants.{RouteBill, SetMask, ResetDevice}
use Rattle.cct_model.specs.lines.command.Command.TheVariants as command
use Rattle.cct_model.specs.lines.entry.Entry.{Entry}
use Rattle.cct_model.specs.lines.entry.Entry.TheVariants as entry
use Rattle.cct_model.specs.lines.entry.End.TheVariants.{Routed, RouteUnsure}
use Rattle.cct_model.specs.Bill.{bill_events, stacked_bills}
use Rattle.cct_model.specs.Exchange.{ask, asked, asks_of, after_echo, got}
use Rattle.cct_model.specs.History.{Met, coin, reset, heard}
use Rattle.cct_model.specs.Job.{settled}
use Rattle.cct_model.specs.Line.{accepted}
use Rattle.cct_model.specs.Message.{message, spelling}
use Rattle.cct_model.specs.Reading.{coins_among}
use Rattle.cct_model.specs.Reply.{reply_data, reply_in}
use Rattle.cct_model.specs.Request.{data_of, request_of, requests_with, form_of}
use Rattle.cct_model.specs.Setting.{has_place}
use Rattle.cct_model.specs.Transcript.{got_by, met}
use Rattle.cct_laws_live.proofs.Worked.{banker, stacks}
use Rattle.cct_laws_route.specs.Escrow.{dropped, held_bills, in_escrow, left_bills, place_of, returned, stacked, stacked_since}
use Rattle.cct_laws_route.specs.Held.{held_told}
use Rattle.cct_laws_route.specs.Routes.{RouteEndsAt, lines_by}

abbrev bill : ℕ → Coin
bill place = record { place = place; path = 0 }

-- a bill of place 1 is held; one that is put in then isn't; the first one is stacked; another is given back; a third is held,
-- and a reset gives it back
abbrev masked : List Met
masked = heard (Some (SetMask 1)) ∷ []

abbrev one_held : List Met
one_held = coin 1 ∷ coin 1 ∷ masked

abbrev one_stacked : List Met
one_stacked = heard (Some (RouteBill 1)) ∷ one_held

abbrev one_returned : List Met
one_returned = heard (Some (RouteBill 0)) ∷ coin 1 ∷ one_stacked

abbrev one_dropped : List Met
one_dropped = reset ∷ coin 1 ∷ one_returned

holds_one : (held_bills one_held ≡ 1 ∷ []) × (in_escrow one_held ≡ 1 ∷ []) × (left_bills one_held ≡ [])
unfolding has_place
holds_one = (refl, refl, refl)

stacks_one : (left_bills one_stacked ≡ stacked 1 ∷ []) × (in_escrow one_stacked ≡ []) × (stacked_since one_stacked ≡ bill 1 ∷ [])
unfolding has_place
stacks_one = (refl, refl, refl)

returns_one : (held_bills one_returned ≡ 1 ∷ 1 ∷ []) × (left_bills one_returned ≡ returned 1 ∷ stacked 1 ∷ []) ×
    (stacked_since one_returned ≡ bill 1 ∷ [])
unfolding has_place
returns_one = (refl, refl, refl)

drops_one : (left_bills one_dropped ≡ dropped 1 ∷ returned 1 ∷ stacked 1 ∷ []) × (stacked_since one_dropped ≡ []) ×
    (stacked_bills one_dropped ≡ 1)
unfolding has_place
drops_one = (refl, refl, refl)

-- so does a request that resets it; and a byte that is no way leaves it held
drops_by_request : left_bills (heard (Some ResetDevice) ∷ one_held) ≡ dropped 1 ∷ []
unfolding has_place
drops_by_request = refl

keeps_one : (left_bills (heard (Some (RouteBill 2)) ∷ one_held) ≡ []) × (in_escrow (heard (Some (RouteBill 2)) ∷ one_held) ≡ 1 ∷ [])
unfolding has_place
keeps_one = (refl, refl)

-- no bill leaves twice: not stacked and given back, and none that wasn't held
not_twice : held_bills one_stacked ≡ in_escrow one_stacked ++ map place_of (returned 1 ∷ stacked 1 ∷ []) → ⊥
unfolding has_place
not_twice is = cc is

not_unheld : held_bills masked ≡ in_escrow masked ++ map place_of (stacked 1 ∷ []) → ⊥
not_unheld is = cc is

not_another : held_bills one_stacked ≡ in_escrow one_stacked ++ map place_of (stacked 2 ∷ []) → ⊥
unfolding has_place
not_another is = cc is

-- a bill is no coin while it is held, nor where it was given back
not_while_held : coins_among (bill_events one_held) ≡ stacked_since one_held → ⊥
unfolding has_place
not_while_held is = cc is

none_while_held : coins_among (map settled (bill_events one_held)) ≡ []
unfolding has_place
none_while_held = refl

credits_one : coins_among (map settled (bill_events one_returned)) ≡ bill 1 ∷ []
unfolding has_place
credits_one = refl

-- a place 0 would be no coin where it is stacked: there is none
not_at_place_zero : coins_among (map settled (bill_events (heard (Some (RouteBill 1)) ∷ coin 0 ∷ masked)))
    ≡ stacked_since (heard (Some (RouteBill 1)) ∷ coin 0 ∷ masked) → ⊥
unfolding has_place
not_at_place_zero is = cc is

-- the bill acceptor at address 4 lets in bills of place 1
abbrev lets_in : List Entry
lets_in = entry.Wire 4 (4 ∷ 2 ∷ 1 ∷ 231 ∷ 1 ∷ 0 ∷ 17 ∷ []) (4 ∷ 2 ∷ 1 ∷ 231 ∷ 1 ∷ 0 ∷ 17 ∷ 1 ∷ 0 ∷ 4 ∷ 0 ∷ 251 ∷ []) ∷ []

abbrev gives : List ℕ
gives = 4 ∷ 1 ∷ 1 ∷ 154 ∷ 0 ∷ 96 ∷ []

abbrev yes : List ℕ
yes = 1 ∷ 0 ∷ 4 ∷ 0 ∷ 251 ∷ []

abbrev no : List ℕ
no = 1 ∷ 0 ∷ 4 ∷ 5 ∷ 246 ∷ []

abbrev before : ℕ → List Entry → List Entry
before way past = entry.Taken (command.Route 4 way) ∷ past

-- what is reported as held, by this and by another device
tells_held : held_told banker (entry.Held 5 2 ∷ entry.Held 4 1 ∷ lets_in) ≡ 1 ∷ []
tells_held = refl

is_held : held_bills (met banker (entry.Held 5 2 ∷ entry.Held 4 1 ∷ lets_in)) ≡ 1 ∷ []
unfolding message spelling request_of requests_with data_of has_place asks_of
is_held = refl

-- a bill that isn't let in isn't reported as held
not_told_unheld : held_told banker (entry.Held 4 2 ∷ lets_in) ≡ held_bills (met banker (entry.Held 4 2 ∷ lets_in)) → ⊥
unfolding message spelling request_of requests_with data_of has_place asks_of
not_told_unheld is = cc is

-- the bill is stacked, or given back
routes_to_the_stacker : RouteEndsAt banker (entry.Wire 4 stacks (stacks ++ yes) ∷ before 1 (entry.Held 4 1 ∷ lets_in)) (entry.Ended 4 Routed)
unfolding message spelling data_of request_of requests_with form_of reply_data reply_in has_place ask asked asks_of after_echo got
    got_by
routes_to_the_stacker here = (
  record { way = 1; since = []; is_here = refl; job_is = refl; asks = refl; is_known = omega arith },
  λ honest. record { place = 1; held = refl; does = refl; empties = refl },
)

routes_back : RouteEndsAt banker (entry.Wire 4 gives (gives ++ yes) ∷ before 0 (entry.Held 4 1 ∷ lets_in)) (entry.Ended 4 Routed)
unfolding message spelling data_of request_of requests_with form_of reply_data reply_in has_place ask asked asks_of after_echo got
    got_by
routes_back here = (
  record { way = 0; since = []; is_here = refl; job_is = refl; asks = refl; is_known = omega arith },
  λ honest. record { place = 1; held = refl; does = refl; empties = refl },
)

-- none is held, and the bill acceptor refuses
routes_none : RouteEndsAt banker (entry.Wire 4 stacks (stacks ++ no) ∷ before 1 lets_in) (entry.Ended 4 RouteUnsure)
unfolding message spelling data_of request_of requests_with form_of reply_data reply_in has_place ask asked asks_of after_echo got
    got_by
routes_none here = (
  record { way = 1; since = []; is_here = refl; job_is = refl; asks = refl; is_known = omega arith },
  λ clear. refl,
)

-- no `route` ends `routed` where none was held, nor unsure where one was and no fault was set, nor after an exchange of another
-- job or none
not_where_none_was_held : RouteEndsAt banker (entry.Wire 4 stacks (stacks ++ yes) ∷ before 1 lets_in) (entry.Ended 4 Routed) → ⊥
unfolding message spelling data_of request_of requests_with form_of reply_data reply_in has_place ask asked asks_of after_echo got
    got_by
not_where_none_was_held at = let routed = (at refl).1 refl in cc routed.held

not_unsure_of_a_held_one : RouteEndsAt banker (entry.Wire 4 stacks (stacks ++ yes) ∷ before 1 (entry.Held 4 1 ∷ lets_in)) (entry.Ended 4 RouteUnsure) → ⊥
unfolding message spelling data_of request_of requests_with form_of reply_data reply_in has_place ask asked asks_of after_echo got
    got_by
not_unsure_of_a_held_one at = let none = (at refl).1 refl in cc none

not_without_a_route : RouteEndsAt banker (entry.Wire 4 stacks (stacks ++ yes) ∷ entry.Held 4 1 ∷ lets_in) (entry.Ended 4 Routed) → ⊥
unfolding message spelling data_of request_of requests_with form_of reply_data reply_in has_place ask asked asks_of after_echo got
    got_by
not_without_a_route at = let of = (at refl).0 in cc of.job_is

not_without_an_exchange : RouteEndsAt banker (before 1 (entry.Held 4 1 ∷ lets_in)) (entry.Ended 4 Routed) → ⊥
not_without_an_exchange at = at refl

-- nor by the other way than that which was given
not_by_the_other_way : RouteEndsAt banker (entry.Wire 4 gives (gives ++ yes) ∷ before 1 (entry.Held 4 1 ∷ lets_in)) (entry.Ended 4 Routed) → ⊥
unfolding message spelling data_of request_of requests_with form_of reply_data reply_in has_place ask asked asks_of after_echo got
    got_by
not_by_the_other_way at =
    let of = (at refl).0 in
    cc (of.job_is, of.asks)

-- way 1 gives no bill back, and way 0 stacks none
not_given_back_by_way_one : [] ≡ lines_by 1 1 → ⊥
not_given_back_by_way_one is = cc is

not_stacked_by_way_zero : accepted (bill 1) ∷ [] ≡ lines_by 0 1 → ⊥
not_stacked_by_way_zero is = cc is
