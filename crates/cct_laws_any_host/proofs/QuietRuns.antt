-- An acceptor of coins or of bills that is watched for resets alone, over a run of any host: its resets are counted, and all
-- that came to it with none between are events.
use Rattle.std.proofs.Common.{◌≡◌, ◌≢◌, ℕ, suc, ◌≤◌, ◌==◌, ◌||◌, Bool, true, false, cond, List, [], ◌∷◌, ◌++◌, length, map, refl, ap, ap₂, sym, ◌∙◌, subst, arith, append_assoc, Option, Some, None}
use Rattle.std.proofs.lemmas.Bool.Decides.{nat_tests}
use Rattle.std.proofs.lemmas.List.{length-map}
use Rattle.cct_model.specs.terms.coin.Credits.{Credits}
use Rattle.cct_model.specs.terms.coin.Pair.{Pair}
use Rattle.cct_model.specs.terms.device.DeviceBody.{DeviceBody}
use Rattle.cct_model.specs.terms.device.DeviceBody.TheVariants.{Acceptor, Bill, Hopper}
use Rattle.cct_model.specs.terms.device.DeviceSetup.{DeviceSetup}
use Rattle.cct_model.specs.terms.device.Setup.{Setup}
use Rattle.cct_model.specs.terms.request.Request.{Request}
use Rattle.cct_model.specs.terms.request.Request.TheVariants.{GetMask, ReadBills, RouteBill, SetMask, ResetDevice}
use Rattle.cct_model.specs.terms.request.TheConstants.{RETURN_CODE, STACK_CODE}
use Rattle.cct_model.specs.terms.request.ReplyForm.{ReplyForm}
use Rattle.cct_model.specs.terms.request.ReplyForm.TheVariants as form
use Rattle.cct_model.specs.lines.command.Step.{Step}
use Rattle.cct_model.specs.lines.entry.Entry.{Entry}
use Rattle.cct_model.specs.lines.entry.Entry.TheVariants as entry
use Rattle.cct_model.specs.Acceptor.{accepts, alien_event, coin_event, credits_in, events, path_of}
use Rattle.cct_model.specs.Bill.{bill_event, bill_events, bill_held, bills_of, held_after, held_with, holds, is_way, routed, stacked_by}
use Rattle.cct_model.specs.Claims.{coins}
use Rattle.cct_model.specs.Device.{IsAcceptor, IsBill, IsHopper, IsTaker}
use Rattle.cct_model.specs.Exchange.{asked, asks_of, got}
use Rattle.cct_model.specs.History.{Met, heard}
use Rattle.cct_model.specs.History as history
use Rattle.cct_model.specs.Honest.{HonestPast, IsHonestFault}
use Rattle.cct_model.specs.Job.{address_of, settled, settled_events}
use Rattle.cct_model.specs.Line.{Line}
use Rattle.cct_model.specs.Line as line
use Rattle.cct_model.specs.Reading.{coins_among}
use Rattle.cct_model.specs.Reply.{Reply}
use Rattle.cct_model.specs.Reply as reply
use Rattle.cct_model.specs.Script.{IsInRange}
use Rattle.cct_model.specs.Setup.{IsSoundSetup}
use Rattle.cct_model.specs.Transcript.{doses, doses_of, got_by, heard_after, heard_by_devices, lines_of, met, pending, stacked_line}
use Rattle.cct_laws.specs.Law.{IsOf}
use Rattle.cct_laws.specs.Takers.{events_of}
use Rattle.cct_laws.proofs.wire.Replies.{reading_tells}
use Rattle.cct_laws.proofs.jobs.StepBrings.{Comes, takes_coin, leaves_coin, takes_bill, leaves_bill, leaves_alien, drops_coin, drops_none, jams, jams_none, is_reset}
use Rattle.cct_audit_taps.specs.declared.money.Money.{Money}
use Rattle.cct_audit_taps.specs.declared.money.Money.TheVariants.{Coins, Bills}
use Rattle.cct_audit_taps.specs.declared.shown.Shown.{Shown}
use Rattle.cct_audit_taps.specs.declared.shown.Shown.TheVariants.{Read, Masked, Set, Nothing}
use Rattle.cct_audit_taps.specs.Taps.{Tap, asks_at, bills_by, but_masks, mask_in, quiet_shown, read_in, settled_in, shown, tap_of}
use Rattle.cct_laws_any_host.specs.Wild.{WildStep, WildFrom, before_tap, taps}
use Rattle.cct_laws_any_host.specs.Claims.{Takes, bill_pieces, events_in, pieces, quiet_looks, resets, with_routed}
use Rattle.cct_laws_any_host.proofs.Acceptors.{kept_out, let_in}
use Rattle.cct_laws_any_host.proofs.Resets.{Moment, Passes, Still, Tells, passes_later, passes_same}
use Rattle.cct_laws_any_host.proofs.Run.{AllWild, Seen, Wild, at_earlier, at_last, comes, comes_to, elsewhere, faults, here, no_tap, sends, takes, wild_all}
use Rattle.cct_laws_any_host.proofs.Wire.{Told, bills_replied, bills_told, same_credits, told}

-- its mask is of no account
abbrev made_moment : List Pair → List Line → ℕ → ℕ → Moment
made_moment events lines came resets =
    record { world = record { mask = 1; events = events; coins = coins lines; came = came }; resets = resets }

abbrev moment_by : DeviceBody → List Met → List Line → Moment
moment_by body ms ls = made_moment (events_of body ms) ls (events_in body ms ls) (resets ms)

abbrev pub moment_of : DeviceSetup → List Entry → Moment
moment_of d past = moment_by d.body (met d past) (lines_of d past)

abbrev one : ℕ
one = 1

some_mask : one ≢ 0
some_mask = λ none. omega (arith, none)

still_refl : (w : Moment) → w.world.mask ≢ 0 → Still w w
still_refl w masked = record {
  more = omega arith;
  behind = λ same. record { masked = masked; new = []; events_are = refl; coins_are = refl; came_are = omega arith };
}

still_made : (es : List Pair) (ls : List Line) (n r : ℕ) → Still (made_moment es ls n r) (made_moment es ls n r)
still_made es ls n r = still_refl (made_moment es ls n r) some_mask

-- one event more
still_more : (es : List Pair) (ls later : List Line) (n r : ℕ) (pair : Pair) → coins later ≡ coins_among (pair ∷ []) ++ coins ls →
    Still (made_moment es ls n r) (made_moment (pair ∷ es) later (suc n) r)
still_more es ls later n r pair are = record {
  more = omega arith;
  behind = λ same. record {
    masked = some_mask;
    new = pair ∷ [];
    events_are = refl;
    coins_are = are;
    came_are = omega arith;
  };
}

-- ---- what comes to it

coin_taken : (body : DeviceBody) (ms : List Met) (lines : List Line) (place : ℕ) → IsAcceptor body → 1 ≤ place →
    accepts ms place ≡ true →
    Still (moment_by body ms lines) (moment_by body (history.coin place ∷ ms)
    (line.accepted (record { place = place; path = path_of ms place }) ∷ lines))
coin_taken (Acceptor counted values ids) ms lines place accepting low lets =
    still_more (events ms) lines (line.accepted (record { place = place; path = path_of ms place }) ∷ lines) (pieces lines)
    (resets ms) (coin_event ms place) (ap (λ cs. cs ++ coins lines) (sym (let_in ms place low lets)))
coin_taken (Hopper life value) ms lines place accepting low lets = absurd accepting
coin_taken (Bill counted values ids) ms lines place accepting low lets = absurd accepting

coin_left : (body : DeviceBody) (ms : List Met) (lines : List Line) (place : ℕ) → IsAcceptor body →
    accepts ms place ≡ false →
    Still (moment_by body ms lines) (moment_by body (history.coin place ∷ ms) (line.inhibited place ∷ lines))
coin_left (Acceptor counted values ids) ms lines place accepting out =
    still_more (events ms) lines (line.inhibited place ∷ lines) (pieces lines) (resets ms) (coin_event ms place)
    (ap (λ cs. cs ++ coins lines) (sym (kept_out ms place out)))
coin_left (Hopper life value) ms lines place accepting out = absurd accepting
coin_left (Bill counted values ids) ms lines place accepting out = absurd accepting

alien_left : (body : DeviceBody) (ms : List Met) (lines : List Line) → IsAcceptor body →
    Still (moment_by body ms lines) (moment_by body (history.alien ∷ ms) (line.alien ∷ lines))
alien_left (Acceptor counted values ids) ms lines accepting =
    still_more (events ms) lines (line.alien ∷ lines) (pieces lines) (resets ms) alien_event refl
alien_left (Hopper life value) ms lines accepting = absurd accepting
alien_left (Bill counted values ids) ms lines accepting = absurd accepting

-- a bill that is put in is no money yet, whether it is held or not
no_money : (held : Bool) (place : ℕ) →
    coins_among (settled (cond held (record { a = place; b = 1 }) (record { a = 0; b = 2 })) ∷ []) ≡ []
no_money true place = refl
no_money false place = refl

bill_held_now : (body : DeviceBody) (ms : List Met) (lines : List Line) (place : ℕ) → IsBill body →
    Still (moment_by body ms lines) (moment_by body (history.coin place ∷ ms) lines)
bill_held_now (Bill counted values ids) ms lines place banking =
    still_more (map settled (bill_events ms)) lines lines (bill_pieces ms) (resets ms) (settled (bill_event ms place))
    (ap (λ cs. cs ++ coins lines) (sym (no_money (holds ms place) place)))
bill_held_now (Acceptor counted values ids) ms lines place banking = absurd banking
bill_held_now (Hopper life value) ms lines place banking = absurd banking

bill_left : (body : DeviceBody) (ms : List Met) (lines : List Line) (place : ℕ) → IsBill body →
    Still (moment_by body ms lines) (moment_by body (history.coin place ∷ ms) (line.inhibited place ∷ lines))
bill_left (Bill counted values ids) ms lines place banking =
    still_more (map settled (bill_events ms)) lines (line.inhibited place ∷ lines) (bill_pieces ms) (resets ms)
    (settled (bill_event ms place)) (ap (λ cs. cs ++ coins lines) (sym (no_money (holds ms place) place)))
bill_left (Acceptor counted values ids) ms lines place banking = absurd banking
bill_left (Hopper life value) ms lines place banking = absurd banking

pub no_hopper : (body : DeviceBody) → IsTaker body → IsHopper body → ⊥
no_hopper (Acceptor counted values ids) taking paying = paying
no_hopper (Hopper life value) taking paying = taking
no_hopper (Bill counted values ids) taking paying = paying

still_comes : (d : DeviceSetup) (ms : List Met) (lines : List Line) (s : Step) (e : Entry) (m : Met) (ls : List Line) →
    IsTaker d.body → IsInRange s → Comes d ms s e m ls →
    Still (moment_by d.body ms lines) (moment_by d.body (m ∷ ms) (ls ++ lines))
still_comes d ms lines _ _ _ _ taking range (takes_coin place accepting lets) =
    coin_taken d.body ms lines place accepting range.0 lets
still_comes d ms lines _ _ _ _ taking range (leaves_coin place accepting out) = coin_left d.body ms lines place accepting out
still_comes d ms lines _ _ _ _ taking range (takes_bill place banking kept) = bill_held_now d.body ms lines place banking
still_comes d ms lines _ _ _ _ taking range (leaves_bill place banking back) = bill_left d.body ms lines place banking
still_comes d ms lines _ _ _ _ taking range (leaves_alien accepting) = alien_left d.body ms lines accepting
still_comes d ms lines _ _ _ _ taking range (drops_coin paying some) = absurd (no_hopper d.body taking paying)
still_comes d ms lines _ _ _ _ taking range (drops_none paying none) = absurd (no_hopper d.body taking paying)
still_comes d ms lines _ _ _ _ taking range (jams paying some) = absurd (no_hopper d.body taking paying)
still_comes d ms lines _ _ _ _ taking range (jams_none paying none) = absurd (no_hopper d.body taking paying)
still_comes d ms lines _ _ _ _ taking range is_reset = record { more = omega arith; behind = λ same. absurd (omega (arith, same)) }

still_seen : (d : DeviceSetup) (past : List Entry) (e : Entry) → IsTaker d.body → Seen d past e →
    Still (moment_of d past) (moment_of d (e ∷ past))
still_seen d past _ taking (here s e m ls range at meets_are own_are) =
    subst (λ v. Still (moment_of d past) v)
    (sym (ap₂ (λ ms ls. moment_by d.body (ms ++ met d past) (ls ++ lines_of d past)) meets_are own_are))
    (still_comes d (met d past) (lines_of d past) s e m ls taking range at)
still_seen d past _ taking (elsewhere e meets_are own_are) =
    subst (λ v. Still (moment_of d past) v)
    (sym (ap₂ (λ ms ls. moment_by d.body (ms ++ met d past) (ls ++ lines_of d past)) meets_are own_are))
    (still_refl (moment_of d past) some_mask)

-- ---- what it hears

-- the bill that is held has a place
abbrev IsPlaced : Option ℕ → Type 0
IsPlaced held = (place : ℕ) → held ≡ Some place → 1 ≤ place

stacked_coins : (place : ℕ) (ls : List Line) → 1 ≤ place →
    coins (stacked_line (Some place) ++ ls) ≡ coins_among (record { a = place; b = 0 } ∷ []) ++ coins ls
stacked_coins place ls low =
    let some : (place == 0) ≡ false = grind (arith, nat_tests) in
    rw some refl

still_unrouted : (stacks : Bool) (es : List Pair) (ls : List Line) (n r : ℕ) →
    Still (made_moment es ls n r) (made_moment es (stacked_line (cond stacks None None) ++ ls) n r)
still_unrouted true es ls n r = still_made es ls n r
still_unrouted false es ls n r = still_made es ls n r

still_sent : (stacks returns : Bool) (place : ℕ) (es : List Pair) (ls : List Line) (n r : ℕ) → 1 ≤ place →
    Still (made_moment (map settled es) ls n r)
    (made_moment
    (map settled (cond stacks (record { a = place; b = 0 } ∷ es) (cond returns (record { a = 0; b = 1 } ∷ es) es)))
    (stacked_line (cond stacks (Some place) None) ++ ls) (cond (stacks || returns) (suc n) n) r)
still_sent true returns place es ls n r low =
    still_more (map settled es) ls (stacked_line (Some place) ++ ls) n r (record { a = place; b = 0 })
    (stacked_coins place ls low)
still_sent false true place es ls n r low = still_more (map settled es) ls ls n r (record { a = 0; b = 1 }) refl
still_sent false false place es ls n r low = still_made (map settled es) ls n r

still_routed : (counted : ℕ) (values : List ℕ) (ids : List (List ℕ)) (way : ℕ) (ms : List Met) (ls : List Line)
    (held : Option ℕ) → IsPlaced held →
    Still (moment_by (Bill counted values ids) ms ls)
    (made_moment (map settled (routed way held (bill_events ms)))
    (stacked_line (stacked_by (Some (RouteBill way)) held) ++ ls) (with_routed (Some (RouteBill way)) held (bill_pieces ms))
    (resets ms))
still_routed counted values ids way ms ls None placed =
    still_unrouted (way == STACK_CODE) (map settled (bill_events ms)) ls (bill_pieces ms) (resets ms)
still_routed counted values ids way ms ls (Some place) placed =
    still_sent (way == STACK_CODE) (way == RETURN_CODE) place (bill_events ms) ls (bill_pieces ms) (resets ms)
    (placed place refl)

coins_hear : (counted : ℕ) (values : List ℕ) (ids : List (List ℕ)) (ms : List Met) (ls : List Line) (q : Option Request) →
    Still (moment_by (Acceptor counted values ids) ms ls) (moment_by (Acceptor counted values ids) (heard q ∷ ms) ls)
coins_hear counted values ids ms ls None = still_refl (moment_by (Acceptor counted values ids) ms ls) some_mask
coins_hear counted values ids ms ls (Some ResetDevice) =
    record { more = omega arith; behind = λ same. absurd (omega (arith, same)) }
coins_hear counted values ids ms ls (Some q) = still_refl (moment_by (Acceptor counted values ids) ms ls) some_mask

bills_hear : (counted : ℕ) (values : List ℕ) (ids : List (List ℕ)) (serial : ℕ) (ms : List Met) (ls : List Line)
    (q : Option Request) → IsPlaced (bill_held ms) →
    Still (moment_by (Bill counted values ids) ms ls)
    (moment_by (Bill counted values ids) (heard q ∷ ms) (doses (Bill counted values ids) serial ms q ++ ls))
bills_hear counted values ids serial ms ls None placed = still_refl (moment_by (Bill counted values ids) ms ls) some_mask
bills_hear counted values ids serial ms ls (Some ResetDevice) placed =
    record { more = omega arith; behind = λ same. absurd (omega (arith, same)) }
bills_hear counted values ids serial ms ls (Some (RouteBill way)) placed =
    still_routed counted values ids way ms ls (bill_held ms) placed
bills_hear counted values ids serial ms ls (Some q) placed =
    still_refl (moment_by (Bill counted values ids) ms ls) some_mask

still_hears : (body : DeviceBody) (serial : ℕ) (ms : List Met) (ls : List Line) (q : Option Request) → IsTaker body →
    IsPlaced (bill_held ms) →
    Still (moment_by body ms ls) (moment_by body (heard q ∷ ms) (doses body serial ms q ++ ls))
still_hears (Acceptor counted values ids) serial ms ls q taking placed = coins_hear counted values ids ms ls q
still_hears (Hopper life value) serial ms ls q taking placed = absurd taking
still_hears (Bill counted values ids) serial ms ls q taking placed = bills_hear counted values ids serial ms ls q placed

-- lines that show no piece
with_line : (body : DeviceBody) (ms : List Met) (lines : List Line) (x : Line) (b : Bool) → coins (x ∷ lines) ≡ coins lines →
    pieces (x ∷ lines) ≡ pieces lines → moment_by body ms (cond b (x ∷ []) [] ++ lines) ≡ moment_by body ms lines
with_line body ms lines x false no_coin no_piece = refl
with_line (Acceptor counted values ids) ms lines x true no_coin no_piece =
    ap₂ (λ cs n. record { world = record { mask = 1; events = events ms; coins = cs; came = n }; resets = resets ms })
    no_coin no_piece
with_line (Hopper life value) ms lines x true no_coin no_piece =
    ap (λ cs. record { world = record { mask = 1; events = []; coins = cs; came = 0 }; resets = resets ms }) no_coin
with_line (Bill counted values ids) ms lines x true no_coin no_piece =
    ap (λ cs. record {
      world = record { mask = 1; events = map settled (bill_events ms); coins = cs; came = bill_pieces ms };
      resets = resets ms;
    }) no_coin

still_wire : (d : DeviceSetup) (past : List Entry) (addr : ℕ) (sent piece : List ℕ) → IsTaker d.body →
    IsPlaced (bill_held (met d past)) →
    Still (moment_of d past) (moment_of d (entry.Wire addr sent piece ∷ past))
still_wire d past addr sent piece taking placed =
    let q = asks_of d (heard_by_devices (pending past) sent) in
    let x = line.exchange (asked d.kind sent) (got_by d sent piece) in
    let dosed = doses_of d past sent in
    subst (λ v. Still (moment_of d past) v)
    (sym (ap (moment_by d.body (heard q ∷ met d past))
    (append_assoc (cond (addr == d.addr) (x ∷ []) []) dosed (lines_of d past))
    ∙ with_line d.body (heard q ∷ met d past) (dosed ++ lines_of d past) x (addr == d.addr) refl refl))
    (still_hears d.body d.serial (met d past) (lines_of d past) q taking placed)

-- a bill that is held was put in with a place
placed_with : (place : ℕ) (lets : Bool) (before : Option ℕ) → 1 ≤ place → IsPlaced before →
    IsPlaced (held_with place lets before)
placed_with place true None low placed = λ other is. let same : place ≡ other = cc in omega (arith, low, same)
placed_with place true (Some other) low placed = placed
placed_with place false None low placed = placed
placed_with place false (Some other) low placed = placed

none_placed : IsPlaced None
none_placed = λ place is. absurd cc

placed_comes : (d : DeviceSetup) (ms : List Met) (s : Step) (e : Entry) (m : Met) (ls : List Line) → IsInRange s →
    Comes d ms s e m ls → IsPlaced (bill_held ms) → IsPlaced (bill_held (m ∷ ms))
placed_comes d ms _ _ _ _ range (takes_coin place accepting lets) placed =
    placed_with place (accepts ms place) (bill_held ms) range.0 placed
placed_comes d ms _ _ _ _ range (leaves_coin place accepting out) placed =
    placed_with place (accepts ms place) (bill_held ms) range.0 placed
placed_comes d ms _ _ _ _ range (takes_bill place banking kept) placed =
    placed_with place (accepts ms place) (bill_held ms) range.0 placed
placed_comes d ms _ _ _ _ range (leaves_bill place banking back) placed =
    placed_with place (accepts ms place) (bill_held ms) range.0 placed
placed_comes d ms _ _ _ _ range (leaves_alien accepting) placed = placed
placed_comes d ms _ _ _ _ range (drops_coin paying some) placed = placed
placed_comes d ms _ _ _ _ range (drops_none paying none) placed = placed
placed_comes d ms _ _ _ _ range (jams paying some) placed = placed
placed_comes d ms _ _ _ _ range (jams_none paying none) placed = placed
placed_comes d ms _ _ _ _ range is_reset placed = none_placed

placed_seen : (d : DeviceSetup) (past : List Entry) (e : Entry) → Seen d past e → IsPlaced (bill_held (met d past)) →
    IsPlaced (bill_held (met d (e ∷ past)))
placed_seen d past _ (here s e m ls range at meets_are own_are) placed =
    subst (λ ms. IsPlaced (bill_held (ms ++ met d past))) (sym meets_are)
    (placed_comes d (met d past) s e m ls range at placed)
placed_seen d past _ (elsewhere e meets_are own_are) placed =
    subst (λ ms. IsPlaced (bill_held (ms ++ met d past))) (sym meets_are) placed

placed_by : (sends_it : Bool) (before : Option ℕ) → IsPlaced before → IsPlaced (cond sends_it None before)
placed_by true before placed = none_placed
placed_by false before placed = placed

placed_heard : (q : Option Request) (before : Option ℕ) → IsPlaced before → IsPlaced (held_after q before)
placed_heard None before placed = placed
placed_heard (Some (RouteBill way)) before placed = placed_by (is_way way) before placed
placed_heard (Some ResetDevice) before placed = none_placed
placed_heard (Some q) before placed = placed

placed_on : (setup : Setup) (d : DeviceSetup) (past : List Entry) (e : Entry) → IsOf setup d → Wild setup past e →
    IsPlaced (bill_held (met d past)) → IsPlaced (bill_held (met d (e ∷ past)))
placed_on setup d past _ own (comes other s e m ls own_other range at) placed =
    placed_seen d past e (comes_to setup d other past s e m ls own own_other range at) placed
placed_on setup d past _ own (faults f) placed = placed
placed_on setup d past _ own (takes c) placed = placed
placed_on setup d past _ own (sends addr sent) placed =
    placed_heard (asks_of d (heard_by_devices (pending past) sent)) (bill_held (met d past)) placed

all_placed : (setup : Setup) (d : DeviceSetup) (past : List Entry) → IsOf setup d → AllWild setup past →
    IsPlaced (bill_held (met d past))
all_placed setup d [] own all = none_placed
all_placed setup d (e ∷ past) own all = placed_on setup d past e own all.0 (all_placed setup d past own all.1)

-- ---- what a tap shows

-- of an acceptor of coins
own_events : (body : DeviceBody) (ms : List Met) → IsAcceptor body → events ms ≡ events_of body ms
own_events (Acceptor counted values ids) ms accepting = refl
own_events (Hopper life value) ms accepting = absurd accepting
own_events (Bill counted values ids) ms accepting = absurd accepting

read_so : (q : Option Request) (s : Shown) → (P : Shown → Type 0) → P Nothing → P s → P (but_masks q s)
read_so None s P nothing is = is
read_so (Some (SetMask mask)) s P nothing is = nothing
read_so (Some q) s P nothing is = is

tells_is : (d : DeviceSetup) (past : List Entry) (sent piece : List ℕ) (s : Shown) → IsAcceptor d.body →
    Told d past sent piece → shown d.kind d.addr (tap_of sent piece) ≡ s → Tells s (moment_of d past)
tells_is d past sent piece (Read c) accepting is shows =
    is.read c shows ∙ ap credits_in (own_events d.body (met d past) accepting)
tells_is d past sent piece (Masked mask) accepting is shows = tt
tells_is d past sent piece Set accepting is shows = tt
tells_is d past sent piece Nothing accepting is shows = tt

-- of a bill acceptor
mask_tells : (m : Moment) (y : Option Reply) → Tells (mask_in y) m
mask_tells m None = tt
mask_tells m (Some (reply.mask mask)) = tt
mask_tells m (Some y) = tt

pub taker_is : (money : Money) (body : DeviceBody) → Takes money body → IsTaker body
taker_is Coins (Acceptor counted values ids) is = tt
taker_is Coins (Hopper life value) is = absurd is
taker_is Coins (Bill counted values ids) is = absurd is
taker_is Bills (Acceptor counted values ids) is = absurd is
taker_is Bills (Hopper life value) is = absurd is
taker_is Bills (Bill counted values ids) is = tt

bill_credits_are : (d : DeviceSetup) (ms : List Met) (c : Credits) → IsBill d.body → c ≡ bills_of ms →
    settled_events c ≡ credits_in (events_of d.body ms)
bill_credits_are d ms c banking is =
    let known = reading_tells d ms ReadBills (reply.credits (bills_of ms)) (taker_is Bills d.body banking) tt
    (bills_replied d ms banking) in
    ap settled_events (is ∙ same_credits (bills_of ms) known.0 known.1) ∙ known.2

bills_tell : (m : Moment) (q : Option Request) (replied : ReplyForm → Option Reply) →
    ((c : Credits) → q ≡ Some ReadBills → replied form.Credits ≡ Some (reply.credits c) →
    settled_events c ≡ credits_in m.world.events) → Tells (bills_by q replied) m
bills_tell m None replied so = tt
bills_tell m (Some ReadBills) replied so = by_reply (replied form.Credits) refl
  where
    by_reply : (y : Option Reply) → replied form.Credits ≡ y → Tells (settled_in (read_in y)) m
    by_reply None is = tt
    by_reply (Some (reply.credits c)) is = so c refl is
    by_reply (Some y) is = tt
bills_tell m (Some GetMask) replied so = mask_tells m (replied form.Mask)
bills_tell m (Some ResetDevice) replied so = tt
bills_tell m (Some q) replied so = tt

tells_quiet : (money : Money) (setup : Setup) (d : DeviceSetup) (past : List Entry) (sent : List ℕ) → IsSoundSetup setup →
    IsOf setup d → Takes money d.body → IsHonestFault (pending past) sent →
    Tells (quiet_shown money d.kind d.addr (tap_of sent (heard_after setup past sent))) (moment_of d past)
tells_quiet Coins setup d past sent sound own accepting honest =
    let tap = tap_of sent (heard_after setup past sent) in
    read_so (asks_at d.kind d.addr sent) (shown d.kind d.addr tap) (λ s. Tells s (moment_of d past)) tt
    (tells_is d past sent (heard_after setup past sent) (shown d.kind d.addr tap) accepting
    (told setup d past sent sound own accepting honest) refl)
tells_quiet Bills setup d past sent sound own banking honest =
    bills_tell (moment_of d past) (asks_at d.kind d.addr sent)
    (λ wanted. got d.kind d.addr wanted sent (heard_after setup past sent))
    (λ c asks found. bill_credits_are d (met d past) c banking
    (bills_told setup d past sent c sound own banking honest asks found))

-- ---- all taps
abbrev PassesAt : Money → DeviceSetup → Moment → (ℕ → List Entry) → List Tap → Type 0
PassesAt money d now moments ts = Passes (λ n. moment_of d (moments n)) (map (quiet_shown money d.kind d.addr) ts) now

module _ (money : Money) (setup : Setup) (d : DeviceSetup) (sound : IsSoundSetup setup) (own_one : IsOf setup d)
    (takes_it : Takes money d.body) (taking : IsTaker d.body) where
  wire_passes : (past : List Entry) (addr : ℕ) (sent piece : List ℕ) → IsPlaced (bill_held (met d past)) →
      Tells (quiet_shown money d.kind d.addr (tap_of sent piece)) (moment_of d past) →
      Passes (λ n. moment_of d (before_tap n past)) (quiet_looks money d past) (moment_of d past) →
      Passes (λ n. moment_of d (before_tap n (entry.Wire addr sent piece ∷ past)))
      (quiet_looks money d (entry.Wire addr sent piece ∷ past)) (moment_of d (entry.Wire addr sent piece ∷ past))
  wire_passes past addr sent piece placed tells passes =
      let moments : ℕ → Moment = λ n. moment_of d (before_tap n (entry.Wire addr sent piece ∷ past)) in
      let last : moments (suc (length (quiet_looks money d past))) ≡ moment_of d past =
      ap (moment_of d) (at_last (suc (length (quiet_looks money d past))) past
      (before_tap (suc (length (quiet_looks money d past))) past)
      (ap suc (length-map (taps past) (quiet_shown money d.kind d.addr)))) in
      let earlier : Passes moments (quiet_looks money d past) (moment_of d past) =
      passes_same (λ n. moment_of d (before_tap n past)) moments (quiet_looks money d past) (moment_of d past)
      (λ n most. ap (moment_of d) (at_earlier n past (before_tap n past)
      (omega (arith, most, length-map (taps past) (quiet_shown money d.kind d.addr))))) passes in (
        subst (Tells (quiet_shown money d.kind d.addr (tap_of sent piece))) (sym last) tells,
        subst (λ w. Still w (moment_of d (entry.Wire addr sent piece ∷ past))) (sym last)
            (still_wire d past addr sent piece taking placed),
        subst (Passes moments (quiet_looks money d past)) (sym last) earlier,
      )

  -- each entry
  one_passes : (past : List Entry) (e : Entry) → Wild setup past e → HonestPast (e ∷ past) → IsPlaced (bill_held (met d past)) →
      Passes (λ n. moment_of d (before_tap n past)) (quiet_looks money d past) (moment_of d past) →
      Passes (λ n. moment_of d (before_tap n (e ∷ past))) (quiet_looks money d (e ∷ past)) (moment_of d (e ∷ past))
  one_passes past _ (comes other s e m ls own_other range at) honest placed passes =
      no_tap other (met other past) s e m ls past (PassesAt money d (moment_of d (e ∷ past))) at
      (passes_later (λ n. moment_of d (before_tap n past)) (quiet_looks money d past) (moment_of d past)
      (moment_of d (e ∷ past))
      (still_seen d past e taking (comes_to setup d other past s e m ls own_one own_other range at)) passes)
  one_passes past _ (faults f) honest placed passes = passes
  one_passes past _ (takes c) honest placed passes =
      subst (Passes (λ n. moment_of d (before_tap n past)) (quiet_looks money d past))
      (sym (with_line d.body (met d past) (lines_of d past) (line.taken c) (address_of c == d.addr) refl refl)) passes
  one_passes past _ (sends addr sent) honest placed passes =
      wire_passes past addr sent (heard_after setup past sent) placed
      (tells_quiet money setup d past sent sound own_one takes_it honest.0) passes

  all_passes : (past : List Entry) → AllWild setup past → HonestPast past →
      Passes (λ n. moment_of d (before_tap n past)) (quiet_looks money d past) (moment_of d past)
  all_passes [] all honest = tt
  all_passes (e ∷ past) all honest =
      one_passes past e all.0 honest (all_placed setup d past own_one all.1) (all_passes past all.1 honest.1)

pub quiet_runs : (money : Money) (setup : Setup) (steps : List WildStep) (past : List Entry) (d : DeviceSetup) →
    IsSoundSetup setup → IsOf setup d → Takes money d.body → WildFrom setup [] steps past → HonestPast past →
    Passes (λ n. moment_of d (before_tap n past)) (quiet_looks money d past) (moment_of d past)
quiet_runs money setup steps past d sound own_one is goes honest =
    all_passes money setup d sound own_one is (taker_is money d.body is) past (wild_all setup steps [] past goes tt) honest
