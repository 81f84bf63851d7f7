-- What a device that takes money replies to each request that a job sends it.
use Rattle.std.proofs.Common.{◌≡◌, ℕ, zero, suc, ◌+◌, ◌-◌, ◌<◌, ◌≤◌, ◌==◌, cond, true, false, Bool, List, [], ◌∷◌, ◌++◌, length, drop, refl, ap, sym, ◌∙◌, subst, slice_get, unwrap_or, Some, inl, inr, All, arith, length-append, length-take}
use Rattle.std.specs.Prelude.{◌&&◌, is_some}
use Rattle.std.proofs.lemmas.List.Elements.{All-head, All-tail}
use Rattle.std.proofs.lemmas.Bool.Decides.{nat_tests}
use Rattle.cct_model.specs.terms.coin.Pair.{Pair}
use Rattle.cct_model.specs.terms.device.DeviceSetup.{DeviceSetup}
use Rattle.cct_model.specs.terms.device.DeviceBody.{DeviceBody}
use Rattle.cct_model.specs.terms.device.DeviceBody.TheVariants.{Acceptor, Bill, Hopper}
use Rattle.cct_model.specs.terms.request.Request.{Request}
use Rattle.cct_model.specs.terms.request.Request.TheVariants.{SetMask, GetMask, SetMaster, GetMaster, SetPath, GetPath, SetDefault, GetDefault, CoinId, AcceptCount, RouteBill}
use Rattle.cct_model.specs.terms.request.ReplyForm.TheVariants as form
use Rattle.cct_model.specs.lines.command.Command.TheVariants as command
use Rattle.cct_model.specs.Request.{form_of}
use Rattle.cct_model.specs.Reply as reply
use Rattle.cct_model.specs.History.{Met}
use Rattle.cct_model.specs.Setting.{is_place, is_path, default_in}
use Rattle.cct_model.specs.Acceptor.{counted, settings, no_event, last_five, credits_in, mask_of, path_of, master_of, id_at, acceptor_reply}
use Rattle.cct_model.specs.Bill.{bill_held, bill_reply, is_way}
use Rattle.cct_model.specs.Device.{IsSound, IsSoundBody, IsId, IsAcceptor, IsBill, IsTaker, common_reply, reply_of}
use Rattle.cct_model.specs.Exchange.{to_one}
use Rattle.cct_model.specs.Job.{credits_request, own_requests}
use Rattle.cct_model.specs.Script.{IsCommand}
use Rattle.cct_laws.specs.Takers.{accepted_of, told_events}
use Rattle.cct_msg.specs.Forms.{FitsItsBytes}
use Rattle.cct_laws.proofs.wire.Exchanges.{Answers, Replied}
use Rattle.cct_laws.proofs.wire.Replies.{start_of, ids_of, acceptor_is, bill_is, taker_is, replied_accepts, replied_credits, replied_mask}
use Rattle.cct_laws.proofs.wire.CommonReplies.{answers_so, also}
use Rattle.cct_model.proofs.Requests.{Each}

-- a sound device that takes money
pub record Sane (d : DeviceSetup) : Type 0 where
  pub sound : IsSound d
  pub taking : IsTaker d.body

master_replied : (d : DeviceSetup) (past : List Met) → Sane d → Replied d past GetMaster
unfolding reply_of common_reply form_of acceptor_reply bill_reply
master_replied d past sane =
    answers_so d past GetMaster (reply.master (master_of past)) form.Master
    (taker_is d.serial d.body past GetMaster (Some (reply.master (master_of past))) sane.taking refl refl)
    refl refl tt tt (λ serial count e. cc) refl

default_replied : (d : DeviceSetup) (past : List Met) → IsAcceptor d.body → Replied d past GetDefault
unfolding reply_of common_reply form_of acceptor_reply
default_replied d past accepting =
    answers_so d past GetDefault (reply.path (default_in (settings past))) form.Path
    (acceptor_is d.serial d.body past GetDefault accepting) refl refl tt tt (λ serial count e. cc) refl

length-last_five : (newest : List Pair) → length (last_five newest) ≡ 5
length-last_five newest =
    let blank : List Pair = no_event ∷ no_event ∷ no_event ∷ no_event ∷ no_event ∷ [] in
    length-take 5 (newest ++ blank) ∙ omega (arith, length-append newest blank)

-- the request for the last events wants them, and is for one device
record AsksCredits (q : Request) : Type 0 where
  wants : form_of q ≡ Some form.Credits
  fits : FitsItsBytes q
  to_one_device : to_one (Some q) ≡ Some q

credits_asked : (body : DeviceBody) → AsksCredits (credits_request body)
unfolding form_of
credits_asked (Acceptor accepts values ids) =
    record { wants = refl; fits = λ serial count e. cc; to_one_device = refl }
credits_asked (Hopper life value) = record { wants = refl; fits = λ serial count e. cc; to_one_device = refl }
credits_asked (Bill accepts values ids) = record { wants = refl; fits = λ serial count e. cc; to_one_device = refl }

pub credits_replied : (d : DeviceSetup) (past : List Met) → Sane d → Replied d past (credits_request d.body)
credits_replied d past sane =
    let asks = credits_asked d.body in
    answers_so d past (credits_request d.body) (reply.credits (credits_in (told_events d.body past))) form.Credits
    (replied_credits d past sane.taking) asks.wants refl (length-last_five (told_events d.body past)) tt asks.fits
    asks.to_one_device

pub set_mask_replied : (d : DeviceSetup) (past : List Met) (mask : ℕ) → Sane d → Replied d past (SetMask mask)
unfolding reply_of common_reply form_of acceptor_reply bill_reply
set_mask_replied d past mask sane =
    answers_so d past (SetMask mask) reply.ack form.Ack
    (taker_is d.serial d.body past (SetMask mask) (Some reply.ack) sane.taking refl refl)
    refl refl tt tt
    (λ serial count e. cc) refl

pub mask_replied : (d : DeviceSetup) (past : List Met) → Sane d → Replied d past GetMask
unfolding form_of
mask_replied d past sane =
    answers_so d past GetMask (reply.mask (mask_of past)) form.Mask
    (replied_mask d past sane.taking) refl refl tt tt (λ serial count e. cc) refl

pub set_master_replied : (d : DeviceSetup) (past : List Met) (value : ℕ) → Sane d → Replied d past (SetMaster value)
unfolding reply_of common_reply form_of acceptor_reply bill_reply
set_master_replied d past value sane =
    answers_so d past (SetMaster value) reply.ack form.Ack
    (taker_is d.serial d.body past (SetMaster value) (Some reply.ack) sane.taking refl refl)
    refl refl
    tt tt (λ serial count e. cc) refl

pub accepts_replied : (d : DeviceSetup) (past : List Met) → Sane d → Replied d past AcceptCount
unfolding form_of
accepts_replied d past sane =
    answers_so d past AcceptCount (reply.accepts (counted (start_of d.body) (accepted_of d.body past))) form.Accepts
    (replied_accepts d past sane.taking) refl refl tt (omega arith) (λ serial count e. cc) refl

place_is : (place : ℕ) → 1 ≤ place → place ≤ 16 → is_place place ≡ true
place_is place low high = grind (arith, nat_tests)

path_is : (path : ℕ) → 1 ≤ path → path ≤ 8 → is_path path ≡ true
path_is path low high = grind (arith, nat_tests)

id_long : (ids : List (List ℕ)) (i : ℕ) → All IsId ids → i < length ids → length (unwrap_or (slice_get ids i) []) ≡ 6
id_long [] i all within = absurd (omega arith)
id_long (id ∷ ids) zero all within = (All-head IsId id ids all).0
id_long (id ∷ ids) (suc i) all within = id_long ids i (All-tail IsId id ids all) (omega arith)

six_at : (body : DeviceBody) (place : ℕ) → IsAcceptor body → IsSoundBody body → 1 ≤ place → place ≤ 16 →
    length (id_at (ids_of body) place) ≡ 6
six_at (Acceptor accepts values ids) place accepting sound low high =
    let whole : length ids ≡ 16 = sound.4 in
    id_long ids (place - 1) sound.2 (omega (arith, whole))
six_at (Hopper life value) place accepting sound low high = absurd accepting
six_at (Bill accepts values ids) place accepting sound low high = absurd accepting

coin_id_replied : (d : DeviceSetup) (past : List Met) (place : ℕ) → Sane d → IsAcceptor d.body → 1 ≤ place →
    place ≤ 16 → Replied d past (CoinId place)
unfolding reply_of common_reply form_of acceptor_reply
coin_id_replied d past place sane accepting low high =
    let there : is_place place ≡ true = place_is place low high in
    answers_so d past (CoinId place) (reply.coin_id (id_at (ids_of d.body) place)) form.CoinId
    (acceptor_is d.serial d.body past (CoinId place) accepting ∙ rw there refl) refl refl
    (six_at d.body place accepting sane.sound.body low high) tt (λ serial count e. cc) refl

-- the sorter paths
set_path_replied : (d : DeviceSetup) (past : List Met) (place path : ℕ) → IsAcceptor d.body → is_place place ≡ true →
    is_path path ≡ true → Replied d past (SetPath place path)
unfolding reply_of common_reply form_of acceptor_reply
set_path_replied d past place path accepting there known =
    answers_so d past (SetPath place path) reply.ack form.Ack
    (acceptor_is d.serial d.body past (SetPath place path) accepting ∙ rw (there, known) refl) refl refl tt tt
    (λ serial count e. cc) refl

set_default_replied : (d : DeviceSetup) (past : List Met) (path : ℕ) → IsAcceptor d.body → is_path path ≡ true →
    Replied d past (SetDefault path)
unfolding reply_of common_reply form_of acceptor_reply
set_default_replied d past path accepting known =
    answers_so d past (SetDefault path) reply.ack form.Ack
    (acceptor_is d.serial d.body past (SetDefault path) accepting ∙ rw known refl) refl refl tt tt
    (λ serial count e. cc) refl

path_replied : (d : DeviceSetup) (past : List Met) (place : ℕ) → IsAcceptor d.body → is_place place ≡ true →
    Replied d past (GetPath place)
unfolding reply_of common_reply form_of acceptor_reply
path_replied d past place accepting there =
    answers_so d past (GetPath place) (reply.path (path_of past place)) form.Path
    (acceptor_is d.serial d.body past (GetPath place) accepting
    ∙ rw there refl) refl refl tt tt (λ serial count e. cc)
    refl

-- all that a device that takes money is asked of itself
coin_ids : (n place : ℕ) → List Request
coin_ids zero place = []
coin_ids (suc n) place = CoinId place ∷ coin_ids n (suc place)

ids_replied : (d : DeviceSetup) (past : List Met) (n place : ℕ) → Sane d → IsAcceptor d.body → 1 ≤ place → n + place ≤ 17 →
    Each (Replied d past) (coin_ids n place)
unfolding coin_ids
ids_replied d past zero place sane accepting low high = tt
ids_replied d past (suc n) place sane accepting low high = (
  coin_id_replied d past place sane accepting low (omega (arith, high)),
  ids_replied d past n (suc place) sane accepting
      (omega (arith, low)) (omega (arith, high)),
)

pub owns_by : (d : DeviceSetup) (past : List Met) (body : DeviceBody) → body ≡ d.body → Sane d →
    Each (Replied d past) (own_requests body)
unfolding coin_ids
owns_by d past (Hopper life value) is sane = absurd (subst IsTaker (sym is) sane.taking)
owns_by d past (Bill accepts values ids) is sane =
    also d past GetMaster (AcceptCount ∷ []) (master_replied d past sane)
    (also d past AcceptCount [] (accepts_replied d past sane) tt)
owns_by d past (Acceptor accepts values ids) is sane =
    let accepting : IsAcceptor d.body = subst IsAcceptor is tt in
    let qs = own_requests (Acceptor accepts values ids) in
    also d past GetMaster (drop 1 qs) (master_replied d past sane)
    (also d past GetDefault (drop 2 qs) (default_replied d past accepting)
    (also d past AcceptCount (drop 3 qs) (accepts_replied d past sane)
    (ids_replied d past 16 1 sane accepting (omega arith) (omega arith))))

-- a sorter path that is set and read back
pub set_by : (d : DeviceSetup) (past : List Met) (place path : ℕ) (b : Bool) → (place == 0) ≡ b → IsAcceptor d.body →
    IsCommand (command.Path 0 place path) → Replied d past (cond b (SetDefault path) (SetPath place path))
set_by d past place path true test accepting known =
    set_default_replied d past path accepting (path_is path known.1 known.2)
set_by d past place path false test accepting known =
    set_path_replied d past place path accepting (place_is place (not_zero place test) known.0)
    (path_is path known.1 known.2)
  where
    not_zero : (n : ℕ) → (n == 0) ≡ false → 1 ≤ n
    not_zero n e = grind (arith, nat_tests)

pub read_by : (d : DeviceSetup) (past : List Met) (place : ℕ) (b : Bool) → (place == 0) ≡ b → IsAcceptor d.body →
    place ≤ 16 →
    Replied d past (cond b GetDefault (GetPath place))
read_by d past place true test accepting high = default_replied d past accepting
read_by d past place false test accepting high =
    path_replied d past place accepting (place_is place (not_zero place test) high)
  where
    not_zero : (n : ℕ) → (n == 0) ≡ false → 1 ≤ n
    not_zero n e = grind (arith, nat_tests)

-- a bill that is routed; it is refused where none is held
route_replied : (d : DeviceSetup) (past : List Met) (way : ℕ) → IsBill d.body →
    reply_of d past (RouteBill way) ≡ Some (cond (is_some (bill_held past) && is_way way) reply.ack reply.nak)
unfolding reply_of common_reply bill_reply
route_replied d past way banking = bill_is d.serial d.body past (RouteBill way) banking

pub route_by : (d : DeviceSetup) (past : List Met) (way : ℕ) (routes : Bool) → IsBill d.body →
    (is_some (bill_held past) && is_way way) ≡ routes → Answers d past (RouteBill way)
unfolding form_of
route_by d past way true banking test =
    inl (answers_so d past (RouteBill way) reply.ack form.Ack
    (route_replied d past way banking ∙ ap (λ b. Some (cond b reply.ack reply.nak)) test) refl refl tt tt
    (λ serial count e. cc) refl)
route_by d past way false banking test = inr (record {
  refuses = (banking, test);
  replied = route_replied d past way banking ∙ ap (λ b. Some (cond b reply.ack reply.nak)) test;
  fits = λ serial count e. cc;
  to_its_device = refl;
})
