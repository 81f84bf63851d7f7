-- A question changes nothing: a device replies, accepts, holds and pays the same, whether or not it was asked before.
use Rattle.std.proofs.Common.{◌≡◌, ℕ, suc, ◌+◌, ◌-◌, ◌%◌, ◌^◌, ◌==◌, ◌&&◌, ◌||◌, not, Bool, true, false, cond, List, [], ◌∷◌, ◌++◌, refl, sym, ap, ap₂, ◌∙◌, subst, Option, Some, None, true≢false}
use Rattle.std.specs.Prelude.{is_none, is_some, if◌then◌else◌}
use Rattle.std.specs.Option.{option_map, option_or}
use Rattle.cct_model.specs.terms.coin.Pair.{Pair}
use Rattle.cct_model.specs.terms.device.DeviceBody.{DeviceBody}
use Rattle.cct_model.specs.terms.device.DeviceBody.TheVariants.{Acceptor, Bill, Hopper}
use Rattle.cct_model.specs.terms.device.DeviceSetup.{DeviceSetup}
use Rattle.cct_model.specs.terms.request.Request.{Request}
use Rattle.cct_model.specs.terms.request.Request.TheVariants as request
use Rattle.cct_model.specs.Acceptor.{accept_count, accepts, acceptor_reply, counted, counter, credits_in, events, inhibit_reply, path_of, settings, settings_after}
use Rattle.cct_model.specs.Bill.{bill_events, bill_held, bill_reply, events_after, held_after, holds, is_way, stack_count, stacked_bills, stacked_by, held_with}
use Rattle.cct_model.specs.Device.{common_reply, own_reply, reply_of}
use Rattle.cct_model.specs.Exchange.{answer, answer_to, asker, asks_of, bare_answer, reply_bytes}
use Rattle.cct_model.specs.History.{Met, coin, alien, fall, jam, reset, heard, unless_reset}
use Rattle.cct_model.specs.Hopper.{Payout, dispense_reply, enabled, enabled_by, has_timeout, hopper_reply, is_broken, is_breaker, is_tested, jammed, jammed_in, last_paid, last_unpaid, left, left_of, paid, paid_of, payout, payout_by, payouts, payouts_by, register_of, remaining, status_of, stops, taken_count, taken_of, tested_by, unpaid, unpaid_of, with_met}
use Rattle.cct_model.specs.Reply.{Reply}
use Rattle.cct_model.specs.Reply as reply
use Rattle.cct_model.specs.Setting.{Setting, accepts_in, default_in, is_normal_in, is_place, mask_in, path_in}
use Rattle.cct_laws_live_devices.specs.Questions.{is_question}
use Rattle.cct_laws_live_devices.specs.Same.{Same, SamePayout, SameSince}

-- what a question leaves as it is
record Quiet (asked : Option Request) : Type 0 where
  sets : (before : List Setting) → settings_after asked before ≡ before
  keeps : (before : List Pair) → unless_reset asked [] before ≡ before
  keeps_last : (before : Option Payout) → unless_reset asked None before ≡ before
  keeps_many : (before : ℕ) → unless_reset asked 0 before ≡ before
  enables : (before : Bool) → enabled_by asked before ≡ before
  takes : (own : ℕ) (on : Bool) (remains : ℕ) → taken_count own on remains asked ≡ None
  stopping : stops asked ≡ false
  tests : (before : Bool) → tested_by asked before ≡ before
  holding : (before : Option ℕ) → held_after asked before ≡ before
  billing : (held : Option ℕ) (before : List Pair) → events_after asked held before ≡ before
  stacking : (held : Option ℕ) → stacked_by asked held ≡ None

quiet_by : (asked : Option Request) → is_question asked ≡ true → Quiet asked
quiet_by None is = record { sets = λ b. refl; keeps = λ b. refl; keeps_last = λ b. refl; keeps_many = λ b. refl; enables = λ b. refl; takes = λ o n r. refl; stopping = refl; tests = λ b. refl; holding = λ b. refl; billing = λ h b. refl; stacking = λ h. refl }
quiet_by (Some request.SimplePoll) is = record { sets = λ b. refl; keeps = λ b. refl; keeps_last = λ b. refl; keeps_many = λ b. refl; enables = λ b. refl; takes = λ o n r. refl; stopping = refl; tests = λ b. refl; holding = λ b. refl; billing = λ h b. refl; stacking = λ h. refl }
quiet_by (Some request.AddressPoll) is = record { sets = λ b. refl; keeps = λ b. refl; keeps_last = λ b. refl; keeps_many = λ b. refl; enables = λ b. refl; takes = λ o n r. refl; stopping = refl; tests = λ b. refl; holding = λ b. refl; billing = λ h b. refl; stacking = λ h. refl }
quiet_by (Some request.Category) is = record { sets = λ b. refl; keeps = λ b. refl; keeps_last = λ b. refl; keeps_many = λ b. refl; enables = λ b. refl; takes = λ o n r. refl; stopping = refl; tests = λ b. refl; holding = λ b. refl; billing = λ h b. refl; stacking = λ h. refl }
quiet_by (Some request.ProductCode) is = record { sets = λ b. refl; keeps = λ b. refl; keeps_last = λ b. refl; keeps_many = λ b. refl; enables = λ b. refl; takes = λ o n r. refl; stopping = refl; tests = λ b. refl; holding = λ b. refl; billing = λ h b. refl; stacking = λ h. refl }
quiet_by (Some request.SerialNumber) is = record { sets = λ b. refl; keeps = λ b. refl; keeps_last = λ b. refl; keeps_many = λ b. refl; enables = λ b. refl; takes = λ o n r. refl; stopping = refl; tests = λ b. refl; holding = λ b. refl; billing = λ h b. refl; stacking = λ h. refl }
quiet_by (Some (request.CoinId place)) is = record { sets = λ b. refl; keeps = λ b. refl; keeps_last = λ b. refl; keeps_many = λ b. refl; enables = λ b. refl; takes = λ o n r. refl; stopping = refl; tests = λ b. refl; holding = λ b. refl; billing = λ h b. refl; stacking = λ h. refl }
quiet_by (Some q) is = absurd (true≢false (sym is))

left_same : (count : ℕ) (one other : List Met) → SameSince one other → left_of count one ≡ left_of count other
left_same count one other same = ap₂ (λ b n. cond b 0 (count - n)) same.broken same.fallen

same_none : (since : List Met) → SameSince since since
same_none since = record { broken = refl; fallen = refl; paying = λ c. refl; owing = λ c. refl; jamming = λ c. refl }

owe_more : (m : Met) (one other : List Met) (count : ℕ) → SameSince one other →
    unpaid_of count (m ∷ one) ≡ unpaid_of count (m ∷ other)
owe_more m one other count same =
    ap₂ (λ l u. cond (is_breaker m && not (l == 0)) l u) (left_same count one other same) (same.owing count)

since_more : (m : Met) (one other : List Met) → SameSince one other → SameSince (m ∷ one) (m ∷ other)
since_more fall one other same = record {
  broken = same.broken;
  fallen = ap suc same.fallen;
  paying = λ count. ap₂ (λ l p. cond (l == 0) p (suc p)) (left_same count one other same) (same.paying count);
  owing = λ count. owe_more fall one other count same;
  jamming = same.jamming;
}
since_more jam one other same = record {
  broken = refl;
  fallen = same.fallen;
  paying = same.paying;
  owing = λ count. owe_more jam one other count same;
  jamming = λ count. ap₂ (λ l j. not (l == 0) || j) (left_same count one other same) (same.jamming count);
}
since_more (heard asked) one other same = record {
  broken = ap (λ b. stops asked || b) same.broken;
  fallen = same.fallen;
  paying = same.paying;
  owing = λ count. owe_more (heard asked) one other count same;
  jamming = same.jamming;
}
since_more (coin place) one other same = record {
  broken = same.broken;
  fallen = same.fallen;
  paying = same.paying;
  owing = λ count. owe_more (coin place) one other count same;
  jamming = same.jamming;
}
since_more alien one other same = record {
  broken = same.broken;
  fallen = same.fallen;
  paying = same.paying;
  owing = λ count. owe_more alien one other count same;
  jamming = same.jamming;
}
since_more reset one other same = record {
  broken = same.broken;
  fallen = same.fallen;
  paying = same.paying;
  owing = λ count. owe_more reset one other count same;
  jamming = same.jamming;
}

since_quiet : (asked : Option Request) (since other : List Met) → Quiet asked → SameSince since other →
    SameSince (heard asked ∷ since) other
since_quiet asked since other quiet same = record {
  broken = ap (λ b. b || is_broken since) quiet.stopping ∙ same.broken;
  fallen = same.fallen;
  paying = same.paying;
  owing = λ count.
      ap (λ b. cond (b && not (left_of count since == 0)) (left_of count since) (unpaid_of count since)) quiet.stopping
      ∙ same.owing count;
  jamming = same.jamming;
}

met_more : (m : Met) (one other : Option Payout) → SamePayout one other → SamePayout (with_met m one) (with_met m other)
met_more m None None same = tt
met_more m (Some one) (Some other) same = (same.0, since_more m one.since other.since same.1)
met_more m None (Some other) same = absurd same
met_more m (Some one) None same = absurd same

met_quiet : (asked : Option Request) (one other : Option Payout) → Quiet asked → SamePayout one other →
    SamePayout (with_met (heard asked) one) other
met_quiet asked None None quiet same = tt
met_quiet asked (Some one) (Some other) quiet same = (same.0, since_quiet asked one.since other.since quiet same.1)
met_quiet asked None (Some other) quiet same = absurd same
met_quiet asked (Some one) None quiet same = absurd same

payout_more : (asked : Option Request) (took : Option ℕ) (one other : Option Payout) → SamePayout one other →
    SamePayout (payout_by took asked one) (payout_by took asked other)
payout_more asked (Some count) one other same = (refl, same_none [])
payout_more None None one other same = met_more (heard None) one other same
payout_more (Some request.ResetDevice) None one other same = tt
payout_more (Some q) None one other same = met_more (heard (Some q)) one other same

left_is : (one other : Option Payout) → SamePayout one other → left one ≡ left other
left_is None None same = refl
left_is (Some one) (Some other) same =
    ap (λ c. left_of c one.since) same.0 ∙ left_same other.count one.since other.since same.1
left_is None (Some other) same = absurd same
left_is (Some one) None same = absurd same

paid_is : (one other : Option Payout) → SamePayout one other → paid one ≡ paid other
paid_is None None same = refl
paid_is (Some one) (Some other) same = ap (λ c. paid_of c one.since) same.0 ∙ same.1.paying other.count
paid_is None (Some other) same = absurd same
paid_is (Some one) None same = absurd same

unpaid_is : (one other : Option Payout) → SamePayout one other → unpaid one ≡ unpaid other
unpaid_is None None same = refl
unpaid_is (Some one) (Some other) same = ap (λ c. unpaid_of c one.since) same.0 ∙ same.1.owing other.count
unpaid_is None (Some other) same = absurd same
unpaid_is (Some one) None same = absurd same

jammed_is : (one other : Option Payout) → SamePayout one other → jammed one ≡ jammed other
jammed_is None None same = refl
jammed_is (Some one) (Some other) same = ap (λ c. jammed_in c one.since) same.0 ∙ same.1.jamming other.count
jammed_is None (Some other) same = absurd same
jammed_is (Some one) None same = absurd same

pub remains_same : (own : ℕ) (one other : List Met) → Same one other → remaining own one ≡ remaining own other
remains_same own one other same = left_is (payout own one) (payout own other) (same.pays own)

pub taken_same : (own : ℕ) (asked : Option Request) (one other : List Met) → Same one other →
    taken_of own one asked ≡ taken_of own other asked
taken_same own asked one other same = ap₂ (λ on r. taken_count own on r asked) same.on (remains_same own one other same)

pub accepts_same : (one other : List Met) (place : ℕ) → Same one other → accepts one place ≡ accepts other place
accepts_same one other place same = ap (λ s. accepts_in s place) same.set

path_same : (one other : List Met) (place : ℕ) → Same one other → path_of one place ≡ path_of other place
path_same one other place same = ap (λ s. path_in s place) same.set

pub holds_same : (one other : List Met) (place : ℕ) → Same one other → holds one place ≡ holds other place
holds_same one other place same = ap₂ (λ a h. a && is_none h) (accepts_same one other place same) same.holding

pub same_met : (m : Met) (one other : List Met) → Same one other → Same (m ∷ one) (m ∷ other)
same_met (coin place) one other same = record {
  set = same.set;
  happened =
      ap₂ (λ s es. (if accepts_in s place then record { a = place; b = path_in s place } else record { a = 0; b = 2 }) ∷ es)
      same.set same.happened;
  took = ap₂ (λ a n. if a then suc n else n) (accepts_same one other place same) same.took;
  on = same.on;
  pays = λ own. met_more (coin place) (payout own one) (payout own other) (same.pays own);
  times = same.times;
  tested = same.tested;
  dropping = same.dropping;
  holding = ap₂ (held_with place) (accepts_same one other place same) same.holding;
  billed =
      ap₂ (λ h es. (if h then record { a = place; b = 1 } else record { a = 0; b = 2 }) ∷ es)
      (holds_same one other place same) same.billed;
  stacks = same.stacks;
}
same_met alien one other same = record {
  set = same.set;
  happened = ap (λ es. record { a = 0; b = 1 } ∷ es) same.happened;
  took = same.took;
  on = same.on;
  pays = λ own. met_more alien (payout own one) (payout own other) (same.pays own);
  times = same.times;
  tested = same.tested;
  dropping = same.dropping;
  holding = same.holding;
  billed = same.billed;
  stacks = same.stacks;
}
same_met fall one other same = record {
  set = same.set;
  happened = same.happened;
  took = same.took;
  on = same.on;
  pays = λ own. met_more fall (payout own one) (payout own other) (same.pays own);
  times = same.times;
  tested = same.tested;
  dropping = λ own. ap₂ (λ r n. if r == 0 then n else suc n) (remains_same own one other same) (same.dropping own);
  holding = same.holding;
  billed = same.billed;
  stacks = same.stacks;
}
same_met jam one other same = record {
  set = same.set;
  happened = same.happened;
  took = same.took;
  on = same.on;
  pays = λ own. met_more jam (payout own one) (payout own other) (same.pays own);
  times = same.times;
  tested = same.tested;
  dropping = same.dropping;
  holding = same.holding;
  billed = same.billed;
  stacks = same.stacks;
}
same_met reset one other same = record {
  set = refl;
  happened = refl;
  took = same.took;
  on = refl;
  pays = λ own. tt;
  times = λ own. refl;
  tested = refl;
  dropping = same.dropping;
  holding = refl;
  billed = refl;
  stacks = same.stacks;
}
same_met (heard asked) one other same = record {
  set = ap (settings_after asked) same.set;
  happened = ap (unless_reset asked []) same.happened;
  took = same.took;
  on = ap (enabled_by asked) same.on;
  pays = λ own.
      subst (λ took. SamePayout (payout own (heard asked ∷ one)) (payout_by took asked (payout own other)))
      (taken_same own asked one other same)
      (payout_more asked (taken_of own one asked) (payout own one) (payout own other) (same.pays own));
  times = λ own. ap₂ (λ t n. payouts_by t asked n) (taken_same own asked one other same) (same.times own);
  tested = ap (tested_by asked) same.tested;
  dropping = same.dropping;
  holding = ap (held_after asked) same.holding;
  billed = ap₂ (events_after asked) same.holding same.billed;
  stacks = ap₂ (λ h n. if is_some (stacked_by asked h) then suc n else n) same.holding same.stacks;
}

same_quiet : (asked : Option Request) (one other : List Met) → Quiet asked → Same one other → Same (heard asked ∷ one) other
same_quiet asked one other quiet same = record {
  set = quiet.sets (settings one) ∙ same.set;
  happened = quiet.keeps (events one) ∙ same.happened;
  took = same.took;
  on = quiet.enables (enabled one) ∙ same.on;
  pays = λ own.
      subst (λ last. SamePayout last (payout own other))
      (sym (ap (λ t. payout_by t asked (payout own one)) (quiet.takes own (enabled one) (remaining own one))
      ∙ quiet.keeps_last (with_met (heard asked) (payout own one))))
      (met_quiet asked (payout own one) (payout own other) quiet (same.pays own));
  times = λ own.
      ap (λ t. payouts_by t asked (payouts own one)) (quiet.takes own (enabled one) (remaining own one))
      ∙ quiet.keeps_many (payouts own one) ∙ same.times own;
  tested = quiet.tests (is_tested one) ∙ same.tested;
  dropping = same.dropping;
  holding = quiet.holding (bill_held one) ∙ same.holding;
  billed = quiet.billing (bill_held one) (bill_events one) ∙ same.billed;
  stacks =
      ap (λ s. if is_some s then suc (stacked_bills one) else stacked_bills one) (quiet.stacking (bill_held one))
      ∙ same.stacks;
}

pub same_all : (past : List Met) → Same past past
same_all [] = record { set = refl; happened = refl; took = refl; on = refl; pays = λ own. tt; times = λ own. refl; tested = refl; dropping = λ own. refl; holding = refl; billed = refl; stacks = refl }
same_all (m ∷ past) = same_met m past past (same_all past)

pub same_front : (front one other : List Met) → Same one other → Same (front ++ one) (front ++ other)
same_front [] one other same = same
same_front (m ∷ front) one other same = same_met m (front ++ one) (front ++ other) (same_front front one other same)

pub same_question : (asked : Option Request) (one other : List Met) → is_question asked ≡ true → Same one other →
    Same (heard asked ∷ one) other
same_question asked one other is same = same_quiet asked one other (quiet_by asked is) same

-- the replies
inhibits_same : (count many : ℕ) (one other : List Met) (q : Request) → count ≡ many → Same one other →
    inhibit_reply count one q ≡ inhibit_reply many other q
inhibits_same count many one other (request.SetMask mask) is same = refl
inhibits_same count many one other request.GetMask is same = ap (λ s. Some (reply.mask (mask_in s))) same.set
inhibits_same count many one other (request.SetMaster value) is same = refl
inhibits_same count many one other request.GetMaster is same =
    ap (λ s. Some (reply.master (if is_normal_in s then 1 else 0))) same.set
inhibits_same count many one other request.AcceptCount is same = ap (λ n. Some (reply.accepts n)) is
inhibits_same count many one other q is same = refl

accepts_counted : (start : ℕ) (one other : List Met) → Same one other → accept_count start one ≡ accept_count start other
accepts_counted start one other same = ap (counted start) same.took

acceptor_same : (start : ℕ) (ids : List (List ℕ)) (one other : List Met) (q : Request) → Same one other →
    acceptor_reply start ids one q ≡ acceptor_reply start ids other q
unfolding acceptor_reply
acceptor_same start ids one other request.ReadCredits same = ap (λ es. Some (reply.credits (credits_in es))) same.happened
acceptor_same start ids one other (request.SetPath place path) same = refl
acceptor_same start ids one other (request.GetPath place) same =
    ap (λ p. Some (if is_place place then reply.path p else reply.nak)) (path_same one other place same)
acceptor_same start ids one other (request.SetDefault path) same = refl
acceptor_same start ids one other request.GetDefault same = ap (λ s. Some (reply.path (default_in s))) same.set
acceptor_same start ids one other (request.CoinId place) same = refl
acceptor_same start ids one other q same =
    inhibits_same (accept_count start one) (accept_count start other) one other q (accepts_counted start one other same) same

bill_same : (start : ℕ) (one other : List Met) (q : Request) → Same one other → bill_reply start one q ≡ bill_reply start other q
unfolding bill_reply
bill_same start one other request.ReadBills same = ap (λ es. Some (reply.credits (credits_in es))) same.billed
bill_same start one other (request.RouteBill way) same =
    ap (λ h. Some (if is_some h && is_way way then reply.ack else reply.nak)) same.holding
bill_same start one other q same =
    inhibits_same (stack_count start one) (stack_count start other) one other q (ap (counted start) same.stacks) same

status_by : ℕ → ℕ → ℕ → ℕ → Option Reply
status_by many remains paid unpaid = Some (reply.status (counter many) remains paid unpaid)

status_same : (own : ℕ) (one other : List Met) → Same one other → Some (status_of own one) ≡ Some (status_of own other)
unfolding status_by
status_same own one other same =
    ap₂ (λ n r. status_by n r (last_paid own one) (last_unpaid own one)) (same.times own) (remains_same own one other same)
    ∙ ap₂ (λ p u. status_by (payouts own other) (remaining own other) p u)
    (paid_is (payout own one) (payout own other) (same.pays own))
    (unpaid_is (payout own one) (payout own other) (same.pays own))

register_same : (own : ℕ) (one other : List Met) → Same one other → register_of own one ≡ register_of own other
register_same own one other same =
    ap₂ (λ j t. (if j then 2 ^ 1 else 0) + (if t then 0 else 2 ^ 6) + (if enabled one then 0 else 2 ^ 7))
    (jammed_is (payout own one) (payout own other) (same.pays own)) same.tested
    ∙ ap (λ e. (if has_timeout own other then 2 ^ 1 else 0) + (if is_tested other then 0 else 2 ^ 6) + (if e then 0 else 2 ^ 7))
    same.on

hopper_same : (own start : ℕ) (one other : List Met) (q : Request) → Same one other →
    hopper_reply own start one q ≡ hopper_reply own start other q
unfolding hopper_reply
hopper_same own start one other (request.Dispense serial count) same =
    ap (λ t. Some (dispense_reply t)) (taken_same own (Some (request.Dispense serial count)) one other same)
hopper_same own start one other request.GetStatus same = status_same own one other same
hopper_same own start one other request.GetLife same = ap (λ n. Some (reply.life ((start + n) % 2 ^ 24))) (same.dropping own)
hopper_same own start one other request.StopNow same = ap (λ n. Some (reply.remaining n)) (remains_same own one other same)
hopper_same own start one other request.TestHopper same = ap (λ n. Some (reply.register n)) (register_same own one other same)
hopper_same own start one other q same = refl

own_same : (serial : ℕ) (body : DeviceBody) (one other : List Met) (q : Request) → Same one other →
    own_reply serial body one q ≡ own_reply serial body other q
own_same serial (Acceptor accepts values ids) one other q same = acceptor_same accepts ids one other q same
own_same serial (Hopper life value) one other q same = hopper_same serial life one other q same
own_same serial (Bill accepts values ids) one other q same = bill_same accepts one other q same

reply_same : (d : DeviceSetup) (one other : List Met) (q : Request) → Same one other → reply_of d one q ≡ reply_of d other q
unfolding reply_of
reply_same d one other q same = ap (option_or (common_reply d q)) (own_same d.serial d.body one other q same)

answer_by : (d : DeviceSetup) (one other : List Met) (to : ℕ) (asked : Option Request) → Same one other →
    answer_to d one to asked ≡ answer_to d other to asked
answer_by d one other to None same = refl
answer_by d one other to (Some q) same =
    ap (λ y. option_or (option_map (reply_bytes d to) y) (bare_answer d.addr q)) (reply_same d one other q same)

pub answer_same : (d : DeviceSetup) (one other : List Met) (piece : List ℕ) → Same one other →
    answer d one piece ≡ answer d other piece
answer_same d one other piece same = answer_by d one other (asker d.kind piece) (asks_of d piece) same

-- and it is the same either way
since_back : (one other : List Met) → SameSince one other → SameSince other one
since_back one other same = record {
  broken = sym same.broken;
  fallen = sym same.fallen;
  paying = λ count. sym (same.paying count);
  owing = λ count. sym (same.owing count);
  jamming = λ count. sym (same.jamming count);
}

payout_back : (one other : Option Payout) → SamePayout one other → SamePayout other one
payout_back None None same = tt
payout_back (Some one) (Some other) same = (sym same.0, since_back one.since other.since same.1)
payout_back None (Some other) same = absurd same
payout_back (Some one) None same = absurd same

pub same_back : (one other : List Met) → Same one other → Same other one
same_back one other same = record {
  set = sym same.set;
  happened = sym same.happened;
  took = sym same.took;
  on = sym same.on;
  pays = λ own. payout_back (payout own one) (payout own other) (same.pays own);
  times = λ own. sym (same.times own);
  tested = sym same.tested;
  dropping = λ own. sym (same.dropping own);
  holding = sym same.holding;
  billed = sym same.billed;
  stacks = sym same.stacks;
}
