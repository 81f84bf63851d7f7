-- What a device of a kind replies of its own: one that takes money and is asked for its events, its mask or its accept
-- counter, and a hopper that is asked how its payout goes, to stop it, or for its life count.
use Rattle.std.proofs.Common.{◌≡◌, ℕ, suc, List, [], ◌∷◌, length, map, refl, ap, sym, Option, Some}
use Rattle.std.specs.Prelude.{⊤}
use Rattle.std.specs.Option.{option_or}
use Rattle.cct_model.specs.terms.device.DeviceBody.{DeviceBody}
use Rattle.cct_model.specs.terms.device.DeviceBody.TheVariants.{Acceptor, Bill, Hopper}
use Rattle.cct_model.specs.terms.device.DeviceSetup.{DeviceSetup}
use Rattle.cct_model.specs.terms.request.Request.{Request}
use Rattle.cct_model.specs.terms.request.Request.TheVariants.{ReadCredits, ReadBills, GetMask, AcceptCount, GetStatus, StopNow, GetLife}
use Rattle.cct_model.specs.Reply as reply
use Rattle.cct_model.specs.History.{Met}
use Rattle.cct_model.specs.terms.coin.Pair.{Pair}
use Rattle.cct_model.specs.terms.coin.Credits.{Credits}
use Rattle.cct_model.specs.Acceptor.{counted, credits_in, credits_of, last_five, mask_of, acceptor_reply}
use Rattle.cct_model.specs.Bill.{bill_events, bills_of, bill_reply}
use Rattle.cct_model.specs.Hopper.{hopper_reply, status_of, remaining, life_count}
use Rattle.cct_model.specs.Device.{IsAcceptor, IsBill, IsHopper, IsTaker, common_reply, own_reply, reply_of}
use Rattle.cct_model.specs.Job.{credits_request, settled, settled_events}
use Rattle.cct_laws.specs.Takers.{accepted_of, events_of, told_events}
use Rattle.cct_model.specs.Reply.{Reply}

-- where the accept counter or the life count of a device started, and how an acceptor names the coin of a place
abbrev pub start_of : DeviceBody → ℕ
start_of (Acceptor accepts values ids) = accepts
start_of (Hopper life value) = life
start_of (Bill accepts values ids) = accepts

abbrev pub ids_of : DeviceBody → List (List ℕ)
ids_of (Acceptor accepts values ids) = ids
ids_of (Hopper life value) = []
ids_of (Bill accepts values ids) = ids

pub acceptor_is : (serial : ℕ) (body : DeviceBody) (past : List Met) (q : Request) → IsAcceptor body →
    own_reply serial body past q ≡ acceptor_reply (start_of body) (ids_of body) past q
acceptor_is serial (Acceptor accepts values ids) past q accepting = refl
acceptor_is serial (Hopper life value) past q accepting = absurd accepting
acceptor_is serial (Bill accepts values ids) past q accepting = absurd accepting

pub bill_is : (serial : ℕ) (body : DeviceBody) (past : List Met) (q : Request) → IsBill body →
    own_reply serial body past q ≡ bill_reply (start_of body) past q
bill_is serial (Acceptor accepts values ids) past q banking = absurd banking
bill_is serial (Hopper life value) past q banking = absurd banking
bill_is serial (Bill accepts values ids) past q banking = refl

pub hopper_is : (serial : ℕ) (body : DeviceBody) (past : List Met) (q : Request) → IsHopper body →
    own_reply serial body past q ≡ hopper_reply serial (start_of body) past q
hopper_is serial (Acceptor accepts values ids) past q paying = absurd paying
hopper_is serial (Hopper life value) past q paying = refl
hopper_is serial (Bill accepts values ids) past q paying = absurd paying

-- what both kinds that take money reply so
pub taker_is : (serial : ℕ) (body : DeviceBody) (past : List Met) (q : Request) (y : Option Reply) → IsTaker body →
    acceptor_reply (start_of body) (ids_of body) past q ≡ y → bill_reply (start_of body) past q ≡ y →
    own_reply serial body past q ≡ y
taker_is serial (Acceptor accepts values ids) past q y taking of_coins of_bills = of_coins
taker_is serial (Hopper life value) past q y taking of_coins of_bills = absurd taking
taker_is serial (Bill accepts values ids) past q y taking of_coins of_bills = of_bills

credits_by : (d : DeviceSetup) (past : List Met) (body : DeviceBody) → IsTaker body →
    option_or (common_reply d (credits_request body)) (own_reply d.serial body past (credits_request body)) ≡
    Some (reply.credits (credits_in (told_events body past)))
unfolding common_reply acceptor_reply bill_reply
credits_by d past (Acceptor accepts values ids) taking = refl
credits_by d past (Hopper life value) taking = absurd taking
credits_by d past (Bill accepts values ids) taking = refl

pub replied_credits : (d : DeviceSetup) (past : List Met) → IsTaker d.body →
    reply_of d past (credits_request d.body) ≡ Some (reply.credits (credits_in (told_events d.body past)))
unfolding reply_of
replied_credits d past taking = credits_by d past d.body taking

pub replied_mask : (d : DeviceSetup) (past : List Met) → IsTaker d.body →
    reply_of d past GetMask ≡ Some (reply.mask (mask_of past))
unfolding reply_of common_reply acceptor_reply bill_reply
replied_mask d past taking = taker_is d.serial d.body past GetMask (Some (reply.mask (mask_of past))) taking refl refl

accepts_by : (serial : ℕ) (body : DeviceBody) (past : List Met) → IsTaker body →
    own_reply serial body past AcceptCount ≡ Some (reply.accepts (counted (start_of body) (accepted_of body past)))
unfolding acceptor_reply bill_reply
accepts_by serial (Acceptor accepts values ids) past taking = refl
accepts_by serial (Hopper life value) past taking = absurd taking
accepts_by serial (Bill accepts values ids) past taking = refl

pub replied_accepts : (d : DeviceSetup) (past : List Met) → IsTaker d.body →
    reply_of d past AcceptCount ≡ Some (reply.accepts (counted (start_of d.body) (accepted_of d.body past)))
unfolding reply_of common_reply
replied_accepts d past taking = accepts_by d.serial d.body past taking

pub replied_status : (d : DeviceSetup) (past : List Met) → IsHopper d.body →
    reply_of d past GetStatus ≡ Some (status_of d.serial past)
unfolding reply_of common_reply hopper_reply
replied_status d past paying = hopper_is d.serial d.body past GetStatus paying

pub replied_stop : (d : DeviceSetup) (past : List Met) → IsHopper d.body →
    reply_of d past StopNow ≡ Some (reply.remaining (remaining d.serial past))
unfolding reply_of common_reply hopper_reply
replied_stop d past paying = hopper_is d.serial d.body past StopNow paying

pub replied_life : (d : DeviceSetup) (past : List Met) → IsHopper d.body →
    reply_of d past GetLife ≡ Some (reply.life (life_count d.serial (start_of d.body) past))
unfolding reply_of common_reply hopper_reply
replied_life d past paying = hopper_is d.serial d.body past GetLife paying

pub same_reply : (x y : Reply) → Some x ≡ Some y → x ≡ y
same_reply x y e = cc

-- a request that reads the last events
abbrev pub IsReading : Request → Type 0
IsReading ReadCredits = ⊤
IsReading ReadBills = ⊤
IsReading q = ⊥

-- what is read by it, as it is judged
abbrev pub judged_as : Request → Credits → Credits
judged_as ReadBills c = settled_events c
judged_as q c = c

settled_five : (newest : List Pair) → map settled (last_five newest) ≡ last_five (map settled newest)
settled_five [] = refl
settled_five (a ∷ []) = refl
settled_five (a ∷ b ∷ []) = refl
settled_five (a ∷ b ∷ c ∷ []) = refl
settled_five (a ∷ b ∷ c ∷ d ∷ []) = refl
settled_five (a ∷ b ∷ c ∷ d ∷ e ∷ newest) = refl

settled_length : (newest : List Pair) → length (map settled newest) ≡ length newest
settled_length [] = refl
settled_length (pair ∷ newest) = ap suc (settled_length newest)

settled_credits : (newest : List Pair) → settled_events (credits_in newest) ≡ credits_in (map settled newest)
settled_credits newest = rw (settled_five newest, settled_length newest) refl

-- so it shows the events of the device
abbrev pub ToldEvents : DeviceBody → List Met → Request → Reply → Type 0
ToldEvents body past q y =
    (c : Credits) × (y ≡ reply.credits c) × (judged_as q c ≡ credits_in (events_of body past))

reading_by : (serial : ℕ) (body : DeviceBody) (past : List Met) (q : Request) (y : Reply) → IsTaker body → IsReading q →
    own_reply serial body past q ≡ Some y → ToldEvents body past q y
unfolding acceptor_reply bill_reply
reading_by serial (Acceptor accepts values ids) past ReadCredits y taking reading gives =
    (credits_of past, same_reply y (reply.credits (credits_of past)) (sym gives), refl)
reading_by serial (Acceptor accepts values ids) past ReadBills y taking reading gives = absurd cc
reading_by serial (Bill accepts values ids) past ReadCredits y taking reading gives = absurd cc
reading_by serial (Bill accepts values ids) past ReadBills y taking reading gives =
    (bills_of past, same_reply y (reply.credits (bills_of past)) (sym gives), settled_credits (bill_events past))
reading_by serial (Hopper life value) past q y taking reading gives = absurd taking
reading_by serial body past q y taking reading gives = absurd reading

pub reading_tells : (d : DeviceSetup) (past : List Met) (q : Request) (y : Reply) → IsTaker d.body → IsReading q →
    reply_of d past q ≡ Some y → ToldEvents d.body past q y
unfolding reply_of common_reply
reading_tells d past ReadCredits y taking reading gives = reading_by d.serial d.body past ReadCredits y taking reading gives
reading_tells d past ReadBills y taking reading gives = reading_by d.serial d.body past ReadBills y taking reading gives
reading_tells d past q y taking reading gives = absurd reading
