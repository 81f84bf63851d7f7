-- What a device of a sound setup answers is bytes, whatever bytes it met.
use Rattle.std.proofs.Common.{◌≡◌, ℕ, zero, suc, ◌+◌, ◌-◌, ◌*◌, ◌%◌, ◌<◌, ◌≤◌, ◌==◌, ◌&&◌, not, ◌++◌, rules, Bool, true, false, cond, List, [], ◌∷◌, length, take, replicate, refl, Option, Some, None, option_map, slice_get, arith, All, codes}
use Rattle.std.specs.Prelude.{⊤, is_some, unwrap_or, flat_map}
use Rattle.std.specs.Option.{option_or}
use Rattle.std.proofs.lemmas.Bool.Decides.{nat_tests}
use Rattle.std.proofs.lemmas.List.Elements.{All-head, All-tail}
use Rattle.cct_model.specs.terms.coin.Pair.{Pair}
use Rattle.cct_model.specs.terms.device.DeviceBody.{DeviceBody}
use Rattle.cct_model.specs.terms.device.DeviceBody.TheVariants.{Acceptor, Bill, Hopper}
use Rattle.cct_model.specs.terms.device.DeviceSetup.{DeviceSetup}
use Rattle.cct_model.specs.terms.request.Request.{Request}
use Rattle.cct_model.specs.terms.request.Request.TheVariants.{SimplePoll, AddressPoll, MakerId, Category, ProductCode, SerialNumber, SoftwareRevision, BuildCode, CommsRevision, ResetDevice, SetMask, GetMask, SetMaster, GetMaster, ReadCredits, SetPath, GetPath, SetDefault, GetDefault, CoinId, AcceptCount, ReadBills, RouteBill, Enable, Dispense, CipherDispense, GetStatus, GetLife, StopNow, TestHopper, PumpRng, CipherKey}
use Rattle.cct_model.specs.Message.{message}
use Rattle.cct_model.specs.Request.{request_of}
use Rattle.cct_model.specs.Reply.{Reply, pair_bytes, reply_data, reply_header}
use Rattle.cct_model.specs.Reply as reply
use Rattle.cct_model.specs.History.{Met, coin, alien, fall, jam, reset, heard, unless_reset}
use Rattle.cct_model.specs.Setting.{Setting, mask_set, master_set, path_set, default_set, is_place, is_path, mask_in, is_normal_in, default_in, own_path_in}
use Rattle.cct_model.specs.Acceptor.{settings_after, settings, mask_of, path_of, accepts, events, no_event, credits_in, counter, accept_count, master_of, id_at, inhibit_reply, acceptor_reply}
use Rattle.cct_model.specs.Bill.{is_way, held_with, held_after, bill_held, holds, routed, events_after, bill_events, stack_count, bill_reply}
use Rattle.cct_model.specs.Hopper.{enabled, Payout, left, paid, unpaid, taken_count, with_met, payout_by, payout, remaining, taken_of, last_paid, last_unpaid, payouts, life_count, register_of, dispense_reply, hopper_reply}
use Rattle.cct_model.specs.Device.{IsPrinting, IsWord, IsId, IsSoundBody, IsSound, category_of, common_reply, own_reply, reply_of}
use Rattle.cct_model.specs.Exchange.{asked_of, asks_of, asker, replying, reply_bytes, bare_answer, answer_to, answer, to_all, to_one}
use Rattle.cct_model.proofs.Hoppers.{payout_adds, register_bits}
use Rattle.cct_model_wire.proofs.OfBytes.{Bytes, IfThere, there_then, IsOfBytes, message_bytes}
use Rattle.cct_laws.proofs.text.Bytes.{spelled_bytes, asker_fits, FitsRequest, request_fits, to_one_fits, to_all_fits}

-- settings, and what they make of a coin
abbrev FitsSettings : List Setting → Type 0
FitsSettings [] = ⊤
FitsSettings (mask_set mask ∷ past) = (mask < 65536) × FitsSettings past
FitsSettings (master_set value ∷ past) = FitsSettings past
FitsSettings (path_set place path ∷ past) = FitsSettings past
FitsSettings (default_set path ∷ past) = FitsSettings past

mask_fits : (past : List Setting) → FitsSettings past → mask_in past < 65536
mask_fits [] h = omega arith
mask_fits (mask_set mask ∷ past) h = h.0
mask_fits (master_set value ∷ past) h = mask_fits past h
mask_fits (path_set place path ∷ past) h = mask_fits past h
mask_fits (default_set path ∷ past) h = mask_fits past h

default_by : (b : Bool) (path n : ℕ) → is_path path ≡ b → n < 256 → cond b path n < 256
default_by true path n test h = grind (arith, nat_tests)
default_by false path n test h = h

default_fits : (past : List Setting) → default_in past < 256
default_fits [] = omega arith
default_fits (default_set path ∷ past) = default_by (is_path path) path (default_in past) refl (default_fits past)
default_fits (mask_set mask ∷ past) = default_fits past
default_fits (master_set value ∷ past) = default_fits past
default_fits (path_set place path ∷ past) = default_fits past

abbrev IsSmall : ℕ → Type 0
IsSmall n = n < 256

own_by : (here path_there same : Bool) (path : ℕ) (found : Option ℕ) → is_path path ≡ path_there → IfThere IsSmall found → IfThere IsSmall (cond (here && path_there && same) (Some path) found)
own_by true true true path found test h = grind (arith, nat_tests)
own_by true true false path found test h = h
own_by true false same path found test h = h
own_by false path_there same path found test h = h

own_fits : (past : List Setting) (place : ℕ) → IfThere IsSmall (own_path_in past place)
own_fits [] place = tt
own_fits (path_set other path ∷ past) place = own_by (is_place other) (is_path path) (other == place) path (own_path_in past place) refl (own_fits past place)
own_fits (mask_set mask ∷ past) place = own_fits past place
own_fits (master_set value ∷ past) place = own_fits past place
own_fits (default_set path ∷ past) place = own_fits past place

small_or : (found : Option ℕ) (n : ℕ) → IfThere IsSmall found → n < 256 → unwrap_or found n < 256
small_or None n h k = k
small_or (Some m) n h k = h

-- what a device met says bytes
abbrev pub FitsMet : Met → Type 0
FitsMet (coin place) = place < 256
FitsMet (heard asked) = IfThere FitsRequest asked
FitsMet m = ⊤

abbrev pub FitsAll : List Met → Type 0
FitsAll [] = ⊤
FitsAll (m ∷ past) = FitsMet m × FitsAll past

path_small : (past : List Met) (place : ℕ) → path_of past place < 256
path_small past place = small_or (own_path_in (settings past) place) (default_in (settings past)) (own_fits (settings past) place) (default_fits (settings past))

heard_settings : (asks : Option Request) (before : List Setting) → IfThere FitsRequest asks → FitsSettings before → FitsSettings (settings_after asks before)
heard_settings None before h k = k
heard_settings (Some (SetMask mask)) before h k = (h, k)
heard_settings (Some (SetMaster value)) before h k = k
heard_settings (Some (SetPath place path)) before h k = k
heard_settings (Some (SetDefault path)) before h k = k
heard_settings (Some ResetDevice) before h k = tt
heard_settings (Some q) before h k = k

settings_fit : (past : List Met) → FitsAll past → FitsSettings (settings past)
settings_fit [] h = tt
settings_fit (coin place ∷ past) h = settings_fit past h.1
settings_fit (alien ∷ past) h = settings_fit past h.1
settings_fit (fall ∷ past) h = settings_fit past h.1
settings_fit (jam ∷ past) h = settings_fit past h.1
settings_fit (reset ∷ past) h = tt
settings_fit (heard asks ∷ past) h = heard_settings asks (settings past) h.0 (settings_fit past h.1)

-- what a hopper was asked to pay, and has left, paid or not paid of it
abbrev FitsPayout : Payout → Type 0
FitsPayout last = last.count < 256

met_fits : (m : Met) (last : Option Payout) → IfThere FitsPayout last → IfThere FitsPayout (with_met m last)
met_fits m None h = tt
met_fits m (Some last) h = h

payout_heard : (took : Option ℕ) (asks : Option Request) (last : Option Payout) → IfThere IsSmall took →
    IfThere FitsPayout last → IfThere FitsPayout (payout_by took asks last)
payout_heard (Some count) asks last small h = small
payout_heard None None last small h = met_fits (heard None) last h
payout_heard None (Some ResetDevice) last small h = tt
payout_heard None (Some q) last small h = met_fits (heard (Some q)) last h

count_if : (b : Bool) (count : ℕ) → count < 256 → IfThere IsSmall (cond b (Some count) None)
count_if true count h = h
count_if false count h = tt

count_fits : (own : ℕ) (on : Bool) (remains : ℕ) (asks : Option Request) → IfThere FitsRequest asks →
    IfThere IsSmall (taken_count own on remains asks)
count_fits own on remains None h = tt
count_fits own on remains (Some (Dispense serial count)) h =
    count_if (on && (remains == 0) && (serial == own) && not (count == 0)) count h
count_fits own on remains (Some q) h = tt

payout_fits : (own : ℕ) (past : List Met) → FitsAll past → IfThere FitsPayout (payout own past)
payout_fits own [] h = tt
payout_fits own (coin place ∷ past) h = met_fits (coin place) (payout own past) (payout_fits own past h.1)
payout_fits own (alien ∷ past) h = met_fits alien (payout own past) (payout_fits own past h.1)
payout_fits own (fall ∷ past) h = met_fits fall (payout own past) (payout_fits own past h.1)
payout_fits own (jam ∷ past) h = met_fits jam (payout own past) (payout_fits own past h.1)
payout_fits own (reset ∷ past) h = tt
payout_fits own (heard asks ∷ past) h =
    payout_heard (taken_of own past asks) asks (payout own past)
    (count_fits own (enabled past) (remaining own past) asks h.0) (payout_fits own past h.1)

parts_fit : (last : Option Payout) → IfThere FitsPayout last →
    (left last < 256) × (paid last < 256) × (unpaid last < 256)
parts_fit None h = (omega arith, omega arith, omega arith)
parts_fit (Some last) h =
    let whole = payout_adds last in
    (omega (arith, whole, h), omega (arith, whole, h), omega (arith, whole, h))

abbrev FitsPair : Pair → Type 0
FitsPair pair = (pair.a < 256) × (pair.b < 256)

abbrev FitsPairs : List Pair → Type 0
FitsPairs [] = ⊤
FitsPairs (pair ∷ pairs) = FitsPair pair × FitsPairs pairs

coin_fits : (b : Bool) (place path : ℕ) → place < 256 → path < 256 → FitsPair (cond b (record { a = place; b = path }) (record { a = 0; b = 2 }))
coin_fits true place path h k = (h, k)
coin_fits false place path h k = (omega arith, omega arith)

heard_events : (asks : Option Request) (before : List Pair) → FitsPairs before → FitsPairs (unless_reset asks [] before)
heard_events None before k = k
heard_events (Some ResetDevice) before k = tt
heard_events (Some q) before k = k

events_fit : (past : List Met) → FitsAll past → FitsPairs (events past)
events_fit [] h = tt
events_fit (coin place ∷ past) h = (coin_fits (accepts past place) place (path_of past place) h.0 (path_small past place), events_fit past h.1)
events_fit (alien ∷ past) h = ((omega arith, omega arith), events_fit past h.1)
events_fit (fall ∷ past) h = events_fit past h.1
events_fit (jam ∷ past) h = events_fit past h.1
events_fit (reset ∷ past) h = tt
events_fit (heard asks ∷ past) h = heard_events asks (events past) (events_fit past h.1)

-- the bill that a bill acceptor holds, and its events
held_coin : (lets_in : Bool) (place : ℕ) (before : Option ℕ) → place < 256 → IfThere IsSmall before →
    IfThere IsSmall (held_with place lets_in before)
held_coin true place None h k = h
held_coin true place (Some other) h k = k
held_coin false place before h k = k

held_routed : (routes : Bool) (before : Option ℕ) → IfThere IsSmall before → IfThere IsSmall (cond routes None before)
held_routed true before k = tt
held_routed false before k = k

held_heard : (asks : Option Request) (before : Option ℕ) → IfThere IsSmall before →
    IfThere IsSmall (held_after asks before)
held_heard None before k = k
held_heard (Some ResetDevice) before k = tt
held_heard (Some (RouteBill way)) before k = held_routed (is_way way) before k
held_heard (Some q) before k = k

held_fits : (past : List Met) → FitsAll past → IfThere IsSmall (bill_held past)
held_fits [] h = tt
held_fits (coin place ∷ past) h = held_coin (accepts past place) place (bill_held past) h.0 (held_fits past h.1)
held_fits (alien ∷ past) h = held_fits past h.1
held_fits (fall ∷ past) h = held_fits past h.1
held_fits (jam ∷ past) h = held_fits past h.1
held_fits (reset ∷ past) h = tt
held_fits (heard asks ∷ past) h = held_heard asks (bill_held past) (held_fits past h.1)

routed_by : (stacks returns : Bool) (place : ℕ) (before : List Pair) → place < 256 → FitsPairs before →
    FitsPairs (cond stacks (record { a = place; b = 0 } ∷ before) (cond returns (record { a = 0; b = 1 } ∷ before) before))
routed_by true returns place before h k = ((h, omega arith), k)
routed_by false true place before h k = ((omega arith, omega arith), k)
routed_by false false place before h k = k

routed_fits : (way : ℕ) (held : Option ℕ) (before : List Pair) → IfThere IsSmall held → FitsPairs before →
    FitsPairs (routed way held before)
routed_fits way None before h k = k
routed_fits way (Some place) before h k = routed_by (way == 1) (way == 0) place before h k

heard_bills : (asks : Option Request) (held : Option ℕ) (before : List Pair) → IfThere IsSmall held →
    FitsPairs before → FitsPairs (events_after asks held before)
heard_bills None held before h k = k
heard_bills (Some ResetDevice) held before h k = tt
heard_bills (Some (RouteBill way)) held before h k = routed_fits way held before h k
heard_bills (Some q) held before h k = k

bills_fit : (past : List Met) → FitsAll past → FitsPairs (bill_events past)
bills_fit [] h = tt
bills_fit (coin place ∷ past) h = (coin_fits (holds past place) place 1 h.0 (omega arith), bills_fit past h.1)
bills_fit (alien ∷ past) h = bills_fit past h.1
bills_fit (fall ∷ past) h = bills_fit past h.1
bills_fit (jam ∷ past) h = bills_fit past h.1
bills_fit (reset ∷ past) h = tt
bills_fit (heard asks ∷ past) h =
    heard_bills asks (bill_held past) (bill_events past) (held_fits past h.1) (bills_fit past h.1)

-- the events that are read
filled : (pairs : List Pair) → FitsPairs pairs → FitsPairs (pairs ++ replicate 5 no_event)
filled [] h =
    let one : FitsPair no_event = (omega arith, omega arith) in
    (one, (one, (one, (one, (one, tt)))))
filled (pair ∷ pairs) h = (h.0, filled pairs h.1)

pairs_taken : (n : ℕ) (pairs : List Pair) → FitsPairs pairs → FitsPairs (take n pairs)
pairs_taken zero pairs h = tt
pairs_taken (suc n) [] h = tt
pairs_taken (suc n) (pair ∷ pairs) h = (h.0, pairs_taken n pairs h.1)

pairs_bytes : (pairs : List Pair) → FitsPairs pairs → Bytes (flat_map pair_bytes pairs)
pairs_bytes [] h = tt
pairs_bytes (pair ∷ pairs) h = (h.0.0, (h.0.1, pairs_bytes pairs h.1))

pairs_short : (n : ℕ) (pairs : List Pair) → length (flat_map pair_bytes (take n pairs)) ≤ 2 * n
pairs_short zero pairs = omega arith
pairs_short (suc n) [] = omega arith
pairs_short (suc n) (pair ∷ pairs) = omega (arith, pairs_short n pairs)

counter_by : (b : Bool) (n : ℕ) → cond b 0 (1 + (n - 1) % 255) < 256
counter_by true n = omega arith
counter_by false n = omega arith

-- a reply says bytes, and not too many
pub record Says (y : Reply) : Type 0 where
  pub header : reply_header y < 256
  pub short : length (reply_data y) < 256
  pub bytes : Bytes (reply_data y)

says_if : (b : Bool) (y z : Reply) → Says y → Says z → Says (cond b y z)
says_if true y z h k = h
says_if false y z h k = k

says_ack : Says reply.ack
unfolding reply_data
says_ack = record { header = omega arith; short = omega arith; bytes = tt }

says_nak : Says reply.nak
unfolding reply_data
says_nak = record { header = omega arith; short = omega arith; bytes = tt }

says_mask : (bits : ℕ) → bits < 65536 → Says (reply.mask bits)
unfolding reply_data
says_mask bits h = record { header = omega arith; short = omega arith; bytes = (omega arith, (omega (arith, h), tt)) }

says_master : (n : ℕ) → n < 256 → Says (reply.master n)
unfolding reply_data
says_master n h = record { header = omega arith; short = omega arith; bytes = (h, tt) }

says_path : (n : ℕ) → n < 256 → Says (reply.path n)
unfolding reply_data
says_path n h = record { header = omega arith; short = omega arith; bytes = (h, tt) }

says_serial : (n : ℕ) → Says (reply.serial n)
unfolding reply_data
says_serial n = record { header = omega arith; short = omega arith; bytes = (omega arith, (omega arith, (omega arith, tt))) }

says_count : (n : ℕ) → Says (reply.accepts n)
unfolding reply_data
says_count n = record { header = omega arith; short = omega arith; bytes = (omega arith, (omega arith, (omega arith, tt))) }

says_revision : Says (reply.revision 1 4 0)
unfolding reply_data
says_revision = record { header = omega arith; short = omega arith; bytes = (omega arith, (omega arith, (omega arith, tt))) }

says_events : (newest : List Pair) → FitsPairs newest → Says (reply.credits (credits_in newest))
unfolding reply_data
says_events newest h =
    let pairs = newest ++ replicate 5 no_event in
    let few : length (flat_map pair_bytes (take 5 pairs)) ≤ 2 * 5 = pairs_short 5 pairs in
    record {
      header = omega arith;
      short = omega (arith, few);
      bytes = (counter_by (length newest == 0) (length newest), pairs_bytes (take 5 pairs) (pairs_taken 5 pairs (filled newest h)));
    }

printing_bytes : (bs : List ℕ) → All IsPrinting bs → Bytes bs
printing_bytes [] h = tt
printing_bytes (b ∷ bs) h =
    let one : IsPrinting b = All-head IsPrinting b bs h in
    (omega (arith, one.1), printing_bytes bs (All-tail IsPrinting b bs h))

says_text : (bs : List ℕ) → length bs ≤ 24 → Bytes bs → Says (reply.text bs)
unfolding reply_data
says_text bs h k = record { header = omega arith; short = omega (arith, h); bytes = k }

says_word : (bs : List ℕ) → IsWord bs → Says (reply.text bs)
says_word bs h = says_text bs h.1 (printing_bytes bs h.2)

says_category : (body : DeviceBody) → Says (reply.text (category_of body))
says_category (Acceptor accepts values ids) = says_text (codes "Coin Acceptor") (omega arith) (search rules)
says_category (Hopper life value) = says_text (codes "Payout") (omega arith) (search rules)
says_category (Bill accepts values ids) = says_text (codes "Bill Validator") (omega arith) (search rules)

says_status : (events remains paid unpaid : ℕ) → events < 256 → (remains < 256) × (paid < 256) × (unpaid < 256) →
    Says (reply.status events remains paid unpaid)
unfolding reply_data
says_status events remains paid unpaid h k =
    record { header = omega arith; short = omega arith; bytes = (h, (k.0, (k.1, (k.2, tt)))) }

says_life : (n : ℕ) → Says (reply.life n)
unfolding reply_data
says_life n =
    record { header = omega arith; short = omega arith; bytes = (omega arith, (omega arith, (omega arith, tt))) }

says_remaining : (n : ℕ) → n < 256 → Says (reply.remaining n)
unfolding reply_data
says_remaining n h = record { header = omega arith; short = omega arith; bytes = (h, tt) }

says_register : (n : ℕ) → n < 256 → Says (reply.register n)
unfolding reply_data
says_register n h = record { header = omega arith; short = omega arith; bytes = (h, tt) }

says_id : (id : List ℕ) → length id ≤ 6 → Bytes id → Says (reply.coin_id id)
unfolding reply_data
says_id id h k = record { header = omega arith; short = omega (arith, h); bytes = k }

id_says : (ids : List (List ℕ)) (i : ℕ) → All IsId ids → Says (reply.coin_id (unwrap_or (slice_get ids i) []))
id_says [] i h = says_id [] (omega arith) tt
id_says (id ∷ ids) zero h =
    let one : IsId id = All-head IsId id ids h in
    says_id id (omega (arith, one.0)) (printing_bytes id one.1)
id_says (id ∷ ids) (suc i) h = id_says ids i (All-tail IsId id ids h)

common_says : (d : DeviceSetup) (q : Request) → IsSound d → IfThere Says (common_reply d q)
unfolding common_reply
common_says d SimplePoll sound = says_ack
common_says d MakerId sound = says_word d.texts.maker sound.maker
common_says d Category sound = says_category d.body
common_says d ProductCode sound = says_word d.texts.product sound.product
common_says d SerialNumber sound = says_serial d.serial
common_says d SoftwareRevision sound = says_word d.texts.software sound.software
common_says d BuildCode sound = says_word d.texts.build sound.build
common_says d CommsRevision sound = says_revision
common_says d ResetDevice sound = says_ack
common_says d q sound = tt

master_fits : (b : Bool) → cond b 1 0 < 256
master_fits true = omega arith
master_fits false = omega arith

inhibit_says : (count : ℕ) (past : List Met) (q : Request) → FitsAll past → IfThere Says (inhibit_reply count past q)
inhibit_says count past (SetMask mask) h = says_ack
inhibit_says count past GetMask h = says_mask (mask_of past) (mask_fits (settings past) (settings_fit past h))
inhibit_says count past (SetMaster value) h = says_ack
inhibit_says count past GetMaster h = says_master (master_of past) (master_fits (is_normal_in (settings past)))
inhibit_says count past AcceptCount h = says_count count
inhibit_says count past q h = tt

acceptor_says : (start : ℕ) (ids : List (List ℕ)) (past : List Met) (q : Request) → All IsId ids → FitsAll past → IfThere Says (acceptor_reply start ids past q)
unfolding acceptor_reply
acceptor_says start ids past ReadCredits of_ids h = says_events (events past) (events_fit past h)
acceptor_says start ids past (SetPath place path) of_ids h = says_if (is_place place && is_path path) reply.ack reply.nak says_ack says_nak
acceptor_says start ids past (GetPath place) of_ids h = says_if (is_place place) (reply.path (path_of past place)) reply.nak (says_path (path_of past place) (path_small past place)) says_nak
acceptor_says start ids past (SetDefault path) of_ids h = says_if (is_path path) reply.ack reply.nak says_ack says_nak
acceptor_says start ids past GetDefault of_ids h = says_path (default_in (settings past)) (default_fits (settings past))
acceptor_says start ids past (CoinId place) of_ids h = says_if (is_place place) (reply.coin_id (id_at ids place)) reply.nak (id_says ids (place - 1) of_ids) says_nak
acceptor_says start ids past q of_ids h = inhibit_says (accept_count start past) past q h

bill_says : (start : ℕ) (past : List Met) (q : Request) → FitsAll past → IfThere Says (bill_reply start past q)
unfolding bill_reply
bill_says start past ReadBills h = says_events (bill_events past) (bills_fit past h)
bill_says start past (RouteBill way) h =
    says_if (is_some (bill_held past) && is_way way) reply.ack reply.nak says_ack says_nak
bill_says start past q h = inhibit_says (stack_count start past) past q h

dispense_says : (took : Option ℕ) → Says (dispense_reply took)
dispense_says None = says_nak
dispense_says (Some count) = says_ack

hopper_says : (own start : ℕ) (past : List Met) (q : Request) → FitsAll past →
    IfThere Says (hopper_reply own start past q)
unfolding hopper_reply
hopper_says own start past (Enable code) h = says_ack
hopper_says own start past (Dispense serial count) h = dispense_says (taken_of own past (Some (Dispense serial count)))
hopper_says own start past CipherDispense h = says_nak
hopper_says own start past GetStatus h =
    says_status (counter (payouts own past)) (remaining own past) (last_paid own past) (last_unpaid own past)
    (counter_by (payouts own past == 0) (payouts own past)) (parts_fit (payout own past) (payout_fits own past h))
hopper_says own start past GetLife h = says_life (life_count own start past)
hopper_says own start past StopNow h =
    says_remaining (remaining own past) (parts_fit (payout own past) (payout_fits own past h)).0
hopper_says own start past TestHopper h = says_register (register_of own past) (register_bits own past).3
hopper_says own start past PumpRng h = says_nak
hopper_says own start past CipherKey h = says_nak
hopper_says own start past q h = tt

own_says : (serial : ℕ) (body : DeviceBody) (past : List Met) (q : Request) → IsSoundBody body → FitsAll past →
    IfThere Says (own_reply serial body past q)
own_says serial (Acceptor accepts values ids) past q sound h = acceptor_says accepts ids past q sound.2 h
own_says serial (Hopper life value) past q sound h = hopper_says serial life past q h
own_says serial (Bill accepts values ids) past q sound h = bill_says accepts past q h

pub there_or : {A : Type 0} (P : A → Type 0) (first second : Option A) → IfThere P first → IfThere P second → IfThere P (option_or first second)
there_or P None second h k = k
there_or P (Some x) second h k = h

reply_says : (d : DeviceSetup) (past : List Met) (q : Request) → IsSound d → FitsAll past → IfThere Says (reply_of d past q)
unfolding reply_of
reply_says d past q sound h =
    there_or Says (common_reply d q) (own_reply d.serial d.body past q) (common_says d q sound)
    (own_says d.serial d.body past q sound.body h)

-- what a device answers
spelled_reply : (d : DeviceSetup) (to : ℕ) (y : Reply) → IsSound d → to < 256 → Says y → Bytes (reply_bytes d to y)
spelled_reply d to y sound small says =
    spelled_bytes d.kind (replying to d.addr y) (record { to = small; from = omega (arith, sound.high); header = says.header; short = says.short; body = says.bytes })

spelled_there : (d : DeviceSetup) (to : ℕ) (found : Option Reply) → IsSound d → to < 256 → IfThere Says found → IfThere Bytes (option_map (reply_bytes d to) found)
spelled_there d to None sound small says = tt
spelled_there d to (Some y) sound small says = spelled_reply d to y sound small says

bare_bytes : (d : DeviceSetup) (q : Request) → IsSound d → IfThere Bytes (bare_answer d.addr q)
bare_bytes d AddressPoll sound = (omega (arith, sound.high), tt)
bare_bytes d q sound = tt

answer_by : (d : DeviceSetup) (past : List Met) (to : ℕ) (asks : Option Request) → IsSound d → FitsAll past → to < 256 → IfThere Bytes (answer_to d past to asks)
answer_by d past to None sound h small = tt
answer_by d past to (Some q) sound h small =
    there_or Bytes (option_map (reply_bytes d to) (reply_of d past q)) (bare_answer d.addr q)
    (spelled_there d to (reply_of d past q) sound small (reply_says d past q sound h)) (bare_bytes d q sound)

pub answer_bytes : (d : DeviceSetup) (past : List Met) (piece : List ℕ) → IsSound d → FitsAll past → Bytes piece → IfThere Bytes (answer d past piece)
answer_bytes d past piece sound h bytes = answer_by d past (asker d.kind piece) (asks_of d piece) sound h (asker_fits d.kind piece bytes)

-- what a list of bytes asks of it
asked_by : (here all : Bool) (found : Option Request) → IfThere FitsRequest found → IfThere FitsRequest (cond here (to_one found) (cond all (to_all found) None))
asked_by true all found h = to_one_fits found h
asked_by false true found h = to_all_fits found
asked_by false false found h = tt

pub asks_fit : (d : DeviceSetup) (piece : List ℕ) → Bytes piece → IfThere FitsRequest (asks_of d piece)
unfolding asks_of
asks_fit d piece h =
    there_then IsOfBytes FitsRequest (asked_of d.addr) (message d.kind piece) (message_bytes d.kind piece h)
    (λ m is. asked_by (m.to == d.addr) (m.to == 0) (request_of m.header m.body) (request_fits m.header m.body is.body))
