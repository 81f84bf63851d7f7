-- What a tap shows of a device is what the device is, where the wire does honest damage alone.
use Rattle.std.proofs.Common.{subst, ◌≡◌, ◌≢◌, ℕ, ◌+◌, ◌≤◌, ◌==◌, ◌&&◌, cond, true, false, Bool, List, [], ◌∷◌, ◌++◌, length, slice_index, flat_map, refl, ap, sym, ◌∙◌, Option, Some, None, option_and_then, unwrap_or, arith, eqb-true, length-append, length-take}
use Rattle.std.specs.Prelude.{⊤}
use Rattle.std.proofs.Math.Bool.{and-false}
use Rattle.cct_model.specs.terms.coin.Pair.{Pair}
use Rattle.cct_model.specs.terms.coin.Credits.{Credits}
use Rattle.cct_model.specs.terms.wire.CheckKind.{CheckKind}
use Rattle.cct_model.specs.terms.wire.CheckKind.TheVariants.{Simple, Crc}
use Rattle.cct_model.specs.terms.wire.TheConstants.{HOST, BROADCAST}
use Rattle.cct_model.specs.terms.device.DeviceBody.{DeviceBody}
use Rattle.cct_model.specs.terms.device.DeviceBody.TheVariants.{Acceptor, Bill, Hopper}
use Rattle.cct_model.specs.terms.device.DeviceSetup.{DeviceSetup}
use Rattle.cct_model.specs.terms.device.Setup.{Setup}
use Rattle.cct_model.specs.terms.request.Request.{Request}
use Rattle.cct_model.specs.terms.request.Request.TheVariants.{AddressPoll, ReadBills, ReadCredits, GetMask, GetLife, GetStatus, SetMask, ResetDevice, SerialNumber, Enable, Dispense}
use Rattle.cct_model.specs.terms.request.ReplyForm.{ReplyForm}
use Rattle.cct_model.specs.terms.request.ReplyForm.TheVariants as form
use Rattle.cct_model.specs.lines.command.WireFault.{WireFault}
use Rattle.cct_model.specs.lines.command.WireFault.TheVariants as fault
use Rattle.cct_model.specs.lines.entry.Entry.{Entry}
use Rattle.cct_model.specs.Message.{Message, message, spelling}
use Rattle.cct_model.specs.Request.{request_of}
use Rattle.cct_model.specs.Reply.{Reply, IsSayable, pair_bytes, reply_data, reply_header, reply_in}
use Rattle.cct_model.specs.Reply as reply
use Rattle.cct_model.specs.History.{Met}
use Rattle.cct_model.specs.Acceptor.{acceptor_reply, counter, credits_in, credits_of, events, last_five, mask_of, no_event}
use Rattle.cct_model.specs.Bill.{bill_events, bill_reply, bills_of}
use Rattle.cct_model.specs.Hopper.{dispense_reply, hopper_reply, last_paid, last_unpaid, life_count, payouts, remaining, status_of, taken_of}
use Rattle.cct_model.specs.Device.{IsSound, IsAcceptor, IsBill, IsHopper, IsTaker, common_reply, reply_of}
use Rattle.cct_model.specs.Job.{credits_request}
use Rattle.cct_model.specs.Setup.{IsSoundSetup}
use Rattle.cct_model.specs.Exchange.{asked_of, asker, asks_of, answer, after_echo, got, replying, reply_from, to_all, to_one}
use Rattle.cct_model.specs.Honest.{IsHonestFault}
use Rattle.cct_model.specs.Transcript.{answers, heard_after, heard_by_devices, met, pending}
use Rattle.cct_frame.specs.Frame.{carried}
use Rattle.cct_frame.proofs.Spellings.{written_back}
use Rattle.cct_msg.specs.Forms.{IsWhole, form_shown}
use Rattle.cct_msg.proofs.Exchanges.{reply_heard}
use Rattle.cct_laws.specs.Honesty.{DamagesHonestly, IsAddressPoll}
use Rattle.cct_laws.specs.Law.{IsOf}
use Rattle.cct_laws.specs.Takers.{told_events}
use Rattle.cct_laws.proofs.wire.Echoes.{echo_known, echo_off}
use Rattle.cct_laws.proofs.wire.Exchanges.{damaged_answers, empty_message, heard_is, heard_under, one_gives, silent_to}
use Rattle.cct_laws.proofs.wire.HeardBytes.{ask_to, asks_nothing, damaged_asks, none_under, message_placed}
use Rattle.cct_laws.proofs.wire.HonestFaults.{honest_means}
use Rattle.cct_laws.proofs.wire.Replies.{acceptor_is, bill_is, hopper_is, replied_credits, replied_life, replied_mask, replied_status, start_of, taker_is}
use Rattle.cct_laws.proofs.setups.DeviceAt.{found_in, same_some}
use Rattle.cct_audit_taps.specs.declared.shown.Shown.TheVariants.{Read, Masked}
use Rattle.cct_monitor.specs.Spans.{is_set}
use Rattle.cct_audit_taps.specs.Taps.{asks_at, life_by, life_in, life_shown, mask_in, read_in, shown, shown_by, tap_of}

pub none_some : {A : Type 0} (x : A) → None ≡ Some x → ⊥
none_some x e = cc

-- ---- whom bytes are for

-- what is asked of all is an address poll
poll_alone : (asked : Option Request) (q : Request) → to_all asked ≡ Some q → q ≡ AddressPoll
poll_alone None q is = absurd cc
poll_alone (Some AddressPoll) q is = cc
poll_alone (Some other) q is = absurd cc

for_one : (own all : Bool) (asked : Option Request) (q : Request) → (q ≡ AddressPoll → ⊥) →
    cond own (to_one asked) (cond all (to_all asked) None) ≡ Some q → own ≡ true
for_one true all asked q other is = refl
for_one false true asked q other is = absurd (other (poll_alone asked q is))
for_one false false asked q other is = absurd cc

first_by : (d : DeviceSetup) (piece : List ℕ) (q : Request) (found : Option Message) → message d.kind piece ≡ found →
    (q ≡ AddressPoll → ⊥) → option_and_then (asked_of d.addr) found ≡ Some q → slice_index piece 0 ≡ d.addr
first_by d piece q None was other is = absurd cc
first_by d piece q (Some m) was other is =
    let own = for_one (m.to == d.addr) (m.to == BROADCAST) (request_of m.header m.body) q other is in
    sym (message_placed d.kind piece m was).0 ∙ eqb-true m.to d.addr own

first_is : (d : DeviceSetup) (piece : List ℕ) (q : Request) → (q ≡ AddressPoll → ⊥) → asks_of d piece ≡ Some q →
    slice_index piece 0 ≡ d.addr
unfolding asks_of
first_is d piece q other is = first_by d piece q (message d.kind piece) refl other is

-- ---- the asked device alone answers

answer_is : (d : DeviceSetup) (past : List Met) (sent : List ℕ) (q : Request) (y : Reply) → asks_of d sent ≡ Some q →
    reply_of d past q ≡ Some y → answer d past sent ≡ Some (spelling d.kind (replying (asker d.kind sent) d.addr y))
answer_is d past sent q y asks replied = rw (asks, replied) refl

pub alone_answers : (setup : Setup) (d : DeviceSetup) (past : List Entry) (sent : List ℕ) → IsSoundSetup setup → IsOf setup d →
    slice_index sent 0 ≡ d.addr → answers setup past sent ≡ unwrap_or (answer d (met d past) sent) []
alone_answers setup d past sent sound own to_it =
    let low = (found_in IsSound setup.devices d.addr d sound.devices own).0.low in
    let some : d.addr ≢ 0 = omega (arith, low) in
    let silent : (e : DeviceSetup) → e.addr ≢ d.addr → unwrap_or (answer e (met e past) sent) [] ≡ [] =
    λ e other. silent_to e (met e past) sent
    (asks_nothing e sent (λ same. other (sym same ∙ to_it)) (λ zero. some (sym to_it ∙ zero))) in
    one_gives (λ e. unwrap_or (answer e (met e past) sent) []) d.addr d setup.devices silent sound.distinct own

answers_are : (setup : Setup) (d : DeviceSetup) (past : List Entry) (sent : List ℕ) (q : Request) (y : Reply) →
    IsSoundSetup setup → IsOf setup d → (q ≡ AddressPoll → ⊥) → asks_of d sent ≡ Some q →
    reply_of d (met d past) q ≡ Some y →
    answers setup past sent ≡ spelling d.kind (replying (asker d.kind sent) d.addr y)
answers_are setup d past sent q y sound own no_poll asks replied =
    alone_answers setup d past sent sound own (first_is d sent q no_poll asks)
    ∙ ap (λ found. unwrap_or found []) (answer_is d (met d past) sent q y asks replied)

-- the reply in a form that bytes from an address are
abbrev read_from : CheckKind → ℕ → ReplyForm → List ℕ → Option Reply
read_from kind addr wanted piece = option_and_then (reply_from wanted addr) (message kind piece)

-- a reply to another than the host is none
none_for : (kind : CheckKind) (wanted : ReplyForm) (to addr : ℕ) (y : Reply) → (to == HOST) ≡ false →
    reply_from wanted addr (carried kind (replying to addr y)) ≡ None
none_for Simple wanted to addr y test =
    ap (λ b. cond ((b && (addr == addr)) && (reply_header y == 0)) (reply_in wanted (reply_data y)) None) test
none_for Crc wanted to addr y test =
    ap (λ b. cond ((b && true) && (reply_header y == 0)) (reply_in wanted (reply_data y)) None) test

-- what is read of a reply is the reply
read_to : (kind : CheckKind) (wanted : ReplyForm) (to addr : ℕ) (y z : Reply) → form_shown y ≡ Some wanted → IsWhole y →
    IsSayable y → length (reply_data y) ≤ 255 →
    read_from kind addr wanted (spelling kind (replying to addr y)) ≡ Some z → z ≡ y
read_to kind wanted to addr y z fits whole sayable short is = by_host (to == HOST) refl
  where
    by_host : (b : Bool) → (to == HOST) ≡ b → z ≡ y
    by_host true test =
        same_some z y (sym is
        ∙ ap (λ n. read_from kind addr wanted (spelling kind (replying n addr y))) (eqb-true to HOST test)
        ∙ reply_heard kind wanted addr y fits whole sayable)
    by_host false test =
        absurd (none_some z (sym (none_for kind wanted to addr y test)
        ∙ ap (option_and_then (reply_from wanted addr)) (sym (written_back kind (replying to addr y) short refl))
        ∙ is))

-- ---- what is got under a fault

got_after : (kind : CheckKind) (addr : ℕ) (wanted : ReplyForm) (sent rest : List ℕ) →
    got kind addr wanted sent (sent ++ rest) ≡ read_from kind addr wanted rest
unfolding got
got_after kind addr wanted sent rest = ap (option_and_then (read_from kind addr wanted)) (echo_off sent rest)

none_read : (kind : CheckKind) (addr : ℕ) (wanted : ReplyForm) (piece : List ℕ) → message kind piece ≡ None →
    read_from kind addr wanted piece ≡ None
none_read kind addr wanted piece none = ap (option_and_then (reply_from wanted addr)) none

nothing_after : (kind : CheckKind) (addr : ℕ) (wanted : ReplyForm) (after : Option (List ℕ)) (z : Reply) →
    ((rest : List ℕ) → after ≡ Some rest → message kind rest ≡ None) →
    option_and_then (read_from kind addr wanted) after ≡ Some z → ⊥
nothing_after kind addr wanted None z none is = none_some z is
nothing_after kind addr wanted (Some rest) z none is =
    none_some z (sym (none_read kind addr wanted rest (none rest refl)) ∙ is)

not_got : (kind : CheckKind) (addr : ℕ) (wanted : ReplyForm) (sent heard : List ℕ) (z : Reply) →
    ((rest : List ℕ) → after_echo sent heard ≡ Some rest → message kind rest ≡ None) →
    got kind addr wanted sent heard ≡ Some z → ⊥
unfolding got
not_got kind addr wanted sent heard z none is = nothing_after kind addr wanted (after_echo sent heard) z none is

pub no_poll_to : (setup : Setup) (d : DeviceSetup) (sent : List ℕ) → IsSoundSetup setup → IsOf setup d →
    slice_index sent 0 ≡ d.addr → IsAddressPoll sent → ⊥
no_poll_to setup d sent sound own to_it poll =
    let low = (found_in IsSound setup.devices d.addr d sound.devices own).0.low in
    let zero : d.addr ≡ 0 = sym to_it ∙ ap (λ piece. slice_index piece 0) poll.1 ∙ ask_to poll.0 0 AddressPoll in
    omega (arith, low, zero)

no_address_poll : (setup : Setup) (d : DeviceSetup) (sent : List ℕ) (q : Request) → IsSoundSetup setup → IsOf setup d →
    (q ≡ AddressPoll → ⊥) → asks_of d sent ≡ Some q → IsAddressPoll sent → ⊥
no_address_poll setup d sent q sound own no_poll asks poll =
    no_poll_to setup d sent sound own (first_is d sent q no_poll asks) poll

-- what is got of the device is what it answers
got_clear : (setup : Setup) (d : DeviceSetup) (past : List Entry) (sent : List ℕ) (z : Reply) (wanted : ReplyForm)
    (f : WireFault) → (IsAddressPoll sent → ⊥) → DamagesHonestly f sent →
    got d.kind d.addr wanted sent (heard_under setup past f sent) ≡ Some z →
    read_from d.kind d.addr wanted (answers setup past sent) ≡ Some z
got_clear setup d past sent z wanted fault.Clear no_poll damage found =
    sym (got_after d.kind d.addr wanted sent (answers setup past sent)) ∙ found
got_clear setup d past sent z wanted (fault.DevicesHear piece) no_poll damage found =
    absurd (none_some z (sym (none_read d.kind d.addr wanted [] (empty_message d.kind))
    ∙ ap (read_from d.kind d.addr wanted) (sym (damaged_answers setup past piece damage))
    ∙ sym (got_after d.kind d.addr wanted sent (answers setup past piece)) ∙ found))
got_clear setup d past sent z wanted (fault.HostHears piece) no_poll damage found =
    let none = none_under d.kind piece (damage no_poll) in
    absurd (none_some z (sym (none_read d.kind d.addr wanted piece none)
    ∙ sym (got_after d.kind d.addr wanted sent piece) ∙ found))
got_clear setup d past sent z wanted (fault.WholeHeard piece) no_poll damage found =
    absurd (not_got d.kind d.addr wanted sent piece z
    (λ rest after. none_under d.kind rest ((damage no_poll).1 rest (echo_known sent piece rest after)))
    found)

-- a refusal is no other reply
refusal_by : (kind : CheckKind) (wanted : ReplyForm) (to addr : ℕ) →
    reply_from wanted addr (carried kind (replying to addr reply.nak)) ≡ None
refusal_by Simple wanted to addr =
    ap (λ b. cond b (reply_in wanted (reply_data reply.nak)) None) (and-false ((to == HOST) && (addr == addr)))
refusal_by Crc wanted to addr =
    ap (λ b. cond b (reply_in wanted (reply_data reply.nak)) None) (and-false ((to == HOST) && true))

nak_short : length (reply_data reply.nak) ≤ 255
unfolding reply_data
nak_short = omega arith

pub refused : (setup : Setup) (d : DeviceSetup) (past : List Entry) (sent : List ℕ) (q : Request) (z : Reply)
    (wanted : ReplyForm) → IsSoundSetup setup → IsOf setup d → IsHonestFault (pending past) sent → (q ≡ AddressPoll → ⊥) →
    asks_at d.kind d.addr sent ≡ Some q → reply_of d (met d past) q ≡ Some reply.nak →
    got d.kind d.addr wanted sent (heard_after setup past sent) ≡ Some z → ⊥
unfolding asks_of
refused setup d past sent q z wanted sound own honest no_poll asks replied found =
    let read : read_from d.kind d.addr wanted (answers setup past sent) ≡ Some z =
    got_clear setup d past sent z wanted (pending past) (no_address_poll setup d sent q sound own no_poll asks)
    (honest_means (pending past) sent honest)
    (ap (got d.kind d.addr wanted sent) (sym (heard_is setup past sent)) ∙ found) in
    let none : read_from d.kind d.addr wanted (answers setup past sent) ≡ None =
    ap (read_from d.kind d.addr wanted) (answers_are setup d past sent q reply.nak sound own no_poll asks replied)
    ∙ ap (option_and_then (reply_from wanted d.addr))
    (written_back d.kind (replying (asker d.kind sent) d.addr reply.nak) nak_short refl)
    ∙ refusal_by d.kind wanted (asker d.kind sent) d.addr in
    none_some z (sym none ∙ read)

-- what is got of a device that heard a request, whoever sent it, is its reply
reply_told : (setup : Setup) (d : DeviceSetup) (past : List Entry) (sent : List ℕ) (q : Request) (y z : Reply)
    (wanted : ReplyForm) → IsSoundSetup setup → IsOf setup d → IsHonestFault (pending past) sent →
    (q ≡ AddressPoll → ⊥) → asks_of d sent ≡ Some q → reply_of d (met d past) q ≡ Some y →
    form_shown y ≡ Some wanted → IsWhole y → IsSayable y → length (reply_data y) ≤ 255 →
    got d.kind d.addr wanted sent (heard_after setup past sent) ≡ Some z → z ≡ y
reply_told setup d past sent q y z wanted sound own honest no_poll asks replied fits whole sayable short found =
    read_to d.kind wanted (asker d.kind sent) d.addr y z fits whole sayable short
    (ap (read_from d.kind d.addr wanted) (sym (answers_are setup d past sent q y sound own no_poll asks replied))
    ∙ got_clear setup d past sent z wanted (pending past) (no_address_poll setup d sent q sound own no_poll asks)
    (honest_means (pending past) sent honest) (ap (got d.kind d.addr wanted sent) (sym (heard_is setup past sent)) ∙ found))

-- ---- what a tap shows

read_back : (y : Option Reply) (c : Credits) → read_in y ≡ Read c → y ≡ Some (reply.credits c)
read_back None c is = absurd cc
read_back (Some (reply.credits own)) c is = let same : own ≡ c = cc in ap (λ x. Some (reply.credits x)) same
read_back (Some y) c is = absurd cc

mask_back : (y : Option Reply) (mask : ℕ) → mask_in y ≡ Masked mask → y ≡ Some (reply.mask mask)
mask_back None mask is = absurd cc
mask_back (Some (reply.mask own)) mask is = let same : own ≡ mask = cc in ap (λ x. Some (reply.mask x)) same
mask_back (Some y) mask is = absurd cc

no_read : (y : Option Reply) (c : Credits) → mask_in y ≡ Read c → ⊥
no_read None c is = cc
no_read (Some (reply.mask own)) c is = cc
no_read (Some y) c is = cc

no_mask : (y : Option Reply) (mask : ℕ) → read_in y ≡ Masked mask → ⊥
no_mask None mask is = cc
no_mask (Some (reply.credits own)) mask is = cc
no_mask (Some y) mask is = cc

life_back : (y : Option Reply) (count : ℕ) → life_in y ≡ Some count → y ≡ Some (reply.life count)
life_back None count is = absurd cc
life_back (Some (reply.life own)) count is = let same : own ≡ count = cc in ap (λ x. Some (reply.life x)) same
life_back (Some y) count is = absurd cc

shown_read : (asked : Option Request) (replied : ReplyForm → Option Reply) (c : Credits) →
    shown_by asked replied ≡ Read c → (asked ≡ Some ReadCredits) × (replied form.Credits ≡ Some (reply.credits c))
shown_read None replied c is = absurd cc
shown_read (Some ReadCredits) replied c is = (refl, read_back (replied form.Credits) c is)
shown_read (Some GetMask) replied c is = absurd (no_read (replied form.Mask) c is)
shown_read (Some q) replied c is = absurd cc

shown_mask : (asked : Option Request) (replied : ReplyForm → Option Reply) (mask : ℕ) →
    shown_by asked replied ≡ Masked mask → (asked ≡ Some GetMask) × (replied form.Mask ≡ Some (reply.mask mask))
shown_mask None replied mask is = absurd cc
shown_mask (Some ReadCredits) replied mask is = absurd (no_mask (replied form.Credits) mask is)
shown_mask (Some GetMask) replied mask is = (refl, mask_back (replied form.Mask) mask is)
shown_mask (Some q) replied mask is = absurd cc

shown_life : (asked : Option Request) (replied : ReplyForm → Option Reply) (count : ℕ) →
    life_by asked replied ≡ Some count → (asked ≡ Some GetLife) × (replied form.Life ≡ Some (reply.life count))
shown_life None replied count is = absurd cc
shown_life (Some GetLife) replied count is = (refl, life_back (replied form.Life) count is)
shown_life (Some q) replied count is = absurd cc

-- what asks for no other mask, and for no reset
abbrev pub Keeps : Option Request → Type 0
Keeps (Some (SetMask mask)) = ⊥
Keeps (Some ResetDevice) = ⊥
Keeps asked = ⊤

kept_by : (asked : Option Request) (replied : ReplyForm → Option Reply) → is_set (shown_by asked replied) ≡ false →
    Keeps asked
kept_by None replied is = tt
kept_by (Some (SetMask mask)) replied is = absurd cc
kept_by (Some ResetDevice) replied is = absurd cc
kept_by (Some q) replied is = tt

-- ---- what the device replies

pair_lengths : (pairs : List Pair) → length (flat_map pair_bytes pairs) ≡ length pairs + length pairs
pair_lengths [] = omega arith
pair_lengths (pair ∷ pairs) = let rest = pair_lengths pairs in omega arith

pub five_kept : (newest : List Pair) → length (last_five newest) ≡ 5
five_kept newest =
    let blank : List Pair = no_event ∷ no_event ∷ no_event ∷ no_event ∷ no_event ∷ [] in
    length-take 5 (newest ++ blank) ∙ omega (arith, length-append newest blank)

credits_short : (c : Credits) → length c.pairs ≡ 5 → length (reply_data (reply.credits c)) ≤ 255
unfolding reply_data
credits_short c five = let all = pair_lengths c.pairs in omega arith

mask_short : (mask : ℕ) → length (reply_data (reply.mask mask)) ≤ 255
unfolding reply_data
mask_short mask = omega arith

life_short : (count : ℕ) → length (reply_data (reply.life count)) ≤ 255
unfolding reply_data
life_short count = omega arith

pub credits_replied : (d : DeviceSetup) (past : List Met) → IsAcceptor d.body →
    reply_of d past ReadCredits ≡ Some (reply.credits (credits_of past))
unfolding reply_of common_reply acceptor_reply
credits_replied d past accepting = acceptor_is d.serial d.body past ReadCredits accepting

pub mask_replied : (d : DeviceSetup) (past : List Met) → IsAcceptor d.body →
    reply_of d past GetMask ≡ Some (reply.mask (mask_of past))
unfolding reply_of common_reply acceptor_reply
mask_replied d past accepting = acceptor_is d.serial d.body past GetMask accepting

pub bills_replied : (d : DeviceSetup) (past : List Met) → IsBill d.body →
    reply_of d past ReadBills ≡ Some (reply.credits (bills_of past))
unfolding reply_of common_reply bill_reply
bills_replied d past banking = bill_is d.serial d.body past ReadBills banking

pub same_credits : (c own : Credits) → reply.credits c ≡ reply.credits own → c ≡ own
same_credits c own e = cc

same_mask : (mask own : ℕ) → reply.mask mask ≡ reply.mask own → mask ≡ own
same_mask mask own e = cc

same_life : (count own : ℕ) → reply.life count ≡ reply.life own → count ≡ own
same_life count own e = cc

-- what a tap of a device shows, at which the devices met all this
pub record Told (d : DeviceSetup) (past : List Entry) (sent heard : List ℕ) : Type 0 where
  pub read : (c : Credits) → shown d.kind d.addr (tap_of sent heard) ≡ Read c → c ≡ credits_of (met d past)
  pub masked : (mask : ℕ) → shown d.kind d.addr (tap_of sent heard) ≡ Masked mask → mask ≡ mask_of (met d past)
  pub keeps : is_set (shown d.kind d.addr (tap_of sent heard)) ≡ false →
      Keeps (asks_of d (heard_by_devices (pending past) sent))

read_told : (setup : Setup) (d : DeviceSetup) (past : List Entry) (sent : List ℕ) (c : Credits) → IsSoundSetup setup →
    IsOf setup d → IsAcceptor d.body → IsHonestFault (pending past) sent →
    shown d.kind d.addr (tap_of sent (heard_after setup past sent)) ≡ Read c → c ≡ credits_of (met d past)
unfolding asks_of
read_told setup d past sent c sound own accepting honest is =
    let parts = shown_read (option_and_then (asked_of d.addr) (message d.kind sent))
    (λ wanted. got d.kind d.addr wanted sent (heard_after setup past sent)) c is in
    same_credits c (credits_of (met d past))
    (reply_told setup d past sent ReadCredits _ _ form.Credits sound own honest (λ e. cc) parts.0
    (credits_replied d (met d past) accepting) refl (five_kept (events (met d past))) tt
    (credits_short (credits_of (met d past)) (five_kept (events (met d past)))) parts.1)

mask_told : (setup : Setup) (d : DeviceSetup) (past : List Entry) (sent : List ℕ) (mask : ℕ) → IsSoundSetup setup →
    IsOf setup d → IsAcceptor d.body → IsHonestFault (pending past) sent →
    shown d.kind d.addr (tap_of sent (heard_after setup past sent)) ≡ Masked mask → mask ≡ mask_of (met d past)
unfolding asks_of
mask_told setup d past sent mask sound own accepting honest is =
    let parts = shown_mask (option_and_then (asked_of d.addr) (message d.kind sent))
    (λ wanted. got d.kind d.addr wanted sent (heard_after setup past sent)) mask is in
    same_mask mask (mask_of (met d past))
    (reply_told setup d past sent GetMask _ _ form.Mask sound own honest (λ e. cc) parts.0
    (mask_replied d (met d past) accepting) refl tt tt
    (mask_short (mask_of (met d past))) parts.1)

keeps_under : (d : DeviceSetup) (f : WireFault) (sent : List ℕ) → DamagesHonestly f sent → Keeps (asks_of d sent) →
    Keeps (asks_of d (heard_by_devices f sent))
keeps_under d fault.Clear sent damage keeps = keeps
keeps_under d (fault.DevicesHear piece) sent damage keeps = rw (damaged_asks d piece damage) tt
keeps_under d (fault.HostHears piece) sent damage keeps = keeps
keeps_under d (fault.WholeHeard piece) sent damage keeps = keeps

keeps_asked : (d : DeviceSetup) (sent heard : List ℕ) → is_set (shown d.kind d.addr (tap_of sent heard)) ≡ false →
    Keeps (asks_of d sent)
unfolding asks_of
keeps_asked d sent heard is =
    kept_by (option_and_then (asked_of d.addr) (message d.kind sent)) (λ wanted. got d.kind d.addr wanted sent heard) is

pub told : (setup : Setup) (d : DeviceSetup) (past : List Entry) (sent : List ℕ) → IsSoundSetup setup → IsOf setup d →
    IsAcceptor d.body → IsHonestFault (pending past) sent → Told d past sent (heard_after setup past sent)
told setup d past sent sound own accepting honest = record {
  read = λ c is. read_told setup d past sent c sound own accepting honest is;
  masked = λ mask is. mask_told setup d past sent mask sound own accepting honest is;
  keeps = λ is. keeps_under d (pending past) sent (honest_means (pending past) sent honest)
      (keeps_asked d sent (heard_after setup past sent) is);
}

-- what a tap of a bill acceptor shows that asks for its events
pub bills_told : (setup : Setup) (d : DeviceSetup) (past : List Entry) (sent : List ℕ) (c : Credits) → IsSoundSetup setup →
    IsOf setup d → IsBill d.body → IsHonestFault (pending past) sent → asks_at d.kind d.addr sent ≡ Some ReadBills →
    got d.kind d.addr form.Credits sent (heard_after setup past sent) ≡ Some (reply.credits c) → c ≡ bills_of (met d past)
unfolding asks_of
bills_told setup d past sent c sound own banking honest asks found =
    same_credits c (bills_of (met d past))
    (reply_told setup d past sent ReadBills _ _ form.Credits sound own honest (λ e. cc) asks
    (bills_replied d (met d past) banking) refl (five_kept (bill_events (met d past))) tt
    (credits_short (bills_of (met d past)) (five_kept (bill_events (met d past)))) found)

-- the life count that a tap of a hopper shows
pub told_life : (setup : Setup) (d : DeviceSetup) (past : List Entry) (sent : List ℕ) (count : ℕ) → IsSoundSetup setup →
    IsOf setup d → IsHopper d.body → IsHonestFault (pending past) sent →
    life_shown d.kind d.addr (tap_of sent (heard_after setup past sent)) ≡ Some count →
    count ≡ life_count d.serial (start_of d.body) (met d past)
unfolding asks_of
told_life setup d past sent count sound own paying honest is =
    let parts = shown_life (option_and_then (asked_of d.addr) (message d.kind sent))
    (λ wanted. got d.kind d.addr wanted sent (heard_after setup past sent)) count is in
    same_life count (life_count d.serial (start_of d.body) (met d past))
    (reply_told setup d past sent GetLife _ _ form.Life sound own honest (λ e. cc) parts.0
    (replied_life d (met d past) paying) refl tt (omega arith)
    (life_short (life_count d.serial (start_of d.body) (met d past))) parts.1)

-- what a tap shows of a device that takes money, whatever money that is

no_poll_request : (body : DeviceBody) → credits_request body ≡ AddressPoll → ⊥
no_poll_request (Acceptor counted values ids) is = cc
no_poll_request (Hopper life value) is = cc
no_poll_request (Bill counted values ids) is = cc

pub coins_request : (body : DeviceBody) → IsAcceptor body → credits_request body ≡ ReadCredits
coins_request (Acceptor counted values ids) accepting = refl
coins_request (Hopper life value) accepting = absurd accepting
coins_request (Bill counted values ids) accepting = absurd accepting

pub bills_request : (body : DeviceBody) → IsBill body → credits_request body ≡ ReadBills
bills_request (Acceptor counted values ids) banking = absurd banking
bills_request (Hopper life value) banking = absurd banking
bills_request (Bill counted values ids) banking = refl

pub events_told : (setup : Setup) (d : DeviceSetup) (past : List Entry) (sent : List ℕ) (c : Credits) → IsSoundSetup setup →
    IsOf setup d → IsTaker d.body → IsHonestFault (pending past) sent →
    asks_at d.kind d.addr sent ≡ Some (credits_request d.body) →
    got d.kind d.addr form.Credits sent (heard_after setup past sent) ≡ Some (reply.credits c) →
    c ≡ credits_in (told_events d.body (met d past))
unfolding asks_of
events_told setup d past sent c sound own taking honest asks found =
    let told : Credits = credits_in (told_events d.body (met d past)) in
    same_credits c told
    (reply_told setup d past sent (credits_request d.body) _ _ form.Credits sound own honest (no_poll_request d.body) asks
    (replied_credits d (met d past) taking) refl (five_kept (told_events d.body (met d past))) tt
    (credits_short told (five_kept (told_events d.body (met d past)))) found)

pub masks_told : (setup : Setup) (d : DeviceSetup) (past : List Entry) (sent : List ℕ) (mask : ℕ) → IsSoundSetup setup →
    IsOf setup d → IsTaker d.body → IsHonestFault (pending past) sent → asks_at d.kind d.addr sent ≡ Some GetMask →
    got d.kind d.addr form.Mask sent (heard_after setup past sent) ≡ Some (reply.mask mask) → mask ≡ mask_of (met d past)
unfolding asks_of
masks_told setup d past sent mask sound own taking honest asks found =
    same_mask mask (mask_of (met d past))
    (reply_told setup d past sent GetMask _ _ form.Mask sound own honest (λ e. cc) asks
    (replied_mask d (met d past) taking) refl tt tt
    (mask_short (mask_of (met d past))) found)

-- what a device acknowledges it heard

acted_under : (setup : Setup) (d : DeviceSetup) (past : List Entry) (sent : List ℕ) (q : Request) (z : Reply)
    (wanted : ReplyForm) (f : WireFault) → asks_of d sent ≡ Some q → DamagesHonestly f sent →
    got d.kind d.addr wanted sent (heard_under setup past f sent) ≡ Some z → asks_of d (heard_by_devices f sent) ≡ Some q
acted_under setup d past sent q z wanted fault.Clear asks damage found = asks
acted_under setup d past sent q z wanted (fault.DevicesHear piece) asks damage found =
    absurd (none_some z (sym (none_read d.kind d.addr wanted [] (empty_message d.kind))
    ∙ ap (read_from d.kind d.addr wanted) (sym (damaged_answers setup past piece damage))
    ∙ sym (got_after d.kind d.addr wanted sent (answers setup past piece)) ∙ found))
acted_under setup d past sent q z wanted (fault.HostHears piece) asks damage found = asks
acted_under setup d past sent q z wanted (fault.WholeHeard piece) asks damage found = asks

pub acked : (setup : Setup) (d : DeviceSetup) (past : List Entry) (sent : List ℕ) (q : Request) → IsSoundSetup setup →
    IsOf setup d → IsHonestFault (pending past) sent → (q ≡ AddressPoll → ⊥) → asks_at d.kind d.addr sent ≡ Some q →
    reply_of d (met d past) q ≡ Some reply.ack →
    got d.kind d.addr form.Ack sent (heard_after setup past sent) ≡ Some reply.ack →
    asks_of d (heard_by_devices (pending past) sent) ≡ Some q
unfolding asks_of
acked setup d past sent q sound own honest no_poll asks replied found =
    acted_under setup d past sent q reply.ack form.Ack (pending past) asks
    (honest_means (pending past) sent honest)
    (ap (got d.kind d.addr form.Ack sent) (sym (heard_is setup past sent)) ∙ found)

pub set_replied : (d : DeviceSetup) (past : List Met) (mask : ℕ) → IsTaker d.body →
    reply_of d past (SetMask mask) ≡ Some reply.ack
unfolding reply_of common_reply acceptor_reply bill_reply
set_replied d past mask taking = taker_is d.serial d.body past (SetMask mask) (Some reply.ack) taking refl refl

pub reset_replied : (d : DeviceSetup) (past : List Met) → reply_of d past ResetDevice ≡ Some reply.ack
unfolding reply_of common_reply
reset_replied d past = refl

-- a device hears what was sent, or nothing that asks something
asked_under : (d : DeviceSetup) (f : WireFault) (sent : List ℕ) → DamagesHonestly f sent → (P : Option Request → Type 0) →
    P None → P (asks_of d sent) → P (asks_of d (heard_by_devices f sent))
asked_under d fault.Clear sent damage P none is = is
asked_under d (fault.DevicesHear piece) sent damage P none is = subst P (sym (damaged_asks d piece damage)) none
asked_under d (fault.HostHears piece) sent damage P none is = is
asked_under d (fault.WholeHeard piece) sent damage P none is = is

pub asked_or_none : (d : DeviceSetup) (past : List Entry) (sent : List ℕ) → IsHonestFault (pending past) sent →
    (P : Option Request → Type 0) → P None → P (asks_at d.kind d.addr sent) →
    P (asks_of d (heard_by_devices (pending past) sent))
unfolding asks_of
asked_or_none d past sent honest P none is =
    asked_under d (pending past) sent (honest_means (pending past) sent honest) P none is

-- what a hopper replies, and what a tap of it shows

pub enable_replied : (d : DeviceSetup) (past : List Met) (code : ℕ) → IsHopper d.body →
    reply_of d past (Enable code) ≡ Some reply.ack
unfolding reply_of common_reply hopper_reply
enable_replied d past code paying = hopper_is d.serial d.body past (Enable code) paying

pub dispense_replied : (d : DeviceSetup) (past : List Met) (serial count : ℕ) → IsHopper d.body →
    reply_of d past (Dispense serial count)
    ≡ Some (dispense_reply (taken_of d.serial past (Some (Dispense serial count))))
unfolding reply_of common_reply hopper_reply
dispense_replied d past serial count paying = hopper_is d.serial d.body past (Dispense serial count) paying

serial_replied : (d : DeviceSetup) (past : List Met) → reply_of d past SerialNumber ≡ Some (reply.serial d.serial)
unfolding reply_of common_reply
serial_replied d past = refl

serial_short : (serial : ℕ) → length (reply_data (reply.serial serial)) ≤ 255
unfolding reply_data
serial_short serial = omega arith

same_serial : (serial own : ℕ) → reply.serial serial ≡ reply.serial own → serial ≡ own
same_serial serial own e = cc

pub told_serial : (setup : Setup) (d : DeviceSetup) (past : List Entry) (sent : List ℕ) (serial : ℕ) →
    IsSoundSetup setup → IsOf setup d → IsHonestFault (pending past) sent →
    asks_at d.kind d.addr sent ≡ Some SerialNumber →
    got d.kind d.addr form.Serial sent (heard_after setup past sent) ≡ Some (reply.serial serial) → serial ≡ d.serial
unfolding asks_of
told_serial setup d past sent serial sound own honest asks found =
    same_serial serial d.serial
    (reply_told setup d past sent SerialNumber _ _ form.Serial sound own honest (λ e. cc) asks
    (serial_replied d (met d past)) refl tt ((found_in IsSound setup.devices d.addr d sound.devices own).0.serial)
    (serial_short d.serial) found)

status_short : (events remaining paid unpaid : ℕ) → length (reply_data (reply.status events remaining paid unpaid)) ≤ 255
unfolding reply_data
status_short events remaining paid unpaid = omega arith

same_status : (e r p u events rest paid unpaid : ℕ) → reply.status e r p u ≡ reply.status events rest paid unpaid →
    (e ≡ events) × (r ≡ rest) × (p ≡ paid)
same_status e r p u events rest paid unpaid is = (cc, cc, cc)

pub told_status : (setup : Setup) (d : DeviceSetup) (past : List Entry) (sent : List ℕ) (e r p u : ℕ) →
    IsSoundSetup setup → IsOf setup d → IsHopper d.body → IsHonestFault (pending past) sent →
    asks_at d.kind d.addr sent ≡ Some GetStatus →
    got d.kind d.addr form.Status sent (heard_after setup past sent) ≡ Some (reply.status e r p u) →
    (e ≡ counter (payouts d.serial (met d past))) × (r ≡ remaining d.serial (met d past))
    × (p ≡ last_paid d.serial (met d past))
unfolding asks_of
told_status setup d past sent e r p u sound own paying honest asks found =
    let ms : List Met = met d past in
    let told : Reply = status_of d.serial ms in
    same_status e r p u (counter (payouts d.serial ms)) (remaining d.serial ms) (last_paid d.serial ms) (last_unpaid d.serial ms)
    (reply_told setup d past sent GetStatus _ _ form.Status sound own honest (λ e. cc) asks
    (replied_status d ms paying) refl tt tt
    (status_short (counter (payouts d.serial ms)) (remaining d.serial ms) (last_paid d.serial ms) (last_unpaid d.serial ms)) found)
