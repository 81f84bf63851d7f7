-- A tap for another address shows nothing of a device.
use Rattle.std.proofs.Common.{◌≡◌, ℕ, ◌+◌, ◌*◌, ◌%◌, ◌==◌, ◌&&◌, Bool, true, false, cond, List, [], ◌∷◌, refl, ap, ap₂, ◌∙◌, Option, Some, None, option_and_then, sum, take, slice_index}
use Rattle.cct_model.specs.terms.wire.TheConstants.{BROADCAST}
use Rattle.cct_model.specs.terms.wire.CheckKind.{CheckKind}
use Rattle.cct_model.specs.terms.wire.CheckKind.TheVariants.{Simple, Crc}
use Rattle.cct_model.specs.terms.request.Request.{Request}
use Rattle.cct_model.specs.terms.request.Request.TheVariants.{AddressPoll, SetMask}
use Rattle.cct_model.specs.terms.request.ReplyForm.{ReplyForm}
use Rattle.cct_model.specs.Exchange.{after_echo, asked_of, got, to_all, to_one}
use Rattle.cct_model.specs.Message.{Message, message, length_agrees, crc}
use Rattle.cct_model.specs.Reply.{Reply}
use Rattle.cct_model.specs.Request.{request_of}
use Rattle.cct_audit_taps.specs.declared.shown.Shown.{Shown}
use Rattle.cct_audit_taps.specs.declared.shown.Shown.TheVariants.{Nothing}
use Rattle.cct_monitor.specs.declared.watched.Kept.{Kept}
use Rattle.cct_monitor.specs.declared.watched.Kept.TheVariants.{Acceptor, QuietAcceptor, Premises, Hopper, HopperPremises}
use Rattle.cct_monitor.specs.declared.tally.Tally.{Tally}
use Rattle.cct_audit_taps.specs.declared.money.Money.{Money}
use Rattle.cct_audit_taps.specs.declared.money.Money.TheVariants.{Coins, Bills}
use Rattle.cct_monitor.specs.declared.watched.Family.{Family}
use Rattle.cct_monitor.specs.declared.watched.Family.TheVariants as family
use Rattle.cct_monitor.specs.declared.watched.Watched.{Watched}
use Rattle.cct_audit_taps.specs.declared.signs.Sign.TheVariants as signs
use Rattle.cct_audit_taps.specs.Signs.{broken_by, known_on, sign, sign_by}
use Rattle.cct_audit_taps.specs.declared.deeds.Deed.TheVariants as deeds
use Rattle.cct_audit_taps.specs.Deeds.{deed, deed_by, hopper_broken_by, hopper_on}
use Rattle.cct_audit_taps.specs.Taps.{Tap, asks_at, bills_by, but_masks, is_message, is_of_other, is_to, life_by, life_shown, quiet_shown, shown, shown_by, tap_of}
use Rattle.cct_monitor.specs.Tallies.{is_counted, is_events, is_life, is_mask, is_masked, is_reading, tally_by, tally_more}
use Rattle.cct_monitor.specs.Lives.{fell_by}
use Rattle.cct_monitor.specs.Machine.{acceptor_on, acceptor_says, family_of, kept_on, last_on, life_on, quiet_says, says_by, says_on, watched_on}

-- what is asked shows nothing, whatever is replied
pub record IsIdle (asked : Option Request) : Type 0 where
  pub looks : (replied : ReplyForm → Option Reply) → shown_by asked replied ≡ Nothing
  pub bills : (replied : ReplyForm → Option Reply) → bills_by asked replied ≡ Nothing
  pub premises : (money : Money) (replied : ReplyForm → Option Reply) → sign_by money asked replied ≡ signs.Nothing
  pub lives : (replied : ReplyForm → Option Reply) → life_by asked replied ≡ None
  pub hoppers : (replied : ReplyForm → Option Reply) → deed_by asked replied ≡ deeds.Nothing

no_request : IsIdle None
no_request = record {
  looks = λ replied. refl;
  bills = λ replied. refl;
  premises = λ money replied. refl;
  lives = λ replied. refl;
  hoppers = λ replied. refl;
}

asked_all : (asked : Option Request) → IsIdle (to_all asked)
asked_all (Some AddressPoll) = record {
  looks = λ replied. refl;
  bills = λ replied. refl;
  premises = λ money replied. refl;
  lives = λ replied. refl;
  hoppers = λ replied. refl;
}
asked_all asked = no_request

asked_other : (addr : ℕ) (m : Message) → (m.to == addr) ≡ false → IsIdle (asked_of addr m)
asked_other addr m other = by_tests (m.to == addr) (m.to == BROADCAST) (request_of m.header m.body) other
  where
    by_tests : (own all : Bool) (request : Option Request) → own ≡ false →
        IsIdle (cond own (to_one request) (cond all (to_all request) None))
    by_tests true all request other = absurd cc
    by_tests false true request other = asked_all request
    by_tests false false request other = no_request

if_whole : (addr : ℕ) (whole : Bool) (m : Message) → (m.to == addr) ≡ false →
    IsIdle (option_and_then (asked_of addr) (cond whole (Some m) None))
if_whole addr true m other = asked_other addr m other
if_whole addr false m other = no_request

pub by_kind : (addr to : ℕ) (kind : CheckKind) (rest : List ℕ) → (to == addr) ≡ false →
    IsIdle (asks_at kind addr (to ∷ rest))
unfolding message
by_kind addr to Simple [] other = no_request
by_kind addr to Simple (said ∷ []) other = no_request
by_kind addr to Simple (said ∷ from ∷ []) other = no_request
by_kind addr to Simple (said ∷ from ∷ header ∷ rest) other =
    if_whole addr (length_agrees said rest && (sum (to ∷ said ∷ from ∷ header ∷ rest) % 256 == 0))
    (record { to = to; from = Some from; header = header; body = take said rest }) other
by_kind addr to Crc [] other = no_request
by_kind addr to Crc (said ∷ []) other = no_request
by_kind addr to Crc (said ∷ low ∷ []) other = no_request
by_kind addr to Crc (said ∷ low ∷ header ∷ rest) other =
    if_whole addr
    (length_agrees said rest && (crc (to ∷ said ∷ header ∷ take said rest) == low + 256 * slice_index rest said))
    (record { to = to; from = None; header = header; body = take said rest }) other

by_nothing : (addr : ℕ) (kind : CheckKind) → IsIdle (asks_at kind addr [])
unfolding message
by_nothing addr Simple = no_request
by_nothing addr Crc = no_request

-- nor is it a message to the device
if_one : (addr : ℕ) (whole : Bool) (m : Message) → (m.to == addr) ≡ false → is_to addr (cond whole (Some m) None) ≡ false
if_one addr true m other = other
if_one addr false m other = refl

pub no_message : (addr to : ℕ) (kind : CheckKind) (rest : List ℕ) → (to == addr) ≡ false →
    is_message kind addr (to ∷ rest) ≡ false
unfolding message
no_message addr to Simple [] other = refl
no_message addr to Simple (said ∷ []) other = refl
no_message addr to Simple (said ∷ from ∷ []) other = refl
no_message addr to Simple (said ∷ from ∷ header ∷ rest) other =
    if_one addr (length_agrees said rest && (sum (to ∷ said ∷ from ∷ header ∷ rest) % 256 == 0))
    (record { to = to; from = Some from; header = header; body = take said rest }) other
no_message addr to Crc [] other = refl
no_message addr to Crc (said ∷ []) other = refl
no_message addr to Crc (said ∷ low ∷ []) other = refl
no_message addr to Crc (said ∷ low ∷ header ∷ rest) other =
    if_one addr
    (length_agrees said rest && (crc (to ∷ said ∷ header ∷ take said rest) == low + 256 * slice_index rest said))
    (record { to = to; from = None; header = header; body = take said rest }) other

no_message_in : (addr : ℕ) (kind : CheckKind) → is_message kind addr [] ≡ false
unfolding message
no_message_in addr Simple = refl
no_message_in addr Crc = refl

-- a tap that is no message to a device, and shows nothing of it, changes nothing, and makes nothing said
still_nothing : (asked : Option Request) (s : Shown) → s ≡ Nothing → but_masks asked s ≡ Nothing
still_nothing None s is = is
still_nothing (Some (SetMask mask)) s is = refl
still_nothing (Some q) s is = is

look_is : (kind : CheckKind) (addr : ℕ) (t : Tap) → IsIdle (asks_at kind addr t.sent) → shown kind addr t ≡ Nothing
look_is kind addr t idle = idle.looks (λ form. got kind addr form t.sent t.heard)

quiet_look_is : (money : Money) (kind : CheckKind) (addr : ℕ) (t : Tap) → IsIdle (asks_at kind addr t.sent) →
    quiet_shown money kind addr t ≡ Nothing
quiet_look_is Coins kind addr t idle = still_nothing (asks_at kind addr t.sent) (shown kind addr t) (look_is kind addr t idle)
quiet_look_is Bills kind addr t idle = idle.bills (λ form. got kind addr form t.sent t.heard)

sign_is : (money : Money) (kind : CheckKind) (addr : ℕ) (t : Tap) → is_message kind addr t.sent ≡ false →
    IsIdle (asks_at kind addr t.sent) → sign money kind addr t ≡ signs.Nothing
sign_is money kind addr t none idle =
    ap (λ b. cond (b && is_of_other addr (option_and_then (message kind) (after_echo t.sent t.heard))) signs.OtherAnswers
    (sign_by money (asks_at kind addr t.sent) (λ form. got kind addr form t.sent t.heard))) none
    ∙ idle.premises money (λ form. got kind addr form t.sent t.heard)

live_is : (kind : CheckKind) (addr : ℕ) (t : Tap) → IsIdle (asks_at kind addr t.sent) → life_shown kind addr t ≡ None
live_is kind addr t idle = idle.lives (λ form. got kind addr form t.sent t.heard)

deed_is : (kind : CheckKind) (addr : ℕ) (t : Tap) → is_message kind addr t.sent ≡ false →
    IsIdle (asks_at kind addr t.sent) → deed kind addr t ≡ deeds.Nothing
deed_is kind addr t none idle =
    ap (λ b. cond (b && is_of_other addr (option_and_then (message kind) (after_echo t.sent t.heard))) deeds.OtherAnswers
    (deed_by (asks_at kind addr t.sent) (λ form. got kind addr form t.sent t.heard))) none
    ∙ idle.hoppers (λ form. got kind addr form t.sent t.heard)

tally_same : (fam : Family) (kind : CheckKind) (addr : ℕ) (t : Tap) (tally : Tally) → is_message kind addr t.sent ≡ false →
    IsIdle (asks_at kind addr t.sent) → tally_by fam kind addr t tally ≡ tally
tally_same family.Acceptor kind addr t tally none idle =
    ap₂ (λ to_it s. tally_more to_it (is_reading s) (is_masked s) tally) none (look_is kind addr t idle)
tally_same (family.QuietAcceptor money) kind addr t tally none idle =
    ap₂ (λ to_it s. tally_more to_it (is_reading s) (is_masked s) tally) none (quiet_look_is money kind addr t idle)
tally_same (family.Premises money) kind addr t tally none idle =
    ap₂ (λ to_it s. tally_more to_it (is_events s) (is_mask s) tally) none (sign_is money kind addr t none idle)
tally_same family.Hopper kind addr t tally none idle =
    ap₂ (λ to_it s. tally_more to_it (is_life s) false tally) none (live_is kind addr t idle)
tally_same family.HopperPremises kind addr t tally none idle =
    ap₂ (λ to_it s. tally_more to_it (is_counted s) false tally) none (deed_is kind addr t none idle)

keeps : (kind : CheckKind) (addr : ℕ) (t : Tap) (number : ℕ) (kept : Kept) → is_message kind addr t.sent ≡ false →
    IsIdle (asks_at kind addr t.sent) → kept_on kind addr t number kept ≡ kept
keeps kind addr t number (Acceptor kept) none idle = ap (λ s. Acceptor (acceptor_on s number kept)) (look_is kind addr t idle)
keeps kind addr t number (QuietAcceptor money last) none idle =
    ap (λ s. QuietAcceptor money (last_on s number last)) (quiet_look_is money kind addr t idle)
keeps kind addr t number (Premises money known) none idle =
    ap (λ s. Premises money (known_on number s known)) (sign_is money kind addr t none idle)
keeps kind addr t number (Hopper life) none idle = ap (λ s. Hopper (life_on s number life)) (live_is kind addr t idle)
keeps kind addr t number (HopperPremises known) none idle =
    ap (λ s. HopperPremises (hopper_on number s known)) (deed_is kind addr t none idle)

is_silent : (kind : CheckKind) (addr : ℕ) (t : Tap) (number : ℕ) (kept : Kept) → is_message kind addr t.sent ≡ false →
    IsIdle (asks_at kind addr t.sent) → says_by kind addr t number kept ≡ []
is_silent kind addr t number (Acceptor kept) none idle = ap (λ s. acceptor_says addr s number kept) (look_is kind addr t idle)
is_silent kind addr t number (QuietAcceptor money last) none idle =
    ap (λ s. quiet_says addr s number last) (quiet_look_is money kind addr t idle)
is_silent kind addr t number (Premises money known) none idle =
    ap (λ s. broken_by addr number s known) (sign_is money kind addr t none idle)
is_silent kind addr t number (Hopper life) none idle = ap (λ s. fell_by addr number s life) (live_is kind addr t idle)
is_silent kind addr t number (HopperPremises known) none idle =
    ap (λ s. hopper_broken_by addr number s known) (deed_is kind addr t none idle)

-- a tap passes a device by
pub record PassesBy (t : Tap) (number : ℕ) (w : Watched) : Type 0 where
  pub same : watched_on t number w ≡ w
  pub silent : says_on t number w ≡ []

idle_passes : (t : Tap) (number : ℕ) (w : Watched) → is_message w.kind w.addr t.sent ≡ false →
    IsIdle (asks_at w.kind w.addr t.sent) → PassesBy t number w
idle_passes t number w none idle = record {
  same = ap₂ (λ (tally : Tally) (kept : Kept). record { addr = w.addr; kind = w.kind; tally = tally; kept = kept })
      (tally_same (family_of w.kept) w.kind w.addr t w.tally none idle) (keeps w.kind w.addr t number w.kept none idle);
  silent = is_silent w.kind w.addr t number w.kept none idle;
}

pub other_passes : (to : ℕ) (rest heard : List ℕ) (number : ℕ) (w : Watched) → (w.addr == to) ≡ false →
    (to == w.addr) ≡ false → PassesBy (tap_of (to ∷ rest) heard) number w
other_passes to rest heard number w other same =
    idle_passes (tap_of (to ∷ rest) heard) number w (no_message w.addr to w.kind rest same) (by_kind w.addr to w.kind rest same)

pub nothing_passes : (heard : List ℕ) (number : ℕ) (w : Watched) → PassesBy (tap_of [] heard) number w
nothing_passes heard number w = idle_passes (tap_of [] heard) number w (no_message_in w.addr w.kind) (by_nothing w.addr w.kind)
