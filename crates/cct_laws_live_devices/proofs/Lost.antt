-- An exchange in which a host hears no reply is in some world, whether or not the devices heard it; so does one that goes
-- as it is to.
use Rattle.std.proofs.Common.{◌≡◌, inl, inr, ℕ, ◌==◌, ◌||◌, Bool, true, false, List, [], ◌∷◌, ◌++◌, refl, sym, ap, ◌∙◌, subst, Option, None}
use Rattle.std.specs.Prelude.{flat_map, unwrap_or}
use Rattle.cct_model.specs.terms.wire.TheConstants.{BROADCAST}
use Rattle.cct_model.specs.terms.device.DeviceSetup.{DeviceSetup}
use Rattle.cct_model.specs.terms.device.Setup.{Setup}
use Rattle.cct_model.specs.lines.command.WireFault.TheVariants as fault
use Rattle.cct_model.specs.lines.entry.Entry.{Entry}
use Rattle.cct_model.specs.lines.entry.Entry.TheVariants as entry
use Rattle.cct_model.specs.Exchange.{answer, answer_to, asker, by_address}
use Rattle.cct_model.specs.Honest.{IsHonestFault, has_no_message, is_address_poll}
use Rattle.cct_model.specs.Message.{message}
use Rattle.cct_model.specs.Transcript.{answers, heard_after, heard_by_devices, heard_by_host, met, pending}
use Rattle.cct_laws.specs.Honesty.{IsNoMessage}
use Rattle.cct_laws.proofs.wire.Echoes.{echo_off}
use Rattle.cct_laws.proofs.wire.HeardBytes.{damaged_asks}
use Rattle.cct_laws.proofs.wire.HonestFaults.{means_honest}
use Rattle.cct_laws_live_devices.specs.World.{AnswersAt, IsNoReply}

-- the echo alone is no reply
echo_alone : (sent : List ℕ) → IsNoReply sent (sent ++ [])
unfolding message
echo_alone sent = ap has_no_message (echo_off sent [])

or_true : (b : Bool) → (b || true) ≡ true
or_true true = refl
or_true false = refl

-- the devices heard what was sent, and acted
pub lost_answer : (setup : Setup) (past : List Entry) (addr : ℕ) (sent piece : List ℕ) → (addr == BROADCAST) ≡ false →
    IsNoReply sent piece →
    AnswersAt setup (entry.Fault (fault.HostHears []) ∷ past) (entry.Wire addr sent piece)
    × IsHonestFault (fault.HostHears []) sent
unfolding heard_after message
lost_answer setup past addr sent piece one none = (inr (one, none, echo_alone sent), or_true (is_address_poll sent))

-- they heard something else that is no message
none_answered : (devices : List DeviceSetup) (f : DeviceSetup → Option (List ℕ)) → ((d : DeviceSetup) → f d ≡ None) →
    flat_map (λ d. unwrap_or (f d) []) devices ≡ []
none_answered [] f none = refl
none_answered (d ∷ devices) f none =
    ap (λ a. unwrap_or a [] ++ flat_map (λ d. unwrap_or (f d) []) devices) (none d) ∙ none_answered devices f none

damaged_silent : (setup : Setup) (past : List Entry) (piece : List ℕ) → IsNoMessage piece → answers setup past piece ≡ []
damaged_silent setup past piece none =
    none_answered (by_address setup.devices) (λ d. answer d (met d past) piece)
    (λ d. ap (answer_to d (met d past) (asker d.kind piece)) (damaged_asks d piece none))

pub lost_request : (setup : Setup) (past : List Entry) (addr : ℕ) (sent piece heard : List ℕ) → (addr == BROADCAST) ≡ false →
    IsNoReply sent piece → IsNoMessage heard →
    AnswersAt setup (entry.Fault (fault.DevicesHear heard) ∷ past) (entry.Wire addr sent piece)
    × IsHonestFault (fault.DevicesHear heard) sent
unfolding heard_after
lost_request setup past addr sent piece heard one none damaged = (
  inr (
    one,
    none,
    subst (λ a. IsNoReply sent (sent ++ a)) (sym (damaged_silent setup (entry.Fault (fault.DevicesHear heard) ∷ past) heard damaged))
        (echo_alone sent),
  ),
  means_honest (fault.DevicesHear heard) sent damaged,
)

-- and where all is well
pub right_answer : (setup : Setup) (past : List Entry) (addr : ℕ) (sent : List ℕ) → pending past ≡ fault.Clear →
    AnswersAt setup past (entry.Wire addr sent (sent ++ answers setup past sent)) × IsHonestFault (pending past) sent
unfolding heard_after
right_answer setup past addr sent clear = (
  inl (ap (λ f. heard_by_host f sent (answers setup past (heard_by_devices f sent))) (sym clear)),
  subst (λ f. IsHonestFault f sent) (sym clear) refl,
)
