-- What a hopper replies to each request that a job sends it.
use Rattle.std.proofs.Common.{◌≡◌, ℕ, List, refl, ap, ◌∙◌, Option, Some, None, inl, inr, arith}
use Rattle.cct_model.specs.terms.device.DeviceSetup.{DeviceSetup}
use Rattle.cct_model.specs.terms.device.DeviceBody.{DeviceBody}
use Rattle.cct_model.specs.terms.device.DeviceBody.TheVariants.{Acceptor, Bill, Hopper}
use Rattle.cct_model.specs.terms.request.Request.TheVariants.{Enable, Dispense, GetStatus, GetLife, StopNow, TestHopper}
use Rattle.cct_model.specs.terms.request.ReplyForm.TheVariants as form
use Rattle.cct_model.specs.Request.{form_of}
use Rattle.cct_model.specs.Reply as reply
use Rattle.cct_model.specs.History.{Met}
use Rattle.cct_model.specs.Hopper.{remaining, taken_of, life_count, status_of, register_of, dispense_reply, hopper_reply}
use Rattle.cct_model.specs.Device.{IsSound, IsHopper, common_reply, reply_of}
use Rattle.cct_model.specs.Job.{own_requests}
use Rattle.cct_msg.proofs.Exchanges.{serial_fits}
use Rattle.cct_laws.proofs.wire.Exchanges.{Replied, Answers}
use Rattle.cct_laws.proofs.wire.Replies.{start_of, hopper_is, replied_status, replied_stop, replied_life}
use Rattle.cct_laws.proofs.wire.CommonReplies.{answers_so}
use Rattle.cct_model.proofs.Requests.{Each}
use Rattle.cct_model.proofs.Rows.{EachRow, Asks}
use Rattle.cct_model.specs.Rows.{settling}

-- a sound hopper
pub record Payer (d : DeviceSetup) : Type 0 where
  pub sound : IsSound d
  pub paying : IsHopper d.body

-- what hoppers alone reply
pub enable_replied : (d : DeviceSetup) (past : List Met) (code : ℕ) → Payer d → Replied d past (Enable code)
unfolding reply_of common_reply form_of hopper_reply
enable_replied d past code payer =
    answers_so d past (Enable code) reply.ack form.Ack (hopper_is d.serial d.body past (Enable code) payer.paying)
    refl refl tt tt (λ serial count e. cc) refl

status_replied : (d : DeviceSetup) (past : List Met) → Payer d → Replied d past GetStatus
unfolding form_of
status_replied d past payer =
    answers_so d past GetStatus (status_of d.serial past) form.Status
    (replied_status d past payer.paying) refl refl tt tt (λ serial count e. cc) refl

pub life_replied : (d : DeviceSetup) (past : List Met) → Payer d → Replied d past GetLife
unfolding form_of
life_replied d past payer =
    answers_so d past GetLife (reply.life (life_count d.serial (start_of d.body) past)) form.Life
    (replied_life d past payer.paying) refl refl tt (omega arith) (λ serial count e. cc) refl

stop_replied : (d : DeviceSetup) (past : List Met) → Payer d → Replied d past StopNow
unfolding form_of
stop_replied d past payer =
    answers_so d past StopNow (reply.remaining (remaining d.serial past)) form.Remaining
    (replied_stop d past payer.paying) refl refl tt tt (λ serial count e. cc) refl

register_replied : (d : DeviceSetup) (past : List Met) → Payer d → Replied d past TestHopper
unfolding reply_of common_reply form_of hopper_reply
register_replied d past payer =
    answers_so d past TestHopper (reply.register (register_of d.serial past)) form.Register
    (hopper_is d.serial d.body past TestHopper payer.paying) refl refl tt tt (λ serial count e. cc) refl

-- a dispense under the hopper's own serial number is acknowledged where it is taken, and else refused
dispense_replied : (d : DeviceSetup) (past : List Met) (count : ℕ) → Payer d →
    reply_of d past (Dispense d.serial count) ≡
    Some (dispense_reply (taken_of d.serial past (Some (Dispense d.serial count))))
unfolding reply_of common_reply hopper_reply
dispense_replied d past count payer = hopper_is d.serial d.body past (Dispense d.serial count) payer.paying

pub dispense_by : (d : DeviceSetup) (past : List Met) (count : ℕ) (took : Option ℕ) → Payer d →
    taken_of d.serial past (Some (Dispense d.serial count)) ≡ took → Answers d past (Dispense d.serial count)
unfolding form_of
dispense_by d past count (Some many) payer test =
    inl (answers_so d past (Dispense d.serial count) reply.ack form.Ack
    (dispense_replied d past count payer ∙ ap (λ took. Some (dispense_reply took)) test) refl refl tt tt
    (serial_fits d.serial count payer.sound.serial) refl)
dispense_by d past count None payer test = inr (record {
  refuses = (payer.paying, test);
  replied = dispense_replied d past count payer ∙ ap (λ took. Some (dispense_reply took)) test;
  fits = serial_fits d.serial count payer.sound.serial;
  to_its_device = refl;
})

-- all that a hopper is asked of itself
pub owns_by : (d : DeviceSetup) (past : List Met) (body : DeviceBody) → IsHopper body → Payer d →
    Each (Replied d past) (own_requests body)
owns_by d past (Acceptor accepts values ids) paying payer = absurd paying
owns_by d past (Hopper life value) paying payer = (register_replied d past payer, tt)
owns_by d past (Bill accepts values ids) paying payer = absurd paying

pub settle_replied : (d : DeviceSetup) (past : List Met) → Payer d → EachRow (Asks (Answers d past)) settling
settle_replied d past payer = (
  (inl (status_replied d past payer), inl (stop_replied d past payer)),
  (inl (life_replied d past payer), (tt, tt)),
)
