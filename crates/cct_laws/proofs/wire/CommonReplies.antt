-- What every device replies to each request that a job sends it.
use Rattle.std.proofs.Common.{◌≡◌, ℕ, ◌≤◌, List, [], ◌∷◌, length, drop, refl, Some, inl, arith}
use Rattle.cct_model.specs.terms.device.DeviceSetup.{DeviceSetup}
use Rattle.cct_model.specs.terms.device.DeviceBody.{DeviceBody}
use Rattle.cct_model.specs.terms.device.DeviceBody.TheVariants.{Acceptor, Bill, Hopper}
use Rattle.cct_model.specs.terms.request.Request.{Request}
use Rattle.cct_model.specs.terms.request.Request.TheVariants.{MakerId, Category, ProductCode, SerialNumber, SoftwareRevision, BuildCode, CommsRevision, ResetDevice}
use Rattle.cct_model.specs.terms.request.ReplyForm.{ReplyForm}
use Rattle.cct_model.specs.terms.request.ReplyForm.TheVariants as form
use Rattle.cct_model.specs.Request.{form_of}
use Rattle.cct_model.specs.Reply.{Reply, IsSayable}
use Rattle.cct_model.specs.Reply as reply
use Rattle.cct_model.specs.History.{Met}
use Rattle.cct_model.specs.Device.{IsSound, IsWord, common_reply, reply_of, category_of}
use Rattle.cct_model.specs.Job.{ident_requests, own_requests}
use Rattle.cct_model.specs.Exchange.{to_one}
use Rattle.cct_msg.specs.Forms.{FitsItsBytes, IsWhole, form_shown}
use Rattle.cct_laws.proofs.wire.Exchanges.{Answers, Replied}
use Rattle.cct_model.proofs.Requests.{Each}

-- a text of 24 characters can be said
word_short : (text : List ℕ) → IsWord text → length text ≤ 255
word_short text word = omega (arith, word.1)

category_short : (body : DeviceBody) → length (category_of body) ≤ 255
category_short (Acceptor accepts values ids) = omega arith
category_short (Hopper life value) = omega arith
category_short (Bill accepts values ids) = omega arith

-- a reply in the form that a request wants
pub answers_so : (d : DeviceSetup) (past : List Met) (q : Request) (y : Reply) (form : ReplyForm) →
    reply_of d past q ≡ Some y →
    form_of q ≡ Some form → form_shown y ≡ Some form → IsWhole y → IsSayable y → FitsItsBytes q →
    to_one (Some q) ≡ Some q → Replied d past q
answers_so d past q y form replied wants shown whole sayable fits to_it = record {
  y = y;
  form = form;
  replied = replied;
  wants = wants;
  shown = shown;
  whole = whole;
  sayable = sayable;
  fits = fits;
  to_its_device = to_it;
}

-- what every device replies
maker_replied : (d : DeviceSetup) (past : List Met) → IsSound d → Replied d past MakerId
unfolding reply_of common_reply form_of
maker_replied d past sound =
    answers_so d past MakerId (reply.text d.texts.maker) form.Text refl refl refl tt
    (word_short d.texts.maker sound.maker) (λ serial count e. cc) refl

category_replied : (d : DeviceSetup) (past : List Met) → Replied d past Category
unfolding reply_of common_reply form_of
category_replied d past =
    answers_so d past Category (reply.text (category_of d.body)) form.Text refl refl refl tt (category_short d.body)
    (λ serial count e. cc) refl

product_replied : (d : DeviceSetup) (past : List Met) → IsSound d → Replied d past ProductCode
unfolding reply_of common_reply form_of
product_replied d past sound =
    answers_so d past ProductCode (reply.text d.texts.product) form.Text refl refl refl tt
    (word_short d.texts.product sound.product) (λ serial count e. cc) refl

serial_replied : (d : DeviceSetup) (past : List Met) → IsSound d → Replied d past SerialNumber
unfolding reply_of common_reply form_of
serial_replied d past sound =
    answers_so d past SerialNumber (reply.serial d.serial) form.Serial refl refl refl tt sound.serial
    (λ serial count e. cc) refl

software_replied : (d : DeviceSetup) (past : List Met) → IsSound d → Replied d past SoftwareRevision
unfolding reply_of common_reply form_of
software_replied d past sound =
    answers_so d past SoftwareRevision (reply.text d.texts.software) form.Text refl refl refl tt
    (word_short d.texts.software sound.software) (λ serial count e. cc) refl

build_replied : (d : DeviceSetup) (past : List Met) → IsSound d → Replied d past BuildCode
unfolding reply_of common_reply form_of
build_replied d past sound =
    answers_so d past BuildCode (reply.text d.texts.build) form.Text refl refl refl tt
    (word_short d.texts.build sound.build) (λ serial count e. cc) refl

revision_replied : (d : DeviceSetup) (past : List Met) → Replied d past CommsRevision
unfolding reply_of common_reply form_of
revision_replied d past =
    answers_so d past CommsRevision (reply.revision 1 4 0) form.Revision refl refl refl tt tt (λ serial count e. cc)
    refl

pub reset_replied : (d : DeviceSetup) (past : List Met) → Replied d past ResetDevice
unfolding reply_of common_reply form_of
reset_replied d past = answers_so d past ResetDevice reply.ack form.Ack refl refl refl tt tt (λ serial count e. cc) refl

-- all that a device is asked of itself, where what its kind is asked has its replies
pub also : (d : DeviceSetup) (past : List Met) (q : Request) (qs : List Request) → Replied d past q →
    Each (Replied d past) qs →
    Each (Replied d past) (q ∷ qs)
also d past q qs first others = (first, others)

pub ident_replied : (d : DeviceSetup) (past : List Met) (body : DeviceBody) → IsSound d →
    Each (Replied d past) (own_requests body) → Each (Replied d past) (ident_requests body)
ident_replied d past body sound owns =
    let qs = ident_requests body in
    also d past MakerId (drop 1 qs) (maker_replied d past sound)
    (also d past Category (drop 2 qs) (category_replied d past)
    (also d past ProductCode (drop 3 qs) (product_replied d past sound)
    (also d past SerialNumber (drop 4 qs) (serial_replied d past sound)
    (also d past SoftwareRevision (drop 5 qs) (software_replied d past sound)
    (also d past BuildCode (drop 6 qs) (build_replied d past sound)
    (also d past CommsRevision (own_requests body) (revision_replied d past) owns))))))

-- what has its reply has it, or is refused
pub each_answers : (d : DeviceSetup) (past : List Met) (qs : List Request) → Each (Replied d past) qs →
    Each (Answers d past) qs
each_answers d past [] each = tt
each_answers d past (q ∷ qs) each = (inl each.0, each_answers d past qs each.1)
