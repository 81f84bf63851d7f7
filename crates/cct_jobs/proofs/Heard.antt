-- What a job hears: the wanted reply to a request, in the form that the request wants.
use Rattle.std.proofs.Common.{◌≡◌, ℕ, Bool, true, false, cond, List, refl, sym, ap, ◌∙◌, Option, Some, None}
use Rattle.std.specs.Prelude.{◌==◌, option_and_then}
use Rattle.cct_model.specs.terms.device.DeviceSetup.{DeviceSetup}
use Rattle.cct_model.specs.terms.request.Request.{Request}
use Rattle.cct_model.specs.terms.request.Request.TheVariants.{GetDefault, GetPath}
use Rattle.cct_model.specs.terms.family.Family.{Family}
use Rattle.cct_model.specs.terms.family.Family.TheVariants as family
use Rattle.cct_model.specs.terms.request.ReplyForm.{ReplyForm}
use Rattle.cct_model.specs.terms.request.ReplyForm.TheVariants as form
use Rattle.cct_model.specs.terms.wire.CheckKind.{CheckKind}
use Rattle.cct_model.specs.Message.{Message, message}
use Rattle.cct_model.specs.Request.{form_of}
use Rattle.cct_model.specs.Reply.{Reply, reply_in}
use Rattle.cct_model.specs.Exchange.{after_echo, ask, asked, got, reply_from}
use Rattle.cct_model.specs.Job.{credits_request, path_read}
use Rattle.cct_model.specs.Line.{exchange}
use Rattle.cct_model.specs.Transcript.{got_by}
use Rattle.cct_msg.specs.Forms.{FitsItsBytes, form_shown}
use Rattle.cct_msg.proofs.Exchanges.{asked_back}
use Rattle.cct_msg.proofs.Replies.{reply_form}
use Rattle.cct_jobs.specs.declared.target.Target.{Target}
use Rattle.cct_jobs.specs.Ahead.{body_of}
use Rattle.cct_jobs.specs.Jobs.{line_heard, replied, target_of}

from_cond : (b : Bool) (form : ReplyForm) (body : List ℕ) (y : Reply) → cond b (reply_in form body) None ≡ Some y
    → form_shown y ≡ Some form
from_cond true form body y e = reply_form form body y e
from_cond false form body y e = absurd cc

from_message : (form : ReplyForm) (addr : ℕ) (m : Option Message) (y : Reply)
    → option_and_then (reply_from form addr) m ≡ Some y → form_shown y ≡ Some form
from_message form addr None y e = absurd cc
from_message form addr (Some m) y e = from_cond _ form m.body y e

from_rest : (kind : CheckKind) (form : ReplyForm) (addr : ℕ) (rest : Option (List ℕ)) (y : Reply)
    → option_and_then (λ piece. option_and_then (reply_from form addr) (message kind piece)) rest ≡ Some y
    → form_shown y ≡ Some form
from_rest kind form addr None y e = absurd cc
from_rest kind form addr (Some piece) y e = from_message form addr (message kind piece) y e

got_form : (kind : CheckKind) (addr : ℕ) (form : ReplyForm) (sent heard : List ℕ) (y : Reply)
    → got kind addr form sent heard ≡ Some y → form_shown y ≡ Some form
unfolding got
got_form kind addr form sent heard y e = from_rest kind form addr (after_echo sent heard) y e

replied_form : (kind : CheckKind) (addr : ℕ) (form : Option ReplyForm) (sent heard : List ℕ) (y : Reply)
    → option_and_then (λ f. got kind addr f sent heard) form ≡ Some y → form_shown y ≡ form
replied_form kind addr None sent heard y e = absurd cc
replied_form kind addr (Some form) sent heard y e = got_form kind addr form sent heard y e

-- the reply to a request has the form that the request wants
pub form_heard : (kind : CheckKind) (addr : ℕ) (q : Request) (sent heard : List ℕ) (y : Reply)
    → replied kind addr q sent heard ≡ Some y → form_shown y ≡ form_of q
form_heard kind addr q sent heard y e = replied_form kind addr (form_of q) sent heard y e

path_wanted : (b : Bool) (place : ℕ) → form_of (cond b GetDefault (GetPath place)) ≡ Some form.Path
unfolding form_of
path_wanted true place = refl
path_wanted false place = refl

-- a path is wanted where one is read back
pub path_form : (place : ℕ) → form_of (path_read place) ≡ Some form.Path
path_form place = path_wanted (place == 0) place

-- credits are wanted where a device is asked for them
pub credits_form : (which : Family) → form_of (credits_request (body_of which)) ≡ Some form.Credits
unfolding form_of
credits_form family.Acceptor = refl
credits_form family.Hopper = refl
credits_form family.Bill = refl

-- the line of an exchange, by what was asked and replied
pub heard_is : (d : DeviceSetup) (device : Target) (q : Request) (sent heard : List ℕ) (y : Option Reply)
    → device ≡ target_of d → FitsItsBytes q → sent ≡ ask d.kind d.addr q
    → y ≡ replied device.kind device.addr q sent heard → line_heard d sent heard ≡ exchange (Some q) y
unfolding got_by
heard_is d device q sent heard y device_is fits is_ask reply_is =
    let asked_is : asked d.kind sent ≡ Some q = ap (asked d.kind) is_ask ∙ asked_back d.kind d.addr q fits in
    let same : replied d.kind d.addr q sent heard ≡ y =
    ap (λ (t : Target). replied t.kind t.addr q sent heard) (sym device_is) ∙ sym reply_is in
    ap (λ a. exchange a (option_and_then (λ form. got d.kind d.addr form sent heard)
    (option_and_then form_of a))) asked_is
    ∙ ap (exchange (Some q)) same
