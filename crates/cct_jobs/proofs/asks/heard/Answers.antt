use Rattle.std.proofs.Common.{◌≡◌, ◌∷◌, arith, ◌∙◌, Some, None, ap, false, sym, subst}
use Rattle.std.specs.Option.{option_map}
use Rattle.cct_model.specs.Exchange.{ask}
use Rattle.cct_model.specs.Reply.{reply_shown}
use Rattle.cct_model.specs.Line.{Line}
use Rattle.cct_model.specs.Request.{form_of}
use Rattle.cct_msg.specs.Forms.{form_shown}
use Rattle.cct_jobs.specs.declared.job.Job.{Job}
use Rattle.cct_jobs.specs.declared.job.Job.TheVariants.{Asks}
use Rattle.cct_jobs.specs.declared.stage.Stage.{Stage}
use Rattle.cct_jobs.specs.Onward.{LeadsTo}
use Rattle.cct_jobs.specs.Jobs.{Stands, asks_on, replied, reply_wanted, request_of}
use Rattle.cct_jobs.proofs.Heard.{form_heard, heard_is}
use Rattle.cct_jobs.proofs.Counts.{accepts_heard, life_heard}
use Rattle.cct_jobs.proofs.Needs.{stage_asked}
use Rattle.cct_jobs.proofs.Stages.{stage_fits}
use Rattle.cct_jobs.proofs.asks.heard.Goals as goal

pub asks_on-requires : goal.asks_on-requires
asks_on-requires c =
    let a = c.in-Asks in
    let sent = c.args.sent.now in
    let heard = c.args.heard.now in
    let asked = request_of a.device.family a.stage in
    let replies : replied a.device.kind a.device.addr asked sent heard ≡ Some (reply_shown c.in-Some.reply) =
    sym (ap (λ f. reply_wanted a.device.kind a.device.addr f sent heard) c.wanted.ensures) ∙ sym c.reply.ensures
    ∙ ap (option_map reply_shown) c.in-Some.is in
    record {
      wanted = form_heard a.device.kind a.device.addr asked sent heard (reply_shown c.in-Some.reply) replies;
      accepts = accepts_heard a.device.kind a.device.addr asked sent heard (reply_shown c.in-Some.reply)
          (λ i. let fits = c.type_inv.heard i in omega arith) replies;
    }

pub answered-requires : goal.answered-requires
answered-requires c =
    let a = c.in-Asks in
    let sent = c.args.sent.now in
    let heard = c.args.heard.now in
    let asked = request_of a.device.family a.stage in
    let replies : replied a.device.kind a.device.addr asked sent heard ≡ Some (reply_shown c.in-Some.reply) =
    sym (ap (λ f. reply_wanted a.device.kind a.device.addr f sent heard) c.wanted.ensures) ∙ sym c.reply.ensures
    ∙ ap (option_map reply_shown) c.in-Some.is in
    let same = c.asks_on.ensures.stays c.if-asks_on.false in
    record {
      other = subst (λ (s : Stage). asks_on s ≡ false) (sym same) (sym c.asks_on.ensures.which ∙ c.if-asks_on.false);
      wanted = subst
          (λ (s : Stage). form_shown (reply_shown c.in-Some.reply) ≡ form_of (request_of a.device.family s)) (sym same)
          (form_heard a.device.kind a.device.addr asked sent heard (reply_shown c.in-Some.reply) replies);
      life = life_heard a.device.kind a.device.addr asked sent heard (reply_shown c.in-Some.reply)
          (λ i. let fits = c.type_inv.heard i in omega arith) replies;
      accepts = accepts_heard a.device.kind a.device.addr asked sent heard (reply_shown c.in-Some.reply)
          (λ i. let fits = c.type_inv.heard i in omega arith) replies;
    }

pub returns-then-asks_on-clause-device : goal.returns-then-asks_on-clause-device
returns-then-asks_on-clause-device c = λ d command since state owed q stands row is_ask.
    let a = c.in-Asks in
    let sent = c.args.sent.now in
    let heard = c.args.heard.now in
    let at : Stands d (Asks a.device a.stage a.failed) command since state owed =
    subst (λ (job : Job). Stands d job command since state owed) a.is stands in
    let line_is =
    heard_is d a.device (request_of a.device.family a.stage) sent heard (Some (reply_shown c.in-Some.reply)) at.device_is
    (stage_fits at) (is_ask ∙ ap (ask d.kind d.addr) (stage_asked owed q at row))
    (sym (ap (option_map reply_shown) c.in-Some.is) ∙ c.reply.ensures
    ∙ ap (λ f. reply_wanted a.device.kind a.device.addr f sent heard) c.wanted.ensures) in
    subst (λ (line : Line). Stands d (Asks a.device c.asks_on.new.stage 0) command (line ∷ since) state owed) (sym line_is)
    (c.asks_on.ensures.device c.if-asks_on.true a.failed d command since state owed at)

pub returns-else-asks_on-clause-device : goal.returns-else-asks_on-clause-device
returns-else-asks_on-clause-device c = λ d command since state owed q stands row is_ask.
    let a = c.in-Asks in
    let sent = c.args.sent.now in
    let heard = c.args.heard.now in
    let at : Stands d (Asks a.device a.stage a.failed) command since state owed =
    subst (λ (job : Job). Stands d job command since state owed) a.is stands in
    let line_is =
    heard_is d a.device (request_of a.device.family a.stage) sent heard (Some (reply_shown c.in-Some.reply)) at.device_is
    (stage_fits at) (is_ask ∙ ap (ask d.kind d.addr) (stage_asked owed q at row))
    (sym (ap (option_map reply_shown) c.in-Some.is) ∙ c.reply.ensures
    ∙ ap (λ f. reply_wanted a.device.kind a.device.addr f sent heard) c.wanted.ensures) in
    subst (λ (line : Line). Stands d c.answered.new.job command (line ∷ since) state owed) (sym line_is)
    (subst (λ (s : Stage). LeadsTo a.device s a.failed (Some (reply_shown c.in-Some.reply)) c.answered.new.job)
    (c.asks_on.ensures.stays c.if-asks_on.false) (c.answered.ensures.device a.failed) d command since state owed at)

pub returns-in-None-clause-device : goal.returns-in-None-clause-device
returns-in-None-clause-device c = λ d command since state owed q stands row is_ask.
    let a = c.in-Asks in
    let sent = c.args.sent.now in
    let heard = c.args.heard.now in
    let at : Stands d (Asks a.device a.stage a.failed) command since state owed =
    subst (λ (job : Job). Stands d job command since state owed) a.is stands in
    let line_is = heard_is d a.device (request_of a.device.family a.stage) sent heard None at.device_is
    (stage_fits at) (is_ask ∙ ap (ask d.kind d.addr) (stage_asked owed q at row))
    (sym (ap (option_map reply_shown) c.in-None.is) ∙ c.reply.ensures
    ∙ ap (λ f. reply_wanted a.device.kind a.device.addr f sent heard) c.wanted.ensures) in
    subst (λ (line : Line). Stands d c.unanswered.result command (line ∷ since) state owed) (sym line_is)
    (c.unanswered.ensures.device d command since state owed at)
