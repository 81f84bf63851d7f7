-- What an exchange and a put make of the rows that a job has left.
use Rattle.std.proofs.Common.{◌≡◌, suc, Bool, true, false, cond, List, [], ◌∷◌, refl, ap, ◌∙◌, Option, Some}
use Rattle.cct_model.specs.terms.device.DeviceSetup.{DeviceSetup}
use Rattle.cct_model.specs.terms.request.Request.{Request}
use Rattle.cct_model.specs.terms.request.ReplyForm.TheVariants as form
use Rattle.cct_model.specs.lines.record.Record.{Record}
use Rattle.cct_model.specs.lines.command.Command.{Command}
use Rattle.cct_model.specs.Reply.{Reply}
use Rattle.cct_model.specs.Reply as reply
use Rattle.cct_model.specs.Line.{Line, exchange, put}
use Rattle.cct_model.specs.Rows.{TableRow, after, done, ends_first, rest, rows_of, settling}
use Rattle.cct_msg.specs.Forms.{form_shown}
use Rattle.cct_model.proofs.Rows.{after_next, after_none, but_first}

-- none is done before the first line
pub begun_rest : (d : DeviceSetup) (c : Command) → rest d c [] ≡ rows_of d c
begun_rest d c = after_none (rows_of d c)

-- one more is done by a put
pub put_moves : (d : DeviceSetup) (c : Command) (since : List Line) (r : Record) (rows : List TableRow)
    → rest d c since ≡ rows → rest d c (put r ∷ since) ≡ but_first rows
put_moves d c since r rows at = after_next (rows_of d c) (done (rows_of d c) since) ∙ ap but_first at

-- by an exchange one more or none
module _ (d : DeviceSetup) (c : Command) (since : List Line) (q : Request) (got : Option Reply) (rows : List TableRow)
    (at : rest d c since ≡ rows) where
  by_end : {over : Bool} → ends_first rows got ≡ over → rest d c (exchange (Some q) got ∷ since) ≡ after (rows_of d c)
      (cond over (suc (done (rows_of d c) since)) (done (rows_of d c) since))
  by_end ends =
      ap (λ b. after (rows_of d c) (cond b (suc (done (rows_of d c) since)) (done (rows_of d c) since)))
      (ap (λ left. ends_first left got) at ∙ ends)

  pub exchange_moves : ends_first rows got ≡ true → rest d c (exchange (Some q) got ∷ since) ≡ but_first rows
  exchange_moves ends = by_end ends ∙ after_next (rows_of d c) (done (rows_of d c) since) ∙ ap but_first at

  pub exchange_stays : ends_first rows got ≡ false → rest d c (exchange (Some q) got ∷ since) ≡ rows
  exchange_stays goes = by_end goes ∙ at

-- a payout isn't over by being stopped
pub stop_stays : (y : Reply) → form_shown y ≡ Some form.Remaining → ends_first settling (Some y) ≡ false
stop_stays (reply.status events left_to_pay paid unpaid) wanted = absurd cc
stop_stays y wanted = refl
