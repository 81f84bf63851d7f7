-- So often the message was sent, and not answered.
use Rattle.std.proofs.Common.{◌≡◌, ◌≤◌, None}
use Rattle.cct_model_wire.specs.Exchange.{ask}
use Rattle.cct_live_survey.specs.Asking.{Tries, reply_to}
use Rattle.cct_live_survey.proofs.question.question.Given as goal

abbrev pub invariant-loop : goal.invariant-loop
invariant-loop g l = record {
  sent : l.room.sent.items ≡ ask l.kind l.addr l.fn.request;
  tries : Tries g.L.Link.gives (ask l.kind l.addr l.fn.request) (reply_to l.kind l.addr l.fn.request l.form) l.fn.link l.counter None l.link;
  nothing : 1 ≤ l.counter → reply_to l.kind l.addr l.fn.request l.form l.room.heard.items ≡ None;
}
