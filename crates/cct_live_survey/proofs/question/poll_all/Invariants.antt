-- So often the poll was sent, without a good echo.
use Rattle.std.proofs.Common.{◌≡◌, ◌≤◌, None}
use Rattle.cct_model_wire.specs.declared.wire.TheConstants.{BROADCAST}
use Rattle.cct_model_wire.specs.declared.request.Request.TheVariants.{AddressPoll}
use Rattle.cct_model_wire.specs.Exchange.{ask}
use Rattle.cct_live_survey.specs.Asking.{Tries, answers_to_all}
use Rattle.cct_live_survey.proofs.question.poll_all.Given as goal

abbrev pub invariant-loop : goal.invariant-loop
invariant-loop g l = record {
  sent : l.room.sent.items ≡ ask l.fn.kind BROADCAST AddressPoll;
  tries : Tries g.L.Link.gives (ask l.fn.kind BROADCAST AddressPoll) (answers_to_all l.fn.kind) l.fn.link l.counter None l.link;
  nothing : 1 ≤ l.counter → answers_to_all l.fn.kind l.room.heard.items ≡ None;
}
