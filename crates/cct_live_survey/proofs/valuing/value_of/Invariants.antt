-- So often the question was sent, and not answered.
use Rattle.std.proofs.Common.{◌≡◌, None}
use Rattle.cct_live_survey.specs.Asking.{Tries, ask_value, value_in}
use Rattle.cct_live_survey.proofs.valuing.value_of.Given as goal

abbrev pub invariant-loop : goal.invariant-loop
invariant-loop g l = record {
  sent : l.room.sent.items ≡ ask_value l.kind l.addr l.request;
  tries : Tries g.L.Link.gives (ask_value l.kind l.addr l.request) (value_in l.kind l.addr l.request) l.fn.link l.counter None l.link;
}
