-- Only such questions were asked so far.
use Rattle.cct_live_survey.specs.Asking.{Inquires}
use Rattle.cct_live_draft.proofs.drafting.draft_all.Given as goal

abbrev pub invariant-loop-addr : goal.invariant-loop-addr
invariant-loop-addr g l = (first : _) → Inquires g.L.Link.gives first l.fn.link → Inquires g.L.Link.gives first l.link
