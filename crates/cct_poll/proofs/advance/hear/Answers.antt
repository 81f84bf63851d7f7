-- A `next` of a host that was about to send is a step of the caller's host.
use Rattle.std.proofs.Common.{◌∙◌, arith}
use Rattle.cct_disk.proofs.Taking.{takes_sure}
use Rattle.cct_poll.proofs.Stepping.{if_done, never_fails, sends_it, steps_of}
use Rattle.cct_poll.proofs.advance.hear.Goals as goal

pub returns-clause-unfailed : goal.returns-clause-unfailed
returns-clause-unfailed c =
    takes_sure (λ _ _ _ spent. spent.unfailed) (omega arith) (omega arith) c.next.ensures.takes c.requires.ready

pub returns-clause-steps : goal.returns-clause-steps
returns-clause-steps c = λ piece asks.
    let nexts = if_done c.next.result _ _ c.next.ensures.nexts c.next.ensures.due
    (never_fails c.args.host.now c.args.addr c.requires.sends) in
    steps_of c.new-link.result c.next.new.link c.args.addr c.args.host.now c.next.new.self c.args.report.now.items
    c.next.new.report.items piece c.args.heard.now nexts c.requires.empty c.requires.few c.new-link.ensures
    (sends_it nexts.what piece (nexts.sent_is ∙ asks)) c.next.ensures.takes.same_below
