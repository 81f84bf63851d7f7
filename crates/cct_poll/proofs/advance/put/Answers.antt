-- A put is a step of the caller's host that sends nothing.
use Rattle.std.proofs.Common.{arith, rules}
use Rattle.cct_disk.specs.Laws.{sure}
use Rattle.cct_disk.proofs.Taking.{takes_sure}
use Rattle.cct_poll.proofs.Stepping.{put_sends, steps_of}
use Rattle.cct_poll.proofs.advance.put.Goals as goal

pub unreachable-requires : goal.unreachable-requires
unreachable-requires c =
    sure _ _ _ c.requires.ready.unfailed
    (takes_sure (λ _ _ _ spent. spent.unfailed) (omega arith) (omega arith) c.next.ensures.takes c.requires.ready)
    c.next.ensures.cause (search (rules, c.in-Err.is))

pub returns-clause-unfailed : goal.returns-clause-unfailed
returns-clause-unfailed c =
    takes_sure (λ _ _ _ spent. spent.unfailed) (omega arith) (omega arith) c.next.ensures.takes c.requires.ready

pub returns-clause-steps : goal.returns-clause-steps
returns-clause-steps c =
    let nexts = c.in-Ok.ensures.nexts in
    steps_of c.new-link.result c.next.new.link c.args.addr c.args.host.now c.next.new.self c.args.report.now.items
    c.next.new.report.items _ _ nexts c.requires.empty (omega arith) c.new-link.ensures
    (put_sends c.new-link.result c.next.new.link c.args.addr c.args.host.now c.next.new.self c.args.report.now.items
    c.next.new.report.items nexts c.requires.due) c.next.ensures.takes.same_below
