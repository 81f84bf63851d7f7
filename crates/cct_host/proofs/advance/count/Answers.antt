use Rattle.cct_journal_carry.specs.Tally.{setup_of}
use Rattle.cct_host.proofs.Putting.{due_added}
use Rattle.cct_host.proofs.advance.count.Goals as goal

pub returns-in-Some-clause-adds : goal.returns-in-Some-clause-adds
returns-in-Some-clause-adds c before follow is =
    due_added (setup_of c.args.tally.now) c.args.due.now _ before _ _ c.add.result c.in-Some.is c.args.tally.now.sound
    c.add.ensures.follows c.add.ensures.next follow is
