use Rattle.std.proofs.Common.{rules}
use Rattle.cct_disk.specs.Laws.{sure}
use Rattle.cct_journal.proofs.journal.Journal.create.Goals as goal

pub returns-in-Err-clause-sure : goal.returns-in-Err-clause-sure
returns-in-Err-clause-sure g c ready = λ failed.
    sure _ _ _ (g.met.D.Disk.unfailed _ 0 0 ready) (c.lay_header.ensures.sure ready) c.lay_header.ensures.cause
    (search (rules, failed))
