use Rattle.std.proofs.Common.{rules}
use Rattle.cct_disk.specs.Laws.{sure}
use Rattle.cct_journal.proofs.Opens.{never_refused}
use Rattle.cct_journal.proofs.journal.Journal.reopen.Goals as goal

pub returns-in-Err-clause-never : goal.returns-in-Err-clause-never
returns-in-Err-clause-never g c carry_of image records told stands =
    never_refused c.in-Err.why carry_of image records (c.in-Err.ensures.refused image told) stands

pub returns-in-Err-clause-sure : goal.returns-in-Err-clause-sure
returns-in-Err-clause-sure g c ready = λ failed.
    sure _ _ _ (g.met.D.Disk.unfailed _ 0 0 ready) (g.met.D.Disk.unfailed _ 0 0 (c.find_place.ensures.ready ready))
    c.find_place.ensures.cause (search (rules, failed))
