use Rattle.std.proofs.Common.{◌∙◌, sym, subst, arith}
use Rattle.cct_journal.specs.Fronts.{BeginsAt}
use Rattle.cct_journal.proofs.Found.{begins_at, begins_nowhere, begins_there, current_there, nowhere_alien}
use Rattle.cct_journal.proofs.opening.find_half.Goals as goal

pub returns-in_default-clause-refused : goal.returns-in_default-clause-refused
returns-in_default-clause-refused g c image told =
    nowhere_alien c.in_ok-current.field-0 c.in_default.is (c.in_ok-current.ensures.found image told)

pub returns-in_default-2-clause-refused : goal.returns-in_default-2-clause-refused
returns-in_default-2-clause-refused g c image told =
    let current = current_there c.in_ok-current.field-0 c.in-Some.current c.in-Some.is
    (c.in_ok-current.ensures.found image told) in
    begins_nowhere image c.in-Some.current.second c.in_ok-start.field-0 current.current c.in_default-2.is
    (c.in_ok-start.ensures.found image (c.find_current.ensures.reads.same_seen ∙ told))

pub returns-clause-begins : goal.returns-clause-begins
returns-clause-begins g c image told =
    let current = current_there c.in_ok-current.field-0 c.in-Some.current c.in-Some.is
    (c.in_ok-current.ensures.found image told) in
    subst (BeginsAt image) (sym c.place_at.ensures)
    (begins_at image c.in-Some.current c.in-Some-2.start (omega (arith, g.met.D.Disk.fits _ image told, c.requires))
    current
    (begins_there image c.in-Some.current.second c.in_ok-start.field-0 c.in-Some-2.start c.in-Some-2.is
    (c.in_ok-start.ensures.found image (c.find_current.ensures.reads.same_seen ∙ told))))
