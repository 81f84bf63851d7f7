use Rattle.std.proofs.Common.{◌∙◌, sym, ap, subst, arith, take}
use Rattle.std.proofs.lemmas.Bool.Decides.{not_from_Decides}
use Rattle.cct_journal.specs.Half.{half}
use Rattle.cct_journal.specs.OldStands.{MayBeCounted, OldBeginsAt}
use Rattle.cct_journal.proofs.OldFound.{first_alien, first_begins, first_counted, first_is_first}
use Rattle.cct_journal.proofs.old_opening.find_first.Goals as goal

pub returns-else-is_first_header-clause-refused : goal.returns-else-is_first_header-clause-refused
returns-else-is_first_header-clause-refused g c image told is current =
    first_alien image c.args.current current is
    (λ starts. not_from_Decides c.is_first_header.result c.is_first_header.ensures c.if-is_first_header.false
    (c.in_ok-read_in.ensures.gives image told
    ∙ ap (λ s. take 32 (half image s)) (sym (first_is_first image c.args.current current is)) ∙ starts))

pub returns-then-is_first_header-clause-counted : goal.returns-then-is_first_header-clause-counted
returns-then-is_first_header-clause-counted g c =
    subst (MayBeCounted (g.D.Disk.size c.args.disk.now)) (sym c.first_place.ensures)
    (first_counted (g.D.Disk.size c.args.disk.now) c.args.current.other_open c.requires)

pub returns-then-is_first_header-clause-begins : goal.returns-then-is_first_header-clause-begins
returns-then-is_first_header-clause-begins g c image told is current =
    subst (OldBeginsAt image) (sym c.first_place.ensures)
    (first_begins image c.args.current (omega (arith, g.met.D.Disk.fits _ image told, c.requires)) current is
    (sym (c.in_ok-read_in.ensures.gives image told) ∙ c.is_first_header.ensures.0 c.if-is_first_header.true))
