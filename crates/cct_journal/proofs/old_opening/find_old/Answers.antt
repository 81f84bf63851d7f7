use Rattle.std.proofs.Common.{◌∙◌, sym, subst}
use Rattle.std.proofs.lemmas.Bool.Decides.{not_from_Decides}
use Rattle.cct_journal.specs.OldStands.{HasFreeHalf}
use Rattle.cct_journal.proofs.OldFound.{no_room}
use Rattle.cct_journal.proofs.old_opening.find_old.Goals as goal

pub returns-else-has_free_half-clause-refused : goal.returns-else-has_free_half-clause-refused
returns-else-has_free_half-clause-refused g c image told =
    let old = c.in_ok-old.old in
    let size = c.len-len.ensures ∙ sym (g.met.D.Disk.fits _ image told) in
    no_room old.version image old.place.second old.place.generation old.place.base c.in_ok-used.used old.place.carry
    (c.in_ok-old.ensures.begins image told).headed
    (c.in_ok-used.ensures.counted image (c.find_old_half.ensures.reads.same_seen ∙ told))
    (λ free. not_from_Decides c.has_free_half.result c.has_free_half.ensures c.if-has_free_half.false
    (subst (λ n. HasFreeHalf old.version n c.in_ok-used.used) (sym size) free))
