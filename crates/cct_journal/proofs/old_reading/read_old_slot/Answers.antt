use Rattle.std.proofs.Common.{◌≡◌, ◌∙◌, length, sym, ap, rules}
use Rattle.cct_journal.specs.OldImage.{old_slot}
use Rattle.cct_journal.proofs.OldBodies.{body_of_slot}
use Rattle.cct_journal.proofs.old_reading.read_old_slot.Goals as goal

pub returns-clause-body : goal.returns-clause-body
returns-clause-body g c image told =
    let old = c.args.old.now in
    let whole : length c.read.new.room ≡ 32 = search rules in
    body_of_slot c.read.new.room image c.slot_of.result.body c.old_slot_on-at.result
    (old_slot old.version (length image) old.place.second old.place.base c.args.index)
    (c.in_ok-read.ensures.gives image told) whole
    (c.old_slot_on-at.ensures.value
    ∙ ap (λ n. old_slot old.version n old.place.second old.place.base c.args.index)
    (c.len.ensures ∙ sym (g.met.D.Disk.fits _ image told))) c.slot_of.ensures.body
