use Rattle.std.proofs.Common.{subst}
use Rattle.cct_record.specs.OldBody.{IsRefusedOld, OldSpells}
use Rattle.cct_record.proofs.Spellings.{encodable}
use Rattle.cct_journal.proofs.OldBodies.{gives_old, refuses_old}
use Rattle.cct_journal.proofs.old_reading.read_old_record.Goals as goal

pub returns-in-Some-clause-gives : goal.returns-in-Some-clause-gives
returns-in-Some-clause-gives g c =
    gives_old g.D.Disk.seen c.args.disk.now c.args.old.now c.args.index c.in-Some.entry c.requires.from c.requires.within
    (λ image told. subst (OldSpells c.in-Some.entry) (c.in_ok-slot.ensures.body image told) c.in-Some.ensures.spelt)
    (encodable c.in-Some.entry c.in-Some.ensures.spelt.in_range)

pub returns-in-None-clause-refused : goal.returns-in-None-clause-refused
returns-in-None-clause-refused g c =
    refuses_old g.D.Disk.seen c.args.disk.now c.args.old.now c.args.index c.requires.from c.requires.within
    (λ image told. subst IsRefusedOld (c.in_ok-slot.ensures.body image told) c.in-None.ensures.refused)
