use Rattle.std.proofs.Common.{subst}
use Rattle.cct_record.specs.Body.{IsRefused, Spells}
use Rattle.cct_journal.proofs.Indexed.{gives_record, refuses_record}
use Rattle.cct_journal.proofs.reading.read_record.Goals as goal

pub returns-in-Some-clause-gives : goal.returns-in-Some-clause-gives
returns-in-Some-clause-gives g c =
    gives_record g.D.Disk.seen c.args.disk.now c.args.place.now c.args.index c.in-Some.entry c.requires.from
    c.requires.within
    (λ image told. subst (Spells c.in-Some.entry) (c.in_ok-slot.ensures.body image told) c.in-Some.ensures.spelt)
    c.in-Some.ensures.spelt.in_range

pub returns-in-None-clause-refused : goal.returns-in-None-clause-refused
returns-in-None-clause-refused g c =
    refuses_record g.D.Disk.seen c.args.disk.now c.args.place.now c.args.index c.requires.from c.requires.within
    (λ image told. subst IsRefused (c.in_ok-slot.ensures.body image told) c.in-None.ensures.refused)
