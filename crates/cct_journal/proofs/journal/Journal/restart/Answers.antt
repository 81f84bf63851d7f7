use Rattle.std.proofs.Common.{◌∙◌, ap, is_some}
use Rattle.cct_journal.specs.PowerCuts.{StandsForWith}
use Rattle.cct_journal.proofs.Cuts.{cut_read, found_again}
use Rattle.cct_journal.proofs.Leaving.{leaves_with}
use Rattle.cct_journal.proofs.Moments.{then_reads}
use Rattle.cct_journal.proofs.Opens.{never_refused}
use Rattle.cct_journal.proofs.journal.Journal.restart.Goals as goal

pub returns-in_default-clause-left : goal.returns-in_default-clause-left
returns-in_default-clause-left g c carry_of records before =
    leaves_with g.met.D.Disk.counts_now c.cut_power.ensures.outlasts.same_honest
    c.cut_power.ensures.outlasts.same_telling before.stands c.args.put.now
    (c.cut_power.ensures.moments carry_of records before)

pub returns-in-Ok-find_place-clause-moments : goal.returns-in-Ok-find_place-clause-moments
returns-in-Ok-find_place-clause-moments g c carry_of records before =
    then_reads (StandsForWith carry_of c.args.put.now records) (g.met.D.Disk.counts_now c.cut_power.new.disk)
    (c.cut_power.ensures.outlasts.same_honest ∙ before.stands.held.keeps_synced)
    (c.cut_power.ensures.moments carry_of records before) c.find_place.ensures.reads

pub returns-in-Ok-find_place-clause-stands : goal.returns-in-Ok-find_place-clause-stands
returns-in-Ok-find_place-clause-stands g c carry_of records before =
    let lost = c.in-Ok.ensures.left carry_of records before in
    (lost.0, lost.1, c.in-Ok-find_place.ensures.stands carry_of lost.0 lost.2)

pub returns-in-Ok-find_place-clause-finds : goal.returns-in-Ok-find_place-clause-finds
returns-in-Ok-find_place-clause-finds g c = found_again c.find_place.ensures.reads c.in-Ok-find_place.ensures.finds

pub returns-in-Ok-find_place-clause-cut : goal.returns-in-Ok-find_place-clause-cut
returns-in-Ok-find_place-clause-cut g c other =
    let disk = g.D.Disk in
    cut_read disk.size disk.honest disk.seen disk.may_leave disk.moment disk.left_since disk.cuts disk.cut_to
    c.args.choice c.args.self.now.disk c.cut_power.new.disk c.find_place.new.disk c.in-Ok.ensures.cut c.find_place.ensures.reads

pub returns-in-Err-clause-moments : goal.returns-in-Err-clause-moments
returns-in-Err-clause-moments g c carry_of records before =
    then_reads (StandsForWith carry_of c.args.put.now records) (g.met.D.Disk.counts_now c.cut_power.new.disk)
    (c.cut_power.ensures.outlasts.same_honest ∙ before.stands.held.keeps_synced)
    (c.cut_power.ensures.moments carry_of records before) c.find_place.ensures.reads

pub returns-in-Err-clause-never : goal.returns-in-Err-clause-never
returns-in-Err-clause-never g c carry_of records before =
    let lost = c.in-Ok.ensures.left carry_of records before in
    never_refused c.in-Err.why carry_of lost.2.image lost.0
    (c.in-Err.ensures.refused lost.2.image lost.2.held.tells) lost.2.stands

pub returns-in-Err-clause-left : goal.returns-in-Err-clause-left
returns-in-Err-clause-left g c carry_of records before =
    let lost = c.cut_power.ensures.outlasts in
    leaves_with g.met.D.Disk.counts_now
    (c.find_place.ensures.reads.same_honest ∙ lost.same_honest)
    (ap is_some c.find_place.ensures.reads.same_seen ∙ lost.same_telling) before.stands c.args.put.now
    (then_reads (StandsForWith carry_of c.args.put.now records) (g.met.D.Disk.counts_now c.cut_power.new.disk)
    (lost.same_honest ∙ before.stands.held.keeps_synced) (c.cut_power.ensures.moments carry_of records before)
    c.find_place.ensures.reads)

pub returns-in-Err-clause-cut : goal.returns-in-Err-clause-cut
returns-in-Err-clause-cut g c other =
    let disk = g.D.Disk in
    cut_read disk.size disk.honest disk.seen disk.may_leave disk.moment disk.left_since disk.cuts disk.cut_to
    c.args.choice c.args.self.now.disk c.cut_power.new.disk c.find_place.new.disk c.in-Ok.ensures.cut c.find_place.ensures.reads
