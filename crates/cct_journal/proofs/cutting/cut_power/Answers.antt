use Rattle.std.proofs.Common.{◌∙◌}
use Rattle.cct_journal.proofs.Cuts.{cut_here}
use Rattle.cct_journal.proofs.Leaving.{cut_by}
use Rattle.cct_journal.proofs.Moments.{then_elapses}
use Rattle.cct_journal.proofs.cutting.cut_power.Goals as goal

pub returns-in_err-power_cut-clause-moments : goal.returns-in_err-power_cut-clause-moments
returns-in_err-power_cut-clause-moments g c carry_of records before =
    then_elapses g.met.D.Disk.counts_now g.met.D.Disk.only_now
    (c.power_cut.ensures.images (c.begin_put.ensures.goes_on.same_honest ∙ before.stands.held.keeps_synced))
    c.power_cut.ensures.time (c.begin_put.ensures.moments carry_of records before)

pub returns-clause-moments : goal.returns-clause-moments
returns-clause-moments g c carry_of records before =
    then_elapses g.met.D.Disk.counts_now g.met.D.Disk.only_now
    (c.power_cut.ensures.images (c.begin_put.ensures.goes_on.same_honest ∙ before.stands.held.keeps_synced))
    c.power_cut.ensures.time (c.begin_put.ensures.moments carry_of records before)

pub returns-clause-left : goal.returns-clause-left
returns-clause-left g c carry_of records before =
    cut_by c.power_cut.ensures.outlasts c.in_ok-power_cut.ensures.cut
    c.args.calls c.args.put.now carry_of records (c.in_ok-begin_put.ensures.left carry_of records before)

pub returns-clause-cut : goal.returns-clause-cut
returns-clause-cut g c =
    let disk = g.D.Disk in
    cut_here disk.size disk.honest disk.seen disk.cuts disk.cut_to c.args.choice c.args.disk.now c.begin_put.new.disk
    c.power_cut.new.self c.begin_put.ensures.goes_on c.in_ok-power_cut.ensures.cut.one
    c.in_ok-power_cut.ensures.counted
