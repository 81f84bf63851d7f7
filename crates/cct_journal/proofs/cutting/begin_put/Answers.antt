use Rattle.std.proofs.Common.{sym, subst}
use Rattle.cct_disk.specs.Disk.{LeavesOnly}
use Rattle.cct_journal.specs.PowerCuts.{LeavesBy, StandsForWith}
use Rattle.cct_journal.proofs.Calls.{settled_leaves, stands_settled}
use Rattle.cct_journal.proofs.Cuts.{put_leaves}
use Rattle.cct_journal.proofs.Leaving.{before_some, leaves_one_of, leaves_same}
use Rattle.cct_journal.proofs.cutting.begin_put.Goals as goal

pub returns-in_err-put_record-in-Some-clause-moments : goal.returns-in_err-put_record-in-Some-clause-moments
returns-in_err-put_record-in-Some-clause-moments g c carry_of records before =
    subst (λ put. LeavesOnly g.D.Disk.moment g.D.Disk.left_since c.args.disk.now c.put_record.new.disk
    (StandsForWith carry_of put records)) (sym c.in-Some.is)
    (c.put_record.ensures.moments.each carry_of records (before_some c.args.put.now c.in-Some.entry c.in-Some.is before))

pub returns-in_ok-put_record-in-Some-clause-moments : goal.returns-in_ok-put_record-in-Some-clause-moments
returns-in_ok-put_record-in-Some-clause-moments g c carry_of records before =
    subst (λ put. LeavesOnly g.D.Disk.moment g.D.Disk.left_since c.args.disk.now c.put_record.new.disk
    (StandsForWith carry_of put records)) (sym c.in-Some.is)
    (c.put_record.ensures.moments.each carry_of records (before_some c.args.put.now c.in-Some.entry c.in-Some.is before))

pub returns-in_ok-put_record-in-Some-clause-left : goal.returns-in_ok-put_record-in-Some-clause-left
returns-in_ok-put_record-in-Some-clause-left g c carry_of records before =
    let disk = g.D.Disk in
    let new = c.put_record.new.disk in
    let on = c.put_record.ensures.goes_on in
    let entry = c.in-Some.entry in
    let stands = before_some c.args.put.now entry c.in-Some.is before in
    subst (λ put. LeavesBy carry_of disk.honest disk.seen disk.may_leave new c.args.calls put records) (sym c.in-Some.is)
    (put_leaves c.args.calls entry records c.requires.few
    (λ early. leaves_same g.met.D.Disk.counts_now on.same_honest on.same_telling stands.stands
    (c.put_record.ensures.moments.early early carry_of records stands))
    (leaves_one_of g.met.D.Disk.counts_now on.same_honest on.same_telling stands.stands entry
    (c.put_record.ensures.moments.each carry_of records stands))
    (λ all. settled_leaves (stands_settled (c.in_ok-put_record-in-Some.ensures.done all carry_of records stands))))
