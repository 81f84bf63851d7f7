use Rattle.std.proofs.Common.{◌+◌, subst}
use Rattle.cct_disk.specs.Disk.{Holds, LeavesOnly}
use Rattle.cct_journal.specs.Gated.{IsBegun, behind_open_gate}
use Rattle.cct_journal.specs.Places.{behind_start}
use Rattle.cct_journal.proofs.TurnCalls.{start_here}
use Rattle.cct_journal.proofs.turning.begin_other.Goals as goal

pub returns-in_err-write_start-clause-moments : goal.returns-in_err-write_start-clause-moments
returns-in_err-write_start-clause-moments g c image held =
    let disk = g.D.Disk in
    let place = c.args.place.now in
    subst (λ s. LeavesOnly disk.moment disk.left_since c.args.disk.now c.write_start.new.disk
    (IsBegun s (behind_start (place.generation + 1) place.used c.args.carry.now) image))
    (start_here disk.size disk.seen g.met.D.Disk.fits c.args.disk.now place c.len.result c.len.ensures
    c.start_on-start.result c.start_on-start.ensures image held.tells) (c.write_start.ensures.moments image held)

pub returns-clause-moments : goal.returns-clause-moments
returns-clause-moments g c image held =
    let disk = g.D.Disk in
    let place = c.args.place.now in
    subst (λ s. LeavesOnly disk.moment disk.left_since c.args.disk.now c.write_start.new.disk
    (IsBegun s (behind_start (place.generation + 1) place.used c.args.carry.now) image))
    (start_here disk.size disk.seen g.met.D.Disk.fits c.args.disk.now place c.len.result c.len.ensures
    c.start_on-start.result c.start_on-start.ensures image held.tells) (c.write_start.ensures.moments image held)

pub returns-clause-done : goal.returns-clause-done
returns-clause-done g c image held =
    let disk = g.D.Disk in
    let place = c.args.place.now in
    subst (λ s. Holds disk.honest disk.seen disk.may_leave c.write_start.new.disk
    (behind_open_gate s (behind_start (place.generation + 1) place.used c.args.carry.now) image))
    (start_here disk.size disk.seen g.met.D.Disk.fits c.args.disk.now place c.len.result c.len.ensures
    c.start_on-start.result c.start_on-start.ensures image held.tells)
    (c.in_ok-write_start.ensures.done held.keeps_synced image held.tells)
