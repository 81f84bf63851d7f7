use Rattle.std.proofs.Common.{refl}
use Rattle.std.proofs.lemmas.Result.{on_ok_weaker}
use Rattle.cct_journal.proofs.TurnCalls.{close_done, close_moments}
use Rattle.cct_journal.proofs.turning.close_other.Goals as goal

pub returns-clause-moments : goal.returns-clause-moments
returns-clause-moments g c image held =
    let disk = g.D.Disk in
    close_moments disk.size disk.honest disk.seen disk.may_leave disk.moment disk.left_since g.met.D.Disk.fits
    c.args.disk.now c.args.place.now c.len.result c.len.ensures c.start_on-start.result c.start_on-start.ensures
    c.closing_place.result c.closing_place.ensures.opened c.closing_place.ensures.shut image held c.write_range.new.disk
    (c.write_range.ensures.moments image held)

pub returns-clause-done : goal.returns-clause-done
returns-clause-done g c =
    let disk = g.D.Disk in
    on_ok_weaker c.write_range.result (λ done image held.
    close_done disk.size disk.honest disk.seen disk.may_leave disk.moment disk.left_since g.met.D.Disk.fits
    c.args.disk.now c.args.place.now c.len.result c.len.ensures c.start_on-start.result c.start_on-start.ensures
    c.closing_place.result c.closing_place.ensures.opened c.closing_place.ensures.shut image held c.write_range.new.disk
    (done refl held.keeps_synced image held.tells)) c.write_range.ensures.done
