use Rattle.std.proofs.Common.{◌+◌, subst, sym}
use Rattle.cct_journal.specs.Stands.{Stands}
use Rattle.cct_journal.proofs.Heads.{start_len}
use Rattle.cct_journal.proofs.TurnCalls.{same_moments, turn_done, turn_moments}
use Rattle.cct_journal.specs.declared.format.TheConstants.{START}
use Rattle.cct_disk.proofs.Taking.{takes_none}
use Rattle.cct_journal.proofs.turning.turn_if_full.Goals as goal

pub returns-then-not-is_full-clause-moments : goal.returns-then-not-is_full-clause-moments
returns-then-not-is_full-clause-moments g c carry_of records stands =
    same_moments g.met.D.Disk.only_now stands.stands

pub returns-in_err-turned-clause-moments : goal.returns-in_err-turned-clause-moments
returns-in_err-turned-clause-moments g c carry_of records stands =
    let disk = g.D.Disk in
    let place = c.args.place.now in
    turn_moments disk.size disk.honest disk.seen disk.may_leave disk.moment disk.left_since c.args.disk.now place
    c.args.carry.now c.requires.placed
    (c.is_full.ensures.full c.if-not-is_full.false) c.requires.few c.requires.rightly (start_len (place.generation + 1) place.used c.args.carry.now c.requires.rightly) carry_of records
    stands c.turn_half.new.disk c.turn_half.ensures.moments

pub returns-clause-moments : goal.returns-clause-moments
returns-clause-moments g c carry_of records stands =
    let disk = g.D.Disk in
    let place = c.args.place.now in
    turn_moments disk.size disk.honest disk.seen disk.may_leave disk.moment disk.left_since c.args.disk.now place
    c.args.carry.now c.requires.placed
    (c.is_full.ensures.full c.if-not-is_full.false) c.requires.few c.requires.rightly (start_len (place.generation + 1) place.used c.args.carry.now c.requires.rightly) carry_of records
    stands c.turn_half.new.disk c.turn_half.ensures.moments

pub returns-clause-done : goal.returns-clause-done
returns-clause-done g c carry_of records stands =
    let disk = g.D.Disk in
    let place = c.args.place.now in
    subst (λ turned. Stands carry_of disk.honest disk.seen disk.may_leave c.turn_half.new.disk turned records)
    (sym c.in_ok-turned.ensures.place)
    (turn_done disk.size disk.honest disk.seen disk.may_leave disk.moment disk.left_since c.args.disk.now place
    c.args.carry.now c.requires.placed
    (c.is_full.ensures.full c.if-not-is_full.false) c.requires.few c.requires.rightly (start_len (place.generation + 1) place.used c.args.carry.now c.requires.rightly) carry_of records
    stands c.turn_half.new.disk c.in_ok-turned.ensures.done)

pub returns-then-not-is_full-clause-takes : goal.returns-then-not-is_full-clause-takes
returns-then-not-is_full-clause-takes g c = takes_none 6 (START + 2) c.args.disk.now
