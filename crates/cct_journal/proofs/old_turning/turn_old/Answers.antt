use Rattle.std.proofs.Common.{◌+◌, List}
use Rattle.cct_model_lines.specs.declared.record.Record.{Record}
use Rattle.cct_journal.specs.OldStands.{BeginsEmpty, OldStands}
use Rattle.cct_journal.specs.Places.{after_turn}
use Rattle.cct_journal.proofs.Heads.{start_len}
use Rattle.cct_journal.proofs.OldTurns.{old_done, old_moments, on_place}
use Rattle.cct_journal.proofs.old_turning.turn_old.Goals as goal

pub returns-clause-moments : goal.returns-clause-moments
returns-clause-moments g c rest stands =
    let disk = g.D.Disk in
    let old = c.args.old.now in
    let carry = c.args.carry.now in
    old_moments disk.size disk.honest disk.seen disk.may_leave disk.moment disk.left_since g.met.D.Disk.fits
    c.args.disk.now old carry c.requires.placed c.requires.rightly
    (start_len (old.place.generation + 1) old.place.used carry c.requires.rightly) rest stands c.turn_half.new.disk
    c.turn_half.ensures.moments

pub returns-clause-done : goal.returns-clause-done
returns-clause-done g c =
    let disk = g.D.Disk in
    let old = c.args.old.now in
    let carry = c.args.carry.now in
    on_place (after_turn old.place carry) (λ turned. (rest : List Record)
    → OldStands disk.honest disk.seen disk.may_leave c.args.disk.now old rest
    → BeginsEmpty disk.honest disk.seen disk.may_leave c.turn_half.new.disk turned) c.turn_half.result
    c.turn_half.ensures.place c.turn_half.ensures.done
    (λ done rest stands. old_done disk.size disk.honest disk.seen disk.may_leave disk.moment disk.left_since
    g.met.D.Disk.fits c.args.disk.now old carry c.requires.placed c.requires.rightly
    (start_len (old.place.generation + 1) old.place.used carry c.requires.rightly) rest stands c.turn_half.new.disk done)
