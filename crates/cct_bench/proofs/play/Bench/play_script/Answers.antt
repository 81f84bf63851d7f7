use Rattle.std.proofs.Common.{◌≡◌, ap, sym, subst, ◌∙◌}
use Rattle.cct_model.specs.Change.{clear_desk}
use Rattle.cct_model.specs.Script.{at_steps}
use Rattle.cct_disk.specs.Disk.{IsTrusted}
use Rattle.cct_journal.specs.Journal as journals
use Rattle.cct_disk.specs.Disk.{Outlasts}
use Rattle.cct_world.specs.Holds.{WorldHolds}
use Rattle.cct_world.specs.World.{StandsFor, desk_of, disk_of, setup_of, used_of}
use Rattle.cct_script.specs.Giving.{standing_of}
use Rattle.cct_text.specs.Writing.{Broke, Wrote, IsNothing, NeverBroke}
use Rattle.cct_bench.specs.Disks.{Always, disks}
use Rattle.cct_world.specs.Relying.{IsReliable}
use Rattle.cct_bench.specs.Going.{Going, IsUnbegun}
use Rattle.cct_bench.specs.Run.{OverCut}
use Rattle.cct_text.proofs.Writing.{wrote_none, wrote_nothing}
use Rattle.cct_world.proofs.Holding.{holds_first}
use Rattle.cct_bench.proofs.Going.{going_by, going_holds, going_setup, played_by, played_none}
use Rattle.cct_bench.proofs.Keeping.{fresh_ends, fresh_none}
use Rattle.cct_world.proofs.Lasting.{lasts_on}
use Rattle.cct_bench.proofs.play.Bench.play_script.Goals as goal

pub build-requires-clause-sound : goal.build-requires-clause-sound
build-requires-clause-sound g c =
    going_setup Always clear_desk (g.S.Source.left c.args.script.now) (g.S.Source.left c.read_setup.new.script)
    (standing_of c.read_setup.new.lines).held c.in-Ok.first c.read_setup.new.setup IsUnbegun IsNothing
    c.in-Ok.ensures.opened

pub returns-in-Ok-build-clause-played : goal.returns-in-Ok-build-clause-played
returns-in-Ok-build-clause-played g c given ready on =
    let sink = g.K.Sink in
    let disk = g.D.Disk in
    let out = c.args.out.now in
    let left0 = g.S.Source.left c.args.script.now in
    let left = g.S.Source.left c.read_setup.new.script in
    let lines = (standing_of c.read_setup.new.lines).held in
    let first = c.in-Ok.first in
    let world = c.in-Ok-build.world in
    let W = Wrote sink.written sink.puts out out in
    let R = IsReliable (IsTrusted disk.honest disk.seen given) in
    let opened =
    subst (λ setup. Going Always clear_desk left0 left lines first (at_steps setup) IsUnbegun IsNothing)
    (sym c.in-Ok-build.ensures.setup) c.in-Ok.ensures.opened in
    let going =
    going_by Always clear_desk left0 left lines first (at_steps (setup_of world)) IsUnbegun IsNothing W
    (wrote_nothing sink.written sink.puts out) opened in
    let same = c.in-Ok-build.ensures.disk in
    let begins : clear_desk (setup_of world) ≡ desk_of world =
    ap clear_desk c.in-Ok-build.ensures.setup ∙ sym c.in-Ok-build.ensures.desk in
    let fresh = c.in-Ok-build.ensures.fresh (c.requires.made.stands c.read_setup.new.setup) in
    c.play_steps.ensures.played left0 given ready
    (subst (Outlasts disk.size disk.honest disk.seen disk.cuts given) (sym same)
    (lasts_on disk.size disk.honest disk.seen disk.cuts given _ on))
    (
    going_holds Always R clear_desk (λ any. desk_of world) left0 left lines first (setup_of world) IsUnbegun
    (WorldHolds given world) W begins (λ past relies. tt)
    (λ played past unbegun. holds_first disk.size disk.honest disk.seen disk.cuts disk.cut_to (setup_of world) given
    (StandsFor world) (disk_of world) (used_of world) (ap disk.cuts same ∙ on.same_cuts) fresh.host.keeps.used
    (λ sure. fresh) played past unbegun.0 unbegun.1) going
    )

pub returns-in-Err-build-clause-played : goal.returns-in-Err-build-clause-played
returns-in-Err-build-clause-played g c given ready on =
    let sink = g.K.Sink in
    let disk = g.D.Disk in
    let out = c.args.out.now in
    let last = c.in-Err-build.disk in
    played_none Always (IsReliable (IsTrusted disk.honest disk.seen given)) clear_desk (g.S.Source.left c.args.script.now)
    (g.S.Source.left c.read_setup.new.script) (standing_of c.read_setup.new.lines).held c.in-Ok.first
    (at_steps c.read_setup.new.setup) IsUnbegun (Wrote sink.written sink.puts out out)
    (Broke sink.written sink.puts out out)
    (OverCut (disks disk.size disk.honest disk.seen disk.may_leave disk.cuts disk.cut_to given last))
    (fresh_none disk.size disk.honest disk.seen disk.may_leave disk.cuts disk.cut_to given last (journals.disk_of c.args.journal)
    (journals.place_of c.args.journal) on c.in-Err-build.ensures.disk c.requires.made.stands)
    (wrote_none sink.written sink.puts out) c.in-Ok.ensures.opened

pub returns-in-Err-clause-played : goal.returns-in-Err-clause-played
returns-in-Err-clause-played g c given ready on =
    let sink = g.K.Sink in
    let disk = g.D.Disk in
    let out = c.args.out.now in
    let last = c.into_disk.result in
    played_by Always (IsReliable (IsTrusted disk.honest disk.seen given)) (g.S.Source.left c.args.script.now)
    (g.S.Source.left c.read_setup.new.script) c.in-Err.how IsNothing (Wrote sink.written sink.puts out out) NeverBroke
    (Broke sink.written sink.puts out out)
    (OverCut (disks disk.size disk.honest disk.seen disk.may_leave disk.cuts disk.cut_to given last)) (λ past relies. tt)
    (wrote_nothing sink.written sink.puts out)
    (fresh_ends disk.size disk.honest disk.seen disk.may_leave disk.cuts disk.cut_to given last
    (journals.disk_of c.args.journal) (journals.place_of c.args.journal) ready on c.into_disk.ensures c.requires.made.stands)
    c.in-Err.ensures.ended
