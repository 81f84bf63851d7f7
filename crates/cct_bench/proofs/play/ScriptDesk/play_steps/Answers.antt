use Rattle.std.proofs.Common.{◌≡◌, ◌+◌, Ok, refl, sym, ap, ◌∙◌, subst, inr, arith, rules}
use Rattle.std.proofs.Math.Nat.{le_trans}
use Rattle.std.specs.Prelude.{if◌then◌else◌}
use Rattle.cct_edge.proofs.Chains.{Rose-earlier}
use Rattle.cct_model.specs.Script.{at_steps, at_end, opens, plays}
use Rattle.cct_disk.specs.Disk.{IsTrusted}
use Rattle.cct_world.specs.Holds.{WorldHolds}
use Rattle.cct_world.specs.World.{StandsFor, desk_of, disk_of, setup_of, used_of}
use Rattle.cct_script.specs.Giving.{standing_of}
use Rattle.cct_script.specs.Scripts.{WithMoreTaken}
use Rattle.cct_bench.specs.Lines.{ScriptGoesOn}
use Rattle.cct_bench.specs.Disks.{disks}
use Rattle.cct_world.specs.Relying.{IsReliable}
use Rattle.cct_text.specs.Writing.{Writes, Wrote, Broke}
use Rattle.cct_bench.specs.Going.{Going}
use Rattle.cct_bench.specs.Playing.{read_as}
use Rattle.cct_bench.specs.Run.{OverCut}
use Rattle.cct_text.proofs.Writing.{writes_then}
use Rattle.cct_bench.proofs.Going.{going_opens, going_plays, played_ended, played_stopped}
use Rattle.cct_script.proofs.Sources.{serves_on}
use Rattle.cct_bench.proofs.Keeping.{step_ends, world_carried, world_ends}
use Rattle.cct_world.proofs.Lasting.{lasts_here, lasts_in, lasts_then}
use Rattle.cct_world.proofs.Relying.{reliable_back}
use Rattle.cct_bench.proofs.play.ScriptDesk.play_steps.Goals as goal

pub loop-room-init : goal.loop-room-init
loop-room-init g c =
    let disk = g.D.Disk in
    record {
      going = λ left0 given on start. start;
      source = search rules;
      sink = search rules;
      disk = record {
        outlasts = lasts_here disk.size disk.honest disk.seen disk.cuts (disk_of c.args.world);
        later = omega arith;
        rose = λ never. absurd never;
        lost = λ never. absurd never;
      };
      next = c.requires.next;
    }

pub returns-in-Err-clause-played : goal.returns-in-Err-clause-played
returns-in-Err-clause-played g c left0 given ready on start =
    let sink = g.K.Sink in
    let disk = g.D.Disk in
    let left = g.S.Source.left c.loop-room.script in
    let left1 = g.S.Source.left c.read_step.new.script in
    let world = c.loop-room.world in
    let last = c.into_disk.result in
    let R = IsReliable (IsTrusted disk.honest disk.seen given) in
    let W = Wrote sink.written sink.puts c.args.out.now c.loop-room.out in
    let B = Broke sink.written sink.puts c.args.out.now c.loop-room.out in
    let O = OverCut (disks disk.size disk.honest disk.seen disk.may_leave disk.cuts disk.cut_to given last) in
    let runs = c.loop-room.invariant in
    let now = lasts_then disk.size disk.honest disk.seen disk.cuts given (disk_of c.args.world) (disk_of world) on
    runs.disk.outlasts in
    played_stopped R (λ any. desk_of world) left0 left left1 (standing_of c.loop-room.self.lines).held c.loop-room.number
    (at_steps (setup_of world)) c.in-Err.why c.ending_at.result (WorldHolds given world) W B O c.ending_at.ensures
    (world_ends given last world (at_steps (setup_of world)) (λ by is. is) ready now c.into_disk.ensures) (runs.going left0 given on start) c.in-Err.ensures.stops

pub returns-then-is_end-clause-played : goal.returns-then-is_end-clause-played
returns-then-is_end-clause-played g c left0 given ready on start =
    let sink = g.K.Sink in
    let disk = g.D.Disk in
    let left = g.S.Source.left c.loop-room.script in
    let left1 = g.S.Source.left c.read_step.new.script in
    let left2 = g.S.Source.left c.finish.new.script in
    let held = (standing_of c.loop-room.self.lines).held in
    let rest = (standing_of c.read_step.new.lines).held in
    let number = c.loop-room.number in
    let world = c.loop-room.world in
    let last = c.into_disk-then-is_end.result in
    let setup = setup_of world in
    let stage = at_steps setup in
    let R = IsReliable (IsTrusted disk.honest disk.seen given) in
    let W = Wrote sink.written sink.puts c.args.out.now c.loop-room.out in
    let B = Broke sink.written sink.puts c.args.out.now c.loop-room.out in
    let O = OverCut (disks disk.size disk.honest disk.seen disk.may_leave disk.cuts disk.cut_to given last) in
    let runs = c.loop-room.invariant in
    let now = lasts_then disk.size disk.honest disk.seen disk.cuts given (disk_of c.args.world) (disk_of world) on
    runs.disk.outlasts in
    let s = c.step-step.result.now in
    let said =
    subst (λ any. WithMoreTaken held left left1 (λ bytes. ScriptGoesOn number stage bytes (read_as setup any) rest))
    (sym c.step-step.ensures) c.in-Ok.ensures.reads in
    let ends =
    subst (λ b. WithMoreTaken held left left1
    (λ bytes. ScriptGoesOn number stage bytes (if b then opens (at_end setup) else plays s (at_steps setup)) rest))
    (sym c.is_end.ensures ∙ c.if-is_end.true) said in
    let going =
    going_opens R (λ any. desk_of world) left0 left left1 held rest number stage (at_end setup) (WorldHolds given world) W
    (runs.going left0 given on start) ends in
    played_ended R (λ any. desk_of world) left0 left1 left2 rest (number + 1) setup c.finish.result (WorldHolds given world) W B O
    (world_ends given last world (at_end setup) (λ by is. is) ready now c.into_disk-then-is_end.ensures) going (c.finish.ensures.ended setup)

pub play-requires-clause-size : goal.play-requires-clause-size
play-requires-clause-size g c = c.loop-room.invariant.disk.outlasts.same_size ∙ c.requires.size

pub returns-in-Err-play-clause-played : goal.returns-in-Err-play-clause-played
returns-in-Err-play-clause-played g c left0 given ready on start =
    let sink = g.K.Sink in
    let disk = g.D.Disk in
    let left = g.S.Source.left c.loop-room.script in
    let left1 = g.S.Source.left c.read_step.new.script in
    let held = (standing_of c.loop-room.self.lines).held in
    let rest = (standing_of c.read_step.new.lines).held in
    let number = c.loop-room.number in
    let world = c.loop-room.world in
    let setup = setup_of world in
    let stage = at_steps setup in
    let s = c.step-step.result.now in
    let out = c.args.out.now in
    let out1 = c.loop-room.out in
    let out2 = c.play.new.out in
    let runs = c.loop-room.invariant in
    let now = lasts_then disk.size disk.honest disk.seen disk.cuts given (disk_of c.args.world) (disk_of world) on
    runs.disk.outlasts in
    let played = c.in-Err-play.ensures in
    let said =
    subst (λ any. WithMoreTaken held left left1 (λ bytes. ScriptGoesOn number stage bytes (read_as setup any) rest))
    (sym c.step-step.ensures) c.in-Ok.ensures.reads in
    let reads =
    subst (λ b. WithMoreTaken held left left1
    (λ bytes. ScriptGoesOn number stage bytes (if b then opens (at_end setup) else plays s (at_steps setup)) rest))
    (sym c.is_end.ensures ∙ c.if-is_end.false) said in
    step_ends sink.written sink.puts out out1 out2 left0 left left1 held rest number stage c.in-Err-play.ended.0 s given
    c.in-Err-play.ended.1 world ready now played.lasts refl (runs.going left0 given on start) reads played.ended

pub returns-in-Err-play-clause-disk : goal.returns-in-Err-play-clause-disk
returns-in-Err-play-clause-disk g c =
    let disk = g.D.Disk in
    let world = c.loop-room.world in
    let last = c.in-Err-play.ended.1 in
    let before = c.loop-room.invariant.disk in
    let played = c.in-Err-play.ensures in
    let lasts =
    lasts_in disk.size disk.honest disk.seen disk.cuts c.step-step.result.now (disk_of world) last played.lasts in
    record {
      outlasts = lasts_then disk.size disk.honest disk.seen disk.cuts (disk_of c.args.world) (disk_of world) last
          before.outlasts lasts;
      later = le_trans before.later played.disk_cause.later;
      rose = λ is. Rose-earlier _ _ _ before.later (played.disk_cause.rose is);
      lost = λ is. Rose-earlier _ _ _ before.outlasts.later_cuts (played.lost_cause is);
    }

pub loop-room-preserved : goal.loop-room-preserved
loop-room-preserved g c =
    let sink = g.K.Sink in
    let disk = g.D.Disk in
    let left = g.S.Source.left c.loop-room.script in
    let left1 = g.S.Source.left c.read_step.new.script in
    let held = (standing_of c.loop-room.self.lines).held in
    let rest = (standing_of c.read_step.new.lines).held in
    let number = c.loop-room.number in
    let world = c.loop-room.world in
    let world1 = c.in-Ok-play.next in
    let setup = setup_of world in
    let stage = at_steps setup in
    let s = c.step-step.result.now in
    let out = c.args.out.now in
    let out1 = c.loop-room.out in
    let out2 = c.play.new.out in
    let W2 = Wrote sink.written sink.puts out out2 in
    let runs = c.loop-room.invariant in
    let said =
    subst (λ any. WithMoreTaken held left left1 (λ bytes. ScriptGoesOn number stage bytes (read_as setup any) rest))
    (sym c.step-step.ensures) c.in-Ok.ensures.reads in
    let reads =
    subst (λ b. WithMoreTaken held left left1
    (λ bytes. ScriptGoesOn number stage bytes (if b then opens (at_end setup) else plays s (at_steps setup)) rest))
    (sym c.is_end.ensures ∙ c.if-is_end.false) said in
    let played = c.in-Ok-play.ensures in
    let same : stage ≡ at_steps (setup_of world1) = ap at_steps (sym played.setup) in
    record {
      going = λ left0 given on start.
          let trusted = IsTrusted disk.honest disk.seen given in
          let now = lasts_then disk.size disk.honest disk.seen disk.cuts given (disk_of c.args.world) (disk_of world)
          on runs.disk.outlasts in
          subst (λ after. Going (IsReliable trusted) (λ any. desk_of world1) left0 left1 rest (number + 1) after (WorldHolds given world1) W2) same
          (
          going_plays (IsReliable trusted) (desk_of world) (desk_of world1) left0 left left1 held rest number stage stage setup (WorldHolds given world)
          (WorldHolds given world1) s (Wrote sink.written sink.puts out out1)
          (λ report. Writes sink.written sink.puts out1 report (Ok tt) out2) W2 (reliable_back trusted)
          (λ past none. inr none) refl
          (λ xs ys before here. writes_then sink.written sink.puts out out1 out2 xs ys (Ok tt) before here)
          (runs.going left0 given on start) reads
          (world_carried given (disk_of world1) world (StandsFor world1) (setup_of world1) (desk_of world1) (used_of world1) s
          (λ report. Writes sink.written sink.puts out1 report (Ok tt) out2) played.setup now played.lasts played.plays)
          );
      source = serves_on runs.source c.in-Ok.ensures.source;
      sink = serves_on runs.sink played.sink;
      disk = record {
        outlasts = lasts_then disk.size disk.honest disk.seen disk.cuts (disk_of c.args.world) (disk_of world)
            (disk_of world1) runs.disk.outlasts
            (lasts_in disk.size disk.honest disk.seen disk.cuts s (disk_of world) (disk_of world1) played.lasts);
        later = le_trans runs.disk.later played.disk_cause;
        rose = λ never. absurd never;
        lost = λ never. absurd never;
      };
      next = c.in-Ok.ensures.next;
    }
