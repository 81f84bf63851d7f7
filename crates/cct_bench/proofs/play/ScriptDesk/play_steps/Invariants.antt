use Rattle.std.proofs.Common.{◌-◌}
use Rattle.cct_model.specs.Script.{at_steps}
use Rattle.cct_disk.specs.Disk.{IsTrusted}
use Rattle.cct_disk.specs.Disk.{Outlasts}
use Rattle.cct_edge.specs.Bytes.{Serves}
use Rattle.cct_world.specs.Holds.{WorldHolds}
use Rattle.cct_world.specs.Serving.{DiskServes}
use Rattle.cct_world.specs.World.{desk_of, disk_of, setup_of}
use Rattle.cct_script.specs.Giving.{standing_of}
use Rattle.cct_text.specs.Writing.{Wrote}
use Rattle.cct_world.specs.Relying.{IsReliable}
use Rattle.cct_bench.specs.Going.{Going}
use Rattle.cct_bench.proofs.Going.{Runs}
use Rattle.cct_bench.proofs.play.ScriptDesk.play_steps.Given as goal

abbrev pub invariant-loop-room : goal.invariant-loop-room
invariant-loop-room g l =
    let source = g.S.Source in
    let sink = g.K.Sink in
    let disk = g.D.Disk in
    Runs (λ given. Outlasts disk.size disk.honest disk.seen disk.cuts given (disk_of l.fn.world))
    (λ left0 given. Going (IsReliable (IsTrusted disk.honest disk.seen given)) (λ any. desk_of l.fn.world) left0 (source.left l.fn.script)
    (standing_of l.fn.self.lines).held l.fn.first (at_steps (setup_of l.fn.world)) (WorldHolds given l.fn.world)
    (Wrote sink.written sink.puts l.fn.out l.fn.out))
    (λ left0 given. Going (IsReliable (IsTrusted disk.honest disk.seen given)) (λ any. desk_of l.world) left0 (source.left l.script)
    (standing_of l.self.lines).held l.number (at_steps (setup_of l.world)) (WorldHolds given l.world)
    (Wrote sink.written sink.puts l.fn.out l.out))
    (Serves source.left source.faults l.fn.script l.script ⊥) (Serves sink.written sink.faults l.fn.out l.out ⊥)
    (DiskServes disk.size disk.honest disk.seen disk.cuts disk.faults (disk_of l.fn.world) (disk_of l.world) ⊥ ⊥)
    (standing_of l.self.lines) l.number

abbrev pub decreases-loop-room : goal.decreases-loop-room
decreases-loop-room g l = 1048578 - l.number
