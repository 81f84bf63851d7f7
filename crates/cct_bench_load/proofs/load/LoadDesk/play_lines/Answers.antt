use Rattle.std.proofs.Common.{◌+◌, ◌*◌, ◌++◌, ◌∷◌, [], List, reverse, sym, subst, arith}
use Rattle.std.specs.Prelude.{IsTrue}
use Rattle.cct_model.specs.lines.command.Step.{Step}
use Rattle.cct_model.specs.lines.entry.Entry.{Entry}
use Rattle.cct_model.specs.Legal.{is_played}
use Rattle.cct_bench_load.specs.Sums.{SumsUp}
use Rattle.cct_bench_load.proofs.Lines.{line_is_played, lines_counted}
use Rattle.cct_bench_load.proofs.Playing.{disk_stops, goes_begin, goes_on, goes_stops}
use Rattle.cct_bench_load.proofs.load.LoadDesk.play_lines.Goals as goal

pub loop-line-init : goal.loop-line-init
loop-line-init g c =
    goes_begin c.args.world c.args.self.now.sums c.args.load.seed c.requires.fresh c.requires.desk c.requires.sums c.requires.setup

pub step-requires-clause-played : goal.step-requires-clause-played
step-requires-clause-played g c =
    subst (λ s. IsTrue (is_played s)) (sym c.nth_line-step.ensures.value)
    (line_is_played c.args.load.seed c.loop-line.line)

pub returns-in-Err-clause-stopped : goal.returns-in-Err-clause-stopped
returns-in-Err-clause-stopped g c =
    goes_stops c.args.world c.loop-line.world c.in-Err.stopped.0 c.in-Err.stopped.1 c.loop-line.self.sums
    c.args.load.seed c.loop-line.line (6 + 20 * c.args.load.rounds) c.nth_line-step.result c.loop-line-test.true
    c.step.new.report.items c.nth_line-step.ensures.value c.loop-line.invariant c.in-Err.ensures.unplayed

pub returns-in-Err-clause-disk : goal.returns-in-Err-clause-disk
returns-in-Err-clause-disk g c =
    disk_stops c.args.world c.loop-line.world c.in-Err.stopped.0 c.in-Err.stopped.1 c.loop-line.self.sums
    c.args.load.seed c.loop-line.line c.nth_line-step.result c.step.new.report.items c.loop-line.invariant
    c.in-Err.ensures.unplayed

pub add_step-requires-clause-steps : goal.add_step-requires-clause-steps
add_step-requires-clause-steps g c =
    omega (arith, c.loop-line.invariant.lines.holds.counted.steps, lines_counted c.args.load.seed c.loop-line.line)

pub loop-line-preserved : goal.loop-line-preserved
loop-line-preserved g c =
    goes_on c.args.world c.loop-line.world c.in-Ok.world c.loop-line.self.sums c.add_step.new.self c.args.load.seed
    c.loop-line.line c.nth_line-step.result c.step.new.report.items c.nth_line-step.ensures.value c.loop-line.invariant
    c.in-Ok.ensures.played
    (subst (λ report. (played : List Step) (past : List Entry) (s : Step) → SumsUp c.loop-line.self.sums played past
    → SumsUp c.add_step.new.self (played ++ s ∷ []) (reverse report ++ past)) c.as_slice.ensures.value
    c.add_step.ensures)
