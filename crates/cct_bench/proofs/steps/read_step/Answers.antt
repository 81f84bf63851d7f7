use Rattle.std.proofs.Common.{refl, sym, ap, ◌∙◌}
use Rattle.cct_model.specs.Script.{at_steps}
use Rattle.cct_script.specs.Giving.{standing_of, line_given}
use Rattle.cct_world.specs.World.{setup_of}
use Rattle.cct_script.specs.Scripts.{read_of}
use Rattle.cct_bench.specs.Playing.{read_as}
use Rattle.cct_bench.specs.Rooms.{step_in}
use Rattle.cct_script.proofs.Continuing.{Answers, closes_by, goes_by, next_after, stops_up}
use Rattle.cct_bench.proofs.Scripts.{by_run}
use Rattle.cct_bench.proofs.steps.read_step.Goals as goal

pub returns-in_err-line-clause-stops : goal.returns-in_err-line-clause-stops
returns-in_err-line-clause-stops g c =
    let at : Answers by_run (standing_of c.args.lines.now) (standing_of c.line.follows.lender-at-none)
    (g.S.Source.left c.args.script.now) (g.S.Source.left c.line.new.source) c.args.number (at_steps (setup_of c.args.world.now))
    (line_given c.line.result) = record { going = refl; next = c.requires; gives = c.line.follows.holds-at-none.0 } in
    stops_up by_run at c.from_residual.result c.in_err-line.field-0.0 (sym c.before_end.ensures ∙ ap read_of c.in_err-line.was)
    c.from_residual.ensures

pub returns-in-Ok-clause-reads : goal.returns-in-Ok-clause-reads
returns-in-Ok-clause-reads g c =
    let at : Answers by_run (standing_of c.args.lines.now) (standing_of c.line.follows.lender-at-none)
    (g.S.Source.left c.args.script.now) (g.S.Source.left c.line.new.source) c.args.number (at_steps (setup_of c.args.world.now))
    (line_given c.line.result) = record { going = refl; next = c.requires; gives = c.line.follows.holds-at-none.0 } in
    goes_by by_run at c.in_ok-line.line.now (read_as (setup_of c.args.world.now) (step_in c.take_line_into.new.rooms c.in-Ok.room))
    (sym c.before_end.ensures ∙ ap read_of c.in_ok-line.was) c.in-Ok.ensures.reads

pub returns-in-Ok-clause-next : goal.returns-in-Ok-clause-next
returns-in-Ok-clause-next g c =
    let at : Answers by_run (standing_of c.args.lines.now) (standing_of c.line.follows.lender-at-none)
    (g.S.Source.left c.args.script.now) (g.S.Source.left c.line.new.source) c.args.number (at_steps (setup_of c.args.world.now))
    (line_given c.line.result) = record { going = refl; next = c.requires; gives = c.line.follows.holds-at-none.0 } in
    next_after by_run at c.in_ok-line.line.now (sym c.before_end.ensures ∙ ap read_of c.in_ok-line.was)

pub returns-in-Err-clause-stops : goal.returns-in-Err-clause-stops
returns-in-Err-clause-stops g c =
    let at : Answers by_run (standing_of c.args.lines.now) (standing_of c.line.follows.lender-at-none)
    (g.S.Source.left c.args.script.now) (g.S.Source.left c.line.new.source) c.args.number (at_steps (setup_of c.args.world.now))
    (line_given c.line.result) = record { going = refl; next = c.requires; gives = c.line.follows.holds-at-none.0 } in
    closes_by by_run at c.in_ok-line.line.now c.in-Err.kind (sym c.before_end.ensures ∙ ap read_of c.in_ok-line.was)
    c.in-Err.ensures.reads
