use Rattle.std.proofs.Common.{ap, sym, ◌∙◌}
use Rattle.cct_model.specs.Script.{read_step_line, refuses}
use Rattle.cct_world.specs.World.{setup_of}
use Rattle.cct_bench.proofs.Reading.{step_form, step_unknown, step_reads, step_can}
use Rattle.cct_bench.proofs.steps.take_step_line.Goals as goal

pub returns-in-Err-clause-reads : goal.returns-in-Err-clause-reads
returns-in-Err-clause-reads g c =
    let setup = setup_of c.args.world.now in
    step_form setup c.args.line.now (refuses c.in-Err.why) (ap (read_step_line setup) c.in-Err.ensures.reads)

pub returns-then-not-knows-clause-reads : goal.returns-then-not-knows-clause-reads
returns-then-not-knows-clause-reads g c =
    step_unknown (setup_of c.args.world.now) c.args.line.now c.read_step_into.new.step c.in-Ok.ensures.reads
    (sym c.knows.ensures ∙ c.if-not-knows.true)

pub returns-clause-reads : goal.returns-clause-reads
returns-clause-reads g c =
    step_reads (setup_of c.args.world.now) c.args.line.now c.read_step_into.new.step c.in-Ok.ensures.reads
    (sym c.knows.ensures ∙ c.if-not-knows.false)

pub returns-clause-can : goal.returns-clause-can
returns-clause-can g c going =
    step_can (setup_of c.args.world.now) c.args.line.now c.read_step_into.new.step c.in-Ok.ensures.reads
    (sym c.knows.ensures ∙ c.if-not-knows.false) going
