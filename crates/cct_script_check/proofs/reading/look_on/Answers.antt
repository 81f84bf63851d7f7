use Rattle.std.proofs.Common.{ap, sym, ◌∙◌}
use Rattle.cct_script.specs.Giving.{line_given, standing_of}
use Rattle.cct_script.specs.Scripts.{read_of}
use Rattle.cct_script.proofs.Continuing.{Answers, goes_by, next_after, stops_up}
use Rattle.cct_script_check.specs.Parts.{mark_as, stage_of}
use Rattle.cct_script_check.proofs.Lines.{by_proof, part_going}
use Rattle.cct_script_check.proofs.reading.look_on.Goals as goal

pub returns-in_err-line-clause-stops : goal.returns-in_err-line-clause-stops
returns-in_err-line-clause-stops g c =
    let at : Answers by_proof (standing_of c.args.lines.now) (standing_of c.line.follows.lender-at-none)
    (g.S.Source.left c.args.script.now) (g.S.Source.left c.line.new.source) c.args.number
    (stage_of c.args.part c.args.setup.now) (line_given c.line.result) =
    record { going = part_going c.args.part c.args.setup.now; next = c.requires; gives = c.line.follows.holds-at-none.0 } in
    stops_up by_proof at c.from_residual.result c.in_err-line.field-0.0
    (sym c.before_end.ensures ∙ ap read_of c.in_err-line.was) c.from_residual.ensures

pub returns-clause-reads : goal.returns-clause-reads
returns-clause-reads g c =
    let at : Answers by_proof (standing_of c.args.lines.now) (standing_of c.line.follows.lender-at-none)
    (g.S.Source.left c.args.script.now) (g.S.Source.left c.line.new.source) c.args.number
    (stage_of c.args.part c.args.setup.now) (line_given c.line.result) =
    record { going = part_going c.args.part c.args.setup.now; next = c.requires; gives = c.line.follows.holds-at-none.0 } in
    goes_by by_proof at c.in_ok-line.line.now (mark_as c.take_line.result c.take_line.new.setup)
    (sym c.before_end.ensures ∙ ap read_of c.in_ok-line.was) c.take_line.ensures.found

pub returns-clause-next : goal.returns-clause-next
returns-clause-next g c =
    let at : Answers by_proof (standing_of c.args.lines.now) (standing_of c.line.follows.lender-at-none)
    (g.S.Source.left c.args.script.now) (g.S.Source.left c.line.new.source) c.args.number
    (stage_of c.args.part c.args.setup.now) (line_given c.line.result) =
    record { going = part_going c.args.part c.args.setup.now; next = c.requires; gives = c.line.follows.holds-at-none.0 } in
    next_after by_proof at c.in_ok-line.line.now (sym c.before_end.ensures ∙ ap read_of c.in_ok-line.was)
