use Rattle.std.proofs.Common.{◌≡◌, [], refl, ap, sym, ◌∙◌}
use Rattle.cct_script.specs.Giving.{standing_of, line_given}
use Rattle.cct_script.specs.Scripts.{GoesOnIn, WithMoreTaken, read_of}
use Rattle.cct_script.proofs.Continuing.{Answers, closes_by, goes_by, next_after, stops_up}
use Rattle.cct_audit.specs.Capture.{capture_form, of_capture, watching}
use Rattle.cct_audit.proofs.Lines.{by_capture, watch_told}
use Rattle.cct_audit.proofs.reading.read_watch.Goals as goal

pub returns-in_err-line-clause-stops : goal.returns-in_err-line-clause-stops
returns-in_err-line-clause-stops g c past stands =
    let at : Answers by_capture (standing_of c.args.lines.now) (standing_of c.line.follows.lender-at-none)
    (g.S.Source.left c.args.script.now) (g.S.Source.left c.line.new.source) c.args.number (watching past)
    (line_given c.line.result) = record { going = refl; next = c.requires; gives = c.line.follows.holds-at-none.0 } in
    stops_up by_capture at c.from_residual.result c.in_err-line.field-0.0 (sym c.before_end.ensures ∙ ap read_of c.in_err-line.was)
    c.from_residual.ensures

pub returns-in-Ok-clause-reads : goal.returns-in-Ok-clause-reads
returns-in-Ok-clause-reads g c past stands =
    let old = standing_of c.args.lines.now in
    let new = standing_of c.line.follows.lender-at-none in
    let left = g.S.Source.left c.args.script.now in
    let left1 = g.S.Source.left c.line.new.source in
    let line = c.in_ok-line.line.now in
    let at : Answers by_capture old new left left1 c.args.number (watching past) (line_given c.line.result) =
    record { going = refl; next = c.requires; gives = c.line.follows.holds-at-none.0 } in
    watch_told past c.in-Ok.opened c.take_watch.new.monitor (λ read. capture_form (watching past) line ≡ read)
    (λ read. WithMoreTaken old.held left left1 (λ held. GoesOnIn of_capture c.args.number (watching past) held read new.held))
    (λ read is. goes_by by_capture at line read (sym c.before_end.ensures ∙ ap read_of c.in_ok-line.was) is)
    (c.in-Ok.ensures.reads past stands)

pub returns-in-Ok-clause-next : goal.returns-in-Ok-clause-next
returns-in-Ok-clause-next g c =
    let at : Answers by_capture (standing_of c.args.lines.now) (standing_of c.line.follows.lender-at-none)
    (g.S.Source.left c.args.script.now) (g.S.Source.left c.line.new.source) c.args.number (watching [])
    (line_given c.line.result) = record { going = refl; next = c.requires; gives = c.line.follows.holds-at-none.0 } in
    next_after by_capture at c.in_ok-line.line.now (sym c.before_end.ensures ∙ ap read_of c.in_ok-line.was)

pub returns-in-Err-clause-stops : goal.returns-in-Err-clause-stops
returns-in-Err-clause-stops g c past stands =
    let at : Answers by_capture (standing_of c.args.lines.now) (standing_of c.line.follows.lender-at-none)
    (g.S.Source.left c.args.script.now) (g.S.Source.left c.line.new.source) c.args.number (watching past)
    (line_given c.line.result) = record { going = refl; next = c.requires; gives = c.line.follows.holds-at-none.0 } in
    closes_by by_capture at c.in_ok-line.line.now c.in-Err.kind (sym c.before_end.ensures ∙ ap read_of c.in_ok-line.was)
    (c.in-Err.ensures.reads past stands)
