use Rattle.std.proofs.Common.{Err, refl, sym, ◌∙◌, subst}
use Rattle.cct_model.specs.Script.{at_end}
use Rattle.cct_script.specs.Giving.{standing_of, line_given}
use Rattle.cct_script.specs.Scripts.{WithMoreTaken}
use Rattle.cct_bench.specs.Lines.{EndsAt}
use Rattle.cct_script.proofs.Continuing.{answer_ends}
use Rattle.cct_bench.proofs.Scripts.{by_run, stops_end}
use Rattle.cct_bench.proofs.play.ScriptDesk.finish.Goals as goal

pub returns-in-Err-clause-ended : goal.returns-in-Err-clause-ended
returns-in-Err-clause-ended g c setup =
    let old = standing_of c.args.self.now.lines in
    let new = standing_of c.line.follows.lender-at-none in
    let left = g.S.Source.left c.args.script.now in
    let left1 = g.S.Source.left c.line.new.source in
    let number = c.args.number in
    let is = sym c.behind_end.ensures ∙ c.in-Err.is in
    let came =
    answer_ends by_run old new left left1 (line_given c.line.result) number (at_end setup) (Err c.in-Err.why) refl
    c.line.follows.holds-at-none.0 is in
    subst (λ how. WithMoreTaken old.held left left1 (EndsAt number setup how left1)) (sym c.ending_at.ensures)
    (came.0, came.1, stops_end number setup c.in-Err.why left1 _ came.2)
