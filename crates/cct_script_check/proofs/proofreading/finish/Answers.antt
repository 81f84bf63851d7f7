use Rattle.std.proofs.Common.{Ok, Err, refl, sym, ◌∙◌, subst}
use Rattle.cct_model_lines.specs.Script.{at_end}
use Rattle.cct_script.specs.Giving.{line_given, standing_of}
use Rattle.cct_script.specs.Source.{OfBytes}
use Rattle.cct_script.proofs.Continuing.{answer_ends}
use Rattle.cct_text.specs.Writing.{Writes}
use Rattle.cct_script_check.specs.Going.{end_of}
use Rattle.cct_script_check.specs.Proof.{Proofread}
use Rattle.cct_script_check.proofs.Going.{going_ends, going_stops}
use Rattle.cct_script_check.proofs.Lines.{by_proof}
use Rattle.cct_script_check.proofs.proofreading.finish.Goals as goal

pub returns-in-Ok-clause-told : goal.returns-in-Ok-clause-told
returns-in-Ok-clause-told g c left0 setup before going =
    let sink = g.K.Sink in
    let old = standing_of c.args.lines.now in
    let new = standing_of c.line.follows.lender-at-none in
    let left = g.S.Source.left c.args.script.now in
    let left1 = g.S.Source.left c.line.new.source in
    let ends = answer_ends by_proof old new left left1 (line_given c.line.result) c.args.number (at_end setup) (Ok tt) refl
    c.line.follows.holds-at-none.0 (sym c.behind_end.ensures ∙ c.in-Ok.is) in
    subst (λ how. OfBytes left0 (λ bytes. Proofread bytes how left1
    (λ lines answer. Writes sink.written sink.puts before lines answer c.args.out.now))) (sym c.end_of.ensures.is)
    (going_ends sink.written sink.puts before c.args.out.now left0 left left1 old.held c.args.number (at_end setup)
    (end_of c.args.has_told) going ends)

pub returns-in-Err-clause-told : goal.returns-in-Err-clause-told
returns-in-Err-clause-told g c left0 setup before going =
    let sink = g.K.Sink in
    let old = standing_of c.args.lines.now in
    let new = standing_of c.line.follows.lender-at-none in
    let left = g.S.Source.left c.args.script.now in
    let left1 = g.S.Source.left c.line.new.source in
    let ends = answer_ends by_proof old new left left1 (line_given c.line.result) c.args.number (at_end setup)
    (Err c.in-Err.why) refl c.line.follows.holds-at-none.0 (sym c.behind_end.ensures ∙ c.in-Err.is) in
    going_stops sink.written sink.puts before c.args.out.now c.close.new.out left0 left left1 old.held c.args.number
    (at_end setup) (end_of c.args.has_told) c.in-Err.why c.close.result going ends c.close.ensures.closes
