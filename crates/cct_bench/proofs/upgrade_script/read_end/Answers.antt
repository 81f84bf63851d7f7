use Rattle.std.proofs.Common.{refl, sym, ap, ◌∙◌, subst}
use Rattle.std.specs.Prelude.{IfErr}
use Rattle.cct_model.specs.Script.{at_end, at_steps, no_devices, opens}
use Rattle.cct_model.specs.terms.device.Setup.{Setup}
use Rattle.cct_script.specs.Giving.{standing_of, line_given}
use Rattle.cct_text.proofs.Writing.{passes_up}
use Rattle.cct_script.specs.Scripts.{StopsIn, WithMoreTaken, read_of}
use Rattle.cct_bench.specs.UpgradeScript.{of_upgrade}
use Rattle.cct_script.proofs.Continuing.{Answers, answer_reads, closes_by, goes_by, next_after}
use Rattle.cct_bench.proofs.Scripts.{by_upgrade}
use Rattle.cct_bench.proofs.upgrade_script.read_end.Goals as goal

pub returns-in_err-line-clause-stops : goal.returns-in_err-line-clause-stops
returns-in_err-line-clause-stops g c =
    let old = standing_of c.args.lines.now in
    let new = standing_of c.line.follows.lender-at-none in
    let left = g.S.Source.left c.args.script.now in
    let left1 = g.S.Source.left c.line.new.source in
    subst (λ x. IfErr x (λ why. (setup : Setup)
    → WithMoreTaken old.held left left1 (StopsIn of_upgrade c.args.number (at_steps setup) why left1)))
    (sym (passes_up c.from_residual.result c.in_err-line.field-0.0 c.from_residual.ensures))
    (λ setup.
    let at : Answers by_upgrade old new left left1 c.args.number (at_steps setup) (line_given c.line.result) =
    record { going = refl; next = c.requires; gives = c.line.follows.holds-at-none.0 } in
    answer_reads by_upgrade at _ (sym c.before_end.ensures ∙ ap read_of c.in_err-line.was))

pub returns-in-Ok-clause-reads : goal.returns-in-Ok-clause-reads
returns-in-Ok-clause-reads g c setup =
    let at : Answers by_upgrade (standing_of c.args.lines.now) (standing_of c.line.follows.lender-at-none)
    (g.S.Source.left c.args.script.now) (g.S.Source.left c.line.new.source) c.args.number (at_steps setup)
    (line_given c.line.result) = record { going = refl; next = c.requires; gives = c.line.follows.holds-at-none.0 } in
    goes_by by_upgrade at c.in_ok-line.line.now (opens (at_end setup))
    (sym c.before_end.ensures ∙ ap read_of c.in_ok-line.was) (c.in-Ok.ensures setup)

pub returns-in-Ok-clause-next : goal.returns-in-Ok-clause-next
returns-in-Ok-clause-next g c =
    let at : Answers by_upgrade (standing_of c.args.lines.now) (standing_of c.line.follows.lender-at-none)
    (g.S.Source.left c.args.script.now) (g.S.Source.left c.line.new.source) c.args.number (at_steps no_devices)
    (line_given c.line.result) = record { going = refl; next = c.requires; gives = c.line.follows.holds-at-none.0 } in
    next_after by_upgrade at c.in_ok-line.line.now (sym c.before_end.ensures ∙ ap read_of c.in_ok-line.was)

pub returns-in-Err-clause-stops : goal.returns-in-Err-clause-stops
returns-in-Err-clause-stops g c setup =
    let at : Answers by_upgrade (standing_of c.args.lines.now) (standing_of c.line.follows.lender-at-none)
    (g.S.Source.left c.args.script.now) (g.S.Source.left c.line.new.source) c.args.number (at_steps setup)
    (line_given c.line.result) = record { going = refl; next = c.requires; gives = c.line.follows.holds-at-none.0 } in
    closes_by by_upgrade at c.in_ok-line.line.now c.in-Err.kind (sym c.before_end.ensures ∙ ap read_of c.in_ok-line.was)
    (c.in-Err.ensures setup)
