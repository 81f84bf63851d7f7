use Rattle.std.proofs.Common.{◌+◌, sym, subst}
use Rattle.std.specs.Prelude.{IfErr}
use Rattle.cct_model.specs.Change.{clear_desk}
use Rattle.cct_model.specs.Script.{at_end, at_steps}
use Rattle.cct_script.specs.Giving.{standing_of}
use Rattle.cct_text.proofs.Writing.{passes_up}
use Rattle.cct_text.specs.Writing.{IsNothing}
use Rattle.cct_bench.specs.Disks.{Always}
use Rattle.cct_bench.specs.Going.{IsUnbegun}
use Rattle.cct_script.specs.Source.{OfBytes}
use Rattle.cct_bench.specs.UpgradeScript.{WasStopped}
use Rattle.cct_bench.proofs.Going.{going_setup}
use Rattle.cct_bench.proofs.UpgradeLines.{goes_closes, goes_line, goes_setup, goes_stops, setup_stops}
use Rattle.cct_bench.proofs.upgrade_script.read_upgrade.Goals as goal

pub returns-in_err-number-clause-stopped : goal.returns-in_err-number-clause-stopped
returns-in_err-number-clause-stopped g c =
    let left0 = g.S.Source.left c.args.script.now in
    let left = g.S.Source.left c.read_setup.new.script in
    subst (λ r. IfErr r (λ how. OfBytes left0 (λ bytes. WasStopped bytes left how)))
    (sym (passes_up c.from_residual.result c.in_err-number.field-0.0 c.from_residual.ensures))
    (setup_stops left0 left c.in_err-number.field-0.0 c.in_err-number.ensures.stopped)

pub returns-in-Err-clause-stopped : goal.returns-in-Err-clause-stopped
returns-in-Err-clause-stopped g c =
    let source = g.S.Source in
    let script0 = c.args.script.now in
    let script = c.read_setup.new.script in
    let setup = c.read_setup.new.setup in
    let held = (standing_of c.read_setup.new.lines).held in
    let number = c.in_ok-number.number in
    goes_stops (source.left script0) (source.left script) (source.left c.read_end.new.script) held number (at_steps setup)
    c.in-Err.why c.ending_at.result
    (goes_setup source.takes source.left script0 script held number setup c.in_ok-number.ensures.took)
    (c.in-Err.ensures.stops setup) c.ending_at.ensures

pub returns-in-Ok-read_nothing-clause-read : goal.returns-in-Ok-read_nothing-clause-read
returns-in-Ok-read_nothing-clause-read g c =
    let source = g.S.Source in
    let script0 = c.args.script.now in
    let script = c.read_setup.new.script in
    let script1 = c.read_end.new.script in
    let setup = c.read_setup.new.setup in
    let held = (standing_of c.read_setup.new.lines).held in
    let rest = (standing_of c.read_end.new.lines).held in
    let number = c.in_ok-number.number in
    let begun = goes_setup source.takes source.left script0 script held number setup c.in_ok-number.ensures.took in
    let over =
    goes_line (source.left script0) (source.left script) (source.left script1) held rest number (at_steps setup)
    (at_end setup) begun (c.in-Ok.ensures.reads setup) in
    goes_closes (source.left script0) (source.left script1) (source.left c.read_nothing.new.script) rest (number + 1)
    setup over (c.in-Ok-read_nothing.ensures.closes (number + 1) setup)

pub returns-in-Err-read_nothing-clause-stopped : goal.returns-in-Err-read_nothing-clause-stopped
returns-in-Err-read_nothing-clause-stopped g c =
    let source = g.S.Source in
    let script0 = c.args.script.now in
    let script = c.read_setup.new.script in
    let script1 = c.read_end.new.script in
    let setup = c.read_setup.new.setup in
    let held = (standing_of c.read_setup.new.lines).held in
    let rest = (standing_of c.read_end.new.lines).held in
    let number = c.in_ok-number.number in
    let begun = goes_setup source.takes source.left script0 script held number setup c.in_ok-number.ensures.took in
    let over =
    goes_line (source.left script0) (source.left script) (source.left script1) held rest number (at_steps setup)
    (at_end setup) begun (c.in-Ok.ensures.reads setup) in
    goes_stops (source.left script0) (source.left script1) (source.left c.read_nothing.new.script) rest (number + 1)
    (at_end setup) c.in-Err-read_nothing.why c.ending_at-in-Err-read_nothing.result over
    (c.in-Err-read_nothing.ensures.stops (number + 1) setup) c.ending_at-in-Err-read_nothing.ensures

pub returns-in-Ok-read_nothing-clause-sound : goal.returns-in-Ok-read_nothing-clause-sound
returns-in-Ok-read_nothing-clause-sound g c =
    going_setup Always clear_desk (g.S.Source.left c.args.script.now) (g.S.Source.left c.read_setup.new.script)
    (standing_of c.read_setup.new.lines).held c.in_ok-number.number c.read_setup.new.setup IsUnbegun IsNothing
    c.in_ok-number.ensures.opened
