use Rattle.std.proofs.Common.{[], refl, sym, subst, lit≤, rules}
use Rattle.cct_model.specs.Change.{clear_desk}
use Rattle.cct_model.specs.Script.{at_setup, at_steps, opens}
use Rattle.cct_script.specs.Giving.{standing_of}
use Rattle.cct_bench.specs.Setup.{stage_of}
use Rattle.cct_script.specs.Scripts.{IsNext, WithMoreTaken}
use Rattle.cct_bench.specs.Lines.{ScriptGoesOn}
use Rattle.cct_bench.specs.SetupLines.{OpensLine, TookOpening}
use Rattle.cct_text.specs.Writing.{IsNothing, NeverBroke}
use Rattle.cct_bench.specs.Disks.{Always}
use Rattle.cct_bench.specs.Going.{Going, IsUnbegun}
use Rattle.cct_bench.specs.Run.{BeforeSteps}
use Rattle.cct_bench.proofs.SetupLines.{opening_begin, opening_more, opening_stops}
use Rattle.cct_bench.proofs.Going.{going_begin, going_opens, played_stopped}
use Rattle.cct_script.proofs.Sources.{serves_on}
use Rattle.cct_bench.proofs.opening.read_setup.Goals as goal

pub loop-number-init : goal.loop-number-init
loop-number-init g c =
    let source = g.S.Source in
    let script = c.args.script.now in
    let left = source.left script in
    record {
      going = subst
          (λ standing. Going Always clear_desk left left standing.held 1 (at_setup c.args.setup.now) IsUnbegun IsNothing)
          (sym c.requires.lines)
          (subst (λ setup. Going Always clear_desk left left [] 1 (at_setup setup) IsUnbegun IsNothing) (sym c.requires.setup)
          (going_begin left));
      opening = subst
          (λ standing. TookOpening source.takes source.left script script standing.held 1 (at_setup c.args.setup.now))
          (sym c.requires.lines)
          (subst (λ setup. TookOpening source.takes source.left script script [] 1 (at_setup setup))
          (sym c.requires.setup) (opening_begin source.takes source.left script));
      serves = search rules;
      next = subst (IsNext 1) (sym c.requires.lines) (refl, lit≤ tt);
    }

pub returns-in-Ok-Begun-clause-opened : goal.returns-in-Ok-Begun-clause-opened
returns-in-Ok-Begun-clause-opened g c =
    let left = g.S.Source.left c.loop-number.script in
    let left1 = g.S.Source.left c.read_opening.new.script in
    let held = (standing_of c.loop-number.lines).held in
    let rest = (standing_of c.read_opening.new.lines).held in
    let number = c.loop-number.number in
    let stage = at_setup c.loop-number.setup in
    let setup = c.read_opening.new.setup in
    let reads = subst
    (λ opened. WithMoreTaken held left left1 (λ bytes. ScriptGoesOn number stage bytes (opens (stage_of opened setup)) rest))
    c.in-Ok-Begun.field-0-is c.in-Ok-Begun.ensures.reads in
    going_opens Always clear_desk (g.S.Source.left c.args.script.now) left left1 held rest number stage (at_steps setup) IsUnbegun
    IsNothing c.loop-number.invariant.going reads

pub returns-in-Ok-Begun-clause-took : goal.returns-in-Ok-Begun-clause-took
returns-in-Ok-Begun-clause-took g c =
    let source = g.S.Source in
    let script = c.loop-number.script in
    let script1 = c.read_opening.new.script in
    let held = (standing_of c.loop-number.lines).held in
    let rest = (standing_of c.read_opening.new.lines).held in
    let number = c.loop-number.number in
    let stage = at_setup c.loop-number.setup in
    let setup = c.read_opening.new.setup in
    let line = subst
    (λ opened. OpensLine source.takes source.left number stage (stage_of opened setup) held rest script script1)
    c.in-Ok-Begun.field-0-is c.in-Ok-Begun.ensures.line in
    opening_more source.takes source.left c.args.script.now script script1 held rest number stage (at_steps setup)
    c.loop-number.invariant.opening line

pub returns-in-Err-clause-ended : goal.returns-in-Err-clause-ended
returns-in-Err-clause-ended g c =
    let left0 = g.S.Source.left c.args.script.now in
    let left1 = g.S.Source.left c.read_opening.new.script in
    let stage = at_setup c.loop-number.setup in
    played_stopped Always clear_desk left0 (g.S.Source.left c.loop-number.script) left1 (standing_of c.loop-number.lines).held
    c.loop-number.number stage c.in-Err.why c.ending_at.result IsUnbegun IsNothing NeverBroke BeforeSteps
    c.ending_at.ensures (λ how setup taken played unplayed past is there nothing. (is, nothing))
    c.loop-number.invariant.going c.in-Err.ensures.stops

pub returns-in-Err-clause-stopped : goal.returns-in-Err-clause-stopped
returns-in-Err-clause-stopped g c =
    let source = g.S.Source in
    opening_stops source.takes source.left c.args.script.now c.loop-number.script c.read_opening.new.script
    (standing_of c.loop-number.lines).held c.loop-number.number c.loop-number.setup c.in-Err.why c.ending_at.result
    c.loop-number.invariant.opening c.in-Err.ensures.stops c.ending_at.ensures

pub loop-number-preserved : goal.loop-number-preserved
loop-number-preserved g c =
    let source = g.S.Source in
    let script0 = c.args.script.now in
    let script = c.loop-number.script in
    let script1 = c.read_opening.new.script in
    let left = source.left script in
    let left1 = source.left script1 in
    let held = (standing_of c.loop-number.lines).held in
    let rest = (standing_of c.read_opening.new.lines).held in
    let number = c.loop-number.number in
    let stage = at_setup c.loop-number.setup in
    let setup = c.read_opening.new.setup in
    let runs = c.loop-number.invariant in
    let reads = subst
    (λ opened. WithMoreTaken held left left1 (λ bytes. ScriptGoesOn number stage bytes (opens (stage_of opened setup)) rest))
    c.in-Ok-Added.field-0-is c.in-Ok-Added.ensures.reads in
    let line = subst
    (λ opened. OpensLine source.takes source.left number stage (stage_of opened setup) held rest script script1)
    c.in-Ok-Added.field-0-is c.in-Ok-Added.ensures.line in
    record {
      going = going_opens Always clear_desk (source.left script0) left left1 held rest number stage (at_setup setup) IsUnbegun
          IsNothing runs.going reads;
      opening = opening_more source.takes source.left script0 script script1 held rest number stage (at_setup setup)
          runs.opening line;
      serves = serves_on runs.serves c.in-Ok-Added.ensures.source;
      next = c.in-Ok-Added.ensures.next;
    }
