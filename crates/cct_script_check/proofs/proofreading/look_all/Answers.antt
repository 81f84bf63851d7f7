use Rattle.std.proofs.Common.{◌+◌, [], lit≤, refl, rules, subst, sym, ◌∙◌}
use Rattle.cct_model_lines.specs.Script.{at_setup}
use Rattle.cct_script.specs.Giving.{standing_of}
use Rattle.cct_script.specs.Scripts.{IsNext}
use Rattle.cct_script.proofs.Sources.{serves_on}
use Rattle.cct_text.specs.Writing.{Wrote}
use Rattle.cct_script_check.specs.Going.{Going, end_of}
use Rattle.cct_script_check.specs.Parts.{stage_of}
use Rattle.cct_script_check.specs.declared.proofreading.ProofEnd.TheVariants.{Clean}
use Rattle.cct_script_check.proofs.Going.{going_begin, going_stops, looked_broke, looked_ends, looked_goes}
use Rattle.cct_script_check.proofs.proofreading.look_all.Goals as goal

pub looks-init : goal.looks-init
looks-init g c =
    let source = g.S.Source in
    let sink = g.K.Sink in
    let left = source.left c.args.script.now in
    let out = c.args.out.now in
    record {
      going = subst
          (λ standing. Going left left standing.held 1 (at_setup c.args.setup.now) Clean (Wrote sink.written sink.puts out out))
          (sym c.requires.lines)
          (subst (λ setup. Going left left [] 1 (at_setup setup) Clean (Wrote sink.written sink.puts out out))
          (sym c.requires.setup) (going_begin sink.written sink.puts left out));
      next = subst (IsNext 1) (sym c.requires.lines) (refl, lit≤ tt);
      source = search rules;
      sink = search rules;
    }

pub returns-in-Err-clause-told : goal.returns-in-Err-clause-told
returns-in-Err-clause-told g c =
    let source = g.S.Source in
    let sink = g.K.Sink in
    let l = c.looks in
    going_stops sink.written sink.puts c.args.out.now l.out c.close.new.out (source.left c.args.script.now)
    (source.left l.script) (source.left c.look_on.new.script) (standing_of l.lines).held l.number (stage_of l.part l.setup)
    (end_of l.has_told) c.in-Err.why c.close.result l.invariant.going c.in-Err.ensures.stops c.close.ensures.closes

pub returns-in-Err-tell_looked-clause-told : goal.returns-in-Err-tell_looked-clause-told
returns-in-Err-tell_looked-clause-told g c =
    let source = g.S.Source in
    let sink = g.K.Sink in
    let l = c.looks in
    looked_broke sink.written sink.puts c.args.out.now l.out c.tell_looked.new.out (source.left c.args.script.now)
    (source.left l.script) (source.left c.look_on.new.script) (standing_of l.lines).held
    (standing_of c.look_on.new.lines).held l.number l.part l.setup c.look_on.new.setup l.has_told l.invariant.going
    c.in-Ok.looked c.in-Err-tell_looked.field-0 c.in-Ok.ensures.reads c.in-Err-tell_looked.ensures.told

pub returns-in-None-clause-told : goal.returns-in-None-clause-told
returns-in-None-clause-told g c =
    let source = g.S.Source in
    let sink = g.K.Sink in
    let l = c.looks in
    c.finish.ensures.told (source.left c.args.script.now) c.look_on.new.setup c.args.out.now
    (looked_ends sink.written sink.puts c.args.out.now l.out c.tell_looked.new.out (source.left c.args.script.now)
    (source.left l.script) (source.left c.look_on.new.script) (standing_of l.lines).held
    (standing_of c.look_on.new.lines).held l.number l.part l.setup c.look_on.new.setup l.has_told l.invariant.going
    c.in-Ok.looked c.in-Ok.ensures.reads c.in-Ok-tell_looked.ensures.told (sym c.part_by.ensures ∙ c.in-None.is))

pub looks-preserved : goal.looks-preserved
looks-preserved g c =
    let source = g.S.Source in
    let sink = g.K.Sink in
    let l = c.looks in
    record {
      going = subst (λ told. Going (source.left c.args.script.now) (source.left c.look_on.new.script)
          (standing_of c.look_on.new.lines).held (l.number + 1) (stage_of c.in-Some.next c.look_on.new.setup) (end_of told)
          (Wrote sink.written sink.puts c.args.out.now c.tell_looked.new.out)) (search rules)
          (looked_goes sink.written sink.puts c.args.out.now l.out c.tell_looked.new.out (source.left c.args.script.now)
          (source.left l.script) (source.left c.look_on.new.script) (standing_of l.lines).held
          (standing_of c.look_on.new.lines).held l.number l.part l.setup c.look_on.new.setup l.has_told l.invariant.going
          c.in-Ok.looked c.in-Some.next c.in-Ok.ensures.reads c.in-Ok.ensures.keeps c.in-Ok-tell_looked.ensures.told
          (sym c.part_by.ensures ∙ c.in-Some.is));
      next = c.in-Ok.ensures.next;
      source = serves_on l.invariant.source c.in-Ok.ensures.source;
      sink = serves_on l.invariant.sink c.in-Ok-tell_looked.ensures.sink;
    }
