-- What was taken and reported so far, and that source and sink served.
use Rattle.std.proofs.Common.{◌-◌}
use Rattle.cct_edge.specs.Bytes.{Serves}
use Rattle.cct_script.specs.Giving.{standing_of}
use Rattle.cct_script.specs.Scripts.{IsNext}
use Rattle.cct_text.specs.Writing.{Wrote}
use Rattle.cct_script_check.specs.Going.{Going, end_of}
use Rattle.cct_script_check.specs.Parts.{stage_of}
use Rattle.cct_script_check.proofs.proofreading.look_all.Given as goal

abbrev pub invariant-looks : goal.invariant-looks
invariant-looks g l =
    let source = g.S.Source in
    let sink = g.K.Sink in record {
      going : Going (source.left l.fn.script) (source.left l.script) (standing_of l.lines).held l.number
          (stage_of l.part l.setup) (end_of l.has_told) (Wrote sink.written sink.puts l.fn.out l.out);
      next : IsNext l.number (standing_of l.lines);
      source : Serves source.left source.faults l.fn.script l.script ⊥;
      sink : Serves sink.written sink.faults l.fn.out l.out ⊥;
    }

abbrev pub decreases-looks : goal.decreases-looks
decreases-looks g l = 1048578 - l.number
