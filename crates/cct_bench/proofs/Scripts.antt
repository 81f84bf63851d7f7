-- The scripts of a run and of an upgrade, by their lines.
use Rattle.std.proofs.Common.{◌≡◌, ℕ, List, Option, Result, Ok, refl, ◌∙◌}
use Rattle.cct_edge.specs.declared.fault.Failed.{Failed}
use Rattle.cct_model.specs.terms.device.Setup.{Setup}
use Rattle.cct_model.specs.Script.{Stage, at_end, opens, read_form}
use Rattle.cct_script.specs.Giving.{Standing}
use Rattle.cct_script.specs.Scripts.{before_end}
use Rattle.cct_script.specs.Taking.{TakesForLine}
use Rattle.cct_script.specs.declared.lines.LinesNo.{LinesNo}
use Rattle.cct_script.specs.declared.stops.ScriptStop.{ScriptStop}
use Rattle.cct_script.specs.declared.stops.ScriptStop.TheVariants as stop
use Rattle.cct_script.proofs.Continuing.{Answers, Lawful, answer_reads, by_form, takes_before_end}
use Rattle.cct_bench.specs.Lines.{EndsAt, StopsAt, of_run}
use Rattle.cct_bench.specs.Run.{ending_at}
use Rattle.cct_bench.specs.SetupLines.{OpensLine}
use Rattle.cct_bench.specs.UpgradeScript.{of_upgrade, upgrade_form}

abbrev pub by_run : Lawful of_run
by_run = record {
  form = read_form;
  refused = λ number stage why rest. refl;
  last = λ number stage part. refl;
  whole = λ number stage line next parts. refl;
}

abbrev pub by_upgrade : Lawful of_upgrade
by_upgrade = record {
  form = upgrade_form;
  refused = λ number stage why rest. refl;
  last = λ number stage part. refl;
  whole = λ number stage line next parts. refl;
}

module _ {S : Type 0} (takes : S → ℕ → Result ℕ Failed → S → Type 0) (left : S → Option (List ℕ)) where
  -- a setup line that was given opens what is after it
  pub opens_by : {old new : Standing} {before now : S} {number : ℕ} {stage : Stage}
      {answer : Result (Option (List ℕ)) LinesNo}
      (at : Answers by_run old new (left before) (left now) number stage answer) (next : Stage) (line : List ℕ)
      → TakesForLine takes left old.held before new.held now answer → before_end answer ≡ Ok line
      → read_form stage line ≡ opens next → OpensLine takes left number stage next old.held new.held before now
  opens_by {old} {new} {before} {now} {number} {stage} {answer} at next line needed is read_is =
      let reads = answer_reads by_run at (Ok line) is in
      record {
        line = line;
        fills = reads.4;
        alone = reads.3;
        reads = by_form by_run number stage line at.going reads.0 reads.2 ∙ read_is;
        needed = takes_before_end takes left old.held new.held before now answer line needed is;
      }

-- a script that stops after its line `end`
pub stops_end : (number : ℕ) (setup : Setup) (why : ScriptStop) (left : Option (List ℕ)) (held : List ℕ)
    → StopsAt number (at_end setup) why left held → EndsAt number setup (ending_at number why) left held
stops_end number setup stop.Unread left held stops = stops
stops_end number setup (stop.Refused why) left held stops = (refl, stops)
