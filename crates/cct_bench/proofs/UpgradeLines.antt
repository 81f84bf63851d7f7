-- The script of an upgrade, line by line.
use Rattle.std.proofs.Common.{◌≡◌, ◌≤◌, ◌+◌, ℕ, Bool, true, false, List, [], ◌∷◌, ◌++◌, Option, Some, None, Result, Ok, Err}
use Rattle.std.proofs.Common.{length, refl, ap, sym, ◌∙◌, subst, append_assoc, arith, if◌then◌else◌}
use Rattle.std.specs.Prelude.{nat_lt, IfErr, OnOk}
use Rattle.std.proofs.lemmas.List.{append-nil}
use Rattle.std.specs.List.{slice_split}
use Rattle.std.specs.Io.KnownBytes.{Consumes}
use Rattle.cct_edge.specs.declared.fault.Failed.{Failed}
use Rattle.cct_edge.proofs.Chains.{Consumes-trans}
use Rattle.cct_model.specs.terms.device.Setup.{Setup}
use Rattle.cct_model.specs.Grammar.{step_line}
use Rattle.cct_model.specs.lines.entry.LineKind.{LineKind}
use Rattle.cct_model.specs.lines.entry.LineKind.TheVariants as kind
use Rattle.cct_model.specs.lines.command.Step.{Step}
use Rattle.cct_model.specs.Script.{Read, Refusal, Script, Stage, at_end, at_setup, at_steps, closed_script, goes_on}
use Rattle.cct_model.specs.Script.{is_known, is_line_feed, is_over, most_bytes, most_lines, no_devices, opens, plays}
use Rattle.cct_model.specs.Script.{read_form, read_line, read_step_line, refusal_at, refuses, script_from, stage_after}
use Rattle.cct_model.specs.Script.{unfinished}
use Rattle.cct_script.specs.Giving.{Gives, Standing}
use Rattle.cct_script.specs.declared.lines.LinesNo.{LinesNo}
use Rattle.cct_script.specs.Scripts.{GoesOnIn, IsClosedIn, StopsIn, WithMoreTaken, behind_end}
use Rattle.cct_bench.specs.Lines.{StopsAt}
use Rattle.cct_bench.specs.Playing.{is_end}
use Rattle.cct_bench.specs.Run.{ending_at}
use Rattle.cct_script.specs.Source.{OfBytes, to_come}
use Rattle.cct_bench.specs.SetupLines.{OpenedBy, SetupStops, TookOpening, whole_lines}
use Rattle.cct_bench.specs.UpgradeScript.{ScriptSays, WasRead, WasStopped, of_upgrade, upgrade_from, upgrade_script}
use Rattle.cct_bench.specs.declared.ending.Ending.{Ending}
use Rattle.cct_script.specs.declared.stops.ScriptStop.{ScriptStop}
use Rattle.cct_script.specs.declared.stops.ScriptStop.TheVariants as stop
use Rattle.cct_script.proofs.Continuing.{answer_ends, ended, line_says}
use Rattle.cct_bench.proofs.Scripts.{by_upgrade}
use Rattle.cct_script.proofs.Sources.{told_by}
use Rattle.cct_bench.proofs.Reading.{known_reads, unknown_reads}

-- ---- the lines of its setup

-- a step that goes on, and is none that is played, ends the script
step_over : (setup : Setup) (s : Step) (b : Bool) (next : Stage)
    → (if b then opens (at_end setup) else plays s (at_steps setup)) ≡ opens next → is_over next ≡ true
step_over setup s true next is = let same : at_end setup ≡ next = cc in ap is_over (sym same)
step_over setup s false next is = cc is

known_over : (setup : Setup) (s : Step) (b : Bool) (next : Stage) → is_known setup s ≡ b
    → read_step_line setup (Ok s) ≡ opens next → is_over next ≡ true
known_over setup s true next known is = step_over setup s (is_end s) next (sym (known_reads setup s known) ∙ is)
known_over setup s false next unknown is =
    let clash : refuses kind.Device ≡ opens next = sym (unknown_reads setup s unknown) ∙ is in cc clash

steps_over : (setup : Setup) (said : Result Step LineKind) (next : Stage) → read_step_line setup said ≡ opens next
    → is_over next ≡ true
steps_over setup (Err why) next is = cc is
steps_over setup (Ok s) next is = known_over setup s (is_known setup s) next refl is

end_opens_not : (number : ℕ) (stage : Stage) (line : List ℕ) (next : Stage) → is_over stage ≡ true
    → read_line number stage line ≡ opens next → ⊥
end_opens_not number stage line next over is = clash kind.Trailing (sym (rw over refl) ∙ is)
  where
    clash : (why : LineKind) → refuses why ≡ opens next → ⊥
    clash why e = cc

-- the tests of a line's number and length come before that of its form
tested : (a b : Bool) (form : Read) (next : Stage)
    → (if a then refuses kind.Lines else if b then refuses kind.Long else form) ≡ opens next → form ≡ opens next
tested true b form next is = cc is
tested false true form next is = cc is
tested false false form next is = is

line_over : (number : ℕ) (setup : Setup) (line : List ℕ) (next : Stage)
    → read_line number (at_steps setup) line ≡ opens next → is_over next ≡ true
unfolding read_form
line_over number setup line next is =
    steps_over setup (step_line line) next
    (tested (nat_lt most_lines number) (nat_lt most_bytes (length line)) (read_step_line setup (step_line line)) next is)

-- nothing comes after the end
opened_over : (number : ℕ) (stage : Stage) (lines : List (List ℕ)) (last : ℕ) (behind : Stage) → is_over stage ≡ true
    → OpenedBy number stage lines last behind → is_over behind ≡ true
opened_over number stage [] last behind over opened = subst (λ s. is_over s ≡ true) opened.1 over
opened_over number stage (line ∷ lines) last behind over opened =
    absurd (end_opens_not number stage line opened.0 over opened.2)

clash : true ≡ false → ⊥
clash e = cc

-- the lines of a setup say what the lines after them do
says_lines : (number : ℕ) (stage : Stage) (lines : List (List ℕ)) (last : ℕ) (behind : Stage) → is_over behind ≡ false
    → OpenedBy number stage lines last behind → (rest : List ℕ)
    → upgrade_from number stage (slice_split is_line_feed (whole_lines lines ++ rest))
    ≡ upgrade_from last behind (slice_split is_line_feed rest)
says_lines number stage [] last behind before opened rest =
    ap (λ n. upgrade_from n stage (slice_split is_line_feed rest)) opened.0
    ∙ ap (λ s. upgrade_from last s (slice_split is_line_feed rest)) opened.1
says_lines number (at_setup setup) (line ∷ lines) last behind before opened rest =
    line_says by_upgrade number (at_setup setup) line (whole_lines lines) (opens opened.0) opened.1 opened.2 rest
    ∙ says_lines (number + 1) opened.0 lines last behind before opened.3 rest
says_lines number (at_steps setup) (line ∷ lines) last behind before opened rest =
    let over = line_over number setup line opened.0 opened.2 in
    absurd (clash (sym (opened_over (number + 1) opened.0 lines last behind over opened.3) ∙ before))
says_lines number (at_end setup) (line ∷ lines) last behind before opened rest =
    absurd (end_opens_not number (at_end setup) line opened.0 refl opened.2)

-- ---- a line of the setup that is refused

-- A refused line, if there is one, has no smaller number than this.
abbrev IsFrom : ℕ → Option Refusal → Type 0
IsFrom number None = Unit {0}
IsFrom number (Some line) = number ≤ line.number

from_earlier : (number : ℕ) (refused : Option Refusal) → IsFrom (number + 1) refused → IsFrom number refused
from_earlier number None from = tt
from_earlier number (Some line) from = omega (arith, from)

from_here : (number : ℕ) (why : Option LineKind) → IsFrom number (refusal_at number why)
from_here number None = tt
from_here number (Some why) = omega arith

from_read : (number : ℕ) (stage : Stage) (read : Read) (rest : Script) → IsFrom (number + 1) rest.refused
    → IsFrom number (goes_on number stage read rest).refused
from_read number stage (opens next) rest from = from_earlier number rest.refused from
from_read number stage (plays s next) rest from = from_earlier number rest.refused from
from_read number stage (refuses why) rest from = from_here number (Some why)

-- the lines from a number on refuse none before it
refused_from : (number : ℕ) (stage : Stage) (parts : List (List ℕ)) → IsFrom number (script_from number stage parts).refused
refused_from number stage [] = from_here number (unfinished number stage [])
refused_from number stage (rest ∷ []) = from_here number (unfinished number stage rest)
refused_from number stage (line ∷ next ∷ parts) =
    let read = read_line number stage line in
    let rest = script_from (number + 1) (stage_after stage read) (next ∷ parts) in
    from_read number stage read rest (refused_from (number + 1) (stage_after stage read) (next ∷ parts))

-- a line that a run refuses is refused by an upgrade, where it is read alike
by_read : (number : ℕ) (setup : Setup) (why : LineKind) (read : Read) (run rest : Script)
    → IsFrom (number + 1) run.refused → goes_on number (at_setup setup) read run ≡ closed_script number setup (Some why)
    → goes_on number (at_setup setup) read rest ≡ closed_script number setup (Some why)
by_read number setup why (opens next) run rest from is =
    let later = subst (λ (s : Script). IsFrom (number + 1) s.refused) is from in absurd (omega (arith, later))
by_read number setup why (plays s next) run rest from is =
    let later = subst (λ (s : Script). IsFrom (number + 1) s.refused) is from in absurd (omega (arith, later))
by_read number setup why (refuses other) run rest from is = is

setup_closed : (number : ℕ) (setup : Setup) (why : LineKind) (parts : List (List ℕ))
    → script_from number (at_setup setup) parts ≡ closed_script number setup (Some why)
    → upgrade_from number (at_setup setup) parts ≡ closed_script number setup (Some why)
setup_closed number setup why [] is = is
setup_closed number setup why (rest ∷ []) is = is
setup_closed number setup why (line ∷ next ∷ parts) is =
    let read = read_line number (at_setup setup) line in
    let stage = stage_after (at_setup setup) read in
    by_read number setup why read (script_from (number + 1) stage (next ∷ parts))
    (upgrade_from (number + 1) stage (next ∷ parts)) (refused_from (number + 1) stage (next ∷ parts)) is

setup_stopped : (number : ℕ) (setup : Setup) (why : ScriptStop) (left : Option (List ℕ)) (held : List ℕ)
    → StopsAt number (at_setup setup) why left held → StopsIn of_upgrade number (at_setup setup) why left held
setup_stopped number setup stop.Unread left held stops = stops
setup_stopped number setup (stop.Refused why) left held stops =
    setup_closed number setup why (slice_split is_line_feed (held ++ to_come left)) stops

-- ---- the lines of the whole script

-- What was taken of a script: whatever follows, it says what the lines from here on say.
pub record Goes (left0 left : Option (List ℕ)) (held : List ℕ) (number : ℕ) (stage : Stage) : Type 0 where
  pub taken : List ℕ
  pub consumed : Consumes left0 left taken
  pub says : (more : List ℕ)
      → upgrade_script (taken ++ more) ≡ upgrade_from number stage (slice_split is_line_feed (held ++ more))

-- the lines of a setup were taken
goes_lines : (left0 left : Option (List ℕ)) (lines : List (List ℕ)) (held : List ℕ) (number : ℕ) (stage : Stage)
    → is_over stage ≡ false → Consumes left0 left (whole_lines lines ++ held)
    → OpenedBy 1 (at_setup no_devices) lines number stage → Goes left0 left held number stage
unfolding upgrade_script
goes_lines left0 left lines held number stage before took opened = record {
  taken = whole_lines lines ++ held;
  consumed = took;
  says = λ more.
      ap (λ bytes. upgrade_from 1 (at_setup no_devices) (slice_split is_line_feed bytes))
      (append_assoc (whole_lines lines) held more)
      ∙ says_lines 1 (at_setup no_devices) lines number stage before opened (held ++ more);
}

module _ {S : Type 0} (takes : S → ℕ → Result ℕ Failed → S → Type 0) (left : S → Option (List ℕ)) where
  pub goes_setup : (source0 source : S) (held : List ℕ) (number : ℕ) (setup : Setup)
      → TookOpening takes left source0 source held number (at_steps setup)
      → Goes (left source0) (left source) held number (at_steps setup)
  goes_setup source0 source held number setup o =
      goes_lines (left source0) (left source) o.lines held number (at_steps setup) refl o.took o.opened

-- more bytes came
goes_came : (left0 left left1 : Option (List ℕ)) (held came : List ℕ) (number : ℕ) (stage : Stage)
    → Goes left0 left held number stage → Consumes left left1 came → Goes left0 left1 (held ++ came) number stage
goes_came left0 left left1 held came number stage g took = record {
  taken = g.taken ++ came;
  consumed = Consumes-trans left0 left left1 g.taken came g.consumed took;
  says = λ more.
      ap upgrade_script (append_assoc g.taken came more)
      ∙ g.says (came ++ more)
      ∙ ap (λ bytes. upgrade_from number stage (slice_split is_line_feed bytes)) (sym (append_assoc held came more));
}

-- a line more
pub goes_line : (left0 left left1 : Option (List ℕ)) (held rest : List ℕ) (number : ℕ) (stage next : Stage)
    → Goes left0 left held number stage
    → WithMoreTaken held left left1 (λ bytes. GoesOnIn of_upgrade number stage bytes (opens next) rest)
    → Goes left0 left1 rest (number + 1) next
goes_line left0 left left1 held rest number stage next g r =
    let now = goes_came left0 left left1 held r.0 number stage g r.1 in
    record { taken = now.taken; consumed = now.consumed; says = λ more. now.says more ∙ r.2 more }

-- no line more
stopped_here : (left0 left : Option (List ℕ)) (held : List ℕ) (number : ℕ) (stage : Stage) (why : ScriptStop)
    → (g : Goes left0 left held number stage) → StopsIn of_upgrade number stage why left held
    → ScriptSays (ending_at number why) (g.taken ++ to_come left) g.taken
stopped_here left0 left held number stage stop.Unread g stops =
    record {
      number = number;
      stage = stage;
      held = held;
      alone = stops;
      says =
          ap upgrade_script (sym (append-nil g.taken))
          ∙ g.says []
          ∙ ap (λ bytes. upgrade_from number stage (slice_split is_line_feed bytes)) (append-nil held)
          ∙ ended by_upgrade number stage held stops;
    }
stopped_here left0 left held number stage (stop.Refused why) g stops =
    ap (λ (s : Script). s.refused) (g.says (to_come left) ∙ stops)

stops_here : (left0 left : Option (List ℕ)) (held : List ℕ) (number : ℕ) (stage : Stage) (why : ScriptStop) (how : Ending)
    → Goes left0 left held number stage → StopsIn of_upgrade number stage why left held → how ≡ ending_at number why
    → OfBytes left0 (λ bytes. WasStopped bytes left how)
stops_here left0 left held number stage why how g stops told =
    let bytes = g.taken ++ to_come left in (
      bytes,
      told_by left0 left g.taken g.consumed,
      record {
        taken = g.taken;
        took = refl;
        says = subst (λ how. ScriptSays how bytes g.taken) (sym told)
            (stopped_here left0 left held number stage why g stops);
      },
    )

pub setup_stops : (left0 left : Option (List ℕ)) (how : Ending) → SetupStops left0 left how
    → OfBytes left0 (λ bytes. WasStopped bytes left how)
setup_stops left0 left how s =
    stops_here left0 left s.held s.number (at_setup s.setup) s.why how
    (goes_lines left0 left s.lines s.held s.number (at_setup s.setup) refl s.took s.opened)
    (setup_stopped s.number s.setup s.why left s.held s.stops) s.told

pub goes_stops : (left0 left left1 : Option (List ℕ)) (held : List ℕ) (number : ℕ) (stage : Stage) (why : ScriptStop)
    (how : Ending) → Goes left0 left held number stage
    → WithMoreTaken held left left1 (StopsIn of_upgrade number stage why left1) → how ≡ ending_at number why
    → OfBytes left0 (λ bytes. WasStopped bytes left1 how)
goes_stops left0 left left1 held number stage why how g r told =
    stops_here left0 left1 (held ++ r.0) number stage why how (goes_came left0 left left1 held r.0 number stage g r.1) r.2 told

-- nothing is after its end
pub goes_closes : (left0 left left1 : Option (List ℕ)) (held : List ℕ) (number : ℕ) (setup : Setup)
    → Goes left0 left held number (at_end setup)
    → WithMoreTaken held left left1 (IsClosedIn of_upgrade number (at_end setup) None left1)
    → OfBytes left0 (λ bytes. WasRead bytes left1 setup)
goes_closes left0 left left1 held number setup g r =
    let now = goes_came left0 left left1 held r.0 number (at_end setup) g r.1 in (
      now.taken ++ to_come left1,
      told_by left0 left1 now.taken now.consumed,
      record { taken = now.taken; took = refl; says = now.says (to_come left1) ∙ r.2 },
    )

-- ---- what is after its end

module _ (old new : Standing) (left0 left : Option (List ℕ)) (answer : Result (Option (List ℕ)) LinesNo)
    (gives : Gives old new left0 left answer) where
  pub nothing_closes : (r : Result (Unit {0}) ScriptStop) → r ≡ behind_end answer → OnOk r ((number : ℕ) (setup : Setup)
      → WithMoreTaken old.held left0 left (IsClosedIn of_upgrade number (at_end setup) None left))
  nothing_closes (Ok done) is =
      λ number setup. answer_ends by_upgrade old new left0 left answer number (at_end setup) (Ok done) refl gives (sym is)
  nothing_closes (Err why) is = tt

  pub nothing_stops : (r : Result (Unit {0}) ScriptStop) → r ≡ behind_end answer
      → IfErr r (λ why. (number : ℕ) (setup : Setup)
      → WithMoreTaken old.held left0 left (StopsIn of_upgrade number (at_end setup) why left))
  nothing_stops (Ok done) is = tt
  nothing_stops (Err why) is =
      λ number setup. answer_ends by_upgrade old new left0 left answer number (at_end setup) (Err why) refl gives (sym is)
