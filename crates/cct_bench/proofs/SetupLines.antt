-- The lines of a setup, one after another.
use Rattle.std.proofs.Common.{◌≡◌, ℕ, ◌+◌, List, [], ◌∷◌, ◌++◌, Option, None, Result, refl, ap, sym, ◌∙◌, subst}
use Rattle.std.proofs.Common.{append_assoc}
use Rattle.std.specs.List.{position}
use Rattle.std.specs.Io.KnownBytes.{Consumes}
use Rattle.cct_edge.specs.declared.fault.Failed.{Failed}
use Rattle.cct_edge.proofs.Chains.{Consumes-nil, Consumes-trans}
use Rattle.cct_model.specs.terms.device.Setup.{Setup}
use Rattle.cct_model.specs.Script.{is_line_feed, Stage, at_setup, no_devices, opens, read_line}
use Rattle.cct_script.specs.Taking.{TakesOn}
use Rattle.cct_script.specs.Scripts.{WithMoreTaken}
use Rattle.cct_bench.specs.Lines.{StopsAt}
use Rattle.cct_bench.specs.Run.{ending_at}
use Rattle.cct_bench.specs.declared.ending.Ending.{Ending}
use Rattle.cct_script.specs.declared.stops.ScriptStop.{ScriptStop}
use Rattle.cct_bench.specs.SetupLines.{whole_lines, OpenedBy, OpensLine, SetupStops, TakesForLines, TookOpening}

opened_more : (number : ℕ) (stage : Stage) (lines : List (List ℕ)) (last : ℕ) (behind next : Stage) (line : List ℕ)
    → OpenedBy number stage lines last behind → position is_line_feed line ≡ None
    → read_line last behind line ≡ opens next → OpenedBy number stage (lines ++ line ∷ []) (last + 1) next
opened_more number stage [] last behind next line h none reads = (
  next,
  none,
  subst (λ n. read_line n stage line ≡ opens next) (sym h.0)
      (subst (λ s. read_line last s line ≡ opens next) (sym h.1) reads),
  (ap (λ n. n + 1) h.0, refl),
)
opened_more number stage (x ∷ lines) last behind next line h none reads =
    (h.0, h.1, h.2, opened_more (number + 1) h.0 lines last behind next line h.3 none reads)

lines_more : (lines : List (List ℕ)) (line rest : List ℕ)
    → whole_lines (lines ++ line ∷ []) ++ rest ≡ whole_lines lines ++ (line ++ 10 ∷ rest)
lines_more [] line rest = append_assoc line (10 ∷ []) rest
lines_more (x ∷ lines) line rest =
    append_assoc x (10 ∷ whole_lines (lines ++ line ∷ [])) rest
    ∙ ap (λ bytes. x ++ 10 ∷ bytes) (lines_more lines line rest)
    ∙ sym (append_assoc x (10 ∷ whole_lines lines) (line ++ 10 ∷ rest))

module _ {S : Type 0} (takes : S → ℕ → Result ℕ Failed → S → Type 0) (left : S → Option (List ℕ)) where
  -- the takes of one line more
  taken_more : (held : List ℕ) (before : S) (lines : List (List ℕ)) (kept : List ℕ) (between : S) (line rest : List ℕ)
      (now : S) → TakesForLines takes left held before lines kept between
      → TakesOn takes left kept between (line ++ 10 ∷ rest) now
      → TakesForLines takes left held before (lines ++ line ∷ []) rest now
  taken_more held before [] kept between line rest now h needed = (
    rest,
    now,
    subst (λ s. TakesOn takes left held s (line ++ 10 ∷ rest) now) h.1
        (subst (λ bytes. TakesOn takes left bytes between (line ++ 10 ∷ rest) now) h.0 needed),
    (refl, refl),
  )
  taken_more held before (x ∷ lines) kept between line rest now h needed =
      (h.0, h.1, h.2, taken_more h.0 h.1 lines kept between line rest now h.3 needed)

  pub opening_begin : (source : S) → TookOpening takes left source source [] 1 (at_setup no_devices)
  opening_begin source =
      record { lines = []; took = Consumes-nil (left source); opened = (refl, refl); needed = (refl, refl) }

  -- one line more
  pub opening_more : (source0 source source1 : S) (held rest : List ℕ) (number : ℕ) (stage next : Stage)
      → TookOpening takes left source0 source held number stage
      → OpensLine takes left number stage next held rest source source1
      → TookOpening takes left source0 source1 rest (number + 1) next
  opening_more source0 source source1 held rest number stage next o l =
      let before = whole_lines o.lines in
      let same : (before ++ held) ++ l.fills.0 ≡ whole_lines (o.lines ++ l.line ∷ []) ++ rest =
      append_assoc before held l.fills.0
      ∙ (ap (λ bytes. before ++ bytes) (sym l.fills.1) ∙ sym (lines_more o.lines l.line rest)) in
      record {
        lines = o.lines ++ l.line ∷ [];
        took = subst (Consumes (left source0) (left source1)) same
            (Consumes-trans (left source0) (left source) (left source1) (before ++ held) l.fills.0 o.took l.fills.2);
        opened = opened_more 1 (at_setup no_devices) o.lines number stage next l.line o.opened l.alone l.reads;
        needed = taken_more [] source0 o.lines held source l.line rest source1 o.needed l.needed;
      }

  -- no line more
  pub opening_stops : (source0 source source1 : S) (held : List ℕ) (number : ℕ) (setup : Setup) (why : ScriptStop)
      (how : Ending) → TookOpening takes left source0 source held number (at_setup setup)
      → WithMoreTaken held (left source) (left source1) (StopsAt number (at_setup setup) why (left source1))
      → how ≡ ending_at number why → SetupStops (left source0) (left source1) how
  opening_stops source0 source source1 held number setup why how o r told =
      let before = whole_lines o.lines in
      record {
        lines = o.lines;
        held = held ++ r.0;
        number = number;
        setup = setup;
        why = why;
        took = subst (Consumes (left source0) (left source1)) (append_assoc before held r.0)
            (Consumes-trans (left source0) (left source) (left source1) (before ++ held) r.0 o.took r.1);
        opened = o.opened;
        stops = r.2;
        told = told;
      }
