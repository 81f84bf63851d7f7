-- A proofreading goes on line by line, and ends.
use Rattle.std.proofs.Common.{◌≡◌, ◌≢◌, ◌∙◌, ℕ, ◌+◌, ◌||◌, Bool, List, [], ◌∷◌, ◌++◌, map, Option, Some, None, Result, Ok, Err}
use Rattle.std.proofs.Common.{refl, ap, sym, subst, append_assoc}
use Rattle.std.specs.Io.KnownBytes.{Consumes}
use Rattle.std.specs.List.{slice_split}
use Rattle.std.proofs.lemmas.List.{append-nil, map-append}
use Rattle.cct_edge.specs.declared.fault.Failed.{Failed}
use Rattle.cct_edge.proofs.Chains.{Consumes-nil, Consumes-trans}
use Rattle.cct_model_lines.specs.declared.entry.Entry.{Entry}
use Rattle.cct_model_lines.specs.declared.entry.Entry.TheVariants as entry
use Rattle.cct_model_lines.specs.declared.entry.LineKind.{LineKind}
use Rattle.cct_model_lines.specs.Script.{Refusal, Stage, at_end, at_setup, is_line_feed, no_devices}
use Rattle.cct_model_lines.specs.terms.device.Setup.{Setup}
use Rattle.cct_script.specs.Scripts.{GoesOnIn, IsClosedIn, StopsIn, WithMoreTaken}
use Rattle.cct_script.specs.Source.{OfBytes, to_come}
use Rattle.cct_script.specs.declared.stops.ScriptStop.{ScriptStop}
use Rattle.cct_script.specs.declared.stops.ScriptStop.TheVariants as stop
use Rattle.cct_script.proofs.Continuing.{ended}
use Rattle.cct_script.proofs.Sources.{told_by}
use Rattle.cct_text.specs.Writing.{Writes, Wrote}
use Rattle.cct_text.proofs.Writing.{wrote_none, writes_more, writes_then}
use Rattle.cct_script_check.specs.Going.{Closes, Going, Marks, end_of}
use Rattle.cct_script_check.specs.Parts.{Keeps, is_refused, looked_lines, mark_as, part_by, stage_of}
use Rattle.cct_script_check.specs.declared.taking.Looked.{Looked}
use Rattle.cct_script_check.specs.declared.taking.Looked.TheVariants as looked
use Rattle.cct_script_check.specs.declared.taking.Part.{Part}
use Rattle.cct_script_check.specs.Proof.{ProofEnds, Proofread, goes, left_out, of_proof, refusal_line, refusals, refusals_from}
use Rattle.cct_script_check.specs.declared.proofreading.ProofEnd.{ProofEnd}
use Rattle.cct_script_check.specs.declared.proofreading.ProofEnd.TheVariants.{Clean, Told, Unread, Unwritten}
use Rattle.cct_script_check.proofs.Lines.{by_proof}

-- a list with an element isn't empty
not_empty : {A : Type 0} (xs : List A) (x : A) (ys : List A) → xs ++ x ∷ ys ≢ []
not_empty [] x ys = λ e. cc e
not_empty (y ∷ xs) x ys = λ e. cc e

module _ {K : Type 0} (written : K → Option (List ℕ)) (puts : K → List ℕ → Result (Unit {0}) Failed → K → Type 0) where
  -- before the first line
  pub going_begin : (left : Option (List ℕ)) (out : K)
      → Going left left [] 1 (at_setup no_devices) Clean (Wrote written puts out out)
  unfolding refusals
  going_begin left out = record {
    taken = [];
    told = [];
    consumed = Consumes-nil left;
    says = λ more. refl;
    marks = refl;
    wrote = wrote_none written puts out;
  }

  -- more bytes came
  going_came : (left0 left left1 : Option (List ℕ)) (held came : List ℕ) (number : ℕ) (stage : Stage) (end : ProofEnd)
      (Written : List Entry → Type 0) → Going left0 left held number stage end Written → Consumes left left1 came
      → Going left0 left1 (held ++ came) number stage end Written
  going_came left0 left left1 held came number stage end Written g took = record {
    taken = g.taken ++ came;
    told = g.told;
    consumed = Consumes-trans left0 left left1 g.taken came g.consumed took;
    says = λ more.
        ap refusals (append_assoc g.taken came more)
        ∙ g.says (came ++ more)
        ∙ ap (λ bytes. g.told ++ refusals_from number stage (slice_split is_line_feed bytes)) (sym (append_assoc held came more));
    marks = g.marks;
    wrote = g.wrote;
  }

  -- a line that isn't refused
  pub going_goes : (left0 left left1 : Option (List ℕ)) (held rest : List ℕ) (number : ℕ) (stage next : Stage)
      (end : ProofEnd) (Written : List Entry → Type 0) → Going left0 left held number stage end Written
      → WithMoreTaken held left left1 (λ bytes. GoesOnIn of_proof number stage bytes (goes next) rest)
      → Going left0 left1 rest (number + 1) next end Written
  going_goes left0 left left1 held rest number stage next end Written g r =
      let now = going_came left0 left left1 held r.0 number stage end Written g r.1 in
      record {
        taken = now.taken;
        told = now.told;
        consumed = now.consumed;
        says = λ more. now.says more ∙ ap (λ later. now.told ++ later) (r.2 more);
        marks = now.marks;
        wrote = now.wrote;
      }

  module _ (out0 out out1 : K) where
    -- a line that is refused, and reported
    pub going_left_out : (left0 left left1 : Option (List ℕ)) (held rest : List ℕ) (number : ℕ) (stage : Stage)
        (why : LineKind) (end : ProofEnd) → Going left0 left held number stage end (Wrote written puts out0 out)
        → WithMoreTaken held left left1 (λ bytes. GoesOnIn of_proof number stage bytes (left_out why) rest)
        → Writes written puts out (entry.Line number why ∷ []) (Ok tt) out1
        → Going left0 left1 rest (number + 1) stage Told (Wrote written puts out0 out1)
    going_left_out left0 left left1 held rest number stage why end g r put =
        let now = going_came left0 left left1 held r.0 number stage end (Wrote written puts out0 out) g r.1 in
        let this : Refusal = record { number = number; why = why } in
        record {
          taken = now.taken;
          told = now.told ++ this ∷ [];
          consumed = now.consumed;
          says = λ more.
              let later = refusals_from (number + 1) stage (slice_split is_line_feed (rest ++ more)) in
              now.says more
              ∙ ap (λ rs. now.told ++ rs) (r.2 more)
              ∙ sym (append_assoc now.told (this ∷ []) later);
          marks = not_empty now.told this [];
          wrote = subst (λ es. Wrote written puts out0 out1 es) (sym (map-append refusal_line now.told (this ∷ [])))
              (writes_then written puts out0 out out1 (map refusal_line now.told) (entry.Line number why ∷ []) (Ok tt) now.wrote put);
        }

    -- a line that is refused, where writing failed
    pub broken_here : (left0 left left1 : Option (List ℕ)) (held rest : List ℕ) (number : ℕ) (stage : Stage)
        (why : LineKind) (end : ProofEnd) (failed : Failed)
        → Going left0 left held number stage end (Wrote written puts out0 out)
        → WithMoreTaken held left left1 (λ bytes. GoesOnIn of_proof number stage bytes (left_out why) rest)
        → Writes written puts out (entry.Line number why ∷ []) (Err failed) out1
        → OfBytes left0 (λ bytes. Proofread bytes Unwritten left1 (λ lines answer. Writes written puts out0 lines answer out1))
    broken_here left0 left left1 held rest number stage why end failed g r put =
        let now = going_came left0 left left1 held r.0 number stage end (Wrote written puts out0 out) g r.1 in
        let this : Refusal = record { number = number; why = why } in
        let more = to_come left1 in
        let later = refusals_from (number + 1) stage (slice_split is_line_feed (rest ++ more)) in
        let all = now.says more ∙ ap (λ rs. now.told ++ rs) (r.2 more) in
        let lines : map refusal_line (refusals (now.taken ++ more))
        ≡ (map refusal_line now.told ++ entry.Line number why ∷ []) ++ map refusal_line later =
        ap (map refusal_line) all
        ∙ map-append refusal_line now.told (this ∷ later)
        ∙ sym (append_assoc (map refusal_line now.told) (entry.Line number why ∷ []) (map refusal_line later)) in (
          now.taken ++ more,
          told_by left0 left1 now.taken now.consumed,
          record {
            taken = now.taken;
            took = refl;
            ends = (
              failed,
              subst (λ rs. rs ≢ []) (sym all) (not_empty now.told this later),
              subst (λ es. Writes written puts out0 es (Err failed) out1) (sym lines)
                  (writes_more written puts out0 out1 (map refusal_line now.told ++ entry.Line number why ∷ [])
                  (map refusal_line later) failed
                  (writes_then written puts out0 out out1 (map refusal_line now.told) (entry.Line number why ∷ [])
                  (Err failed) now.wrote put)),
            );
          },
        )

    -- the script is read no further
    closed_here : (left0 left : Option (List ℕ)) (held : List ℕ) (number : ℕ) (stage : Stage) (end : ProofEnd)
        (why : ScriptStop) (how : ProofEnd) → Going left0 left held number stage end (Wrote written puts out0 out)
        → StopsIn of_proof number stage why left held
        → Closes why how number (λ lines answer. Writes written puts out lines answer out1) (out1 ≡ out)
        → OfBytes left0 (λ bytes. Proofread bytes how left (λ lines answer. Writes written puts out0 lines answer out1))
    closed_here left0 left held number stage end stop.Unread how g stops closes = (
      g.taken ++ to_come left,
      told_by left0 left g.taken g.consumed,
      record {
        taken = g.taken;
        took = refl;
        ends = subst (λ h. Ends h) (sym closes.0) (
          g.told,
          record {
            number = number;
            stage = stage;
            held = held;
            alone = stops;
            says = ap refusals (sym (append-nil g.taken))
                ∙ g.says []
                ∙ ap (λ bytes. g.told ++ refusals_from number stage (slice_split is_line_feed bytes)) (append-nil held)
                ∙ ap (λ rs. g.told ++ rs) (ended by_proof number stage held stops);
          },
          subst (λ k. Writes written puts out0 (map refusal_line g.told) (Ok tt) k) (sym closes.1) g.wrote,
        );
      },
    )
      where
        Ends : ProofEnd → Type 0
        Ends h = ProofEnds (g.taken ++ to_come left) g.taken h (λ lines answer. Writes written puts out0 lines answer out1)
    closed_here left0 left held number stage end (stop.Refused why) Told g stops closes =
        let this : Refusal = record { number = number; why = why } in
        let all = g.says (to_come left) ∙ ap (λ rs. g.told ++ rs) stops in (
          g.taken ++ to_come left,
          told_by left0 left g.taken g.consumed,
          record {
            taken = g.taken;
            took = refl;
            ends = (
              subst (λ rs. rs ≢ []) (sym all) (not_empty g.told this []),
              subst (λ es. Writes written puts out0 es (Ok tt) out1)
                  (sym (ap (map refusal_line) all ∙ map-append refusal_line g.told (this ∷ [])))
                  (writes_then written puts out0 out out1 (map refusal_line g.told) (entry.Line number why ∷ []) (Ok tt) g.wrote closes),
            );
          },
        )
    closed_here left0 left held number stage end (stop.Refused why) Unwritten g stops closes =
        let this : Refusal = record { number = number; why = why } in
        let all = g.says (to_come left) ∙ ap (λ rs. g.told ++ rs) stops in (
          g.taken ++ to_come left,
          told_by left0 left g.taken g.consumed,
          record {
            taken = g.taken;
            took = refl;
            ends = (
              closes.0,
              subst (λ rs. rs ≢ []) (sym all) (not_empty g.told this []),
              subst (λ es. Writes written puts out0 es (Err closes.0) out1)
                  (sym (ap (map refusal_line) all ∙ map-append refusal_line g.told (this ∷ [])))
                  (writes_then written puts out0 out out1 (map refusal_line g.told) (entry.Line number why ∷ [])
                  (Err closes.0) g.wrote closes.1),
            );
          },
        )
    closed_here left0 left held number stage end (stop.Refused why) Clean g stops closes = absurd closes
    closed_here left0 left held number stage end (stop.Refused why) Unread g stops closes = absurd closes

    pub going_stops : (left0 left left1 : Option (List ℕ)) (held : List ℕ) (number : ℕ) (stage : Stage) (end : ProofEnd)
        (why : ScriptStop) (how : ProofEnd) → Going left0 left held number stage end (Wrote written puts out0 out)
        → WithMoreTaken held left left1 (StopsIn of_proof number stage why left1)
        → Closes why how number (λ lines answer. Writes written puts out lines answer out1) (out1 ≡ out)
        → OfBytes left0 (λ bytes. Proofread bytes how left1 (λ lines answer. Writes written puts out0 lines answer out1))
    going_stops left0 left left1 held number stage end why how g r closes =
        closed_here left0 left1 (held ++ r.0) number stage end why how
        (going_came left0 left left1 held r.0 number stage end (Wrote written puts out0 out) g r.1) r.2 closes

  -- the script has ended
  pub going_ends : (out0 out : K) (left0 left left1 : Option (List ℕ)) (held : List ℕ) (number : ℕ) (stage : Stage)
      (end : ProofEnd) → Going left0 left held number stage end (Wrote written puts out0 out)
      → WithMoreTaken held left left1 (IsClosedIn of_proof number stage None left1)
      → OfBytes left0 (λ bytes. Proofread bytes end left1 (λ lines answer. Writes written puts out0 lines answer out))
  going_ends out0 out left0 left left1 held number stage end g r =
      let now = going_came left0 left left1 held r.0 number stage end (Wrote written puts out0 out) g r.1 in
      let all : refusals (now.taken ++ to_come left1) ≡ now.told =
      now.says (to_come left1) ∙ ap (λ rs. now.told ++ rs) r.2 ∙ append-nil now.told in (
        now.taken ++ to_come left1,
        told_by left0 left1 now.taken now.consumed,
        record { taken = now.taken; took = refl; ends = by_end now.taken now.told end all now.marks now.wrote },
      )
    where
      by_end : (taken : List ℕ) (told : List Refusal) (how : ProofEnd) → refusals (taken ++ to_come left1) ≡ told
          → Marks how told → Wrote written puts out0 out (map refusal_line told)
          → ProofEnds (taken ++ to_come left1) taken how (λ lines answer. Writes written puts out0 lines answer out)
      by_end taken told Clean all marks wrote = (
        all ∙ marks,
        subst (λ rs. Writes written puts out0 (map refusal_line rs) (Ok tt) out) marks wrote,
      )
      by_end taken told Told all marks wrote = (
        subst (λ rs. rs ≢ []) (sym all) marks,
        subst (λ rs. Writes written puts out0 (map refusal_line rs) (Ok tt) out) (sym all) wrote,
      )
      by_end taken told Unread all marks wrote = absurd marks
      by_end taken told Unwritten all marks wrote = absurd marks

  -- ---- a line that was looked at

  -- nothing was written
  none_written : (out out1 : K) → Writes written puts out [] (Ok tt) out1 → out1 ≡ out
  none_written out out1 wrote = wrote.put.1

  module _ (out0 out out1 : K) (left0 left left1 : Option (List ℕ)) (held rest : List ℕ) (number : ℕ) (part : Part)
      (setup setup1 : Setup) (has_told : Bool)
      (g : Going left0 left held number (stage_of part setup) (end_of has_told) (Wrote written puts out0 out)) where
    -- and the script goes on
    pub looked_goes : (l : Looked) (next : Part)
        → WithMoreTaken held left left1 (λ bytes. GoesOnIn of_proof number (stage_of part setup) bytes (mark_as l setup1) rest)
        → Keeps l setup setup1 → Writes written puts out (looked_lines number l) (Ok tt) out1 → part_by part l ≡ Some next
        → Going left0 left1 rest (number + 1) (stage_of next setup1) (end_of (is_refused l || has_told))
        (Wrote written puts out0 out1)
    looked_goes (looked.Goes p) next r keeps wrote is =
        let same : p ≡ next = cc in
        subst (λ k. Going left0 left1 rest (number + 1) (stage_of next setup1) (end_of has_told) (Wrote written puts out0 k))
        (sym (none_written out out1 wrote))
        (subst (λ q. Going left0 left1 rest (number + 1) (stage_of q setup1) (end_of has_told) (Wrote written puts out0 out)) same
        (going_goes left0 left left1 held rest number (stage_of part setup) (stage_of p setup1) (end_of has_told)
        (Wrote written puts out0 out) g r))
    looked_goes looked.Ends next r keeps wrote is = cc is
    looked_goes (looked.Refused why) next r keeps wrote is =
        let same : part ≡ next = cc in
        subst (λ q. Going left0 left1 rest (number + 1) (stage_of q setup1) Told (Wrote written puts out0 out1)) same
        (subst (λ s. Going left0 left1 rest (number + 1) (stage_of part s) Told (Wrote written puts out0 out1)) (sym keeps)
        (going_left_out out0 out out1 left0 left left1 held rest number (stage_of part setup) why (end_of has_told) g r wrote))

    -- and the script has ended
    pub looked_ends : (l : Looked)
        → WithMoreTaken held left left1 (λ bytes. GoesOnIn of_proof number (stage_of part setup) bytes (mark_as l setup1) rest)
        → Writes written puts out (looked_lines number l) (Ok tt) out1 → part_by part l ≡ None
        → Going left0 left1 rest (number + 1) (at_end setup1) (end_of has_told) (Wrote written puts out0 out1)
    looked_ends (looked.Goes p) r wrote is = cc is
    looked_ends looked.Ends r wrote is =
        subst (λ k. Going left0 left1 rest (number + 1) (at_end setup1) (end_of has_told) (Wrote written puts out0 k))
        (sym (none_written out out1 wrote))
        (going_goes left0 left left1 held rest number (stage_of part setup) (at_end setup1) (end_of has_told)
        (Wrote written puts out0 out) g r)
    looked_ends (looked.Refused why) r wrote is = cc is

    -- and writing failed
    pub looked_broke : (l : Looked) (failed : Failed)
        → WithMoreTaken held left left1 (λ bytes. GoesOnIn of_proof number (stage_of part setup) bytes (mark_as l setup1) rest)
        → Writes written puts out (looked_lines number l) (Err failed) out1
        → OfBytes left0 (λ bytes. Proofread bytes Unwritten left1 (λ lines answer. Writes written puts out0 lines answer out1))
    looked_broke (looked.Goes p) failed r wrote = let no : Err failed ≡ Ok tt = wrote.put.0 in cc no
    looked_broke looked.Ends failed r wrote = let no : Err failed ≡ Ok tt = wrote.put.0 in cc no
    looked_broke (looked.Refused why) failed r wrote =
        broken_here out0 out out1 left0 left left1 held rest number (stage_of part setup) why (end_of has_told) failed g r wrote
