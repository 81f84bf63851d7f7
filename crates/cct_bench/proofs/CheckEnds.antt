-- How a check ends, by its status.
use Rattle.std.proofs.Common.{◌≡◌, ◌∙◌, ℕ, List, [], ◌∷◌, ◌++◌, map, Option, Result, Ok, Err, refl, sym, subst}
use Rattle.cct_edge.proofs.Chains.{Consumes-nil}
use Rattle.cct_edge.specs.declared.fault.Failed.{Failed}
use Rattle.cct_model.specs.lines.entry.Entry.{Entry}
use Rattle.cct_model.specs.lines.entry.Entry.TheVariants as entry
use Rattle.cct_script_check.specs.Proof.{Proofread, refusal_line}
use Rattle.cct_script_check.specs.declared.proofreading.ProofEnd.TheVariants as proof
use Rattle.cct_script.specs.Source.{OfBytes, to_come}
use Rattle.cct_script.proofs.Sources.{told_by}
use Rattle.cct_text.specs.Writing.{Writes}
use Rattle.cct_text.proofs.Writing.{writes_then}
use Rattle.cct_bench.specs.Check.{CheckEnds, CheckRan}
use Rattle.cct_bench.specs.Run.{status_by}
use Rattle.cct_bench.specs.declared.outcome.Status.{Status}
use Rattle.cct_bench.specs.declared.outcome.Status.TheVariants as status

module _ {K : Type 0} (written : K → Option (List ℕ)) (puts : K → List ℕ → Result (Unit {0}) Failed → K → Type 0)
    (out out1 : K) (left : Option (List ℕ)) (failed_read : Type 0) where
  -- What was written by then.
  abbrev W : List Entry → Result (Unit {0}) Failed → Type 0
  W lines answer = Writes written puts out lines answer out1

  pub check_clean : (bytes : List ℕ) → Proofread bytes proof.Clean left W → CheckRan bytes status.Done left failed_read W
  check_clean bytes h = record { taken = h.taken; took = h.took; ends = ([], (h.ends.0, refl), h.ends.1) }

  pub check_told : (bytes : List ℕ) → Proofread bytes proof.Told left W
      → CheckRan bytes status.ScriptRefused left failed_read W
  check_told bytes h = record { taken = h.taken; took = h.took; ends = (_, (h.ends.0, refl), h.ends.1) }

  pub check_unwritten : (bytes : List ℕ) → Proofread bytes proof.Unwritten left W
      → CheckRan bytes status.WriteFault left failed_read W
  check_unwritten bytes h =
      record { taken = h.taken; took = h.took; ends = (status.ScriptRefused, _, h.ends.0, (h.ends.1, refl), h.ends.2) }

  pub check_unread : (bytes : List ℕ) (out2 : K) (s : Status) → failed_read → Proofread bytes proof.Unread left W
      → (answer : Result (Unit {0}) Failed) × Writes written puts out1 (entry.ReadFault ∷ []) answer out2
      × (s ≡ status_by answer status.ReadFault)
      → CheckRan bytes s left failed_read (λ lines answer. Writes written puts out lines answer out2)
  check_unread bytes out2 s failed h (Ok tt, wrote, is) = record {
    taken = h.taken;
    took = h.took;
    ends = subst (λ x. CheckEnds bytes h.taken failed_read x (λ lines answer. Writes written puts out lines answer out2)) (sym is) (
      map refusal_line h.ends.0 ++ entry.ReadFault ∷ [],
      (h.ends.0, h.ends.1, failed, refl),
      writes_then written puts out out1 out2 (map refusal_line h.ends.0) (entry.ReadFault ∷ []) (Ok tt) h.ends.2 wrote,
    );
  }
  check_unread bytes out2 s failed h (Err fault, wrote, is) = record {
    taken = h.taken;
    took = h.took;
    ends = subst (λ x. CheckEnds bytes h.taken failed_read x (λ lines answer. Writes written puts out lines answer out2)) (sym is) (
      status.ReadFault,
      map refusal_line h.ends.0 ++ entry.ReadFault ∷ [],
      fault,
      (h.ends.0, h.ends.1, failed, refl),
      writes_then written puts out out1 out2 (map refusal_line h.ends.0) (entry.ReadFault ∷ []) (Err fault) h.ends.2 wrote,
    );
  }

-- without memory nothing was checked
pub check_no_memory : (left : Option (List ℕ)) (failed_read : Type 0)
    (writes : List Entry → Result (Unit {0}) Failed → Type 0) → writes [] (Ok tt)
    → OfBytes left (λ bytes. CheckRan bytes status.OutOfMemory left failed_read writes)
check_no_memory left failed_read writes none =
    (to_come left, told_by left left [] (Consumes-nil left), record { taken = []; took = refl; ends = (refl, none) })
