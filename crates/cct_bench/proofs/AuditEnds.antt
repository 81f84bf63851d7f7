-- How an audit ends, by its status.
use Rattle.std.proofs.Common.{◌≡◌, ◌≢◌, ℕ, map, All, append-nil, List, [], ◌∷◌, ◌++◌, reverse, Option, Some, None, Result, Ok, Err, inl, inr, refl, ap, subst, sym, ◌∙◌}
use Rattle.cct_edge.proofs.Chains.{Consumes-nil}
use Rattle.cct_edge.specs.declared.fault.Failed.{Failed}
use Rattle.cct_model.specs.lines.entry.Entry.{Entry}
use Rattle.cct_model.specs.lines.entry.Entry.TheVariants as entry
use Rattle.cct_model.specs.lines.entry.LineKind.{LineKind}
use Rattle.cct_monitor.specs.declared.monitor.Monitor.{Monitor}
use Rattle.cct_monitor.specs.Watches.{Came, all_told, finally_of_all, made_tap, made_watch}
use Rattle.cct_monitor.specs.Spans.{spans}
use Rattle.cct_laws_any_host.specs.Claims.{IsPlain, IsQuietSpan, IsToldQuiet, IsToldWhole, IsTrue, looks, quiet_looks}
use Rattle.cct_laws_any_host.proofs.Complete.{plain_told}
use Rattle.cct_laws_any_host.proofs.QuietTold.{quiet_told}
use Rattle.cct_laws_any_host.proofs.True.{all_true}
use Rattle.cct_model.specs.Script.{Refusal}
use Rattle.cct_script.specs.Source.{OfBytes, to_come}
use Rattle.cct_script.specs.declared.stops.ScriptStop.TheVariants as stop
use Rattle.cct_script.proofs.Sources.{told_by}
use Rattle.cct_model.specs.Text.{line_of}
use Rattle.cct_text.specs.Writing.{Writes}
use Rattle.cct_audit.specs.Writing.{BrokeLines, WroteLines}
use Rattle.cct_audit.proofs.Puts.{writes_entry, writes_then}
use Rattle.cct_audit.specs.Audit.{Audited, BreaksOff, at_end, at_tap}
use Rattle.cct_audit.specs.declared.auditing.AuditEnd.TheVariants as ended
use Rattle.cct_audit.specs.Capture.{Capture, capture}
use Rattle.cct_audit.specs.Joined.{watches_in}
use Rattle.cct_audit.specs.Telling.{told}
use Rattle.cct_audit.proofs.Joined.{came_apart, joined, spoken_once, spoken_quietly}
use Rattle.cct_bench.specs.Audit.{AuditCloses, AuditEnds, AuditRan, IsOfAudit, IsRightAudit}
use Rattle.cct_bench.specs.Report.{IsOrMemory}
use Rattle.cct_bench.specs.Run.{status_by}
use Rattle.cct_bench.specs.declared.outcome.Status.{Status}
use Rattle.cct_bench.specs.declared.outcome.Status.TheVariants as status

-- what an audit says of what came of a capture
right_audit : (bytes : List ℕ) (past more : List Came) → (capture bytes).came ≡ reverse past ++ more → IsRightAudit past
right_audit bytes past more is = record {
  is_true = λ setup steps run sound watched goes honest same.
      joined (IsTrue setup run) bytes past more is
      (subst (λ ts. All (IsTrue setup run) (all_told (map made_tap ts ++ map made_watch (watches_in past))
      ++ finally_of_all (map made_tap ts ++ map made_watch (watches_in past)))) same
      (all_true setup steps run (watches_in past) sound watched goes honest));
  complete = λ setup steps run w d sound goes honest same among accepts own watched.
      subst (λ came. All (λ span. IsPlain d run span → IsToldWhole d run (all_told came) span) (spans (looks d run)))
      (ap (λ ts. map made_tap ts ++ map made_watch (watches_in past)) same ∙ sym (came_apart bytes past more is))
      (plain_told setup steps run (watches_in past) w d sound goes honest among accepts own watched);
  complete_quiet = λ setup steps run money w d sound goes honest same among accepts own watched.
      subst (λ came. All (λ span. IsQuietSpan d run span → IsToldQuiet d run (all_told came) span) (spans (quiet_looks money d run)))
      (ap (λ ts. map made_tap ts ++ map made_watch (watches_in past)) same ∙ sym (came_apart bytes past more is))
      (quiet_told setup steps run (watches_in past) money w d sound goes honest among accepts own watched);
  once = λ w first last among accepts. spoken_once bytes past more w first last is among accepts;
  once_quiet = λ money w first last among accepts. spoken_quietly bytes past more money w first last is among accepts;
}

right_whole : (bytes : List ℕ) (past : List Came) → (capture bytes).came ≡ reverse past → IsRightAudit past
right_whole bytes past is = right_audit bytes past [] (is ∙ sym (append-nil (reverse past)))

right_broken : (bytes : List ℕ) (past : List Came) (B : List (List ℕ) → List (List ℕ) → Type 0) → BreaksOff bytes B past → IsRightAudit past
right_broken bytes _ B (at_tap c before rest came broke) = right_audit bytes (c ∷ before) rest came
right_broken bytes _ B (at_end past is broke) = right_whole bytes past (ap (λ (c : Capture). c.came) is)

module _ {K : Type 0} (written : K → Option (List ℕ)) (puts : K → List ℕ → Result (Unit {0}) Failed → K → Type 0)
    (a b c : K) (bytes : List ℕ) (monitor : Monitor) (left : Option (List ℕ)) (F : Type 0) where
  pub audit_done : Audited bytes ended.Done monitor left (WroteLines written puts a b) (BrokeLines written puts a b)
      → AuditRan bytes status.Done (Some monitor) left F (WroteLines written puts a b) (BrokeLines written puts a b)
  audit_done h = record {
    taken = h.taken;
    past = h.past;
    took = h.took;
    ends = h.ends;
    stands = h.stands;
    right = right_whole bytes h.past (ap (λ (c : Capture). c.came) h.ends.0);
  }

  pub audit_unwritten : Audited bytes ended.Unwritten monitor left (WroteLines written puts a b) (BrokeLines written puts a b)
      → AuditRan bytes status.WriteFault (Some monitor) left F (WroteLines written puts a b) (BrokeLines written puts a b)
  audit_unwritten h = record {
    taken = h.taken;
    past = h.past;
    took = h.took;
    ends = inl h.ends;
    stands = h.stands;
    right = right_broken bytes h.past (BrokeLines written puts a b) h.ends;
  }

  -- the last line is written, or not
  refused_line : (taken : List ℕ) (past : List Came) (line : Entry) (answer : Result (Unit {0}) Failed)
      → AuditCloses bytes taken past F status.ScriptRefused line → WroteLines written puts a b (told past)
      → Writes written puts b (line ∷ []) answer c
      → AuditEnds bytes taken past F (status_by answer status.ScriptRefused) (WroteLines written puts a c) (BrokeLines written puts a c)
  refused_line taken past line (Ok done) closes wrote last = (
    line,
    closes,
    writes_then written puts a b c (told past) (line_of line ∷ []) (Ok done) wrote
        (writes_entry written puts b c line (Ok done) last),
  )
  refused_line taken past line (Err failed) closes wrote last =
      inr (status.ScriptRefused, line, closes, (b, failed, wrote, writes_entry written puts b c line (Err failed) last))

  unread_line : (taken : List ℕ) (past : List Came) (line : Entry) (answer : Result (Unit {0}) Failed)
      → AuditCloses bytes taken past F status.ReadFault line → WroteLines written puts a b (told past)
      → Writes written puts b (line ∷ []) answer c
      → AuditEnds bytes taken past F (status_by answer status.ReadFault) (WroteLines written puts a c) (BrokeLines written puts a c)
  unread_line taken past line (Ok done) closes wrote last = (
    line,
    closes,
    writes_then written puts a b c (told past) (line_of line ∷ []) (Ok done) wrote
        (writes_entry written puts b c line (Ok done) last),
  )
  unread_line taken past line (Err failed) closes wrote last =
      inr (status.ReadFault, line, closes, (b, failed, wrote, writes_entry written puts b c line (Err failed) last))

  pub audit_refused : (number : ℕ) (why : LineKind) (s : Status)
      → Audited bytes (ended.Stopped number (stop.Refused why)) monitor left (WroteLines written puts a b) (BrokeLines written puts a b)
      → (answer : Result (Unit {0}) Failed) × Writes written puts b (entry.Line number why ∷ []) answer c
      × (s ≡ status_by answer status.ScriptRefused)
      → AuditRan bytes s (Some monitor) left F (WroteLines written puts a c) (BrokeLines written puts a c)
  audit_refused number why s h put = record {
    taken = h.taken;
    past = h.past;
    took = h.took;
    ends = subst
        (λ x. AuditEnds bytes h.taken h.past F x (WroteLines written puts a c) (BrokeLines written puts a c)) (sym put.2)
        (refused_line h.taken h.past (entry.Line number why) put.0
        (record { number = number; why = why }, h.ends.0, refl) h.ends.1 put.1);
    stands = h.stands;
    right = right_whole bytes h.past (ap (λ (c : Capture). c.came) h.ends.0);
  }

  pub audit_unread : (number : ℕ) (s : Status) → F
      → Audited bytes (ended.Stopped number stop.Unread) monitor left (WroteLines written puts a b) (BrokeLines written puts a b)
      → (answer : Result (Unit {0}) Failed) × Writes written puts b (entry.ReadFault ∷ []) answer c
      × (s ≡ status_by answer status.ReadFault)
      → AuditRan bytes s (Some monitor) left F (WroteLines written puts a c) (BrokeLines written puts a c)
  audit_unread number s failed h put = record {
    taken = h.taken;
    past = h.past;
    took = h.took;
    ends = subst
        (λ x. AuditEnds bytes h.taken h.past F x (WroteLines written puts a c) (BrokeLines written puts a c)) (sym put.2)
        (unread_line h.taken h.past entry.ReadFault put.0 (h.ends.0, failed, refl) h.ends.1 put.1);
    stands = h.stands;
    right = right_whole h.taken h.past h.ends.0;
  }

-- there was no memory for the words
pub audit_no_memory : (left : Option (List ℕ)) (F : Type 0) (W : List (List ℕ) → Type 0) (B : List (List ℕ) → List (List ℕ) → Type 0)
    → W [] → OfBytes left (λ bytes. AuditRan bytes status.OutOfMemory None left F W B)
audit_no_memory left F W B wrote = (
  to_come left,
  told_by left left [] (Consumes-nil left),
  record {
    taken = [];
    past = [];
    took = refl;
    ends = (refl, wrote);
    stands = tt;
    right = right_audit [] [] (capture []).came refl;
  },
)

-- whatever monitor it was
pub unwatched : (bytes : List ℕ) (s : Status) (monitor : Monitor) (left : Option (List ℕ)) (F : Type 0)
    (W : List (List ℕ) → Type 0) (B : List (List ℕ) → List (List ℕ) → Type 0) → AuditRan bytes s (Some monitor) left F W B
    → AuditRan bytes s None left F W B
unwatched bytes s monitor left F W B h =
    record { taken = h.taken; past = h.past; took = h.took; ends = h.ends; right = h.right; stands = tt }

-- where nothing failed and no line is refused, it is done
pub audit_completes : (bytes : List ℕ) (s : Status) (left : Option (List ℕ)) (source_failed sink_failed : Type 0)
    (W : List (List ℕ) → Type 0) (B : List (List ℕ) → List (List ℕ) → Type 0) → AuditRan bytes s None left source_failed W B
    → (capture bytes).refused ≡ None → (s ≡ status.WriteFault → sink_failed) → (source_failed → ⊥) → (sink_failed → ⊥)
    → IsOrMemory status.Done s
audit_completes bytes s left source_failed sink_failed W B a none cause no_source no_sink = by_status s a.ends cause
  where
    clash : (line : Refusal) → capture bytes ≡ record { came = reverse a.past; refused = Some line } → ⊥
    clash line is = let e : Some line ≡ None = sym (ap (λ (c : Capture). c.refused) is) ∙ none in cc e

    by_status : (s : Status) → AuditEnds bytes a.taken a.past source_failed s W B → (s ≡ status.WriteFault → sink_failed)
        → IsOrMemory status.Done s
    by_status status.Done ends cause = inl refl
    by_status status.OutOfMemory ends cause = inr refl
    by_status status.WriteFault ends cause = absurd (no_sink (cause refl))
    by_status status.ScriptRefused ends cause = absurd (clash ends.1.0 ends.1.1)
    by_status status.ReadFault ends cause = absurd (no_source ends.1.1)
    by_status status.WordsRefused ends cause = absurd ends.1
    by_status status.DiskFault ends cause = absurd ends.1
    by_status status.NotBlank ends cause = absurd ends.1
    by_status status.DiskSize ends cause = absurd ends.1
    by_status status.JournalLost ends cause = absurd ends.1
    by_status status.NotUpgraded ends cause = absurd ends.1

-- the status of its last line
pub refused_of_audit : (answer : Result (Unit {0}) Failed) → IsOfAudit (status_by answer status.ScriptRefused)
refused_of_audit (Ok done) = tt
refused_of_audit (Err failed) = tt

pub unread_of_audit : (answer : Result (Unit {0}) Failed) → IsOfAudit (status_by answer status.ReadFault)
unread_of_audit (Ok done) = tt
unread_of_audit (Err failed) = tt

pub not_of_audit : (s other : Status) → (IsOfAudit other → ⊥) → IsOfAudit s → s ≢ other
not_of_audit s other never is same = never (subst IsOfAudit same is)
