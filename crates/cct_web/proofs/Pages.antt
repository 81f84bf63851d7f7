-- What an audit leaves on a page.
use Rattle.std.proofs.Common.{◌≡◌, ◌∙◌, ◌+◌, ◌<◌, ◌≤◌, arith, length, refl, inl, inr, ap, subst, sym, List, [], ◌∷◌, ◌++◌, ℕ, Option, None, Result, Ok, Err}
use Rattle.std.proofs.lemmas.List.{append_assoc, append-nil, length-append, length-take-le}
use Rattle.cct_edge.specs.declared.fault.Failed.{Failed}
use Rattle.cct_edge.specs.Faults.{Rose}
use Rattle.cct_text.specs.Writing.{Puts}
use Rattle.cct_monitor.specs.declared.monitor.Monitor.{Monitor}
use Rattle.cct_monitor.specs.Watches.{Came}
use Rattle.cct_model.specs.lines.entry.Entry.{Entry}
use Rattle.cct_audit.specs.Audit.{BreaksOff, at_end, at_tap}
use Rattle.cct_audit.specs.Writing.{BrokeLines, WroteLines, bytes_of}
use Rattle.cct_bench.specs.declared.outcome.Status.{Status}
use Rattle.cct_bench.specs.declared.outcome.Status.TheVariants as status
use Rattle.cct_bench.specs.Audit.{AuditCloses, AuditEnds, AuditRan}
use Rattle.cct_edge_slices.specs.declared.page.Page.{Page}
use Rattle.cct_edge_slices.specs.Slices.{PageStays, page_bytes, page_puts, page_room, page_written, written_count, written_on}
use Rattle.cct_edge_slices.proofs.Stays.{stays_refl, stays_trans}
use Rattle.cct_web.specs.Audits.{AreFront, AreLines}

-- a source that counts no fault didn't fail
pub never_rose : Rose 0 0 → ⊥
never_rose rose = omega (arith, rose)

-- what was written, as lines of a page that was empty
pub wrote : (before now : Page) → written_on before ≡ [] → (lines : List (List ℕ))
    → WroteLines page_written page_puts before now lines → AreLines (written_on now) lines
wrote before now empty lines w = w.told ∙ ap (λ x. x ++ bytes_of lines) empty

-- a page stays over puts
pub puts_stay : (before now : Page) (lines : List (List ℕ)) (answer : Result (Unit {0}) Failed)
    → Puts page_puts before lines answer now → PageStays before now
puts_stay before now [] answer p = subst (λ page. PageStays before page) (sym p.1) (stays_refl before)
puts_stay before now (piece ∷ pieces) answer (inl p) =
    stays_trans before p.0 now p.1.0 (puts_stay p.0 now pieces answer p.2)
puts_stay before now (piece ∷ pieces) answer (inr p) = p.2.0

pub wrote_stays : (before now : Page) (lines : List (List ℕ)) → WroteLines page_written page_puts before now lines
    → PageStays before now
wrote_stays before now lines w = puts_stay before now lines (Ok tt) w.put

-- where a put within these lines failed, a front of them was written, and there is no room for the rest
cut_short : (before now : Page) (cut : List (List ℕ)) (failed : Failed) → written_count before ≤ page_room before
    → Puts page_puts before cut (Err failed) now
    → (front : List ℕ) × (rest : List ℕ) × (written_on now ≡ written_on before ++ front) × (bytes_of cut ≡ front ++ rest)
    × (page_room before < length (written_on now) + length rest)
cut_short before now [] failed fits p = cc p.0
cut_short before now (piece ∷ pieces) failed fits (inl p) =
    let more = cut_short p.0 now pieces failed (p.1.0.3 fits) p.2 in (
      piece ++ more.0,
      more.1,
      more.2 ∙ ap (λ x. x ++ more.0) p.1.1 ∙ append_assoc (written_on before) piece more.0,
      ap (λ x. piece ++ x) more.3 ∙ sym (append_assoc piece more.0 more.1),
      subst (λ room. room < length (written_on now) + length more.1) p.1.0.1 more.4,
    )
cut_short before now (piece ∷ pieces) failed fits (inr p) =
    let held : length (written_on now) ≡ written_count before =
    ap length p.2.1 ∙ length-take-le (written_count before) (page_bytes before) fits in (
      [],
      piece ++ bytes_of pieces,
      p.2.1 ∙ sym (append-nil (written_on before)),
      refl,
      omega (arith, p.2.2, held, length-append piece (bytes_of pieces)),
    )

broke : (before now : Page) → written_on before ≡ [] → written_count before ≤ page_room before → (whole cut : List (List ℕ))
    → BrokeLines page_written page_puts before now whole cut → AreFront (page_room before) (written_on now) whole cut
broke before now empty fits whole cut b =
    let stays = wrote_stays before b.0 whole b.2 in
    let told = cut_short b.0 now cut b.1 (stays.3 fits) b.3.put in (
      told.0,
      told.1,
      told.2 ∙ ap (λ x. x ++ told.0) (wrote before b.0 empty whole b.2),
      told.3,
      subst (λ room. room < length (written_on now) + length told.1) stays.1 told.4,
    )

pub broke_stays : (before now : Page) (whole cut : List (List ℕ)) → BrokeLines page_written page_puts before now whole cut
    → PageStays before now
broke_stays before now whole cut b =
    stays_trans before b.0 now (wrote_stays before b.0 whole b.2) (puts_stay b.0 now cut (Err b.1) b.3.put)

-- what is so of all that may have been written, is so of what was
module _ (bytes : List ℕ) (F F1 : Type 0) (W W1 : List (List ℕ) → Type 0) (B B1 : List (List ℕ) → List (List ℕ) → Type 0)
    (f : F → F1) (w : (lines : List (List ℕ)) → W lines → W1 lines)
    (b : (whole cut : List (List ℕ)) → B whole cut → B1 whole cut) where
  breaks : (past : List Came) → BreaksOff bytes B past → BreaksOff bytes B1 past
  breaks past (at_tap c before rest came broken) = at_tap c before rest came (b _ _ broken)
  breaks past (at_end whole came broken) = at_end whole came (b _ _ broken)

  closes : (taken : List ℕ) (past : List Came) (s : Status) (line : Entry) → AuditCloses bytes taken past F s line
      → AuditCloses bytes taken past F1 s line
  closes taken past status.ScriptRefused line c = c
  closes taken past status.ReadFault line c = (c.0, f c.1, c.2)
  closes taken past status.Done line c = absurd c
  closes taken past status.OutOfMemory line c = absurd c
  closes taken past status.WriteFault line c = absurd c
  closes taken past status.WordsRefused line c = absurd c
  closes taken past status.DiskFault line c = absurd c
  closes taken past status.NotBlank line c = absurd c
  closes taken past status.DiskSize line c = absurd c
  closes taken past status.JournalLost line c = absurd c
  closes taken past status.NotUpgraded line c = absurd c

  ends : (taken : List ℕ) (past : List Came) (s : Status) → AuditEnds bytes taken past F s W B
      → AuditEnds bytes taken past F1 s W1 B1
  ends taken past status.Done e = (e.0, w _ e.1)
  ends taken past status.OutOfMemory e = (e.0, w _ e.1)
  ends taken past status.WriteFault (inl broken) = inl (breaks past broken)
  ends taken past status.WriteFault (inr e) = inr (e.0, e.1, closes taken past e.0 e.1 e.2, b _ _ e.3)
  ends taken past status.ScriptRefused e = (e.0, closes taken past status.ScriptRefused e.0 e.1, w _ e.2)
  ends taken past status.ReadFault e = (e.0, closes taken past status.ReadFault e.0 e.1, w _ e.2)
  ends taken past status.WordsRefused e = absurd e.1
  ends taken past status.DiskFault e = absurd e.1
  ends taken past status.NotBlank e = absurd e.1
  ends taken past status.DiskSize e = absurd e.1
  ends taken past status.JournalLost e = absurd e.1
  ends taken past status.NotUpgraded e = absurd e.1

  pub mapped : (s : Status) (monitor : Option Monitor) (left : Option (List ℕ)) → AuditRan bytes s monitor left F W B
      → AuditRan bytes s None left F1 W1 B1
  mapped s monitor left ran = record {
    taken = ran.taken;
    past = ran.past;
    took = ran.took;
    ends = ends ran.taken ran.past s ran.ends;
    right = ran.right;
    stands = tt;
  }

-- what is so of anything that may have been written
holds_broken : (bytes : List ℕ) (P : Type 0) (past : List Came) → BreaksOff bytes (λ whole cut. P) past → P
holds_broken bytes P past (at_tap c before rest came p) = p
holds_broken bytes P past (at_end whole came p) = p

pub holds : (bytes taken : List ℕ) (past : List Came) (F P : Type 0) (s : Status)
    → AuditEnds bytes taken past F s (λ lines. P) (λ whole cut. P) → P
holds bytes taken past F P status.Done e = e.1
holds bytes taken past F P status.OutOfMemory e = e.1
holds bytes taken past F P status.WriteFault (inl broken) = holds_broken bytes P past broken
holds bytes taken past F P status.WriteFault (inr e) = e.3
holds bytes taken past F P status.ScriptRefused e = e.2
holds bytes taken past F P status.ReadFault e = e.2
holds bytes taken past F P status.WordsRefused e = e.2
holds bytes taken past F P status.DiskFault e = e.2
holds bytes taken past F P status.NotBlank e = e.2
holds bytes taken past F P status.DiskSize e = e.2
holds bytes taken past F P status.JournalLost e = e.2
holds bytes taken past F P status.NotUpgraded e = e.2

-- the page stays over an audit
pub audit_stays : (bytes : List ℕ) (s : Status) (monitor : Option Monitor) (left : Option (List ℕ)) (F : Type 0)
    (before now : Page) → AuditRan bytes s monitor left F (WroteLines page_written page_puts before now)
    (BrokeLines page_written page_puts before now) → PageStays before now
audit_stays bytes s monitor left F before now ran =
    let stays : Type 0 = PageStays before now in
    let one = mapped bytes F F (WroteLines page_written page_puts before now) (λ lines. stays)
    (BrokeLines page_written page_puts before now) (λ whole cut. stays) (λ x. x) (wrote_stays before now)
    (broke_stays before now) s monitor left ran in
    holds bytes one.taken one.past F stays s one.ends

-- an audit onto an empty page
pub audited_page : (bytes : List ℕ) (s : Status) (monitor : Option Monitor) (left : Option (List ℕ)) (before now : Page)
    → written_on before ≡ [] → written_count before ≤ page_room before
    → AuditRan bytes s monitor left (Rose 0 0) (WroteLines page_written page_puts before now)
    (BrokeLines page_written page_puts before now)
    → AuditRan bytes s None left ⊥ (AreLines (written_on now)) (AreFront (page_room before) (written_on now))
audited_page bytes s monitor left before now empty fits =
    mapped bytes (Rose 0 0) ⊥ (WroteLines page_written page_puts before now) (AreLines (written_on now))
    (BrokeLines page_written page_puts before now) (AreFront (page_room before) (written_on now)) never_rose
    (wrote before now empty) (broke before now empty fits) s monitor left
