-- One step more after what was played before the first power cut.
use Rattle.std.proofs.Common.{◌≡◌, ◌⊎◌, ◌+◌, ℕ, List, [], ◌∷◌, ◌++◌, reverse, refl, sym, ap, ◌∙◌, inl, inr, subst, arith}
use Rattle.std.proofs.Common.{append_assoc}
use Rattle.std.proofs.lemmas.List.{append-nil}
use Rattle.cct_model.specs.terms.device.Setup.{Setup}
use Rattle.cct_model.specs.lines.command.Step.{Step}
use Rattle.cct_model.specs.lines.command.Step.TheVariants as step
use Rattle.cct_model.specs.lines.entry.Entry.{Entry}
use Rattle.cct_model.specs.AtDesk.{EntriesAtDesk, LeavesDesk}
use Rattle.cct_model.specs.Change.{Desk, clear_desk, desk_after}
use Rattle.cct_model.specs.Transcript.{onto}
use Rattle.cct_laws.proofs.steps.AtTheDesk.{leaves_more}
use Rattle.cct_laws.proofs.steps.OneMore.{transcript_on}
use Rattle.cct_world.specs.Early.{LegalBeforeLoss}
use Rattle.cct_world.specs.Step.{crashes, crashes_of}
use Rattle.cct_world.specs.Relying.{First, IsCrash, losses_in}
use Rattle.cct_world.proofs.Relying.{crashes-append}

-- a step is a power cut, or none
crash_or : (s : Step) → IsCrash s ⊎ (crashes_of s ≡ 0)
crash_or (step.Crash at choice) = inl tt
crash_or s = inr refl

-- what is so of the first step is so where more steps follow
first_more : (P : Step → Type 0) (steps : List Step) (s : Step) → First P steps → First P (steps ++ s ∷ [])
first_more P [] s is = absurd is
first_more P (x ∷ steps) s is = is

losses-append : (steps : List Step) (s : Step) → losses_in (steps ++ s ∷ []) ≡ losses_in steps + crashes_of s
losses-append [] s = omega arith
losses-append (x ∷ steps) s = omega (arith, losses-append steps s)

-- a power cut is counted, so where one comes first among the later steps, some are lost
crash_counts : (s : Step) → IsCrash s → crashes_of s ≡ 1
crash_counts (step.Crash at choice) crash = refl
crash_counts s crash = absurd crash

loses_some : (first later : List Step) → First IsCrash later → losses_in (first ++ later) ≡ 0 → ⊥
loses_some [] [] crash none = absurd crash
loses_some [] (s ∷ later) crash none = absurd (omega (arith, none, crash_counts s crash))
loses_some (s ∷ first) later crash none = loses_some first later crash (omega (arith, none))

-- nothing was played
pub early_none : (capacity : ℕ) (setup : Setup) → LegalBeforeLoss capacity setup [] [] (clear_desk setup)
early_none capacity setup = record {
  first = [];
  later = [];
  told = [];
  rest = [];
  steps_are = refl;
  transcript_is = refl;
  none = refl;
  ends = inl (refl, refl);
  so = (refl, clear_desk setup, (refl, refl), λ none. refl);
}

module _ (capacity : ℕ) (setup : Setup) (steps : List Step) (transcript report : List Entry) (now : Desk) (s : Step) where
  -- no power cut came yet, and none comes
  early_on : losses_in steps ≡ 0 → crashes (onto [] transcript) ≡ 0 → LeavesDesk capacity setup steps transcript now
      → crashes_of s ≡ 0 → crashes (reverse report) ≡ crashes_of s
      → EntriesAtDesk capacity setup (onto [] transcript) now s (reverse report)
      → LegalBeforeLoss capacity setup (steps ++ s ∷ []) (transcript ++ report) (desk_after s (reverse report) now)
  early_on none quiet legal calm told entries = record {
    first = steps ++ s ∷ [];
    later = [];
    told = transcript ++ report;
    rest = [];
    steps_are = sym (append-nil (steps ++ s ∷ []));
    transcript_is = sym (append-nil (transcript ++ report));
    none = omega (arith, losses-append steps s, none, calm);
    ends = inl (refl, refl);
    so = (
      ap crashes (transcript_on transcript report)
          ∙ omega (arith, crashes-append (reverse report) (onto [] transcript), quiet, told, calm),
      desk_after s (reverse report) now,
      leaves_more capacity setup steps transcript report now s legal entries,
      λ calm. refl,
    );
  }

  -- the first power cut comes
  early_ends : losses_in steps ≡ 0 → crashes (onto [] transcript) ≡ 0 → LeavesDesk capacity setup steps transcript now
      → IsCrash s → LegalBeforeLoss capacity setup (steps ++ s ∷ []) (transcript ++ report) (desk_after s (reverse report) now)
  early_ends none quiet legal crash = record {
    first = steps;
    later = s ∷ [];
    told = transcript;
    rest = report;
    steps_are = refl;
    transcript_is = refl;
    none = none;
    ends = inr crash;
    so = (quiet, now, legal, λ calm. absurd (omega (arith, losses-append steps s, calm, crash_counts s crash)));
  }

  -- no power cut came yet
  early_next : losses_in steps ≡ 0 → crashes (onto [] transcript) ≡ 0 → LeavesDesk capacity setup steps transcript now
      → crashes (reverse report) ≡ crashes_of s
      → (crashes_of s ≡ 0 → EntriesAtDesk capacity setup (onto [] transcript) now s (reverse report))
      → IsCrash s ⊎ (crashes_of s ≡ 0) → LegalBeforeLoss capacity setup (steps ++ s ∷ []) (transcript ++ report) (desk_after s (reverse report) now)
  early_next none quiet legal told entries (inl crash) = early_ends none quiet legal crash
  early_next none quiet legal told entries (inr calm) = early_on none quiet legal calm told (entries calm)

  -- one step more, whose entries are its own where no power cut came before it
  early_by : (e : LegalBeforeLoss capacity setup steps transcript now)
      → ((e.later ≡ []) × (e.rest ≡ [])) ⊎ First IsCrash e.later → crashes (reverse report) ≡ crashes_of s
      → (crashes (onto [] transcript) ≡ 0 → crashes_of s ≡ 0
      → EntriesAtDesk capacity setup (onto [] transcript) now s (reverse report))
      → LegalBeforeLoss capacity setup (steps ++ s ∷ []) (transcript ++ report) (desk_after s (reverse report) now)
  early_by e (inl all) told entries =
      let steps_are : steps ≡ e.first =
      e.steps_are ∙ ap (λ later. e.first ++ later) all.0 ∙ append-nil e.first in
      let transcript_is : transcript ≡ e.told =
      e.transcript_is ∙ ap (λ rest. e.told ++ rest) all.1 ∙ append-nil e.told in
      let quiet = ap (λ told. crashes (onto [] told)) transcript_is ∙ e.so.0 in
      let calm : losses_in steps ≡ 0 = ap losses_in steps_are ∙ e.none in
      early_next calm quiet
      (subst (LeavesDesk capacity setup steps transcript) (e.so.3 calm)
      (subst (λ xs. LeavesDesk capacity setup xs transcript e.so.1) (sym steps_are)
      (subst (λ told. LeavesDesk capacity setup e.first told e.so.1) (sym transcript_is) e.so.2))) told (entries quiet)
      (crash_or s)
  early_by e (inr crash) told entries = record {
    first = e.first;
    later = e.later ++ s ∷ [];
    told = e.told;
    rest = e.rest ++ report;
    steps_are = ap (λ xs. xs ++ s ∷ []) e.steps_are ∙ append_assoc e.first e.later (s ∷ []);
    transcript_is = ap (λ xs. xs ++ report) e.transcript_is ∙ append_assoc e.told e.rest report;
    none = e.none;
    ends = inr (first_more IsCrash e.later s crash);
    so = (
      e.so.0,
      e.so.1,
      e.so.2,
      λ calm. absurd (loses_some e.first e.later crash
          (ap losses_in (sym e.steps_are) ∙ omega (arith, losses-append steps s, calm))),
    );
  }

-- One step more after what was played: its entries are its own where the past with them may be relied on, as it may
-- where it shows no power cut.
pub early_more : (Relies : List Entry → Type 0) (capacity : ℕ) (setup : Setup) (steps : List Step)
    (transcript report : List Entry) (now : Desk) (s : Step) → ((past : List Entry) → crashes past ≡ 0 → Relies past)
    → crashes (reverse report) ≡ crashes_of s
    → (Relies (reverse report ++ onto [] transcript) → EntriesAtDesk capacity setup (onto [] transcript) now s (reverse report))
    → LegalBeforeLoss capacity setup steps transcript now
    → LegalBeforeLoss capacity setup (steps ++ s ∷ []) (transcript ++ report) (desk_after s (reverse report) now)
early_more Relies capacity setup steps transcript report now s free told entries e =
    early_by capacity setup steps transcript report now s e e.ends told
    (λ quiet calm. entries (free (reverse report ++ onto [] transcript)
    (crashes-append (reverse report) (onto [] transcript) ∙ omega (arith, quiet, told, calm))))
