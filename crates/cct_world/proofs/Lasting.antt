-- How a disk outlasts the steps that are played over it.
use Rattle.std.proofs.Common.{◌≡◌, ◌≤◌, ℕ, Bool, List, Option, refl, sym, ◌∙◌, subst}
use Rattle.std.proofs.Math.Nat.{le_refl, le_trans}
use Rattle.cct_model.specs.lines.command.Step.{Step}
use Rattle.cct_model.specs.lines.command.Step.TheVariants as step
use Rattle.cct_disk.specs.Disk.{IsTrusted}
use Rattle.cct_disk.specs.Disk.{GoesOn, Outlasts}
use Rattle.cct_world.specs.Step.{LastsIn, crashes_of}

-- of a kind of disk, of which what each shows is known
module _ {D : Type 0} (size : D → ℕ) (honest : D → Bool) (seen : D → Option (List ℕ)) (cuts : D → ℕ) where
  pub lasts_here : (disk : D) → Outlasts size honest seen cuts disk disk
  lasts_here disk =
      record { same_size = refl; same_honest = refl; same_telling = refl; later_cuts = le_refl (cuts disk) }

  pub lasts_then : (a b c : D) → Outlasts size honest seen cuts a b → Outlasts size honest seen cuts b c
      → Outlasts size honest seen cuts a c
  lasts_then a b c first second = record {
    same_size = second.same_size ∙ first.same_size;
    same_honest = second.same_honest ∙ first.same_honest;
    same_telling = second.same_telling ∙ first.same_telling;
    later_cuts = le_trans first.later_cuts second.later_cuts;
  }

  pub lasts_on : (a b : D) → GoesOn size honest seen cuts a b → Outlasts size honest seen cuts a b
  lasts_on a b on = record {
    same_size = on.same_size;
    same_honest = on.same_honest;
    same_telling = on.same_telling;
    later_cuts = subst (λ n. cuts a ≤ n) (sym on.same_cuts) (le_refl (cuts a));
  }

  pub trusted_on : (a b : D) → Outlasts size honest seen cuts a b → IsTrusted honest seen a → IsTrusted honest seen b
  trusted_on a b on trusted = (on.same_honest ∙ trusted.0, on.same_telling ∙ trusted.1)

  pub trusted_back : (a b : D) → Outlasts size honest seen cuts a b → IsTrusted honest seen b → IsTrusted honest seen a
  trusted_back a b on trusted = (sym on.same_honest ∙ trusted.0, sym on.same_telling ∙ trusted.1)

  -- a step
  pub lasts_in : (s : Step) (a b : D) → LastsIn s size honest seen cuts a b → Outlasts size honest seen cuts a b
  lasts_in (step.Crash at choice) a b lasts = lasts
  lasts_in s a b lasts = lasts_on a b lasts

  -- no power is cut in a step that isn't a power cut
  pub uncut_in : (s : Step) (a b : D) → LastsIn s size honest seen cuts a b → crashes_of s ≡ 0 → cuts b ≡ cuts a
  uncut_in (step.Crash at choice) a b lasts none = cc none
  uncut_in s a b lasts none = lasts.same_cuts
