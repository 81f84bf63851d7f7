-- An image has one current half at most, which begins in one way.
use Rattle.std.proofs.Common.{◌≡◌, ℕ, Bool, true, false, List, refl, sym, ◌∙◌, subst, arith}
use Rattle.cct_model_lines.specs.declared.carry.Carry.{Carry}
use Rattle.cct_journal.specs.Half.{IsCurrent, half}
use Rattle.cct_journal.specs.Start.{Begins}
use Rattle.cct_journal.specs.Image.{IsHeaded}
use Rattle.cct_journal.proofs.Heads.{one_start}

-- Two halves aren't both the current one.
pub one_current : (image : List ℕ) → IsCurrent true image → IsCurrent false image → ⊥
one_current image second first =
    omega (arith, second.wins first.is_open, first.wins second.is_open)

-- So the current one is one of the two.
pub same_half : (image : List ℕ) (a b : Bool) → IsCurrent a image → IsCurrent b image → a ≡ b
same_half image true true first second = refl
same_half image true false first second = absurd (one_current image first second)
same_half image false true first second = absurd (one_current image second first)
same_half image false false first second = refl

-- Two ways to say how the current half of an image begins are one.
pub record OneHead (second other : Bool) (generation later base after : ℕ) (carry next : Carry) : Type 0 where
  pub half_is : second ≡ other
  pub generation_is : generation ≡ later
  pub base_is : base ≡ after
  pub carry_is : carry ≡ next

-- What holds by the one way holds by the other.
pub over_head : {second other : Bool} {generation later base after : ℕ} {carry next : Carry}
    (P : Bool → ℕ → ℕ → Carry → Type 0) → OneHead second other generation later base after carry next
    → P second generation base carry → P other later after next
over_head {second} {other} {generation} {later} {base} {after} {carry} {next} P one holds =
    subst (λ c. P other later after c) one.carry_is
    (subst (λ b. P other later b carry) one.base_is
    (subst (λ g. P other g base carry) one.generation_is
    (subst (λ s. P s generation base carry) one.half_is holds)))

-- A half begins in one way.
pub one_beginning : (second : Bool) (generation later base after : ℕ) (carry next : Carry) (bytes : List ℕ)
    → Begins second generation base carry bytes → Begins second later after next bytes
    → OneHead second second generation later base after carry next
one_beginning second generation later base after carry next bytes first other =
    let same = one_start second second generation later base after carry next first.may other.may
    (sym first.starts ∙ other.starts) in
    record { half_is = refl; generation_is = same.0; base_is = same.1; carry_is = same.2 }

-- And so does an image.
pub one_head : (image : List ℕ) (second other : Bool) (generation later base after : ℕ) (carry next : Carry)
    → IsHeaded image second generation base carry → IsHeaded image other later after next
    → OneHead second other generation later base after carry next
one_head image second other generation later base after carry next head same =
    let half_is : second ≡ other = same_half image second other head.current same.current in
    let here : Begins other generation base carry (half image other) =
    subst (λ s. Begins s generation base carry (half image s)) half_is head.begins in
    let one = one_beginning other generation later base after carry next (half image other) here same.begins in
    record { half_is = half_is; generation_is = one.generation_is; base_is = one.base_is; carry_is = one.carry_is }
