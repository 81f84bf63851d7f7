-- What may be relied on before a step and after it, and how often the power of a disk was cut.
use Rattle.std.proofs.Common.{◌≡◌, ◌+◌, ◌++◌, ℕ, suc, Bool, List, [], ◌∷◌, Option, refl, sym, ap, ◌∙◌, inl, inr, arith, le_of_eq}
use Rattle.std.proofs.Common.{zero-add}
use Rattle.std.proofs.Math.Nat.{add_assoc}
use Rattle.cct_model.specs.lines.command.Step.{Step}
use Rattle.cct_model.specs.lines.command.Step.TheVariants as step
use Rattle.cct_model.specs.lines.entry.Entry.{Entry}
use Rattle.cct_edge.specs.Faults.{next_count}
use Rattle.cct_world.specs.Machine.{Survives}
use Rattle.cct_world.specs.Step.{CutsIn, RoseBy, count_after, crashes, crashes_of, crashes_told}
use Rattle.cct_world.specs.Relying.{IsCrash, IsReliable}

-- power cuts that entries report after others
pub crashes-append : (xs ys : List Entry) → crashes (xs ++ ys) ≡ crashes xs + crashes ys
crashes-append [] ys = sym (zero-add (crashes ys))
crashes-append (x ∷ xs) ys =
    ap (λ n. crashes_told x + n) (crashes-append xs ys) ∙ sym (add_assoc (crashes_told x) (crashes xs) (crashes ys))

-- a step that is no power cut
pub crashes_none : (s : Step) → (IsCrash s → ⊥) → crashes_of s ≡ 0
crashes_none (step.Crash at choice) none = absurd (none tt)
crashes_none s none = refl

-- what may be relied on after some entries may be before them
pub reliable_back : (trusted : Type 0) (news past : List Entry) → IsReliable trusted (news ++ past) → IsReliable trusted past
reliable_back trusted news past (inl is) = inl is
reliable_back trusted news past (inr none) = inr (omega (arith, none, crashes-append news past))

-- what a step takes for granted of the disk is so where the past with its entries may be relied on
pub reliable_survives : (given trusted : Type 0) → (given → trusted) → (news past : List Entry) (s : Step)
    → crashes news ≡ crashes_of s → IsReliable given (news ++ past) → Survives trusted s
reliable_survives given trusted on news past (step.Crash at choice) told (inl is) = on is
reliable_survives given trusted on news past (step.Crash at choice) told (inr none) =
    absurd (omega (arith, none, told, crashes-append news past))
reliable_survives given trusted on news past s told sure = tt

-- a count that went up by exactly so many
pub rose_just : (many before now : ℕ) → now ≡ count_after many before → RoseBy many before now
rose_just many before now is = le_of_eq (sym is)

-- how often the power of a disk was cut, one step more
pub cut_on : {D : Type 0} (size : D → ℕ) (honest : D → Bool) (seen : D → Option (List ℕ)) (cuts : D → ℕ)
    (cut_to : D → ℕ → D → Type 0) (old new : D) (s : Step) (news past : List Entry) (first : ℕ)
    → cuts old ≡ count_after (crashes past) first → crashes news ≡ crashes_of s
    → CutsIn s size honest seen cuts cut_to old new → cuts new ≡ count_after (crashes (news ++ past)) first
cut_on size honest seen cuts cut_to old new (step.Crash at choice) news past first before told cut =
    let more : suc (crashes past) ≡ crashes (news ++ past) = omega (arith, crashes-append news past, told) in
    cut.count ∙ ap next_count before ∙ ap (λ n. count_after n first) more
cut_on size honest seen cuts cut_to old new s news past first before told same =
    let none : crashes past ≡ crashes (news ++ past) = omega (arith, crashes-append news past, told) in
    same ∙ before ∙ ap (λ n. count_after n first) none
