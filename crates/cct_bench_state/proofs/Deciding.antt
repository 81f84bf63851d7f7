-- What is reported of a state, against the image of its disk.
use Rattle.std.proofs.Common.{◌≡◌, ℕ, suc, ◌+◌, ◌≤◌, ◌<◌, Bool, true, false, ◌&&◌, List, [], ◌∷◌, ◌++◌, length, reverse, Option, Some, None, Result}
use Rattle.std.proofs.Common.{refl, sym, ◌∙◌, ap, ap₂, subst, append_assoc, arith, inl, inr}
use Rattle.std.proofs.Math.Nat.{lt_of_not-le}
use Rattle.std.proofs.lemmas.List.{append-nil, length-append, length-reverse, reverse-append, reverse-reverse}
use Rattle.cct_edge.specs.declared.fault.Failed.{Failed}
use Rattle.cct_journal.specs.Image.{HasFrom}
use Rattle.cct_journal.specs.declared.refusal.OpenNo.{OpenNo}
use Rattle.cct_journal.specs.declared.refusal.OpenNo.TheVariants as opening
use Rattle.cct_journal.proofs.Opens.{alien_has_none, bad_has_none, bad_is_none, one_bad, one_from, over_from}
use Rattle.cct_model.specs.Carry.{follows_carry}
use Rattle.cct_model.specs.lines.carry.Carry.{Carry}
use Rattle.cct_model.specs.lines.record.Record.{Record}
use Rattle.cct_model.specs.terms.device.Setup.{Setup}
use Rattle.cct_bench_state.specs.Books.{SuitsSetup, carry_after, follow_after}
use Rattle.cct_bench_state.specs.Known.{of_image}
use Rattle.cct_bench_state.specs.Telling.{Decides, IsBad, IsMisfit, Tells}
use Rattle.cct_bench_state.specs.declared.telling.StateEnd.{StateEnd}
use Rattle.cct_bench_state.specs.declared.telling.StateEnd.TheVariants.{Done, Unwritten, Unread}

and_right : (a b : Bool) → (a && b) ≡ true → b ≡ true
and_right true b is = is
and_right false b is = absurd cc

follow_part : (setup : Setup) (c : Carry) (later before : List Record) → follow_after setup c (later ++ before) ≡ true
    → follow_after setup c before ≡ true
follow_part setup c [] before is = is
follow_part setup c (r ∷ later) before is =
    follow_part setup c later before
    (and_right (follows_carry setup (carry_after setup c (later ++ before)) r) (follow_after setup c (later ++ before)) is)

-- the first of some records suit a setup that all of them suit
suits_part : (setup : Option Setup) (c : Carry) (later before : List Record) → SuitsSetup setup c (later ++ before)
    → SuitsSetup setup c before
suits_part None c later before suits = tt
suits_part (Some setup) c later before suits = (suits.0, follow_part setup c later before suits.1)

suits_none : (setup : Option Setup) (c : Carry) (before : List Record) → SuitsSetup setup c before → SuitsSetup setup c []
suits_none setup c before suits =
    suits_part setup c before [] (subst (SuitsSetup setup c) (sym (append-nil before)) suits)

-- records of which one doesn't suit a setup don't suit it
misfit_suits_not : (setup : Option Setup) (base : ℕ) (c : Carry) (records : List Record) (index : ℕ)
    → IsMisfit setup base c records index → SuitsSetup setup c (reverse records) → ⊥
misfit_suits_not setup base c records index (inl at) suits = at.0 (suits_none setup c (reverse records) suits)
misfit_suits_not setup base c records index (inr (before, r, later, split, at, ok, never)) suits =
    let parts : reverse records ≡ reverse later ++ r ∷ before =
    ap reverse split ∙ reverse-append (reverse before) (r ∷ later)
    ∙ ap₂ (λ a b. a ++ b) (reverse-append (r ∷ []) later) (reverse-reverse before)
    ∙ append_assoc (reverse later) (r ∷ []) before in
    never (suits_part setup c (reverse later) (r ∷ before) (subst (SuitsSetup setup c) parts suits))

heads : (x y : Record) (a b : List Record) → x ∷ a ≡ y ∷ b → x ≡ y
heads x y a b is = cc

tails : (x y : Record) (a b : List Record) → x ∷ a ≡ y ∷ b → a ≡ b
tails x y a b is = cc

-- of two fronts of a list the shorter one is a front of the longer one
front_of : (xs ys zs ws : List Record) → xs ++ zs ≡ ys ++ ws → length xs ≤ length ys
    → (rest : List Record) × (ys ≡ xs ++ rest)
front_of [] ys zs ws same few = (ys, refl)
front_of (x ∷ xs) [] zs ws same few = absurd (omega (arith, few))
front_of (x ∷ xs) (y ∷ ys) zs ws same few =
    let later = front_of xs ys zs ws (tails x y (xs ++ zs) (ys ++ ws) same) (omega (arith, few)) in
    (later.0, ap₂ (λ h t. h ∷ t) (sym (heads x y (xs ++ zs) (ys ++ ws) same)) later.1)

-- the first record that doesn't suit a setup isn't before another one
no_earlier : (setup : Option Setup) (c : Carry) (one other : List Record) (r s : Record) (later after : List Record)
    → reverse one ++ r ∷ later ≡ reverse other ++ s ∷ after → (SuitsSetup setup c (r ∷ one) → ⊥)
    → SuitsSetup setup c other → suc (length one) ≤ length other → ⊥
no_earlier setup c one other r s later after same never suits less =
    let front = front_of (reverse one ++ r ∷ []) (reverse other) later (s ∷ after)
    (append_assoc (reverse one) (r ∷ []) later ∙ same)
    (omega (arith, less, length-append (reverse one) (r ∷ []), length-reverse one, length-reverse other)) in
    let parts : other ≡ reverse front.0 ++ r ∷ one =
    sym (reverse-reverse other) ∙ ap reverse front.1 ∙ reverse-append (reverse one ++ r ∷ []) front.0
    ∙ ap (λ l. reverse front.0 ++ l) (reverse-append (reverse one) (r ∷ []) ∙ ap (λ l. r ∷ l) (reverse-reverse one)) in
    never (suits_part setup c (reverse front.0) (r ∷ one) (subst (SuitsSetup setup c) parts suits))

one_misfit : (setup : Option Setup) (base : ℕ) (c : Carry) (records : List Record) (index other : ℕ)
    → IsMisfit setup base c records index → IsMisfit setup base c records other → index ≡ other
one_misfit setup base c records index other (inl a) (inl b) = a.1 ∙ sym b.1
one_misfit setup base c records index other (inl a) (inr (before, r, later, split, at, ok, never)) =
    absurd (a.0 (suits_none setup c before ok))
one_misfit setup base c records index other (inr (before, r, later, split, at, ok, never)) (inl b) =
    absurd (b.0 (suits_none setup c before ok))
one_misfit setup base c records index other (inr (before, r, later, split, at, ok, never))
    (inr (before1, r1, later1, split1, at1, ok1, never1)) =
    let same = sym split ∙ split1 in
    omega (
      arith,
      at,
      at1,
      lt_of_not-le (no_earlier setup c before before1 r r1 later later1 same never ok1),
      lt_of_not-le (no_earlier setup c before1 before r1 r later1 later (sym same) never1 ok),
    )

module _ (setup : Option Setup) (image : List ℕ) where
  decides_done : (base : ℕ) (c : Carry) (records : List Record) → HasFrom image base c records
      → SuitsSetup setup c (reverse records) → Decides setup Done image
  decides_done base c records has suits = record {
    done = λ b d rs other fit. refl;
    misfit = λ b d rs index other misfit.
        absurd (misfit_suits_not setup b d rs index misfit
        (over_from (λ n k l. SuitsSetup setup k (reverse l)) (one_from image base b c d records rs has other) suits));
    alien = λ is. absurd (alien_has_none image base c records is has);
    bad = λ index is. absurd (bad_has_none image index base c records is has);
  }

  decides_bad : (index : ℕ) → IsBad (of_image image) setup index → Decides setup (Unread (opening.BadRecord index)) image
  decides_bad index (inl refused) = record {
    done = λ b d rs has fit. absurd (bad_has_none image index b d rs refused has);
    misfit = λ b d rs told has misfit. absurd (bad_has_none image index b d rs refused has);
    alien = λ is. absurd (bad_is_none image index refused is);
    bad = λ told is. ap (λ i. Unread (opening.BadRecord i)) (one_bad image index told refused is);
  }
  decides_bad index (inr (base, c, records, has, misfit)) = record {
    done = λ b d rs other fit.
        absurd (misfit_suits_not setup b d rs index
        (over_from (λ n k l. IsMisfit setup n k l index) (one_from image base b c d records rs has other) misfit) fit);
    misfit = λ b d rs told other fails.
        ap (λ i. Unread (opening.BadRecord i)) (one_misfit setup b d rs index told
        (over_from (λ n k l. IsMisfit setup n k l index) (one_from image base b c d records rs has other) misfit) fails);
    alien = λ is. absurd (alien_has_none image base c records is has);
    bad = λ told is. absurd (bad_has_none image told base c records is has);
  }

  -- a report that broke off nowhere ended as the image decides
  pub decides : (how : StateEnd) (writes : List (List ℕ) → Result (Unit {0}) Failed → Type 0)
      → Tells (of_image image) setup how writes → (how ≡ Unwritten → ⊥) → (how ≡ Unread opening.Disk → ⊥)
      → Decides setup how image
  decides Done writes (base, c, records, has, suits, wrote) written read = decides_done base c records has suits
  decides Unwritten writes told written read = absurd (written refl)
  decides (Unread opening.Disk) writes told written read = absurd (read refl)
  decides (Unread opening.Alien) writes told written read = record {
    done = λ b d rs has fit. absurd (alien_has_none image b d rs told.0 has);
    misfit = λ b d rs index has misfit. absurd (alien_has_none image b d rs told.0 has);
    alien = λ is. refl;
    bad = λ index is. absurd (bad_is_none image index is told.0);
  }
  decides (Unread (opening.BadRecord index)) writes told written read = decides_bad index told.0
