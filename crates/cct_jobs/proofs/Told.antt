-- The rows of an identification: each asks, and none puts anything or waits.
use Rattle.std.proofs.Common.{◌≡◌, ℕ, zero, suc, List, [], ◌∷◌, refl, sym, ap, ◌∙◌}
use Rattle.cct_model.specs.terms.request.Request.{Request}
use Rattle.cct_model.specs.Rows.{Then, TableRow, after, asks_for, telling}
use Rattle.cct_jobs.specs.declared.stage.Stage.TheVariants.{IdentAsks}
use Rattle.cct_jobs.specs.declared.target.Target.{Target}
use Rattle.cct_jobs.specs.Ahead.{place_of, questions_of, stage_ahead}
use Rattle.cct_model.proofs.Rows.{after_none, told_fact}

-- what holds of no row, and of rows that ask first, holds of those that are left of it
pub told_is : (P : List TableRow → Type 0) → P []
    → ((q : Request) (behind : Then) (rows : List TableRow) → P (asks_for q behind ∷ rows)) → (qs : List Request) (n : ℕ)
    → P (after (telling qs) n)
told_is P none asks qs = told_fact (λ rows. (n : ℕ) → P (after rows n)) (λ n. none) more qs
  where
    more : (q : Request) (behind : Then) (rows : List TableRow) → ((n : ℕ) → P (after rows n)) → (n : ℕ)
        → P (after (asks_for q behind ∷ rows) n)
    more q behind rows each zero = asks q behind rows
    more q behind rows each (suc n) = each n

-- so what is read off them is what is read off none, where it doesn't look at a row that asks
pub ident_none : {A : Type 0} (f : List TableRow → A)
    → ((q : Request) (behind : Then) (rows : List TableRow) → f (asks_for q behind ∷ rows) ≡ f rows) → (device : Target)
    (question : Request) → f (stage_ahead device (IdentAsks question)) ≡ f []
ident_none {A} f asks device question =
    told_fact (λ rows. (n : ℕ) → f (after rows n) ≡ f []) (λ n. refl) more (questions_of device)
    (place_of question (questions_of device))
  where
    more : (q : Request) (behind : Then) (rows : List TableRow) → ((n : ℕ) → f (after rows n) ≡ f []) → (n : ℕ)
        → f (after (asks_for q behind ∷ rows) n) ≡ f []
    more q behind rows each zero = asks q behind rows ∙ ap f (sym (after_none rows)) ∙ each 0
    more q behind rows each (suc n) = each n
