-- The lines of a load: each is played, and those before one of them are a front of all.
use Rattle.std.proofs.Common.{◌≡◌, ◌⊎◌, ℕ, zero, suc, ◌<◌, ◌==◌, ◌%◌, ◌/◌, ◌+◌, ◌-◌, nat_lt, Bool, true, false, List}
use Rattle.std.proofs.Common.{[], ◌∷◌, ◌++◌, if◌then◌else◌, length, refl, sym, ap, ◌∙◌, subst, inl, inr, arith}
use Rattle.std.proofs.Common.{append_assoc, length-append}
use Rattle.std.specs.Prelude.{IsTrue}
use Rattle.std.proofs.Math.Nat.{eq-or-lt_of_le}
use Rattle.cct_model.specs.lines.command.Step.{Step}
use Rattle.cct_model.specs.Legal.{is_played}
use Rattle.cct_gen.specs.Load.{coin_of, coin_or_alien, coin_or_loss, crash_or_balance, drawn, line_at, lines_before}
use Rattle.cct_gen.specs.Load.{opening_line, round_line}
use Rattle.cct_gen.proofs.Lines.{one_line_more}

either : (test : Bool) (s t : Step) → IsTrue (is_played s) → IsTrue (is_played t)
    → IsTrue (is_played (if test then s else t))
either true s t one other = one
either false s t one other = other

round_is_played : (id number place : ℕ) → IsTrue (is_played (round_line id number place))
round_is_played id number place =
    either (place == 0) (coin_of number) _ refl (
    either (place == 1) (coin_or_alien number) _ (either (number % 8 == 0) _ (coin_of number) refl refl) (
    either (place == 2) (coin_or_loss number) _ (either (number % 4 == 0) _ (coin_of number) refl refl) (
    either (place == 3) _ _ refl (
    either (nat_lt place 10) _ _ refl (
    either (place == 10) _ _ refl (
    either (place == 15) _ _ refl (
    either (nat_lt place 19) _ (crash_or_balance number) refl (either (number % 64 == 0) _ _ refl refl))))))))

-- each line is one that is played
pub line_is_played : (seed n : ℕ) → IsTrue (is_played (line_at seed n))
unfolding line_at
line_is_played seed n =
    either (nat_lt n 6) (opening_line n) _ (either (n == 0) _ _ refl refl)
    (round_is_played ((n - 6) / 20 + 1) (drawn seed n) ((n - 6) % 20))

-- after the lines before one of them come that one and others
abbrev Behind : ℕ → ℕ → ℕ → Type 0
Behind seed n m = (behind : List Step) × (lines_before seed m ≡ lines_before seed n ++ line_at seed n ∷ behind)

behind_by : (seed n m : ℕ) → (n ≡ m) ⊎ (n < m) → (n < m → Behind seed n m) → Behind seed n (suc m)
behind_by seed n m (inl same) before = (
  [],
  subst (λ k. lines_before seed (suc m) ≡ lines_before seed k ++ line_at seed k ∷ []) (sym same)
      (one_line_more seed m),
)
behind_by seed n m (inr within) before =
    let front = before within in (
      front.0 ++ line_at seed m ∷ [],
      one_line_more seed m ∙ ap (λ steps. steps ++ line_at seed m ∷ []) front.1
          ∙ append_assoc (lines_before seed n) (line_at seed n ∷ front.0) (line_at seed m ∷ []),
    )

pub lines_behind : (seed n m : ℕ) → n < m → Behind seed n m
lines_behind seed n zero within = absurd (omega arith)
lines_behind seed n (suc m) within = behind_by seed n m (eq-or-lt_of_le (omega arith)) (lines_behind seed n m)

-- the lines before a line are as many as its number
pub lines_counted : (seed n : ℕ) → length (lines_before seed n) ≡ n
unfolding lines_before
lines_counted seed zero = refl
lines_counted seed (suc n) =
    omega (arith, length-append (lines_before seed n) (line_at seed n ∷ []), lines_counted seed n)
