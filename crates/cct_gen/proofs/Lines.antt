-- Each line of a load can be spelt, and names devices of its setup.
use Rattle.std.proofs.Common.{◌≡◌, ℕ, zero, suc, ◌+◌, ◌-◌, ◌%◌, ◌/◌, ◌==◌, ◌≤◌, nat_lt, Bool, true, false}
use Rattle.std.proofs.Common.{if◌then◌else◌, [], ◌∷◌, ◌++◌, All, refl, subst, sym, lit≤, arith}
use Rattle.std.specs.Prelude.{IsTrue}
use Rattle.std.proofs.lemmas.List.Elements.{All-append, All-cons, All-nil}
use Rattle.cct_model_lines.specs.declared.command.Command.TheVariants as command
use Rattle.cct_model_lines.specs.declared.command.WireFault.TheVariants as fault
use Rattle.cct_model_lines.specs.declared.command.Step.{Step}
use Rattle.cct_model_lines.specs.declared.command.Step.TheVariants as step
use Rattle.cct_model_lines.specs.Script.{IsInRange, is_known}
use Rattle.cct_gen.specs.Load.{load_setup, drawn, coin_of, coin_or_alien, coin_or_loss, crash_or_balance}
use Rattle.cct_gen.specs.Load.{opening_line, round_line, line_at, lines_before}
use Rattle.cct_gen.proofs.LoadSetup.{load_devices, setup_is}

-- a step that a line can spell, and whose devices the setup has
abbrev Fits : Step → Type 0
Fits s = IsInRange s × IsTrue (is_known load_devices s)

either : (test : Bool) (s t : Step) → Fits s → Fits t → Fits (if test then s else t)
either true s t one other = one
either false s t one other = other

coin_fits : (number : ℕ) → Fits (coin_of number)
coin_fits number = ((omega arith, omega arith), refl)

coin_or_alien_fits : (number : ℕ) → Fits (coin_or_alien number)
coin_or_alien_fits number = either (number % 8 == 0) (step.Alien 2) (coin_of number) (tt, refl) (coin_fits number)

coin_or_loss_fits : (number : ℕ) → Fits (coin_or_loss number)
coin_or_loss_fits number =
    either (number % 4 == 0) (step.Fault (fault.HostHears [])) (coin_of number) (lit≤ tt, refl) (coin_fits number)

crash_or_balance_fits : (number : ℕ) → Fits (crash_or_balance number)
crash_or_balance_fits number = either (number % 64 == 0) (step.Crash _ (number % 5)) step.Balance (tt, refl) (tt, refl)

opening_fits : (n : ℕ) → Fits (opening_line n)
opening_fits n = either (n == 0) (step.Command (command.Start 2 65535)) (step.Next 2) (lit≤ tt, refl) (tt, refl)

round_fits : (id number place : ℕ) → 1 ≤ id → Fits (round_line id number place)
round_fits id number place low =
    either (place == 0) _ _ (coin_fits number) (
    either (place == 1) _ _ (coin_or_alien_fits number) (
    either (place == 2) _ _ (coin_or_loss_fits number) (
    either (place == 3) (step.Command (command.Round 2)) _ (tt, refl) (
    either (nat_lt place 10) (step.Next 2) _ (tt, refl) (
    either (place == 10) (step.Command (command.Pay 3 id 1)) _ ((low, lit≤ tt, lit≤ tt), refl) (
    either (place == 15) (step.Fall 3) _ (tt, refl) (
    either (nat_lt place 19) (step.Next 3) _ (tt, refl) (crash_or_balance_fits number))))))))

line_fits : (seed n : ℕ) → Fits (line_at seed n)
unfolding line_at
line_fits seed n =
    either (nat_lt n 6) _ _ (opening_fits n) (round_fits ((n - 6) / 20 + 1) (drawn seed n) ((n - 6) % 20) (omega arith))

-- each line can be spelt
pub line_in_range : (seed n : ℕ) → IsInRange (line_at seed n)
line_in_range seed n = (line_fits seed n).0

-- each line names devices of the setup alone
pub line_known : (seed n : ℕ) → IsTrue (is_known load_setup (line_at seed n))
line_known seed n = subst (λ setup. IsTrue (is_known setup (line_at seed n))) (sym setup_is) (line_fits seed n).1

-- the lines before a line and that line are the lines before the next
pub one_line_more : (seed n : ℕ) → lines_before seed (suc n) ≡ lines_before seed n ++ line_at seed n ∷ []
unfolding lines_before
one_line_more seed n = refl

-- all lines of a load can be spelt
pub lines_in_range : (seed n : ℕ) → All IsInRange (lines_before seed n)
unfolding lines_before
lines_in_range seed zero = All-nil IsInRange
lines_in_range seed (suc n) =
    All-append IsInRange (lines_before seed n) (line_at seed n ∷ []) (lines_in_range seed n)
    (All-cons IsInRange (line_at seed n) [] (line_in_range seed n) (All-nil IsInRange))

-- all lines of a load name devices of the setup alone
pub lines_known : (seed n : ℕ) → All (λ s. IsTrue (is_known load_setup s)) (lines_before seed n)
unfolding lines_before
lines_known seed zero = All-nil _
lines_known seed (suc n) =
    All-append (λ s. IsTrue (is_known load_setup s)) (lines_before seed n) (line_at seed n ∷ []) (lines_known seed n)
    (All-cons (λ s. IsTrue (is_known load_setup s)) (line_at seed n) [] (line_known seed n) (All-nil _))
