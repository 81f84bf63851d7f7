-- No power cut of a load names a put.
use Rattle.std.proofs.Common.{◌≡◌, ◌⊎◌, ℕ, zero, suc, ◌+◌, ◌-◌, ◌*◌, ◌%◌, ◌/◌, ◌==◌, nat_lt, Bool, true, false}
use Rattle.std.proofs.Common.{if◌then◌else◌, List, [], ◌∷◌, ◌++◌, All}
use Rattle.std.proofs.lemmas.List.Elements.{All-append, All-cons, All-nil}
use Rattle.cct_model.specs.lines.command.Step.{Step}
use Rattle.cct_model.specs.lines.command.Step.TheVariants as step
use Rattle.cct_model.specs.lines.command.Command.TheVariants as command
use Rattle.cct_model.specs.lines.command.WireFault.TheVariants as fault
use Rattle.cct_model.specs.lines.entry.Entry.{Entry}
use Rattle.cct_model.specs.AtDesk.{LegalAtDesk}
use Rattle.cct_laws.specs.Law.{Begins, NamesNoPut}
use Rattle.cct_laws.proofs.steps.SameTranscript.{fronts_begin}
use Rattle.cct_gen.specs.Load.{load_setup, load_steps, drawn, coin_of, coin_or_alien, coin_or_loss, crash_or_balance}
use Rattle.cct_gen.specs.Load.{opening_line, round_line, line_at, lines_before}

either : (test : Bool) (s t : Step) → NamesNoPut s → NamesNoPut t → NamesNoPut (if test then s else t)
either true s t one other = one
either false s t one other = other

opening_names : (n : ℕ) → NamesNoPut (opening_line n)
opening_names n = either (n == 0) (step.Command (command.Start 2 65535)) (step.Next 2) tt tt

coin_or_alien_names : (number : ℕ) → NamesNoPut (coin_or_alien number)
coin_or_alien_names number = either (number % 8 == 0) (step.Alien 2) (coin_of number) tt tt

coin_or_loss_names : (number : ℕ) → NamesNoPut (coin_or_loss number)
coin_or_loss_names number = either (number % 4 == 0) (step.Fault (fault.HostHears [])) (coin_of number) tt tt

crash_or_balance_names : (number : ℕ) → NamesNoPut (crash_or_balance number)
crash_or_balance_names number = either (number % 64 == 0) (step.Crash _ (number % 5)) step.Balance tt tt

round_names : (id number place : ℕ) → NamesNoPut (round_line id number place)
round_names id number place =
    either (place == 0) (coin_of number) _ tt (
    either (place == 1) (coin_or_alien number) _ (coin_or_alien_names number) (
    either (place == 2) (coin_or_loss number) _ (coin_or_loss_names number) (
    either (place == 3) (step.Command (command.Round 2)) _ tt (
    either (nat_lt place 10) (step.Next 2) _ tt (
    either (place == 10) (step.Command (command.Pay 3 id 1)) _ tt (
    either (place == 15) (step.Fall 3) _ tt (
    either (nat_lt place 19) (step.Next 3) _ tt (crash_or_balance_names number))))))))

line_names : (seed n : ℕ) → NamesNoPut (line_at seed n)
unfolding line_at
line_names seed n =
    either (nat_lt n 6) (opening_line n) _ (opening_names n)
    (round_names ((n - 6) / 20 + 1) (drawn seed n) ((n - 6) % 20))

lines_name : (seed n : ℕ) → All NamesNoPut (lines_before seed n)
unfolding lines_before
lines_name seed zero = All-nil NamesNoPut
lines_name seed (suc n) =
    All-append NamesNoPut (lines_before seed n) (line_at seed n ∷ []) (lines_name seed n)
    (All-cons NamesNoPut (line_at seed n) [] (line_names seed n) (All-nil NamesNoPut))

-- so a load has one transcript
pub load_begins : (capacity seed rounds : ℕ) (played unplayed others more : List Step) (first second : List Entry) →
    load_steps seed rounds ≡ played ++ unplayed → load_steps seed rounds ≡ others ++ more →
    LegalAtDesk capacity load_setup played first → LegalAtDesk capacity load_setup others second →
    Begins first second ⊎ Begins second first
load_begins capacity seed rounds played unplayed others more first second is other_is legal other_legal =
    fronts_begin capacity load_setup (load_steps seed rounds) played unplayed others more first second
    (lines_name seed (6 + 20 * rounds)) is other_is legal other_legal
