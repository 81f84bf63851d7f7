-- A load: the setup that it is played on, and its lines, which a seed gives.
use Rattle.std.specs.Prelude.{ℕ, zero, suc, ◌+◌, ◌-◌, ◌*◌, ◌/◌, ◌%◌, ◌^◌, ◌==◌, nat_lt, List, []}
use Rattle.std.specs.Prelude.{◌∷◌, ◌++◌, map}
use Rattle.std.specs.Prelude.{if◌then◌else◌, None, codes}
use Rattle.std.specs.List.{flat_map, range_with_len}
use Rattle.cct_model_lines.specs.terms.coin.TheConstants.{COIN_PLACES}
use Rattle.cct_model_lines.specs.terms.device.Setup.{Setup}
use Rattle.cct_model_lines.specs.declared.command.Command.TheVariants as command
use Rattle.cct_model_lines.specs.declared.command.WireFault.TheVariants as fault
use Rattle.cct_model_lines.specs.declared.command.Step.{Step}
use Rattle.cct_model_lines.specs.declared.command.Step.TheVariants as step
use Rattle.cct_model_lines.specs.Text.{number_text}
use Rattle.cct_model_lines.specs.Script.{Script, script}

-- The setup line that gives the coin of a place its value.
abbrev pub value_line : ℕ → List ℕ
value_line place = codes "value 2 " ++ number_text place ++ codes " 10 XX010A"

-- The setup lines of a load: an acceptor and what each of its coins is worth, and a hopper.
abbrev pub setup_lines : List (List ℕ)
setup_lines =
    codes "acceptor 2 simple 1 0"
    ∷ map value_line (range_with_len 1 COIN_PLACES)
    ++ codes "hopper 3 simple 2 0 10"
    ∷ []

-- The script of these lines alone, each with its line feed.
abbrev pub setup_script : Script
setup_script = script (flat_map (λ line. line ++ 10 ∷ []) setup_lines)

-- The setup that a load is played on: what its setup lines say.
unfoldable pub load_setup : Setup
load_setup = setup_script.setup

-- The number below 2 ^ 24 that a line is drawn by.
unfoldable pub drawn : ℕ → ℕ → ℕ
drawn seed n = ((seed * 6364136223846793005 + n * 1442695040888963407) % 2 ^ 64) / 2 ^ 40

-- A coin of the place that was drawn.
abbrev pub coin_of : ℕ → Step
coin_of number = step.Coin 2 (1 + number % COIN_PLACES)

-- An object that is no coin by one number in eight, else a coin.
abbrev pub coin_or_alien : ℕ → Step
coin_or_alien number = if number % 8 == 0 then step.Alien 2 else coin_of number

-- By one number in four the host hears nothing in the next exchange; else a coin falls.
abbrev pub coin_or_loss : ℕ → Step
coin_or_loss number = if number % 4 == 0 then step.Fault (fault.HostHears []) else coin_of number

-- A power cut by one number in 64, else the balance.
abbrev pub crash_or_balance : ℕ → Step
crash_or_balance number = if number % 64 == 0 then step.Crash None (number % 5) else step.Balance

-- A line before the first round: an epoch is started.
abbrev pub opening_line : ℕ → Step
opening_line n = if n == 0 then step.Command (command.Start 2 65535) else step.Next 2

-- The line at a place of a round, from 0 on: coins fall in and are read, and an order with this id
-- pays one coin.
abbrev pub round_line : ℕ → ℕ → ℕ → Step
round_line id number place =
    if place == 0 then coin_of number
    else if place == 1 then coin_or_alien number
    else if place == 2 then coin_or_loss number
    else if place == 3 then step.Command (command.Round 2)
    else if nat_lt place 10 then step.Next 2
    else if place == 10 then step.Command (command.Pay 3 id 1)
    else if place == 15 then step.Fall 3
    else if nat_lt place 19 then step.Next 3
    else crash_or_balance number

-- A line of a load, by its number from 0 on: six before the first round, and then 20 a round, whose
-- payment has the number of the round as id, from 1 on.
unfoldable pub line_at : ℕ → ℕ → Step
line_at seed n =
    if nat_lt n 6 then opening_line n
    else round_line ((n - 6) / 20 + 1) (drawn seed n) ((n - 6) % 20)

-- The lines of a load before one of them, in order.
unfoldable pub lines_before : ℕ → ℕ → List Step
lines_before seed zero = []
lines_before seed (suc n) = lines_before seed n ++ line_at seed n ∷ []

-- The lines of a load of so many rounds.
abbrev pub load_steps : ℕ → ℕ → List Step
load_steps seed rounds = lines_before seed (6 + 20 * rounds)
