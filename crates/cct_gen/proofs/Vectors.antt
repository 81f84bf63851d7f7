-- Lines of a load at worked values.
use Rattle.std.proofs.Common.{◌≡◌, [], ◌∷◌, None, Some, map, refl}
use Rattle.cct_model_lines.specs.declared.command.Command.TheVariants as command
use Rattle.cct_model_lines.specs.declared.command.WireFault.TheVariants as fault
use Rattle.cct_model_lines.specs.declared.command.Step.TheVariants as step
use Rattle.cct_model_lines.specs.declared.entry.LineKind.TheVariants as kind
use Rattle.cct_model_lines.specs.Text.{number_text}
use Rattle.cct_model_lines.specs.Grammar.{added, id_in, ranged, setup_line}
use Rattle.cct_model_lines.specs.Script.{most_lines, read_form, script}
use Rattle.cct_gen.specs.Load.{setup_script, drawn, line_at, lines_before, load_steps}

-- each setup line is taken, and the script is cut after the last
setup_lines_taken : setup_script.refused ≡ Some (record { number = 19; why = kind.Cut })
unfolding script read_form setup_line ranged id_in added most_lines number_text
setup_lines_taken = refl

drawn_by_seed_0 : map (drawn 0) (6 ∷ 7 ∷ 8 ∷ 25 ∷ []) ≡ 7872740 ∷ 9184864 ∷ 10496987 ∷ 16025871 ∷ []
unfolding drawn
drawn_by_seed_0 = refl

-- the lines before the first round, and that round
one_round :
    load_steps 0 1
    ≡ step.Command (command.Start 2 65535)
    ∷ step.Next 2
    ∷ step.Next 2
    ∷ step.Next 2
    ∷ step.Next 2
    ∷ step.Next 2
    ∷ step.Coin 2 5
    ∷ step.Alien 2
    ∷ step.Coin 2 12
    ∷ step.Command (command.Round 2)
    ∷ step.Next 2
    ∷ step.Next 2
    ∷ step.Next 2
    ∷ step.Next 2
    ∷ step.Next 2
    ∷ step.Next 2
    ∷ step.Command (command.Pay 3 1 1)
    ∷ step.Next 3
    ∷ step.Next 3
    ∷ step.Next 3
    ∷ step.Next 3
    ∷ step.Fall 3
    ∷ step.Next 3
    ∷ step.Next 3
    ∷ step.Next 3
    ∷ step.Balance
    ∷ []
unfolding lines_before line_at drawn
one_round = refl

-- an object that is no coin, a coin where a reply could be lost, a lost reply, and a power cut; and the payment of the last
-- round
with_great_seeds :
    line_at 18446744073709551614 7
    ∷ line_at 18446744073709551615 8
    ∷ line_at 18446744073709551599 8
    ∷ line_at 18446744073709551601 25
    ∷ line_at 18446744073709551615 199996
    ∷ []
    ≡ step.Alien 2
    ∷ step.Coin 2 8
    ∷ step.Fault (fault.HostHears [])
    ∷ step.Crash None 3
    ∷ step.Command (command.Pay 3 10000 1)
    ∷ []
unfolding line_at drawn
with_great_seeds = refl
