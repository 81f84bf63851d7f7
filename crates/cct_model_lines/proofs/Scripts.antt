-- The definitions of scripts at worked values (docs/SCRIPT.md).
use Rattle.std.proofs.Common.{◌≡◌, [], ◌∷◌, ◌++◌, map, Some, None, codes, refl, replicate}
use Rattle.std.specs.Prelude.{Ok, Err}
use Rattle.cct_model_lines.specs.terms.wire.CheckKind.TheVariants.{Simple, Crc}
use Rattle.cct_model_lines.specs.terms.device.DeviceBody.TheVariants.{Hopper}
use Rattle.cct_model_lines.specs.declared.setup.SetupLine.TheVariants as says
use Rattle.cct_model_lines.specs.declared.command.Step.TheVariants as step
use Rattle.cct_model_lines.specs.declared.command.Command.TheVariants as command
use Rattle.cct_model_lines.specs.declared.command.WireFault.TheVariants as fault
use Rattle.cct_model_lines.specs.declared.entry.LineKind.TheVariants as kind
use Rattle.hex.specs.Hex.{decode_pairs}
use Rattle.cct_model_lines.specs.Grammar.{setup_line, step_line, ranged, word_in, id_in, piece_in, mask_in, plain_device, plain_acceptor, plain_bills, added}
use Rattle.cct_model_lines.specs.Script.{script, most_lines, read_form}

acceptor_said : setup_line (codes "acceptor 2 simple 1 0") ≡ Ok (says.Acceptor (plain_device 2 Simple 1 (plain_acceptor 0)))
unfolding setup_line ranged
acceptor_said = refl

address_one_refused : setup_line (codes "value 1 1 5 XX005A") ≡ Err kind.Form
unfolding setup_line ranged
address_one_refused = refl

value_said : setup_line (codes "value 2 1 100 XX100A") ≡ Ok (says.Value 2 1 100 (codes "XX100A"))
unfolding setup_line ranged id_in
value_said = refl

-- the greatest numbers and the longest texts
greatest_setup :
    map setup_line (
    codes "acceptor 2 simple 16777215 7"
    ∷ codes "hopper 255 crc 197121 16777215 1000000"
    ∷ codes "value 2 16 1000000 !~!~!~"
    ∷ codes "texts 255 A B C 123456789012345678901234"
    ∷ [])
    ≡ Ok (says.Acceptor (plain_device 2 Simple 16777215 (plain_acceptor 7)))
    ∷ Ok (says.Hopper (plain_device 255 Crc 197121 (Hopper 16777215 1000000)))
    ∷ Ok (says.Value 2 16 1000000 (codes "!~!~!~"))
    ∷ Ok (says.Named 255 (record {
      maker = codes "A";
      product = codes "B";
      software = codes "C";
      build = codes "123456789012345678901234";
    }))
    ∷ []
unfolding setup_line ranged word_in id_in
greatest_setup = refl

texts_of_the_host_refused : setup_line (codes "texts 1 A B C D") ≡ Err kind.Form
unfolding setup_line ranged
texts_of_the_host_refused = refl

bills_said : setup_line (codes "bills 4 simple 9 0") ≡ Ok (says.Bills (plain_device 4 Simple 9 (plain_bills 0)))
unfolding setup_line ranged
bills_said = refl

setup_begun : setup_line (codes "begin") ≡ Ok says.Begin
unfolding setup_line
setup_begun = refl

step_in_setup_refused : setup_line (codes "coin 2 1") ≡ Err kind.Word
unfolding setup_line
step_in_setup_refused = refl

coin_said : step_line (codes "coin 2 16") ≡ Ok (step.Coin 2 16)
unfolding step_line ranged
coin_said = refl

bill_said : step_line (codes "bill 4 16") ≡ Ok (step.Bill 4 16)
unfolding step_line ranged
bill_said = refl

ways_said : map step_line (codes "route 4 0" ∷ codes "route 4 1" ∷ []) ≡
    Ok (step.Command (command.Route 4 0)) ∷ Ok (step.Command (command.Route 4 1)) ∷ []
unfolding step_line ranged
ways_said = refl

leading_zero_refused : step_line (codes "coin 02 5") ≡ Err kind.Form
unfolding step_line ranged
leading_zero_refused = refl

two_spaces_refused : step_line (codes "coin  2 5") ≡ Err kind.Form
unfolding step_line ranged
two_spaces_refused = refl

capitals_refused : step_line (codes "COIN 2 5") ≡ Err kind.Word
unfolding step_line
capitals_refused = refl

empty_line_refused : step_line [] ≡ Err kind.Word
unfolding step_line
empty_line_refused = refl

fault_said : step_line (codes "fault host 02fF") ≡ Ok (step.Fault (fault.HostHears (2 ∷ 255 ∷ [])))
unfolding step_line piece_in decode_pairs
fault_said = refl

empty_piece_said : step_line (codes "fault whole -") ≡ Ok (step.Fault (fault.WholeHeard []))
unfolding step_line piece_in decode_pairs
empty_piece_said = refl

start_said : step_line (codes "start 2 00Ff") ≡ Ok (step.Command (command.Start 2 255))
unfolding step_line ranged mask_in decode_pairs
start_said = refl

mask_of_none_refused : step_line (codes "start 2 0000") ≡ Err kind.Form
unfolding step_line ranged mask_in decode_pairs
mask_of_none_refused = refl

greatest_steps :
    map step_line (
    codes "coin 255 16"
    ∷ codes "scan"
    ∷ codes "vend 4294967295 1000000000"
    ∷ codes "crash 2 4 0"
    ∷ codes "stock 255 4294967295"
    ∷ codes "change 4000000000 10000"
    ∷ codes "serve"
    ∷ [])
    ≡ Ok (step.Coin 255 16)
    ∷ Ok (step.Command command.Scan)
    ∷ Ok (step.Command (command.Vend 4294967295 1000000000))
    ∷ Ok (step.Crash (Some (record { addr = 2; calls = 4 })) 0)
    ∷ Ok (step.Stock 255 4294967295)
    ∷ Ok (step.Change 4000000000 10000)
    ∷ Ok step.Serve
    ∷ []
unfolding step_line ranged
greatest_steps = refl

other_forms_refused :
    map step_line (
    codes "coin 2 0"
    ∷ codes "coin 2 17"
    ∷ codes "next 256"
    ∷ codes "fault host 0"
    ∷ codes "start 2 10"
    ∷ codes "route 4 2"
    ∷ codes "bill 4 17"
    ∷ codes "stock 3 4294967296"
    ∷ codes "change 4000000001 10000"
    ∷ codes "change 1 10001"
    ∷ codes "change 0 1"
    ∷ codes "change 1 0"
    ∷ codes "serve 3"
    ∷ [])
    ≡ replicate 13 (Err kind.Form)
unfolding step_line ranged mask_in piece_in decode_pairs
other_forms_refused = refl

nothing_refused : (script (codes "begin" ++ 10 ∷ codes "end" ++ 10 ∷ [])).refused ≡ None
unfolding script read_form setup_line step_line most_lines
nothing_refused = refl

cut_at_once : (script []).refused ≡ Some (record { number = 1; why = kind.Cut })
unfolding script most_lines
cut_at_once = refl

trailing_refused : (script (codes "begin" ++ 10 ∷ codes "end" ++ 10 ∷ 10 ∷ [])).refused ≡ Some (record { number = 3; why = kind.Trailing })
unfolding script read_form setup_line step_line most_lines
trailing_refused = refl

no_acceptor_refused : (script (codes "begin" ++ 10 ∷ codes "coin 2 5" ++ 10 ∷ [])).refused ≡ Some (record { number = 2; why = kind.Device })
unfolding script read_form setup_line step_line ranged most_lines
no_acceptor_refused = refl

coin_at_bills_refused : (script (codes "bills 4 simple 9 0" ++ 10 ∷ codes "begin" ++ 10 ∷ codes "coin 4 5" ++ 10 ∷ [])).refused ≡ Some (record { number = 3; why = kind.Device })
unfolding script read_form setup_line step_line ranged most_lines added
coin_at_bills_refused = refl

bill_at_a_hopper_refused : (script (codes "hopper 4 simple 9 0 1" ++ 10 ∷ codes "begin" ++ 10 ∷ codes "bill 4 5" ++ 10 ∷ [])).refused ≡ Some (record { number = 3; why = kind.Device })
unfolding script read_form setup_line step_line ranged most_lines added
bill_at_a_hopper_refused = refl

given_twice_refused : (script (codes "acceptor 2 simple 1 0" ++ 10 ∷ codes "value 2 1 5 XX005A" ++ 10 ∷ codes "value 2 1 5 XX005A" ++ 10 ∷ [])).refused ≡ Some (record { number = 3; why = kind.Again })
unfolding script read_form setup_line step_line ranged id_in added most_lines
given_twice_refused = refl
