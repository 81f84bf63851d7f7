-- Scripts of an upgrade, and what they say.
use Rattle.std.proofs.Common.{◌≡◌, [], ◌∷◌, ◌++◌, Some, None, refl, codes, length}
use Rattle.cct_model.specs.lines.entry.LineKind.TheVariants as kind
use Rattle.cct_model.specs.Grammar.{added, ranged, setup_line, step_line}
use Rattle.cct_model.specs.Script.{most_lines, read_form}
use Rattle.cct_bench.specs.UpgradeScript.{upgrade_script}

-- no device, and nothing refused
nothing_refused : (upgrade_script (codes "begin" ++ 10 ∷ codes "end" ++ 10 ∷ [])).refused ≡ None
unfolding upgrade_script read_form setup_line step_line most_lines
nothing_refused = refl

-- a setup is read as that of a run
one_device : length (upgrade_script (codes "acceptor 2 simple 1 0" ++ 10 ∷ codes "begin" ++ 10 ∷ codes "end" ++ 10 ∷ [])).setup.devices
    ≡ 1
unfolding upgrade_script read_form setup_line step_line ranged added most_lines
one_device = refl

given_twice_refused : (upgrade_script (codes "acceptor 2 simple 1 0" ++ 10 ∷ codes "acceptor 2 crc 4 0" ++ 10 ∷ [])).refused
    ≡ Some (record { number = 2; why = kind.Device })
unfolding upgrade_script read_form setup_line ranged added most_lines
given_twice_refused = refl

-- a step is no word of it, whether or not it is in a form of that word
step_refused : (upgrade_script (codes "begin" ++ 10 ∷ codes "scan" ++ 10 ∷ codes "end" ++ 10 ∷ [])).refused
    ≡ Some (record { number = 2; why = kind.Word })
unfolding upgrade_script read_form setup_line step_line most_lines
step_refused = refl

formless_step_refused : (upgrade_script (codes "begin" ++ 10 ∷ codes "coin 2" ++ 10 ∷ [])).refused
    ≡ Some (record { number = 2; why = kind.Word })
unfolding upgrade_script read_form setup_line step_line most_lines
formless_step_refused = refl

-- `end` stands alone
end_form_refused : (upgrade_script (codes "begin" ++ 10 ∷ codes "end now" ++ 10 ∷ [])).refused
    ≡ Some (record { number = 2; why = kind.Form })
unfolding upgrade_script read_form setup_line step_line most_lines
end_form_refused = refl

cut_refused : (upgrade_script (codes "begin" ++ 10 ∷ codes "end")).refused ≡ Some (record { number = 2; why = kind.Cut })
unfolding upgrade_script read_form setup_line step_line most_lines
cut_refused = refl

trailing_refused : (upgrade_script (codes "begin" ++ 10 ∷ codes "end" ++ 10 ∷ 10 ∷ [])).refused
    ≡ Some (record { number = 3; why = kind.Trailing })
unfolding upgrade_script read_form setup_line step_line most_lines
trailing_refused = refl
