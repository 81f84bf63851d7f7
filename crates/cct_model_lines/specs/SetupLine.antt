-- The lines that say the devices of a setup.
use Rattle.std.specs.Prelude.{◌≤◌, ⊤}
use Rattle.cct_model_lines.specs.terms.coin.TheConstants.{COIN_PLACES}
use Rattle.cct_model_lines.specs.declared.setup.SetupLine.{SetupLine}
use Rattle.cct_model_lines.specs.declared.setup.SetupLine.TheVariants as says
use Rattle.cct_model_lines.specs.Device.{IsSound, IsAcceptor, IsBill, IsHopper, IsId, IsWord}

-- A setup line that a script can spell: its numbers and texts are in their ranges.
abbrev pub IsSetupLine : SetupLine → Type 0
IsSetupLine (says.Acceptor d) = IsSound d × IsAcceptor d.body
IsSetupLine (says.Hopper d) = IsSound d × IsHopper d.body
IsSetupLine (says.Bills d) = IsSound d × IsBill d.body
IsSetupLine (says.Value addr place value id) =
    (2 ≤ addr) × (1 ≤ place) × (place ≤ COIN_PLACES) × (1 ≤ value) × (value ≤ 1000000) × IsId id
IsSetupLine (says.Named addr texts) =
    (2 ≤ addr) × IsWord texts.maker × IsWord texts.product × IsWord texts.software
    × IsWord texts.build
IsSetupLine says.Begin = ⊤
