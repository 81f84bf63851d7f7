-- The setup of a script that is read.
use Rattle.cct_model.specs.terms.device.Setup.{Setup}
use Rattle.cct_model.specs.lines.setup.SetupLine.{SetupLine}
use Rattle.cct_model.specs.lines.setup.SetupLine.TheVariants as says
use Rattle.cct_model.specs.Script.{Stage, at_setup, at_steps}
use Rattle.cct_bench.specs.declared.opening.Opened.{Opened}
use Rattle.cct_bench.specs.declared.opening.Opened.TheVariants.{Added, Begun}

-- Which line is wanted after a setup line that leaves this setup.
abbrev pub stage_of : Opened → Setup → Stage
stage_of Added setup = at_setup setup
stage_of Begun setup = at_steps setup

-- What a setup line does to the setup.
abbrev pub opened_by : SetupLine → Opened
opened_by says.Begin = Begun
opened_by line = Added
