-- What contracts see of a source that gives a setup first.
use Rattle.cct_example_callers.specs.declared.fixed.AfterSetup.{AfterSetup}

-- The source that gives what follows the setup.
abbrev pub steps_of : {S : Type 0} → AfterSetup S → S
steps_of source = source.steps
