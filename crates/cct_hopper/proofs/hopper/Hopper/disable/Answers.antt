use Rattle.std.proofs.Common.{rules}
use Rattle.cct_hopper.specs.declared.hopper.Hopper.TheVariants.{Idle, Paying}
use Rattle.cct_hopper.specs.Hopper.{StandsFor}
use Rattle.cct_hopper.proofs.hopper.Hopper.disable.Goals as goal

pub returns-in-Idle-clause-stands : goal.returns-in-Idle-clause-stands
returns-in-Idle-clause-stands c = λ d past code other so.
    let at : StandsFor (Idle c.twin.result) d past = search rules in
    c.disable.ensures.stands d past code other at

pub returns-in-Paying-clause-stands : goal.returns-in-Paying-clause-stands
returns-in-Paying-clause-stands c = λ d past code other so.
    let at : StandsFor (Paying c.twin-in-Paying.result) d past = search rules in
    c.disable-in-Paying.ensures.stands d past code other at
