use Rattle.std.proofs.Common.{ap, subst, ◌∙◌}
use Rattle.cct_host.specs.Upgrading.{NoneRuns, read_no}
use Rattle.cct_host.proofs.Upgrades.{refused_by_disk}
use Rattle.cct_host.proofs.upgrading.tally_all.Goals as goal

pub returns-in-None-clause-can : goal.returns-in-None-clause-can
returns-in-None-clause-can g c rest reads =
    let over = c.in-Ok.ensures.over rest reads in (
      record {
        carried = record { fits = over.fits; follow = over.follow };
        idle = subst NoneRuns (c.carry.ensures.value ∙ over.carry_is) c.in-None.ensures.none;
      },
      over.carry_is,
    )

pub returns-in-Err-clause-never : goal.returns-in-Err-clause-never
returns-in-Err-clause-never g c rest reads can =
    c.from.ensures
    ∙ ap read_no (refused_by_disk c.in-Err.why _ _ _ rest can.carried (c.in-Err.ensures.refused rest reads))
