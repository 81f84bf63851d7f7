use Rattle.std.proofs.Common.{sym, ◌∙◌}
use Rattle.cct_model.specs.Carry.{carry_of}
use Rattle.cct_journal_carry.proofs.Resumed.{carry_of_none}
use Rattle.cct_live_service.proofs.opening.make_journal.Goals as goal

pub returns-in-Ok-clause-opens : goal.returns-in-Ok-clause-opens
returns-in-Ok-clause-opens g c setup found none =
    let made = c.in-Ok.ensures.created in
    let on = c.in-Ok.ensures.goes_on in (
      none,
      made.none,
      λ trusted. made.stands (sym on.same_honest ∙ trusted.0) (sym on.same_telling ∙ trusted.1) (carry_of setup)
          (carry_of_none setup),
    )

pub returns-in-Ok-clause-made : goal.returns-in-Ok-clause-made
returns-in-Ok-clause-made g c =
    (c.in-Ok.ensures.created.none, c.in-Ok.ensures.created.blank, c.in-Ok.ensures.moments)

pub returns-in-Ok-clause-serves : goal.returns-in-Ok-clause-serves
returns-in-Ok-clause-serves g c = record {
  goes_on = c.in-Ok.ensures.goes_on;
  cause = record { later = c.in-Ok.ensures.cause; rose = λ e. absurd e };
}

pub returns-in-Err-clause-refuses : goal.returns-in-Err-clause-refuses
returns-in-Err-clause-refuses g c = (
  c.in-Err.why,
  c.unmade.ensures,
  record {
    reason = c.in-Err.ensures.refused;
    reads = c.in-Err.ensures.unchanged;
    serves = record { goes_on = c.in-Err.ensures.goes_on; cause = c.in-Err.ensures.cause };
  },
)
