use Rattle.std.proofs.Common.{sym, ◌∙◌}
use Rattle.cct_model.specs.Carry.{carry_of}
use Rattle.cct_journal_carry.proofs.Resumed.{carry_of_none}
use Rattle.cct_bench.proofs.play.opened.Goals as goal

pub returns-in-Ok-clause-ready : goal.returns-in-Ok-clause-ready
returns-in-Ok-clause-ready g c =
    record { sized = sym c.len-len.ensures ∙ c.if-len-ne-JOURNAL_BYTES.false; blank = c.in-Ok.ensures.created.blank }

pub returns-in-Ok-clause-made : goal.returns-in-Ok-clause-made
returns-in-Ok-clause-made g c =
    let on = c.in-Ok.ensures.goes_on in
    record {
      unused = c.in-Ok.ensures.created.none;
      whole = c.in-Ok.ensures.unbroken;
      size = on.same_size ∙ (sym c.len-len.ensures ∙ c.if-len-ne-JOURNAL_BYTES.false);
      stands = λ setup trusted.
          c.in-Ok.ensures.created.stands (sym on.same_honest ∙ trusted.0) (sym on.same_telling ∙ trusted.1) (carry_of setup)
          (carry_of_none setup);
    }

pub returns-in-Err-clause-refused : goal.returns-in-Err-clause-refused
returns-in-Err-clause-refused g c =
    (sym c.len-len.ensures ∙ c.if-len-ne-JOURNAL_BYTES.false, c.in-Err.ensures.refused)
