use Rattle.std.proofs.Common.{◌∙◌, sym}
use Rattle.cct_script.proofs.Steps.{groups, said_by}
use Rattle.cct_script.proofs.step.read_step_into.Goals as goal

pub returns-clause-reads : goal.returns-clause-reads
returns-clause-reads c =
    said_by _ _ _ (groups _ _ _ c.first_word.ensures ∙ sym c.next_step.ensures.reads)
