use Rattle.std.proofs.Common.{ℕ, subst, sym}
use Rattle.std.specs.Prelude.{IfNone}
use Rattle.std.proofs.lemmas.Bool.Decides.{not_from_Decides}
use Rattle.cct_model_lines.specs.declared.carry.Carry.{Carry}
use Rattle.cct_journal.specs.Start.{Begins}
use Rattle.cct_journal.proofs.Heads.{begins_none, begins_no_other}
use Rattle.cct_journal.proofs.start.read_start.Goals as goal

pub returns-in_err-start-clause-none : goal.returns-in_err-start-clause-none
returns-in_err-start-clause-none c =
    subst (λ r. IfNone r ((generation base : ℕ) (carry : Carry) → Begins c.args.second generation base carry c.args.bytes.now → ⊥))
    (sym c.from_residual.ensures)
    (begins_none c.args.second c.args.bytes.now c.told-bytes c.in_err-start.ensures.none)

pub returns-else-begins-clause-none : goal.returns-else-begins-clause-none
returns-else-begins-clause-none c =
    let s = c.in_ok-start.start in
    begins_no_other c.args.second s.generation s.base s.carry c.args.bytes.now c.told-bytes c.in_ok-start.ensures.stands
    (not_from_Decides c.begins.result c.begins.ensures c.if-begins.false)
