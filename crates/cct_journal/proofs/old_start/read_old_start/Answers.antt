use Rattle.std.proofs.Common.{ℕ, ◌∙◌, sym, subst}
use Rattle.std.specs.Prelude.{IfNone}
use Rattle.std.proofs.lemmas.Bool.Decides.{not_from_Decides}
use Rattle.cct_model_lines.specs.declared.carry.Carry.{Carry}
use Rattle.cct_record.specs.OldCarryBody.{OldSpellsCarry}
use Rattle.cct_journal.specs.OldImage.{BeginsSecond}
use Rattle.cct_journal.proofs.OldHeads.{second_fewer, second_no_other, second_none, second_so}
use Rattle.cct_journal.proofs.old_start.read_old_start.Goals as goal

pub returns-in_err-bodies-clause-none : goal.returns-in_err-bodies-clause-none
returns-in_err-bodies-clause-none c =
    subst (λ r. IfNone r ((generation base : ℕ) (carry : Carry) → BeginsSecond c.args.second generation base carry c.args.bytes.now → ⊥))
    (sym c.from_residual.ensures)
    (second_fewer c.args.second c.args.bytes.now c.told-bytes c.in_err-bodies.ensures.none)

pub returns-in_err-carry-clause-none : goal.returns-in_err-carry-clause-none
returns-in_err-carry-clause-none c =
    subst (λ r. IfNone r ((generation base : ℕ) (carry : Carry) → BeginsSecond c.args.second generation base carry c.args.bytes.now → ⊥))
    (sym c.from_residual-in_err-carry.ensures)
    (second_none c.args.second c.args.bytes.now c.four_at-base.result c.as_slice.result.now c.told-bytes
    c.four_at-base.ensures (c.as_slice.ensures.value ∙ c.in_ok-bodies.ensures.found) c.in_err-carry.ensures.refused)

pub returns-then-begins_old-clause-begins : goal.returns-then-begins_old-clause-begins
returns-then-begins_old-clause-begins c =
    let both = c.begins_old.ensures.0 c.if-begins_old.true in
    second_so c.args.second c.four_at.result c.four_at-base.result c.in_ok-carry.carry c.args.bytes.now
    c.as_slice-2.result.now c.told-bytes
    (subst (OldSpellsCarry c.four_at-base.result c.in_ok-carry.carry)
    (c.as_slice.ensures.value ∙ sym c.as_slice-2.ensures.value) c.in_ok-carry.ensures.spelt) both.0 both.1

pub returns-else-begins_old-clause-none : goal.returns-else-begins_old-clause-none
returns-else-begins_old-clause-none c =
    second_no_other c.args.second c.four_at.result c.four_at-base.result c.in_ok-carry.carry c.args.bytes.now
    c.as_slice-2.result.now c.told-bytes c.four_at.ensures c.four_at-base.ensures
    (c.as_slice-2.ensures.value ∙ c.in_ok-bodies.ensures.found)
    (subst (OldSpellsCarry c.four_at-base.result c.in_ok-carry.carry)
    (c.as_slice.ensures.value ∙ sym c.as_slice-2.ensures.value) c.in_ok-carry.ensures.spelt)
    (not_from_Decides c.begins_old.result c.begins_old.ensures c.if-begins_old.false)
