use Rattle.std.proofs.Common.{length, [], sym, ap, subst, ◌∙◌}
use Rattle.std.specs.Prelude.{All, IfNone}
use Rattle.std.proofs.lemmas.List.{get_or_default}
use Rattle.std.proofs.lemmas.Option.{IfSome_then}
use Rattle.cct_record.specs.CarryBody.{SpellsCarry, SpellsNone}
use Rattle.cct_record.specs.OldCarryBody.{OldSpellsNone}
use Rattle.cct_record.proofs.OldBack.{none_then}
use Rattle.cct_record.proofs.OldCarryBack.{IsLong, old_spells_carry, refused_old_carry, refused_room}
use Rattle.cct_record.proofs.old.read_old_carry.Goals as goal

pub returns-in_err-bodies-clause-refused : goal.returns-in_err-bodies-clause-refused
returns-in_err-bodies-clause-refused c =
    subst (λ r. IfNone r (OldSpellsNone c.args.base c.args.bodies.now)) (sym c.from_residual.ensures)
    (refused_room c.args.bodies.now c.in_err-bodies.ensures.none c.args.base)

pub returns-clause-spelt : goal.returns-clause-spelt
returns-clause-spelt c =
    let found = c.in_ok-bodies.ensures in
    let bodies = c.args.bodies.now in
    let base = c.args.base in
    let long : All IsLong bodies = λ k d within. ap length (get_or_default bodies k d [] within) ∙ c.told-bodies k within in
    let same = c.as_slice.ensures.value ∙ found.same in
    IfSome_then c.read_carry.result c.read_carry.ensures.spelt
    (λ x spells. old_spells_carry bodies long found.room base x (subst (λ b. SpellsCarry base x b) same spells))

pub returns-clause-refused : goal.returns-clause-refused
returns-clause-refused c =
    let same = c.as_slice.ensures.value ∙ c.in_ok-bodies.ensures.same in
    none_then c.read_carry.result c.read_carry.ensures.refused
    (λ none. refused_old_carry c.args.bodies.now c.args.base (subst (λ b. SpellsNone c.args.base b) same none))
