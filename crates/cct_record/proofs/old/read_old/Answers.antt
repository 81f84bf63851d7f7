use Rattle.std.proofs.Common.{sym, subst}
use Rattle.std.specs.Prelude.{IfNone}
use Rattle.std.proofs.lemmas.Option.{IfSome_then}
use Rattle.cct_record.specs.Body.{IsRefused, Spells}
use Rattle.cct_record.specs.OldBody.{IsRefusedOld}
use Rattle.cct_record.proofs.OldBack.{none_then, old_spells, refused_full, refused_old}
use Rattle.cct_record.proofs.old.read_old.Goals as goal

pub returns-in_err-today-clause-refused : goal.returns-in_err-today-clause-refused
returns-in_err-today-clause-refused c =
    subst (λ r. IfNone r (IsRefusedOld c.args.bytes.now)) (sym c.from_residual.ensures)
    (refused_full c.args.bytes.now c.in_err-today.ensures.none)

pub returns-clause-spelt : goal.returns-clause-spelt
returns-clause-spelt c =
    let found = c.in_ok-today.ensures in
    IfSome_then c.read.result c.read.ensures.spelt
    (λ r spells. old_spells c.args.bytes.now c.told-bytes found.room r (subst (λ b. Spells r b) found.same spells))

pub returns-clause-refused : goal.returns-clause-refused
returns-clause-refused c =
    none_then c.read.result c.read.ensures.refused
    (λ refused. refused_old c.args.bytes.now (subst IsRefused c.in_ok-today.ensures.same refused))
