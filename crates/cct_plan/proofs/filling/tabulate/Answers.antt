use Rattle.std.proofs.Common.{◌≡◌, ℕ, ◌-◌, ◌<◌, List, ◌∷◌, length, get_or, drop, arith, add-one, drop-cons, suc}
use Rattle.cct_model.specs.declared.change.Tray.{Tray}
use Rattle.cct_plan.proofs.Stepping.{tells_more}
use Rattle.cct_plan.proofs.filling.tabulate.Goals as goal

-- The tray before the last ones stands first, with them after it.
before_last : (trays : List Tray) (many : ℕ) (d : Tray) → many < length trays
    → drop (length trays - suc many) trays ≡ get_or trays (length trays - 1 - many) d ∷ drop (length trays - many) trays
before_last trays many d some =
    let first : length trays - suc many ≡ length trays - 1 - many = omega arith in
    let next : length trays - many ≡ suc (length trays - 1 - many) = omega arith in
    rw (first, next) (drop-cons trays (length trays - 1 - many) d (omega arith))

pub loop-many-preserved : goal.loop-many-preserved
loop-many-preserved c =
    rw add-one (tells_more _ _ c.args.trays.now c.loop-many.many c.args.amount _ c.requires.within
    (before_last c.args.trays.now c.loop-many.many _ (omega arith)) c.add_row.ensures.before c.add_row.ensures.least
    c.loop-many.invariant)
