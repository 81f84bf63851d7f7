use Rattle.std.proofs.Common.{◌≡◌, ◌≤◌, ◌+◌, ◌-◌, ℕ, arith, subst, sym}
use Rattle.cct_journal.specs.Image.{half_room, kept_before}
use Rattle.cct_journal.specs.Places.{turned_or}
use Rattle.cct_journal.specs.declared.place.Place.{Place}
use Rattle.cct_journal.proofs.putting.put_turned.Goals as goal

one_more : (used base kept : ℕ) → base ≤ used → used - base ≡ kept → used + 1 - base ≡ kept + 1
one_more used base kept later is = omega (arith, later, is)

pub returns-clause-turns : goal.returns-clause-turns
returns-clause-turns g c =
    let place = c.args.place.now in
    let turned = turned_or place c.in_ok-turned.turned in
    let kept = kept_before (half_room (g.D.Disk.size c.args.disk.now)) (place.used - place.base) in
    subst (λ (p : Place). p.used - p.base ≡ kept + 1) (sym c.go_on.ensures)
    (one_more turned.used turned.base kept c.in_ok-turned.ensures.later c.in_ok-turned.ensures.turns)
