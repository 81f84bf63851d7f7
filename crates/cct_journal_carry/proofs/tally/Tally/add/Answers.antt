use Rattle.std.proofs.Common.{◌+◌, ◌≤◌, length, ap, sym, subst, ◌∙◌, arith}
use Rattle.cct_model.specs.terms.device.TheConstants.{DEVICES}
use Rattle.cct_model.specs.lines.carry.Carry.{Carry}
use Rattle.cct_model.specs.Carry.{IsSafe}
use Rattle.cct_journal_carry.proofs.Keeping.{safe_more, safe_next}
use Rattle.cct_journal_carry.proofs.tally.Tally.add.Goals as goal
use Rattle.cct_journal_carry.proofs.tally.Tally.add.Goals.{then-follows, else-follows}

pub invariant_of-self : goal.invariant_of-self
invariant_of-self c =
    let tally = c.args.self.now in
    let setup = tally.setup.now in
    let same = ap length c.as_slice.ensures.value in
    let few = c.as_slice.ensures.fits in
    let devices : length setup.devices ≤ DEVICES = omega arith in
    record {
      sound = tally.sound;
      safe = elim c.if-follows.branch [
        | then-follows w ↦
            let next = safe_next setup tally.many tally.carry c.args.entry.now tally.sound devices tally.safe
            (sym c.follows-follows.ensures ∙ w.if-follows.true) w.go_on.ensures.in_reach in
            rw w.self-is (subst (λ (d : Carry). IsSafe setup (tally.many + 1) d) (sym w.go_on.ensures.next) next)
        | else-follows w ↦ rw w.self-is (safe_more setup tally.many tally.carry tally.safe)
      ];
    }
