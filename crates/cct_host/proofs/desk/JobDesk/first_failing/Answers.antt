use Rattle.std.proofs.Common.{sym, ◌∙◌}
use Rattle.cct_model.specs.Refusal.{state_fails}
use Rattle.cct_host.specs.Running.{seen_at}
use Rattle.cct_host.proofs.Testing.{first_at}
use Rattle.cct_host.proofs.desk.JobDesk.first_failing.Goals as goal

pub returns-in-Some-fails : goal.returns-in-Some-fails
returns-in-Some-fails c =
    let desk = c.args.self.now in
    let fails = state_fails (seen_at c.args.device.now desk.job desk.epoch desk.orders c.args.last) in
    sym (first_at fails c.args.tests.now c.loop-slot.slot-index c.in-Some.test c.in-Some-fails.why c.in-Some.is
    (sym c.fails.ensures ∙ c.in-Some-fails.is)) ∙ c.loop-slot.invariant
