use Rattle.std.proofs.Common.{◌≡◌, drop}
use Rattle.cct_model.specs.Refusal.{first_of, listed, state_fails}
use Rattle.cct_host.specs.Running.{seen_at}
use Rattle.cct_host.proofs.desk.JobDesk.first_failing.Given as goal

-- the tests before hold
abbrev pub invariant-loop-slot : goal.invariant-loop-slot
invariant-loop-slot l =
    first_of (state_fails (seen_at l.device l.self.job l.self.epoch l.self.orders l.last)) (listed (drop l.slot-index l.tests))
    ≡ first_of (state_fails (seen_at l.device l.self.job l.self.epoch l.self.orders l.last)) (listed l.tests)
