use Rattle.std.proofs.Common.{◌≡◌, take}
use Rattle.cct_live_service.specs.Watch.{seen_all}
use Rattle.cct_live_service.proofs.watch.Watch.see_ends.Given as goal

-- The first entries were seen.
abbrev pub invariant-loop-entry : goal.invariant-loop-entry
invariant-loop-entry l = l.self ≡ seen_all l.fn.self (take l.entry-index l.entries)
