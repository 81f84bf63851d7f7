use Rattle.std.proofs.Common.{◌≡◌, map}
use Rattle.cct_model.specs.DeviceSet.{addresses_below}
use Rattle.cct_bench_state.specs.Account.{account_in}
use Rattle.cct_bench_state.proofs.owners.accounts_of.Given as goal

abbrev pub invariant-loop-addr : goal.invariant-loop-addr
invariant-loop-addr l = l.accounts.items ≡ map (account_in l.carry) (addresses_below l.addr)
