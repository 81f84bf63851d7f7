use Rattle.std.proofs.Common.{◌+◌, ◌++◌, ◌∷◌, ◌∙◌, [], ap, ap₂, arith, length, sym}
use Rattle.cct_bench_state.proofs.Accounts.{accounts_all, accounts_length, accounts_more}
use Rattle.cct_bench_state.proofs.owners.accounts_of.Goals as goal

pub push-requires : goal.push-requires
push-requires c =
    omega (arith, ap length c.loop-addr.invariant, accounts_length c.args.carry.now c.loop-addr.addr)

pub returns-2 : goal.returns-2
returns-2 c =
    let carry = c.args.carry.now in
    let addr = c.loop-addr.addr in
    c.push.ensures.items
    ∙ ap₂ (λ xs x. xs ++ x ∷ []) c.loop-addr.invariant c.of.ensures
    ∙ sym (accounts_more carry addr)
    ∙ accounts_all carry (addr + 1) (omega (arith, c.loop-addr-test.true, c.loop-addr.auto.addr-end))
