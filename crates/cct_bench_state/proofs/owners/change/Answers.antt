use Rattle.std.proofs.Common.{◌+◌, ◌<◌, length, subst, sym}
use Rattle.std.proofs.lemmas.List.Elements.{All-get_or}
use Rattle.std.specs.Prelude.{All}
use Rattle.cct_model.specs.Carried.{empty_carry}
use Rattle.cct_bench_state.specs.Account.{IsWithin, account_in}
use Rattle.cct_bench_state.proofs.Accounts.{set_within}
use Rattle.cct_bench_state.proofs.owners.change.Goals as goal

pub returns-in-Some-clause-within : goal.returns-in-Some-clause-within
returns-in-Some-clause-within c many all =
    let items = c.args.accounts.now.items in
    let place = c.in-Some.place in
    let none = account_in empty_carry 0 in
    let inside = subst (λ l. place < length l) c.as_slice.ensures.value c.in-Some.ensures.within in
    let here = subst (IsWithin many) (sym (c.account_at.ensures none)) (All-get_or (IsWithin many) items place none inside all) in
    subst (All (IsWithin (many + 1))) (sym c.put_account.ensures)
    (set_within many place c.with-account.result items (c.with-account.ensures.within many here) all)
