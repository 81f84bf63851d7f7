use Rattle.std.proofs.Common.{◌∙◌, ap, length, subst, sym}
use Rattle.std.specs.Prelude.{All}
use Rattle.cct_model.specs.DeviceSet.{all_addresses}
use Rattle.cct_bench_report.proofs.Going.{carry_within}
use Rattle.cct_bench_state.specs.Account.{IsWithin}
use Rattle.cct_bench_state.proofs.Accounts.{all_length, fresh_within}
use Rattle.cct_bench_state.proofs.books.Books.of.Goals as goal

pub returns-clause-ready : goal.returns-clause-ready
returns-clause-ready c =
    let carry = c.args.carry.now in record {
      each = subst (All (IsWithin c.args.many)) (sym c.accounts_of.ensures) (fresh_within carry c.args.many all_addresses);
      sums = carry_within c.args.many carry c.of.result c.of.ensures c.requires.rightly.small;
      all = ap length c.accounts_of.ensures ∙ all_length carry;
      counted = c.in_ok-tally.ensures.counted;
    }
