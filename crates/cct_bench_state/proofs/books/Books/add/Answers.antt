use Rattle.std.proofs.Common.{◌∙◌, ap, length}
use Rattle.cct_bench_state.specs.Account.{place_of}
use Rattle.cct_bench_state.proofs.Accounts.{changed_length}
use Rattle.cct_bench_state.proofs.books.Books.add.Goals as goal

pub returns-clause-ready : goal.returns-clause-ready
returns-clause-ready c many ready =
    let items = c.args.self.now.accounts.items in
    let entry = c.args.entry.now in record {
      each = c.change.ensures.within many ready.each;
      sums = c.add.ensures.within many ready.sums;
      all = ap length c.change.ensures.changes ∙ changed_length entry items (place_of items entry) ∙ ready.all;
      counted = c.in_ok-go_over.ensures.counted many ready.counted;
    }
