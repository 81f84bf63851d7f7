use Rattle.std.proofs.Common.{arith}
use Rattle.cct_model.specs.Exchange.{device_at}
use Rattle.cct_journal_carry.proofs.Coins.{coins_most}
use Rattle.cct_ledger.proofs.ledger.Ledger.post.Goals as goal

pub overflow_add-self : goal.overflow_add-self
overflow_add-self c =
    let most =
    coins_most (device_at c.args.self.now.setup.now.devices c.args.addr) c.as_slice.result.now 1000000
    (c.args.self.now.values c.args.addr) in
    omega arith

pub invariant_of-self : goal.invariant_of-self
invariant_of-self c =
    let most =
    coins_most (device_at c.args.self.now.setup.now.devices c.args.addr) c.as_slice.result.now 1000000
    (c.args.self.now.values c.args.addr) in
    record {
      places = c.args.self.now.places;
      values = c.args.self.now.values;
      owes = c.args.self.now.owes;
      fits = omega arith;
    }
