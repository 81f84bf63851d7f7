use Rattle.std.proofs.Common.{refl, ◌∙◌, arith}
use Rattle.std.proofs.lemmas.Grind.{common_steps}
use Rattle.std.proofs.lemmas.Option.{slice_get_within}
use Rattle.cct_ledger.proofs.Closing.{is_part, is_without, pays_out}
use Rattle.cct_ledger.proofs.ledger.Ledger.close.Goals as goal

pub overflow_sub-self : goal.overflow_sub-self
overflow_sub-self c =
    let owes = c.args.self.now.owes in
    let part =
    is_part c.args.self.now.setup.now c.args.self.now.orders.items c.in-Some.place c.in-Some.order
    c.in-Some.ensures.found in
    omega arith

pub overflow_add-self : goal.overflow_add-self
overflow_add-self c =
    let part =
    is_part c.args.self.now.setup.now c.args.self.now.orders.items c.in-Some.place c.in-Some.order
    c.in-Some.ensures.found in
    let both = part.both c.args.paid c.args.unpaid (omega arith) in
    omega arith

pub overflow_add-self-2 : goal.overflow_add-self-2
overflow_add-self-2 c =
    let part =
    is_part c.args.self.now.setup.now c.args.self.now.orders.items c.in-Some.place c.in-Some.order
    c.in-Some.ensures.found in
    let both = part.both c.args.paid c.args.unpaid (omega arith) in
    omega arith

pub put_order-requires : goal.put_order-requires
put_order-requires c = slice_get_within _ _ _ c.in-Some.ensures.found

pub invariant_of-self : goal.invariant_of-self
invariant_of-self c =
    let part =
    is_part c.args.self.now.setup.now c.args.self.now.orders.items c.in-Some.place c.in-Some.order
    c.in-Some.ensures.found in
    let both = part.both c.args.paid c.args.unpaid (omega arith) in
    let without =
    is_without c.args.self.now.setup.now c.args.self.now.orders.items c.put_order.new.orders.items c.in-Some.place
    c.in-Some.order c.in-Some.ensures.found c.put_order.ensures in
    let owes = c.args.self.now.owes in
    record {
      places = without.places ∙ c.args.self.now.places;
      values = c.args.self.now.values;
      owes = omega arith;
      fits = omega arith;
    }

pub returns : goal.returns
returns c = record {
  setup = refl;
  reserved = refl;
  counted = omega arith;
  exactly = λ before beside stands. grind (arith, common_steps);
  taken = λ before beside stands.
      let part =
      is_part c.args.self.now.setup.now c.args.self.now.orders.items c.in-Some.place c.in-Some.order
      c.in-Some.ensures.found in
      let both = part.both c.args.paid c.args.unpaid (omega arith) in
      let pays =
      pays_out c.args.self.now.setup.now before c.args.self.now.orders.items c.put_order.new.orders.items
      c.in-Some.place c.in-Some.order c.args.id c.args.paid c.args.unpaid (record {
        distinct = stands.sound.distinct;
        keeps = stands.orders;
        found = c.in-Some.ensures.found;
        own = c.in-Some.ensures.own;
      }) c.put_order.ensures in
      record {
        sound = stands.sound;
        counted = omega arith;
        orders = pays.keeps;
        owed = omega arith;
        reserved = stands.reserved;
        paid = omega arith;
        sold = omega arith;
        posted = omega arith;
      };
  refused = tt;
}
