use Rattle.std.proofs.Common.{refl, ◌∙◌, arith}
use Rattle.std.proofs.lemmas.Grind.{common_steps}
use Rattle.std.proofs.lemmas.Option.{slice_get_within}
use Rattle.cct_ledger.proofs.Closing.{is_without, sets_aside}
use Rattle.cct_ledger.proofs.ledger.Ledger.set_aside.Goals as goal

pub put_order-requires : goal.put_order-requires
put_order-requires c = slice_get_within _ _ _ c.in-Some.ensures.found

pub invariant_of-self : goal.invariant_of-self
invariant_of-self c =
    let without =
    is_without c.args.self.now.setup.now c.args.self.now.orders.items c.put_order.new.orders.items c.in-Some.odd_place
    c.in-Some._order c.in-Some.ensures.found c.put_order.ensures in
    let owes = c.args.self.now.owes in
    record {
      places = without.places ∙ c.args.self.now.places;
      values = c.args.self.now.values;
      owes = omega arith;
      fits = omega arith;
    }

pub returns : goal.returns
returns c = λ life_before life_after. record {
  setup = refl;
  reserved = refl;
  counted = omega arith;
  exactly = λ before beside stands. grind (arith, common_steps);
  taken = λ before beside stands.
      let aside =
      sets_aside c.args.self.now.setup.now before c.args.self.now.orders.items c.put_order.new.orders.items
      c.in-Some.odd_place c.in-Some._order c.args.id life_before life_after (record {
        distinct = stands.sound.distinct;
        keeps = stands.orders;
        found = c.in-Some.ensures.found;
        own = c.in-Some.ensures.own;
      }) c.put_order.ensures in
      record {
        sound = stands.sound;
        counted = omega arith;
        orders = aside.keeps;
        owed = omega arith;
        reserved = stands.reserved;
        paid = omega arith;
        sold = omega arith;
        posted = omega arith;
      };
  refused = tt;
}
