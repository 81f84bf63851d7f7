use Rattle.std.proofs.Common.{refl, sym, ◌∙◌, arith}
use Rattle.cct_ledger.proofs.Opening.{refused_nowhere, allowed_at, reserves}
use Rattle.cct_ledger.proofs.ledger.Ledger.open.Goals as goal

pub returns-in_default : goal.returns-in_default
returns-in_default c = record {
  setup = refl;
  reserved = refl;
  counted = tt;
  exactly = λ before beside stands.
      refused_nowhere c.args.self.now.setup.now before beside c.args.order.id c.args.order.addr c.args.order.count
      c.args.order.life (c.in_default.ensures.none stands.sound.distinct);
  taken = tt;
  refused = refl;
}

pub returns-then-not-may_open : goal.returns-then-not-may_open
returns-then-not-may_open c = record {
  setup = refl;
  reserved = refl;
  counted = tt;
  exactly = λ before beside stands.
      sym c.if-not-may_open.true ∙ c.may_open.ensures
      ∙ allowed_at c.args.self.now.setup.now before c.args.self.now.orders.items c.in-Some.place beside c.args.order.id
      c.args.order.addr c.args.order.count c.args.order.life c.coins_of-amount.result c.args.self.now.available
      stands.sound.distinct stands.orders c.in-Some.ensures.found c.coins_of-amount.ensures (omega arith);
  taken = tt;
  refused = refl;
}

pub returns : goal.returns
returns c = record {
  setup = refl;
  reserved = refl;
  counted = omega arith;
  exactly = λ before beside stands.
      sym c.if-not-may_open.false ∙ c.may_open.ensures
      ∙ allowed_at c.args.self.now.setup.now before c.args.self.now.orders.items c.in-Some.place beside c.args.order.id
      c.args.order.addr c.args.order.count c.args.order.life c.coins_of-amount.result c.args.self.now.available
      stands.sound.distinct stands.orders c.in-Some.ensures.found c.coins_of-amount.ensures (omega arith);
  taken = λ before beside stands.
      let reserves =
      reserves c.args.self.now.setup.now before c.args.self.now.orders.items c.put_order.new.orders.items
      c.in-Some.place c.args.order.id c.args.order.addr c.args.order.count c.args.order.life c.coins_of-amount.result
      c.args.self.now.available stands.sound.distinct stands.orders c.in-Some.ensures.found
      (sym c.may_open.ensures ∙ c.if-not-may_open.false)
      (omega (arith, c.in-Some.ensures.within, c.args.self.now.places)) c.put_order.ensures in
      record {
        sound = stands.sound;
        counted = omega arith;
        orders = reserves.keeps;
        owed = omega arith;
        reserved = stands.reserved;
        paid = omega arith;
        sold = omega arith;
        posted = omega arith;
      };
  refused = tt;
}
