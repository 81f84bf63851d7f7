use Rattle.std.proofs.Common.{◌≡◌, ◌+◌, Ok, Result, refl, subst, sym, true}
use Rattle.cct_model.specs.lines.record.Record.{Record}
use Rattle.cct_ledger.specs.Ledger.{GoesOn, Judges, Takes, applied, reserved_of, setup_of}
use Rattle.cct_ledger.specs.declared.ledger.Ledger.{Ledger}
use Rattle.cct_ledger.specs.declared.ledger.NotAllowed.{NotAllowed}
use Rattle.cct_ledger.proofs.ledger.Ledger.apply.Goals as goal

abbrev done : Result (Unit {0}) NotAllowed
done = Ok tt

-- a record that posts coins is taken
posted : (old new : Ledger) (r : Record) → setup_of new ≡ setup_of old → reserved_of new ≡ reserved_of old
    → applied new ≡ applied old + 1 → Judges old r true → GoesOn old new r → Takes old new r done
posted old new r setup reserved counted exactly taken = record {
  setup = setup;
  reserved = reserved;
  counted = counted;
  exactly = exactly;
  taken = taken;
  refused = tt;
}

pub returns-in-Reading-clause-takes : goal.returns-in-Reading-clause-takes
returns-in-Reading-clause-takes c =
    let post = c.post.ensures in
    subst (λ r. Takes c.args.self.now c.post.new.self r done) (sym c.in-Reading.is)
    (posted _ _ _ post.setup post.reserved post.counted (λ before beside stands. refl)
    (post.reading c.in-Reading.counter c.in-Reading.lost c.in-Reading.accepts))

pub returns-in-Broken-clause-takes : goal.returns-in-Broken-clause-takes
returns-in-Broken-clause-takes c =
    let post = c.post-in-Broken.ensures in
    subst (λ r. Takes c.args.self.now c.post-in-Broken.new.self r done) (sym c.in-Broken.is)
    (posted _ _ _ post.setup post.reserved post.counted (λ before beside stands. refl)
    (post.broken c.in-Broken.mask_seen c.in-Broken.counter c.in-Broken.lost c.in-Broken.accepts))

pub returns-in-Opened-clause-takes : goal.returns-in-Opened-clause-takes
returns-in-Opened-clause-takes c =
    subst (λ r. Takes c.args.self.now c.open.new.self r c.open.result) (sym c.in-Opened.is) c.open.ensures

pub returns-in-Closed-clause-takes : goal.returns-in-Closed-clause-takes
returns-in-Closed-clause-takes c =
    subst (λ r. Takes c.args.self.now c.close.new.self r c.close.result) (sym c.in-Closed.is) c.close.ensures

pub returns-in-Odd-clause-takes : goal.returns-in-Odd-clause-takes
returns-in-Odd-clause-takes c =
    subst (λ r. Takes c.args.self.now c.set_aside.new.self r c.set_aside.result) (sym c.in-Odd.is)
    (c.set_aside.ensures c.in-Odd.life_before c.in-Odd.life_after)

pub returns-in-Sold-clause-takes : goal.returns-in-Sold-clause-takes
returns-in-Sold-clause-takes c =
    subst (λ r. Takes c.args.self.now c.sell.new.self r c.sell.result) (sym c.in-Sold.is) c.sell.ensures
