use Rattle.std.proofs.Common.{ap, not, subst, sym}
use Rattle.cct_ledger.specs.Orders.{Finds, has_id}
use Rattle.cct_ledger.proofs.OpenOrders.{open_at, never_none}
use Rattle.cct_ledger.proofs.Positions.{none_passes}
use Rattle.cct_ledger.proofs.lookup.opened.Goals as goal

pub returns-in_err-place : goal.returns-in_err-place
returns-in_err-place c =
    subst (Finds c.args.id c.args.orders.now.items) (sym c.from_residual.ensures) (record {
      found = tt;
      own = tt;
      is_open = sym
          (ap not (none_passes (has_id c.args.id) c.args.orders.now.items (sym c.in_err-place.ensures.first)));
    })

pub returns-in_err-order : goal.returns-in_err-order
returns-in_err-order c =
    absurd (never_none c.args.orders.now.items c.deref.result.now c.args.id c.in_ok-place.place c.deref.ensures.0
    c.in_ok-place.ensures.first c.in_err-order.was)

pub returns : goal.returns
returns c =
    let order = open_at c.args.orders.now.items c.deref.result.now c.args.id c.in_ok-place.place c.in_ok-order.order
    c.deref.ensures.0 c.in_ok-place.ensures.first c.in_ok-order.was in
    record { found = order.there; own = order.own; is_open = sym (ap not order.is_any) }
