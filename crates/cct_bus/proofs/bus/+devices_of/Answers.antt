use Rattle.std.proofs.Common.{◌∙◌, ◌≡◌, ◌-◌, [], length, take, drop, map, sym, ap, subst}
use Rattle.std.specs.Prelude.{unwrap_or}
use Rattle.std.specs.List.{All, position}
use Rattle.cct_model.specs.Exchange.{by_address}
use Rattle.cct_bus.specs.Device.{Stands, setup_in}
use Rattle.cct_bus.proofs.Buses.{first_apart, put_in_order}
use Rattle.cct_bus.proofs.Places.{all_put, is_not_below}
use Rattle.cct_bus.proofs.bus.+devices_of.Goals as goal

pub returns-in_ok-insert-in-len1-up-clause-order : goal.returns-in_ok-insert-in-len1-up-clause-order
returns-in_ok-insert-in-len1-up-clause-order t c =
    let devices = c.in_ok-devices-in-len1-up.devices.items in
    let first = c.first-item.result in
    let rank : c.rank_of-place.result ≡ unwrap_or (position (is_not_below first.addr) devices) (length devices) =
    c.rank_of-place.ensures.rank ∙ ap (λ ds. unwrap_or (position (is_not_below first.addr) ds) (length ds)) c.deref.ensures.value in
    ap (λ ds. map setup_in ds) c.in_ok-insert-in-len1-up.ensures.items
    ∙ put_in_order _ devices first (take (length c.args.setups.now - 1) (drop 1 c.args.setups.now)) _ c.in_ok-device-in-len1-up.ensures.setup c.in_ok-devices-in-len1-up.ensures.order rank
    ∙ ap by_address (sym (first_apart c.args.setups.now c.first-item.result c.in-len1-up.len_at_least c.first-item.is))

pub returns-in_ok-insert-in-len1-up-clause-fresh : goal.returns-in_ok-insert-in-len1-up-clause-fresh
returns-in_ok-insert-in-len1-up-clause-fresh t c =
    subst (λ ds. All (Stands (λ d. [])) ds) (sym c.in_ok-insert-in-len1-up.ensures.items)
    (all_put (Stands (λ d. [])) _ _ c.rank_of-place.result c.in_ok-device-in-len1-up.ensures.fresh c.in_ok-devices-in-len1-up.ensures.fresh)
