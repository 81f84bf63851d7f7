-- The carry goes on by a record that follows, as the list of records does.
use Rattle.std.proofs.Common.{◌≡◌, ℕ, ◌+◌, max, true, cond, List, ◌∷◌, None, refl, ap, ap₂, sym, ◌∙◌, option_and_then, option_map}
use Rattle.std.proofs.lemmas.Bool.{and_parts}
use Rattle.cct_model.specs.terms.device.Setup.{Setup}
use Rattle.cct_model.specs.lines.record.Record.{Record}
use Rattle.cct_model.specs.lines.record.Record.TheVariants as record_of
use Rattle.cct_model.specs.lines.carry.Carry.{Carry}
use Rattle.cct_model.specs.lines.carry.CarryEpoch.{CarryEpoch}
use Rattle.cct_model.specs.lines.carry.CarryOrder.{CarryOrder}
use Rattle.cct_model.specs.Carried.{addr_of_epoch, addr_of_order, set_with}
use Rattle.cct_model.specs.Carry.{carry, carry_with, epoch_at, epoch_entry, epochs_after, odd_more, order_at, order_entry, orders_after, owner_by}
use Rattle.cct_model.specs.Device.{is_taker}
use Rattle.cct_model.specs.Exchange.{by_address, device_at}
use Rattle.cct_model.specs.Following.{all_follow, follows}
use Rattle.cct_model.specs.Job.{epoch_by}
use Rattle.cct_model.specs.Money.{amount, coins_of, coins_value, odd_by}
use Rattle.cct_model.specs.Order.{order_by}
use Rattle.cct_model.specs.Records.{hopper_of, id_of, owner_in}
use Rattle.cct_model.specs.Setup.{IsSoundSetup}
use Rattle.cct_model.specs.Sums.{coins_paid, coins_posted, coins_unpaid, coins_lost, posts_of, price_sold}
use Rattle.cct_model.proofs.OpenOrders.{order_else, order_own}
use Rattle.cct_laws.proofs.setups.Rising.{devices_rise}
use Rattle.cct_laws.proofs.money.EpochsReplayed.{epoch_else, epoch_own}
use Rattle.cct_laws.proofs.orders.Orders.{belongs_all}
use Rattle.cct_journal_carry.proofs.Carried.{epoch_carried, epoch_keys, epoch_there, named_carried, order_carried, order_keys, order_there}
use Rattle.cct_journal_carry.proofs.Devices.{found_by_address}
use Rattle.cct_journal_carry.proofs.Gathered.{set_gathered}

-- whose a record is that follows
owner_follows : (setup : Setup) (before : List Record) → IsSoundSetup setup → all_follow setup before ≡ true →
    (r : Record) → follows setup before r ≡ true → owner_by (carry setup before) r ≡ owner_in before r
owner_follows setup before sound earlier (record_of.Closed id paid unpaid) follow =
    ap hopper_of (named_carried setup before sound earlier id (and_parts _ _ follow).0)
owner_follows setup before sound earlier (record_of.Odd id life_before life_after) follow =
    ap hopper_of (named_carried setup before sound earlier id follow)
owner_follows setup before sound earlier r follow = refl

-- the amount that it sets aside
odd_follows : (setup : Setup) (before : List Record) → IsSoundSetup setup → all_follow setup before ≡ true →
    (r : Record) → follows setup before r ≡ true → odd_more setup (carry setup before) r ≡ odd_by setup before r
odd_follows setup before sound earlier (record_of.Odd id life_before life_after) follow =
    ap (amount setup) (named_carried setup before sound earlier id follow)
odd_follows setup before sound earlier r follow = refl

-- the carry with one record more, of this owner, that sets this amount aside and leaves these epochs and orders
abbrev goes_on : Setup → Record → Carry → ℕ → ℕ → List CarryEpoch → List CarryOrder → Carry
goes_on setup r c owner odd epochs orders = record {
  last_id = max (id_of r) c.last_id;
  value = coins_value (device_at setup.devices owner) (posts_of r) + c.value;
  paid_value = coins_of setup owner (coins_paid r) + c.paid_value;
  odd_value = odd + c.odd_value;
  posted = coins_posted r + c.posted;
  lost = coins_lost r + c.lost;
  paid = coins_paid r + c.paid;
  unpaid = coins_unpaid r + c.unpaid;
  sold = price_sold r + c.sold;
  epochs = epochs;
  orders = orders;
}

-- one record more, of records that follow one another
module _ (setup : Setup) (before : List Record) (sound : IsSoundSetup setup) (r : Record)
    (follow : all_follow setup (r ∷ before) ≡ true) where
  abbrev earlier : all_follow setup before ≡ true
  earlier = (and_parts _ _ follow).1

  -- the epochs and the open orders after it

  epochs_next : epochs_after (owner_in before r) r (carry setup before) ≡ (carry setup (r ∷ before)).epochs
  epochs_next =
      let addr = owner_in before r in
      ap (λ new. set_with addr_of_epoch addr new (carry setup before).epochs)
      (ap (λ state. epoch_entry addr (epoch_by r state)) (epoch_carried setup before sound earlier addr)
      ∙ ap (epoch_entry addr) (sym (epoch_own addr r before refl))
      ∙ sym (epoch_there setup (r ∷ before) addr follow)
      ∙ ap (option_and_then (epoch_at (r ∷ before))) (sym (found_by_address setup.devices addr)))
      ∙ set_gathered addr_of_epoch (epoch_at before) (epoch_at (r ∷ before)) (epoch_keys before) addr
      (λ d other. ap (λ state. cond (is_taker d.body) (epoch_entry d.addr state) None)
      (sym (epoch_else d.addr r before (λ own. other (sym own)))))
      (by_address setup.devices) (devices_rise setup sound)

  orders_next : orders_after (owner_in before r) r (carry setup before) ≡ (carry setup (r ∷ before)).orders
  orders_next =
      let addr = owner_in before r in
      ap (λ new. set_with addr_of_order addr new (carry setup before).orders)
      (ap (λ owed. option_map order_entry (order_by r owed)) (order_carried setup before sound earlier addr)
      ∙ ap (option_map order_entry) (sym (order_own addr r before refl))
      ∙ sym (order_there setup (r ∷ before) addr (belongs_all setup (r ∷ before) follow))
      ∙ ap (option_and_then (order_at (r ∷ before))) (sym (found_by_address setup.devices addr)))
      ∙ set_gathered addr_of_order (order_at before) (order_at (r ∷ before))
      (order_keys setup before (belongs_all setup before earlier)) addr
      (λ d other. ap (λ owed. cond (is_taker d.body) None (option_map order_entry owed))
      (sym (order_else d.addr r before (λ own. other (sym own)))))
      (by_address setup.devices) (devices_rise setup sound)

  -- and so the carry
  pub carry_next : carry_with setup r (carry setup before) ≡ carry setup (r ∷ before)
  carry_next =
      let c = carry setup before in
      let owner = owner_in before r in
      ap (λ own. goes_on setup r c own (odd_more setup c r) (epochs_after own r c) (orders_after own r c))
      (owner_follows setup before sound earlier r (and_parts _ _ follow).0)
      ∙ ap (λ odd. goes_on setup r c owner odd (epochs_after owner r c) (orders_after owner r c))
      (odd_follows setup before sound earlier r (and_parts _ _ follow).0)
      ∙ ap₂ (goes_on setup r c owner (odd_by setup before r)) epochs_next orders_next
