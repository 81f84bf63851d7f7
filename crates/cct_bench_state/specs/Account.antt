-- What the records of a journal show of each address: what the carry of the earlier ones shows, and
-- what the others did there.
use Rattle.std.specs.Prelude.{ℕ, ◌+◌, ◌*◌, ◌^◌, ◌≤◌, ◌==◌, Bool, false, List, [], ◌∷◌, map, Option}
use Rattle.std.specs.Prelude.{Some, None}
use Rattle.std.specs.Prelude.{slice_index_or, slice_set}
use Rattle.std.specs.List.{position}
use Rattle.cct_model.specs.Carried.{empty_carry}
use Rattle.cct_model.specs.Carry.{epoch_held, order_held}
use Rattle.cct_model.specs.DeviceSet.{all_addresses}
use Rattle.cct_model.specs.Effect.{Owner, effect, of_address, of_order}
use Rattle.cct_model.specs.Job.{epoch_by}
use Rattle.cct_model.specs.Order.{order_by}
use Rattle.cct_model.specs.Sums.{coins_lost, coins_paid, coins_posted}
use Rattle.cct_model.specs.declared.judging.OpenOrder.{OpenOrder}
use Rattle.cct_model.specs.lines.carry.Carry.{Carry}
use Rattle.cct_model.specs.lines.record.Record.{Record}
use Rattle.cct_bench_state.specs.declared.account.Account.{Account}

-- What a carry shows of an address. No coin came there since.
abbrev pub account_in : Carry → ℕ → Account
account_in c addr =
    record {
      addr = addr;
      epoch = epoch_held addr c;
      order = order_held addr c;
      posted = 0;
      lost =
          0;
      paid = 0;
    }

-- What is reported of an address after one more of its records.
abbrev pub account_with : Record → Account → Account
account_with r a = record {
  addr = a.addr;
  epoch = epoch_by r a.epoch;
  order = order_by r a.order;
  posted = a.posted + coins_posted r;
  lost = a.lost + coins_lost r;
  paid = a.paid + coins_paid r;
}

-- The order with this id is the open one.
abbrev pub is_order : ℕ → Option OpenOrder → Bool
is_order id None = false
is_order id (Some o) = o.id == id

-- The order with this id is open at an address.
abbrev pub has_order : ℕ → Account → Bool
has_order id a = is_order id a.order

-- The place among all addresses that a record belongs to: that of its own address, or that where
-- the order is open which it closes, or none.
abbrev pub place_of : List Account → Record → Option ℕ
place_of accounts r = place_by (effect r).owned
  where
    place_by : Owner → Option ℕ
    place_by (of_address addr) = Some addr
    place_by (of_order id) = position (has_order id) accounts

-- What is reported of the address at a place, after one more of its records.
abbrev pub account_at : Record → List Account → ℕ → Account
account_at r accounts place =
    account_with r (slice_index_or accounts place (account_in empty_carry 0))

-- What is reported of all addresses after one more record, of a place or of none.
abbrev pub changed : Record → List Account → Option ℕ → List Account
changed r accounts None = accounts
changed r accounts (Some place) = slice_set accounts place (account_at r accounts place)

-- What is reported of all addresses, in rising order, by a carry and the records after it, newest
-- first.
abbrev pub accounts_after : Carry → List Record → List Account
accounts_after c [] = map (account_in c) all_addresses
accounts_after c (r ∷ before) =
    changed r (accounts_after c before) (place_of (accounts_after c before) r)

-- No sum of an address is above 2 ^ 32 times so many records.
pub record IsWithin (many : ℕ) (a : Account) : Type 0 where
  pub posted : a.posted ≤ 2 ^ 32 * many
  pub lost : a.lost ≤ 2 ^ 32 * many
  pub paid : a.paid ≤ 2 ^ 32 * many
