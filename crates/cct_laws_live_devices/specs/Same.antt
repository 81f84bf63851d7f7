-- A device does the same after either of two lists of what it met, whatever it then meets.
use Rattle.std.specs.Prelude.{◌≡◌, ℕ, List, Option, Some, None, ⊤}
use Rattle.cct_model.specs.Acceptor.{accepted_coins, events, settings}
use Rattle.cct_model.specs.Bill.{bill_events, bill_held, stacked_bills}
use Rattle.cct_model.specs.History.{Met}
use Rattle.cct_model.specs.Hopper.{Payout, dropped, enabled, falls, is_broken, is_tested, jammed_in}
use Rattle.cct_model.specs.Hopper.{paid_of, payout, payouts, unpaid_of}

-- What a hopper met since its last payout began comes to the same.
pub record SameSince (one other : List Met) : Type 0 where
  pub broken : is_broken one ≡ is_broken other
  pub fallen : falls one ≡ falls other
  pub paying : (count : ℕ) → paid_of count one ≡ paid_of count other
  pub owing : (count : ℕ) → unpaid_of count one ≡ unpaid_of count other
  pub jamming : (count : ℕ) → jammed_in count one ≡ jammed_in count other

-- So do two last payouts.
abbrev pub SamePayout : Option Payout → Option Payout → Type 0
SamePayout None None = ⊤
SamePayout (Some one) (Some other) = (one.count ≡ other.count) × SameSince one.since other.since
SamePayout one other = ⊥

-- All that a device does goes by this.
pub record Same (one other : List Met) : Type 0 where
  pub set : settings one ≡ settings other
  pub happened : events one ≡ events other
  pub took : accepted_coins one ≡ accepted_coins other
  pub on : enabled one ≡ enabled other
  pub pays : (own : ℕ) → SamePayout (payout own one) (payout own other)
  pub times : (own : ℕ) → payouts own one ≡ payouts own other
  pub tested : is_tested one ≡ is_tested other
  pub dropping : (own : ℕ) → dropped own one ≡ dropped own other
  pub holding : bill_held one ≡ bill_held other
  pub billed : bill_events one ≡ bill_events other
  pub stacks : stacked_bills one ≡ stacked_bills other
